-- `pass_starts`: each start of the stretch finds nothing.
use Rattle.std.proofs.Common.{◌*◌, ap, arith}
use Rattle.searches.proofs.Reached.{still_on}
use Rattle.searches.proofs.Together.{list_passed}
use Rattle.searches.specs.Stretches.{none_passed}
use Rattle.searches.proofs.stretches.pass_starts.Goals as goal

pub past_stretch-requires-clause-inside : goal.past_stretch-requires-clause-inside
past_stretch-requires-clause-inside g c =
    let inside = still_on c.args.hunt.now.search c.args.at _ c.requires.on in
    omega (arith, inside, c.len-bits.ensures)

pub returns-in-Some-clause-passes : goal.returns-in-Some-clause-passes
returns-in-Some-clause-passes g c = λ first since.
    let inside = still_on c.args.hunt.now.search c.args.at _ c.requires.on in
    list_passed c.args.hunt.now first (g.S.Space.view c.args.space.now) since (g.met.S.Space.whole c.args.space.now)
    c.args.at c.past_stretch.result c.args.stock.now.places.items c.in-Some.stretch (8 * c.len-bits.result)
    (ap (λ len. 8 * len) c.len-bits.ensures) c.in-Some.ensures.passes (omega (arith, inside, c.len-bits.ensures))
    c.requires.on c.past_stretch.ensures

pub returns-in-None-clause-passes : goal.returns-in-None-clause-passes
returns-in-None-clause-passes g c = λ first since. none_passed
