-- `search_all`: so far the starts are tried, and the search ends as it must.
use Rattle.std.proofs.Common.{◌∙◌, ◌*◌, length, refl, sym, ap, subst, arith}
use Rattle.bit_space.proofs.Failures.{keeps_all}
use Rattle.records.proofs.Nexts.{view_kept}
use Rattle.searches.specs.Rounds.{WritesTypes, no_memory, past_end, writes_all}
use Rattle.searches.proofs.Hunts.{first_length, hunt_done, hunt_ends, none_hunted}
use Rattle.searches.proofs.Reached.{still_on}
use Rattle.searches.proofs.Stocks.{new_serves}
use Rattle.searches.proofs.Together.{advance_hunted, advance_moves}
use Rattle.searches.proofs.types.search_all.Goals as goal

pub returns-then-reach-bits-clause-writes : goal.returns-then-reach-bits-clause-writes
returns-then-reach-bits-clause-writes g c =
    let first = g.S.Space.view c.args.space.now in
    let none = none_hunted c.args.hunt.now first c.first-reach.result _ (g.O.Write.contents c.args.out.now)
    c.first-reach.ensures refl in
    subst
    (λ ended. WritesTypes c.args.hunt.now first first (g.O.Write.contents c.args.out.now)
    (g.O.Write.contents c.args.out.now) c.first-reach.result ended)
    (sym c.fault_at-outcome.ensures)
    (writes_all none.rounds (past_end (omega (arith, c.if-reach-bits.true, c.len-bits.ensures))) none.appends)

pub returns-in_default-clause-writes : goal.returns-in_default-clause-writes
returns-in_default-clause-writes g c =
    let none = none_hunted c.args.hunt.now (g.S.Space.view c.args.space.now) c.first-reach.result _
    (g.O.Write.contents c.args.out.now) c.first-reach.ensures refl in
    writes_all none.rounds no_memory none.appends

pub loop-stock-init : goal.loop-stock-init
loop-stock-init g c = record {
  keeps = view_kept _;
  ready = record {
    store = c.in-Ok.ensures.store;
    sieves = c.in-Ok.ensures.sieves (g.S.Space.view c.args.space.now);
    places = ap length c.in-Ok.ensures.places ∙ first_length _;
    findings = new_serves _ _ c.in-Ok.ensures.findings;
  };
  inside = omega (arith, c.if-reach-bits.false);
  hunted = none_hunted c.args.hunt.now (g.S.Space.view c.args.space.now) c.first-reach.result _
      (g.O.Write.contents c.args.out.now) c.first-reach.ensures c.in-Ok.ensures.places;
}

pub loop-stock-smaller : goal.loop-stock-smaller
loop-stock-smaller g c =
    let so_far = c.loop-stock.invariant in
    let next = c.in-Ok-advance.ensures.ok (g.S.Space.view c.args.space.now) so_far.keeps in
    let inside = still_on c.args.hunt.now.search c.loop-stock.reach (8 * c.len-bits.result)
    (sym c.goes_on.ensures ∙ c.loop-stock-test.true) in
    let moves = (advance_moves c.args.hunt.now (g.S.Space.view c.args.space.now) c.loop-stock.reach
    c.in-Ok-advance.next _ _ _ _ c.requires.step next).0 in
    omega (arith, inside, moves)

pub loop-stock-preserved : goal.loop-stock-preserved
loop-stock-preserved g c =
    let first = g.S.Space.view c.args.space.now in
    let so_far = c.loop-stock.invariant in
    let next = c.in-Ok-advance.ensures.ok first so_far.keeps in
    let ends = (advance_moves c.args.hunt.now first c.loop-stock.reach c.in-Ok-advance.next _ _ _ _ c.requires.step
    next).1 in
    record {
      keeps = keeps_all so_far.keeps c.advance.ensures.keeps;
      ready = c.advance.ensures.ready;
      inside = omega (arith, ends, c.len-bits.ensures);
      hunted = advance_hunted c.args.hunt.now first c.loop-stock.reach c.in-Ok-advance.next _ _ _ _ _ so_far.hunted
          next;
    }

pub returns-in-Err-clause-writes : goal.returns-in-Err-clause-writes
returns-in-Err-clause-writes g c =
    let first = g.S.Space.view c.args.space.now in
    let so_far = c.loop-stock.invariant in
    hunt_ends c.args.hunt.now first _ c.loop-stock.reach _ _ _ _ _ so_far.hunted
    (c.in-Err.ensures.err first so_far.keeps)

pub returns-clause-writes : goal.returns-clause-writes
returns-clause-writes g c =
    let first = g.S.Space.view c.args.space.now in
    hunt_done c.args.hunt.now first _ c.loop-stock.reach _ (8 * c.len-bits.result) _ _ _
    (ap (λ len. 8 * len) c.len-bits.ensures) c.loop-stock.invariant.inside
    (sym c.goes_on.ensures ∙ c.loop-stock-test.false) c.natural_end-outcome.ensures
    c.loop-stock.invariant.hunted
