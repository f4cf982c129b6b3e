-- `type_stretch`: what is known of the type is that of its place in the list.
use Rattle.std.proofs.Common.{◌≡◌, ◌∙◌, ◌<◌, ℕ, length, slice_index, slice_index_or, sym, subst, arith}
use Rattle.std.proofs.lemmas.List.{get_or_default}
use Rattle.first_numbers.specs.declared.sieve.Sieve.{Sieve}
use Rattle.searches.proofs.Sieves.{set_sieve}
use Rattle.searches.proofs.Together.{nth_passes}
use Rattle.searches.specs.Round.{IsSieveOf}
use Rattle.searches.proofs.stretches.type_stretch.Goals as goal

pub own_stretch-requires-clause-sieve : goal.own_stretch-requires-clause-sieve
own_stretch-requires-clause-sieve g c =
    let sought = slice_index_or c.args.hunt.now.list.now c.args.k c.index-hunt-k.result in
    subst (λ (sieve : Sieve). IsSieveOf sought (g.S.Space.view c.args.space.now) sieve)
    (sym c.index_mut-sieve.ensures.value)
    (c.requires.ready.sieves.each c.args.k c.index-hunt-k.result c.index_mut-sieve.result.now c.requires.inside)

pub returns-clause-ready : goal.returns-clause-ready
returns-clause-ready g c = record {
  store = c.requires.ready.store;
  sieves = set_sieve _ _ c.args.k _ _ c.own_stretch.ensures.keeps c.requires.ready.sieves c.requires.inside
      c.own_stretch.ensures.sieve;
  places = c.requires.ready.places;
  findings = c.requires.ready.findings;
}

pub returns-clause-passes : goal.returns-clause-passes
returns-clause-passes g c =
    let items = c.args.stock.now.places.items in
    let within : c.args.k < length items = omega (arith, c.requires.inside, c.requires.ready.places) in
    let same : slice_index items c.args.k ≡ c.index-place.result.now =
    get_or_default items c.args.k 0 c.index-place.result.now within ∙ sym c.index-place.ensures in
    nth_passes c.args.hunt.now (g.S.Space.view c.args.space.now) c.args.at items c.args.k _
    (slice_index_or c.args.hunt.now.list.now c.args.k c.index-hunt-k.result) c.own_stretch.result
    (record {
      inside = c.requires.inside;
      is = get_or_default c.args.hunt.now.list.now c.args.k _ _ c.requires.inside;
    }) same c.own_stretch.ensures.passes
