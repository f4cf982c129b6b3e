-- `try_due`: the type is tried if it is due, and its line gathered.
use Rattle.std.proofs.Common.{◌≡◌, ◌∙◌, ◌<◌, ℕ, true, false, length, sym, subst, slice_index, slice_index_or, append-nil, List, [], arith}
use Rattle.std.proofs.lemmas.List.{get_or_default}
use Rattle.std.proofs.lemmas.Result.{err_from_is_err_and}
use Rattle.first_numbers.specs.declared.sieve.Sieve.{Sieve}
use Rattle.pickle_map.specs.Findings.{AreFound}
use Rattle.pickle_map.specs.declared.mapper.findings.Findings.{Findings}
use Rattle.pickle_types.specs.TypeTable.{nodes_of}
use Rattle.searches.proofs.Sieves.{set_sieve}
use Rattle.searches.proofs.Stocks.{set_serves}
use Rattle.searches.specs.Round.{IsSieveOf}
use Rattle.searches.specs.Rounds.{TriesNext, due, found_text, lacks_memory, not_due, stops}
use Rattle.searches.specs.Sought.{is_due}
use Rattle.searches.proofs.round.try_due.Goals as goal

pub try_type-requires-clause-found : goal.try_type-requires-clause-found
try_type-requires-clause-found g c =
    let sought = slice_index_or c.args.hunt.now.list.now c.args.k c.index-hunt-k.result in
    subst (λ (found : Findings). AreFound (nodes_of sought.table.now) found)
    (sym c.index_mut-findings.ensures.value)
    (c.requires.ready.findings.each c.args.k c.index-hunt-k.result c.index_mut-findings.result.now c.requires.inside)

pub try_type-requires-clause-sieve : goal.try_type-requires-clause-sieve
try_type-requires-clause-sieve g c =
    let sought = slice_index_or c.args.hunt.now.list.now c.args.k c.index-hunt-k.result in
    subst (λ (sieve : Sieve). IsSieveOf sought (g.S.Space.view c.args.space.now) sieve)
    (sym c.index_mut-sieve.ensures.value)
    (c.requires.ready.sieves.each c.args.k c.index-hunt-k.result c.index_mut-sieve.result.now c.requires.inside)

pub returns-in_err-tried-clause-ready : goal.returns-in_err-tried-clause-ready
returns-in_err-tried-clause-ready g c = record {
  store = c.try_type.ensures.ready;
  sieves = set_sieve _ _ c.args.k _ _ c.try_type.ensures.keeps c.requires.ready.sieves c.requires.inside
      c.try_type.ensures.sieve;
  places = c.requires.ready.places;
  findings = set_serves _ _ c.args.k _ _ c.requires.ready.findings c.requires.inside c.try_type.ensures.found;
}

pub returns-in-Ok-clause-ready : goal.returns-in-Ok-clause-ready
returns-in-Ok-clause-ready g c = record {
  store = c.try_type.ensures.ready;
  sieves = set_sieve _ _ c.args.k _ _ c.try_type.ensures.keeps c.requires.ready.sieves c.requires.inside
      c.try_type.ensures.sieve;
  places = c.set_place.ensures.len ∙ c.requires.ready.places;
  findings = set_serves _ _ c.args.k _ _ c.requires.ready.findings c.requires.inside c.try_type.ensures.found;
}

pub returns-in-Err-clause-ready : goal.returns-in-Err-clause-ready
returns-in-Err-clause-ready g c = record {
  store = c.try_type.ensures.ready;
  sieves = set_sieve _ _ c.args.k _ _ c.try_type.ensures.keeps c.requires.ready.sieves c.requires.inside
      c.try_type.ensures.sieve;
  places = c.set_place.ensures.len ∙ c.requires.ready.places;
  findings = set_serves _ _ c.args.k _ _ c.requires.ready.findings c.requires.inside c.try_type.ensures.found;
}

pub returns-then-not-is_due-clause-ok : goal.returns-then-not-is_due-clause-ok
returns-then-not-is_due-clause-ok g c = λ first since.
    let items = c.args.stock.now.places.items in
    let within : c.args.k < length items = omega (arith, c.requires.inside, c.requires.ready.places) in
    let same : slice_index items c.args.k ≡ c.index.result.now =
    get_or_default items c.args.k 0 c.index.result.now within ∙ sym c.index.ensures in
    record {
      more = [];
      tries = not_due (subst (λ (place : ℕ). is_due c.args.hunt.now.search c.args.at place ≡ false) (sym same)
          (sym c.is_due.ensures ∙ c.if-not-is_due.true));
      adds = sym (append-nil c.args.stock.now.text.items);
    }

pub returns-in_err-tried-clause-err : goal.returns-in_err-tried-clause-err
returns-in_err-tried-clause-err g c = λ first since.
    let items = c.args.stock.now.places.items in
    let within : c.args.k < length items = omega (arith, c.requires.inside, c.requires.ready.places) in
    let same : slice_index items c.args.k ≡ c.index.result.now =
    get_or_default items c.args.k 0 c.index.result.now within ∙ sym c.index.ensures in
    let p = err_from_is_err_and c.from_residual.result c.from_residual.ensures.1 in
    rw (p.1, p.2)
    (stops (subst (λ (place : ℕ). is_due c.args.hunt.now.search c.args.at place ≡ true) (sym same)
    (sym c.is_due.ensures ∙ c.if-not-is_due.false))
    (record {
      inside = c.requires.inside;
      is = get_or_default c.args.hunt.now.list.now c.args.k _ _ c.requires.inside;
    })
    (c.in_err-tried.ensures.err first since))

pub returns-in-Ok-clause-ok : goal.returns-in-Ok-clause-ok
returns-in-Ok-clause-ok g c = λ first since.
    let items = c.args.stock.now.places.items in
    let within : c.args.k < length items = omega (arith, c.requires.inside, c.requires.ready.places) in
    let same : slice_index items c.args.k ≡ c.index.result.now =
    get_or_default items c.args.k 0 c.index.result.now within ∙ sym c.index.ensures in
    let sought = slice_index_or c.args.hunt.now.list.now c.args.k c.index-hunt-k.result in
    let more = found_text c.args.hunt.now.ask.now.mode sought c.args.at.place c.in_ok-tried.tried.end in
    record {
      more = more;
      tries = subst (λ (after : List ℕ). TriesNext c.args.hunt.now first c.args.k c.args.at items
          c.in_ok-tried.tried.reach after more) (sym c.set_place.ensures.is)
          (due (subst (λ (place : ℕ). is_due c.args.hunt.now.search c.args.at place ≡ true) (sym same)
          (sym c.is_due.ensures ∙ c.if-not-is_due.false))
          (record {
            inside = c.requires.inside;
            is = get_or_default c.args.hunt.now.list.now c.args.k _ _ c.requires.inside;
          })
          (c.in_ok-tried.ensures.ok first since));
      adds = c.in-Ok.ensures;
    }

pub returns-in-Err-clause-err : goal.returns-in-Err-clause-err
returns-in-Err-clause-err g c = λ first since. lacks_memory
