-- `pass_next`: the type isn't due, or its signature has no value.
use Rattle.std.proofs.Common.{◌≡◌, ◌∙◌, ◌<◌, [], true, false, length, append-nil, slice_index, slice_index_or, sym, subst, arith}
use Rattle.std.proofs.lemmas.List.{get_or_default}
use Rattle.first_numbers.specs.declared.sieve.Sieve.{Sieve}
use Rattle.searches.proofs.Probes.{goes_known}
use Rattle.searches.specs.Round.{IsSieveOf}
use Rattle.searches.specs.Rounds.{not_due}
use Rattle.searches.specs.Sought.{is_due}
use Rattle.searches.proofs.round.pass_next.Goals as goal

pub returns-then-not-is_due : goal.returns-then-not-is_due
returns-then-not-is_due c = λ first before text since whole sieves.
    let items = c.args.stock.now.places.items in
    let within : c.args.k < length items = omega (arith, c.requires.inside, c.requires.places) in
    let same : slice_index items c.args.k ≡ c.index.result.now =
    get_or_default items c.args.k 0 c.index.result.now within ∙ sym c.index.ensures in
    record {
      more = [];
      tries = not_due (subst (λ place. is_due c.args.hunt.now.search c.args.at place ≡ false) (sym same)
          (sym c.is_due.ensures ∙ c.if-not-is_due.true));
      adds = sym (append-nil text);
    }

pub returns : goal.returns
returns c = λ first before text since whole sieves.
    let items = c.args.stock.now.places.items in
    let within : c.args.k < length items = omega (arith, c.requires.inside, c.requires.places) in
    let same : slice_index items c.args.k ≡ c.index.result.now =
    get_or_default items c.args.k 0 c.index.result.now within ∙ sym c.index.ensures in
    let sought = slice_index_or c.args.hunt.now.list.now c.args.k c.index-hunt-k.result in
    goes_known c.args.hunt.now first before c.args.k c.args.at items text sought c.in_ok-stopped.stopped
    c.past_stop.result
    (subst (λ place. is_due c.args.hunt.now.search c.args.at place ≡ true) (sym same)
    (sym c.is_due.ensures ∙ c.if-not-is_due.false))
    (record {
      inside = c.requires.inside;
      is = get_or_default c.args.hunt.now.list.now c.args.k _ _ c.requires.inside;
    })
    (c.in_ok-stopped.ensures.missed first before since whole
    (subst (λ (sieve : Sieve). IsSieveOf sought before sieve) (sym c.index-2.ensures)
    (sieves.each c.args.k c.index-hunt-k.result c.index-2.result.now c.requires.inside)))
    c.past_stop.ensures
