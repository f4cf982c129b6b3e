use Rattle.std.proofs.Common.{◌≡◌, ◌+◌, ◌∙◌, true, false, drop, sym, ap, suc, add-one, arith}
use Rattle.std.specs.Prelude.{is_some}
use Rattle.std.proofs.lemmas.List.{take_rest}
use Rattle.pickle_heads.specs.Texts.{after}
use Rattle.pickle_heads.specs.Heads.{mark_place}
use Rattle.pickle_heads.proofs.Marks.{mark, mark_here, mark_later, copied_is_some}
use Rattle.pickle_heads.proofs.head.mark_place.Goals as goal

pub returns-then-is_some-clause-place : goal.returns-then-is_some-clause-place
returns-then-is_some-clause-place c =
    let text = c.args.text.now in
    let at = c.loop-place.place in
    let e : is_some (after mark (drop at text)) ≡ true =
    ap (λ s. is_some (after mark s)) (sym (take_rest text at)) ∙ ap is_some (sym c.after.ensures)
    ∙ copied_is_some c.after.result ∙ sym c.is_some.ensures ∙ c.if-is_some.true in
    let zero : mark_place (drop at text) ≡ 0 = mark_here text at c.loop-place-test.true e in
    let so : mark_place text ≡ at + mark_place (drop at text) = c.loop-place.invariant in
    omega arith

pub loop-place-preserved : goal.loop-place-preserved
loop-place-preserved c =
    let text = c.args.text.now in
    let at = c.loop-place.place in
    let e : is_some (after mark (drop at text)) ≡ false =
    ap (λ s. is_some (after mark s)) (sym (take_rest text at)) ∙ ap is_some (sym c.after.ensures)
    ∙ copied_is_some c.after.result ∙ sym c.is_some.ensures ∙ c.if-is_some.false in
    let more : mark_place (drop at text) ≡ 1 + mark_place (drop (suc at) text) =
    mark_later text at c.loop-place-test.true e in
    let so : mark_place text ≡ at + mark_place (drop at text) = c.loop-place.invariant in
    let next : mark_place (drop (suc at) text) ≡ mark_place (drop (at + 1) text) =
    ap (λ n. mark_place (drop n text)) (sym (add-one at)) in
    omega arith
