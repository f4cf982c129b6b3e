use Rattle.std.proofs.Common.{◌≡◌, ◌∙◌, ◌+◌, ◌<◌, [], ◌∷◌, ◌++◌, length, take, get_or, sym, ap, arith}
use Rattle.std.proofs.lemmas.List.{take_more, take_all}
use Rattle.pickle_meaning.specs.Values.{members_of, member_count}
use Rattle.value_store.specs.Owners.{owner_of}
use Rattle.value_store.specs.Refs.{value_shown}
use Rattle.value_text.specs.CharTexts.{chars_in, trimmed}
use Rattle.value_text.proofs.CharTexts.{chars_count, trimmed_zero, trimmed_some}
use Rattle.csv_text.proofs.chars.trimmed_len.Goals.{then-char_at-ne0, else-char_at-ne0}
use Rattle.csv_text.proofs.chars.trimmed_len.Goals as goal

pub loop-place-preserved : goal.loop-place-preserved
loop-place-preserved c =
    let all = members_of (value_shown (owner_of c.args.elements)) in
    let bytes = chars_in all in
    let i = c.loop-place.place in
    let below : i < member_count all = omega (arith, c.len-place-end.ensures, c.loop-place-test.true) in
    let lt : i < length bytes = omega (arith, below, chars_count all) in
    let byte : c.char_at.result ≡ get_or bytes i 0 = c.char_at.ensures in
    let more : take (i + 1) bytes ≡ take i bytes ++ get_or bytes i 0 ∷ [] = take_more bytes i 0 lt in
    elim c.if-char_at-ne0.branch [
      | then-char_at-ne0 w ↦ rw w.end-is (record {
        within = omega arith;
        most = omega (arith, below);
        text = more ∙ sym (trimmed_some (take i bytes) (get_or bytes i 0) (λ e. w.if-char_at-ne0.true (byte ∙ e)))
            ∙ ap trimmed (sym more);
      })
      | else-char_at-ne0 w ↦ rw w.end-is (record {
        within = omega (arith, c.loop-place.invariant.within);
        most = omega (arith, below);
        text = c.loop-place.invariant.text
            ∙ sym (trimmed_zero (take i bytes) (get_or bytes i 0) (sym byte ∙ w.if-char_at-ne0.false))
            ∙ ap trimmed (sym more);
      })
    ]

pub returns-clause-text : goal.returns-clause-text
returns-clause-text c =
    let all = members_of (value_shown (owner_of c.args.elements)) in
    c.loop-place.invariant.text
    ∙ ap trimmed (take_all c.loop-place.place (chars_in all)
    (omega (arith, chars_count all, c.len-place-end.ensures, c.loop-place-test.false)))
