use Rattle.std.proofs.Common.{arith, ◌<◌, length, sym, ◌∙◌}
use Rattle.pickle_meaning.specs.Values.{members_of}
use Rattle.value_store.specs.Refs.{value_shown}
use Rattle.value_text.specs.CharTexts.{chars_in}
use Rattle.value_text.proofs.ShowChars.{chars_count, kept_zero, kept_more, kept_all}
use Rattle.value_text.proofs.print.show.text.trimmed_len.Goals.{then-char_at-ne0, else-char_at-ne0}
use Rattle.value_text.proofs.print.show.text.trimmed_len.Goals as goal

pub loop-place-preserved : goal.loop-place-preserved
loop-place-preserved c =
    let bytes = chars_in (members_of (value_shown c.args.value)) in
    let lt : c.loop-place.place < length bytes = omega
    (arith, chars_count (members_of (value_shown c.args.value)), c.len-place-end.ensures, c.loop-place-test.true) in
    elim c.if-char_at-ne0.branch [
      | then-char_at-ne0 w ↦ rw w.end-is (record {
        kept = kept_more bytes c.loop-place.place lt (λ e. w.if-char_at-ne0.true (c.char_at.ensures ∙ e));
        most = omega arith;
      })
      | else-char_at-ne0 w ↦ rw w.end-is (record {
        kept = kept_zero bytes c.loop-place.end c.loop-place.place lt
            (sym c.char_at.ensures ∙ w.if-char_at-ne0.false) c.loop-place.invariant.kept;
        most = omega (arith, c.loop-place.invariant.most);
      })
    ]

pub returns-clause-text : goal.returns-clause-text
returns-clause-text c =
    let bytes = chars_in (members_of (value_shown c.args.value)) in
    kept_all bytes c.loop-place.end c.loop-place.place (omega
    (arith, chars_count (members_of (value_shown c.args.value)), c.len-place-end.ensures, c.loop-place-test.false))
    c.loop-place.invariant.kept
