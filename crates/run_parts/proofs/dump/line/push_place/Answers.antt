use Rattle.std.proofs.Common.{rules, arith, ◌≡◌, ◌∙◌, ◌-◌, ◌*◌, ◌/◌, ◌^◌, ◌++◌, ◌∷◌, [], ap, sym, List, ℕ, take}
use Rattle.std.specs.Prelude.{bit_and}
use Rattle.std.proofs.lemmas.List.{append-nil, append_assoc}
use Rattle.text_output.specs.HexDigits.{hex_digit}
use Rattle.run_parts.proofs.DumpLines.{hex_digits, no_digit, digit_more, place_is, all_digits}
use Rattle.run_parts.proofs.dump.line.push_place.Goals as goal

pub loop-i-init : goal.loop-i-init
loop-i-init c =
    let before = take c.args.start c.args.line.now in
    (sym (append-nil before) ∙ ap (λ (s : List ℕ). before ++ s) (no_digit _), omega arith)

pub loop-i-preserved : goal.loop-i-preserved
loop-i-preserved c =
    let count = c.digit_count-count.result in
    let before = take c.args.start c.args.line.now in
    let digit : c.hex_digit.result ≡ hex_digit (bit_and (c.args.place / 2 ^ (4 * (count - 1 - c.loop-i.i))) 15) =
    search rules in (
      c.push-at.ensures.text
          ∙ ap (λ (s : List ℕ). s ++ c.hex_digit.result ∷ []) c.loop-i.invariant.0
          ∙ append_assoc before _ (c.hex_digit.result ∷ [])
          ∙ ap (λ (s : List ℕ). before ++ s)
          (ap (λ d. hex_digits c.loop-i.i (c.args.place / 2 ^ (4 * (count - c.loop-i.i))) ++ d ∷ []) digit
          ∙ sym (digit_more c.args.place count c.loop-i.i (omega arith))),
      omega arith,
    )

pub returns-clause-text : goal.returns-clause-text
returns-clause-text c =
    let e = c.digit_count-count.ensures in
    c.loop-i.invariant.0 ∙ ap (λ (s : List ℕ). take c.args.start c.args.line.now ++ s) (all_digits c.args.place
    c.digit_count-count.result c.loop-i.i (omega arith) ∙ place_is _ c.args.place e.least e.fits e.needed)
