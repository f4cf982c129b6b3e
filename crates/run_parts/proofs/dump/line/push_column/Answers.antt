use Rattle.std.proofs.Common.{rules, arith, ◌≡◌, ◌∙◌, ◌/◌, ◌%◌, ◌++◌, ◌∷◌, [], ap, List, ℕ, get_or, take}
use Rattle.std.proofs.lemmas.Nat.{and_mask}
use Rattle.std.proofs.lemmas.Option.{slice_get-get_or, slice_get_past}
use Rattle.text_output.specs.HexDigits.{hex_digit}
use Rattle.run_parts.proofs.DumpLines.{column_some, column_none}
use Rattle.run_parts.proofs.dump.line.push_column.Goals as goal

pub returns-then-i-bytes-clause-text : goal.returns-then-i-bytes-clause-text
returns-then-i-bytes-clause-text c =
    let byte = slice_get-get_or c.args.bytes.now c.args.i 0 (omega arith) in
    let high : c.hex_digit.result ≡ hex_digit (get_or c.args.bytes.now c.args.i 0 / 16) = search rules in
    let low : c.hex_digit-then-i-bytes.result ≡ hex_digit (get_or c.args.bytes.now c.args.i 0 % 16) =
    c.hex_digit-then-i-bytes.ensures ∙ ap hex_digit (and_mask _ 4) in
    c.push.ensures.text
    ∙ ap (λ (s : List ℕ). s ++ c.hex_digit-then-i-bytes.result ∷ [])
    (c.push-at.ensures.text ∙ ap (λ (s : List ℕ). s ++ c.hex_digit.result ∷ []) c.push_gap-at.ensures.text)
    ∙ column_some (take c.args.at c.args.line.now) c.args.bytes.now c.args.i _ _ _ byte high low

pub returns-else-i-bytes-clause-text : goal.returns-else-i-bytes-clause-text
returns-else-i-bytes-clause-text c =
    let none = slice_get_past c.args.bytes.now c.args.i (omega arith) in
    c.push-else-i-bytes.ensures.text
    ∙ ap (λ (s : List ℕ). s ++ 32 ∷ [])
    (c.push-at-else-i-bytes.ensures.text ∙ ap (λ (s : List ℕ). s ++ 32 ∷ []) c.push_gap-at.ensures.text)
    ∙ column_none (take c.args.at c.args.line.now) c.args.bytes.now c.args.i none
