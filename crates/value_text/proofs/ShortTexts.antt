-- A text that is laid out by its first bytes and its last, which may overlap.
use Rattle.std.proofs.Common.{◌≡◌, ℕ, ◌+◌, ◌-◌, ◌≤◌, List, ◌++◌, take, drop, length, sym, ◌∙◌, ap, subst, arith}
use Rattle.std.proofs.Math.Seq.{take-append-add}
use Rattle.std.proofs.lemmas.List.{append_assoc, take-append-drop, take-take, length-take-le}

pub ends_meet : (at n : ℕ) (old one two text : List ℕ) → at ≤ length old → n ≤ length text → length text ≤ n + n
    → take (at + n) one ≡ take at old ++ take n text
    → take (at + length text - n + n) two ≡ take (at + length text - n) one ++ drop (length text - n) text
    → take (at + length text) two ≡ take at old ++ text
ends_meet at n old one two text within least most first last =
    let m = length text - n in
    let place : at + length text - n ≡ at + m = omega (arith, least) in
    let before : length (take at old) ≡ at = length-take-le at old within in
    let front : take (at + m) one ≡ take at old ++ take m text =
    sym (take-take (at + m) (at + n) one (omega (arith, most)))
    ∙ ap (take (at + m)) first
    ∙ subst (λ k. take (k + m) (take at old ++ take n text) ≡ take at old ++ take m (take n text)) before
    (take-append-add (take at old) (take n text) m)
    ∙ ap (λ s. take at old ++ s) (take-take m n text (omega (arith, most))) in
    let end : at + length text ≡ at + length text - n + n = omega (arith, least) in
    ap (λ k. take k two) end
    ∙ last
    ∙ ap (λ k. take k one ++ drop m text) place
    ∙ ap (λ s. s ++ drop m text) front
    ∙ append_assoc (take at old) (take m text) (drop m text)
    ∙ ap (λ s. take at old ++ s) (take-append-drop m text)
