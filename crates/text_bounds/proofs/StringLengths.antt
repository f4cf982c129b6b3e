-- The longest printed strings.
use Rattle.std.proofs.Common.{ℕ, ◌+◌, ◌*◌, ◌≤◌, Bool, true, false, List, [], ◌∷◌, length, codes, arith, length-append}
use Rattle.std.proofs.Math.Nat.{mul-add}
use Rattle.std.specs.Prelude.{if◌then◌else◌, ◌==◌}
use Rattle.value_text.specs.ValueText.{spelled_byte, spelled, escape_text, is_plain, string_text}
use Rattle.value_text.specs.JsonText.{json_escape, json_string}

pub if_short : (b : Bool) (x y : List ℕ) (n : ℕ) → length x ≤ n → length y ≤ n → length (if b then x else y) ≤ n
if_short true x y n h g = h
if_short false x y n h g = g

escape_short : (byte : ℕ) → length (escape_text byte) ≤ 4
escape_short byte =
    if_short (byte == 92) _ _ 4 (omega arith)
    (if_short (byte == 34) _ _ 4 (omega arith)
    (if_short (byte == 10) _ _ 4 (omega arith)
    (if_short (byte == 9) _ _ 4 (omega arith) (omega arith))))

json_escape_short : (byte : ℕ) → length (json_escape byte) ≤ 6
json_escape_short byte =
    if_short (byte == 92) _ _ 6 (omega arith)
    (if_short (byte == 34) _ _ 6 (omega arith)
    (if_short (byte == 9) _ _ 6 (omega arith)
    (if_short (byte == 10) _ _ 6 (omega arith) (omega arith))))

spelled_short : (escape : ℕ → List ℕ) (n : ℕ) → 1 ≤ n → ((byte : ℕ) → length (escape byte) ≤ n) → (bytes : List ℕ) →
    length (spelled escape bytes) ≤ n * length bytes
spelled_short escape n some h [] = omega arith
spelled_short escape n some h (b ∷ bytes) =
    omega (
      arith,
      if_short (is_plain b) (b ∷ []) (escape b) n some (h b),
      spelled_short escape n some h bytes,
      mul-add n 1 (length bytes),
      length-append (spelled_byte escape b) (spelled escape bytes),
    )

pub string_short : (bytes : List ℕ) → length (string_text bytes) ≤ 2 + 4 * length bytes
unfolding string_text
string_short bytes = omega (
  arith,
  spelled_short escape_text 4 (omega arith) escape_short bytes,
  length-append (spelled escape_text bytes) (codes "\""),
)

pub json_string_short : (bytes : List ℕ) → length (json_string bytes) ≤ 2 + 6 * length bytes
unfolding json_string
json_string_short bytes = omega (
  arith,
  spelled_short json_escape 6 (omega arith) json_escape_short bytes,
  length-append (spelled json_escape bytes) (codes "\""),
)
