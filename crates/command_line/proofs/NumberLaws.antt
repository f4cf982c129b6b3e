-- Laws of numbers as arguments.
use Rattle.std.proofs.Common.{◌≡◌, ◌≢◌, ℕ, suc, zero, ◌<◌, ◌≤◌, List, [], ◌∷◌, sym, ◌∙◌, subst, inl, inr, arith}
use Rattle.std.specs.Str.{IsUtf8, IsAscii}
use Rattle.std.specs.Str.Parse.{IsNumeral, AllDigits}
use Rattle.std.specs.Char.{digit_value}
use Rattle.std.proofs.str.Classes.{has_value}
use Rattle.std.proofs.lemmas.Str.{IsUtf8-from_ascii}
use Rattle.std.proofs.lemmas.Str.Parse.{digit_from_value}
use Rattle.command_line.specs.Numerals.{IsCount, IsByteCount}
use Rattle.command_line.specs.Starts.{NamesByte}
use Rattle.command_line.specs.declared.start.Start.{Start}
use Rattle.command_line.specs.declared.start.Start.TheVariants.{Bit, BytesFromEnd}

ascii_digit : (radix c : ℕ) → radix ≤ 36 → digit_value c < radix → c < 128
ascii_digit radix c most h = let k = has_value c radix most h in omega arith

ascii_digits : (radix : ℕ) (ds : List ℕ) → radix ≤ 36 → AllDigits radix ds → IsAscii ds
ascii_digits radix [] most h i = omega arith
ascii_digits radix (c ∷ cs) most h zero = ascii_digit radix c most h.0
ascii_digits radix (c ∷ cs) most h (suc i) = ascii_digits radix cs most h.1 i

-- digits are text
pub numeral_is_text : (radix : ℕ) (ds : List ℕ) → radix ≤ 36 → IsNumeral radix ds → IsUtf8 ds
numeral_is_text radix ds most h = IsUtf8-from_ascii ds (ascii_digits radix ds most h.1)

tail_of : (a b : ℕ) (xs ys : List ℕ) → a ∷ xs ≡ b ∷ ys → xs ≡ ys
tail_of a b xs ys e = cc

head_of : (a b : ℕ) (xs ys : List ℕ) → a ∷ xs ≡ b ∷ ys → a ≡ b
head_of a b xs ys e = cc

-- a `-` begins no number
minus_first : (word count : List ℕ) (number : ℕ) → word ≡ 45 ∷ count → IsCount word number → ⊥
minus_first word count number e h = elim h [
  | inl x ↦
      let all : AllDigits 10 (45 ∷ count) = subst (AllDigits 10) e x.0.1 in
      let digit = digit_from_value 45 all.0 in omega arith
  | inr x ↦ let first : ◌≡◌ {A = ℕ} 45 48 = head_of 45 48 count (120 ∷ x.0) (sym e ∙ x.1) in omega arith
]

-- after a `-` there is no number of bytes
pub no_place_back : (word count : List ℕ) → word ≡ 45 ∷ count → ((bytes : ℕ) → ¬ (IsByteCount count bytes))
    → (start : Start) → ¬ (NamesByte word start)
no_place_back word count begins none (Bit bit) h = minus_first word count h.0 begins h.2.0
no_place_back word count begins none (BytesFromEnd bytes) h =
    none bytes (subst (λ c. IsByteCount c bytes) (tail_of 45 45 h.0 count (sym h.1 ∙ begins)) h.2)

-- it begins with no `-`, and is no number of bytes
pub no_place : (word : List ℕ) → ((count : List ℕ) → word ≢ 45 ∷ count) → ((bytes : ℕ) → ¬ (IsByteCount word bytes))
    → (start : Start) → ¬ (NamesByte word start)
no_place word begins none (Bit bit) h = none h.0 h.2
no_place word begins none (BytesFromEnd bytes) h = begins h.0 h.1
