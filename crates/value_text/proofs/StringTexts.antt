-- Laws of the texts of strings.
use Rattle.std.proofs.Common.{◌≡◌, ℕ, suc, true, ◌+◌, ◌-◌, ◌<◌, ◌≤◌, List, [], ◌∷◌, ◌++◌, take, drop, length, refl, sym, ◌∙◌, ap, arith, inl, inr}
use Rattle.std.specs.Prelude.{slice_index, codes}
use Rattle.std.specs.List.{list_all, prefix_len, slice_range}
use Rattle.std.proofs.lemmas.Bool.{cases_Bool, false≢true}
use Rattle.std.proofs.lemmas.List.{append_assoc, take-append-drop, drop-drop, length-take, length-drop}
use Rattle.std.proofs.lemmas.List.Folds.{drop_split}
use Rattle.value_text.specs.declared.print.escape.Escapes.{Escapes}
use Rattle.value_text.specs.declared.print.escape.Escapes.TheVariants.{Poke, Json}
use Rattle.value_text.specs.ValueText.{spelled, spelled_byte, is_plain, string_text}
use Rattle.value_text.specs.JsonText.{json_string}
use Rattle.value_text.specs.Escaped.{spelled_by, quoted_by}

one_more : (n : ℕ) → 1 + n ≡ suc n
one_more n = omega arith

pub bytes_append : (escape : ℕ → List ℕ) (xs ys : List ℕ) →
    spelled escape (xs ++ ys) ≡ spelled escape xs ++ spelled escape ys
bytes_append escape [] ys = refl
bytes_append escape (x ∷ xs) ys = ap (λ s. spelled_byte escape x ++ s) (bytes_append escape xs ys)
    ∙ sym (append_assoc (spelled_byte escape x) (spelled escape xs) (spelled escape ys))

pub bytes_split : (escape : ℕ → List ℕ) (n : ℕ) (bytes : List ℕ) →
    spelled escape bytes ≡ spelled escape (take n bytes) ++ spelled escape (drop n bytes)
bytes_split escape n bytes =
    ap (spelled escape) (sym (take-append-drop n bytes)) ∙ bytes_append escape (take n bytes) (drop n bytes)

-- the plain bytes that come first are printed as themselves
pub plain_text : (escape : ℕ → List ℕ) (bytes : List ℕ) →
    spelled escape (take (prefix_len is_plain bytes) bytes) ≡ take (prefix_len is_plain bytes) bytes
plain_text escape [] = refl
plain_text escape (b ∷ bytes) = elim (cases_Bool (is_plain b)) [
  | inl hit ↦ rw (hit, one_more (prefix_len is_plain bytes), hit) (ap (λ s. b ∷ s) (plain_text escape bytes))
  | inr miss ↦ rw miss refl
]

pub plain_then : (escape : ℕ → List ℕ) (bytes : List ℕ) → spelled escape bytes
    ≡ take (prefix_len is_plain bytes) bytes ++ spelled escape (drop (prefix_len is_plain bytes) bytes)
plain_then escape bytes = bytes_split escape (prefix_len is_plain bytes) bytes
    ∙ ap (λ s. s ++ spelled escape (drop (prefix_len is_plain bytes) bytes)) (plain_text escape bytes)

-- plain bytes before others
plain_before : (xs ys : List ℕ) → list_all is_plain xs ≡ true →
    prefix_len is_plain (xs ++ ys) ≡ length xs + prefix_len is_plain ys
plain_before [] ys e = omega arith
plain_before (x ∷ xs) ys e = elim (cases_Bool (is_plain x)) [
  | inl hit ↦ rw hit (omega (arith, plain_before xs ys (rw hit at e)))
  | inr miss ↦ absurd (false≢true (rw miss at e))
]

-- a plain block more
pub plain_block : (bytes : List ℕ) (n m : ℕ) → n + m ≤ length bytes
    → prefix_len is_plain bytes ≡ n + prefix_len is_plain (drop n bytes)
    → list_all is_plain (slice_range bytes n (n + m)) ≡ true
    → prefix_len is_plain bytes ≡ n + m + prefix_len is_plain (drop (n + m) bytes)
plain_block bytes n m le so_far e =
    let size : length (slice_range bytes n (n + m)) ≡ m =
    omega (arith, length-take (n + m - n) (drop n bytes), length-drop n bytes, le) in
    let more = ap (prefix_len is_plain) (drop_split bytes n (n + m) (omega arith))
    ∙ plain_before (slice_range bytes n (n + m)) (drop (n + m) bytes) e in
    omega (arith, so_far, more, size)

-- a first byte that isn't plain
pub escape_then : (escape : ℕ → List ℕ) (bytes : List ℕ) → prefix_len is_plain bytes ≡ 0 → 0 < length bytes →
    spelled escape bytes ≡ escape (slice_index bytes 0) ++ spelled escape (drop 1 bytes)
escape_then escape [] e lt = absurd (omega (arith, lt))
escape_then escape (b ∷ bytes) e lt = elim (cases_Bool (is_plain b)) [
  | inl hit ↦ absurd (omega (arith, rw hit at e))
  | inr miss ↦ rw miss refl
]

-- what is left after some first bytes of what was left
pub bytes_next : (escape : ℕ → List ℕ) (k n : ℕ) (bytes : List ℕ) →
    spelled escape (drop k bytes) ≡ spelled escape (take n (drop k bytes)) ++ spelled escape (drop (k + n) bytes)
bytes_next escape k n bytes = bytes_split escape n (drop k bytes)
    ∙ ap (λ s. spelled escape (take n (drop k bytes)) ++ spelled escape s) (drop-drop n k bytes)

-- a string in double quotes, by the language of its escapes
pub quotes_are : (escapes : Escapes) (bytes : List ℕ) →
    codes "\"" ++ (spelled_by escapes bytes ++ codes "\"") ≡ quoted_by escapes bytes
unfolding string_text json_string
quotes_are Poke bytes = refl
quotes_are Json bytes = refl
