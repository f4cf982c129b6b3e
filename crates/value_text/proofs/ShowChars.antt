-- Laws of arrays of characters as texts.
use Rattle.std.proofs.Common.{◌≡◌, ◌≢◌, ℕ, zero, suc, add-one, ◌+◌, ◌<◌, ◌≤◌, List, [], ◌∷◌, ◌++◌, false, get_or, take, drop, length, refl, sym, ◌∙◌, ap, arith, drop-cons}
use Rattle.std.specs.Prelude.{◌==◌}
use Rattle.pickle_meaning.specs.Values.{Members, NoMembers, MemberThen, AbsentThen, member_count, member_at}
use Rattle.value_text.specs.CharTexts.{char_if, chars_in, kept_before, trimmed}
use Rattle.value_text.specs.ValueText.{bytes_text, escape_text, spelled_byte}
use Rattle.std.proofs.Math.Seq.{take-suc}
use Rattle.std.proofs.lemmas.List.{take_all, drop_all, get_or-take, length-take}

pub chars_at : (all : Members) (i : ℕ) → get_or (chars_in all) i 0 ≡ char_if (member_at all i)
chars_at NoMembers i = refl
chars_at (AbsentThen rest) zero = refl
chars_at (AbsentThen rest) (suc i) = chars_at rest i
chars_at (MemberThen value rest) zero = refl
chars_at (MemberThen value rest) (suc i) = chars_at rest i

pub chars_count : (all : Members) → length (chars_in all) ≡ member_count all
chars_count NoMembers = refl
chars_count (AbsentThen rest) = omega (arith, chars_count rest)
chars_count (MemberThen value rest) = omega (arith, chars_count rest)

-- a 0 at the end is left out, and another byte there keeps all before it
trimmed_zero : (xs : List ℕ) → trimmed (xs ++ 0 ∷ []) ≡ trimmed xs
trimmed_zero [] = refl
trimmed_zero (x ∷ xs) = ap (kept_before x) (trimmed_zero xs)

trimmed_more : (xs : List ℕ) (byte : ℕ) → (byte == 0) ≡ false → trimmed (xs ++ byte ∷ []) ≡ xs ++ byte ∷ []
trimmed_more [] byte e = rw e refl
trimmed_more (x ∷ xs) byte e = ap (kept_before x) (trimmed_more xs byte e) ∙ kept xs
  where
    kept : (xs : List ℕ) → kept_before x (xs ++ byte ∷ []) ≡ x ∷ (xs ++ byte ∷ [])
    kept [] = refl
    kept (y ∷ ys) = refl

one_more : (bytes : List ℕ) (i : ℕ) → i < length bytes → take (i + 1) bytes ≡ take i bytes ++ get_or bytes i 0 ∷ []
one_more bytes i h = rw add-one (take-suc bytes i 0 h)

pub kept_zero : (bytes : List ℕ) (end i : ℕ) → i < length bytes → get_or bytes i 0 ≡ 0 →
    take end bytes ≡ trimmed (take i bytes) → take end bytes ≡ trimmed (take (i + 1) bytes)
kept_zero bytes end i h e so_far =
    so_far ∙ sym (ap trimmed (one_more bytes i h ∙ ap (λ b. take i bytes ++ b ∷ []) e) ∙ trimmed_zero (take i bytes))

pub kept_more : (bytes : List ℕ) (i : ℕ) → i < length bytes → get_or bytes i 0 ≢ 0 →
    take (i + 1) bytes ≡ trimmed (take (i + 1) bytes)
kept_more bytes i h e = one_more bytes i h
    ∙ sym (ap trimmed (one_more bytes i h) ∙ trimmed_more (take i bytes) (get_or bytes i 0) (isnt (get_or bytes i 0) e))
  where
    isnt : (n : ℕ) → n ≢ 0 → (n == 0) ≡ false
    isnt n e = grind arith

pub kept_all : (bytes : List ℕ) (end i : ℕ) → length bytes ≤ i → take end bytes ≡ trimmed (take i bytes) →
    take end bytes ≡ trimmed bytes
kept_all bytes end i h e = e ∙ ap trimmed (take_all i bytes h)

-- one byte of what is kept
pub text_next : (bytes : List ℕ) (count i byte : ℕ) → count ≤ length bytes → i < count → byte ≡ get_or bytes i 0
    → bytes_text (drop i (take count bytes))
    ≡ spelled_byte escape_text byte ++ bytes_text (drop (i + 1) (take count bytes))
text_next bytes count i byte most h is =
    let lt : i < length (take count bytes) = omega (arith, length-take count bytes) in
    let front : drop i (take count bytes) ≡ get_or (take count bytes) i 0 ∷ drop (i + 1) (take count bytes) =
    rw add-one (drop-cons (take count bytes) i 0 lt) in
    ap bytes_text front
    ∙ ap (λ b. spelled_byte escape_text b ++ bytes_text (drop (i + 1) (take count bytes)))
    (get_or-take count bytes i 0 h ∙ sym is)

pub text_end : (bytes : List ℕ) (count i : ℕ) → count ≤ i → bytes_text (drop i (take count bytes)) ≡ []
text_end bytes count i h = ap bytes_text (drop_all i (take count bytes) (omega (arith, length-take count bytes)))
