-- Laws of the texts of paths.
use Rattle.std.proofs.Common.{◌≡◌, ◌≢◌, ◌∙◌, ℕ, zero, suc, ◌+◌, ◌-◌, ◌<◌, ◌≤◌, ◌^◌, ◌⊎◌, inl, inr, true, false, List, [], ◌∷◌, ◌++◌, length, take, drop, codes, decimal, refl, sym, ap, subst, arith, length-drop, take_all, add-one}
use Rattle.std.specs.Prelude.{slice_index, EachIndex}
use Rattle.std.specs.Char.{is_ascii_digit}
use Rattle.std.specs.Str.Parse.{IsNumeral, AllDigits, digits_value}
use Rattle.std.specs.Int.{IsInRange}
use Rattle.std.proofs.lemmas.Fmt.{decimal_is_IsNumeral}
use Rattle.std.proofs.lemmas.Str.Parse.{digit_from_value}
use Rattle.std.proofs.lemmas.List.{append_cancel_right, drop_more}
use Rattle.std.proofs.lemmas.Bool.Decides.{nat_tests}
use Rattle.command_line.specs.Paths.{PathStep, ToField, ToNameless, ToElement, is_name_byte, AreNameBytes, IsName, IsStep, step_text, IsStepText}
use Rattle.command_line.specs.StepCuts.{is_mark, IsFirstMark, MayFollow}

pub tail_same : {a b : ℕ} {xs ys : List ℕ} → a ∷ xs ≡ b ∷ ys → xs ≡ ys
tail_same e = cc

pub head_same : {a b : ℕ} {xs ys : List ℕ} → a ∷ xs ≡ b ∷ ys → a ≡ b
head_same e = cc

-- ---- where a text is cut into steps

abbrev pub HasNoMark : List ℕ → Type 0
HasNoMark [] = Unit {0}
HasNoMark (byte ∷ bytes) = (is_mark byte ≡ false) × HasNoMark bytes

both_ways : (byte : ℕ) → is_mark byte ≡ true → is_mark byte ≡ false → ⊥
both_ways byte e f = cc

pub cut_same : (a b t u : List ℕ) → HasNoMark a → HasNoMark b → MayFollow t → MayFollow u →
    a ++ t ≡ b ++ u → (a ≡ b) × (t ≡ u)
cut_same [] [] t u na nb ft fu e = (refl, e)
cut_same [] (y ∷ b) [] u na nb ft fu e = cc
cut_same [] (y ∷ b) (x ∷ t) u na nb ft fu e = absurd (both_ways y (subst (λ b. is_mark b ≡ true) (head_same e) ft) nb.0)
cut_same (x ∷ a) [] t [] na nb ft fu e = cc
cut_same (x ∷ a) [] t (y ∷ u) na nb ft fu e =
    absurd (both_ways x (subst (λ b. is_mark b ≡ true) (sym (head_same e)) fu) na.0)
cut_same (x ∷ a) (y ∷ b) t u na nb ft fu e =
    let r = cut_same a b t u na.1 nb.1 ft fu (tail_same e) in
    (ap (λ z. z ∷ a) (head_same e) ∙ ap (λ z. y ∷ z) r.0, r.1)

pub no_mark_append : (a b : List ℕ) → HasNoMark a → HasNoMark b → HasNoMark (a ++ b)
no_mark_append [] b h g = g
no_mark_append (x ∷ a) b h g = (h.0, no_mark_append a b h.1 g)

name_byte_no_mark : (byte : ℕ) → is_name_byte byte ≡ true → is_mark byte ≡ false
name_byte_no_mark byte h = grind (arith, nat_tests)

name_no_mark : (bytes : List ℕ) → AreNameBytes bytes → HasNoMark bytes
name_no_mark [] h = tt
name_no_mark (byte ∷ bytes) h = (name_byte_no_mark byte h.0, name_no_mark bytes h.1)

digit_no_mark : (byte : ℕ) → IsInRange 48 57 byte → is_mark byte ≡ false
digit_no_mark byte h = grind (arith, nat_tests)

pub digits_no_mark : (bytes : List ℕ) → AllDigits 10 bytes → HasNoMark bytes
digits_no_mark [] h = tt
digits_no_mark (byte ∷ bytes) h = (digit_no_mark byte (digit_from_value byte h.0), digits_no_mark bytes h.1)

-- ---- a step

abbrev pub first_of : PathStep → ℕ
first_of (ToField name) = 46
first_of (ToNameless place) = 46
first_of (ToElement place) = 91

abbrev pub body_of : PathStep → List ℕ
body_of (ToField name) = name
body_of (ToNameless place) = decimal place
body_of (ToElement place) = decimal place ++ codes "]"

pub text_is : (step : PathStep) → step_text step ≡ first_of step ∷ body_of step
text_is (ToField name) = refl
text_is (ToNameless place) = refl
text_is (ToElement place) = refl

pub first_is_mark : (step : PathStep) → is_mark (first_of step) ≡ true
first_is_mark (ToField name) = refl
first_is_mark (ToNameless place) = refl
first_is_mark (ToElement place) = refl

pub body_no_mark : (step : PathStep) → IsStep step → HasNoMark (body_of step)
body_no_mark (ToField []) h = absurd h
body_no_mark (ToField (byte ∷ bytes)) h = name_no_mark (byte ∷ bytes) h.1
body_no_mark (ToNameless place) h = digits_no_mark (decimal place) (decimal_is_IsNumeral place h).0.1
body_no_mark (ToElement place) h =
    no_mark_append (decimal place) (codes "]")
    (digits_no_mark (decimal place) (decimal_is_IsNumeral place h).0.1) (refl, tt)

pub body_some : (step : PathStep) → IsStep step → body_of step ≢ []
body_some (ToField []) h e = absurd h
body_some (ToField (byte ∷ bytes)) h e = cc
body_some (ToNameless place) h e =
    let some : 0 < length (decimal place) = (decimal_is_IsNumeral place h).0.0 in omega (arith, ap length e)
body_some (ToElement place) h e = ends (decimal place) e
  where
    ends : (a : List ℕ) → a ++ codes "]" ≢ []
    ends [] e = cc
    ends (x ∷ a) e = cc

pub decimal_same : (p q : ℕ) → p < 2 ^ 64 → q < 2 ^ 64 → decimal p ≡ decimal q → p ≡ q
decimal_same p q h k e = sym (decimal_is_IsNumeral p h).1 ∙ ap (digits_value 10) e ∙ (decimal_is_IsNumeral q k).1

-- a name doesn't begin with a digit, so it is no number
pub name_no_digits : (name digits : List ℕ) → IsName name → IsNumeral 10 digits → name ≡ digits → ⊥
name_no_digits [] digits h n e = h
name_no_digits (byte ∷ bytes) digits h n e =
    let at : AllDigits 10 (byte ∷ bytes) = subst (AllDigits 10) (sym e) n.1 in
    let range : IsInRange 48 57 byte = digit_from_value byte at.0 in
    let no : is_ascii_digit byte ≡ false = h.0 in
    grind (arith, nat_tests)

pub step_same : (a b : PathStep) → IsStep a → IsStep b → step_text a ≡ step_text b → a ≡ b
step_same (ToField n) (ToField m) h k e = ap ToField (tail_same e)
step_same (ToField n) (ToNameless q) h k e =
    absurd (name_no_digits n (decimal q) h (decimal_is_IsNumeral q k).0 (tail_same e))
step_same (ToField n) (ToElement q) h k e = absurd (let f : ◌≡◌ {A = ℕ} 46 91 = head_same e in omega arith)
step_same (ToNameless p) (ToField m) h k e =
    absurd (name_no_digits m (decimal p) k (decimal_is_IsNumeral p h).0 (sym (tail_same e)))
step_same (ToNameless p) (ToNameless q) h k e = ap ToNameless (decimal_same p q h k (tail_same e))
step_same (ToNameless p) (ToElement q) h k e = absurd (let f : ◌≡◌ {A = ℕ} 46 91 = head_same e in omega arith)
step_same (ToElement p) (ToField m) h k e = absurd (let f : ◌≡◌ {A = ℕ} 91 46 = head_same e in omega arith)
step_same (ToElement p) (ToNameless q) h k e = absurd (let f : ◌≡◌ {A = ℕ} 91 46 = head_same e in omega arith)
step_same (ToElement p) (ToElement q) h k e =
    ap ToElement (decimal_same p q h k (append_cancel_right (decimal p) (decimal q) (codes "]") (tail_same e)))

-- ---- where the next step begins

pub rest_is : (text : List ℕ) (done : ℕ) → done ≤ length text →
    take (length text - done) (drop done text) ≡ drop done text
rest_is text done le = take_all (length text - done) (drop done text) (omega (arith, length-drop done text))

-- the first mark after the first byte
pub within_some : (text rest : List ℕ) (place : ℕ) → 0 < length text → rest ≡ drop 1 text → IsFirstMark rest place →
    (k : ℕ) → 0 < k → k < place + 1 → is_mark (slice_index text k) ≡ false
within_some [] rest place some is first k low high = absurd (omega (arith, some))
within_some (x ∷ text) rest place some is first zero low high = absurd (omega (arith, low))
within_some (x ∷ text) rest place some is first (suc k) low high =
    subst (λ bytes. is_mark (slice_index bytes k) ≡ false) is (first.2 k (omega (arith, high)))

pub within_none : (text rest : List ℕ) → 0 < length text → rest ≡ drop 1 text →
    EachIndex rest (λ k. is_mark (slice_index rest k) ≡ false) → (k : ℕ) → 0 < k → k < length text →
    is_mark (slice_index text k) ≡ false
within_none [] rest some is none k low high = absurd (omega (arith, some))
within_none (x ∷ text) rest some is none zero low high = absurd (omega (arith, low))
within_none (x ∷ text) rest some is none (suc k) low high =
    subst (λ bytes. is_mark (slice_index bytes k) ≡ false) is (none k (omega (arith, high, ap length is)))

pub next_some : (text rest : List ℕ) (place : ℕ) → 0 < length text → rest ≡ drop 1 text → IsFirstMark rest place →
    MayFollow (drop (place + 1) text)
next_some [] rest place some is first = absurd (omega (arith, some))
next_some (x ∷ text) rest place some is first =
    let at = drop_more rest place 0 first.0 in
    let e : drop (place + 1) (x ∷ text) ≡ drop place rest =
    ap (λ n. drop n (x ∷ text)) (add-one place) ∙ ap (drop place) (sym is) in
    subst MayFollow (sym (e ∙ at)) first.1

-- ---- names and numbers

name_bytes : (bytes : List ℕ) → EachIndex bytes (λ k. is_name_byte (slice_index bytes k) ≡ true) → AreNameBytes bytes
name_bytes [] h = tt
name_bytes (byte ∷ bytes) h = (h 0 (omega arith), name_bytes bytes (λ k lt. h (suc k) (omega (arith, lt))))

each_name_byte : (bytes : List ℕ) → AreNameBytes bytes →
    EachIndex bytes (λ k. is_name_byte (slice_index bytes k) ≡ true)
each_name_byte [] h k lt = absurd (omega (arith, lt))
each_name_byte (byte ∷ bytes) h zero lt = h.0
each_name_byte (byte ∷ bytes) h (suc k) lt = each_name_byte bytes h.1 k (omega (arith, lt))

pub name_from_bytes : (bytes : List ℕ) (first : ℕ) (rest : List ℕ) → bytes ≡ first ∷ rest → is_ascii_digit first ≡ false
    → EachIndex bytes (λ k. is_name_byte (slice_index bytes k) ≡ true) → IsName bytes
name_from_bytes [] first rest e digit h = cc
name_from_bytes (byte ∷ bytes) first rest e digit h =
    (subst (λ b. is_ascii_digit b ≡ false) (sym (head_same e)) digit, name_bytes (byte ∷ bytes) h)

pub bytes_from_name : (bytes : List ℕ) → IsName bytes → EachIndex bytes (λ k. is_name_byte (slice_index bytes k) ≡ true)
bytes_from_name [] h = absurd h
bytes_from_name (byte ∷ bytes) h = each_name_byte (byte ∷ bytes) h.1

abbrev IsSmallNumeral : List ℕ → Type 0
IsSmallNumeral digits = IsNumeral 10 digits × (digits_value 10 digits < 2 ^ 64)

pub no_decimal : (digits : List ℕ) → ¬ (IsNumeral 10 digits × (digits_value 10 digits < 2 ^ 64)) → (n : ℕ) →
    n < 2 ^ 64 → decimal n ≢ digits
no_decimal digits h n lt e =
    let d = decimal_is_IsNumeral n lt in
    h (subst IsSmallNumeral e (d.0, subst (λ k. k < 2 ^ 64) (sym d.1) lt))

-- the only number that digits can be is their value
pub value_of_decimal : (digits : List ℕ) (n : ℕ) → n < 2 ^ 64 → decimal n ≡ digits → n ≡ digits_value 10 digits
value_of_decimal digits n lt e = sym (decimal_is_IsNumeral n lt).1 ∙ ap (digits_value 10) e

-- ---- what isn't a step

-- neither a name nor a number follows the dot
pub no_field : (name : List ℕ) → ¬ (IsName name) → ((place : ℕ) → place < 2 ^ 64 → decimal place ≢ name) →
    (step : PathStep) → ¬ (IsStepText (codes "." ++ name) step)
no_field name not_name not_place (ToField n) h = not_name (subst IsName (tail_same h.1) h.0)
no_field name not_name not_place (ToNameless p) h = not_place p h.0 (tail_same h.1)
no_field name not_name not_place (ToElement p) h = let f : ◌≡◌ {A = ℕ} 91 46 = head_same h.1 in omega arith

-- no number with a bracket after it follows the bracket
pub no_element : (place : List ℕ) → ((p : ℕ) → p < 2 ^ 64 → decimal p ++ codes "]" ≢ place) → (step : PathStep) →
    ¬ (IsStepText (codes "[" ++ place) step)
no_element place not_place (ToField n) h = let f : ◌≡◌ {A = ℕ} 46 91 = head_same h.1 in omega arith
no_element place not_place (ToNameless p) h = let f : ◌≡◌ {A = ℕ} 46 91 = head_same h.1 in omega arith
no_element place not_place (ToElement p) h = not_place p h.0 (tail_same h.1)

-- a text without a mark at its front is no step
pub no_step : (text : List ℕ) → ¬ (MayFollow text) ⊎ (text ≡ []) → (step : PathStep) → ¬ (IsStepText text step)
no_step text (inl other) step h =
    other (subst MayFollow h.1 (subst MayFollow (sym (text_is step)) (first_is_mark step)))
no_step text (inr is) step h = let f : first_of step ∷ body_of step ≡ [] = sym (text_is step) ∙ h.1 ∙ is in cc
