-- Laws of offsets as arguments.
use Rattle.std.proofs.Common.{◌≡◌, ◌≢◌, ℕ, ◌+◌, ◌*◌, ◌<◌, ◌≤◌, true, false, List, [], ◌∷◌, ◌++◌, length, get_or, take, drop, Option, Some, None, refl, sym, ◌∙◌, ap, subst, inl, inr, arith, rules}
use Rattle.std.specs.Prelude.{◌==◌, nat_lt, position, SomeIff, IfNone, IfSome, Result, Ok, Err, MatchResult, cond}
use Rattle.std.specs.Result.{result_ok}
use Rattle.std.specs.Int.{IsInRange}
use Rattle.std.specs.Str.Parse.{IsNumeral, AllDigits, digits_value}
use Rattle.std.specs.List.{position_or_len}
use Rattle.std.proofs.lemmas.List.{get_or_append_left, get_or_at, take_at, drop_at, length-append, append_assoc, take-append-drop, drop_more}
use Rattle.std.proofs.lemmas.List.Sums.{position_or_len_is}
use Rattle.std.proofs.lemmas.List.Quantifiers.{position-Some}
use Rattle.std.proofs.lemmas.Str.Parse.{not_in_digits, numerals_by_value, tells_digits, digit_from_value}
use Rattle.std.proofs.lemmas.Option.{none-some, same_Some}
use Rattle.std.proofs.lemmas.Bool.Decides.{nat_tests}
use Rattle.std.proofs.Math.Nat.{mul-le-mul_left}
use Rattle.command_line.specs.OffsetWord.{IsOffsetWord, IsUnit}

-- no digit is a `#`
no_hash : (ds : List ℕ) → AllDigits 10 ds → (k : ℕ) → k < length ds → get_or ds k 0 ≢ 35
no_hash ds h = not_in_digits (numerals_by_value _ tells_digits) ds 35 h (λ r. absurd (search rules))

eqb_false : (a b : ℕ) → a ≢ b → (a == b) ≡ false
eqb_false a b h = grind (arith, nat_tests)

eqb_true : (a b : ℕ) → a ≡ b → (a == b) ≡ true
eqb_true a b h = grind (arith, nat_tests)

equal_from_eqb : (a b : ℕ) → (a == b) ≡ true → a ≡ b
equal_from_eqb a b h = grind (arith, nat_tests)

place_after : (m u : List ℕ) → AllDigits 10 m → position_or_len (λ byte. byte == 35) (m ++ 35 ∷ u) ≡ length m
place_after m u h =
    position_or_len_is (λ byte. byte == 35) (m ++ 35 ∷ u) (length m) 0
    (omega (arith, length-append {A = ℕ}))
    (λ k lt. eqb_false _ 35 (λ e. no_hash m h k lt (sym (get_or_append_left m (35 ∷ u) 0 k lt) ∙ e)))
    (λ _. eqb_true _ 35 (get_or_at m 35 u 0 (length m) refl))

some_within : (n k : ℕ) → k < n → cond (nat_lt k n) (Some k) None ≡ Some k
some_within n k h = let t : nat_lt k n ≡ true = grind (arith, nat_tests) in rw t refl

-- the first `#` is after the magnitude
pub hash_after : (w m u : List ℕ) → w ≡ m ++ 35 ∷ u → AllDigits 10 m → position (λ byte. byte == 35) w ≡ Some (length m)
hash_after w m u e h =
    let place : position_or_len (λ byte. byte == 35) (m ++ 35 ∷ u) ≡ length m = place_after m u h in
    rw e (rw place (some_within _ _ (omega (arith, length-append m (35 ∷ u)))))

-- an offset has a `#`
pub hash_there : (w : List ℕ) (bits : ℕ) → IsOffsetWord w bits → position (λ byte. byte == 35) w ≡ None → ⊥
hash_there w bits x e = none-some _ (sym e ∙ hash_after w x.magnitude x.unit x.parts x.number.1)

-- an argument is cut at its first `#`
pub cut_at_hash : (w : List ℕ) (k : ℕ) → position (λ byte. byte == 35) w ≡ Some k → w ≡ take k w ++ 35 ∷ drop (k + 1) w
cut_at_hash w k e =
    let p = position-Some (λ byte. byte == 35) w k 0 e in
    let h : get_or w k 0 ≡ 35 = equal_from_eqb _ 35 p.1 in
    sym (take-append-drop k w) ∙ ap (λ s. take k w ++ s) (drop_more w k 0 p.0 ∙ ap (λ y. y ∷ drop (k + 1) w) h)

-- there, and nowhere else
pub cut_parts : (w : List ℕ) (k bits : ℕ) (x : IsOffsetWord w bits) → position (λ byte. byte == 35) w ≡ Some k →
    (take k w ≡ x.magnitude) × (drop (k + 1) w ≡ x.unit)
cut_parts w k bits x e =
    let n : k ≡ length x.magnitude = same_Some _ _ (sym e ∙ hash_after w x.magnitude x.unit x.parts x.number.1) in (
      ap (take k) x.parts ∙ take_at x.magnitude (35 ∷ x.unit) k (sym n),
      ap (drop (k + 1)) (x.parts ∙ sym (append_assoc x.magnitude (35 ∷ []) x.unit))
          ∙ drop_at (x.magnitude ++ 35 ∷ []) x.unit (k + 1) (omega (arith, length-append x.magnitude (35 ∷ []))),
    )

-- a unit has one value, of at least one bit
pub unit_least : (u : List ℕ) (b : ℕ) → IsUnit u b → 1 ≤ b
unit_least u b h = elim h [ inl x ↦ omega arith | inr y ↦ elim y [ inl x ↦ omega arith | inr x ↦ omega arith ] ]

-- a letter is no numeral
letter_first : (u : List ℕ) (c : ℕ) → AllDigits 10 u → u ≡ c ∷ [] → IsInRange 48 57 c
letter_first u c h e = let at : AllDigits 10 (c ∷ []) = subst (AllDigits 10) e h in digit_from_value c at.0

head_of : (a b : ℕ) → ◌≡◌ {A = List ℕ} (a ∷ []) (b ∷ []) → a ≡ b
head_of a b e = cc

pub unit_same : (u : List ℕ) (a b : ℕ) → IsUnit u a → IsUnit u b → a ≡ b
unit_same u a b h k = elim h [
  | inl x ↦ elim k [
    | inl y ↦ omega arith
    | inr k' ↦ elim k' [
      | inl y ↦ absurd (let e : 98 ≡ 66 = head_of 98 66 (sym x.0 ∙ y.0) in omega arith)
      | inr y ↦ absurd (let r = letter_first u 98 y.0.1 x.0 in omega arith)
    ]
  ]
  | inr h' ↦ elim h' [
    | inl x ↦ elim k [
      | inl y ↦ absurd (let e : 98 ≡ 66 = head_of 98 66 (sym y.0 ∙ x.0) in omega arith)
      | inr k' ↦ elim k' [
        | inl y ↦ omega arith
        | inr y ↦ absurd (let r = letter_first u 66 y.0.1 x.0 in omega arith)
      ]
    ]
    | inr x ↦ elim k [
      | inl y ↦ absurd (let r = letter_first u 98 x.0.1 y.0 in omega arith)
      | inr k' ↦ elim k' [
        | inl y ↦ absurd (let r = letter_first u 66 x.0.1 y.0 in omega arith)
        | inr y ↦ omega arith
      ]
    ]
  ]
]

-- a magnitude that is too large makes the whole too large
pub product_large : (m u n : ℕ) → n ≤ m → 1 ≤ u → n ≤ m * u
product_large m u n h k = omega (arith, mul-le-mul_left m k)

-- if the answer is none
pub large_by_hash : (w : List ℕ) (n : ℕ) → position (λ byte. byte == 35) w ≡ None → (bits : ℕ) →
    IsOffsetWord w bits → n ≤ bits
large_by_hash w n e bits x = absurd (hash_there w bits x e)

pub large_by_magnitude : (w : List ℕ) (k n : ℕ) → position (λ byte. byte == 35) w ≡ Some k →
    ¬ (IsNumeral 10 (take k w) × (digits_value 10 (take k w) < n)) → (bits : ℕ) → IsOffsetWord w bits → n ≤ bits
large_by_magnitude w k n e not_so bits x =
    let p = cut_parts w k bits x e in
    let numeral : IsNumeral 10 (take k w) = subst (IsNumeral 10) (sym p.0) x.number in
    let same : digits_value 10 (take k w) ≡ digits_value 10 x.magnitude = ap (digits_value 10) p.0 in
    let large : n ≤ digits_value 10 (take k w) = not_lt _ _ (λ lt. not_so (numeral, lt)) in
    let whole : n ≤ digits_value 10 x.magnitude * x.unit_bits =
    product_large _ x.unit_bits n (omega arith) (unit_least x.unit x.unit_bits x.counts) in
    omega (arith, x.product)
  where
    not_lt : (a b : ℕ) → ¬ (a < b) → b ≤ a
    not_lt a b h = omega arith

pub large_by_unit : (w : List ℕ) (k n : ℕ) → position (λ byte. byte == 35) w ≡ Some k →
    ((b : ℕ) → ¬ (IsUnit (drop (k + 1) w) b)) → (bits : ℕ) → IsOffsetWord w bits → n ≤ bits
large_by_unit w k n e not_so bits x =
    absurd (not_so x.unit_bits (subst (λ s. IsUnit s x.unit_bits) (sym (cut_parts w k bits x e).1) x.counts))

pub large_by_product : (w : List ℕ) (k m u n : ℕ) → position (λ byte. byte == 35) w ≡ Some k →
    m ≡ digits_value 10 (take k w) → IsUnit (drop (k + 1) w) u → n ≤ m * u → (bits : ℕ) → IsOffsetWord w bits → n ≤ bits
large_by_product w k m u n e is unit large bits x =
    let p = cut_parts w k bits x e in
    let magnitude : m ≡ digits_value 10 x.magnitude = is ∙ ap (digits_value 10) p.0 in
    let named : u ≡ x.unit_bits = unit_same x.unit u x.unit_bits (subst (λ s. IsUnit s u) p.1 unit) x.counts in
    subst (λ b. n ≤ b) x.product
    (subst (λ y. n ≤ digits_value 10 x.magnitude * y) named (subst (λ y. n ≤ y * u) magnitude large))

-- and if it is a number
pub word_from_parts : (w : List ℕ) (k m u : ℕ) → position (λ byte. byte == 35) w ≡ Some k → IsNumeral 10 (take k w) →
    m ≡ digits_value 10 (take k w) → IsUnit (drop (k + 1) w) u → IsOffsetWord w (m * u)
word_from_parts w k m u e numeral is unit = record {
  magnitude = take k w;
  unit = drop (k + 1) w;
  unit_bits = u;
  parts = cut_at_hash w k e;
  number = numeral;
  counts = unit;
  product = ap (λ y. y * u) (sym is);
}

pub word_where_some : (w : List ℕ) (k m u n : ℕ) (r : Option ℕ) → position (λ byte. byte == 35) w ≡ Some k →
    IsNumeral 10 (take k w) → m ≡ digits_value 10 (take k w) → IsUnit (drop (k + 1) w) u →
    SomeIff r (m * u < n) (m * u) → IfSome r (IsOffsetWord w)
word_where_some w k m u n None e numeral is unit h = tt
word_where_some w k m u n (Some x) e numeral is unit h =
    subst (IsOffsetWord w) (sym h.1) (word_from_parts w k m u e numeral is unit)

pub large_where_none : (w : List ℕ) (k m u n : ℕ) (r : Option ℕ) → position (λ byte. byte == 35) w ≡ Some k →
    m ≡ digits_value 10 (take k w) → IsUnit (drop (k + 1) w) u → SomeIff r (m * u < n) (m * u) →
    IfNone r ((bits : ℕ) → IsOffsetWord w bits → n ≤ bits)
large_where_none w k m u n None e is unit h = large_by_product w k m u n e is unit (omega arith)
large_where_none w k m u n (Some x) e is unit h = tt

-- what holds at an error that was made a `None`
pub at_no_ok : {T E : Type 0} (r : Result T E) (P : T → Type 0) (Q : Type 0) → result_ok r ≡ None →
    MatchResult r P (λ _. Q) → Q
at_no_ok (Ok x) P Q e h = absurd (none-some _ (sym e))
at_no_ok (Err x) P Q e h = h

-- an argument names one number of bits
pub one_offset : (w : List ℕ) (a b : ℕ) → IsOffsetWord w a → IsOffsetWord w b → a ≡ b
one_offset w a b x y =
    let at = hash_after w x.magnitude x.unit x.parts x.number.1 in
    let p = cut_parts w (length x.magnitude) a x at in
    let q = cut_parts w (length x.magnitude) b y at in
    let m : x.magnitude ≡ y.magnitude = sym p.0 ∙ q.0 in
    let u : x.unit ≡ y.unit = sym p.1 ∙ q.1 in
    let n : x.unit_bits ≡ y.unit_bits =
    unit_same y.unit x.unit_bits y.unit_bits (subst (λ t. IsUnit t x.unit_bits) u x.counts) y.counts in
    sym x.product
    ∙ (ap (λ t. digits_value 10 t * x.unit_bits) m ∙ (ap (λ t. digits_value 10 y.magnitude * t) n ∙ y.product))
