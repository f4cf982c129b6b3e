-- Constraints that are 0 whatever number has a certain byte.
use Rattle.std.proofs.Common.{◌≡◌, ℕ, ◌+◌, ◌%◌, ◌^◌, ◌<◌, ◌≤◌, max, min, Bool, true, false, Ok, pos, inl, inr, refl, sym, ap, ◌∙◌, subst, pow_mono, arith}
use Rattle.std.specs.Prelude.{◌≢◌, ◌⊎◌, ◌&&◌, int_le}
use Rattle.std.proofs.lemmas.Bool.{cases_lt, lt-leb}
use Rattle.std.proofs.Math.Nat.{mod-eq_of_lt}
use Rattle.pickle_tree.specs.declared.tree.Infix.TheVariants.{Equal, LogicalOr}
use Rattle.pickle_types.specs.Operators.{common}
use Rattle.pickle_types.specs.Types.{Term, Number, Name, Bracket, Between}
use Rattle.pickle_types.specs.declared.integer.IntegerType.{IntegerType}
use Rattle.pickle_meaning.specs.Arithmetic.{combined, converted, int_eq, modulo, on_common, on_integers, truth, with_sign}
use Rattle.pickle_meaning.specs.Evaluation.{evaluation}
use Rattle.pickle_meaning.specs.Values.{IntegerLabel}
use Rattle.value_store.specs.declared.scalar.Scalar.TheVariants as scalar
use Rattle.first_numbers.specs.declared.judge.Judged.{Judged}
use Rattle.first_numbers.specs.declared.number.Numeral.{Numeral}
use Rattle.first_numbers.specs.Judged.{IsJudged}
use Rattle.first_numbers.specs.Layouts.{FirstNumber, is_over_own, is_own}
use Rattle.first_numbers.specs.Reads.{FailsSo}
use Rattle.first_numbers.specs.Runs.{number_value, own_frames}
use Rattle.first_numbers.specs.Screens.{FailsWith, IsZeroAt, IsZeroWith, byte_at, plain, zero_in}
use Rattle.first_numbers.proofs.Alike.{both_true}
use Rattle.first_numbers.proofs.Judging.{judged_both, judged_bracket, judged_name, judged_number, judged_so, most}
use Rattle.first_numbers.proofs.Misses.{in_own}
use Rattle.first_numbers.proofs.Reading.{comes_to_zero}

-- ---- one comparison

-- a number of the unsigned integer stays itself in its common type with another
converted_plain : (width n : ℕ) (type : IntegerType) → n < 2 ^ width →
    converted (common (plain width).number type) (pos n) ≡ pos n
unfolding converted modulo with_sign
converted_plain width n type less =
    let wide = pow_mono {i = width} {j = max width type.width} (omega arith) in
    ap pos (mod-eq_of_lt (omega (arith, less, wide)))

converted_other : (width n : ℕ) (type : IntegerType) → n < 2 ^ width →
    converted (common type (plain width).number) (pos n) ≡ pos n
unfolding converted modulo with_sign
converted_other width n type less = by_sign type.signed
  where
    whole : n % 2 ^ max type.width width ≡ n
    whole =
        let wide = pow_mono {i = width} {j = max type.width width} (omega arith) in
        mod-eq_of_lt (omega (arith, less, wide))

    by_sign : (b : Bool) →
        with_sign (record { width = max type.width width; signed = b && false }) (n % 2 ^ max type.width width) ≡ pos n
    by_sign true = ap pos whole
    by_sign false = ap pos whole

one_false : (a b : Bool) → (a ≡ false) ⊎ (b ≡ false) → (a && b) ≡ false
one_false a b (inl e) = ap (λ x. x && b) e
one_false true b (inr e) = e
one_false false b (inr e) = refl

unlike_ints : (n c : ℕ) → n ≢ c → int_eq (pos n) (pos c) ≡ false
unlike_ints n c unlike =
    one_false (int_le (pos n) (pos c)) (int_le (pos c) (pos n))
    (elim (cases_lt n c) [ inl lt ↦ inr (lt-leb c n lt) | inr le ↦ inl (lt-leb n c (above le)) ])
  where
    above : c ≤ n → c < n
    above le = elim (cases_lt c n) [ inl lt ↦ lt | inr ge ↦ absurd (unlike (omega (arith, le, ge))) ]

unequal_left : (width n value : ℕ) (type : IntegerType) → n < 2 ^ width → value < 2 ^ width → n ≢ value →
    combined Equal (IntegerLabel (pos n) (plain width).number) (IntegerLabel (pos value) type) ≡ truth false
unfolding combined on_integers on_common
unequal_left width n value type less below unlike =
    rw (converted_plain width n type less, converted_plain width value type below, unlike_ints n value unlike) refl

unequal_right : (width n value : ℕ) (type : IntegerType) → n < 2 ^ width → value < 2 ^ width → value ≢ n →
    combined Equal (IntegerLabel (pos value) type) (IntegerLabel (pos n) (plain width).number) ≡ truth false
unfolding combined on_integers on_common
unequal_right width n value type less below unlike =
    rw (converted_other width n type less, converted_other width value type below, unlike_ints value n unlike) refl

-- the number is another one, since it has another byte
another : (n value index byte : ℕ) → byte_at n index ≡ byte → byte_at value index ≢ byte → n ≢ value
another n value index byte here unlike same = unlike (ap (λ m. byte_at m index) (sym same) ∙ here)

-- what is computed of the number itself
abbrev number_so : (width n : ℕ) → Judged
number_so width n = judged_so (Ok (scalar.Integer (pos n) (plain width).number)) 1

named : (width n own level place : ℕ) → is_own own level place ≡ true →
    IsJudged (number_so width n) (evaluation (Name level place) (own_frames own (number_value (plain width) n 0)))
unfolding with_sign
named width n own level place is =
    let v = number_value (plain width) n 0 in
    judged_name (scalar.Integer (pos n) (plain width).number) own level place (own_frames own v) v
    is (in_own own v) refl

pub name_apart : (width n own level place value : ℕ) (type : IntegerType) → n < 2 ^ width →
    is_over_own own (Between Equal (Name level place) (Number type value)) ≡ true → value < 2 ^ width → n ≢ value →
    IsZeroAt (Between Equal (Name level place) (Number type value)) width own n 3
name_apart width n own level place value type less over below unlike =
    let parts = both_true (is_own own level place) true over in
    let levels = own_frames own (number_value (plain width) n 0) in
    judged_both own Equal (number_so width n) (judged_so (Ok (scalar.Integer (pos value) type)) 1) (zero_in 3)
    (Name level place) (Number type value) levels parts.0 refl (named width n own level place parts.0)
    (judged_number type value levels) refl
    (record { value = sym (unequal_left width n value type less below unlike); steps = refl })

pub number_apart : (width n own level place value : ℕ) (type : IntegerType) → n < 2 ^ width →
    is_over_own own (Between Equal (Number type value) (Name level place)) ≡ true → value < 2 ^ width → n ≢ value →
    IsZeroAt (Between Equal (Number type value) (Name level place)) width own n 3
number_apart width n own level place value type less over below unlike =
    let levels = own_frames own (number_value (plain width) n 0) in
    judged_both own Equal (judged_so (Ok (scalar.Integer (pos value) type)) 1) (number_so width n) (zero_in 3)
    (Number type value) (Name level place) levels refl over (judged_number type value levels)
    (named width n own level place over) refl
    (record {
      value = sym (unequal_right width n value type less below (λ same. unlike (sym same)));
      steps = refl;
    })

pub name_first : (width own level place value index byte : ℕ) (type : IntegerType) →
    is_over_own own (Between Equal (Name level place) (Number type value)) ≡ true → value < 2 ^ width →
    byte_at value index ≢ byte →
    IsZeroWith (Between Equal (Name level place) (Number type value)) width own index byte 3
name_first width own level place value index byte type over below unlike n less here =
    name_apart width n own level place value type less over below (another n value index byte here unlike)

pub number_first : (width own level place value index byte : ℕ) (type : IntegerType) →
    is_over_own own (Between Equal (Number type value) (Name level place)) ≡ true → value < 2 ^ width →
    byte_at value index ≢ byte →
    IsZeroWith (Between Equal (Number type value) (Name level place)) width own index byte 3
number_first width own level place value index byte type over below unlike n less here =
    number_apart width n own level place value type less over below (another n value index byte here unlike)

-- ---- more than one

pub either_apart : (a b : Term) (width own n left right steps : ℕ) →
    is_over_own own (Between LogicalOr a b) ≡ true → IsZeroAt a width own n left → IsZeroAt b width own n right →
    steps ≡ min (1 + min (left + right) most) most → IsZeroAt (Between LogicalOr a b) width own n steps
unfolding combined on_integers
either_apart a b width own n left right steps over h g is =
    let parts = both_true (is_over_own own a) (is_over_own own b) over in
    judged_both own LogicalOr (zero_in left) (zero_in right) (zero_in steps) a b
    (own_frames own (number_value (plain width) n 0)) parts.0 parts.1 h g refl
    (record { value = refl; steps = omega (arith, is) })

pub either_zero : (a b : Term) (width own index byte left right steps : ℕ) →
    is_over_own own (Between LogicalOr a b) ≡ true → IsZeroWith a width own index byte left →
    IsZeroWith b width own index byte right → steps ≡ min (1 + min (left + right) most) most →
    IsZeroWith (Between LogicalOr a b) width own index byte steps
either_zero a b width own index byte left right steps over h g is n less here =
    either_apart a b width own n left right steps over (h n less here) (g n less here) is

pub bracket_apart : (e : Term) (width own n inner steps : ℕ) → IsZeroAt e width own n inner →
    steps ≡ min (1 + inner) most → IsZeroAt (Bracket e) width own n steps
bracket_apart e width own n inner steps h is =
    judged_bracket (zero_in inner) e (own_frames own (number_value (plain width) n 0)) steps h is

pub bracket_zero : (e : Term) (width own index byte inner steps : ℕ) → IsZeroWith e width own index byte inner →
    steps ≡ min (1 + inner) most → IsZeroWith (Bracket e) width own index byte steps
bracket_zero e width own index byte inner steps h is n less here =
    bracket_apart e width own n inner steps (h n less here) is

-- ---- a first number

pub fails_at : (x : FirstNumber) (n steps : ℕ) → x.numeral ≡ plain x.numeral.number.width →
    IsZeroAt x.constraint x.numeral.number.width x.own n steps → steps < most → FailsSo x n steps
fails_at x n steps is h few =
    comes_to_zero x n (zero_in steps)
    (subst (λ (numeral : Numeral). IsJudged (zero_in steps)
    (evaluation x.constraint (own_frames x.own (number_value numeral n 0)))) (sym is) h)
    refl few

pub fails_so : (x : FirstNumber) (index byte steps : ℕ) → x.numeral ≡ plain x.numeral.number.width →
    IsZeroWith x.constraint x.numeral.number.width x.own index byte steps → steps < most →
    FailsWith x index byte steps
fails_so x index byte steps is h few n less here = fails_at x n steps is (h n less here) few
