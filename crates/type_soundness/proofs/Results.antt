-- What operators compute from operands of their sorts is of the sort that their rule gives, or Zero, Overflow or Index.
use Rattle.std.proofs.Common.{◌≡◌, ℕ, Bool, true, false, List, Option, Some, Result, Ok, Err, ℤ, pos, negsuc, refl}
use Rattle.std.specs.Prelude.{if◌then◌else◌, nat_lt}
use Rattle.std.specs.Int.{IsGcd}
use Rattle.std.proofs.lemmas.Nat.Gcd.{same_from_IsGcd}
use Rattle.std.proofs.lemmas.Option.{none-some}
use Rattle.pickle_tree.specs.declared.tree.Prefix.{Prefix}
use Rattle.pickle_tree.specs.declared.tree.Infix.{Infix}
use Rattle.pickle_tree.specs.declared.tree.Infix.TheVariants.{Multiply, Divide}
use Rattle.pickle_types.specs.declared.integer.IntegerType.{IntegerType}
use Rattle.pickle_types.specs.Types.{PokeType, IntegerOf, OffsetOf, StringOf}
use Rattle.pickle_types.specs.Expressions.{Sort, TextLiteral, Typed}
use Rattle.pickle_types.specs.Operators.{common, greatest_divisor}
use Rattle.pickle_types.specs.Operators as types
use Rattle.pickle_types.specs.WellTyped.{IsArithmetic, IsLogical, IsShift, IsEquality, IsComparison, IsOffsetSum, InfixRule, IsSign, PrefixRule, ChoiceRule}
use Rattle.pickle_types.proofs.Rules.{greatest_divisor_is}
use Rattle.pickle_meaning.specs.declared.faults.MapFaultKind.{MapFaultKind}
use Rattle.pickle_meaning.specs.declared.faults.MapFaultKind.TheVariants as fault
use Rattle.pickle_meaning.specs.Values.{IntegerLabel, OffsetLabel, TextLabel}
use Rattle.pickle_meaning.specs.Arithmetic.{Computed, converted, is_zero, brought, as_integer, as_offset, brought_integer, brought_offset, bits_in, truth, prefixed, shifted_left, shifted_right, on_common, on_integers, on_bits, on_scaled, on_texts, combined, to_integer, to_offset, in_unit}
use Rattle.pickle_meaning.specs.Evaluation.{Operand, AtPath, Plain, operand_label, truth_of, settled, number_only, as_common}
use Rattle.type_soundness.specs.Sorts.{IsOfType, IsNumberOf, IsOfSort, MayFault, IsOutcome}
use Rattle.type_soundness.specs.Derivations.{IsProper, computed}

-- a fault of an operator
abbrev pub IsOperators : MapFaultKind → Type 0
IsOperators fault.Zero = Unit {0}
IsOperators fault.Overflow = Unit {0}
IsOperators fault.Index = Unit {0}
IsOperators kind = ⊥

-- a number of a type, or a fault of an operator
abbrev pub IsResult : PokeType → Computed → Type 0
IsResult r (Ok label) = IsNumberOf r label
IsResult r (Err kind) = IsOperators kind

pub proper : (r : PokeType) (c : Computed) → IsResult r c → IsProper c
proper r (Ok label) h = tt
proper r (Err fault.Zero) h = tt
proper r (Err fault.Overflow) h = tt
proper r (Err fault.Index) h = tt
proper r (Err fault.Absent) h = h
proper r (Err kind) h = tt

may_fault : (kind : MapFaultKind) → IsOperators kind → MayFault kind
may_fault fault.Zero h = tt
may_fault fault.Overflow h = tt
may_fault fault.Index h = tt
may_fault kind h = absurd h

pub result_outcome : (r : PokeType) (c : Computed) → IsResult r c → IsOutcome (Typed r) (computed c)
result_outcome r (Ok label) h = h
result_outcome r (Err kind) h = may_fault kind h

-- ---- the labels of operands

pub integer_label : {w : IntegerType} (x : Operand) → IsOfSort (Typed (IntegerOf w)) x →
    (number : ℤ) × (operand_label x ≡ IntegerLabel number w)
unfolding IsOfType
integer_label (AtPath v) h = h
integer_label (Plain label) h = h

pub offset_label : {w : IntegerType} {n : ℕ} (x : Operand) → IsOfSort (Typed (OffsetOf w n)) x →
    (magnitude : ℤ) × (operand_label x ≡ OffsetLabel magnitude w n)
unfolding IsOfType
offset_label (AtPath v) h = h
offset_label (Plain label) h = h

string_label : (x : Operand) → IsOfSort (Typed StringOf) x → (bytes : List ℕ) × (operand_label x ≡ TextLabel bytes)
unfolding IsOfType
string_label (AtPath v) h = h
string_label (Plain label) h = absurd h

literal_label : (x : Operand) → IsOfSort TextLiteral x → (bytes : List ℕ) × (operand_label x ≡ TextLabel bytes)
literal_label (AtPath v) h = absurd h
literal_label (Plain label) h = h

-- ---- operators

result_if : (r : PokeType) (b : Bool) (x y : Computed) → IsResult r x → IsResult r y → IsResult r (if b then x else y)
result_if r true x y h g = h
result_if r false x y h g = g

abbrev IsBrought : Result ℤ MapFaultKind → Type 0
IsBrought (Ok z) = Unit {0}
IsBrought (Err kind) = IsOperators kind

brought_if : (b : Bool) (x y : Result ℤ MapFaultKind) → IsBrought x → IsBrought y → IsBrought (if b then x else y)
brought_if true x y h g = h
brought_if false x y h g = g

brought_is : (type : IntegerType) (z : ℤ) → IsBrought (brought type z)
unfolding brought
brought_is type z = brought_if type.signed _ _ (brought_if _ (Ok z) (Err fault.Overflow) tt tt) tt

as_integer_is : (type : IntegerType) (z : Result ℤ MapFaultKind) → IsBrought z →
    IsResult (IntegerOf type) (as_integer type z)
as_integer_is type (Ok z) h = (z, refl)
as_integer_is type (Err kind) h = h

as_offset_is : (type : IntegerType) (unit : ℕ) (z : Result ℤ MapFaultKind) → IsBrought z →
    IsResult (OffsetOf type unit) (as_offset type unit z)
as_offset_is type unit (Ok z) h = (z, refl)
as_offset_is type unit (Err kind) h = h

integer_is : (type : IntegerType) (z : ℤ) → IsResult (IntegerOf type) (brought_integer type z)
integer_is type z = as_integer_is type (brought type z) (brought_is type z)

offset_is : (type : IntegerType) (unit : ℕ) (z : ℤ) → IsResult (OffsetOf type unit) (brought_offset type unit z)
offset_is type unit z = as_offset_is type unit (brought type z) (brought_is type z)

pub truth_is : (b : Bool) → IsResult (IntegerOf types.truth) (truth b)
truth_is b = (_, refl)

left_is : (x : ℤ) (type : IntegerType) (n : ℤ) → IsResult (IntegerOf type) (shifted_left x type n)
unfolding shifted_left
left_is x type (pos n) = result_if (IntegerOf type) (nat_lt n type.width) _ (Err fault.Index) (integer_is type _) tt
left_is x type (negsuc n) = tt

right_is : (x : ℤ) (type : IntegerType) (n : ℤ) → IsResult (IntegerOf type) (shifted_right x type n)
unfolding shifted_right
right_is x type (pos n) = result_if (IntegerOf type) (nat_lt n type.width) (Ok _) (Err fault.Index) (_, refl) tt
right_is x type (negsuc n) = tt

arithmetic_is : {op : Infix} → IsArithmetic op → (x : ℤ) (t : IntegerType) (y : ℤ) (u : IntegerType) →
    IsResult (IntegerOf (common t u)) (on_integers op x t y u)
unfolding on_integers on_common
arithmetic_is IsArithmetic.add x t y u = integer_is (common t u) _
arithmetic_is IsArithmetic.subtract x t y u = integer_is (common t u) _
arithmetic_is IsArithmetic.multiply x t y u = integer_is (common t u) _
arithmetic_is IsArithmetic.divide x t y u = result_if (IntegerOf (common t u)) (is_zero (converted (common t u) y))
    (Err fault.Zero) _ tt (integer_is (common t u) _)
arithmetic_is IsArithmetic.remainder x t y u = result_if (IntegerOf (common t u)) (is_zero (converted (common t u) y))
    (Err fault.Zero) _ tt (integer_is (common t u) _)
arithmetic_is IsArithmetic.and_bits x t y u = (_, refl)
arithmetic_is IsArithmetic.or_bits x t y u = (_, refl)
arithmetic_is IsArithmetic.xor_bits x t y u = (_, refl)

logical_is : {op : Infix} → IsLogical op → (x : ℤ) (t : IntegerType) (y : ℤ) (u : IntegerType) →
    IsResult (IntegerOf types.truth) (on_integers op x t y u)
unfolding on_integers
logical_is IsLogical.both x t y u = truth_is _
logical_is IsLogical.either x t y u = truth_is _

shift_is : {op : Infix} → IsShift op → (x : ℤ) (t : IntegerType) (y : ℤ) (u : IntegerType) →
    IsResult (IntegerOf t) (on_integers op x t y u)
unfolding on_integers
shift_is IsShift.left x t y u = left_is x t y
shift_is IsShift.right x t y u = right_is x t y

integers_compare : {op : Infix} → IsComparison op → (x : ℤ) (t : IntegerType) (y : ℤ) (u : IntegerType) →
    IsResult (IntegerOf types.truth) (on_integers op x t y u)
unfolding on_integers on_common
integers_compare (IsComparison.equality IsEquality.same) x t y u = truth_is _
integers_compare (IsComparison.equality IsEquality.different) x t y u = truth_is _
integers_compare IsComparison.less x t y u = truth_is _
integers_compare IsComparison.at_most x t y u = truth_is _
integers_compare IsComparison.greater x t y u = truth_is _
integers_compare IsComparison.at_least x t y u = truth_is _

offsets_compare : {op : Infix} → IsComparison op → (type : IntegerType) (unit : ℕ) (x y : ℤ) →
    IsResult (IntegerOf types.truth) (on_bits op type unit x y)
unfolding on_bits
offsets_compare (IsComparison.equality IsEquality.same) t n x y = truth_is _
offsets_compare (IsComparison.equality IsEquality.different) t n x y = truth_is _
offsets_compare IsComparison.less t n x y = truth_is _
offsets_compare IsComparison.at_most t n x y = truth_is _
offsets_compare IsComparison.greater t n x y = truth_is _
offsets_compare IsComparison.at_least t n x y = truth_is _

texts_compare : {op : Infix} → IsEquality op → (x y : List ℕ) → IsResult (IntegerOf types.truth) (on_texts op x y)
unfolding on_texts
texts_compare IsEquality.same x y = truth_is _
texts_compare IsEquality.different x y = truth_is _

offset_sum_is : {op : Infix} → IsOffsetSum op → (type : IntegerType) (unit : ℕ) (x y : ℤ) →
    IsResult (OffsetOf type unit) (on_bits op type unit x y)
unfolding on_bits
offset_sum_is IsOffsetSum.add t n x y = offset_is t n _
offset_sum_is IsOffsetSum.subtract t n x y = offset_is t n _
offset_sum_is IsOffsetSum.remainder t n x y =
    result_if (OffsetOf t n) (is_zero y) (Err fault.Zero) _ tt (offset_is t n _)

quotient_is : (type : IntegerType) (unit : ℕ) (x y : ℤ) → IsResult (IntegerOf type) (on_bits Divide type unit x y)
unfolding on_bits
quotient_is t n x y = result_if (IntegerOf t) (is_zero y) (Err fault.Zero) _ tt (integer_is t _)

scaled_is : (type : IntegerType) (unit : ℕ) (x y : ℤ) → IsResult (OffsetOf type unit) (on_scaled Multiply type unit x y)
unfolding on_scaled
scaled_is t n x y = offset_is t n _

common_divisor_is : (m n g : ℕ) → IsGcd m n g → greatest_divisor m n ≡ g
common_divisor_is m n g h = same_from_IsGcd m n _ g (greatest_divisor_is m n) h

pub infix_is : {op : Infix} {s t : Sort} {r : PokeType} → InfixRule op s t r → (x y : Operand) → IsOfSort s x →
    IsOfSort t y → IsResult r (combined op (operand_label x) (operand_label y))
unfolding combined
infix_is (InfixRule.arithmetic {v} {w} h) x y a b =
    let l = integer_label x a in let m = integer_label y b in rw l.1 (rw m.1 (arithmetic_is h l.0 v m.0 w))
infix_is (InfixRule.logical {v} {w} h) x y a b =
    let l = integer_label x a in let m = integer_label y b in rw l.1 (rw m.1 (logical_is h l.0 v m.0 w))
infix_is (InfixRule.shift {v} {w} h) x y a b =
    let l = integer_label x a in let m = integer_label y b in rw l.1 (rw m.1 (shift_is h l.0 v m.0 w))
infix_is (InfixRule.compare_integers {v} {w} h) x y a b =
    let l = integer_label x a in let m = integer_label y b in rw l.1 (rw m.1 (integers_compare h l.0 v m.0 w))
infix_is (InfixRule.compare_offsets h) x y a b =
    let l = offset_label x a in let m = offset_label y b in rw l.1 (rw m.1 (offsets_compare h _ _ _ _))
infix_is (InfixRule.text_right h) x y a b =
    let l = string_label x a in let m = literal_label y b in rw l.1 (rw m.1 (texts_compare h l.0 m.0))
infix_is (InfixRule.text_left h) x y a b =
    let l = literal_label x a in let m = string_label y b in rw l.1 (rw m.1 (texts_compare h l.0 m.0))
infix_is (InfixRule.offset_sum {v} {w} {m} {n} g h is) x y a b =
    let l = offset_label x a in
    let k = offset_label y b in
    let same = common_divisor_is m n g is in
    rw l.1 (rw k.1 (rw same (offset_sum_is h (common v w) g (bits_in l.0 m) (bits_in k.0 n))))
infix_is InfixRule.scale_right x y a b =
    let l = integer_label x a in let m = offset_label y b in rw l.1 (rw m.1 (scaled_is _ _ _ _))
infix_is InfixRule.scale_left x y a b =
    let l = offset_label x a in let m = integer_label y b in rw l.1 (rw m.1 (scaled_is _ _ _ _))
infix_is InfixRule.offset_quotient x y a b =
    let l = offset_label x a in let m = offset_label y b in rw l.1 (rw m.1 (quotient_is _ _ _ _))

pub prefix_is : {op : Prefix} {t r : PokeType} → PrefixRule op t r → (x : Operand) → IsOfSort (Typed t) x →
    IsResult r (prefixed op (operand_label x))
unfolding prefixed
prefix_is (PrefixRule.sign_integer IsSign.plus) x h = let l = integer_label x h in rw l.1 (integer_is _ _)
prefix_is (PrefixRule.sign_integer IsSign.minus) x h = let l = integer_label x h in rw l.1 (integer_is _ _)
prefix_is (PrefixRule.sign_offset IsSign.plus) x h = let l = offset_label x h in rw l.1 (offset_is _ _ _)
prefix_is (PrefixRule.sign_offset IsSign.minus) x h = let l = offset_label x h in rw l.1 (offset_is _ _ _)
prefix_is PrefixRule.complement x h = let l = integer_label x h in rw l.1 (_, refl)
prefix_is PrefixRule.negation x h = let l = integer_label x h in rw l.1 (truth_is _)

pub to_integer_is : (w t : IntegerType) (x : Operand) → IsOfSort (Typed (IntegerOf w)) x →
    IsResult (IntegerOf t) (to_integer t (operand_label x))
unfolding to_integer
to_integer_is w t x h = let l = integer_label x h in rw l.1 (_, refl)

pub to_offset_is : (w : IntegerType) (m : ℕ) (t : IntegerType) (n : ℕ) (x : Operand) →
    IsOfSort (Typed (OffsetOf w m)) x → IsResult (OffsetOf t n) (to_offset t n (operand_label x))
unfolding to_offset
to_offset_is w m t n x h = let l = offset_label x h in rw l.1 (_, refl)

pub in_unit_is : (w : IntegerType) (n : ℕ) (x : Operand) → IsOfSort (Typed (IntegerOf w)) x →
    IsResult (OffsetOf w n) (in_unit n (operand_label x))
unfolding in_unit
in_unit_is w n x h = let l = integer_label x h in rw l.1 (l.0, refl)

offset_only : (v : IntegerType) (n : ℕ) (x : Operand) → IsOfSort (Typed (OffsetOf v n)) x →
    IsResult (OffsetOf v n) (number_only (operand_label x))
offset_only v n x h = let l = offset_label x h in rw l.1 (l.0, refl)

pub first_side_is : {s t r : PokeType} {c : Option IntegerType} → ChoiceRule s t c r → (x : Operand) →
    IsOfSort (Typed s) x → IsResult r (as_common c (operand_label x))
first_side_is (ChoiceRule.of_integers {v} {w}) x h = to_integer_is v (common v w) x h
first_side_is (ChoiceRule.of_offsets {v} {n}) x h = offset_only v n x h

pub second_side_is : {s t r : PokeType} {c : Option IntegerType} → ChoiceRule s t c r → (x : Operand) →
    IsOfSort (Typed t) x → IsResult r (as_common c (operand_label x))
second_side_is (ChoiceRule.of_integers {v} {w}) x h = to_integer_is w (common v w) x h
second_side_is (ChoiceRule.of_offsets {v} {n}) x h = offset_only v n x h

-- only `&&` and `||` are settled by their left side
pub settled_is : {op : Infix} {s t : Sort} {r : PokeType} → InfixRule op s t r →
    (o : Result Bool MapFaultKind) (u : Bool) → settled op o ≡ Some u → IsResult r (truth u)
settled_is (InfixRule.logical h) o u e = truth_is u
settled_is (InfixRule.arithmetic IsArithmetic.add) o u e = absurd (none-some u e)
settled_is (InfixRule.arithmetic IsArithmetic.subtract) o u e = absurd (none-some u e)
settled_is (InfixRule.arithmetic IsArithmetic.multiply) o u e = absurd (none-some u e)
settled_is (InfixRule.arithmetic IsArithmetic.divide) o u e = absurd (none-some u e)
settled_is (InfixRule.arithmetic IsArithmetic.remainder) o u e = absurd (none-some u e)
settled_is (InfixRule.arithmetic IsArithmetic.and_bits) o u e = absurd (none-some u e)
settled_is (InfixRule.arithmetic IsArithmetic.or_bits) o u e = absurd (none-some u e)
settled_is (InfixRule.arithmetic IsArithmetic.xor_bits) o u e = absurd (none-some u e)
settled_is (InfixRule.shift IsShift.left) o u e = absurd (none-some u e)
settled_is (InfixRule.shift IsShift.right) o u e = absurd (none-some u e)
settled_is (InfixRule.compare_integers h) o u e = truth_is u
settled_is (InfixRule.compare_offsets h) o u e = truth_is u
settled_is (InfixRule.text_right h) o u e = truth_is u
settled_is (InfixRule.text_left h) o u e = truth_is u
settled_is (InfixRule.offset_sum g IsOffsetSum.add is) o u e = absurd (none-some u e)
settled_is (InfixRule.offset_sum g IsOffsetSum.subtract is) o u e = absurd (none-some u e)
settled_is (InfixRule.offset_sum g IsOffsetSum.remainder is) o u e = absurd (none-some u e)
settled_is InfixRule.scale_right o u e = absurd (none-some u e)
settled_is InfixRule.scale_left o u e = absurd (none-some u e)
settled_is InfixRule.offset_quotient o u e = absurd (none-some u e)

-- the truth of an integer
pub truth_of_integer : (w : IntegerType) (x : Operand) → IsOfSort (Typed (IntegerOf w)) x →
    (u : Bool) × (truth_of (operand_label x) ≡ Ok u)
truth_of_integer w x h = let l = integer_label x h in rw l.1 (_, refl)
