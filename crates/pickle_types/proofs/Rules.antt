-- The type of an expression is found exactly where the rules give it one.
use Rattle.std.proofs.Common.{◌≡◌, ℕ, zero, suc, ◌<◌, ◌≤◌, ◌%◌, List, Option, Some, None, Result, Ok, Err, Bool, true, false, refl, sym, ap, arith, eqb-true}
use Rattle.std.specs.Prelude.{IfOk, nat_le, nat_eq, ◌&&◌, if◌then◌else◌}
use Rattle.std.specs.Int.{IsGcd}
use Rattle.std.proofs.lemmas.Bool.{and_parts, leb-true, le-leb, ltb-true, lt-ltb, eq-eqb}
use Rattle.std.proofs.lemmas.Nat.Gcd.{IsGcd-from_zero, IsGcd-from_mod, same_from_IsGcd}
use Rattle.pickle_tree.specs.declared.tree.Number.{Number as Numeral}
use Rattle.pickle_tree.specs.declared.tree.Attribute.TheVariants.{Length, Size}
use Rattle.pickle_tree.specs.declared.tree.Prefix.{Prefix}
use Rattle.pickle_tree.specs.declared.tree.Prefix.TheVariants.{Plus, Minus, Complement, Not}
use Rattle.pickle_tree.specs.declared.tree.Infix.{Infix}
use Rattle.pickle_tree.specs.declared.tree.Infix.TheVariants.{LogicalOr, LogicalAnd, BitOr, BitXor, BitAnd, Equal, NotEqual, Less, LessEqual, Greater, GreaterEqual, ShiftLeft, ShiftRight, Add, Subtract, Multiply, Divide, Remainder}
use Rattle.pickle_tree.specs.declared.tree.Unit.{Unit as PokeUnit}
use Rattle.pickle_tree.specs.declared.tree.Unit.TheVariants as unit
use Rattle.pickle_tree.specs.Tree.{Tree, TreeReference, Int, Uint, Called, TreeTarget, ToReference, TreeSuffix}
use Rattle.pickle_tree.specs.Tree as tree
use Rattle.pickle_types.specs.declared.integer.IntegerType.{IntegerType}
use Rattle.pickle_types.specs.declared.fault.FaultKind.{FaultKind}
use Rattle.pickle_types.specs.declared.fault.FaultKind.TheVariants.{UnknownType, UnknownName, Mismatch, Width}
use Rattle.pickle_types.specs.declared.check.operators.Scalar.{Scalar}
use Rattle.pickle_types.specs.declared.check.operators.Scalar.TheVariants.{Integer, Offset}
use Rattle.pickle_types.specs.Types.{Term, Bound, PokeType, IntegerOf, OffsetOf, StringOf, ArrayOf, StructOf, IntegralOf, UnionOf, Fields, Parts}
use Rattle.pickle_types.specs.Scopes.{Visible, resolve}
use Rattle.pickle_types.specs.Names.{Names, find_type}
use Rattle.pickle_types.specs.Operators.{whole, common, divisor_in, greatest_divisor, arithmetic, sum, product, quotient, shift, logic, comparison, between_numbers, between_texts, between, before, choice, same_sign, same_type, number_in}
use Rattle.pickle_types.specs.Expressions.{◌>>=◌, or_wrong, Sort, TextLiteral, Typed, scalar_type, scalar_sort, type_operand, operand_of, type_in, sort_element, find_field, find_part, field_in, sort_field, integer_or_wrong, in_range, referred, operand_referred, integer_referred, unit_bits, offset_referred, target_type, converted, is_path, if_path, common_in, is_held, number_meant, Meant, suffixed, typed}
use Rattle.pickle_types.specs.WellTyped.{IsArithmetic, IsLogical, both, either, IsShift, left, right, IsEquality, same, different, IsComparison, equality, less, at_most, greater, at_least, IsOffsetSum, InfixRule, IsSign, plus, minus, PrefixRule, ChoiceRule, Refers, HasBits, Converts, IsPath, HasField, IsHeld, HasSort}
use Rattle.pickle_types.specs.WellTyped as rule

-- what holds after two steps in a row
pub bind_if : {A B : Type 0} (P : A → Type 0) (Q : B → Type 0) (r : Result A FaultKind) (f : A → Result B FaultKind) →
    IfOk r P → ((a : A) → P a → IfOk (f a) Q) → IfOk (r >>= f) Q
bind_if P Q (Ok a) f h step = step a h
bind_if P Q (Err e) f h step = tt

pub some_is : {A : Type 0} (kind : FaultKind) (o : Option A) → IfOk (or_wrong kind o) (λ x. o ≡ Some x)
some_is kind None = tt
some_is kind (Some x) = refl

divisor_is : (n a b : ℕ) → b < n → IsGcd a b (divisor_in n a b)
unfolding divisor_in
divisor_is zero a b lt = absurd (omega arith)
divisor_is (suc n) a zero lt = IsGcd-from_zero a 0 refl
divisor_is (suc n) a (suc b) lt =
    let less : a % suc b < n = omega arith in
    IsGcd-from_mod a (suc b) _ (divisor_is n (suc b) (a % suc b) less)

pub greatest_divisor_is : (a b : ℕ) → IsGcd a b (greatest_divisor a b)
unfolding greatest_divisor
greatest_divisor_is a b = divisor_is (suc b) a b (omega arith)

abbrev Follows : Infix → Sort → Sort → Option Scalar → Type 0
Follows op s t o = IfOk (or_wrong Mismatch o) (λ r. InfixRule op s t (scalar_type r))

arithmetic_sound : (op : Infix) → IsArithmetic op → (a b : Scalar) →
    Follows op (scalar_sort a) (scalar_sort b) (arithmetic a b)
arithmetic_sound op h (Integer a) (Integer b) = rule.arithmetic h
arithmetic_sound op h (Integer a) (Offset b v) = tt
arithmetic_sound op h (Offset a u) s = tt

sum_sound : (op : Infix) → IsArithmetic op → IsOffsetSum op → (a b : Scalar) →
    Follows op (scalar_sort a) (scalar_sort b) (sum a b)
sum_sound op h g (Integer a) (Integer b) = rule.arithmetic h
sum_sound op h g (Integer a) (Offset b v) = tt
sum_sound op h g (Offset a u) (Integer b) = tt
sum_sound op h g (Offset a u) (Offset b v) = rule.offset_sum (greatest_divisor u v) g (greatest_divisor_is u v)

product_sound : (a b : Scalar) → Follows Multiply (scalar_sort a) (scalar_sort b) (product a b)
product_sound (Integer a) (Integer b) = rule.arithmetic rule.multiply
product_sound (Integer a) (Offset b v) = rule.scale_right
product_sound (Offset a u) (Integer b) = rule.scale_left
product_sound (Offset a u) (Offset b v) = tt

quotient_sound : (a b : Scalar) → Follows Divide (scalar_sort a) (scalar_sort b) (quotient a b)
quotient_sound (Integer a) (Integer b) = rule.arithmetic rule.divide
quotient_sound (Integer a) (Offset b v) = tt
quotient_sound (Offset a u) (Integer b) = tt
quotient_sound (Offset a u) (Offset b v) = rule.offset_quotient

shift_sound : (op : Infix) → IsShift op → (a b : Scalar) → Follows op (scalar_sort a) (scalar_sort b) (shift a b)
shift_sound op h (Integer a) (Integer b) = rule.shift h
shift_sound op h (Integer a) (Offset b v) = tt
shift_sound op h (Offset a u) s = tt

logic_sound : (op : Infix) → IsLogical op → (a b : Scalar) → Follows op (scalar_sort a) (scalar_sort b) (logic a b)
logic_sound op h (Integer a) (Integer b) = rule.logical h
logic_sound op h (Integer a) (Offset b v) = tt
logic_sound op h (Offset a u) s = tt

comparison_sound : (op : Infix) → IsComparison op → (a b : Scalar) →
    Follows op (scalar_sort a) (scalar_sort b) (comparison a b)
comparison_sound op h (Integer a) (Integer b) = rule.compare_integers h
comparison_sound op h (Integer a) (Offset b v) = tt
comparison_sound op h (Offset a u) (Integer b) = tt
comparison_sound op h (Offset a u) (Offset b v) = rule.compare_offsets h

numbers_sound : (op : Infix) (a b : Scalar) → Follows op (scalar_sort a) (scalar_sort b) (between_numbers op a b)
numbers_sound LogicalOr = logic_sound LogicalOr either
numbers_sound LogicalAnd = logic_sound LogicalAnd both
numbers_sound BitOr = arithmetic_sound BitOr rule.or_bits
numbers_sound BitXor = arithmetic_sound BitXor rule.xor_bits
numbers_sound BitAnd = arithmetic_sound BitAnd rule.and_bits
numbers_sound Equal = comparison_sound Equal (equality same)
numbers_sound NotEqual = comparison_sound NotEqual (equality different)
numbers_sound Less = comparison_sound Less less
numbers_sound LessEqual = comparison_sound LessEqual at_most
numbers_sound Greater = comparison_sound Greater greater
numbers_sound GreaterEqual = comparison_sound GreaterEqual at_least
numbers_sound ShiftLeft = shift_sound ShiftLeft left
numbers_sound ShiftRight = shift_sound ShiftRight right
numbers_sound Add = sum_sound Add IsArithmetic.add IsOffsetSum.add
numbers_sound Subtract = sum_sound Subtract IsArithmetic.subtract IsOffsetSum.subtract
numbers_sound Multiply = product_sound
numbers_sound Divide = quotient_sound
numbers_sound Remainder = sum_sound Remainder IsArithmetic.remainder IsOffsetSum.remainder

right_sound : (op : Infix) → Follows op (Typed StringOf) TextLiteral (between_texts op)
right_sound Equal = rule.text_right same
right_sound NotEqual = rule.text_right different
right_sound _ = tt

left_sound : (op : Infix) → Follows op TextLiteral (Typed StringOf) (between_texts op)
left_sound Equal = rule.text_left same
left_sound NotEqual = rule.text_left different
left_sound _ = tt

between_sound : (op : Infix) (s t : Sort) → Follows op s t (between op (operand_of s) (operand_of t))
between_sound op TextLiteral TextLiteral = tt
between_sound op TextLiteral (Typed (IntegerOf w)) = tt
between_sound op TextLiteral (Typed (OffsetOf w n)) = tt
between_sound op TextLiteral (Typed StringOf) = left_sound op
between_sound op TextLiteral (Typed (ArrayOf f c)) = tt
between_sound op TextLiteral (Typed (StructOf i q fs)) = tt
between_sound op TextLiteral (Typed (IntegralOf i k ps)) = tt
between_sound op TextLiteral (Typed (UnionOf i ps)) = tt
between_sound op (Typed (IntegerOf v)) TextLiteral = tt
between_sound op (Typed (IntegerOf v)) (Typed (IntegerOf w)) = numbers_sound op (Integer v) (Integer w)
between_sound op (Typed (IntegerOf v)) (Typed (OffsetOf w n)) = numbers_sound op (Integer v) (Offset w n)
between_sound op (Typed (IntegerOf v)) (Typed StringOf) = tt
between_sound op (Typed (IntegerOf v)) (Typed (ArrayOf f c)) = tt
between_sound op (Typed (IntegerOf v)) (Typed (StructOf i q fs)) = tt
between_sound op (Typed (IntegerOf v)) (Typed (IntegralOf i k ps)) = tt
between_sound op (Typed (IntegerOf v)) (Typed (UnionOf i ps)) = tt
between_sound op (Typed (OffsetOf v m)) TextLiteral = tt
between_sound op (Typed (OffsetOf v m)) (Typed (IntegerOf w)) = numbers_sound op (Offset v m) (Integer w)
between_sound op (Typed (OffsetOf v m)) (Typed (OffsetOf w n)) = numbers_sound op (Offset v m) (Offset w n)
between_sound op (Typed (OffsetOf v m)) (Typed StringOf) = tt
between_sound op (Typed (OffsetOf v m)) (Typed (ArrayOf f c)) = tt
between_sound op (Typed (OffsetOf v m)) (Typed (StructOf i q fs)) = tt
between_sound op (Typed (OffsetOf v m)) (Typed (IntegralOf i k ps)) = tt
between_sound op (Typed (OffsetOf v m)) (Typed (UnionOf i ps)) = tt
between_sound op (Typed StringOf) TextLiteral = right_sound op
between_sound op (Typed StringOf) (Typed (IntegerOf w)) = tt
between_sound op (Typed StringOf) (Typed (OffsetOf w n)) = tt
between_sound op (Typed StringOf) (Typed StringOf) = tt
between_sound op (Typed StringOf) (Typed (ArrayOf f c)) = tt
between_sound op (Typed StringOf) (Typed (StructOf i q fs)) = tt
between_sound op (Typed StringOf) (Typed (IntegralOf i k ps)) = tt
between_sound op (Typed StringOf) (Typed (UnionOf i ps)) = tt
between_sound op (Typed (ArrayOf e b)) t = tt
between_sound op (Typed (StructOf name pinned gs)) t = tt
between_sound op (Typed (IntegralOf name number gs)) t = tt
between_sound op (Typed (UnionOf name gs)) t = tt

before_sound : (op : Prefix) (s : Sort) → IfOk (or_wrong Mismatch (before op (operand_of s)))
    (λ r. (t : PokeType) × (s ≡ Typed t) × PrefixRule op t (scalar_type r))
before_sound op TextLiteral = tt
before_sound Plus (Typed (IntegerOf v)) = (IntegerOf v, refl, rule.sign_integer plus)
before_sound Minus (Typed (IntegerOf v)) = (IntegerOf v, refl, rule.sign_integer minus)
before_sound Complement (Typed (IntegerOf v)) = (IntegerOf v, refl, rule.complement)
before_sound Not (Typed (IntegerOf v)) = (IntegerOf v, refl, rule.negation)
before_sound Plus (Typed (OffsetOf v m)) = (OffsetOf v m, refl, rule.sign_offset plus)
before_sound Minus (Typed (OffsetOf v m)) = (OffsetOf v m, refl, rule.sign_offset minus)
before_sound Complement (Typed (OffsetOf v m)) = tt
before_sound Not (Typed (OffsetOf v m)) = tt
before_sound op (Typed StringOf) = tt
before_sound op (Typed (ArrayOf e b)) = tt
before_sound op (Typed (StructOf name pinned gs)) = tt
before_sound op (Typed (IntegralOf name number gs)) = tt
before_sound op (Typed (UnionOf name gs)) = tt

same_sign_is : (a b : Bool) → same_sign a b ≡ true → a ≡ b
same_sign_is true b h = sym h
same_sign_is false true h = cc
same_sign_is false false h = refl

same_sign_whole : (a : Bool) → same_sign a a ≡ true
same_sign_whole true = refl
same_sign_whole false = refl

same_type_is : (a b : IntegerType) → same_type a b ≡ true → a ≡ b
same_type_is a b h =
    let parts = and_parts _ _ h in
    let w : a.width ≡ b.width = eqb-true _ _ parts.0 in
    let s : a.signed ≡ b.signed = same_sign_is _ _ parts.1 in
    let e : whole a.width a.signed ≡ whole b.width b.signed = rw (w, s) refl in e

abbrev Chooses : Sort → Sort → Option Scalar → Type 0
Chooses s t o = IfOk (or_wrong Mismatch o) (λ r. (a : PokeType) × (b : PokeType) × (s ≡ Typed a) × (t ≡ Typed b)
    × ChoiceRule a b (common_in r) (scalar_type r))

offsets_sound : (v w : IntegerType) (m n : ℕ) (c : Bool) → (same_type v w && nat_eq m n) ≡ c →
    Chooses (Typed (OffsetOf v m)) (Typed (OffsetOf w n)) (if c then Some (Offset v m) else None)
offsets_sound v w m n true e =
    let parts = and_parts _ _ e in
    let type = same_type_is v w parts.0 in
    let unit : m ≡ n = eqb-true _ _ parts.1 in
    let P : ChoiceRule (OffsetOf v m) (OffsetOf w n) None (OffsetOf v m) = rw (← type, ← unit) rule.of_offsets in
    (OffsetOf v m, OffsetOf w n, refl, refl, P)
offsets_sound v w m n false e = tt

choice_sound : (s t : Sort) → Chooses s t (choice (operand_of s) (operand_of t))
choice_sound TextLiteral t = tt
choice_sound (Typed (IntegerOf v)) TextLiteral = tt
choice_sound (Typed (IntegerOf v)) (Typed (IntegerOf w)) = (IntegerOf v, IntegerOf w, refl, refl, rule.of_integers)
choice_sound (Typed (IntegerOf v)) (Typed (OffsetOf w n)) = tt
choice_sound (Typed (IntegerOf v)) (Typed StringOf) = tt
choice_sound (Typed (IntegerOf v)) (Typed (ArrayOf f c)) = tt
choice_sound (Typed (IntegerOf v)) (Typed (StructOf i q fs)) = tt
choice_sound (Typed (IntegerOf v)) (Typed (IntegralOf i k ps)) = tt
choice_sound (Typed (IntegerOf v)) (Typed (UnionOf i ps)) = tt
choice_sound (Typed (OffsetOf v m)) TextLiteral = tt
choice_sound (Typed (OffsetOf v m)) (Typed (IntegerOf w)) = tt
choice_sound (Typed (OffsetOf v m)) (Typed (OffsetOf w n)) = offsets_sound v w m n _ refl
choice_sound (Typed (OffsetOf v m)) (Typed StringOf) = tt
choice_sound (Typed (OffsetOf v m)) (Typed (ArrayOf f c)) = tt
choice_sound (Typed (OffsetOf v m)) (Typed (StructOf i q fs)) = tt
choice_sound (Typed (OffsetOf v m)) (Typed (IntegralOf i k ps)) = tt
choice_sound (Typed (OffsetOf v m)) (Typed (UnionOf i ps)) = tt
choice_sound (Typed StringOf) t = tt
choice_sound (Typed (ArrayOf e b)) t = tt
choice_sound (Typed (StructOf name pinned gs)) t = tt
choice_sound (Typed (IntegralOf name number gs)) t = tt
choice_sound (Typed (UnionOf name gs)) t = tt

type_is : (s : Sort) → IfOk (or_wrong Mismatch (type_in s)) (λ t. s ≡ Typed t)
type_is TextLiteral = tt
type_is (Typed (IntegerOf v)) = refl
type_is (Typed (OffsetOf v m)) = refl
type_is (Typed StringOf) = refl
type_is (Typed (ArrayOf e b)) = refl
type_is (Typed (StructOf name pinned gs)) = refl
type_is (Typed (IntegralOf name number gs)) = refl
type_is (Typed (UnionOf name gs)) = refl

pub number_is : (s : Sort) → IfOk (or_wrong Mismatch (number_in (operand_of s))) (λ a. s ≡ scalar_sort a)
number_is TextLiteral = tt
number_is (Typed (IntegerOf v)) = refl
number_is (Typed (OffsetOf v m)) = refl
number_is (Typed StringOf) = tt
number_is (Typed (ArrayOf e b)) = tt
number_is (Typed (StructOf name pinned gs)) = tt
number_is (Typed (IntegralOf name number gs)) = tt
number_is (Typed (UnionOf name gs)) = tt

pub integer_is : (s : Sort) → IfOk (integer_or_wrong s) (λ w. s ≡ Typed (IntegerOf w))
integer_is TextLiteral = tt
integer_is (Typed (IntegerOf v)) = refl
integer_is (Typed (OffsetOf v m)) = tt
integer_is (Typed StringOf) = tt
integer_is (Typed (ArrayOf e b)) = tt
integer_is (Typed (StructOf name pinned gs)) = tt
integer_is (Typed (IntegralOf name number gs)) = tt
integer_is (Typed (UnionOf name gs)) = tt

element_is : (s : Sort) → IfOk (or_wrong Mismatch (sort_element s)) (λ t. (b : Bound) × (s ≡ Typed (ArrayOf t b)))
element_is TextLiteral = tt
element_is (Typed (IntegerOf v)) = tt
element_is (Typed (OffsetOf v m)) = tt
element_is (Typed StringOf) = tt
element_is (Typed (ArrayOf e b)) = (b, refl)
element_is (Typed (StructOf name pinned gs)) = tt
element_is (Typed (IntegralOf name number gs)) = tt
element_is (Typed (UnionOf name gs)) = tt

abbrev IsField : List ℕ → Sort → Result (ℕ × PokeType) FaultKind → Type 0
IsField word s r = IfOk r (λ f. (t : PokeType) × (s ≡ Typed t) × HasField t word f.0 f.1)

struct_field : (word : List ℕ) (name : Option (List ℕ)) (pinned : Bool) (fs : Fields) (o : Option (ℕ × PokeType)) →
    find_field 0 word fs ≡ o → IsField word (Typed (StructOf name pinned fs)) (or_wrong UnknownName o)
struct_field word name pinned fs None e = tt
struct_field word name pinned fs (Some x) e = (StructOf name pinned fs, refl, rule.of_struct e)

integral_field : (word : List ℕ) (name : Option (List ℕ)) (number : IntegerType) (ps : Parts)
    (o : Option (ℕ × PokeType)) →
    find_part 0 word ps ≡ o → IsField word (Typed (IntegralOf name number ps)) (or_wrong UnknownName o)
integral_field word name number ps None e = tt
integral_field word name number ps (Some x) e = (IntegralOf name number ps, refl, HasField.of_integral e)

union_field : (word : List ℕ) (name : Option (List ℕ)) (ps : Parts) (o : Option (ℕ × PokeType)) →
    find_part 0 word ps ≡ o → IsField word (Typed (UnionOf name ps)) (or_wrong UnknownName o)
union_field word name ps None e = tt
union_field word name ps (Some x) e = (UnionOf name ps, refl, rule.of_union e)

field_is : (word : List ℕ) (s : Sort) → IsField word s (sort_field word s)
field_is word TextLiteral = tt
field_is word (Typed (IntegerOf v)) = tt
field_is word (Typed (OffsetOf v m)) = tt
field_is word (Typed StringOf) = tt
field_is word (Typed (ArrayOf e b)) = tt
field_is word (Typed (StructOf name pinned gs)) = struct_field word name pinned gs _ refl
field_is word (Typed (IntegralOf name number gs)) = integral_field word name number gs _ refl
field_is word (Typed (UnionOf name gs)) = union_field word name gs _ refl

range_sound : (signed : Bool) (n : ℕ) (b : Bool) → (nat_le 1 n && nat_le n 64) ≡ b →
    IfOk (if b then Ok (whole n signed) else Err Width) (λ t. (t ≡ whole n signed) × (1 ≤ n) × (n ≤ 64))
range_sound signed n true e = let parts = and_parts _ _ e in (refl, leb-true _ _ parts.0, leb-true _ _ parts.1)
range_sound signed n false e = tt

in_range_sound : (signed : Bool) (n : ℕ) → IfOk (in_range signed n) (λ t. (t ≡ whole n signed) × (1 ≤ n) × (n ≤ 64))
in_range_sound signed n = range_sound signed n _ refl

pub in_range_whole : (signed : Bool) (n : ℕ) → 1 ≤ n → n ≤ 64 → in_range signed n ≡ Ok (whole n signed)
in_range_whole signed n some most = rw (le-leb _ _ some, le-leb _ _ most) refl

bits_sound : (n : Numeral) (b : Bool) → (nat_le 1 n.value && nat_le n.value 4294967295) ≡ b →
    IfOk (if b then Ok n.value else Err Width) (λ m. HasBits (unit.Bits n) m)
bits_sound n true e = let parts = and_parts _ _ e in rule.number (leb-true _ _ parts.0) (leb-true _ _ parts.1)
bits_sound n false e = tt

pub unit_sound : (u : PokeUnit) → IfOk (unit_bits u) (HasBits u)
unit_sound unit.Bit = rule.bit
unit_sound unit.Byte = rule.byte
unit_sound (unit.Bits n) = bits_sound n _ refl

pub unit_whole : (u : PokeUnit) (n : ℕ) → HasBits u n → unit_bits u ≡ Ok n
unit_whole _ _ rule.bit = refl
unit_whole _ _ rule.byte = refl
unit_whole _ _ (rule.number some most) = rw (le-leb _ _ some, le-leb _ _ most) refl

pub held_sound : (n : Numeral) → is_held n ≡ true → IsHeld n
held_sound n e =
    let a = and_parts _ _ e in
    let b = and_parts _ _ a.0 in
    record { some = leb-true _ _ b.0; most = leb-true _ _ b.1; small = ltb-true _ _ a.1 }

held_whole : (n : Numeral) → IsHeld n → is_held n ≡ true
held_whole n h = rw (le-leb _ _ h.some, le-leb _ _ h.most, lt-ltb _ _ h.small) refl

path_sound : (e : Tree) → is_path e ≡ true → IsPath e
path_sound (tree.Literal n) h = cc
path_sound (tree.Character b) h = cc
path_sound (tree.Text bytes) h = cc
path_sound (tree.Name word) h = IsPath.name
path_sound (tree.Bracket e) h = IsPath.bracket (path_sound e h)
path_sound (tree.Before op e) h = cc
path_sound (tree.Between op a b) h = cc
path_sound (tree.Choice c x y) h = cc
path_sound (tree.Index e i) h = IsPath.element (path_sound e h)
path_sound (tree.After e (tree.Select word)) h = IsPath.field (path_sound e h)
path_sound (tree.After e (tree.AttributeOf attribute)) h = cc
path_sound (tree.After e (tree.InUnit u)) h = cc
path_sound (tree.After e (tree.Convert target)) h = cc

path_whole : (e : Tree) → IsPath e → is_path e ≡ true
path_whole _ IsPath.name = refl
path_whole _ (IsPath.bracket h) = path_whole _ h
path_whole _ (IsPath.element h) = path_whole _ h
path_whole _ (IsPath.field h) = path_whole _ h

if_path_is : (b : Bool) → IfOk (if_path b) (λ u. b ≡ true)
if_path_is true = refl
if_path_is false = tt

module _ (names : Names) where
  pub referred_sound : (r : TreeReference) → IfOk (referred names r) (Refers names r)
  referred_sound (Int n) = bind_if _ (Refers names (Int n)) (in_range true n.value) _ (in_range_sound true n.value)
      (λ t h. rw h.0 (rule.signed h.1 h.2))
  referred_sound (Uint n) = bind_if _ (Refers names (Uint n)) (in_range false n.value) _ (in_range_sound false n.value)
      (λ t h. rw h.0 (rule.unsigned h.1 h.2))
  referred_sound (Called word) = if_called (find_type word names) refl
    where
      if_called : (o : Option PokeType) → find_type word names ≡ o →
          IfOk (or_wrong UnknownType o) (Refers names (Called word))
      if_called None e = tt
      if_called (Some t) e = rule.called e

  pub referred_whole : (r : TreeReference) (t : PokeType) → Refers names r t → referred names r ≡ Ok t
  referred_whole _ _ (rule.signed some most) = rw (in_range_whole _ _ some most) refl
  referred_whole _ _ (rule.unsigned some most) = rw (in_range_whole _ _ some most) refl
  referred_whole _ _ (rule.called e) = rw e refl

  operand_referred_sound : (r : TreeReference) →
      IfOk (operand_referred names r) (λ o. (t : PokeType) × (o ≡ type_operand t) × Refers names r t)
  operand_referred_sound r = bind_if (Refers names r) _ (referred names r) _ (referred_sound r) (λ t h. (t, refl, h))

  pub integer_referred_sound : (r : TreeReference) → IfOk (integer_referred names r) (λ t. Refers names r (IntegerOf t))
  integer_referred_sound r = bind_if (λ o. (t : PokeType) × (o ≡ type_operand t) × Refers names r t) _
      (operand_referred names r) _ (operand_referred_sound r) (λ o h.
      rw h.1 (let is = integer_is (Typed h.0) in
      of_integer h.0 h.2 (integer_or_wrong (Typed h.0)) is))
    where
      of_integer : (t : PokeType) → Refers names r t → (x : Result IntegerType FaultKind) →
          IfOk x (λ w. Typed t ≡ Typed (IntegerOf w)) → IfOk x (λ w. Refers names r (IntegerOf w))
      of_integer t h (Ok w) is = let e : t ≡ IntegerOf w = cc in rw e at h
      of_integer t h (Err e) is = tt

  pub integer_referred_whole : (r : TreeReference) (t : IntegerType) → Refers names r (IntegerOf t) →
      integer_referred names r ≡ Ok t
  integer_referred_whole r t h = rw (referred_whole _ _ h) refl

  pub offset_referred_sound : (r : TreeReference) (u : PokeUnit) → IfOk (offset_referred names r u)
      (λ s. (t : IntegerType) × (n : ℕ) × (s ≡ Offset t n) × Refers names r (IntegerOf t) × HasBits u n)
  offset_referred_sound r u =
      bind_if (λ t. Refers names r (IntegerOf t)) _ (integer_referred names r) _ (integer_referred_sound r) (λ t h.
      bind_if (HasBits u) _ (unit_bits u) _ (unit_sound u) (λ n g. (t, n, refl, h, g)))

  pub offset_referred_whole : (r : TreeReference) (u : PokeUnit) (t : IntegerType) (n : ℕ) →
      Refers names r (IntegerOf t) → HasBits u n → offset_referred names r u ≡ Ok (Offset t n)
  offset_referred_whole r u t n h g = rw (integer_referred_whole _ _ h, unit_whole _ _ g) refl

  abbrev IsTarget : TreeTarget → Scalar → Type 0
  IsTarget target s = (a : IntegerType) (m : ℕ) (x : Term) →
      IfOk (or_wrong Mismatch (converted s (Integer a) x))
      (λ y. Converts names target x (IntegerOf a) y (scalar_type s))
      × IfOk (or_wrong Mismatch (converted s (Offset a m) x))
      (λ y. Converts names target x (OffsetOf a m) y (scalar_type s))

  reference_target : (r : TreeReference) (t : PokeType) → Refers names r t →
      IfOk (or_wrong Mismatch (number_in (type_operand t))) (IsTarget (ToReference r))
  reference_target r (IntegerOf t) h = λ a m x. (rule.to_integer h, tt)
  reference_target r (OffsetOf t n) h = λ a m x. (tt, rule.to_named_offset h)
  reference_target r StringOf h = tt
  reference_target r (ArrayOf e b) h = tt
  reference_target r (StructOf name pinned fs) h = tt
  reference_target r (IntegralOf name number ps) h = tt
  reference_target r (UnionOf name ps) h = tt

  target_sound : (target : TreeTarget) → IfOk (target_type names target) (IsTarget target)
  target_sound (ToReference r) = bind_if (λ o. (t : PokeType) × (o ≡ type_operand t) × Refers names r t) _
      (operand_referred names r) _ (operand_referred_sound r) (λ o h. rw h.1 (reference_target r h.0 h.2))
  target_sound (tree.ToOffset r u) =
      bind_if (λ t. Refers names r (IntegerOf t)) _ (integer_referred names r) _ (integer_referred_sound r) (λ t h.
      bind_if (HasBits u) _ (unit_bits u) _ (unit_sound u) (λ n g. λ a m x. (tt, rule.to_offset h g)))

  scalar_target : (target : TreeTarget) (s a : Scalar) (x : Term) → IsTarget target s →
      IfOk (or_wrong Mismatch (converted s a x)) (λ y. Converts names target x (scalar_type a) y (scalar_type s))
  scalar_target target s (Integer a) x h = (h a 0 x).0
  scalar_target target s (Offset a m) x h = (h a m x).1

  module _ (seen : List Visible) (levels : ℕ) where
    abbrev IsMeant : Tree → Meant → Type 0
    IsMeant e x = HasSort names seen levels e x.0 x.1

    path_typed : (e : Tree) (x : Term) (s : Sort) → IsPath e → HasSort names seen levels e x s →
        (t : PokeType) × (s ≡ Typed t)
    path_typed _ _ _ IsPath.name (HasSort.name v is) = (v.type, refl)
    path_typed _ _ _ (IsPath.bracket p) (HasSort.bracket {t = t} h) = (t, refl)
    path_typed _ _ _ (IsPath.element p) (HasSort.index {t = t} bound w h g) = (t, refl)
    path_typed _ _ _ (IsPath.field p) (HasSort.select {r = r} t h f) = (r, refl)

    suffix_sound : (suffix : TreeSuffix) (e : Tree) (x : Meant) → IsMeant e x →
        IfOk (suffixed names (is_path e) suffix x) (IsMeant (tree.After e suffix))
    suffix_sound (tree.Select word) e x h =
        bind_if _ (IsMeant (tree.After e (tree.Select word))) (sort_field word x.1) _ (field_is word x.1)
        (λ f is. HasSort.select is.0 (rw is.1 at h) is.2)
    suffix_sound (tree.AttributeOf Length) e x h =
        bind_if _ (IsMeant (tree.After e (tree.AttributeOf Length))) (or_wrong Mismatch (sort_element x.1)) _
        (element_is x.1) (λ t is. HasSort.count t is.0 (rw is.1 at h))
    suffix_sound (tree.AttributeOf Size) e x h =
        bind_if _ (IsMeant (tree.After e (tree.AttributeOf Size))) (if_path (is_path e)) _
        (if_path_is (is_path e)) (λ u is.
        let path = path_sound e is in
        let typed = path_typed e x.0 x.1 path h in
        HasSort.size typed.0 path (rw typed.1 at h))
    suffix_sound (tree.InUnit u) e x h =
        bind_if _ (IsMeant (tree.After e (tree.InUnit u))) (integer_or_wrong x.1) _ (integer_is x.1) (λ t is.
        bind_if (HasBits u) _ (unit_bits u) _ (unit_sound u) (λ n g. HasSort.in_unit (rw is at h) g))
    suffix_sound (tree.Convert target) e x h =
        bind_if _ (IsMeant (tree.After e (tree.Convert target))) (or_wrong Mismatch (number_in (operand_of x.1))) _
        (number_is x.1) (λ a is.
        bind_if (IsTarget target) _ (target_type names target) _ (target_sound target) (λ s g.
        bind_if (λ y. Converts names target x.0 (scalar_type a) y (scalar_type s)) _
        (or_wrong Mismatch (converted s a x.0)) _ (scalar_target target s a x.0 g) (λ y c.
        HasSort.convert (scalar_type a) (rw is at h) c)))

    number_sound : (n : Numeral) (b : Bool) → is_held n ≡ b → IfOk (number_meant n) (IsMeant (tree.Literal n))
    number_sound n true e = rw e (HasSort.literal (held_sound n e))
    number_sound n false e = rw e tt

    pub typed_sound : (e : Tree) → IfOk (typed names seen levels e) (IsMeant e)
    unfolding typed
    typed_sound (tree.Literal n) = number_sound n _ refl
    typed_sound (tree.Character b) = HasSort.character
    typed_sound (tree.Text bytes) = HasSort.text
    typed_sound (tree.Name word) = bind_if _ (IsMeant (tree.Name word)) (or_wrong UnknownName (resolve word seen)) _
        (some_is UnknownName (resolve word seen)) (λ v is. HasSort.name v is)
    typed_sound (tree.Bracket e) =
        bind_if (IsMeant e) _ (typed names seen levels e) _ (typed_sound e) (λ x h.
        bind_if _ (IsMeant (tree.Bracket e)) (or_wrong Mismatch (type_in x.1)) _ (type_is x.1)
        (λ t is. HasSort.bracket (rw is at h)))
    typed_sound (tree.Before op e) =
        bind_if (IsMeant e) _ (typed names seen levels e) _ (typed_sound e) (λ x h.
        bind_if _ (IsMeant (tree.Before op e)) (or_wrong Mismatch (before op (operand_of x.1))) _ (before_sound op x.1)
        (λ s is. HasSort.before is.0 (rw is.1 at h) is.2))
    typed_sound (tree.Between op a b) =
        bind_if (IsMeant a) _ (typed names seen levels a) _ (typed_sound a) (λ x h.
        bind_if (IsMeant b) _ (typed names seen levels b) _ (typed_sound b) (λ y g.
        bind_if _ (IsMeant (tree.Between op a b)) (or_wrong Mismatch (between op (operand_of x.1) (operand_of y.1))) _
        (between_sound op x.1 y.1) (λ s is. HasSort.between x.1 y.1 h g is)))
    typed_sound (tree.Choice c a b) =
        bind_if (IsMeant c) _ (typed names seen levels c) _ (typed_sound c) (λ z k.
        bind_if _ (IsMeant (tree.Choice c a b)) (integer_or_wrong z.1) _ (integer_is z.1) (λ w at.
        bind_if (IsMeant a) _ (typed names seen levels a) _ (typed_sound a) (λ x h.
        bind_if (IsMeant b) _ (typed names seen levels b) _ (typed_sound b) (λ y g.
        bind_if _ (IsMeant (tree.Choice c a b)) (or_wrong Mismatch (choice (operand_of x.1) (operand_of y.1))) _
        (choice_sound x.1 y.1) (λ s is.
        HasSort.choice w is.0 is.1 (rw at at k) (rw is.2 at h) (rw is.3 at g) is.4)))))
    typed_sound (tree.Index e i) =
        bind_if (IsMeant e) _ (typed names seen levels e) _ (typed_sound e) (λ x h.
        bind_if _ (IsMeant (tree.Index e i)) (or_wrong Mismatch (sort_element x.1)) _ (element_is x.1) (λ t is.
        bind_if (IsMeant i) _ (typed names seen levels i) _ (typed_sound i) (λ y g.
        bind_if _ (IsMeant (tree.Index e i)) (integer_or_wrong y.1) _ (integer_is y.1)
        (λ w at. HasSort.index is.0 w (rw is.1 at h) (rw at at g)))))
    typed_sound (tree.After e suffix) =
        bind_if (IsMeant e) _ (typed names seen levels e) _ (typed_sound e) (λ x h. suffix_sound suffix e x h)

before_whole : (op : Prefix) (t r : PokeType) → PrefixRule op t r →
    (s : Scalar) × (before op (type_operand t) ≡ Some s) × (scalar_type s ≡ r)
before_whole _ _ _ (rule.sign_integer {v = v} plus) = (Integer v, refl, refl)
before_whole _ _ _ (rule.sign_integer {v = v} minus) = (Integer v, refl, refl)
before_whole _ _ _ (rule.sign_offset {v = v} {n = n} plus) = (Offset v n, refl, refl)
before_whole _ _ _ (rule.sign_offset {v = v} {n = n} minus) = (Offset v n, refl, refl)
before_whole _ _ _ (rule.complement {v = v}) = (Integer v, refl, refl)
before_whole _ _ _ rule.negation = (Integer (whole 32 true), refl, refl)

module _ (v w : IntegerType) where
  arithmetic_whole : (op : Infix) → IsArithmetic op →
      between_numbers op (Integer v) (Integer w) ≡ Some (Integer (common v w))
  arithmetic_whole _ IsArithmetic.add = refl
  arithmetic_whole _ IsArithmetic.subtract = refl
  arithmetic_whole _ IsArithmetic.multiply = refl
  arithmetic_whole _ IsArithmetic.divide = refl
  arithmetic_whole _ IsArithmetic.remainder = refl
  arithmetic_whole _ IsArithmetic.and_bits = refl
  arithmetic_whole _ IsArithmetic.or_bits = refl
  arithmetic_whole _ IsArithmetic.xor_bits = refl

  shift_whole : (op : Infix) → IsShift op → between_numbers op (Integer v) (Integer w) ≡ Some (Integer v)
  shift_whole _ left = refl
  shift_whole _ right = refl

  logical_whole : (op : Infix) → IsLogical op →
      between_numbers op (Integer v) (Integer w) ≡ Some (Integer (whole 32 true))
  logical_whole _ both = refl
  logical_whole _ either = refl

  comparison_whole : (op : Infix) → IsComparison op →
      between_numbers op (Integer v) (Integer w) ≡ Some (Integer (whole 32 true))
  comparison_whole _ (equality same) = refl
  comparison_whole _ (equality different) = refl
  comparison_whole _ less = refl
  comparison_whole _ at_most = refl
  comparison_whole _ greater = refl
  comparison_whole _ at_least = refl

  offsets_whole : (m n : ℕ) (op : Infix) → IsComparison op →
      between_numbers op (Offset v m) (Offset w n) ≡ Some (Integer (whole 32 true))
  offsets_whole m n _ (equality same) = refl
  offsets_whole m n _ (equality different) = refl
  offsets_whole m n _ less = refl
  offsets_whole m n _ at_most = refl
  offsets_whole m n _ greater = refl
  offsets_whole m n _ at_least = refl

  sum_whole : (m n g : ℕ) (op : Infix) → IsOffsetSum op → IsGcd m n g →
      between_numbers op (Offset v m) (Offset w n) ≡ Some (Offset (common v w) g)
  sum_whole m n g _ IsOffsetSum.add is =
      ap (λ u. Some (Offset (common v w) u)) (same_from_IsGcd m n (greatest_divisor m n) g (greatest_divisor_is m n) is)
  sum_whole m n g _ IsOffsetSum.subtract is =
      ap (λ u. Some (Offset (common v w) u)) (same_from_IsGcd m n (greatest_divisor m n) g (greatest_divisor_is m n) is)
  sum_whole m n g _ IsOffsetSum.remainder is =
      ap (λ u. Some (Offset (common v w) u)) (same_from_IsGcd m n (greatest_divisor m n) g (greatest_divisor_is m n) is)

texts_whole : (op : Infix) → IsEquality op → between_texts op ≡ Some (Integer (whole 32 true))
texts_whole _ same = refl
texts_whole _ different = refl

between_whole : (op : Infix) (s t : Sort) (r : PokeType) → InfixRule op s t r →
    (p : Scalar) × (between op (operand_of s) (operand_of t) ≡ Some p) × (scalar_type p ≡ r)
between_whole _ _ _ _ (rule.arithmetic {v = v} {w = w} h) = (Integer (common v w), arithmetic_whole v w _ h, refl)
between_whole _ _ _ _ (rule.logical {v = v} {w = w} h) = (Integer (whole 32 true), logical_whole v w _ h, refl)
between_whole _ _ _ _ (rule.shift {v = v} {w = w} h) = (Integer v, shift_whole v w _ h, refl)
between_whole _ _ _ _ (rule.compare_integers {v = v} {w = w} h) =
    (Integer (whole 32 true), comparison_whole v w _ h, refl)
between_whole _ _ _ _ (rule.compare_offsets {v = v} {w = w} {m = m} {n = n} h) =
    (Integer (whole 32 true), offsets_whole v w m n _ h, refl)
between_whole _ _ _ _ (rule.text_right h) = (Integer (whole 32 true), texts_whole _ h, refl)
between_whole _ _ _ _ (rule.text_left h) = (Integer (whole 32 true), texts_whole _ h, refl)
between_whole _ _ _ _ (rule.offset_sum {v = v} {w = w} {m = m} {n = n} g h is) =
    (Offset (common v w) g, sum_whole v w m n g _ h is, refl)
between_whole _ _ _ _ (rule.scale_right {v = v} {w = w} {n = n}) = (Offset (common v w) n, refl, refl)
between_whole _ _ _ _ (rule.scale_left {v = v} {w = w} {m = m}) = (Offset (common v w) m, refl, refl)
between_whole _ _ _ _ (rule.offset_quotient {v = v} {w = w}) = (Integer (common v w), refl, refl)

-- a choice that is well typed
record Chosen (s t : PokeType) (c : Option IntegerType) (r : PokeType) : Type 0 where
  type : Scalar
  is : choice (type_operand s) (type_operand t) ≡ Some type
  common_is : common_in type ≡ c
  type_is : scalar_type type ≡ r

choice_whole : (s t : PokeType) (c : Option IntegerType) (r : PokeType) → ChoiceRule s t c r → Chosen s t c r
choice_whole _ _ _ _ (rule.of_integers {v = v} {w = w}) =
    record { type = Integer (common v w); is = refl; common_is = refl; type_is = refl }
choice_whole _ _ _ _ (rule.of_offsets {v = v} {n = n}) =
    record {
      type = Offset v n;
      is = rw (eq-eqb v.width v.width refl, same_sign_whole v.signed, eq-eqb n n refl) refl;
      common_is = refl;
      type_is = refl;
    }

field_whole : (t : PokeType) (word : List ℕ) (n : ℕ) (r : PokeType) → HasField t word n r → field_in word t ≡ Ok (n, r)
field_whole _ _ _ _ (rule.of_struct is) = rw is refl
field_whole _ _ _ _ (HasField.of_integral is) = rw is refl
field_whole _ _ _ _ (rule.of_union is) = rw is refl

module _ (names : Names) where
  convert_whole : (path : Bool) (target : TreeTarget) (x : Term) (t : PokeType) (y : Term) (r : PokeType) →
      Converts names target x t y r →
      suffixed names path (tree.Convert target) (x, Typed t) ≡ Ok (y, Typed r)
  convert_whole path _ _ _ _ _ (rule.to_integer h) = rw (referred_whole names _ _ h) refl
  convert_whole path _ _ _ _ _ (rule.to_named_offset h) = rw (referred_whole names _ _ h) refl
  convert_whole path _ _ _ _ _ (rule.to_offset h g) = rw (offset_referred_whole names _ _ _ _ h g) refl

  module _ (seen : List Visible) (levels : ℕ) where
    pub typed_whole : (e : Tree) (x : Term) (s : Sort) → HasSort names seen levels e x s →
        typed names seen levels e ≡ Ok (x, s)
    unfolding typed
    typed_whole _ _ _ (HasSort.literal h) = rw (held_whole _ h) refl
    typed_whole _ _ _ HasSort.character = refl
    typed_whole _ _ _ HasSort.text = refl
    typed_whole _ _ _ (HasSort.name v is) = rw is refl
    typed_whole _ _ _ (HasSort.bracket h) = rw (typed_whole _ _ _ h) refl
    typed_whole _ _ _ (HasSort.before t h p) = let q = before_whole _ _ _ p in rw (typed_whole _ _ _ h, q.1, q.2) refl
    typed_whole _ _ _ (HasSort.between s t h g p) =
        let q = between_whole _ _ _ _ p in rw (typed_whole _ _ _ h, typed_whole _ _ _ g, q.1, q.2) refl
    typed_whole _ _ _ (HasSort.choice w s t k h g p) =
        let q = choice_whole _ _ _ _ p in
        rw (typed_whole _ _ _ k, typed_whole _ _ _ h, typed_whole _ _ _ g, q.is, q.common_is, q.type_is) refl
    typed_whole _ _ _ (HasSort.index bound w h g) = rw (typed_whole _ _ _ h, typed_whole _ _ _ g) refl
    typed_whole _ _ _ (HasSort.select t h f) = rw (typed_whole _ _ _ h, field_whole _ _ _ _ f) refl
    typed_whole _ _ _ (HasSort.count t bound h) = rw (typed_whole _ _ _ h) refl
    typed_whole _ _ _ (HasSort.size t p h) = rw (typed_whole _ _ _ h, path_whole _ p) refl
    typed_whole _ _ _ (HasSort.in_unit h g) = rw (typed_whole _ _ _ h, unit_whole _ _ g) refl
    typed_whole _ _ _ (HasSort.convert {e = e} t h c) = rw (typed_whole _ _ _ h) (convert_whole (is_path e) _ _ _ _ _ c)
