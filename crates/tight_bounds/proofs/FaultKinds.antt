-- An expression, and so a condition, a label or a bound, has no fault after which a union tries its next alternative.
use Rattle.std.proofs.Common.{◌≡◌, ℕ, Bool, true, false, List, ℤ, pos, negsuc, Option, Some, None, Result, Ok, Err, refl}
use Rattle.std.specs.Prelude.{if◌then◌else◌, nat_lt, ◌+ℤ◌, ◌-ℤ◌, ◌*ℤ◌, neg_ℤ, int_div, int_rem}
use Rattle.pickle_tree.specs.declared.tree.Attribute.{Attribute}
use Rattle.pickle_tree.specs.declared.tree.Attribute.TheVariants as attribute
use Rattle.pickle_tree.specs.declared.tree.Prefix.{Prefix}
use Rattle.pickle_tree.specs.declared.tree.Prefix.TheVariants.{Plus, Minus, Complement, Not}
use Rattle.pickle_tree.specs.declared.tree.Infix.{Infix}
use Rattle.pickle_tree.specs.declared.tree.Infix.TheVariants.{LogicalOr, LogicalAnd, Equal, ShiftLeft, ShiftRight, Add, Subtract, Multiply, Divide, Remainder}
use Rattle.pickle_types.specs.declared.integer.IntegerType.{IntegerType}
use Rattle.pickle_types.specs.Types.{Term, Number, Text, Name, Bracket, Before, Between, Choice, Index, Select, AttributeOf, ToInteger, ToOffset, InUnit, Bound, Unbounded, ByCount, BySize}
use Rattle.pickle_types.specs.Operators.{common, greatest_divisor}
use Rattle.pickle_meaning.specs.declared.faults.MapFaultKind.{MapFaultKind}
use Rattle.pickle_meaning.specs.declared.faults.MapFaultKind.TheVariants as fault
use Rattle.pickle_meaning.specs.Values.{Label, IntegerLabel, OffsetLabel, TextLabel, ArrayLabel, Value, Mapped, member_count, member_at, Levels, value_at}
use Rattle.pickle_meaning.specs.Arithmetic.{Computed, converted, is_zero, brought, as_integer, as_offset, brought_integer, brought_offset, bits_in, prefixed, shifted_left, shifted_right, on_common, on_integers, on_bits, on_scaled, on_texts, combined, to_integer, to_offset, in_unit}
use Rattle.pickle_meaning.specs.Evaluation.{Operand, AtPath, operand_label, Evaluation, gives, present, leads_to, on_outcome, and_operand, truth_of, settled, unless_settled, chosen, number_only, as_common, selected, element, attribute_of, evaluation}
use Rattle.pickle_meaning.specs.Clauses.{FaultAt, told_at, kind_at, condition, not_negative, behind_start, field_start, count_of, size_of, extent_of, misses}

-- a kind of fault that ends a union
abbrev IsNoMiss : MapFaultKind → Type 0
IsNoMiss fault.Constraint = ⊥
IsNoMiss kind = Unit {0}

abbrev OfFault : {A : Type 0} → (MapFaultKind → Type 0) → Result A FaultAt → Type 0
OfFault P (Ok a) = Unit {0}
OfFault P (Err f) = P f.0

-- ---- expressions

-- a value, or a fault of another kind
abbrev KindIsNoMiss : {A : Type 0} → Result A MapFaultKind → Type 0
KindIsNoMiss (Ok a) = Unit {0}
KindIsNoMiss (Err kind) = IsNoMiss kind

kind_if : {A : Type 0} (b : Bool) (x y : Result A MapFaultKind) → KindIsNoMiss x → KindIsNoMiss y →
    KindIsNoMiss (if b then x else y)
kind_if true x y h g = h
kind_if false x y h g = g

brought_kind : (type : IntegerType) (z : ℤ) → KindIsNoMiss (brought type z)
unfolding brought
brought_kind type z = kind_if type.signed _ _ (kind_if _ (Ok z) (Err fault.Overflow) tt tt) tt

as_integer_kind : (type : IntegerType) (z : Result ℤ MapFaultKind) → KindIsNoMiss z → KindIsNoMiss (as_integer type z)
as_integer_kind type (Ok z) h = tt
as_integer_kind type (Err kind) h = h

as_offset_kind : (type : IntegerType) (unit : ℕ) (z : Result ℤ MapFaultKind) → KindIsNoMiss z →
    KindIsNoMiss (as_offset type unit z)
as_offset_kind type unit (Ok z) h = tt
as_offset_kind type unit (Err kind) h = h

integer_kind : (type : IntegerType) (z : ℤ) → KindIsNoMiss (brought_integer type z)
integer_kind type z = as_integer_kind type (brought type z) (brought_kind type z)

offset_kind : (type : IntegerType) (unit : ℕ) (z : ℤ) → KindIsNoMiss (brought_offset type unit z)
offset_kind type unit z = as_offset_kind type unit (brought type z) (brought_kind type z)

prefixed_kind : (op : Prefix) (x : Label) → KindIsNoMiss (prefixed op x)
unfolding prefixed
prefixed_kind Plus (IntegerLabel x type) = integer_kind type x
prefixed_kind Plus (OffsetLabel x type unit) = offset_kind type unit x
prefixed_kind Minus (IntegerLabel x type) = integer_kind type (neg_ℤ x)
prefixed_kind Minus (OffsetLabel x type unit) = offset_kind type unit (neg_ℤ x)
prefixed_kind Complement (IntegerLabel x type) = tt
prefixed_kind Not (IntegerLabel x type) = tt
prefixed_kind op x = tt

left_kind : (x : ℤ) (type : IntegerType) (n : ℤ) → KindIsNoMiss (shifted_left x type n)
unfolding shifted_left
left_kind x type (pos n) = kind_if _ _ (Err fault.Index) (integer_kind type _) tt
left_kind x type (negsuc n) = tt

right_kind : (x : ℤ) (type : IntegerType) (n : ℤ) → KindIsNoMiss (shifted_right x type n)
unfolding shifted_right
right_kind x type (pos n) = kind_if _ (Ok _) (Err fault.Index) tt tt
right_kind x type (negsuc n) = tt

common_kind : (op : Infix) (type : IntegerType) (x y : ℤ) → KindIsNoMiss (on_common op type x y)
unfolding on_common
common_kind Add type x y = integer_kind type (x +ℤ y)
common_kind Subtract type x y = integer_kind type (x -ℤ y)
common_kind Multiply type x y = integer_kind type (x *ℤ y)
common_kind Divide type x y = kind_if (is_zero y) (Err fault.Zero) _ tt (integer_kind type (int_div x y))
common_kind Remainder type x y = kind_if (is_zero y) (Err fault.Zero) _ tt (integer_kind type (int_rem x y))
common_kind op type x y = tt

integers_kind : (op : Infix) (x : ℤ) (t : IntegerType) (y : ℤ) (u : IntegerType) → KindIsNoMiss (on_integers op x t y u)
unfolding on_integers
integers_kind LogicalOr x t y u = tt
integers_kind LogicalAnd x t y u = tt
integers_kind ShiftLeft x t y u = left_kind x t y
integers_kind ShiftRight x t y u = right_kind x t y
integers_kind op x t y u = common_kind op (common t u) (converted (common t u) x) (converted (common t u) y)

bits_kind : (op : Infix) (type : IntegerType) (unit : ℕ) (x y : ℤ) → KindIsNoMiss (on_bits op type unit x y)
unfolding on_bits
bits_kind Add type unit x y = offset_kind type unit _
bits_kind Subtract type unit x y = offset_kind type unit _
bits_kind Divide type unit x y = kind_if (is_zero y) (Err fault.Zero) _ tt (integer_kind type (int_div x y))
bits_kind Remainder type unit x y = kind_if (is_zero y) (Err fault.Zero) _ tt (offset_kind type unit _)
bits_kind op type unit x y = tt

scaled_kind : (op : Infix) (type : IntegerType) (unit : ℕ) (x y : ℤ) → KindIsNoMiss (on_scaled op type unit x y)
unfolding on_scaled
scaled_kind Multiply type unit x y = offset_kind type unit (x *ℤ y)
scaled_kind op type unit x y = tt

texts_kind : (op : Infix) (x y : List ℕ) → KindIsNoMiss (on_texts op x y)
unfolding on_texts
texts_kind Equal x y = tt
texts_kind op x y = tt

combined_kind : (op : Infix) (x y : Label) → KindIsNoMiss (combined op x y)
unfolding combined
combined_kind op (IntegerLabel x t) (IntegerLabel y u) = integers_kind op x t y u
combined_kind op (IntegerLabel x t) (OffsetLabel y u n) = scaled_kind op (common t u) n x y
combined_kind op (OffsetLabel x t m) (IntegerLabel y u) = scaled_kind op (common t u) m x y
combined_kind op (OffsetLabel x t m) (OffsetLabel y u n) =
    bits_kind op (common t u) (greatest_divisor m n) (bits_in x m) (bits_in y n)
combined_kind op (TextLabel x) (TextLabel y) = texts_kind op x y
combined_kind op x y = tt

to_integer_kind : (type : IntegerType) (x : Label) → KindIsNoMiss (to_integer type x)
unfolding to_integer
to_integer_kind type (IntegerLabel x t) = tt
to_integer_kind type x = tt

to_offset_kind : (type : IntegerType) (unit : ℕ) (x : Label) → KindIsNoMiss (to_offset type unit x)
unfolding to_offset
to_offset_kind type unit (OffsetLabel x t n) = tt
to_offset_kind type unit x = tt

in_unit_kind : (unit : ℕ) (x : Label) → KindIsNoMiss (in_unit unit x)
unfolding in_unit
in_unit_kind unit (IntegerLabel x type) = tt
in_unit_kind unit x = tt

truth_kind : (x : Label) → KindIsNoMiss (truth_of x)
truth_kind (IntegerLabel x type) = tt
truth_kind x = tt

number_kind : (x : Label) → KindIsNoMiss (number_only x)
number_kind (IntegerLabel x type) = tt
number_kind x = tt

as_common_kind : (type : Option IntegerType) (x : Label) → KindIsNoMiss (as_common type x)
as_common_kind None x = number_kind x
as_common_kind (Some type) x = to_integer_kind type x

present_kind : (v : Option Value) → KindIsNoMiss (present v)
present_kind None = tt
present_kind (Some v) = tt

element_kind : (p : Operand) (i : Label) → KindIsNoMiss (element p i)
element_kind (AtPath (Mapped ArrayLabel start end members)) (IntegerLabel (pos i) type) =
    kind_if (nat_lt i (member_count members)) _ (Err fault.Index) (present_kind (member_at members i)) tt
element_kind (AtPath (Mapped ArrayLabel start end _)) (IntegerLabel (negsuc i) type) = tt
element_kind p i = tt

attribute_kind : (a : Attribute) (p : Operand) → KindIsNoMiss (attribute_of a p)
attribute_kind attribute.Length (AtPath (Mapped ArrayLabel start end _)) = tt
attribute_kind attribute.Size (AtPath (Mapped label start end _)) = tt
attribute_kind a p = tt

gives_kind : (c : Computed) → KindIsNoMiss c → KindIsNoMiss (gives c).outcome
gives_kind (Ok label) h = tt
gives_kind (Err kind) h = h

leads_kind : (r : Result Value MapFaultKind) → KindIsNoMiss r → KindIsNoMiss (leads_to r).outcome
leads_kind (Ok v) h = tt
leads_kind (Err kind) h = h

outcome_kind : (o : Result Operand MapFaultKind) (k : ℕ) (f : Operand → Evaluation) → KindIsNoMiss o →
    ((x : Operand) → KindIsNoMiss (f x).outcome) → KindIsNoMiss (on_outcome o k f).outcome
outcome_kind (Ok x) k f h g = g x
outcome_kind (Err kind) k f h g = h

operand_kind : (a : Evaluation) (f : Operand → Evaluation) → KindIsNoMiss a.outcome →
    ((x : Operand) → KindIsNoMiss (f x).outcome) → KindIsNoMiss (and_operand a f).outcome
unfolding and_operand
operand_kind a f h g = outcome_kind a.outcome a.steps f h g

unless_kind : (b : Option Bool) (a : Evaluation) → KindIsNoMiss a.outcome → KindIsNoMiss (unless_settled b a).outcome
unless_kind None a h = h
unless_kind (Some b) a h = tt

chosen_kind : (t : Result Bool MapFaultKind) (a b : Evaluation) → KindIsNoMiss t → KindIsNoMiss a.outcome →
    KindIsNoMiss b.outcome → KindIsNoMiss (chosen t a b).outcome
chosen_kind (Ok true) a b h f g = f
chosen_kind (Ok false) a b h f g = g
chosen_kind (Err kind) a b h f g = h

evaluation_kind : (e : Term) (levels : Levels) → KindIsNoMiss (evaluation e levels).outcome
unfolding evaluation
evaluation_kind (Number type value) levels = tt
evaluation_kind (Text bytes) levels = tt
evaluation_kind (Name level place) levels = leads_kind _ (present_kind (value_at levels level place))
evaluation_kind (Bracket e) levels = evaluation_kind e levels
evaluation_kind (Before op e) levels = operand_kind (evaluation e levels) _ (evaluation_kind e levels)
    (λ x. gives_kind _ (prefixed_kind op (operand_label x)))
evaluation_kind (Between op a b) levels =
    operand_kind (evaluation a levels) _ (evaluation_kind a levels)
    (λ x. unless_kind (settled op (truth_of (operand_label x))) _
    (operand_kind (evaluation b levels) _ (evaluation_kind b levels)
    (λ y. gives_kind _ (combined_kind op (operand_label x) (operand_label y)))))
evaluation_kind (Choice type c x y) levels =
    operand_kind (evaluation c levels) _ (evaluation_kind c levels)
    (λ t. operand_kind (chosen (truth_of (operand_label t)) (evaluation x levels) (evaluation y levels)) _
    (chosen_kind _ (evaluation x levels) (evaluation y levels) (truth_kind (operand_label t)) (evaluation_kind x levels)
    (evaluation_kind y levels))
    (λ z. gives_kind _ (as_common_kind type (operand_label z))))
evaluation_kind (Index e i) levels =
    operand_kind (evaluation e levels) _ (evaluation_kind e levels)
    (λ p. operand_kind (evaluation i levels) _ (evaluation_kind i levels)
    (λ n. leads_kind _ (element_kind p (operand_label n))))
evaluation_kind (Select e place) levels = operand_kind (evaluation e levels) _ (evaluation_kind e levels)
    (λ p. leads_kind _ (present_kind (selected p place)))
evaluation_kind (AttributeOf a e) levels =
    operand_kind (evaluation e levels) _ (evaluation_kind e levels) (λ p. gives_kind _ (attribute_kind a p))
evaluation_kind (ToInteger type e) levels = operand_kind (evaluation e levels) _ (evaluation_kind e levels)
    (λ x. gives_kind _ (to_integer_kind type (operand_label x)))
evaluation_kind (ToOffset type unit e) levels = operand_kind (evaluation e levels) _ (evaluation_kind e levels)
    (λ x. gives_kind _ (to_offset_kind type unit (operand_label x)))
evaluation_kind (InUnit unit e) levels = operand_kind (evaluation e levels) _ (evaluation_kind e levels)
    (λ x. gives_kind _ (in_unit_kind unit (operand_label x)))

-- ---- clauses

told_fault : {A : Type 0} (place : ℕ) (f : Label → Result A FaultAt) (o : Result Operand MapFaultKind) →
    KindIsNoMiss o →
    ((x : Label) → OfFault IsNoMiss (f x)) → OfFault IsNoMiss (told_at place f o)
told_fault place f (Ok x) h g = g (operand_label x)
told_fault place f (Err kind) h g = h

kind_fault : {A : Type 0} (place : ℕ) (r : Result A MapFaultKind) → KindIsNoMiss r → OfFault IsNoMiss (kind_at place r)
kind_fault place (Ok a) h = tt
kind_fault place (Err kind) h = h

condition_fault : (when : Option Term) (levels : Levels) (s : ℕ) → OfFault IsNoMiss (condition when levels s)
unfolding condition
condition_fault None levels s = tt
condition_fault (Some e) levels s = told_fault s _ (evaluation e levels).outcome (evaluation_kind e levels)
    (λ x. kind_fault s (truth_of x) (truth_kind x))

negative_fault : {A : Type 0} (s : ℕ) (f : ℕ → A) (z : ℤ) → OfFault IsNoMiss (not_negative s f z)
negative_fault s f (pos n) = tt
negative_fault s f (negsuc n) = tt

behind_fault : (s : ℕ) (x : Label) → OfFault IsNoMiss (behind_start s x)
behind_fault s (OffsetLabel x type unit) = negative_fault s _ (bits_in x unit)
behind_fault s x = tt

start_fault : (pinned : Bool) (label : Option Term) (levels : Levels) (s last_end : ℕ) →
    OfFault IsNoMiss (field_start pinned label levels s last_end)
unfolding field_start
start_fault true label levels s last_end = tt
start_fault false None levels s last_end = tt
start_fault false (Some e) levels s last_end =
    told_fault s _ (evaluation e levels).outcome (evaluation_kind e levels) (behind_fault s)

count_fault : (s : ℕ) (x : Label) → OfFault IsNoMiss (count_of s x)
count_fault s (IntegerLabel x type) = negative_fault s _ x
count_fault s x = tt

size_fault : (s : ℕ) (x : Label) → OfFault IsNoMiss (size_of s x)
size_fault s (OffsetLabel x type unit) = negative_fault s _ (bits_in x unit)
size_fault s x = tt

extent_fault : (bound : Bound) (levels : Levels) (s : ℕ) → OfFault IsNoMiss (extent_of bound levels s)
unfolding extent_of
extent_fault Unbounded levels s = tt
extent_fault (ByCount e) levels s =
    told_fault s _ (evaluation e levels).outcome (evaluation_kind e levels) (count_fault s)
extent_fault (BySize e) levels s =
    told_fault s _ (evaluation e levels).outcome (evaluation_kind e levels) (size_fault s)

-- ---- none of them misses

no_miss : (kind : MapFaultKind) → IsNoMiss kind → misses kind ≡ false
no_miss fault.End h = refl
no_miss fault.Constraint h = absurd h
no_miss fault.Bounds h = refl
no_miss fault.NoBits h = refl
no_miss fault.Zero h = refl
no_miss fault.Overflow h = refl
no_miss fault.Absent h = refl
no_miss fault.Index h = refl
no_miss fault.Limit h = refl
no_miss fault.Device h = refl
no_miss fault.Memory h = refl

of_no_miss : {A : Type 0} (r : Result A FaultAt) (f : FaultAt) → OfFault IsNoMiss r → r ≡ Err f → misses f.0 ≡ false
of_no_miss r f h e = let g = rw e at h in no_miss f.0 g

pub condition_no_miss : (when : Option Term) (levels : Levels) (s : ℕ) (f : FaultAt) → condition when levels s ≡ Err f →
    misses f.0 ≡ false
condition_no_miss when levels s f e = of_no_miss _ f (condition_fault when levels s) e

pub start_no_miss : (pinned : Bool) (label : Option Term) (levels : Levels) (s behind : ℕ) (f : FaultAt) →
    field_start pinned label levels s behind ≡ Err f → misses f.0 ≡ false
start_no_miss pinned label levels s behind f e = of_no_miss _ f (start_fault pinned label levels s behind) e

pub bound_no_miss : (bound : Bound) (levels : Levels) (s : ℕ) (f : FaultAt) → extent_of bound levels s ≡ Err f →
    misses f.0 ≡ false
bound_no_miss bound levels s f e = of_no_miss _ f (extent_fault bound levels s) e
