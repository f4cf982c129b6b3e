-- What a type means never has one of the faults of a run.
use Rattle.std.proofs.Common.{◌≡◌, ℕ, zero, suc, ◌+◌, ◌-◌, ◌/◌, max, Bool, true, false, List, [], ◌∷◌, ◌++◌, ℤ, pos, negsuc, Option, Some, None, Result, Ok, Err}
use Rattle.std.specs.Prelude.{if◌then◌else◌, nat_lt, nat_le, nat_eq, ◌+ℤ◌, ◌-ℤ◌, ◌*ℤ◌, neg_ℤ, int_div, int_rem}
use Rattle.bit_space.specs.declared.order.Order.{Order}
use Rattle.pickle_tree.specs.declared.tree.Attribute.{Attribute}
use Rattle.pickle_tree.specs.declared.tree.Attribute.TheVariants as attribute
use Rattle.pickle_tree.specs.declared.tree.Prefix.{Prefix}
use Rattle.pickle_tree.specs.declared.tree.Prefix.TheVariants.{Plus, Minus, Complement, Not}
use Rattle.pickle_tree.specs.declared.tree.Infix.{Infix}
use Rattle.pickle_tree.specs.declared.tree.Infix.TheVariants.{LogicalOr, LogicalAnd, Equal, ShiftLeft, ShiftRight, Add, Subtract, Multiply, Divide, Remainder}
use Rattle.pickle_types.specs.declared.integer.IntegerType.{IntegerType}
use Rattle.pickle_types.specs.Types.{Term, Number, Text, Name, Bracket, Before, Between, Choice, Index, Select, AttributeOf, ToInteger, ToOffset, InUnit, Bound, Unbounded, ByCount, BySize, PokeType, IntegerOf, OffsetOf, StringOf, ArrayOf, StructOf, IntegralOf, UnionOf, Fields, NoFields, FieldThen, Parts, NoParts, PartThen}
use Rattle.pickle_types.specs.Bounds.{least_width}
use Rattle.pickle_types.specs.Bounds as bounds
use Rattle.pickle_types.specs.Operators.{common, greatest_divisor}
use Rattle.pickle_meaning.specs.declared.extent.Extent.{Extent}
use Rattle.pickle_meaning.specs.declared.faults.MapFaultKind.{MapFaultKind}
use Rattle.pickle_meaning.specs.declared.faults.MapFaultKind.TheVariants as fault
use Rattle.pickle_meaning.specs.Values.{Label, IntegerLabel, OffsetLabel, TextLabel, ArrayLabel, Value, Mapped, end_of, member_count, member_at, Naming, Levels, value_at, pushed, opened}
use Rattle.pickle_meaning.specs.Arithmetic.{Computed, converted, is_zero, brought, as_integer, as_offset, brought_integer, brought_offset, bits_in, prefixed, shifted_left, shifted_right, on_common, on_integers, on_bits, on_scaled, on_texts, combined, to_integer, to_offset, in_unit}
use Rattle.pickle_meaning.specs.Evaluation.{Operand, AtPath, operand_label, Evaluation, gives, present, leads_to, on_outcome, and_operand, truth_of, settled, unless_settled, chosen, number_only, as_common, selected, element, attribute_of, evaluation}
use Rattle.pickle_meaning.specs.Clauses.{FaultAt, told_at, kind_at, satisfied, constraint, condition, not_negative, behind_start, field_start, count_of, size_of, extent_of, is_due, is_met, ends_before, misses}
use Rattle.pickle_map.specs.FaultKinds.{IsMeant, OfFault}
use Rattle.value_store.specs.Moves.{State}
use Rattle.pickle_map.specs.Follows.{World, Done, Follows}
use Rattle.mapping_plans.proofs.InRow.{element_always}
use Rattle.mapping_plans.specs.Rows.{row_of}
use Rattle.mapping_plans.specs.Mapping.{from_inside, constrained, number_plan, digits_plan, read_plan, after_byte, text_plan, after_element, element_plan, elements_plan, after_attempt, plan, fields_plan, alternatives_plan}
use Rattle.pickle_meaning.specs.Means.{Opened, Taken, number_type, width_in, first_digits, ordered}
use Rattle.mapping_plans.specs.Plan.{Plan, after, on_value, then_ok, leave_frame, framed, Always, result, after_tick, after_made, after_read}
use Rattle.mapping_plans.proofs.Always.{of_result, after_always, then_always}
use Rattle.pickle_map.proofs.Followed.{walk_keeps}

-- ---- expressions

-- a value, or a fault of a meaning
abbrev KindIsMeant : {A : Type 0} → Result A MapFaultKind → Type 0
KindIsMeant (Ok a) = Unit {0}
KindIsMeant (Err kind) = IsMeant kind

kind_if : {A : Type 0} (b : Bool) (x y : Result A MapFaultKind) → KindIsMeant x → KindIsMeant y →
    KindIsMeant (if b then x else y)
kind_if true x y h g = h
kind_if false x y h g = g

brought_kind : (type : IntegerType) (z : ℤ) → KindIsMeant (brought type z)
unfolding brought
brought_kind type z = kind_if type.signed _ _ (kind_if _ (Ok z) (Err fault.Overflow) tt tt) tt

as_integer_kind : (type : IntegerType) (z : Result ℤ MapFaultKind) → KindIsMeant z → KindIsMeant (as_integer type z)
as_integer_kind type (Ok z) h = tt
as_integer_kind type (Err kind) h = h

as_offset_kind : (type : IntegerType) (unit : ℕ) (z : Result ℤ MapFaultKind) → KindIsMeant z →
    KindIsMeant (as_offset type unit z)
as_offset_kind type unit (Ok z) h = tt
as_offset_kind type unit (Err kind) h = h

integer_kind : (type : IntegerType) (z : ℤ) → KindIsMeant (brought_integer type z)
integer_kind type z = as_integer_kind type (brought type z) (brought_kind type z)

offset_kind : (type : IntegerType) (unit : ℕ) (z : ℤ) → KindIsMeant (brought_offset type unit z)
offset_kind type unit z = as_offset_kind type unit (brought type z) (brought_kind type z)

prefixed_kind : (op : Prefix) (x : Label) → KindIsMeant (prefixed op x)
unfolding prefixed
prefixed_kind Plus (IntegerLabel x type) = integer_kind type x
prefixed_kind Plus (OffsetLabel x type unit) = offset_kind type unit x
prefixed_kind Minus (IntegerLabel x type) = integer_kind type (neg_ℤ x)
prefixed_kind Minus (OffsetLabel x type unit) = offset_kind type unit (neg_ℤ x)
prefixed_kind Complement (IntegerLabel x type) = tt
prefixed_kind Not (IntegerLabel x type) = tt
prefixed_kind op x = tt

left_kind : (x : ℤ) (type : IntegerType) (n : ℤ) → KindIsMeant (shifted_left x type n)
unfolding shifted_left
left_kind x type (pos n) = kind_if _ _ (Err fault.Index) (integer_kind type _) tt
left_kind x type (negsuc n) = tt

right_kind : (x : ℤ) (type : IntegerType) (n : ℤ) → KindIsMeant (shifted_right x type n)
unfolding shifted_right
right_kind x type (pos n) = kind_if _ (Ok _) (Err fault.Index) tt tt
right_kind x type (negsuc n) = tt

common_kind : (op : Infix) (type : IntegerType) (x y : ℤ) → KindIsMeant (on_common op type x y)
unfolding on_common
common_kind Add type x y = integer_kind type (x +ℤ y)
common_kind Subtract type x y = integer_kind type (x -ℤ y)
common_kind Multiply type x y = integer_kind type (x *ℤ y)
common_kind Divide type x y = kind_if (is_zero y) (Err fault.Zero) _ tt (integer_kind type (int_div x y))
common_kind Remainder type x y = kind_if (is_zero y) (Err fault.Zero) _ tt (integer_kind type (int_rem x y))
common_kind op type x y = tt

integers_kind : (op : Infix) (x : ℤ) (t : IntegerType) (y : ℤ) (u : IntegerType) → KindIsMeant (on_integers op x t y u)
unfolding on_integers
integers_kind LogicalOr x t y u = tt
integers_kind LogicalAnd x t y u = tt
integers_kind ShiftLeft x t y u = left_kind x t y
integers_kind ShiftRight x t y u = right_kind x t y
integers_kind op x t y u = common_kind op (common t u) (converted (common t u) x) (converted (common t u) y)

bits_kind : (op : Infix) (type : IntegerType) (unit : ℕ) (x y : ℤ) → KindIsMeant (on_bits op type unit x y)
unfolding on_bits
bits_kind Add type unit x y = offset_kind type unit _
bits_kind Subtract type unit x y = offset_kind type unit _
bits_kind Divide type unit x y = kind_if (is_zero y) (Err fault.Zero) _ tt (integer_kind type (int_div x y))
bits_kind Remainder type unit x y = kind_if (is_zero y) (Err fault.Zero) _ tt (offset_kind type unit _)
bits_kind op type unit x y = tt

scaled_kind : (op : Infix) (type : IntegerType) (unit : ℕ) (x y : ℤ) → KindIsMeant (on_scaled op type unit x y)
unfolding on_scaled
scaled_kind Multiply type unit x y = offset_kind type unit (x *ℤ y)
scaled_kind op type unit x y = tt

texts_kind : (op : Infix) (x y : List ℕ) → KindIsMeant (on_texts op x y)
unfolding on_texts
texts_kind Equal x y = tt
texts_kind op x y = tt

combined_kind : (op : Infix) (x y : Label) → KindIsMeant (combined op x y)
unfolding combined
combined_kind op (IntegerLabel x t) (IntegerLabel y u) = integers_kind op x t y u
combined_kind op (IntegerLabel x t) (OffsetLabel y u n) = scaled_kind op (common t u) n x y
combined_kind op (OffsetLabel x t m) (IntegerLabel y u) = scaled_kind op (common t u) m x y
combined_kind op (OffsetLabel x t m) (OffsetLabel y u n) =
    bits_kind op (common t u) (greatest_divisor m n) (bits_in x m) (bits_in y n)
combined_kind op (TextLabel x) (TextLabel y) = texts_kind op x y
combined_kind op x y = tt

to_integer_kind : (type : IntegerType) (x : Label) → KindIsMeant (to_integer type x)
unfolding to_integer
to_integer_kind type (IntegerLabel x t) = tt
to_integer_kind type x = tt

to_offset_kind : (type : IntegerType) (unit : ℕ) (x : Label) → KindIsMeant (to_offset type unit x)
unfolding to_offset
to_offset_kind type unit (OffsetLabel x t n) = tt
to_offset_kind type unit x = tt

in_unit_kind : (unit : ℕ) (x : Label) → KindIsMeant (in_unit unit x)
unfolding in_unit
in_unit_kind unit (IntegerLabel x type) = tt
in_unit_kind unit x = tt

truth_kind : (x : Label) → KindIsMeant (truth_of x)
truth_kind (IntegerLabel x type) = tt
truth_kind x = tt

number_kind : (x : Label) → KindIsMeant (number_only x)
number_kind (IntegerLabel x type) = tt
number_kind x = tt

as_common_kind : (type : Option IntegerType) (x : Label) → KindIsMeant (as_common type x)
as_common_kind None x = number_kind x
as_common_kind (Some type) x = to_integer_kind type x

present_kind : (v : Option Value) → KindIsMeant (present v)
present_kind None = tt
present_kind (Some v) = tt

element_kind : (p : Operand) (i : Label) → KindIsMeant (element p i)
element_kind (AtPath (Mapped ArrayLabel start end members)) (IntegerLabel (pos i) type) =
    kind_if (nat_lt i (member_count members)) _ (Err fault.Index) (present_kind (member_at members i)) tt
element_kind (AtPath (Mapped ArrayLabel start end _)) (IntegerLabel (negsuc i) type) = tt
element_kind p i = tt

attribute_kind : (a : Attribute) (p : Operand) → KindIsMeant (attribute_of a p)
attribute_kind attribute.Length (AtPath (Mapped ArrayLabel start end _)) = tt
attribute_kind attribute.Size (AtPath (Mapped label start end _)) = tt
attribute_kind a p = tt

gives_kind : (c : Computed) → KindIsMeant c → KindIsMeant (gives c).outcome
gives_kind (Ok label) h = tt
gives_kind (Err kind) h = h

leads_kind : (r : Result Value MapFaultKind) → KindIsMeant r → KindIsMeant (leads_to r).outcome
leads_kind (Ok v) h = tt
leads_kind (Err kind) h = h

outcome_kind : (o : Result Operand MapFaultKind) (k : ℕ) (f : Operand → Evaluation) → KindIsMeant o →
    ((x : Operand) → KindIsMeant (f x).outcome) → KindIsMeant (on_outcome o k f).outcome
outcome_kind (Ok x) k f h g = g x
outcome_kind (Err kind) k f h g = h

operand_kind : (a : Evaluation) (f : Operand → Evaluation) → KindIsMeant a.outcome →
    ((x : Operand) → KindIsMeant (f x).outcome) → KindIsMeant (and_operand a f).outcome
unfolding and_operand
operand_kind a f h g = outcome_kind a.outcome a.steps f h g

unless_kind : (b : Option Bool) (a : Evaluation) → KindIsMeant a.outcome → KindIsMeant (unless_settled b a).outcome
unless_kind None a h = h
unless_kind (Some b) a h = tt

chosen_kind : (t : Result Bool MapFaultKind) (a b : Evaluation) → KindIsMeant t → KindIsMeant a.outcome →
    KindIsMeant b.outcome → KindIsMeant (chosen t a b).outcome
chosen_kind (Ok true) a b h f g = f
chosen_kind (Ok false) a b h f g = g
chosen_kind (Err kind) a b h f g = h

evaluation_kind : (e : Term) (levels : Levels) → KindIsMeant (evaluation e levels).outcome
unfolding evaluation
evaluation_kind (Number type value) levels = tt
evaluation_kind (Text bytes) levels = tt
evaluation_kind (Name level place) levels = leads_kind _ (present_kind (value_at levels level place))
evaluation_kind (Bracket e) levels = evaluation_kind e levels
evaluation_kind (Before op e) levels = operand_kind (evaluation e levels) _ (evaluation_kind e levels)
    (λ x. gives_kind _ (prefixed_kind op (operand_label x)))
evaluation_kind (Between op a b) levels =
    operand_kind (evaluation a levels) _ (evaluation_kind a levels)
    (λ x. unless_kind (settled op (truth_of (operand_label x))) _
    (operand_kind (evaluation b levels) _ (evaluation_kind b levels)
    (λ y. gives_kind _ (combined_kind op (operand_label x) (operand_label y)))))
evaluation_kind (Choice type c x y) levels =
    operand_kind (evaluation c levels) _ (evaluation_kind c levels)
    (λ t. operand_kind (chosen (truth_of (operand_label t)) (evaluation x levels) (evaluation y levels)) _
    (chosen_kind _ (evaluation x levels) (evaluation y levels) (truth_kind (operand_label t)) (evaluation_kind x levels)
    (evaluation_kind y levels))
    (λ z. gives_kind _ (as_common_kind type (operand_label z))))
evaluation_kind (Index e i) levels =
    operand_kind (evaluation e levels) _ (evaluation_kind e levels)
    (λ p. operand_kind (evaluation i levels) _ (evaluation_kind i levels)
    (λ n. leads_kind _ (element_kind p (operand_label n))))
evaluation_kind (Select e place) levels = operand_kind (evaluation e levels) _ (evaluation_kind e levels)
    (λ p. leads_kind _ (present_kind (selected p place)))
evaluation_kind (AttributeOf a e) levels =
    operand_kind (evaluation e levels) _ (evaluation_kind e levels) (λ p. gives_kind _ (attribute_kind a p))
evaluation_kind (ToInteger type e) levels = operand_kind (evaluation e levels) _ (evaluation_kind e levels)
    (λ x. gives_kind _ (to_integer_kind type (operand_label x)))
evaluation_kind (ToOffset type unit e) levels = operand_kind (evaluation e levels) _ (evaluation_kind e levels)
    (λ x. gives_kind _ (to_offset_kind type unit (operand_label x)))
evaluation_kind (InUnit unit e) levels = operand_kind (evaluation e levels) _ (evaluation_kind e levels)
    (λ x. gives_kind _ (in_unit_kind unit (operand_label x)))

-- the same for a fault alone
pub evaluation_fault : (e : Term) (levels : Levels) {kind : MapFaultKind} →
    (evaluation e levels).outcome ≡ Err kind → IsMeant kind
evaluation_fault e levels h = let k = evaluation_kind e levels in let k = rw h at k in k

-- ---- clauses

told_fault : {A : Type 0} (place : ℕ) (f : Label → Result A FaultAt) (o : Result Operand MapFaultKind) → KindIsMeant o →
    ((x : Label) → OfFault IsMeant (f x)) → OfFault IsMeant (told_at place f o)
told_fault place f (Ok x) h g = g (operand_label x)
told_fault place f (Err kind) h g = h

satisfied_fault : (place : ℕ) (t : Result Bool MapFaultKind) → KindIsMeant t → OfFault IsMeant (satisfied place t)
satisfied_fault place (Ok true) h = tt
satisfied_fault place (Ok false) h = tt
satisfied_fault place (Err kind) h = h

kind_fault : {A : Type 0} (place : ℕ) (r : Result A MapFaultKind) → KindIsMeant r → OfFault IsMeant (kind_at place r)
kind_fault place (Ok a) h = tt
kind_fault place (Err kind) h = h

constraint_fault : (c : Option Term) (levels : Levels) (place : ℕ) → OfFault IsMeant (constraint c levels place)
unfolding constraint
constraint_fault None levels place = tt
constraint_fault (Some e) levels place = told_fault place _ (evaluation e levels).outcome (evaluation_kind e levels)
    (λ x. satisfied_fault place (truth_of x) (truth_kind x))

condition_fault : (when : Option Term) (levels : Levels) (s : ℕ) → OfFault IsMeant (condition when levels s)
unfolding condition
condition_fault None levels s = tt
condition_fault (Some e) levels s = told_fault s _ (evaluation e levels).outcome (evaluation_kind e levels)
    (λ x. kind_fault s (truth_of x) (truth_kind x))

negative_fault : {A : Type 0} (s : ℕ) (f : ℕ → A) (z : ℤ) → OfFault IsMeant (not_negative s f z)
negative_fault s f (pos n) = tt
negative_fault s f (negsuc n) = tt

behind_fault : (s : ℕ) (x : Label) → OfFault IsMeant (behind_start s x)
behind_fault s (OffsetLabel x type unit) = negative_fault s _ (bits_in x unit)
behind_fault s x = tt

start_fault : (pinned : Bool) (label : Option Term) (levels : Levels) (s last_end : ℕ) →
    OfFault IsMeant (field_start pinned label levels s last_end)
unfolding field_start
start_fault true label levels s last_end = tt
start_fault false None levels s last_end = tt
start_fault false (Some e) levels s last_end =
    told_fault s _ (evaluation e levels).outcome (evaluation_kind e levels) (behind_fault s)

count_fault : (s : ℕ) (x : Label) → OfFault IsMeant (count_of s x)
count_fault s (IntegerLabel x type) = negative_fault s _ x
count_fault s x = tt

size_fault : (s : ℕ) (x : Label) → OfFault IsMeant (size_of s x)
size_fault s (OffsetLabel x type unit) = negative_fault s _ (bits_in x unit)
size_fault s x = tt

extent_fault : (bound : Bound) (levels : Levels) (s : ℕ) → OfFault IsMeant (extent_of bound levels s)
unfolding extent_of
extent_fault Unbounded levels s = tt
extent_fault (ByCount e) levels s =
    told_fault s _ (evaluation e levels).outcome (evaluation_kind e levels) (count_fault s)
extent_fault (BySize e) levels s =
    told_fault s _ (evaluation e levels).outcome (evaluation_kind e levels) (size_fault s)

-- ---- plans

-- whatever the plan reads, its fault is one of a meaning
abbrev FaultsMeant : {A : Type 0} → Plan (Result A FaultAt) → Type 0
FaultsMeant p = Always (λ kept. Unit {0}) (OfFault IsMeant) p

plan_if : {A : Type 0} (b : Bool) (p q : Plan (Result A FaultAt)) → FaultsMeant p → FaultsMeant q →
    FaultsMeant (if b then p else q)
plan_if true p q h g = h
plan_if false p q h g = g

-- a fault of one plan and then another is from the one or the other
then_fault : {A B : Type 0} (p : Plan (Result A FaultAt)) (f : A → Plan (Result B FaultAt)) → FaultsMeant p →
    ((a : A) → FaultsMeant (f a)) → FaultsMeant (then_ok p f)
unfolding then_ok
then_fault {A} {B} p f h g = then_always {P = OfFault {A = A} IsMeant} {Q = OfFault {A = B} IsMeant} (on_value f) goes h
  where
    goes : (r : Result A FaultAt) → OfFault IsMeant r → FaultsMeant (on_value f r)
    goes (Ok a) k = g a
    goes (Err e) k = result k

-- a fault in a frame is the frame's
frame_fault : {A : Type 0} (outer : Levels) (p : Plan (Result A FaultAt)) → FaultsMeant p → FaultsMeant (framed outer p)
unfolding framed
frame_fault {A} outer p h =
    after_made tt (then_always {P = OfFault {A = A} IsMeant} {Q = OfFault {A = A} IsMeant} (leave_frame outer) left h)
  where
    left : (r : Result A FaultAt) → OfFault IsMeant r → FaultsMeant (leave_frame outer r)
    left (Ok a) k = result tt
    left (Err e) k = after_made tt (result k)

after_fault : {A B : Type 0} (n : ℕ) (r : Result A FaultAt) (f : A → Plan (Result B FaultAt)) → OfFault IsMeant r →
    ((a : A) → FaultsMeant (f a)) → FaultsMeant (then_ok (after n r) f)
after_fault n r f h g = then_fault (after n r) f (after_always n r h) g

inside_fault : {A : Type 0} (m s : ℕ) (p : Plan (Result A FaultAt)) → FaultsMeant p → FaultsMeant (from_inside m s p)
unfolding from_inside
inside_fault m s p h = plan_if (nat_le s m) p _ h (result tt)

constrained_fault : (c : Option Term) (levels : Levels) (place : ℕ) (v : Value) →
    FaultsMeant (constrained c levels place v)
unfolding constrained
constrained_fault c levels place v = after_fault _ (constraint c (pushed levels (Some v)) place) _
    (constraint_fault c (pushed levels (Some v)) place) (λ u. result tt)

mutual
  unfolding number_plan

  number_fault : (ty : PokeType) (n : ℕ) (levels : Levels) (s : ℕ) → FaultsMeant (number_plan ty n levels s)
  number_fault (IntegerOf type) n levels s = after_made tt (result tt)
  number_fault (OffsetOf type unit) n levels s = after_made tt (result tt)
  number_fault StringOf n levels s = result tt
  number_fault (ArrayOf element bound) n levels s = result tt
  number_fault (StructOf name pinned _) n levels s = result tt
  number_fault (IntegralOf name type fields) n levels s = frame_fault levels _
      (then_fault _ _ (digits_fault fields n type.width (opened levels) s) (λ inside. after_made tt (result tt)))
  number_fault (UnionOf name alternatives) n levels s = result tt

  digits_fault : (parts : Parts) (n left : ℕ) (levels : Levels) (s : ℕ) →
      FaultsMeant (digits_plan parts n left levels s)
  digits_fault NoParts n left levels s = result tt
  digits_fault (PartThen name set ty c rest) n left levels s =
      after_tick (then_fault _ _
      (then_fault _ _ (after_tick (number_fault ty (first_digits n left (width_in (number_type ty))) levels s))
      (λ v. constrained_fault c levels s v))
      (λ v. digits_fault rest n (left - width_in (number_type ty)) (pushed levels (Some v)) s))

read_fault : (m : ℕ) (ty : PokeType) (type : IntegerType) (order : Order) (levels : Levels) (s : ℕ) →
    FaultsMeant (read_plan m ty type order levels s)
unfolding read_plan
read_fault m ty type order levels s =
    after_tick (plan_if (nat_le (s + type.width) m) _ _ (after_read (λ n lt. number_fault ty n levels s)) (result tt))

byte_fault : (next : List ℕ → Plan (Result Value FaultAt)) (bytes : List ℕ) (levels : Levels) (s end byte : ℕ) →
    ((more : List ℕ) → FaultsMeant (next more)) → FaultsMeant (after_byte next bytes levels s end byte)
unfolding after_byte
byte_fault next bytes levels s end zero g = after_made tt (result tt)
byte_fault next bytes levels s end (suc b) g = after_made tt (g (bytes ++ suc b ∷ []))

text_fault : (m n : ℕ) (bytes : List ℕ) (levels : Levels) (s place : ℕ) →
    FaultsMeant (text_plan m n bytes levels s place)
unfolding text_plan
text_fault m zero bytes levels s place = result tt
text_fault m (suc n) bytes levels s place =
    after_tick (plan_if (nat_le (place + 8) m) _ _
    (after_read (λ b lt. byte_fault _ bytes levels s (place + 8) b (λ more. text_fault m n more levels s (place + 8))))
    (result tt))

element_fault : (extent : Extent) (next : Levels → ℕ → Plan (Result Opened FaultAt)) (levels : Levels) (place : ℕ) →
    ((inside : Levels) (at : ℕ) → FaultsMeant (next inside at)) → (r : Result Value FaultAt) → OfFault IsMeant r →
    FaultsMeant (after_element extent next levels place r)
unfolding after_element
element_fault extent next levels place g (Ok v) h =
    plan_if (nat_eq (end_of v) place) _ _ (result tt) (g (pushed levels (Some v)) (end_of v))
element_fault extent next levels place g (Err f) h = plan_if (ends_before extent f.0) _ _ (result tt) (result h)

elements_fault : (element : Levels → ℕ → Plan (Result Value FaultAt)) (m s : ℕ) (extent : Extent) →
    ((inside : Levels) (at : ℕ) → FaultsMeant (element inside at)) → (n i : ℕ) (levels : Levels) (place : ℕ) →
    FaultsMeant (elements_plan element m s extent n i levels place)
unfolding elements_plan
elements_fault element m s extent g zero i levels place = result tt
elements_fault element m s extent g (suc n) i levels place =
    plan_if (is_due extent m s i place) _ _
    (after_tick (then_always _ (element_fault extent _ levels place
    (λ inside at. elements_fault element m s extent g n (i + 1) inside at)) (g levels place)))
    (plan_if (is_met extent s place) _ _ (result tt) (result tt))

attempt_fault : (levels : Levels) (next : Plan (Result Taken FaultAt)) (index : ℕ) (name : Naming) → FaultsMeant next →
    (r : Result Value FaultAt) → OfFault IsMeant r → FaultsMeant (after_attempt levels next index name r)
unfolding after_attempt
attempt_fault levels next index name g (Ok v) h = result tt
attempt_fault levels next index name g (Err f) h = plan_if (misses f.0) _ _ (after_made tt g) (result h)

mutual
  unfolding plan

  -- whatever is read, a fault of a mapping is one of the type's meaning
  pub plan_faults : (m : ℕ) (ty : PokeType) (order : Order) (levels : Levels) (s : ℕ) →
      Always (λ kept. Unit {0}) (OfFault IsMeant) (plan m ty order levels s)
  plan_faults m (IntegerOf type) order levels s = inside_fault m s _ (read_fault m (IntegerOf type) type order levels s)
  plan_faults m (OffsetOf type unit) order levels s =
      inside_fault m s _ (read_fault m (OffsetOf type unit) type order levels s)
  plan_faults m StringOf order levels s =
      inside_fault m s _ (after_tick (frame_fault levels _ (text_fault m (m / 8 + 1) [] levels s s)))
  plan_faults m (ArrayOf element bound) order levels s =
      inside_fault m s _ (after_tick (after_fault _ (extent_of bound levels s) _ (extent_fault bound levels s)
      (λ extent. frame_fault levels _ (then_fault _ _
      (elements_fault (element_plan element (plan m element order)) m s extent
      (λ inside at. element_always (row_of element) inside (λ v meant. tt) (plan_faults m element order inside at))
      (bounds.count_of m (least_width element)) 0 (opened levels) s)
      (λ r. after_made tt (result tt))))))
  plan_faults m (StructOf name pinned fields) order levels s =
      inside_fault m s _ (after_tick (frame_fault levels _
      (then_fault _ _ (fields_faults m pinned s fields order (opened levels) s s) (λ r. after_made tt (result tt)))))
  plan_faults m (IntegralOf name type fields) order levels s =
      inside_fault m s _ (read_fault m (IntegralOf name type fields) type order levels s)
  plan_faults m (UnionOf name alternatives) order levels s =
      inside_fault m s _ (after_tick (frame_fault levels _
      (then_fault _ _ (alternatives_faults m alternatives 0 order (opened levels) s) (λ t. after_made tt (result tt)))))

  fields_faults : (m : ℕ) (pinned : Bool) (s : ℕ) (fields : Fields) (order : Order) (levels : Levels)
      (last_end top : ℕ) →
      FaultsMeant (fields_plan m pinned s fields order levels last_end top)
  fields_faults m pinned s NoFields order levels last_end top = result tt
  fields_faults m pinned s (FieldThen name set ty c label when rest) order levels last_end top =
      after_tick (after_fault _ (condition when levels s) _ (condition_fault when levels s)
      (λ there. plan_if there _ _
      (after_fault _ (field_start pinned label levels s last_end) _ (start_fault pinned label levels s last_end)
      (λ p. then_fault _ _
      (then_fault _ _ (plan_faults m ty (ordered set order) levels p) (λ v. constrained_fault c levels p v))
      (λ v. fields_faults m pinned s rest order (pushed levels (Some v)) (end_of v) (max top (end_of v)))))
      (after_made tt (fields_faults m pinned s rest order (pushed levels None) last_end top))))

  alternatives_faults : (m : ℕ) (parts : Parts) (index : ℕ) (order : Order) (levels : Levels) (s : ℕ) →
      FaultsMeant (alternatives_plan m parts index order levels s)
  alternatives_faults m NoParts index order levels s = result tt
  alternatives_faults m (PartThen name set ty c rest) index order levels s =
      after_tick
      (then_always _ (attempt_fault levels _ index name (alternatives_faults m rest (index + 1) order levels s))
      (then_fault _ _ (plan_faults m ty (ordered set order) levels s) (λ v. constrained_fault c levels s v)))

-- a call that followed a type's plan to a fault gives one of the type's meaning
pub followed_kind : {world : World} {limit : ℕ} (m : ℕ) (ty : PokeType) (order : Order) (levels : Levels) (s : ℕ)
    {k j k' j' : ℕ} {state state' : State} {f : FaultAt} →
    Follows world limit (plan m ty order levels s) k j state k' j' state' (Done (Err f)) → IsMeant f.0
followed_kind m ty order levels s h =
    let a = walk_keeps h.walk (plan_faults m ty order levels s) in
    let a = rw h.ends.0 at a in
    of_result a
