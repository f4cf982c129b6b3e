-- The clauses beside types: constraints, conditions, labels and bounds, and the places of their faults.
use Rattle.std.specs.Prelude.{ℕ, ◌+◌, ◌-◌, Bool, true, false, nat_eq, nat_lt, Option, Some, None, Result, Ok, Err, ℤ, pos, negsuc}
use Rattle.pickle_types.specs.Types.{Term, Bound, Unbounded, ByCount, BySize}
use Rattle.pickle_meaning.specs.declared.extent.Extent.{Extent}
use Rattle.pickle_meaning.specs.declared.extent.Extent.TheVariants.{Open, Count, Size}
use Rattle.pickle_meaning.specs.declared.faults.MapFaultKind.{MapFaultKind}
use Rattle.pickle_meaning.specs.declared.faults.MapFaultKind.TheVariants as fault
use Rattle.pickle_meaning.specs.Values.{Label, IntegerLabel, OffsetLabel, TextLabel, ArrayLabel, StructLabel, UnionLabel, Levels}
use Rattle.pickle_meaning.specs.Arithmetic.{bits_in}
use Rattle.pickle_meaning.specs.Evaluation.{Operand, operand_label, evaluation, truth_of}

-- a fault and its place, a bit
abbrev pub FaultAt : Type 0
FaultAt = MapFaultKind × ℕ

-- the result from an expression's value; the expression's fault has this place
abbrev pub told_at : {A : Type 0} → ℕ → (Label → Result A FaultAt) → Result Operand MapFaultKind → Result A FaultAt
told_at place f (Ok x) = f (operand_label x)
told_at place f (Err kind) = Err (kind, place)

abbrev pub kind_at : {A : Type 0} → ℕ → Result A MapFaultKind → Result A FaultAt
kind_at place (Ok a) = Ok a
kind_at place (Err kind) = Err (kind, place)

-- the steps of an expression, if there is one
abbrev pub clause_steps : Option Term → Levels → ℕ
clause_steps None levels = 0
clause_steps (Some e) levels = (evaluation e levels).steps

abbrev pub satisfied : ℕ → Result Bool MapFaultKind → Result (Unit {0}) FaultAt
satisfied place (Ok true) = Ok tt
satisfied place (Ok false) = Err (fault.Constraint, place)
satisfied place (Err kind) = Err (kind, place)

-- A constraint, over frames that have the value which it tests as their last member. A constraint that is 0 is a
-- Constraint fault. All its faults are at the start of that value.
unfoldable pub constraint : Option Term → Levels → ℕ → Result (Unit {0}) FaultAt
constraint None levels place = Ok tt
constraint (Some e) levels place = told_at place (λ x. satisfied place (truth_of x)) (evaluation e levels).outcome

-- Whether a field of a struct at s is present: its condition isn't 0. Faults are at the struct's start.
unfoldable pub condition : Option Term → Levels → (s : ℕ) → Result Bool FaultAt
condition None levels s = Ok true
condition (Some e) levels s = told_at s (λ x. kind_at s (truth_of x)) (evaluation e levels).outcome

-- a number of bits, which may not be negative
abbrev pub not_negative : {A : Type 0} → (s : ℕ) → (ℕ → A) → ℤ → Result A FaultAt
not_negative s f (pos n) = Ok (f n)
not_negative s f (negsuc n) = Err (fault.Bounds, s)

abbrev pub behind_start : (s : ℕ) → Label → Result ℕ FaultAt
behind_start s (OffsetLabel x type unit) = not_negative s (λ n. s + n) (bits_in x unit)
behind_start s (IntegerLabel x type) = Err (fault.Absent, s)
behind_start s (TextLabel bytes) = Err (fault.Absent, s)
behind_start s ArrayLabel = Err (fault.Absent, s)
behind_start s (StructLabel name fields) = Err (fault.Absent, s)
behind_start s (UnionLabel name index alternative) = Err (fault.Absent, s)

-- The bit where a field of a struct at s starts. In a pinned struct that is s. A label counts its bits from s.
-- Otherwise the field starts where the last present field before it ended. A negative label is a Bounds fault; a
-- label's faults are at s.
unfoldable pub field_start : (pinned : Bool) → (label : Option Term) → Levels → (s behind : ℕ) → Result ℕ FaultAt
field_start true label levels s behind = Ok s
field_start false None levels s behind = Ok behind
field_start false (Some e) levels s behind = told_at s (behind_start s) (evaluation e levels).outcome

-- the steps of a label; a pinned struct has no labels
abbrev pub label_steps : (pinned : Bool) → Option Term → Levels → ℕ
label_steps true label levels = 0
label_steps false label levels = clause_steps label levels

abbrev pub count_of : (s : ℕ) → Label → Result Extent FaultAt
count_of s (IntegerLabel x type) = not_negative s Count x
count_of s (OffsetLabel x type unit) = Err (fault.Absent, s)
count_of s (TextLabel bytes) = Err (fault.Absent, s)
count_of s ArrayLabel = Err (fault.Absent, s)
count_of s (StructLabel name fields) = Err (fault.Absent, s)
count_of s (UnionLabel name index alternative) = Err (fault.Absent, s)

abbrev pub size_of : (s : ℕ) → Label → Result Extent FaultAt
size_of s (OffsetLabel x type unit) = not_negative s Size (bits_in x unit)
size_of s (IntegerLabel x type) = Err (fault.Absent, s)
size_of s (TextLabel bytes) = Err (fault.Absent, s)
size_of s ArrayLabel = Err (fault.Absent, s)
size_of s (StructLabel name fields) = Err (fault.Absent, s)
size_of s (UnionLabel name index alternative) = Err (fault.Absent, s)

-- The extent of an array at s. A negative bound is a Bounds fault; a bound's faults are at s.
unfoldable pub extent_of : Bound → Levels → (s : ℕ) → Result Extent FaultAt
extent_of Unbounded levels s = Ok Open
extent_of (ByCount e) levels s = told_at s (count_of s) (evaluation e levels).outcome
extent_of (BySize e) levels s = told_at s (size_of s) (evaluation e levels).outcome

abbrev pub bound_steps : Bound → Levels → ℕ
bound_steps Unbounded levels = 0
bound_steps (ByCount e) levels = (evaluation e levels).steps
bound_steps (BySize e) levels = (evaluation e levels).steps

-- in m bits, an array from s has i elements up to p, and is to have one more
abbrev pub is_due : Extent → (m s i p : ℕ) → Bool
is_due Open m s i p = nat_lt p m
is_due (Count n) m s i p = nat_lt i n
is_due (Size n) m s i p = nat_lt (p - s) n

-- an array from s may end at p, where no element is due
abbrev pub is_met : Extent → (s p : ℕ) → Bool
is_met Open s p = true
is_met (Count n) s p = true
is_met (Size n) s p = nat_eq (p - s) n

-- faults that end an unbounded array before the element that has them
abbrev pub ends_array : MapFaultKind → Bool
ends_array fault.End = true
ends_array fault.Constraint = true
ends_array kind = false

-- whether an array ends before an element that has such a fault
abbrev pub ends_before : Extent → MapFaultKind → Bool
ends_before Open kind = ends_array kind
ends_before (Count n) kind = false
ends_before (Size n) kind = false

-- faults after which a union tries its next alternative
abbrev pub misses : MapFaultKind → Bool
misses fault.Constraint = true
misses kind = false
