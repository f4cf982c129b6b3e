-- The extent of an array whose bound is a number, and of one without a bound.
use Rattle.std.proofs.Common.{◌≡◌, ℕ, ◌<◌, ◌≤◌, Bool, true, false, Option, Some, None, Result, Ok, Err, ℤ, pos, negsuc, refl, sym, ap, ◌∙◌, arith}
use Rattle.std.proofs.lemmas.Bool.{ltb-true, ltb-false}
use Rattle.pickle_types.specs.Types.{Term, Number, Text, Name, Bracket, Before, Between, Choice, Index, Select, AttributeOf, ToInteger, ToOffset, InUnit, Bound, Unbounded, ByCount, BySize}
use Rattle.pickle_types.specs.Bounds.{is_some}
use Rattle.pickle_meaning.specs.declared.extent.Extent.{Extent}
use Rattle.pickle_meaning.specs.declared.extent.Extent.TheVariants.{Open, Count, Size}
use Rattle.pickle_meaning.specs.declared.faults.MapFaultKind.{MapFaultKind}
use Rattle.pickle_meaning.specs.declared.faults.MapFaultKind.TheVariants as fault
use Rattle.pickle_meaning.specs.Values.{Label, IntegerLabel, OffsetLabel, TextLabel, ArrayLabel, StructLabel, UnionLabel, Levels}
use Rattle.pickle_meaning.specs.Arithmetic.{bits_in}
use Rattle.pickle_meaning.specs.Evaluation.{Operand, operand_label, evaluation}
use Rattle.pickle_meaning.specs.Clauses.{FaultAt, told_at, not_negative, count_of, size_of, extent_of, is_due, ends_array, ends_before, misses}
use Rattle.mapping_plans.proofs.Basics.{clash}
use Rattle.tight_bounds.specs.Tight.{number_of, constant_count, of_constant, if_unbounded, if_bounded}

abbrev extent_or : Extent → Result Extent FaultAt → Extent
extent_or e (Ok extent) = extent
extent_or e (Err f) = e

abbrev number_or : ℕ → Option ℕ → ℕ
number_or n (Some x) = x
number_or n None = n

number_count : (e : Term) (c : ℕ) → number_of e ≡ Some c → (levels : Levels) (s : ℕ) →
    extent_of (ByCount e) levels s ≡ Ok (Count c)
unfolding extent_of evaluation
number_count (Number type value) c h levels s = ap (λ o. Ok (Count (number_or value o))) h
number_count (Text bytes) c h levels s = clash (sym (ap is_some h))
number_count (Name level place) c h levels s = clash (sym (ap is_some h))
number_count (Bracket e) c h levels s = clash (sym (ap is_some h))
number_count (Before op e) c h levels s = clash (sym (ap is_some h))
number_count (Between op a b) c h levels s = clash (sym (ap is_some h))
number_count (Choice common x y z) c h levels s = clash (sym (ap is_some h))
number_count (Index e i) c h levels s = clash (sym (ap is_some h))
number_count (Select e place) c h levels s = clash (sym (ap is_some h))
number_count (AttributeOf attribute e) c h levels s = clash (sym (ap is_some h))
number_count (ToInteger type e) c h levels s = clash (sym (ap is_some h))
number_count (ToOffset type unit e) c h levels s = clash (sym (ap is_some h))
number_count (InUnit unit e) c h levels s = clash (sym (ap is_some h))

constant_extent : (bound : Bound) (c : ℕ) (levels : Levels) (s : ℕ) (extent : Extent) →
    constant_count bound ≡ Some c → extent_of bound levels s ≡ Ok extent → Count c ≡ extent
constant_extent Unbounded c levels s extent h e = clash (sym (ap is_some h))
constant_extent (ByCount term) c levels s extent h e = ap (extent_or Open) (sym (number_count term c h levels s) ∙ e)
constant_extent (BySize term) c levels s extent h e = clash (sym (ap is_some h))

-- an element is due only below the number, and none is due only from there on
pub due_below : (bound : Bound) (c : ℕ) (levels : Levels) (s : ℕ) (extent : Extent) →
    constant_count bound ≡ Some c → extent_of bound levels s ≡ Ok extent → (m i p : ℕ) →
    is_due extent m s i p ≡ true → i < c
due_below bound c levels s extent h e m i p due =
    let is = constant_extent bound c levels s extent h e in
    let there : is_due (Count c) m s i p ≡ true = ap (λ x. is_due x m s i p) is ∙ due in
    ltb-true i c there

pub none_due_from : (bound : Bound) (c : ℕ) (levels : Levels) (s : ℕ) (extent : Extent) →
    constant_count bound ≡ Some c → extent_of bound levels s ≡ Ok extent → (m i p : ℕ) →
    is_due extent m s i p ≡ false → c ≤ i
none_due_from bound c levels s extent h e m i p due =
    let is = constant_extent bound c levels s extent h e in
    let there : is_due (Count c) m s i p ≡ false = ap (λ x. is_due x m s i p) is ∙ due in
    ltb-false i c there

-- ---- only an array without a bound ends before an element

abbrev ends_or : MapFaultKind → Result Extent FaultAt → Bool
ends_or kind (Ok extent) = ends_before extent kind
ends_or kind (Err f) = false

by_number : (kind : MapFaultKind) (s : ℕ) (f : ℕ → Extent) → ((n : ℕ) → ends_before (f n) kind ≡ false) → (z : ℤ) →
    ends_or kind (not_negative s f z) ≡ false
by_number kind s f h (pos n) = h n
by_number kind s f h (negsuc n) = refl

by_label : (kind : MapFaultKind) (s : ℕ) (x : Label) → ends_or kind (count_of s x) ≡ false
by_label kind s (IntegerLabel x type) = by_number kind s Count (λ n. refl) x
by_label kind s (OffsetLabel x type unit) = refl
by_label kind s (TextLabel bytes) = refl
by_label kind s ArrayLabel = refl
by_label kind s (StructLabel name fields) = refl
by_label kind s (UnionLabel name index alternative) = refl

by_size : (kind : MapFaultKind) (s : ℕ) (x : Label) → ends_or kind (size_of s x) ≡ false
by_size kind s (OffsetLabel x type unit) = by_number kind s Size (λ n. refl) (bits_in x unit)
by_size kind s (IntegerLabel x type) = refl
by_size kind s (TextLabel bytes) = refl
by_size kind s ArrayLabel = refl
by_size kind s (StructLabel name fields) = refl
by_size kind s (UnionLabel name index alternative) = refl

by_value : (kind : MapFaultKind) (s : ℕ) (f : Label → Result Extent FaultAt) →
    ((x : Label) → ends_or kind (f x) ≡ false) → (r : Result Operand MapFaultKind) →
    ends_or kind (told_at s f r) ≡ false
by_value kind s f h (Ok x) = h (operand_label x)
by_value kind s f h (Err k) = refl

pub unbounded_alone : (bound : Bound) (levels : Levels) (s : ℕ) (extent : Extent) (kind : MapFaultKind) (x : ℕ) →
    extent_of bound levels s ≡ Ok extent → ends_before extent kind ≡ true → if_unbounded bound x ≡ x
unfolding extent_of
unbounded_alone Unbounded levels s extent kind x e ends = refl
unbounded_alone (ByCount term) levels s extent kind x e ends =
    clash
    (sym (ap (ends_or kind) e ∙ ends) ∙ by_value kind s (count_of s) (by_label kind s) (evaluation term levels).outcome)
unbounded_alone (BySize term) levels s extent kind x e ends =
    clash
    (sym (ap (ends_or kind) e ∙ ends) ∙ by_value kind s (size_of s) (by_size kind s) (evaluation term levels).outcome)

-- ---- an array without a bound never misses

no_miss_inside : (kind : MapFaultKind) {A : Type 0} → ends_array kind ≡ false → misses kind ≡ true → A
no_miss_inside fault.End e h = clash (sym h)
no_miss_inside fault.Constraint e h = clash e
no_miss_inside fault.Bounds e h = clash (sym h)
no_miss_inside fault.NoBits e h = clash (sym h)
no_miss_inside fault.Zero e h = clash (sym h)
no_miss_inside fault.Overflow e h = clash (sym h)
no_miss_inside fault.Absent e h = clash (sym h)
no_miss_inside fault.Index e h = clash (sym h)
no_miss_inside fault.Limit e h = clash (sym h)
no_miss_inside fault.Device e h = clash (sym h)
no_miss_inside fault.Memory e h = clash (sym h)

pub bounded_alone : (bound : Bound) (levels : Levels) (s : ℕ) (extent : Extent) (kind : MapFaultKind) (x : ℕ) →
    extent_of bound levels s ≡ Ok extent → ends_before extent kind ≡ false → misses kind ≡ true → if_bounded bound x ≡ x
unfolding extent_of
bounded_alone Unbounded levels s extent kind x e ends miss =
    no_miss_inside kind (ap (λ y. ends_before y kind) (ap (extent_or Open) e) ∙ ends) miss
bounded_alone (ByCount term) levels s extent kind x e ends miss = refl
bounded_alone (BySize term) levels s extent kind x e ends miss = refl

-- where an array has no bound, its number of elements isn't constant
pub unbounded_none : (bound : Bound) (w : ℕ) → ((x : ℕ) → if_unbounded bound x ≡ x) →
    of_constant (constant_count bound) w ≡ 0
unbounded_none Unbounded w none = refl
unbounded_none (ByCount e) w none = omega (arith, none 1)
unbounded_none (BySize e) w none = refl
