-- The path to the part of a type in which its fault arises, computed along the plan of its mapping.
use Rattle.std.proofs.Common.{ℕ, zero, suc, ◌+◌, ◌-◌, length, Bool, List, [], ◌∷◌, Option, Some, None, Result, Ok, Err}
use Rattle.std.specs.Prelude.{nat_eq, nat_le, if◌then◌else◌}
use Rattle.bit_space.specs.declared.order.Order.{Order}
use Rattle.pickle_types.specs.Types.{Term, PokeType, IntegerOf, OffsetOf, StringOf, ArrayOf, StructOf, IntegralOf, UnionOf, Fields, NoFields, FieldThen, Parts, NoParts, PartThen}
use Rattle.pickle_meaning.specs.declared.extent.Extent.{Extent}
use Rattle.pickle_meaning.specs.Numbers.{number_at}
use Rattle.pickle_meaning.specs.Values.{Value, end_of, Levels, pushed, opened}
use Rattle.pickle_meaning.specs.Clauses.{FaultAt, constraint, condition, field_start, extent_of, is_due, ends_before, misses}
use Rattle.mapping_plans.specs.Mapping.{plan, number_plan}
use Rattle.pickle_meaning.specs.Means.{ordered, number_type, width_in, first_digits}
use Rattle.mapping_plans.specs.Plan.{result_of}
use Rattle.fault_parts.specs.Arises.{Path}

-- the path by an outcome
abbrev pub by_outcome : {A : Type 0} → Result A FaultAt → (A → Path) → (FaultAt → Path) → Path
by_outcome (Ok a) f g = f a
by_outcome (Err e) f g = g e

-- the path among parts, with one more part before them
abbrev pub next : Path → Path
next [] = []
next (i ∷ path) = suc i ∷ path

-- the path of a part with its constraint, which is a value: to the part, or to those after it
abbrev pub checked_path : Option Term → Levels → (s : ℕ) → Value → (FaultAt → Path) → Path → Path
checked_path c levels s v refused rest = by_outcome (constraint c (pushed levels (Some v)) s) (λ u. rest) refused

abbrev mutual
  pub number_path : PokeType → (n : ℕ) → Levels → (s : ℕ) → Path
  number_path (IntegerOf type) n levels s = []
  number_path (OffsetOf type unit) n levels s = []
  number_path StringOf n levels s = []
  number_path (ArrayOf element bound) n levels s = []
  number_path (StructOf name pinned _) n levels s = []
  number_path (IntegralOf name type fields) n levels s = digits_path fields n type.width (opened levels) s
  number_path (UnionOf name alternatives) n levels s = []

  pub digits_path : Parts → (n left : ℕ) → Levels → (s : ℕ) → Path
  digits_path NoParts n left levels s = []
  digits_path (PartThen name order ty c rest) n left levels s =
      by_outcome (result_of [] (number_plan ty (first_digits n left (width_in (number_type ty))) levels s))
      (λ v. checked_path c levels s v (λ f. 0 ∷ [])
      (next (digits_path rest n (left - width_in (number_type ty)) (pushed levels (Some v)) s)))
      (λ f. 0 ∷ number_path ty (first_digits n left (width_in (number_type ty))) levels s)

-- the elements of an array from s, after the first i; at most n are tried
abbrev pub elements_path : (result : Levels → ℕ → Result Value FaultAt) → (path : Levels → ℕ → Path) → (m s : ℕ) →
    Extent → (n i : ℕ) → Levels → (place : ℕ) → Path
elements_path result path m s extent zero i levels place = []
elements_path result path m s extent (suc n) i levels place =
    if is_due extent m s i place then by_outcome (result levels place) (λ v. if nat_eq (end_of v) place then i ∷ []
    else elements_path result path m s extent n (i + 1) (pushed levels (Some v)) (end_of v))
    (λ f. if ends_before extent f.0 then [] else i ∷ path levels place)
    else []

-- inside the file
abbrev pub from_inside : (m s : ℕ) → Path → Path
from_inside m s path = if nat_le s m then path else []

abbrev mutual
  pub path_of : List ℕ → PokeType → Order → Levels → (s : ℕ) → Path
  path_of bits (IntegerOf type) order levels s = []
  path_of bits (OffsetOf type unit) order levels s = []
  path_of bits StringOf order levels s = []
  path_of bits (ArrayOf ty bound) order levels s =
      from_inside (length bits) s (by_outcome (extent_of bound levels s) (λ extent.
      elements_path (λ inside p. result_of bits (plan (length bits) ty order inside p)) (path_of bits ty order)
      (length bits) s extent (suc (length bits)) 0 (opened levels) s) (λ f. []))
  path_of bits (StructOf name pinned fields) order levels s =
      from_inside (length bits) s (fields_path bits pinned s fields order (opened levels) s)
  path_of bits (IntegralOf name type fields) order levels s =
      from_inside (length bits)
      (s + type.width) (digits_path fields (number_at bits order s type.width) type.width (opened levels) s)
  path_of bits (UnionOf name alternatives) order levels s =
      from_inside (length bits) s (alternatives_path bits alternatives order (opened levels) s)

  pub fields_path : List ℕ → (pinned : Bool) → (s : ℕ) → Fields → Order → Levels → (behind : ℕ) → Path
  fields_path bits pinned s NoFields order levels behind = []
  fields_path bits pinned s (FieldThen name set ty c label when rest) order levels behind =
      by_outcome (condition when levels s)
      (λ there. if there then by_outcome (field_start pinned label levels s behind)
      (λ p. by_outcome (result_of bits (plan (length bits) ty (ordered set order) levels p))
      (λ v. checked_path c levels p v (λ f. 0 ∷ [])
      (next (fields_path bits pinned s rest order (pushed levels (Some v)) (end_of v))))
      (λ f. 0 ∷ path_of bits ty (ordered set order) levels p))
      (λ f. 0 ∷ [])
      else next (fields_path bits pinned s rest order (pushed levels None) behind))
      (λ f. 0 ∷ [])

  pub alternatives_path : List ℕ → Parts → Order → Levels → (s : ℕ) → Path
  alternatives_path bits NoParts order levels s = []
  alternatives_path bits (PartThen name set ty c rest) order levels s =
      by_outcome (result_of bits (plan (length bits) ty (ordered set order) levels s))
      (λ v. checked_path c levels s v
      (λ f. if misses f.0 then next (alternatives_path bits rest order levels s) else 0 ∷ []) [])
      (λ f. if misses f.0 then next (alternatives_path bits rest order levels s)
      else 0 ∷ path_of bits ty (ordered set order) levels s)
