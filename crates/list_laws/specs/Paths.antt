-- Paths through the fields of structs to an array.
use Rattle.std.specs.Prelude.{ℕ, zero, suc, ◌&&◌, Bool, true, false, List, [], ◌∷◌}
use Rattle.pickle_types.specs.Types.{PokeType, IntegerOf, OffsetOf, StringOf, ArrayOf, StructOf, IntegralOf, UnionOf, Bound, Unbounded, ByCount, BySize, Fields, NoFields, FieldThen}

-- the places of the fields of structs, from 0, that lead from a type to a part of it
abbrev pub Path : Type 0
Path = List ℕ

abbrev mutual
  -- a path leads through fields of structs to an array
  pub is_list : PokeType → Path → Bool
  is_list (IntegerOf type) path = false
  is_list (OffsetOf type unit) path = false
  is_list StringOf path = false
  is_list (ArrayOf element bound) [] = true
  is_list (ArrayOf element bound) (place ∷ path) = false
  is_list (StructOf name pinned _) [] = false
  is_list (StructOf name pinned fields) (place ∷ path) = is_list_in fields place path
  is_list (IntegralOf name type fields) path = false
  is_list (UnionOf name alternatives) path = false

  -- the same through the field at a place of a struct
  pub is_list_in : Fields → (place : ℕ) → Path → Bool
  is_list_in NoFields place path = false
  is_list_in (FieldThen name order type constraint label condition rest) zero path = is_list type path
  is_list_in (FieldThen name order type constraint label condition rest) (suc place) path = is_list_in rest place path

abbrev pub is_unbounded : Bound → Bool
is_unbounded Unbounded = true
is_unbounded (ByCount e) = false
is_unbounded (BySize e) = false

abbrev mutual
  -- the array at a path has no bound
  pub is_open : PokeType → Path → Bool
  is_open (IntegerOf type) path = false
  is_open (OffsetOf type unit) path = false
  is_open StringOf path = false
  is_open (ArrayOf element bound) path = is_unbounded bound
  is_open (StructOf name pinned _) [] = false
  is_open (StructOf name pinned fields) (place ∷ path) = is_open_in fields place path
  is_open (IntegralOf name type fields) path = false
  is_open (UnionOf name alternatives) path = false

  pub is_open_in : Fields → (place : ℕ) → Path → Bool
  is_open_in NoFields place path = false
  is_open_in (FieldThen name order type constraint label condition rest) zero path = is_open type path
  is_open_in (FieldThen name order type constraint label condition rest) (suc place) path = is_open_in rest place path

abbrev pub are_none : Fields → Bool
are_none NoFields = true
are_none (FieldThen name order type constraint label condition rest) = false

abbrev mutual
  -- each field on a path is the last one of its struct
  pub is_last : PokeType → Path → Bool
  is_last (IntegerOf type) path = true
  is_last (OffsetOf type unit) path = true
  is_last StringOf path = true
  is_last (ArrayOf element bound) path = true
  is_last (StructOf name pinned _) [] = true
  is_last (StructOf name pinned fields) (place ∷ path) = is_last_in fields place path
  is_last (IntegralOf name type fields) path = true
  is_last (UnionOf name alternatives) path = true

  pub is_last_in : Fields → (place : ℕ) → Path → Bool
  is_last_in NoFields place path = true
  is_last_in (FieldThen name order type constraint label condition rest) zero path = are_none rest && is_last type path
  is_last_in (FieldThen name order type constraint label condition rest) (suc place) path = is_last_in rest place path
