-- What it means that a value fits a type at a place of m bits, whatever was read.
use Rattle.std.specs.Prelude.{◌≡◌, ℕ, ◌+◌, ◌-◌, ◌*◌, ◌^◌, ◌<◌, ◌≤◌, max, length, Bool, true, false, List, [], ◌∷◌, Some, None, Ok, ◌⊎◌}
use Rattle.pickle_types.specs.Types.{PokeType, IntegerOf, OffsetOf, StringOf, ArrayOf, StructOf, IntegralOf, UnionOf, Fields, NoFields, FieldThen, Parts, NoParts, PartThen}
use Rattle.pickle_meaning.specs.declared.extent.Extent.{Extent}
use Rattle.pickle_meaning.specs.declared.extent.Extent.TheVariants.{Open, Count, Size}
use Rattle.pickle_meaning.specs.Values.{Value, end_of, text_value, Levels, pushed, opened}
use Rattle.pickle_meaning.specs.Clauses.{constraint, condition, field_start, extent_of}
use Rattle.pickle_meaning.specs.Means.{field_names, part_names, integer_value, offset_value, array_value, struct_value, Taken, union_value}

-- bytes, none of them 0
abbrev pub IsText : List ℕ → Type 0
IsText [] = Unit {0}
IsText (b ∷ bytes) = (0 < b) × (b < 2 ^ 8) × IsText bytes

-- n elements from s to end are as many as a count says, or fill exactly the bits that a size says
abbrev pub IsWhole : Extent → (s n end : ℕ) → Type 0
IsWhole Open s n end = Unit {0}
IsWhole (Count c) s n end = n ≡ c
IsWhole (Size z) s n end = end - s ≡ z

-- elements that fit one after the other, each of at least one bit. The last three arguments are the frames, place and
-- number before them, and `inside`, `end` and `n` those after them.
pub data ElementsFit (Fit : Levels → ℕ → Value → Type 0) (inside : Levels) (end n : ℕ) : Levels →
    (place i : ℕ) → Type 0 where
  no_more_fit : ElementsFit Fit inside end n inside end n
  one_more_fits : {levels : Levels} {place i : ℕ} (v : Value) → Fit levels place v → place < end_of v →
      ElementsFit Fit inside end n (pushed levels (Some v)) (end_of v) (i + 1) →
      ElementsFit Fit inside end n levels place i

unfoldable mutual
  -- a field of an integral struct that starts at s
  pub FitsNumber : PokeType → Levels → (s : ℕ) → Value → Type 0
  FitsNumber (IntegerOf type) levels s v = (n : ℕ) × (n < 2 ^ type.width) × (v ≡ integer_value type n s)
  FitsNumber (OffsetOf type unit) levels s v = (n : ℕ) × (n < 2 ^ type.width) × (v ≡ offset_value type unit n s)
  FitsNumber StringOf levels s v = ⊥
  FitsNumber (ArrayOf element bound) levels s v = ⊥
  FitsNumber (StructOf name pinned _) levels s v = ⊥
  FitsNumber (IntegralOf name type fields) levels s v =
      (inside : Levels) × DigitsFit fields (opened levels) s inside
      × (v ≡ struct_value name (part_names fields) s (s + type.width) inside)
  FitsNumber (UnionOf name alternatives) levels s v = ⊥

  pub DigitsFit : Parts → Levels → (s : ℕ) → Levels → Type 0
  DigitsFit NoParts levels s inside = inside ≡ levels
  DigitsFit (PartThen name order ty c rest) levels s inside =
      (v : Value) × FitsNumber ty levels s v × (constraint c (pushed levels (Some v)) s ≡ Ok tt)
      × DigitsFit rest (pushed levels (Some v)) s inside

unfoldable mutual
  -- v fits the type at s, over frames that hold the stored parts
  pub Fits : (m : ℕ) → PokeType → Levels → (s : ℕ) → Value → Type 0
  Fits m (IntegerOf type) levels s v = FitsNumber (IntegerOf type) levels s v × (s + type.width ≤ m)
  Fits m (OffsetOf type unit) levels s v = FitsNumber (OffsetOf type unit) levels s v × (s + type.width ≤ m)
  Fits m StringOf levels s v = (bytes : List ℕ) × IsText bytes × (v ≡ text_value bytes s (s + 8 * (length bytes + 1)))
      × (s + 8 * (length bytes + 1) ≤ m)
  Fits m (ArrayOf element bound) levels s v =
      (extent : Extent) × (extent_of bound levels s ≡ Ok extent) × (inside : Levels) × (end : ℕ) × (n : ℕ)
      × ElementsFit (Fits m element) inside end n (opened levels) s 0 × IsWhole extent s n end × (end ≤ m)
      × (v ≡ array_value s end inside)
  Fits m (StructOf name pinned fields) levels s v =
      (inside : Levels) × (end : ℕ) × FieldsFit m pinned s fields (opened levels) s s inside end × (end ≤ m)
      × (v ≡ struct_value name (field_names fields) s end inside)
  Fits m (IntegralOf name type fields) levels s v =
      FitsNumber (IntegralOf name type fields) levels s v × (s + type.width ≤ m)
  Fits m (UnionOf name alternatives) levels s v =
      (t : Taken) × AlternativeFits m alternatives 0 (opened levels) s t × (v ≡ union_value name s t)

  -- each field is absent where its condition is 0, or fits where it is to start, not before s, and its constraint holds
  pub FieldsFit : (m : ℕ) → (pinned : Bool) → (s : ℕ) → Fields → Levels → (behind top : ℕ) → Levels → (end : ℕ) → Type 0
  FieldsFit m pinned s NoFields levels behind top inside end = (inside ≡ levels) × (end ≡ top)
  FieldsFit m pinned s (FieldThen name set ty c label when rest) levels behind top inside end =
      ((condition when levels s ≡ Ok false) × FieldsFit m pinned s rest (pushed levels None) behind top inside end)
      ⊎ ((condition when levels s ≡ Ok true) × (p : ℕ) × (field_start pinned label levels s behind ≡ Ok p) × (s ≤ p)
      × (v : Value) × Fits m ty levels p v × (constraint c (pushed levels (Some v)) p ≡ Ok tt)
      × FieldsFit m pinned s rest (pushed levels (Some v)) (end_of v) (max top (end_of v)) inside end)

  -- the alternative that matched fits, and its constraint holds
  pub AlternativeFits : (m : ℕ) → Parts → (index : ℕ) → Levels → (s : ℕ) → Taken → Type 0
  AlternativeFits m NoParts index levels s t = ⊥
  AlternativeFits m (PartThen name set ty c rest) index levels s t =
      ((t.index ≡ index) × (t.name ≡ name) × Fits m ty levels s t.value
      × (constraint c (pushed levels (Some t.value)) s ≡ Ok tt) × (end_of t.value ≤ m))
      ⊎ AlternativeFits m rest (index + 1) levels s t
