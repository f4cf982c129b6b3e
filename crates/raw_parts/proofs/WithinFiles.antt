-- The parts of a value that fits a type are in the file.
use Rattle.std.proofs.Common.{ℕ, ◌+◌, ◌≤◌, inl, inr, Bool, Some, None, subst, sym, arith}
use Rattle.pickle_meaning.specs.Fits.{AlternativeFits, DigitsFit, FieldsFit, Fits, FitsNumber}
use Rattle.pickle_meaning.specs.Means.{Taken}
use Rattle.pickle_meaning.specs.Values.{Levels, Mapped, Value, end_of, gathered, members_of, opened, pushed, start_of, top_of}
use Rattle.pickle_types.specs.Types.{PokeType, IntegerOf, OffsetOf, StringOf, ArrayOf, StructOf, IntegralOf, UnionOf, Fields, NoFields, FieldThen, Parts, NoParts, PartThen}
use Rattle.poke_batch.proofs.AllMembers.{IsOfEach, elements_have, none_pushed, some_pushed}
use Rattle.mapping_plans.proofs.Fitting.{fits_inside}
use Rattle.poke_batch.proofs.UnderTerms.{starts_before_end}
use Rattle.raw_parts.proofs.NarrowTypes.{AreNarrowFields, AreNarrowTypes, AreUpTo, IsNarrowType, width_of}
use Rattle.raw_parts.specs.Within.{AreWithin, IsWithin}

module _ (m : ℕ) where
  members_inside : (value : Value) → IsWithin m value → AreWithin m (members_of value)
  members_inside (Mapped label start end _) h = h.2

  pub within_each : IsOfEach (IsWithin m) (AreWithin m)
  within_each = record {
    none = tt;
    joins = λ value rest is are. (is, are);
    splits = λ value rest h. h;
    skips = λ rest h. h;
    left = λ rest h. h;
    inside = members_inside;
  }

  -- a value whose members are within
  with_members : (value : Value) → start_of value ≤ end_of value → end_of value ≤ m → AreWithin m (members_of value)
      → IsWithin m value
  with_members (Mapped label start end _) forward inside are = (forward, inside, are)

  -- and so is one that fits a type
  fitting : (ty : PokeType) (levels : Levels) (s : ℕ) (v : Value) → Fits m ty levels s v → AreWithin m (members_of v)
      → IsWithin m v
  fitting ty levels s v h are =
      with_members v (starts_before_end m ty levels s v h) (fits_inside m ty levels s v h) are

  -- what a frame has gathered
  abbrev IsTopWithin : Levels → Type 0
  IsTopWithin levels = AreWithin m (gathered (top_of levels))

  mutual
    unfolding FitsNumber

    number_within : (ty : PokeType) (levels : Levels) (s : ℕ) (v : Value) → IsNarrowType ty → s + width_of ty ≤ m →
        FitsNumber ty levels s v → IsWithin m v
    number_within (IntegerOf type) levels s v narrow le h = let is = h.2 in rw is (omega arith, le, tt)
    number_within (OffsetOf type unit) levels s v narrow le h = let is = h.2 in rw is (omega arith, le, tt)
    number_within StringOf levels s v narrow le h = absurd h
    number_within (ArrayOf element bound) levels s v narrow le h = absurd h
    number_within (StructOf name pinned _) levels s v narrow le h = absurd h
    number_within (IntegralOf name type fields) levels s v narrow le h =
        let is = h.2 in
        rw is
        (omega arith, le, digits_within fields (opened levels) s h.0 type.width narrow.0 narrow.1 le tt h.1)
    number_within (UnionOf name alternatives) levels s v narrow le h = absurd h

    digits_within : (parts : Parts) (levels : Levels) (s : ℕ) (inside : Levels) (most : ℕ) → AreUpTo most parts
        → AreNarrowTypes parts → s + most ≤ m → IsTopWithin levels → DigitsFit parts levels s inside
        → IsTopWithin inside
    digits_within NoParts levels s inside most up narrow le top h =
        subst (λ (l : Levels). IsTopWithin l) (sym h) top
    digits_within (PartThen name order ty c rest) levels s inside most up narrow le top h =
        digits_within rest (pushed levels (Some h.0)) s inside most up.1 narrow.1 le
        (some_pushed within_each levels h.0 top
        (number_within ty levels s h.0 narrow.0 (omega (arith, up.0, le)) h.1)) h.3

  mutual
    unfolding Fits

    members_within : (ty : PokeType) (levels : Levels) (s : ℕ) (v : Value) → IsNarrowType ty →
        Fits m ty levels s v → AreWithin m (members_of v)
    members_within (IntegerOf type) levels s v narrow h =
        members_inside v (number_within (IntegerOf type) levels s v narrow h.1 h.0)
    members_within (OffsetOf type unit) levels s v narrow h =
        members_inside v (number_within (OffsetOf type unit) levels s v narrow h.1 h.0)
    members_within StringOf levels s v narrow h = let is = h.2 in rw is tt
    members_within (ArrayOf element bound) levels s v narrow h =
        let is = h.8 in
        rw is
        (elements_have within_each (Fits m element)
        (λ l at u fit. fitting element l at u fit (members_within element l at u narrow fit)) h.5 tt)
    members_within (StructOf name pinned fields) levels s v narrow h =
        let is = h.4 in
        rw is (fields_within pinned s fields (opened levels) s s h.0 h.1 narrow tt h.2)
    members_within (IntegralOf name type fields) levels s v narrow h =
        members_inside v (number_within (IntegralOf name type fields) levels s v narrow h.1 h.0)
    members_within (UnionOf name alternatives) levels s v narrow h =
        let is = h.2 in
        rw is (alternative_within alternatives 0 (opened levels) s h.0 narrow h.1, tt)

    fields_within : (pinned : Bool) (s : ℕ) (fields : Fields) (levels : Levels) (behind top : ℕ) (inside : Levels)
        (end : ℕ) → AreNarrowFields fields → IsTopWithin levels
        → FieldsFit m pinned s fields levels behind top inside end → IsTopWithin inside
    fields_within pinned s NoFields levels behind top inside end narrow before h =
        subst (λ (l : Levels). IsTopWithin l) (sym h.0) before
    fields_within pinned s (FieldThen name order ty c label when rest) levels behind top inside end narrow before
        (inl h) =
        fields_within pinned s rest (pushed levels None) behind top inside end narrow.1
        (none_pushed within_each levels before) h.1
    fields_within pinned s (FieldThen name order ty c label when rest) levels behind top inside end narrow before
        (inr h) =
        fields_within pinned s rest (pushed levels (Some h.4)) _ _ inside end narrow.1
        (some_pushed within_each levels h.4 before
        (fitting ty levels h.1 h.4 h.5 (members_within ty levels h.1 h.4 narrow.0 h.5))) h.7

    alternative_within : (parts : Parts) (index : ℕ) (levels : Levels) (s : ℕ) (t : Taken) → AreNarrowTypes parts →
        AlternativeFits m parts index levels s t → IsWithin m t.value
    alternative_within NoParts index levels s t narrow h = absurd h
    alternative_within (PartThen name order ty c rest) index levels s t narrow (inl h) =
        fitting ty levels s t.value h.2 (members_within ty levels s t.value narrow.0 h.2)
    alternative_within (PartThen name order ty c rest) index levels s t narrow (inr h) =
        alternative_within rest (index + 1) levels s t narrow.1 h

  pub value_within : (ty : PokeType) (levels : Levels) (s : ℕ) (v : Value) → IsNarrowType ty → Fits m ty levels s v
      → IsWithin m v
  value_within ty levels s v narrow h = fitting ty levels s v h (members_within ty levels s v narrow h)
