-- A value that fits a type is a value of the type, whatever was read.
use Rattle.std.proofs.Common.{ℕ, ◌+◌, Bool, Some, None, Ok, refl, sym, ap, subst, inl, inr}
use Rattle.pickle_types.specs.Types.{PokeType, IntegerOf, OffsetOf, StringOf, ArrayOf, StructOf, IntegralOf, UnionOf, Fields, NoFields, FieldThen, Parts, NoParts, PartThen}
use Rattle.pickle_meaning.specs.Values.{Value, label_of, Levels, pushed, opened, top_of, gathered}
use Rattle.pickle_meaning.specs.Arithmetic.{with_sign}
use Rattle.pickle_meaning.specs.Means.{Taken}
use Rattle.pickle_meaning.specs.Fits.{ElementsFit, no_more_fit, one_more_fits, FitsNumber, DigitsFit, Fits, FieldsFit, AlternativeFits}
use Rattle.type_soundness.specs.Sorts.{AllThere, IsOfType}
use Rattle.type_soundness.proofs.Values.{PartsAre, FieldsAre, AlternativeIs, part_then, parts_gathered, no_parts, one_more_there, field_then, absent_then, fields_gathered, no_fields, next_alternative}

mutual
  unfolding FitsNumber IsOfType

  pub number_fits : (ty : PokeType) (levels : Levels) (s : ℕ) (v : Value) → FitsNumber ty levels s v → IsOfType ty v
  number_fits (IntegerOf type) levels s v h = (with_sign type h.0, ap label_of h.2)
  number_fits (OffsetOf type unit) levels s v h = (with_sign type h.0, ap label_of h.2)
  number_fits StringOf levels s v h = absurd h
  number_fits (ArrayOf element bound) levels s v h = absurd h
  number_fits (StructOf name pinned fs) levels s v h = absurd h
  number_fits (IntegralOf name type ps) levels s v h = subst (IsOfType (IntegralOf name type ps)) (sym h.2)
      (refl, parts_gathered ps levels h.0 (digits_fit ps (opened levels) s h.0 h.1))
  number_fits (UnionOf name ps) levels s v h = absurd h

  digits_fit : (ps : Parts) (levels : Levels) (s : ℕ) (inside : Levels) → DigitsFit ps levels s inside →
      PartsAre levels ps (Ok inside)
  digits_fit NoParts levels s inside h = subst (λ l. PartsAre levels NoParts (Ok l)) (sym h) (no_parts levels)
  digits_fit (PartThen name order ty c rest) levels s inside h = part_then name order ty c rest levels h.0 (Ok inside)
      (number_fits ty levels s h.0 h.1) (digits_fit rest (pushed levels (Some h.0)) s inside h.3)

elements_fit : (Fit : Levels → ℕ → Value → Type 0) (P : Value → Type 0) →
    ((levels : Levels) (place : ℕ) (v : Value) → Fit levels place v → P v) →
    {inside : Levels} {end n : ℕ} {levels : Levels} {place i : ℕ} → ElementsFit Fit inside end n levels place i →
    AllThere P (gathered (top_of levels)) → AllThere P (gathered (top_of inside))
elements_fit Fit P each no_more_fit all = all
elements_fit Fit P each (one_more_fits {levels} {place} v h lt es) all =
    elements_fit Fit P each es (one_more_there P levels v all (each levels place v h))

mutual
  unfolding FitsNumber Fits IsOfType

  pub value_fits : (m : ℕ) (ty : PokeType) (levels : Levels) (s : ℕ) (v : Value) → Fits m ty levels s v → IsOfType ty v
  value_fits m (IntegerOf type) levels s v h = number_fits (IntegerOf type) levels s v h.0
  value_fits m (OffsetOf type unit) levels s v h = number_fits (OffsetOf type unit) levels s v h.0
  value_fits m StringOf levels s v h = (h.0, ap label_of h.2)
  value_fits m (ArrayOf element bound) levels s v h =
      let all = elements_fit (Fits m element) (IsOfType element) (λ l p u f. value_fits m element l p u f) h.5 tt in
      subst (IsOfType (ArrayOf element bound)) (sym h.8) (refl, all)
  value_fits m (StructOf name pinned fs) levels s v h =
      let fields = fields_gathered fs levels (h.0, h.1) (fields_fit m pinned s fs (opened levels) s s h.0 h.1 h.2) in
      subst (IsOfType (StructOf name pinned fs)) (sym h.4) (refl, fields)
  value_fits m (IntegralOf name type ps) levels s v h = number_fits (IntegralOf name type ps) levels s v h.0
  value_fits m (UnionOf name ps) levels s v h = subst (IsOfType (UnionOf name ps)) (sym h.2)
      (h.0.index, h.0.name, refl, alternative_fits m ps 0 (opened levels) s h.0 h.1)

  fields_fit : (m : ℕ) (pinned : Bool) (s : ℕ) (fs : Fields) (levels : Levels) (behind top : ℕ) (inside : Levels)
      (end : ℕ) → FieldsFit m pinned s fs levels behind top inside end → FieldsAre levels fs (Ok (inside, end))
  fields_fit m pinned s NoFields levels behind top inside end h =
      subst (λ l. FieldsAre levels NoFields (Ok (l, end))) (sym h.0) (no_fields levels end)
  fields_fit m pinned s (FieldThen name order ty c l d rest) levels behind top inside end (inl h) =
      absent_then name order ty c l d rest levels (Ok (inside, end))
      (fields_fit m pinned s rest (pushed levels None) behind top inside end h.1)
  fields_fit m pinned s (FieldThen name order ty c l d rest) levels behind top inside end (inr h) =
      field_then name order ty c l d rest levels h.4 (Ok (inside, end)) (value_fits m ty levels h.1 h.4 h.5)
      (fields_fit m pinned s rest (pushed levels (Some h.4)) _ _ inside end h.7)

  alternative_fits : (m : ℕ) (ps : Parts) (index : ℕ) (levels : Levels) (s : ℕ) (t : Taken) →
      AlternativeFits m ps index levels s t → AlternativeIs ps index (Ok t)
  alternative_fits m NoParts index levels s t h = absurd h
  alternative_fits m (PartThen name order ty c rest) index levels s t (inl h) =
      inl (h.0, h.1, t.value, refl, value_fits m ty levels s t.value h.2)
  alternative_fits m (PartThen name order ty c rest) index levels s t (inr h) =
      next_alternative name order ty c rest index (Ok t) (alternative_fits m rest (index + 1) levels s t h)
