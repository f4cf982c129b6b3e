-- No value that fits a small type on fewer than 2^64 bits has 2^64 members or more.
use Rattle.std.proofs.Common.{ℕ, ◌+◌, ◌^◌, ◌<◌, ◌≤◌, inl, inr, length, Bool, Some, None, arith}
use Rattle.pickle_types.specs.Types.{PokeType, IntegerOf, OffsetOf, StringOf, ArrayOf, StructOf, IntegralOf, UnionOf, Fields, NoFields, FieldThen, Parts, NoParts, PartThen}
use Rattle.pickle_meaning.specs.Values.{Value, Levels, pushed, opened, top_of, gathered}
use Rattle.pickle_meaning.specs.Means.{field_names, part_names, Taken}
use Rattle.pickle_meaning.specs.Fits.{ElementsFit, no_more_fit, one_more_fits, FitsNumber, DigitsFit, Fits, FieldsFit, AlternativeFits}
use Rattle.value_text.specs.SmallParts.{HasFewMembers, HaveFewMembers}
use Rattle.poke_batch.proofs.AllMembers.{few_each, some_pushed, none_pushed, top_count, count_pushed, Gains, gains_none, gains_one}
use Rattle.poke_batch.proofs.SmallTypes.{IsSmallType, AreSmallFields, AreSmallTypes}

-- ---- what a frame has gathered

abbrev HasFewTop : Levels → Type 0
HasFewTop levels = HaveFewMembers (gathered (top_of levels))

-- elements have a bit each
record Within (levels inside : Levels) (place end : ℕ) : Type 0 where
  count : top_count inside + place ≤ top_count levels + end
  few : HasFewTop inside

elements_few : (Fit : Levels → ℕ → Value → Type 0)
    → ((levels : Levels) (at : ℕ) (v : Value) → Fit levels at v → HasFewMembers v)
    → {inside : Levels} {end n : ℕ} {levels : Levels} {place i : ℕ} → ElementsFit Fit inside end n levels place i
    → HasFewTop levels → Within levels inside place end
elements_few Fit each no_more_fit h = record { count = omega arith; few = h }
elements_few Fit each {levels = levels} {place = place} (one_more_fits v fit lt rest) h =
    let more = elements_few Fit each rest (some_pushed few_each levels v h (each levels place v fit)) in
    record { count = omega (arith, more.count, lt, count_pushed levels (Some v)); few = more.few }

-- ---- the types

mutual
  unfolding FitsNumber

  number_few : (ty : PokeType) (levels : Levels) (s : ℕ) (v : Value) → IsSmallType ty →
      FitsNumber ty levels s v → HasFewMembers v
  number_few (IntegerOf type) levels s v small h = let is = h.2 in rw is (omega arith, tt)
  number_few (OffsetOf type unit) levels s v small h = let is = h.2 in rw is (omega arith, tt)
  number_few StringOf levels s v small h = absurd h
  number_few (ArrayOf element bound) levels s v small h = absurd h
  number_few (StructOf name pinned _) levels s v small h = absurd h
  number_few (IntegralOf name type fields) levels s v small h =
      let is = h.2 in
      let g = digits_few fields (opened levels) s h.0 small.2 tt h.1 in
      rw is (omega (arith, g.count, small.0), g.are)
  number_few (UnionOf name alternatives) levels s v small h = absurd h

  digits_few : (parts : Parts) (levels : Levels) (s : ℕ) (inside : Levels) → AreSmallTypes parts → HasFewTop levels →
      DigitsFit parts levels s inside → Gains HaveFewMembers levels inside (length (part_names parts))
  digits_few NoParts levels s inside small top h = gains_none levels inside h top
  digits_few (PartThen name order ty c rest) levels s inside small top h =
      gains_one levels inside (Some h.0) (length (part_names rest))
      (digits_few rest (pushed levels (Some h.0)) s inside small.1
      (some_pushed few_each levels h.0 top (number_few ty levels s h.0 small.0 h.1)) h.3)

module _ (m : ℕ) (short : m < 2 ^ 64) where
  mutual
    unfolding Fits

    pub value_few : (ty : PokeType) (levels : Levels) (s : ℕ) (v : Value) → IsSmallType ty →
        Fits m ty levels s v → HasFewMembers v
    value_few (IntegerOf type) levels s v small h = number_few (IntegerOf type) levels s v small h.0
    value_few (OffsetOf type unit) levels s v small h = number_few (OffsetOf type unit) levels s v small h.0
    value_few StringOf levels s v small h = let is = h.2 in rw is (omega arith, tt)
    value_few (ArrayOf element bound) levels s v small h =
        let is = h.8 in
        let g = elements_few (Fits m element) (λ l at u fit. value_few element l at u small fit) h.5 tt in
        rw is (omega (arith, g.count, h.7, short), g.few)
    value_few (StructOf name pinned fields) levels s v small h =
        let is = h.4 in
        let g = fields_few pinned s fields (opened levels) s s h.0 h.1 small.2 tt h.2 in
        rw is (omega (arith, g.count, small.0), g.are)
    value_few (IntegralOf name type fields) levels s v small h =
        number_few (IntegralOf name type fields) levels s v small h.0
    value_few (UnionOf name alternatives) levels s v small h =
        let is = h.2 in
        rw is (omega arith, (alternative_few alternatives 0 (opened levels) s h.0 small.1 h.1, tt))

    fields_few : (pinned : Bool) (s : ℕ) (fields : Fields) (levels : Levels) (behind top : ℕ) (inside : Levels)
        (end : ℕ) → AreSmallFields fields → HasFewTop levels
        → FieldsFit m pinned s fields levels behind top inside end
        → Gains HaveFewMembers levels inside (length (field_names fields))
    fields_few pinned s NoFields levels behind top inside end small before h = gains_none levels inside h.0 before
    fields_few pinned s (FieldThen name order ty c label when rest) levels behind top inside end small before (inl h) =
        gains_one levels inside None (length (field_names rest)) (fields_few pinned s rest (pushed levels None) behind
        top inside end small.1 (none_pushed few_each levels before) h.1)
    fields_few pinned s (FieldThen name order ty c label when rest) levels behind top inside end small before (inr h) =
        gains_one levels inside (Some h.4) (length (field_names rest))
        (fields_few pinned s rest (pushed levels (Some h.4)) _ _ inside end small.1
        (some_pushed few_each levels h.4 before (value_few ty levels h.1 h.4 small.0 h.5)) h.7)

    alternative_few : (parts : Parts) (index : ℕ) (levels : Levels) (s : ℕ) (t : Taken) → AreSmallTypes parts →
        AlternativeFits m parts index levels s t → HasFewMembers t.value
    alternative_few NoParts index levels s t small h = absurd h
    alternative_few (PartThen name order ty c rest) index levels s t small (inl h) =
        value_few ty levels s t.value small.0 h.2
    alternative_few (PartThen name order ty c rest) index levels s t small (inr h) =
        alternative_few rest (index + 1) levels s t small.1 h
