-- The values that fit small types have small parts.
use Rattle.std.proofs.Common.{◌≡◌, ℕ, zero, suc, ◌+◌, ◌-◌, ◌^◌, ◌<◌, ◌≤◌, inl, inr, length, Bool, true, false, pos, negsuc, List, [], ◌∷◌, Some, None, refl, sym, ap, subst, arith, pow_mono}
use Rattle.std.specs.Prelude.{unsigned_abs, nat_le, ◌-ℤ◌, if◌then◌else◌}
use Rattle.std.proofs.lemmas.Bool.{leb-true, lt-ltb}
use Rattle.pickle_types.specs.declared.integer.IntegerType.{IntegerType}
use Rattle.pickle_types.specs.Types.{PokeType, IntegerOf, OffsetOf, StringOf, ArrayOf, StructOf, IntegralOf, UnionOf, Fields, NoFields, FieldThen, Parts, NoParts, PartThen}
use Rattle.pickle_meaning.specs.Arithmetic.{with_sign}
use Rattle.pickle_meaning.specs.Values.{Value, Levels, pushed, opened, top_of, gathered}
use Rattle.pickle_meaning.specs.Means.{field_names, part_names, Taken}
use Rattle.pickle_meaning.specs.Fits.{IsText, FitsNumber, DigitsFit, Fits, FieldsFit, AlternativeFits}
use Rattle.value_text.specs.SmallParts.{AreBytes, IsNameOfBytes, AreNamesOfBytes, HasSmallParts, AreSmallParts}
use Rattle.poke_batch.proofs.AllMembers.{small_each, some_pushed, none_pushed, elements_have, Gains, gains_none, gains_one}
use Rattle.poke_batch.proofs.SmallTypes.{IsSmallType, AreSmallFields, AreSmallTypes}

signed_small : (type : IntegerType) (n : ℕ) → type.width ≤ 64 → n < 2 ^ type.width →
    unsigned_abs (with_sign type n) < 2 ^ 64
unfolding with_sign
signed_small type n wide lt = chosen type.signed (nat_le (2 ^ (type.width - 1)) n) refl
  where
    most : 2 ^ type.width ≤ 2 ^ 64
    most = pow_mono {i = type.width} {j = 64} wide

    below_none : (n k : ℕ) → n < k → pos n -ℤ pos k ≡ negsuc (k - n - 1)
    below_none n zero lt = absurd (omega (arith, lt))
    below_none n (suc k) lt =
        let one : suc k - suc n ≡ suc k - n - 1 = omega arith in
        rw (lt-ltb n (suc k) lt) (ap negsuc one)

    chosen : (b c : Bool) → nat_le (2 ^ (type.width - 1)) n ≡ c →
        unsigned_abs (if b then (if c then pos n -ℤ pos (2 ^ type.width) else pos n) else pos n) < 2 ^ 64
    chosen true true e =
        let some : 1 ≤ 2 ^ (type.width - 1) = pow_mono {i = 0} {j = type.width - 1} (omega arith) in
        let le = leb-true (2 ^ (type.width - 1)) n e in
        rw (below_none n (2 ^ type.width) lt) (omega (arith, most, lt, some, le))
    chosen true false e = omega (arith, most, lt)
    chosen false c e = omega (arith, most, lt)

text_small : (bytes : List ℕ) → IsText bytes → AreBytes bytes
text_small [] h = tt
text_small (b ∷ bytes) h = (h.1, text_small bytes h.2)

-- ---- what a frame has gathered

abbrev HasSmallTop : Levels → Type 0
HasSmallTop levels = AreSmallParts (gathered (top_of levels))

-- ---- the types

mutual
  unfolding FitsNumber

  number_small : (ty : PokeType) (levels : Levels) (s : ℕ) (v : Value) → IsSmallType ty →
      FitsNumber ty levels s v → HasSmallParts v
  number_small (IntegerOf type) levels s v small h = let is = h.2 in rw is (signed_small type h.0 small h.1, tt)
  number_small (OffsetOf type unit) levels s v small h =
      let is = h.2 in rw is ((signed_small type h.0 small.0 h.1, small.1), tt)
  number_small StringOf levels s v small h = absurd h
  number_small (ArrayOf element bound) levels s v small h = absurd h
  number_small (StructOf name pinned _) levels s v small h = absurd h
  number_small (IntegralOf name type fields) levels s v small h =
      let is = h.2 in
      let g = digits_small fields (opened levels) s h.0 small.2 tt h.1 in
      rw is ((omega (arith, g.count, small.0), small.1), g.are)
  number_small (UnionOf name alternatives) levels s v small h = absurd h

  digits_small : (parts : Parts) (levels : Levels) (s : ℕ) (inside : Levels) → AreSmallTypes parts →
      HasSmallTop levels → DigitsFit parts levels s inside →
      Gains AreSmallParts levels inside (length (part_names parts))
  digits_small NoParts levels s inside small top h = gains_none levels inside h top
  digits_small (PartThen name order ty c rest) levels s inside small top h =
      gains_one levels inside (Some h.0) (length (part_names rest))
      (digits_small rest (pushed levels (Some h.0)) s inside small.1
      (some_pushed small_each levels h.0 top (number_small ty levels s h.0 small.0 h.1)) h.3)

mutual
  unfolding Fits

  pub value_small : (m : ℕ) (ty : PokeType) (levels : Levels) (s : ℕ) (v : Value) → IsSmallType ty →
      Fits m ty levels s v → HasSmallParts v
  value_small m (IntegerOf type) levels s v small h = number_small (IntegerOf type) levels s v small h.0
  value_small m (OffsetOf type unit) levels s v small h = number_small (OffsetOf type unit) levels s v small h.0
  value_small m StringOf levels s v small h = let is = h.2 in rw is (text_small h.0 h.1, tt)
  value_small m (ArrayOf element bound) levels s v small h =
      let is = h.8 in
      rw is
      (tt, elements_have small_each (Fits m element) (λ l at u fit. value_small m element l at u small fit) h.5 tt)
  value_small m (StructOf name pinned fields) levels s v small h =
      let is = h.4 in
      let g = fields_small m pinned s fields (opened levels) s s h.0 h.1 small.2 tt h.2 in
      rw is ((omega (arith, g.count, small.0), small.1), g.are)
  value_small m (IntegralOf name type fields) levels s v small h =
      number_small (IntegralOf name type fields) levels s v small h.0
  value_small m (UnionOf name alternatives) levels s v small h =
      let is = h.2 in
      let t = alternative_small m alternatives 0 (opened levels) s h.0 small.0 small.1 h.1 in
      rw is ((omega arith, t.0), (t.1, tt))

  fields_small : (m : ℕ) (pinned : Bool) (s : ℕ) (fields : Fields) (levels : Levels) (behind top : ℕ) (inside : Levels)
      (end : ℕ) → AreSmallFields fields → HasSmallTop levels
      → FieldsFit m pinned s fields levels behind top inside end
      → Gains AreSmallParts levels inside (length (field_names fields))
  fields_small m pinned s NoFields levels behind top inside end small before h = gains_none levels inside h.0 before
  fields_small m pinned s (FieldThen name order ty c label when rest) levels behind top inside end
      small before (inl h) =
      gains_one levels inside None (length (field_names rest)) (fields_small m pinned s rest (pushed levels None) behind
      top inside end small.1 (none_pushed small_each levels before) h.1)
  fields_small m pinned s (FieldThen name order ty c label when rest) levels behind top inside end
      small before (inr h) =
      gains_one levels inside (Some h.4) (length (field_names rest))
      (fields_small m pinned s rest (pushed levels (Some h.4)) _ _ inside end small.1
      (some_pushed small_each levels h.4 before (value_small m ty levels h.1 h.4 small.0 h.5)) h.7)

  alternative_small : (m : ℕ) (parts : Parts) (index : ℕ) (levels : Levels) (s : ℕ) (t : Taken)
      → AreNamesOfBytes (part_names parts) → AreSmallTypes parts → AlternativeFits m parts index levels s t
      → IsNameOfBytes t.name × HasSmallParts t.value
  alternative_small m NoParts index levels s t names small h = absurd h
  alternative_small m (PartThen name order ty c rest) index levels s t names small (inl h) =
      (subst IsNameOfBytes (sym h.1) names.0, value_small m ty levels s t.value small.0 h.2)
  alternative_small m (PartThen name order ty c rest) index levels s t names small (inr h) =
      alternative_small m rest (index + 1) levels s t names.1 small.1 h
