-- Each value that a mapping may have fits its type, whatever the mapping reads.
use Rattle.std.proofs.Common.{◌≡◌, ℕ, zero, suc, ◌+◌, ◌-◌, ◌*◌, ◌/◌, ◌^◌, ◌<◌, ◌≤◌, max, length, Bool, true, false, List, [], ◌∷◌, ◌++◌, Option, Some, None, Result, Ok, Err, refl, sym, ap, subst, inl, inr, arith}
use Rattle.std.specs.Prelude.{◌||◌, if◌then◌else◌, nat_le, nat_eq}
use Rattle.std.proofs.Math.Nat.{mod-lt}
use Rattle.std.proofs.lemmas.Nat.{pow_pos}
use Rattle.std.proofs.lemmas.Bool.{leb-true, ltb-true, ltb-false, eqb-true, eqb-false}
use Rattle.bit_space.specs.declared.order.Order.{Order}
use Rattle.bit_space.specs.declared.order.Order.TheVariants.{Big}
use Rattle.pickle_tree.specs.declared.tree.ByteOrder.{ByteOrder}
use Rattle.pickle_types.specs.declared.integer.IntegerType.{IntegerType}
use Rattle.pickle_types.specs.Types.{Term, PokeType, IntegerOf, OffsetOf, StringOf, ArrayOf, StructOf, IntegralOf, UnionOf, Fields, NoFields, FieldThen, Parts, NoParts, PartThen}
use Rattle.pickle_types.specs.Bounds.{least_width, sum_of_widths, greatest_width, least_of_widths, has_label, count_of}
use Rattle.pickle_meaning.specs.declared.extent.Extent.{Extent}
use Rattle.pickle_meaning.specs.declared.extent.Extent.TheVariants.{Open, Count, Size}
use Rattle.pickle_meaning.specs.declared.faults.MapFaultKind.{MapFaultKind}
use Rattle.pickle_meaning.specs.declared.faults.MapFaultKind.TheVariants as fault
use Rattle.pickle_meaning.specs.Values.{Naming, Value, end_of, text_value, Levels, pushed, opened}
use Rattle.pickle_meaning.specs.Clauses.{FaultAt, constraint, condition, field_start, extent_of, is_due, is_met, ends_before, misses}
use Rattle.pickle_meaning.specs.Means.{Opened, Taken, number_type, width_in, first_digits, ordered}
use Rattle.value_store.specs.Moves.{Clears}
use Rattle.mapping_plans.specs.Plan.{Plan, Ended, Tick, Made, Read, and_then, Always, result, after_tick, after_made, after_read}
use Rattle.mapping_plans.specs.Mapping.{constrained, number_plan, digits_plan, read_plan, after_byte, text_plan, after_element, element_plan, elements_plan, after_attempt, plan, fields_plan, alternatives_plan}
use Rattle.pickle_meaning.specs.Fits.{IsText, IsWhole, ElementsFit, no_more_fit, one_more_fits, FitsNumber, DigitsFit, Fits, FieldsFit, AlternativeFits}
use Rattle.pickle_meaning.specs.Laws.{ValueFits}
use Rattle.mapping_plans.proofs.Basics.{clash}
use Rattle.mapping_plans.proofs.Widths.{EndsFrom, starts_from, next_start, later_unlabelled, present_least, absent_width, least_first}
use Rattle.mapping_plans.proofs.Always.{OfValue, weaker, then_always, ok_always, framed_always, told_always, inside_always}
use Rattle.mapping_plans.specs.Rows.{row_of}
use Rattle.mapping_plans.proofs.InRow.{element_always}

-- ---- a value that fits ends in the file, and is as wide as its type is at least

alternative_inside : (m : ℕ) (parts : Parts) (index : ℕ) (levels : Levels) (s : ℕ) (t : Taken) →
    AlternativeFits m parts index levels s t → end_of t.value ≤ m
unfolding Fits
alternative_inside m NoParts index levels s t h = absurd h
alternative_inside m (PartThen name set ty c rest) index levels s t (inl h) = h.4
alternative_inside m (PartThen name set ty c rest) index levels s t (inr h) =
    alternative_inside m rest (index + 1) levels s t h

pub fits_inside : (m : ℕ) (ty : PokeType) (levels : Levels) (s : ℕ) (v : Value) → Fits m ty levels s v → end_of v ≤ m
unfolding Fits FitsNumber
fits_inside m (IntegerOf type) levels s v h = let e = ap end_of h.0.2 in let le = h.1 in omega arith
fits_inside m (OffsetOf type unit) levels s v h = let e = ap end_of h.0.2 in let le = h.1 in omega arith
fits_inside m StringOf levels s v h = let e = ap end_of h.2 in let le = h.3 in omega arith
fits_inside m (ArrayOf element bound) levels s v h = let e = ap end_of h.8 in let le = h.7 in omega arith
fits_inside m (StructOf name pinned _) levels s v h = let e = ap end_of h.4 in let le = h.3 in omega arith
fits_inside m (IntegralOf name type fields) levels s v h = let e = ap end_of h.0.2 in let le = h.1 in omega arith
fits_inside m (UnionOf name alternatives) levels s v h =
    let e = ap end_of h.2 in let le = alternative_inside m alternatives 0 (opened levels) s h.0 h.1 in omega arith

elements_reach : {Fit : Levels → ℕ → Value → Type 0} {inside : Levels} {end n : ℕ} {levels : Levels} {place i : ℕ} →
    ElementsFit Fit inside end n levels place i → place ≤ end
elements_reach no_more_fit = omega arith
elements_reach (one_more_fits v fit lt more) = let h = elements_reach more in omega arith

top_fits : (m : ℕ) (pinned : Bool) (s : ℕ) (fields : Fields) (levels : Levels) (behind top : ℕ) (inside : Levels)
    (end : ℕ) → FieldsFit m pinned s fields levels behind top inside end → top ≤ end
unfolding Fits
top_fits m pinned s NoFields levels behind top inside end h = let e = h.1 in omega arith
top_fits m pinned s (FieldThen name set ty c label when rest) levels behind top inside end (inl h) =
    top_fits m pinned s rest (pushed levels None) behind top inside end h.1
top_fits m pinned s (FieldThen name set ty c label when rest) levels behind top inside end (inr h) =
    let v = h.4 in
    let more = top_fits m pinned s rest (pushed levels (Some h.4)) (end_of h.4) (max top (end_of h.4)) inside end h.7 in
    omega arith

later_least : (name : Naming) (set : Option ByteOrder) (ty : PokeType) (c : Option Term) (m : ℕ) (rest : Parts)
    (index : ℕ) (levels : Levels) (s : ℕ) (t : Taken) →
    AlternativeFits m rest index levels s t → least_of_widths (PartThen name set ty c rest) ≤ least_of_widths rest
unfolding Fits least_width
later_least name set ty c m NoParts index levels s t h = absurd h
later_least name set ty c m (PartThen name' set' ty' c' rest) index levels s t h = omega arith

mutual
  unfolding Fits FitsNumber least_width

  pub fits_wide : (m : ℕ) (ty : PokeType) (levels : Levels) (s : ℕ) (v : Value) → Fits m ty levels s v →
      s + least_width ty ≤ end_of v
  fits_wide m (IntegerOf type) levels s v h = let e = ap end_of h.0.2 in omega arith
  fits_wide m (OffsetOf type unit) levels s v h = let e = ap end_of h.0.2 in omega arith
  fits_wide m StringOf levels s v h = let e = ap end_of h.2 in omega arith
  fits_wide m (ArrayOf element bound) levels s v h = let e = ap end_of h.8 in let up = elements_reach h.5 in omega arith
  fits_wide m (StructOf name pinned fields) levels s v h =
      let e = ap end_of h.4 in
      let up = struct_wide (pinned || has_label fields)
      (λ none. fields_fit_sum m pinned s fields (opened levels) s s h.0 h.1 h.2 none (omega arith))
      (fields_fit_greatest m pinned s fields (opened levels) s s h.0 h.1 h.2 (omega arith) (omega arith)) in
      omega arith
    where
      struct_wide : {end : ℕ} (b : Bool) → ((b ≡ false) → s + sum_of_widths fields ≤ end) →
          s + greatest_width fields ≤ end → s + (if b then greatest_width fields else sum_of_widths fields) ≤ end
      struct_wide true f g = g
      struct_wide false f g = f refl
  fits_wide m (IntegralOf name type fields) levels s v h = let e = ap end_of h.0.2 in omega arith
  fits_wide m (UnionOf name alternatives) levels s v h =
      let e = ap end_of h.2 in let up = alternative_fits_wide m alternatives 0 (opened levels) s h.0 h.1 in omega arith

  fields_fit_sum : (m : ℕ) (pinned : Bool) (s : ℕ) (fields : Fields) (levels : Levels) (behind top : ℕ)
      (inside : Levels) (end : ℕ) → FieldsFit m pinned s fields levels behind top inside end →
      (pinned || has_label fields) ≡ false → behind ≤ top → behind + sum_of_widths fields ≤ end
  fields_fit_sum m pinned s NoFields levels behind top inside end h none le = let e = h.1 in omega arith
  fields_fit_sum m pinned s (FieldThen name set ty c label when rest) levels behind top inside end (inl h) none le =
      let e = absent_width when levels s (least_width ty) h.0 in
      let more = fields_fit_sum m pinned s rest (pushed levels None) behind top inside end h.1
      (later_unlabelled pinned label (has_label rest) none) le in
      omega arith
  fields_fit_sum m pinned s (FieldThen name set ty c label when rest) levels behind top inside end (inr h) none le =
      let e = next_start pinned label (has_label rest) levels s behind h.1 none h.2 in
      let at = e.0 in
      let wide = fits_wide m ty levels h.1 h.4 h.5 in
      let few = present_least when (least_width ty) in
      let more = fields_fit_sum m pinned s rest (pushed levels (Some h.4)) (end_of h.4) (max top (end_of h.4)) inside
      end h.7 e.1 (omega arith) in
      omega arith

  fields_fit_greatest : (m : ℕ) (pinned : Bool) (s : ℕ) (fields : Fields) (levels : Levels) (behind top : ℕ)
      (inside : Levels) (end : ℕ) →
      FieldsFit m pinned s fields levels behind top inside end → s ≤ behind → s ≤ top → s + greatest_width fields ≤ end
  fields_fit_greatest m pinned s NoFields levels behind top inside end h le up = let e = h.1 in omega arith
  fields_fit_greatest m pinned s (FieldThen name set ty c label when rest) levels behind top inside end (inl h) le up =
      let e = absent_width when levels s (least_width ty) h.0 in
      let more = fields_fit_greatest m pinned s rest (pushed levels None) behind top inside end h.1 le up in
      omega arith
  fields_fit_greatest m pinned s (FieldThen name set ty c label when rest) levels behind top inside end (inr h) le up =
      let from = h.3 in
      let wide = fits_wide m ty levels h.1 h.4 h.5 in
      let few = present_least when (least_width ty) in
      let top =
      top_fits m pinned s rest (pushed levels (Some h.4)) (end_of h.4) (max top (end_of h.4)) inside end h.7 in
      let more = fields_fit_greatest m pinned s rest (pushed levels (Some h.4)) (end_of h.4) _ inside end h.7
      (omega arith) (omega arith) in
      omega arith

  alternative_fits_wide : (m : ℕ) (parts : Parts) (index : ℕ) (levels : Levels) (s : ℕ) (t : Taken) →
      AlternativeFits m parts index levels s t → s + least_of_widths parts ≤ end_of t.value
  alternative_fits_wide m NoParts index levels s t h = absurd h
  alternative_fits_wide m (PartThen name set ty c rest) index levels s t (inl h) =
      let wide = fits_wide m ty levels s t.value h.2 in
      let few = least_first name set ty c rest in
      omega arith
  alternative_fits_wide m (PartThen name set ty c rest) index levels s t (inr h) =
      let wide = alternative_fits_wide m rest (index + 1) levels s t h in
      let few = later_least name set ty c m rest (index + 1) levels s t h in
      omega arith

-- ---- what a plan gives fits

-- nothing is required of what is stored
abbrev AnyLevels : Levels → Type 0
AnyLevels levels = Unit {0}

-- a value and its constraint, with the value in its frame
abbrev WithConstraint : (Value → Type 0) → Option Term → Levels → ℕ → Value → Type 0
WithConstraint Fit c levels at v = Fit v × (constraint c (pushed levels (Some v)) at ≡ Ok tt)

constrained_fits : (Fit : Value → Type 0) (c : Option Term) (levels : Levels) (at : ℕ) (v : Value) → Fit v →
    Always AnyLevels (OfValue (WithConstraint Fit c levels at)) (constrained c levels at v)
unfolding constrained
constrained_fits Fit c levels at v fit = told_always {Q = WithConstraint Fit c levels at} _ _ _ (λ u e. result (fit, e))

first_below : (n left width : ℕ) → first_digits n left width < 2 ^ width
first_below n left width = mod-lt (n / 2 ^ (left - width)) (pow_pos width)

digits_more : (name : Naming) (set : Option ByteOrder) (ty : PokeType) (c : Option Term) (rest : Parts)
    (levels : Levels) (s : ℕ) (v : Value) →
    WithConstraint (FitsNumber ty levels s) c levels s v → (r : Result Levels FaultAt) →
    OfValue (DigitsFit rest (pushed levels (Some v)) s) r → OfValue (DigitsFit (PartThen name set ty c rest) levels s) r
unfolding FitsNumber
digits_more name set ty c rest levels s v fit (Ok inside) h = (v, fit.0, fit.1, h)
digits_more name set ty c rest levels s v fit (Err f) h = tt

mutual
  unfolding number_plan FitsNumber

  number_fits : (ty : PokeType) (n : ℕ) (levels : Levels) (s : ℕ) → n < 2 ^ width_in (number_type ty) →
      Always AnyLevels (OfValue (FitsNumber ty levels s)) (number_plan ty n levels s)
  number_fits (IntegerOf type) n levels s lt = after_made tt (result (n, lt, refl))
  number_fits (OffsetOf type unit) n levels s lt = after_made tt (result (n, lt, refl))
  number_fits StringOf n levels s lt = result tt
  number_fits (ArrayOf element bound) n levels s lt = result tt
  number_fits (StructOf name pinned _) n levels s lt = result tt
  number_fits (IntegralOf name type fields) n levels s lt =
      framed_always levels tt tt
      (ok_always {P = DigitsFit fields (opened levels) s} {Q = FitsNumber (IntegralOf name type fields) levels s} _
      (λ inside h. after_made tt (result (inside, h, refl))) (digits_fit fields n type.width (opened levels) s))
  number_fits (UnionOf name alternatives) n levels s lt = result tt

  digits_fit : (parts : Parts) (n left : ℕ) (levels : Levels) (s : ℕ) →
      Always AnyLevels (OfValue (DigitsFit parts levels s)) (digits_plan parts n left levels s)
  digits_fit NoParts n left levels s = result refl
  digits_fit (PartThen name set ty c rest) n left levels s =
      after_tick (ok_always {P = WithConstraint (FitsNumber ty levels s) c levels s}
      {Q = DigitsFit (PartThen name set ty c rest) levels s} _
      (λ v fit. weaker (digits_more name set ty c rest levels s v fit)
      (digits_fit rest n (left - width_in (number_type ty)) (pushed levels (Some v)) s))
      (ok_always {P = FitsNumber ty levels s} {Q = WithConstraint (FitsNumber ty levels s) c levels s} _
      (λ v fit. constrained_fits (FitsNumber ty levels s) c levels s v fit)
      (after_tick (number_fits ty (first_digits n left (width_in (number_type ty))) levels s
      (first_below n left (width_in (number_type ty)))))))

read_fits : (m : ℕ) (ty : PokeType) (type : IntegerType) (order : Order) (levels : Levels) (s : ℕ) →
    type.width ≡ width_in (number_type ty) →
    Always AnyLevels
    (OfValue (λ v. FitsNumber ty levels s v × (s + type.width ≤ m))) (read_plan m ty type order levels s)
unfolding read_plan
read_fits m ty type order levels s w = after_tick (chosen (nat_le (s + type.width) m) refl)
  where
    and_inside : s + type.width ≤ m → (r : Result Value FaultAt) → OfValue (FitsNumber ty levels s) r →
        OfValue (λ v. FitsNumber ty levels s v × (s + type.width ≤ m)) r
    and_inside le (Ok v) h = (h, le)
    and_inside le (Err f) h = tt

    chosen : (b : Bool) → nat_le (s + type.width) m ≡ b →
        Always AnyLevels (OfValue (λ v. FitsNumber ty levels s v × (s + type.width ≤ m)))
        (if b then Read s type.width order (λ n. number_plan ty n levels s) else Ended (Err (fault.End, s)))
    chosen true e = after_read (λ n lt.
        weaker (and_inside (leb-true (s + type.width) m e)) (number_fits ty n levels s (subst (λ k. n < 2 ^ k) w lt)))
    chosen false e = result tt

text_grows : (bytes : List ℕ) (b : ℕ) → IsText bytes → suc b < 2 ^ 8 → IsText (bytes ++ suc b ∷ [])
text_grows [] b h lt = (omega arith, lt, tt)
text_grows (c ∷ bytes) b h lt = (h.0, h.1, text_grows bytes b h.2 lt)

pub longer : (bytes : List ℕ) (b : ℕ) → length (bytes ++ b ∷ []) ≡ length bytes + 1
longer [] b = refl
longer (c ∷ bytes) b = let h = longer bytes b in omega arith

text_fits : (m n : ℕ) (bytes : List ℕ) (levels : Levels) (s place : ℕ) → IsText bytes → place ≡ s + 8 * length bytes →
    Always AnyLevels (OfValue (Fits m StringOf levels s)) (text_plan m n bytes levels s place)
unfolding text_plan after_byte Fits
text_fits m zero bytes levels s place h e = result tt
text_fits m (suc n) bytes levels s place h e =
    after_tick (chosen (λ more. text_fits m n more levels s (place + 8)) (nat_le (place + 8) m) refl)
  where
    read : ((more : List ℕ) → IsText more → place + 8 ≡ s + 8 * length more →
        Always AnyLevels (OfValue (Fits m StringOf levels s)) (text_plan m n more levels s (place + 8))) →
        place + 8 ≤ m → (b : ℕ) → b < 2 ^ 8 →
        Always AnyLevels (OfValue (Fits m StringOf levels s))
        (after_byte (λ more. text_plan m n more levels s (place + 8)) bytes levels s (place + 8) b)
    read next le zero lt =
        let at : place + 8 ≡ s + 8 * (length bytes + 1) = omega arith in
        after_made tt (result (bytes, h, ap (text_value bytes s) at, omega arith))
    read next le (suc b) lt = after_made tt
        (next (bytes ++ suc b ∷ []) (text_grows bytes b h lt) (let l = longer bytes (suc b) in omega arith))

    chosen : ((more : List ℕ) → IsText more → place + 8 ≡ s + 8 * length more →
        Always AnyLevels (OfValue (Fits m StringOf levels s)) (text_plan m n more levels s (place + 8))) →
        (t : Bool) → nat_le (place + 8) m ≡ t →
        Always AnyLevels (OfValue (Fits m StringOf levels s)) (if t
        then Read place 8 Big (after_byte (λ more. text_plan m n more levels s (place + 8)) bytes levels s (place + 8))
        else Ended (Err (fault.End, s)))
    chosen next true le = after_read (read next (leb-true (place + 8) m le))
    chosen next false le = result tt

-- elements that fit from here on, the first of number i; an array at their end has as many as it is to have
abbrev Goes : (Levels → ℕ → Value → Type 0) → (m : ℕ) → Extent → (s i : ℕ) → Levels → ℕ → Opened → Type 0
Goes Fit m extent s i levels at r = (n : ℕ) × ElementsFit Fit r.0 r.1 n levels at i × IsWhole extent s n r.1 × (r.1 ≤ m)

-- no more than a count says
abbrev UpToCount : Extent → ℕ → Type 0
UpToCount Open i = Unit {0}
UpToCount (Count n) i = i ≤ n
UpToCount (Size z) i = Unit {0}

one_counted : (extent : Extent) (m s i p : ℕ) → is_due extent m s i p ≡ true → UpToCount extent (i + 1)
one_counted Open m s i p e = tt
one_counted (Count n) m s i p e = let h = ltb-true i n e in omega arith
one_counted (Size z) m s i p e = tt

whole : (extent : Extent) (m s i p : ℕ) → UpToCount extent i → is_due extent m s i p ≡ false →
    is_met extent s p ≡ true → IsWhole extent s i p
whole Open m s i p up e met = tt
whole (Count n) m s i p up e met = let h = ltb-false i n e in omega arith
whole (Size z) m s i p up e met = eqb-true (p - s) z met

open_whole : (extent : Extent) (k : MapFaultKind) (s i p : ℕ) → ends_before extent k ≡ true → IsWhole extent s i p
open_whole Open k s i p e = tt
open_whole (Count n) k s i p e = clash (sym e)
open_whole (Size z) k s i p e = clash (sym e)

none_counted : (extent : Extent) → UpToCount extent 0
none_counted Open = tt
none_counted (Count n) = omega arith
none_counted (Size z) = tt

-- the elements so far can continue
after_fits : (Fit : Levels → ℕ → Value → Type 0) (m : ℕ) (extent : Extent) (s i : ℕ)
    (next : Levels → ℕ → Plan (Result Opened FaultAt)) →
    ((levels : Levels) (at : ℕ) → at ≤ m →
    Always AnyLevels (OfValue (Goes Fit m extent s (i + 1) levels at)) (next levels at)) →
    ((levels : Levels) (at : ℕ) (v : Value) → Fit levels at v → (at ≤ end_of v) × (end_of v ≤ m)) →
    (levels : Levels) (at : ℕ) → at ≤ m → (r : Result Value FaultAt) → OfValue (Fit levels at) r →
    Always AnyLevels (OfValue (Goes Fit m extent s i levels at)) (after_element extent next levels at r)
unfolding after_element
after_fits Fit m extent s i next g ends levels at le (Ok v) fit = chosen (nat_eq (end_of v) at) refl
  where
    more : at < end_of v → (t : Result Opened FaultAt) →
        OfValue (Goes Fit m extent s (i + 1) (pushed levels (Some v)) (end_of v)) t →
        OfValue (Goes Fit m extent s i levels at) t
    more lt (Ok u) h = (h.0, one_more_fits v fit lt h.1, h.2, h.3)
    more lt (Err f) h = tt

    chosen : (b : Bool) → nat_eq (end_of v) at ≡ b →
        Always AnyLevels (OfValue (Goes Fit m extent s i levels at))
        (if b then Ended (Err (fault.NoBits, at)) else next (pushed levels (Some v)) (end_of v))
    chosen true e = result tt
    chosen false e =
        let ne = eqb-false (end_of v) at e in
        let up = (ends levels at v fit).0 in
        weaker (more (grind (arith, ne, up))) (g (pushed levels (Some v)) (end_of v) (ends levels at v fit).1)
after_fits Fit m extent s i next g ends levels at le (Err f) fit = chosen (ends_before extent f.0) refl
  where
    chosen : (b : Bool) → ends_before extent f.0 ≡ b →
        Always AnyLevels (OfValue (Goes Fit m extent s i levels at))
        (if b then Ended (Ok (levels, at)) else Ended (Err f))
    chosen true e = result (i, no_more_fit, open_whole extent f.0 s i at e, le)
    chosen false e = result tt

elements_fit : (m s : ℕ) (extent : Extent) (Fit : Levels → ℕ → Value → Type 0)
    (element : Levels → ℕ → Plan (Result Value FaultAt)) →
    ((levels : Levels) (at : ℕ) → Always AnyLevels (OfValue (Fit levels at)) (element levels at)) →
    ((levels : Levels) (at : ℕ) (v : Value) → Fit levels at v → (at ≤ end_of v) × (end_of v ≤ m)) →
    (n i : ℕ) (levels : Levels) (at : ℕ) → at ≤ m → UpToCount extent i →
    Always AnyLevels (OfValue (Goes Fit m extent s i levels at)) (elements_plan element m s extent n i levels at)
unfolding elements_plan
elements_fit m s extent Fit element g ends zero i levels at le up = result tt
elements_fit m s extent Fit element g ends (suc n) i levels at le up =
    chosen (λ levels at le up. elements_fit m s extent Fit element g ends n (i + 1) levels at le up)
    (is_due extent m s i at) refl (is_met extent s at) refl
  where
    chosen : ((levels : Levels) (at : ℕ) → at ≤ m → UpToCount extent (i + 1) → Always AnyLevels
        (OfValue (Goes Fit m extent s (i + 1) levels at)) (elements_plan element m s extent n (i + 1) levels at)) →
        (b : Bool) → is_due extent m s i at ≡ b → (c : Bool) → is_met extent s at ≡ c →
        Always AnyLevels (OfValue (Goes Fit m extent s i levels at)) (if b then Tick
        (and_then (element levels at) (after_element extent (elements_plan element m s extent n (i + 1)) levels at))
        else (if c then Ended (Ok (levels, at)) else Ended (Err (fault.Bounds, s))))
    chosen next true e c ec =
        after_tick (then_always _ (after_fits Fit m extent s i (elements_plan element m s extent n (i + 1))
        (λ l a le. next l a le (one_counted extent m s i at e)) ends levels at le) (g levels at))
    chosen next false e true ec = result (i, no_more_fit, whole extent m s i at up e ec, le)
    chosen next false e false ec = result tt

abbrev Fitting : ℕ → Bool → ℕ → Fields → Levels → (behind top : ℕ) → Opened → Type 0
Fitting m pinned s fields levels behind top u = FieldsFit m pinned s fields levels behind top u.0 u.1 × (u.1 ≤ m)

module _ (m : ℕ) (pinned : Bool) (s : ℕ) (name : Naming) (set : Option ByteOrder) (ty : PokeType)
    (c label when : Option Term) (rest : Fields) (levels : Levels) (behind top : ℕ) where
  field_more : (p : ℕ) → condition when levels s ≡ Ok true → field_start pinned label levels s behind ≡ Ok p → s ≤ p →
      (v : Value) → WithConstraint (Fits m ty levels p) c levels p v → (t : Result Opened FaultAt) →
      OfValue (Fitting m pinned s rest (pushed levels (Some v)) (end_of v) (max top (end_of v))) t →
      OfValue (Fitting m pinned s (FieldThen name set ty c label when rest) levels behind top) t
  unfolding Fits
  field_more p there start from v fit (Ok u) h = (inr (there, p, start, from, v, fit.0, fit.1, h.0), h.1)
  field_more p there start from v fit (Err f) h = tt

  field_absent : condition when levels s ≡ Ok false → (t : Result Opened FaultAt) →
      OfValue (Fitting m pinned s rest (pushed levels None) behind top) t →
      OfValue (Fitting m pinned s (FieldThen name set ty c label when rest) levels behind top) t
  unfolding Fits
  field_absent z (Ok u) h = (inl (z, h.0), h.1)
  field_absent z (Err f) h = tt

there_or_not : {A : Type 0} {Q : A → Type 0} (when : Option Term) (levels : Levels) (s : ℕ) {p q : Plan A}
    (there : Bool) → condition when levels s ≡ Ok there → (condition when levels s ≡ Ok true → Always AnyLevels Q p) →
    (condition when levels s ≡ Ok false → Always AnyLevels Q q) → Always AnyLevels Q (if there then p else q)
there_or_not when levels s true h f g = f h
there_or_not when levels s false h f g = g h

attempt_fits : (m : ℕ) (name : Naming) (set : Option ByteOrder) (ty : PokeType) (c : Option Term) (rest : Parts)
    (index : ℕ) (levels : Levels) (s : ℕ) (next : Plan (Result Taken FaultAt)) →
    Always AnyLevels (OfValue (AlternativeFits m rest (index + 1) levels s)) next → (r : Result Value FaultAt) →
    OfValue (WithConstraint (Fits m ty levels s) c levels s) r →
    Always AnyLevels (OfValue (AlternativeFits m (PartThen name set ty c rest) index levels s))
    (after_attempt levels next index name r)
unfolding after_attempt Fits
attempt_fits m name set ty c rest index levels s next g (Ok v) h =
    result (inl (refl, refl, h.0, h.1, fits_inside m ty levels s v h.0))
attempt_fits m name set ty c rest index levels s next g (Err f) h = chosen (misses f.0)
  where
    later : (t : Result Taken FaultAt) → OfValue (AlternativeFits m rest (index + 1) levels s) t →
        OfValue (AlternativeFits m (PartThen name set ty c rest) index levels s) t
    later (Ok t) h = inr h
    later (Err f) h = tt

    chosen : (b : Bool) →
        Always AnyLevels (OfValue (AlternativeFits m (PartThen name set ty c rest) index levels s))
        (if b then Made 0 Clears levels next else Ended (Err f))
    chosen true = after_made tt (weaker later g)
    chosen false = result tt

mutual
  unfolding plan Fits

  pub plan_fits : (m : ℕ) (ty : PokeType) (order : Order) (levels : Levels) (s : ℕ) →
      Always AnyLevels (OfValue (Fits m ty levels s)) (plan m ty order levels s)
  plan_fits m (IntegerOf type) order levels s =
      inside_always m s (λ le. read_fits m (IntegerOf type) type order levels s refl)
  plan_fits m (OffsetOf type unit) order levels s =
      inside_always m s (λ le. read_fits m (OffsetOf type unit) type order levels s refl)
  plan_fits m StringOf order levels s =
      inside_always m s (λ le. after_tick (framed_always levels tt tt (text_fits m _ [] levels s s tt (omega arith))))
  plan_fits m (ArrayOf element bound) order levels s =
      inside_always m s
      (λ le. after_tick (told_always {Q = Fits m (ArrayOf element bound) levels s} _ (extent_of bound levels s) _
      (λ extent is. framed_always levels tt tt (ok_always {P = Goes (Fits m element) m extent s 0 (opened levels) s}
      {Q = Fits m (ArrayOf element bound) levels s} _
      (λ r h. after_made tt (result (extent, is, r.0, r.1, h.0, h.1, h.2, h.3, refl)))
      (elements_fit m s extent (Fits m element) (element_plan element (plan m element order))
      (λ l p. element_always (row_of element) l (λ v fit. tt) (plan_fits m element order l p))
      (λ l a v fit. (let w = fits_wide m element l a v fit in omega arith, fits_inside m element l a v fit))
      (count_of m (least_width element)) 0 (opened levels) s le (none_counted extent))))))
  plan_fits m (StructOf name pinned fields) order levels s =
      inside_always m s (λ le. after_tick (framed_always levels tt tt (ok_always
      {P = Fitting m pinned s fields (opened levels) s s} {Q = Fits m (StructOf name pinned fields) levels s} _
      (λ r h. after_made tt (result (r.0, r.1, h.0, h.1, refl)))
      (fields_fit m pinned s fields order (opened levels) s s (omega arith) le))))
  plan_fits m (IntegralOf name type fields) order levels s =
      inside_always m s (λ le. read_fits m (IntegralOf name type fields) type order levels s refl)
  plan_fits m (UnionOf name alternatives) order levels s =
      inside_always m s (λ le. after_tick (framed_always levels tt tt (ok_always
      {P = AlternativeFits m alternatives 0 (opened levels) s} {Q = Fits m (UnionOf name alternatives) levels s} _
      (λ t h. after_made tt (result (t, h, refl))) (alternatives_fit m alternatives 0 order (opened levels) s))))

  fields_fit : (m : ℕ) (pinned : Bool) (s : ℕ) (fields : Fields) (order : Order) (levels : Levels) (behind top : ℕ) →
      s ≤ behind → top ≤ m →
      Always AnyLevels (OfValue (Fitting m pinned s fields levels behind top))
      (fields_plan m pinned s fields order levels behind top)
  fields_fit m pinned s NoFields order levels behind top from le = result ((refl, refl), le)
  fields_fit m pinned s (FieldThen name set ty c label when rest) order levels behind top from le =
      after_tick (told_always {Q = Fitting m pinned s (FieldThen name set ty c label when rest) levels behind top} _
      (condition when levels s) _
      (λ there h. there_or_not when levels s there h
      (λ yes. told_always {Q = Fitting m pinned s (FieldThen name set ty c label when rest) levels behind top} _
      (field_start pinned label levels s behind) _
      (λ p start. ok_always {P = WithConstraint (Fits m ty levels p) c levels p}
      {Q = Fitting m pinned s (FieldThen name set ty c label when rest) levels behind top} _
      (λ v fit.
      let up : s ≤ p = subst (EndsFrom (λ p. p) s) start (starts_from pinned label levels s behind from) in
      let wide = fits_wide m ty levels p v fit.0 in
      let inside = fits_inside m ty levels p v fit.0 in
      weaker (field_more m pinned s name set ty c label when rest levels behind top p yes start up v fit) (fields_fit m
      pinned s rest order (pushed levels (Some v)) (end_of v) (max top (end_of v)) (omega arith) (omega arith)))
      (ok_always {P = Fits m ty levels p} {Q = WithConstraint (Fits m ty levels p) c levels p} _
      (λ v fit. constrained_fits (Fits m ty levels p) c levels p v fit) (plan_fits m ty (ordered set order) levels p))))
      (λ no. after_made tt (weaker (field_absent m pinned s name set ty c label when rest levels behind top no)
      (fields_fit m pinned s rest order (pushed levels None) behind top from le)))))

  alternatives_fit : (m : ℕ) (parts : Parts) (index : ℕ) (order : Order) (levels : Levels) (s : ℕ) →
      Always AnyLevels (OfValue (AlternativeFits m parts index levels s))
      (alternatives_plan m parts index order levels s)
  alternatives_fit m NoParts index order levels s = result tt
  alternatives_fit m (PartThen name set ty c rest) index order levels s =
      after_tick (then_always _
      (attempt_fits m name set ty c rest index levels s _ (alternatives_fit m rest (index + 1) order levels s))
      (ok_always {P = Fits m ty levels s} {Q = WithConstraint (Fits m ty levels s) c levels s} _
      (λ v fit. constrained_fits (Fits m ty levels s) c levels s v fit) (plan_fits m ty (ordered set order) levels s)))

pub values_fit : (m : ℕ) (ty : PokeType) (order : Order) (levels : Levels) (s : ℕ) →
    Always (λ kept. Unit {0}) (ValueFits m ty levels s) (plan m ty order levels s)
values_fit m ty order levels s = weaker as_value (plan_fits m ty order levels s)
  where
    as_value : (r : Result Value FaultAt) → OfValue (Fits m ty levels s) r → ValueFits m ty levels s r
    as_value (Ok v) h = h
    as_value (Err f) h = tt

-- whatever is read, a value is as wide as its type is at least
pub plan_wide : (m : ℕ) (ty : PokeType) (order : Order) (levels : Levels) (s : ℕ) →
    Always (λ kept. Unit {0}) (EndsFrom end_of (s + least_width ty)) (plan m ty order levels s)
plan_wide m ty order levels s = weaker as_end (plan_fits m ty order levels s)
  where
    as_end : (r : Result Value FaultAt) → OfValue (Fits m ty levels s) r → EndsFrom end_of (s + least_width ty) r
    as_end (Ok v) h = fits_wide m ty levels s v h
    as_end (Err f) h = tt
