-- A value that fits a type has only parts that values of the type can have.
use Rattle.std.proofs.Common.{◌≡◌, ℕ, zero, suc, ◌+◌, inl, inr, Bool, true, false, ◌&&◌, ◌||◌, List, [], ◌∷◌, Option, Some, None, refl, sym, ◌∙◌, ap, subst, arith}
use Rattle.std.specs.Prelude.{slice_get, unwrap_or}
use Rattle.pickle_types.specs.Types.{PokeType, IntegerOf, OffsetOf, StringOf, ArrayOf, StructOf, IntegralOf, UnionOf, Fields, NoFields, FieldThen, Parts, NoParts, PartThen}
use Rattle.pickle_meaning.specs.Values.{Naming, Value, NoMembers, Levels, opened, gathered, member_at, members_of, label_of}
use Rattle.pickle_meaning.specs.Means.{field_names, part_names, Taken}
use Rattle.pickle_meaning.specs.Fits.{FitsNumber, Fits, AlternativeFits}
use Rattle.value_store.specs.Labels.{only_name}
use Rattle.command_line.specs.declared.pattern.PatternStep.{PatternStep}
use Rattle.type_parts.specs.CanHave.{of_pattern_step, some_member, some_part, by_pattern, any_type}
use Rattle.type_parts.specs.Members.{Member, fields_in, parts_in}
use Rattle.type_parts.specs.declared.member.Standing.TheVariants.{Apart, Together}
use Rattle.type_parts.specs.Laws.{leads_to_member, StepLeads, StepsLead, HasOnlyItsParts}
use Rattle.type_parts.proofs.Typed.{IsOf, as_value, as_digits, AreOf, AreElements, digits_get, fields_get, elements_get}

first_true : (a b : Bool) → a ≡ true → a || b ≡ true
first_true true b e = refl
first_true false b e = cc

second_true : (a b : Bool) → b ≡ true → a || b ≡ true
second_true true b e = refl
second_true false b e = e

both_true : (a b : Bool) → a ≡ true → b ≡ true → a && b ≡ true
both_true true b e f = f
both_true false b e f = cc

same_some : {A : Type 0} (a b : A) → Some a ≡ Some b → a ≡ b
same_some a b e = cc

-- the names of members
abbrev pub names_in : List (Member PokeType) → List Naming
names_in [] = []
names_in (member ∷ rest) = member.name ∷ names_in rest

pub field_names_in : (fields : Fields) → field_names fields ≡ names_in (fields_in fields)
field_names_in NoFields = refl
field_names_in (FieldThen name order type c label when rest) = ap (λ ns. name ∷ ns) (field_names_in rest)

pub part_names_in : (parts : Parts) → part_names parts ≡ names_in (parts_in parts)
part_names_in NoParts = refl
part_names_in (PartThen name order type c rest) = ap (λ ns. name ∷ ns) (part_names_in rest)

module _ (step : PatternStep) (goal : PokeType → Bool) (part : Value)
    (meets : (type : PokeType) → IsOf type part → goal type ≡ true) where
  -- among members, of which the first stands at a place
  pub member_led : (members : List (Member PokeType)) (xs : List (Option Value)) (first place at : ℕ) →
      AreOf members xs →
      member_at (gathered xs) place ≡ Some part →
      at ≡ first + place →
      (of_pattern_step step).field (unwrap_or (slice_get (names_in members) place) None) at ≡ true →
      some_member (of_pattern_step step) goal Apart members first ≡ true
  member_led [] [] first place at are is sum leads = cc
  member_led [] (x ∷ xs) first place at are is sum leads = cc
  member_led (member ∷ rest) [] first place at are is sum leads = absurd are
  member_led (member ∷ rest) (None ∷ xs) first zero at are is sum leads = cc
  member_led (member ∷ rest) (Some v ∷ xs) first zero at are is sum leads =
      first_true _ _ (both_true _ _
      (subst (λ k. (of_pattern_step step).field member.name k ≡ true) (omega (arith, sum)) leads)
      (meets member.type (subst (IsOf member.type) (same_some v part is) are.0)))
  member_led (member ∷ rest) (None ∷ xs) first (suc place) at are is sum leads =
      second_true _ _ (member_led rest xs (first + 1) place at are.1 is (omega (arith, sum)) leads)
  member_led (member ∷ rest) (Some v ∷ xs) first (suc place) at are is sum leads =
      second_true _ _ (member_led rest xs (first + 1) place at are.1 is (omega (arith, sum)) leads)

  element_led : (element : PokeType) (xs : List (Option Value)) (place : ℕ) → AreElements element xs →
      member_at (gathered xs) place ≡ Some part → goal element ≡ true
  element_led element [] place are at = cc
  element_led element (None ∷ xs) zero are at = cc
  element_led element (Some v ∷ xs) zero are at = meets element (subst (IsOf element) (same_some v part at) are.0)
  element_led element (None ∷ xs) (suc place) are at = element_led element xs place are.1 at
  element_led element (Some v ∷ xs) (suc place) are at = element_led element xs place are.1 at

  named : (names others : List Naming) → names ≡ others → (place : ℕ) →
      (of_pattern_step step).field (unwrap_or (slice_get names place) None) place ≡ true →
      (of_pattern_step step).field (unwrap_or (slice_get others place) None) place ≡ true
  named names others same place leads =
      subst (λ ns. (of_pattern_step step).field (unwrap_or (slice_get ns place) None) place ≡ true) same leads

  -- a value without members
  no_member : (v : Value) → members_of v ≡ NoMembers → {b : Bool} → StepLeads step v part → b ≡ true
  no_member v none leads =
      absurd (no_part (sym (ap (λ ms. member_at ms leads.0) none) ∙ leads.1))
    where
      no_part : None ≡ Some part → ⊥
      no_part e = cc

  alternative_led : (m : ℕ) (parts : Parts) (index : ℕ) (levels : Levels) (s : ℕ) (t : Taken) (number : ℕ) →
      AlternativeFits m parts index levels s t → t.value ≡ part → (of_pattern_step step).field t.name 0 ≡ true →
      some_member (of_pattern_step step) goal Together (parts_in parts) number ≡ true
  unfolding Fits
  alternative_led m NoParts index levels s t number h at leads = absurd h
  alternative_led m (PartThen name order type c rest) index levels s t number (inl h) at leads =
      first_true _ _ (both_true _ _ (subst (λ n. (of_pattern_step step).field n 0 ≡ true) h.1 leads)
      (meets type (subst (IsOf type) at (as_value m levels s h.2))))
  alternative_led m (PartThen name order type c rest) index levels s t number (inr h) at leads =
      second_true _ _ (alternative_led m rest (index + 1) levels s t (number + 1) h at leads)

  number_led : (type : PokeType) (levels : Levels) (s : ℕ) (v : Value) → FitsNumber type levels s v →
      StepLeads step v part → some_part (of_pattern_step step) goal type ≡ true
  unfolding FitsNumber
  number_led (IntegerOf type) levels s v h leads = no_member v (ap members_of h.2) leads
  number_led (OffsetOf type unit) levels s v h leads = no_member v (ap members_of h.2) leads
  number_led StringOf levels s v h leads = absurd h
  number_led (ArrayOf element bound) levels s v h leads = absurd h
  number_led (StructOf name pinned fields) levels s v h leads = absurd h
  number_led (IntegralOf name type inner) levels s v h leads =
      let got = digits_get inner (opened levels) s h.0 h.1 in
      let members : members_of v ≡ gathered got.more = ap members_of h.2 ∙ ap gathered got.is in
      member_led (parts_in inner) got.more 0 leads.0 leads.0 got.are
      (sym (ap (λ ms. member_at ms leads.0) members) ∙ leads.1) (omega arith)
      (named (part_names inner) _ (part_names_in inner) leads.0
      (sym (ap (λ l. leads_to_member step l leads.0) (ap label_of h.2)) ∙ leads.2))
  number_led (UnionOf name alternatives) levels s v h leads = absurd h

  value_led : (m : ℕ) (type : PokeType) (levels : Levels) (s : ℕ) (v : Value) → Fits m type levels s v →
      StepLeads step v part → some_part (of_pattern_step step) goal type ≡ true
  unfolding Fits
  value_led m (IntegerOf type) levels s v h leads = number_led (IntegerOf type) levels s v h.0 leads
  value_led m (OffsetOf type unit) levels s v h leads = number_led (OffsetOf type unit) levels s v h.0 leads
  value_led m StringOf levels s v h leads = no_member v (ap members_of h.2) leads
  value_led m (ArrayOf element bound) levels s v h leads =
      let got = elements_get m element h.5 in
      let members : members_of v ≡ gathered got.more = ap members_of h.8 ∙ ap gathered got.is in
      both_true _ _
      (sym (ap (λ l. leads_to_member step l leads.0) (ap label_of h.8)) ∙ leads.2)
      (element_led element got.more leads.0 got.are (sym (ap (λ ms. member_at ms leads.0) members) ∙ leads.1))
  value_led m (StructOf name pinned fields) levels s v h leads =
      let got = fields_get m pinned s fields (opened levels) s s h.0 h.1 h.2 in
      let members : members_of v ≡ gathered got.more = ap members_of h.4 ∙ ap gathered got.is in
      member_led (fields_in fields) got.more 0 leads.0 leads.0 got.are
      (sym (ap (λ ms. member_at ms leads.0) members) ∙ leads.1) (omega arith)
      (named (field_names fields) _ (field_names_in fields) leads.0
      (sym (ap (λ l. leads_to_member step l leads.0) (ap label_of h.4)) ∙ leads.2))
  value_led m (IntegralOf name type inner) levels s v h leads =
      number_led (IntegralOf name type inner) levels s v h.0 leads
  value_led m (UnionOf name alternatives) levels s v h leads = union_led leads.0
      (sym (ap (λ ms. member_at ms leads.0) (ap members_of h.2)) ∙ leads.1)
      (sym (ap (λ l. leads_to_member step l leads.0) (ap label_of h.2)) ∙ leads.2)
    where
      union_led : (place : ℕ) → member_at (gathered (Some h.0.value ∷ [])) place ≡ Some part →
          (of_pattern_step step).field (only_name h.0.name place) place ≡ true →
          some_member (of_pattern_step step) goal Together (parts_in alternatives) 0 ≡ true
      union_led zero at leads = alternative_led m alternatives 0 (opened levels) s h.0 0 h.1 (same_some _ _ at) leads
      union_led (suc place) at leads = cc

  pub step_led : (type : PokeType) (v : Value) → IsOf type v → StepLeads step v part →
      some_part (of_pattern_step step) goal type ≡ true
  step_led type v (as_value m levels s h) leads = value_led m type levels s v h leads
  step_led type v (as_digits levels s h) leads = number_led type levels s v h leads

pub steps_led : (steps : List PatternStep) (goal : PokeType → Bool) (type : PokeType) (v part : Value) → IsOf type v →
    StepsLead steps v part → ((type : PokeType) → IsOf type part → goal type ≡ true) →
    by_pattern steps goal type ≡ true
steps_led [] goal type v part is led meets = meets type (subst (IsOf type) led is)
steps_led (step ∷ steps) goal type v part is led meets =
    step_led step (by_pattern steps goal) led.0
    (λ inner is_inner. steps_led steps goal inner led.0 part is_inner led.2 meets) type v is led.1

pub only_its_parts : HasOnlyItsParts
only_its_parts steps type m levels s value part fits led =
    steps_led steps any_type type value part (as_value m levels s fits) led (λ inner is. refl)
