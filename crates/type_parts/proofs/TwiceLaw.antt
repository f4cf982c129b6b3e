-- A pattern that can't match twice matches at most one part of a value that fits the type.
use Rattle.std.proofs.Common.{◌≡◌, ℕ, zero, suc, ◌+◌, inl, inr, Bool, true, false, ◌&&◌, ◌||◌, List, [], ◌∷◌, Option, Some, None, refl, sym, ◌∙◌, ap, subst, arith}
use Rattle.std.specs.Prelude.{slice_get, unwrap_or, nat_le}
use Rattle.std.proofs.lemmas.Bool.{eqb-true, leb-true, ltb-true, ltb-false}
use Rattle.pickle_types.specs.Types.{PokeType, IntegerOf, OffsetOf, StringOf, ArrayOf, StructOf, IntegralOf, UnionOf, Parts, NoParts, PartThen}
use Rattle.pickle_meaning.specs.Values.{Naming, StructLabel, Value, NoMembers, Levels, opened, gathered, member_at, members_of, label_of}
use Rattle.pickle_meaning.specs.Means.{field_names, part_names, Taken}
use Rattle.pickle_meaning.specs.Fits.{FitsNumber, Fits, AlternativeFits}
use Rattle.value_store.specs.Labels.{only_name}
use Rattle.command_line.specs.declared.path.Step.TheVariants.{Field, Place, Element}
use Rattle.command_line.specs.declared.pattern.PatternStep.{PatternStep}
use Rattle.command_line.specs.declared.pattern.PatternStep.TheVariants.{Exact, Elements, Fields as AllFields}
use Rattle.type_parts.specs.CanHave.{of_pattern_step, some_member, any_type, can_have}
use Rattle.type_parts.specs.Twice.{ends_after, leads_to_many, two_members, two_parts, can_match_twice}
use Rattle.type_parts.specs.Laws.{leads_to_member, is_at, StepsLead, Matches, MatchesOnce}
use Rattle.type_parts.specs.Members.{Member, fields_in, parts_in}
use Rattle.type_parts.specs.declared.member.Standing.TheVariants.{Together}
use Rattle.type_parts.proofs.PartsLaw.{names_in, field_names_in, part_names_in, steps_led, member_led}
use Rattle.type_parts.proofs.Typed.{IsOf, as_value, as_digits, AreOf, AreElements, digits_get, fields_get, elements_get}

-- steps that match a part lead to it
pub matches_lead : (steps : List PatternStep) (value part : Value) (places : List ℕ) → Matches steps value places part →
    StepsLead steps value part
matches_lead [] value part [] is = is
matches_lead [] value part (place ∷ places) is = absurd is
matches_lead (step ∷ steps) value part [] is = absurd is
matches_lead (step ∷ steps) value part (place ∷ places) is =
    (is.0, (place, is.1, is.2), matches_lead steps is.0 part places is.4)

first_false : (a b : Bool) → a || b ≡ false → a ≡ false
first_false true b e = cc
first_false false b e = refl

second_false : (a b : Bool) → a || b ≡ false → b ≡ false
second_false true b e = cc
second_false false b e = e

not_both : (a b : Bool) → a ≡ true → a && b ≡ false → b ≡ false
not_both true b a_is e = e
not_both false b a_is e = cc

never : {A : Type 0} (b : Bool) → b ≡ true → b ≡ false → A
never true is not = absurd (true_false not)
  where
    true_false : true ≡ false → ⊥
    true_false e = cc
never false is not = absurd (false_true is)
  where
    false_true : false ≡ true → ⊥
    false_true e = cc

same_some : {A : Type 0} (a b : A) → Some a ≡ Some b → a ≡ b
same_some a b e = cc

first_true : (a b : Bool) → a && b ≡ true → a ≡ true
first_true true b e = refl
first_true false b e = cc

second_true : (a b : Bool) → a && b ≡ true → b ≡ true
second_true true b e = e
second_true false b e = cc

-- two places in a span of one
same_in_span : (from : ℕ) (end : Option ℕ) (p q : ℕ) → ends_after end (from + 1) ≡ false → nat_le from p ≡ true →
    nat_le from q ≡ true → ends_after end p ≡ true → ends_after end q ≡ true → p ≡ q
same_in_span from None p q one after after' before before' = cc
same_in_span from (Some end) p q one after after' before before' =
    let lone = ltb-false (from + 1) end one in
    let least = leb-true from p after in
    let least' = leb-true from q after' in
    let most = ltb-true p end before in
    let most' = ltb-true q end before' in
    omega arith

-- two places of elements to which a step leads that leads to one alone
same_element : (step : PatternStep) (p q : ℕ) → (of_pattern_step step).element ≡ true → leads_to_many step ≡ false →
    is_at step p ≡ true → is_at step q ≡ true → p ≡ q
same_element (Exact (Field name)) p q leads one at at' = cc
same_element (Exact (Place place)) p q leads one at at' = cc
same_element (Exact (Element place)) p q leads one at at' = sym (eqb-true place p at) ∙ eqb-true place q at'
same_element (Elements span) p q leads one at at' =
    same_in_span (unwrap_or span.from 0) span.end p q one (first_true _ _ at) (first_true _ _ at')
    (second_true _ _ at) (second_true _ _ at')
same_element AllFields p q leads one at at' = cc

module _ (step : PatternStep) (goal twice : PokeType → Bool) (part other : Value)
    (meets : (type : PokeType) → IsOf type part → goal type ≡ true)
    (others : (type : PokeType) → IsOf type other → goal type ≡ true) where
  -- the two parts are at one place, and the rest of a pattern can't match twice from there
  pub record Once (p q : ℕ) : Type 0 where
    pub same : p ≡ q
    pub type : PokeType
    pub is : IsOf type part
    pub once : twice type ≡ false

  deeper : {p q : ℕ} → Once p q → Once (suc p) (suc q)
  deeper once = record { same = ap suc once.same; type = once.type; is = once.is; once = once.once }

  members_once : (members : List (Member PokeType)) (xs : List (Option Value)) (first p q at at' : ℕ) → AreOf members xs
      → member_at (gathered xs) p ≡ Some part → member_at (gathered xs) q ≡ Some other
      → at ≡ first + p → at' ≡ first + q
      → (of_pattern_step step).field (unwrap_or (slice_get (names_in members) p) None) at ≡ true
      → (of_pattern_step step).field (unwrap_or (slice_get (names_in members) q) None) at' ≡ true
      → two_members (of_pattern_step step) goal twice members first ≡ false → Once p q
  members_once [] [] first p q at at' are is is' sum sum' leads leads' none = cc
  members_once [] (x ∷ xs) first p q at at' are is is' sum sum' leads leads' none = cc
  members_once (member ∷ rest) [] first p q at at' are is is' sum sum' leads leads' none = absurd are
  members_once (member ∷ rest) (None ∷ xs) first zero q at at' are is is' sum sum' leads leads' none = cc
  members_once (member ∷ rest) (None ∷ xs) first (suc p) zero at at' are is is' sum sum' leads leads' none = cc
  members_once (member ∷ rest) (None ∷ xs) first (suc p) (suc q) at at' are is is' sum sum' leads leads' none =
      deeper (members_once rest xs (first + 1) p q at at' are.1 is is' (omega (arith, sum)) (omega (arith, sum'))
      leads leads' (second_false _ _ none))
  members_once (member ∷ rest) (Some v ∷ xs) first zero zero at at' are is is' sum sum' leads leads' none = record {
    same = refl;
    type = member.type;
    is = subst (IsOf member.type) (same_some v part is) are.0;
    once = first_false _ _ (not_both _ _
        (subst (λ k. (of_pattern_step step).field member.name k ≡ true) (omega (arith, sum)) leads)
        (first_false _ _ none));
  }
  members_once (member ∷ rest) (Some v ∷ xs) first zero (suc q) at at' are is is' sum sum' leads leads' none =
      never _ (member_led step goal other others rest xs (first + 1) q at' are.1 is' (omega (arith, sum')) leads')
      (not_both _ _ (meets member.type (subst (IsOf member.type) (same_some v part is) are.0))
      (second_false _ _ (not_both _ _
      (subst (λ k. (of_pattern_step step).field member.name k ≡ true) (omega (arith, sum)) leads)
      (first_false _ _ none))))
  members_once (member ∷ rest) (Some v ∷ xs) first (suc p) zero at at' are is is' sum sum' leads leads' none =
      never _ (member_led step goal part meets rest xs (first + 1) p at are.1 is (omega (arith, sum)) leads)
      (not_both _ _ (others member.type (subst (IsOf member.type) (same_some v other is') are.0))
      (second_false _ _ (not_both _ _
      (subst (λ k. (of_pattern_step step).field member.name k ≡ true) (omega (arith, sum')) leads')
      (first_false _ _ none))))
  members_once (member ∷ rest) (Some v ∷ xs) first (suc p) (suc q) at at' are is is' sum sum' leads leads' none =
      deeper (members_once rest xs (first + 1) p q at at' are.1 is is' (omega (arith, sum)) (omega (arith, sum'))
      leads leads' (second_false _ _ none))

  element_is : (element : PokeType) (xs : List (Option Value)) (place : ℕ) → AreElements element xs →
      member_at (gathered xs) place ≡ Some part → IsOf element part
  element_is element [] place are at = cc
  element_is element (None ∷ xs) zero are at = cc
  element_is element (Some v ∷ xs) zero are at = subst (IsOf element) (same_some v part at) are.0
  element_is element (None ∷ xs) (suc place) are at = element_is element xs place are.1 at
  element_is element (Some v ∷ xs) (suc place) are at = element_is element xs place are.1 at

  alternative_once : (m : ℕ) (parts : Parts) (index : ℕ) (levels : Levels) (s : ℕ) (t : Taken) (number : ℕ) →
      AlternativeFits m parts index levels s t → t.value ≡ part → (of_pattern_step step).field t.name 0 ≡ true →
      some_member (of_pattern_step step) twice Together (parts_in parts) number ≡ false → Once 0 0
  unfolding Fits
  alternative_once m NoParts index levels s t number h at leads none = absurd h
  alternative_once m (PartThen name order type c rest) index levels s t number (inl h) at leads none = record {
    same = refl;
    type = type;
    is = subst (IsOf type) at (as_value m levels s h.2);
    once = not_both _ _ (subst (λ n. (of_pattern_step step).field n 0 ≡ true) h.1 leads) (first_false _ _ none);
  }
  alternative_once m (PartThen name order type c rest) index levels s t number (inr h) at leads none =
      alternative_once m rest (index + 1) levels s t (number + 1) h at leads (second_false _ _ none)

  -- a step leads from a value to the two parts
  pub record Leads (value : Value) (p q : ℕ) : Type 0 where
    pub part_is : member_at (members_of value) p ≡ Some part
    pub other_is : member_at (members_of value) q ≡ Some other
    pub part_led : leads_to_member step (label_of value) p ≡ true
    pub other_led : leads_to_member step (label_of value) q ≡ true
    pub part_at : is_at step p ≡ true
    pub other_at : is_at step q ≡ true

  no_member : (v : Value) (p q : ℕ) → members_of v ≡ NoMembers → Leads v p q → Once p q
  no_member v p q none leads = absurd (no_part (sym (ap (λ ms. member_at ms p) none) ∙ leads.part_is))
    where
      no_part : None ≡ Some part → ⊥
      no_part e = cc

  -- the members of a struct with these names
  struct_once : (name : Naming) (names : List Naming) (members : List (Member PokeType)) (xs : List (Option Value))
      (v : Value) (p q : ℕ) → names ≡ names_in members → AreOf members xs → members_of v ≡ gathered xs
      → label_of v ≡ StructLabel name names → Leads v p q
      → two_members (of_pattern_step step) goal twice members 0 ≡ false → Once p q
  struct_once name names members xs v p q same are inside label leads none =
      members_once members xs 0 p q p q are (sym (ap (λ ms. member_at ms p) inside) ∙ leads.part_is)
      (sym (ap (λ ms. member_at ms q) inside) ∙ leads.other_is) (omega arith) (omega arith)
      (named p leads.part_led) (named q leads.other_led) none
    where
      named : (place : ℕ) → leads_to_member step (label_of v) place ≡ true →
          (of_pattern_step step).field (unwrap_or (slice_get (names_in members) place) None) place ≡ true
      named place led =
          subst (λ ns. (of_pattern_step step).field (unwrap_or (slice_get ns place) None) place ≡ true) same
          (sym (ap (λ l. leads_to_member step l place) label) ∙ led)

  number_once : (type : PokeType) (levels : Levels) (s : ℕ) (v : Value) (p q : ℕ) → FitsNumber type levels s v →
      Leads v p q → two_parts step goal twice type ≡ false → Once p q
  unfolding FitsNumber
  number_once (IntegerOf type) levels s v p q h leads none = no_member v p q (ap members_of h.2) leads
  number_once (OffsetOf type unit) levels s v p q h leads none = no_member v p q (ap members_of h.2) leads
  number_once StringOf levels s v p q h leads none = absurd h
  number_once (ArrayOf element bound) levels s v p q h leads none = absurd h
  number_once (StructOf name pinned fields) levels s v p q h leads none = absurd h
  number_once (IntegralOf name type inner) levels s v p q h leads none =
      let got = digits_get inner (opened levels) s h.0 h.1 in
      struct_once name (part_names inner) (parts_in inner) got.more v p q (part_names_in inner) got.are
      (ap members_of h.2 ∙ ap gathered got.is) (ap label_of h.2) leads none
  number_once (UnionOf name alternatives) levels s v p q h leads none = absurd h

  value_once : (m : ℕ) (type : PokeType) (levels : Levels) (s : ℕ) (v : Value) (p q : ℕ) → Fits m type levels s v →
      Leads v p q → two_parts step goal twice type ≡ false → Once p q
  unfolding Fits
  value_once m (IntegerOf type) levels s v p q h leads none = number_once (IntegerOf type) levels s v p q h.0 leads none
  value_once m (OffsetOf type unit) levels s v p q h leads none =
      number_once (OffsetOf type unit) levels s v p q h.0 leads none
  value_once m StringOf levels s v p q h leads none = no_member v p q (ap members_of h.2) leads
  value_once m (ArrayOf element bound) levels s v p q h leads none =
      let got = elements_get m element h.5 in
      let members : members_of v ≡ gathered got.more = ap members_of h.8 ∙ ap gathered got.is in
      let led : (of_pattern_step step).element ≡ true =
      sym (ap (λ l. leads_to_member step l p) (ap label_of h.8)) ∙ leads.part_led in
      let is = element_is element got.more p got.are (sym (ap (λ ms. member_at ms p) members) ∙ leads.part_is) in
      let rest = not_both _ _ led none in
      record {
        same = same_element step p q led (not_goal _ _ (meets element is) (second_false _ _ rest)) leads.part_at
            leads.other_at;
        type = element;
        is = is;
        once = first_false _ _ rest;
      }
    where
      not_goal : (a b : Bool) → b ≡ true → a && b ≡ false → a ≡ false
      not_goal true b is e = cc
      not_goal false b is e = refl
  value_once m (StructOf name pinned fields) levels s v p q h leads none =
      let got = fields_get m pinned s fields (opened levels) s s h.0 h.1 h.2 in
      struct_once name (field_names fields) (fields_in fields) got.more v p q (field_names_in fields) got.are
      (ap members_of h.4 ∙ ap gathered got.is) (ap label_of h.4) leads none
  value_once m (IntegralOf name type inner) levels s v p q h leads none =
      number_once (IntegralOf name type inner) levels s v p q h.0 leads none
  value_once m (UnionOf name alternatives) levels s v p q h leads none =
      union_once p q (sym (ap (λ ms. member_at ms p) (ap members_of h.2)) ∙ leads.part_is)
      (sym (ap (λ ms. member_at ms q) (ap members_of h.2)) ∙ leads.other_is)
      (sym (ap (λ l. leads_to_member step l p) (ap label_of h.2)) ∙ leads.part_led)
    where
      union_once : (p q : ℕ) → member_at (gathered (Some h.0.value ∷ [])) p ≡ Some part →
          member_at (gathered (Some h.0.value ∷ [])) q ≡ Some other →
          (of_pattern_step step).field (only_name h.0.name p) p ≡ true → Once p q
      union_once zero zero at at' led =
          alternative_once m alternatives 0 (opened levels) s h.0 0 h.1 (same_some _ _ at) led none
      union_once zero (suc q) at at' led = cc
      union_once (suc p) q at at' led = cc

  pub step_once : (type : PokeType) (v : Value) (p q : ℕ) → IsOf type v → Leads v p q →
      two_parts step goal twice type ≡ false → Once p q
  step_once type v p q (as_value m levels s h) leads none = value_once m type levels s v p q h leads none
  step_once type v p q (as_digits levels s h) leads none = number_once type levels s v p q h leads none

-- values of a type to whose parts steps lead have such parts
can_lead : (steps : List PatternStep) (places : List ℕ) (value part : Value) → Matches steps value places part →
    (type : PokeType) → IsOf type value → can_have steps type ≡ true
can_lead steps places value part is type fits =
    steps_led steps any_type type value part fits (matches_lead steps value part places is) (λ inner is. refl)

steps_once : (steps : List PatternStep) (type : PokeType) (value part other : Value) (places others : List ℕ) →
    IsOf type value → can_match_twice steps type ≡ false → Matches steps value places part →
    Matches steps value others other → places ≡ others
steps_once [] type value part other [] [] fits none is is' = refl
steps_once [] type value part other [] (q ∷ qs) fits none is is' = absurd is'
steps_once [] type value part other (p ∷ ps) qs fits none is is' = absurd is
steps_once (step ∷ steps) type value part other [] qs fits none is is' = absurd is
steps_once (step ∷ steps) type value part other (p ∷ ps) [] fits none is is' = absurd is'
steps_once (step ∷ steps) type value part other (p ∷ ps) (q ∷ qs) fits none is is' =
    let once = step_once step (can_have steps) (can_match_twice steps) is.0 is'.0
    (can_lead steps ps is.0 part is.4) (can_lead steps qs is'.0 other is'.4) type value p q fits
    (record {
      part_is = is.1;
      other_is = is'.1;
      part_led = is.2;
      other_led = is'.2;
      part_at = is.3;
      other_at = is'.3;
    }) none in
    let there = same_some is'.0 is.0
    (sym is'.1 ∙ ap (λ k. member_at (members_of value) k) (sym once.same) ∙ is.1) in
    joined p q ps qs once.same
    (steps_once steps once.type is.0 part other ps qs once.is once.once is.4
    (subst (λ v. Matches steps v qs other) there is'.4))
  where
    joined : (p q : ℕ) (ps qs : List ℕ) → p ≡ q → ps ≡ qs → p ∷ ps ≡ q ∷ qs
    joined p q ps qs e f = cc

pub matches_once : MatchesOnce
matches_once steps type m levels s value part other places others none fits is is' =
    steps_once steps type value part other places others (as_value m levels s fits) none is is'
