-- Values have no other parts than those that their types can have.
use Rattle.std.specs.Prelude.{◌≡◌, ℕ, Bool, true, false, ◌&&◌, nat_eq, nat_le, List, [], ◌∷◌, Some, unwrap_or}
use Rattle.pickle_types.specs.Types.{PokeType}
use Rattle.pickle_meaning.specs.Values.{Label, IntegerLabel, OffsetLabel, TextLabel, ArrayLabel, StructLabel, UnionLabel, Value, Levels, label_of, members_of, member_at}
use Rattle.pickle_meaning.specs.Fits.{Fits}
use Rattle.value_store.specs.Labels.{member_name}
use Rattle.command_line.specs.declared.path.Step.{Step}
use Rattle.command_line.specs.declared.path.Step.TheVariants.{Field, Place, Element}
use Rattle.command_line.specs.declared.pattern.PatternStep.{PatternStep}
use Rattle.command_line.specs.declared.pattern.PatternStep.TheVariants.{Exact, Elements, Fields as AllFields}
use Rattle.type_parts.specs.CanHave.{of_pattern_step, can_have}
use Rattle.type_parts.specs.Twice.{ends_after, can_match_twice}

-- whether a step leads to the member at a place of a value with this label
abbrev pub leads_to_member : PatternStep → Label → (place : ℕ) → Bool
leads_to_member step (IntegerLabel number type) place = false
leads_to_member step (OffsetLabel magnitude type unit) place = false
leads_to_member step (TextLabel bytes) place = false
leads_to_member step ArrayLabel place = (of_pattern_step step).element
leads_to_member step (StructLabel name fields) place =
    (of_pattern_step step).field (member_name (StructLabel name fields) place) place
leads_to_member step (UnionLabel name index alternative) place =
    (of_pattern_step step).field (member_name (UnionLabel name index alternative) place) place

-- a step leads from a value to one of its members
abbrev pub StepLeads : PatternStep → (value member : Value) → Type 0
StepLeads step value member = (place : ℕ) × (member_at (members_of value) place ≡ Some member)
    × (leads_to_member step (label_of value) place ≡ true)

-- steps lead from a value to one of its parts, one after the other
abbrev pub StepsLead : List PatternStep → (value part : Value) → Type 0
StepsLead [] value part = value ≡ part
StepsLead (step ∷ steps) value part = (member : Value) × StepLeads step value member × StepsLead steps member part

-- a value that fits a type has only parts that values of the type can have
abbrev pub HasOnlyItsParts : Type 0
HasOnlyItsParts = (steps : List PatternStep) (type : PokeType) (m : ℕ) (levels : Levels) (s : ℕ) (value part : Value) →
    Fits m type levels s value → StepsLead steps value part → can_have steps type ≡ true

-- whether a step leads to this place among members to which it can lead: an element's own place, and those of a span
abbrev pub is_element_at : Step → (place : ℕ) → Bool
is_element_at (Field name) place = true
is_element_at (Place at) place = true
is_element_at (Element at) place = nat_eq at place

abbrev pub is_at : PatternStep → (place : ℕ) → Bool
is_at (Exact step) place = is_element_at step place
is_at (Elements span) place = nat_le (unwrap_or span.from 0) place && ends_after span.end place
is_at AllFields place = true

-- steps match a part of a value, by way of the members at these places
abbrev pub Matches : List PatternStep → (value : Value) → (places : List ℕ) → (part : Value) → Type 0
Matches [] value [] part = value ≡ part
Matches [] value (place ∷ places) part = ⊥
Matches (step ∷ steps) value [] part = ⊥
Matches (step ∷ steps) value (place ∷ places) part =
    (member : Value) × (member_at (members_of value) place ≡ Some member)
    × (leads_to_member step (label_of value) place ≡ true) × (is_at step place ≡ true)
    × Matches steps member places part

-- A pattern that can't match twice matches at most one part of a value that fits the type: any two that it matches are
-- at the same places.
abbrev pub MatchesOnce : Type 0
MatchesOnce = (steps : List PatternStep) (type : PokeType) (m : ℕ) (levels : Levels) (s : ℕ) (value part other : Value)
    (places others : List ℕ) → can_match_twice steps type ≡ false → Fits m type levels s value →
    Matches steps value places part → Matches steps value others other → places ≡ others
