-- The patterns that can match more than one part of a value of a type, whatever was read.
use Rattle.std.specs.Prelude.{ℕ, ◌+◌, Bool, true, false, ◌&&◌, ◌||◌, nat_lt, List, [], ◌∷◌, Option, Some, None, unwrap_or}
use Rattle.pickle_types.specs.Types.{PokeType, IntegerOf, OffsetOf, StringOf, ArrayOf, StructOf, IntegralOf, UnionOf}
use Rattle.command_line.specs.declared.pattern.PatternStep.{PatternStep}
use Rattle.command_line.specs.declared.pattern.PatternStep.TheVariants.{Exact, Elements, Fields}
use Rattle.command_line.specs.declared.pattern.Span.{Span}
use Rattle.type_parts.specs.CanHave.{Leading, of_pattern_step, some_member, can_have}
use Rattle.type_parts.specs.Members.{Member, fields_in, parts_in}
use Rattle.type_parts.specs.declared.member.Standing.TheVariants.{Apart, Together}

-- whether a span has more than one place: `[*]`, `[2:]` and `[2:5]` have, `[3:4]` and `[5:2]` have not
abbrev pub ends_after : Option ℕ → (place : ℕ) → Bool
ends_after None place = true
ends_after (Some end) place = nat_lt place end

abbrev pub has_places : Span → Bool
has_places span = ends_after span.end (unwrap_or span.from 0 + 1)

-- whether a step can lead to more than one element of an array
abbrev pub leads_to_many : PatternStep → Bool
leads_to_many (Exact step) = false
leads_to_many (Elements span) = has_places span
leads_to_many Fields = false

-- Whether a step leads to two members of a struct from which the rest of a pattern leads on, or to one from which it
-- can match twice. The first member has a number.
module _ {A : Type 0} (leading : Leading) (goal twice : A → Bool) where
  abbrev pub two_members : List (Member A) → (number : ℕ) → Bool
  two_members [] number = false
  two_members (member ∷ rest) number =
      (leading.field member.name number
      && (twice member.type || (goal member.type && some_member leading goal Apart rest (number + 1))))
      || two_members rest (number + 1)

-- the same of the parts of a type; a value of a union has one alternative
abbrev pub two_parts : PatternStep → (goal twice : PokeType → Bool) → PokeType → Bool
two_parts step goal twice (IntegerOf type) = false
two_parts step goal twice (OffsetOf type unit) = false
two_parts step goal twice StringOf = false
two_parts step goal twice (ArrayOf element bound) =
    (of_pattern_step step).element && (twice element || (leads_to_many step && goal element))
two_parts step goal twice (StructOf name pinned fields) =
    two_members (of_pattern_step step) goal twice (fields_in fields) 0
two_parts step goal twice (IntegralOf name type fields) =
    two_members (of_pattern_step step) goal twice (parts_in fields) 0
two_parts step goal twice (UnionOf name alternatives) =
    some_member (of_pattern_step step) twice Together (parts_in alternatives) 0

-- whether a pattern can match more than one part of a value of a type
abbrev pub can_match_twice : List PatternStep → PokeType → Bool
can_match_twice [] type = false
can_match_twice (step ∷ steps) type = two_parts step (can_have steps) (can_match_twice steps) type
