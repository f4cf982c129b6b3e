-- The parts that values of a type can have, to so many levels.
use Rattle.std.specs.Prelude.{ℕ, zero, suc, ◌+◌, List, [], ◌∷◌, ◌++◌, Option, Some, None, map, slice_get}
use Rattle.std.specs.List.{flat_map}
use Rattle.pickle_types.specs.declared.node.Node.{Node}
use Rattle.pickle_types.specs.declared.node.Shape.{Shape}
use Rattle.pickle_types.specs.declared.node.Shape.TheVariants as shape
use Rattle.type_parts.specs.Members.{Member, field_member, part_member, place_of}
use Rattle.type_parts.specs.declared.member.Standing.{Standing}
use Rattle.type_parts.specs.declared.member.Standing.TheVariants.{Apart, Together}
use Rattle.part_lists.specs.declared.next.Next.{Next as RustNext}
use Rattle.part_lists.specs.Steps.{ListedStep, Elements, member_step, step_of}

-- the steps to a part, and the node of its type
pub record Part : Type 0 where
  pub steps : List ListedStep
  pub node : ℕ

-- a step from a type, and the node of the type to which it leads
pub record Next : Type 0 where
  pub step : ListedStep
  pub node : ℕ

abbrev pub next_of : RustNext → Next
next_of next = record { step = step_of next.step; node = next.node }

abbrev pub to_member : Standing → (number : ℕ) → Member ℕ → Next
to_member standing number member =
    record { step = member_step member.name (place_of standing number); node = member.type }

-- the steps to members, of which the first has a number
abbrev pub to_members : Standing → List (Member ℕ) → (number : ℕ) → List Next
to_members standing [] number = []
to_members standing (member ∷ rest) number = to_member standing number member ∷ to_members standing rest (number + 1)

-- the steps from a type to the parts that it is made of
abbrev pub steps_from : Shape → List Next
steps_from (shape.Integer type) = []
steps_from (shape.Offset type unit) = []
steps_from shape.String = []
steps_from (shape.Array element bound) = record { step = Elements; node = element } ∷ []
steps_from (shape.Struct name pinned fields) = to_members Apart (map field_member fields.items) 0
steps_from (shape.Integral name number fields) = to_members Apart (map part_member fields.items) 0
steps_from (shape.Union name alternatives) = to_members Together (map part_member alternatives.items) 0

abbrev pub steps_at : Option Node → List Next
steps_at None = []
steps_at (Some node) = steps_from node.shape

-- a part of a part, with the step to that
abbrev pub behind : ListedStep → Part → Part
behind step part = record part { steps = step ∷ part.steps }

abbrev pub itself : (node : ℕ) → Part
itself node = record { steps = []; node = node }

-- the parts below some of a type's
abbrev pub parts_behind : (parts : ℕ → List Part) → List Next → List Part
parts_behind parts = flat_map (λ next. map (behind next.step) (parts next.node))

-- the parts of the type at a node: the value itself, and those of its parts, to so many levels below it
unfoldable pub parts_of : List Node → (levels : ℕ) → (node : ℕ) → List Part
parts_of nodes zero node = itself node ∷ []
parts_of nodes (suc levels) node = itself node ∷ parts_behind (parts_of nodes levels) (steps_at (slice_get nodes node))
