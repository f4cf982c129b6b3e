-- The parts that values of a type can have, whatever was read.
use Rattle.std.specs.Prelude.{◌≡◌, ℕ, ◌+◌, ◌<◌, Bool, true, false, ◌&&◌, ◌||◌, nat_eq, List, [], ◌∷◌, map, slice_index_or, All, Option, Some, None}
use Rattle.std.specs.Str.{bytes_eq}
use Rattle.pickle_types.specs.declared.node.Node.{Node}
use Rattle.pickle_types.specs.Table.{type_of, open_shape}
use Rattle.pickle_types.specs.Types.{PokeType, IntegerOf, OffsetOf, StringOf, ArrayOf, StructOf, IntegralOf, UnionOf}
use Rattle.pickle_meaning.specs.Values.{Naming}
use Rattle.command_line.specs.declared.path.Path.{Path}
use Rattle.command_line.specs.declared.path.Step.{Step}
use Rattle.command_line.specs.declared.path.Step.TheVariants.{Field, Place, Element}
use Rattle.command_line.specs.declared.pattern.Pattern.{Pattern}
use Rattle.command_line.specs.declared.pattern.PatternStep.{PatternStep}
use Rattle.command_line.specs.declared.pattern.PatternStep.TheVariants.{Exact, Elements, Fields as AllFields}
use Rattle.command_line.specs.declared.selection.Column.{Column}
use Rattle.command_line.specs.declared.selection.Selection.{Selection}
use Rattle.command_line.specs.declared.selection.Shape.{Shape}
use Rattle.command_line.specs.declared.selection.Shape.TheVariants.{Parts as SomeParts, Rows}
use Rattle.command_line.specs.declared.terms.Terms.{Terms}
use Rattle.type_parts.specs.Members.{Member, fields_in, parts_in, place_of}
use Rattle.type_parts.specs.declared.can_have.Hop.{Hop}
use Rattle.type_parts.specs.declared.can_have.Hop.TheVariants.{To, ToElements, ToFields}
use Rattle.type_parts.specs.declared.member.Standing.{Standing}
use Rattle.type_parts.specs.declared.member.Standing.TheVariants.{Apart, Together}

-- ---- where one step leads

-- whether it leads to the field or alternative that has this name and is at this place, and to elements of an array
pub record Leading : Type 0 where
  pub field : (its : Naming) → (place : ℕ) → Bool
  pub element : Bool

abbrev pub is_called : (name : List ℕ) → Naming → Bool
is_called name None = false
is_called name (Some its) = bytes_eq its name

abbrev pub has_no_name : Naming → Bool
has_no_name None = true
has_no_name (Some its) = false

abbrev pub of_step : Step → Leading
of_step (Field name) = record { field = λ its place. is_called name.items its; element = false }
of_step (Place at) = record { field = λ its place. nat_eq at place && has_no_name its; element = false }
of_step (Element at) = record { field = λ its place. false; element = true }

abbrev pub to_elements : Leading
to_elements = record { field = λ its place. false; element = true }

abbrev pub to_fields : Leading
to_fields = record { field = λ its place. true; element = false }

abbrev pub of_pattern_step : PatternStep → Leading
of_pattern_step (Exact step) = of_step step
of_pattern_step (Elements span) = to_elements
of_pattern_step AllFields = to_fields

abbrev pub of_hop : Hop → Leading
of_hop (To step) = of_step step.now
of_hop ToElements = to_elements
of_hop ToFields = to_fields

-- whether a step leads to a member whose type is one of these, among members of which the first has a number
module _ {A : Type 0} (leading : Leading) (goal : A → Bool) (standing : Standing) where
  abbrev pub some_member : List (Member A) → (number : ℕ) → Bool
  some_member [] number = false
  some_member (member ∷ rest) number =
      (leading.field member.name (place_of standing number) && goal member.type) || some_member rest (number + 1)

-- whether a step leads from a type to a part whose type is one of these
abbrev pub some_part : Leading → (goal : PokeType → Bool) → PokeType → Bool
some_part leading goal (IntegerOf type) = false
some_part leading goal (OffsetOf type unit) = false
some_part leading goal StringOf = false
some_part leading goal (ArrayOf element bound) = leading.element && goal element
some_part leading goal (StructOf name pinned fields) = some_member leading goal Apart (fields_in fields) 0
some_part leading goal (IntegralOf name type fields) = some_member leading goal Apart (parts_in fields) 0
some_part leading goal (UnionOf name alternatives) = some_member leading goal Together (parts_in alternatives) 0

-- ---- where steps lead, one after the other

abbrev pub by_path : List Step → (goal : PokeType → Bool) → PokeType → Bool
by_path [] goal type = goal type
by_path (step ∷ steps) goal type = some_part (of_step step) (by_path steps goal) type

abbrev pub by_pattern : List PatternStep → (goal : PokeType → Bool) → PokeType → Bool
by_pattern [] goal type = goal type
by_pattern (step ∷ steps) goal type = some_part (of_pattern_step step) (by_pattern steps goal) type

abbrev pub any_type : PokeType → Bool
any_type type = true

-- whether values of a type can have a part to which a pattern leads
abbrev pub can_have : List PatternStep → PokeType → Bool
can_have steps type = by_pattern steps any_type type

-- ---- what is requested

abbrev pub can_have_each : List Pattern → PokeType → Bool
can_have_each [] type = true
can_have_each (pattern ∷ patterns) type = can_have pattern.steps.items type && can_have_each patterns type

-- rows that can have each of these columns, not all necessarily in the same row
abbrev pub can_have_columns : (row : List PatternStep) → List Column → PokeType → Bool
can_have_columns row [] type = true
can_have_columns row (column ∷ columns) type =
    by_pattern row (by_path column.path.steps.items any_type) type && can_have_columns row columns type

abbrev pub can_have_shape : Shape → PokeType → Bool
can_have_shape (SomeParts patterns) type = can_have_each patterns.items type
can_have_shape (Rows rows) type =
    can_have rows.pattern.steps.items type && can_have_columns rows.pattern.steps.items rows.columns.items type

abbrev pub can_have_selected : Option Selection → PokeType → Bool
can_have_selected None type = true
can_have_selected (Some selection) type = can_have_shape selection.shape type

abbrev pub can_have_in : Option Path → (goal : PokeType → Bool) → PokeType → Bool
can_have_in None goal type = goal type
can_have_in (Some path) goal type = by_path path.steps.items goal type

-- whether values of a type can have the parts that terms request
abbrev pub can_have_requested : Terms → PokeType → Bool
can_have_requested terms type = can_have_in terms.part (can_have_selected terms.selection) type

-- ---- by the nodes of a table

-- whether the type of a node is one of these
abbrev pub goal_at : List Node → (goal : PokeType → Bool) → Node → Bool
goal_at nodes goal node = goal (open_shape (type_of nodes) node.shape)

-- what is known of the type of each node of a table
abbrev pub AreKnown : List Node → (known : List Bool) → (goal : PokeType → Bool) → Type 0
AreKnown nodes known goal = known ≡ map (goal_at nodes goal) nodes

-- what is known at a node
abbrev pub is_known : (known : List Bool) → (node : ℕ) → Bool
is_known known node = slice_index_or known node false

-- members whose nodes are below a place
abbrev pub MembersBelow : ℕ → List (Member ℕ) → Type 0
MembersBelow count members = All (λ (member : Member ℕ). member.type < count) members
