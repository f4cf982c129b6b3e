-- What the calls of the checker return and build.
use Rattle.std.specs.Prelude.{◌≡◌, ℕ, ◌+◌, length, List, [], ◌∷◌, ◌++◌, Option, None, Result, Ok}
use Rattle.pickle_tree.specs.Tree.{Tree, FieldParts, FieldTree, FieldTrees, FormTree, DeclarationTree}
use Rattle.pickle_types.specs.declared.fault.FaultKind.{FaultKind}
use Rattle.pickle_types.specs.declared.node.Field.{Field}
use Rattle.pickle_types.specs.declared.node.Node.{Node}
use Rattle.pickle_types.specs.declared.node.Part.{Part}
use Rattle.pickle_types.specs.declared.node.Shape.{Shape}
use Rattle.pickle_types.specs.declared.scopes.Seen.{Seen}
use Rattle.pickle_types.specs.declared.check.enclosing.Enclosing.{Enclosing}
use Rattle.pickle_types.specs.declared.check.field_list.FieldList.{FieldList}
use Rattle.pickle_types.specs.declared.check.context.Context.{Context}
use Rattle.pickle_types.specs.declared.check.builder.Builder.{Builder}
use Rattle.pickle_types.specs.declared.check.builder.Found.{Found}
use Rattle.pickle_types.specs.declared.check.builder.Title.{Title}
use Rattle.pickle_types.specs.Types.{Term, PokeType}
use Rattle.pickle_types.specs.Table.{open_shape, open_fields, open_parts}
use Rattle.pickle_types.specs.Expressions.{Meant, find_field, find_part, field_in, typed}
use Rattle.pickle_types.specs.Meaning.{integer_expression, meaning, field_meaning, fields_meaning, declared_type}
use Rattle.pickle_types.specs.Built.{Known, Gives, bytes_now, names_of, views_of, names_in, IsFoundField}
use Rattle.pickle_types.specs.FieldNames.{place_named, part_names, shape_names}
use Rattle.pickle_types.specs.Building.{known_types, visible_in, Builds, FieldGives, FieldBuilds, FieldsBuild, AddsType}

-- ---- fields by their names

-- the field found at the place of a name is the field of that name, whatever types the nodes have
abbrev pub FindsField : List Field → (place : Option ℕ) → Option (ℕ × ℕ) → Type 0
FindsField fields place found =
    (at : ℕ → PokeType) (word : List ℕ) → place ≡ place_named word (names_in fields) →
    IsFoundField at found (find_field 0 word (open_fields at fields))

abbrev pub FindsPart : List Part → (place : Option ℕ) → Option (ℕ × ℕ) → Type 0
FindsPart parts place found =
    (at : ℕ → PokeType) (word : List ℕ) → place ≡ place_named word (part_names parts) →
    IsFoundField at found (find_part 0 word (open_parts at parts))

-- the same for a shape, which may have no such field, or no fields
abbrev pub SelectsField : Shape → (place : Option ℕ) → Result (ℕ × ℕ) FaultKind → Type 0
SelectsField shape place result =
    (at : ℕ → PokeType) (word : List ℕ) → place ≡ place_named word (shape_names shape) →
    Gives (λ x. (x.0, at x.1)) result (field_in word (open_shape at shape))

-- ---- expressions

-- what an expression means among these types, where these fields are visible
abbrev pub typed_among : List Node → Known → List Seen → (levels : ℕ) → Tree → Result Meant FaultKind
typed_among nodes names seen levels e = typed (names_of nodes names) (views_of nodes seen) levels e

abbrev pub typed_in : Context → Tree → Result Meant FaultKind
typed_in c e = typed_among c.nodes.now c.names.now c.seen.now c.levels e

-- what a field's constraint means; it sees the field itself
abbrev pub constraint_meaning : Builder → (itself : Seen) → Option Tree → Result (Option Term) FaultKind
constraint_meaning b itself e =
    integer_expression (known_types b) (views_of b.nodes (b.seen ++ itself ∷ [])) (itself.level + 1) e

-- ---- types, fields and declarations

module _ (old new : Builder) where
  -- the type that a form means, printed with a title and no deeper than `room`
  abbrev pub BuildsForm : (levels : ℕ) → Title → (room : ℕ) → FormTree → Result Found FaultKind → Type 0
  BuildsForm levels title room form result =
      Builds old new result (meaning (known_types old) (visible_in old) levels (bytes_now title.name) room form)

  -- a field with these parts, after others, of a type that is built
  abbrev pub AddsField : Enclosing → (levels : ℕ) → (before : List Field) → FieldParts → PokeType →
      Result Field FaultKind → Type 0
  AddsField place levels before parts type result =
      FieldGives old new place levels (length before) parts result
      (field_meaning (known_types old) place (visible_in old) levels (names_in before) parts (Ok type))

  -- a field, after others, whose type is no deeper than `room`
  abbrev pub BuildsField : Enclosing → (levels room : ℕ) → (before : List Field) → FieldTree →
      Result (Field × ℕ) FaultKind → Type 0
  BuildsField place levels room before f result =
      FieldBuilds old new place levels (length before) f.parts result
      (field_meaning (known_types old) place (visible_in old) levels (names_in before) f.parts
      (meaning (known_types old) (visible_in old) (levels + 1) None room f.form))

  abbrev pub BuildsFields : Enclosing → (levels room : ℕ) → FieldTrees → Result (FieldList × ℕ) FaultKind → Type 0
  BuildsFields place levels room fields result =
      FieldsBuild old new result (fields_meaning (known_types old) place (visible_in old) levels room [] fields)

  -- the type that a declaration gives its name
  abbrev pub AddsDeclaration : DeclarationTree → Result ℕ FaultKind → Type 0
  AddsDeclaration d result = AddsType old new d.name result (declared_type (known_types old) d)
