-- What the computed sizes of texts mean.
use Rattle.std.specs.Prelude.{◌≡◌, ℕ, ◌+◌, Bool, List, Option, Some, slice_get}
use Rattle.pickle_types.specs.declared.node.Field.{Field}
use Rattle.pickle_types.specs.declared.node.Node.{Node}
use Rattle.pickle_types.specs.declared.node.Part.{Part}
use Rattle.pickle_types.specs.Types.{PokeType, Fields, FieldThen, Parts, PartThen, StructOf}
use Rattle.pickle_types.specs.Table.{type_of, name_of, optional_term}
use Rattle.pickle_types.specs.Bounds.{IsBound, least_width, sum_of_widths, greatest_width, has_label, least_of_widths}
use Rattle.pickle_types.specs.Holds.{HoldsWidth, is_none}
use Rattle.text_bounds.specs.declared.form.Form.{Form}
use Rattle.text_bounds.specs.declared.size.TextSize.{TextSize}
use Rattle.text_bounds.specs.declared.fields.NodeSize.{NodeSize}
use Rattle.text_bounds.specs.declared.fields.FieldSizes.{FieldSizes}
use Rattle.text_bounds.specs.declared.fields.PartSizes.{PartSizes}
use Rattle.text_bounds.specs.TextRoom.{Size, size_of, fields_size, parts_size, greatest_size}

pub record HoldsSize (b : TextSize) (size : Size) : Type 0 where
  pub text : IsBound b.text size.text
  pub lines : IsBound b.lines size.lines

pub record AreSizes (b : NodeSize) (form : Form) (type : PokeType) (m : ℕ) : Type 0 where
  pub least : HoldsWidth b.least (least_width type)
  pub size : HoldsSize b.size (size_of form type m)

-- of the fields from a place on
pub record AreFieldSizes (b : FieldSizes) (form : Form) (place : ℕ) (fields : Fields) (m : ℕ) : Type 0 where
  pub sum : HoldsWidth b.sum (sum_of_widths fields)
  pub greatest : HoldsWidth b.greatest (greatest_width fields)
  pub label : b.has_label ≡ has_label fields
  pub size : HoldsSize b.size (fields_size form place fields m)

pub record ArePartSizes (b : PartSizes) (form : Form) (place : ℕ) (parts : Parts) (m : ℕ) : Type 0 where
  pub empty : b.is_empty ≡ is_none parts
  pub least : HoldsWidth b.least (least_of_widths parts)
  pub all : HoldsSize b.all (parts_size form place parts m)
  pub greatest : HoldsSize b.greatest (greatest_size form parts m)

-- the sizes of a field's own type and of the fields after it give those of all of them
abbrev pub JoinsField : Form → (place : ℕ) → Field → (own : NodeSize) → (rest all : FieldSizes) → Type 0
JoinsField form place field own rest all =
    (type : PokeType) (fields : Fields) (m : ℕ) → AreSizes own form type m →
    AreFieldSizes rest form (place + 1) fields m →
    AreFieldSizes all form place (FieldThen (name_of field.name) field.order type (optional_term field.constraint)
    (optional_term field.label) (optional_term field.condition) fields) m

abbrev pub JoinsPart : Form → (place : ℕ) → Part → (own : NodeSize) → (rest all : PartSizes) → Type 0
JoinsPart form place part own rest all =
    (type : PokeType) (parts : Parts) (m : ℕ) → AreSizes own form type m → ArePartSizes rest form (place + 1) parts m →
    ArePartSizes all form place (PartThen (name_of part.name) part.order type (optional_term part.constraint) parts) m

-- the least width of a struct whose fields have these sizes, whatever its name is
abbrev pub HoldsLeast : (pinned : Bool) → FieldSizes → (least : Option ℕ) → Type 0
HoldsLeast pinned sizes least =
    (name : Option (List ℕ)) (form : Form) (place m : ℕ) (fields : Fields) → AreFieldSizes sizes form place fields m →
    HoldsWidth least (least_width (StructOf name pinned fields))

-- the sizes of the first declared types are known
pub record AreKnownSizes (nodes : List Node) (roots : List ℕ) (known : List NodeSize) (form : Form)
    (m : ℕ) : Type 0 where
  pub each : (k root : ℕ) (b : NodeSize) → slice_get roots k ≡ Some root → slice_get known k ≡ Some b →
      AreSizes b form (type_of nodes root) m
