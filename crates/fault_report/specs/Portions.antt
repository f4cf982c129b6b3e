-- The parts that the nodes of a table have.
use Rattle.std.specs.Prelude.{◌≡◌, ℕ, ◌<◌, List, ◌++◌, Option, Some, None, length, codes, decimal}
use Rattle.pickle_types.specs.declared.node.Field.{Field}
use Rattle.pickle_types.specs.declared.node.Part.{Part}
use Rattle.pickle_types.specs.declared.node.Shape.{Shape}
use Rattle.pickle_types.specs.declared.node.Node.{Node}
use Rattle.pickle_types.specs.Types.{PokeType}
use Rattle.pickle_types.specs.Table.{open_shape, open_fields, open_parts, type_of, NamesBelow, FieldsBelow, PartsBelow}
use Rattle.value_text.specs.PathText.{field_step}
use Rattle.text_output.specs.Brackets.{in_brackets}
use Rattle.fault_report.specs.declared.way.Joint.{Joint}
use Rattle.fault_report.specs.declared.way.Joint.TheVariants.{Element, Named, Nameless}
use Rattle.fault_report.specs.declared.way.Portion.{Portion}
use Rattle.fault_report.specs.declared.way.WayStep.{WayStep}
use Rattle.fault_report.specs.Ways.{TypePart, field_at, alternative_at, part_at, step_text}

-- the name of a part
abbrev pub joint_name : Joint → Option (List ℕ)
joint_name Element = None
joint_name (Named name) = Some name.now
joint_name Nameless = None

-- the step to a part at a place
abbrev pub joint_text : Joint → (place : ℕ) → List ℕ
joint_text Element place = in_brackets place
joint_text (Named name) place = codes "." ++ name.now
joint_text Nameless place = codes "." ++ decimal place

-- a portion, if the nodes of the table have these types
abbrev pub typed : (ℕ → PokeType) → Portion → TypePart
typed at p = record { name = joint_name p.joint; type = at p.node }

-- the part of a shape at a place, whatever the types of the nodes that it names are
pub record IsShapePortion (s : Shape) (place : ℕ) (p : Portion) : Type 0 where
  pub part : (at : ℕ → PokeType) → part_at (open_shape at s) place ≡ Some (typed at p)
  pub step : (at : ℕ → PokeType) → step_text (open_shape at s) (joint_name p.joint) place ≡ joint_text p.joint place
  pub below : (i : ℕ) → NamesBelow i s → p.node < i

pub record IsFieldPortion (fields : List Field) (place : ℕ) (p : Portion) : Type 0 where
  pub part : (at : ℕ → PokeType) → field_at (open_fields at fields) place ≡ Some (typed at p)
  pub step : joint_text p.joint place ≡ field_step (joint_name p.joint) place
  pub below : (i : ℕ) → FieldsBelow i fields → p.node < i

pub record IsPartPortion (parts : List Part) (place : ℕ) (p : Portion) : Type 0 where
  pub part : (at : ℕ → PokeType) → alternative_at (open_parts at parts) place ≡ Some (typed at p)
  pub step : joint_text p.joint place ≡ field_step (joint_name p.joint) place
  pub below : (i : ℕ) → PartsBelow i parts → p.node < i

-- the part to which a step leads from its node
pub record IsPortion (nodes : List Node) (to : WayStep) (p : Portion) : Type 0 where
  pub part : part_at (type_of nodes to.node) to.place ≡ Some (typed (type_of nodes) p)
  pub step : step_text (type_of nodes to.node) (joint_name p.joint) to.place ≡ joint_text p.joint to.place
  pub inside : p.node < length nodes

-- there is no part at a place of a shape, whatever the types of the nodes that it names are
abbrev pub LacksField : List Field → (place : ℕ) → Type 0
LacksField fields place = (at : ℕ → PokeType) → field_at (open_fields at fields) place ≡ None

abbrev pub LacksAlternative : List Part → (place : ℕ) → Type 0
LacksAlternative parts place = (at : ℕ → PokeType) → alternative_at (open_parts at parts) place ≡ None

abbrev pub LacksShapePortion : Shape → (place : ℕ) → Type 0
LacksShapePortion s place = (at : ℕ → PokeType) → part_at (open_shape at s) place ≡ None

-- a step leads from its node to no part
abbrev pub LacksPortion : List Node → WayStep → Type 0
LacksPortion nodes to = to.node < length nodes → part_at (type_of nodes to.node) to.place ≡ None
