-- The parts that the nodes of a table have.
use Rattle.std.proofs.Common.{◌≡◌, ℕ, zero, suc, ◌<◌, ◌≤◌, List, [], ◌∷◌, Option, Some, None, length, option_map, get_or, refl, sym, ap, ◌∙◌, arith}
use Rattle.std.specs.Prelude.{slice_get, IfSome, IfNone}
use Rattle.std.proofs.lemmas.Option.{slice_get-get_or, slice_get_within, get_or_from_slice_get}
use Rattle.pickle_types.specs.declared.node.Field.{Field}
use Rattle.pickle_types.specs.declared.node.Part.{Part}
use Rattle.pickle_types.specs.declared.node.Node.{Node}
use Rattle.pickle_types.specs.Types.{PokeType}
use Rattle.pickle_types.specs.Table.{name_of, open_fields, open_parts, type_of, FieldsBelow, PartsBelow, IsTable}
use Rattle.pickle_types.proofs.Tables.{opens}
use Rattle.value_text.specs.PathText.{field_step}
use Rattle.fault_report.specs.declared.way.Joint.{Joint}
use Rattle.fault_report.specs.declared.way.Portion.{Portion}
use Rattle.fault_report.specs.declared.way.WayStep.{WayStep}
use Rattle.fault_report.specs.Ways.{TypePart, field_at, alternative_at, part_at, step_text}
use Rattle.fault_report.specs.Portions.{joint_name, joint_text, IsShapePortion, IsFieldPortion, IsPartPortion, IsPortion, LacksField, LacksAlternative, LacksShapePortion, LacksPortion}

module _ (at : ℕ → PokeType) where
  abbrev typed_field : Field → TypePart
  typed_field f = record { name = name_of f.name; type = at f.node }

  abbrev typed_part : Part → TypePart
  typed_part p = record { name = name_of p.name; type = at p.node }

  field_there : (fs : List Field) (place : ℕ) (f : Field) → slice_get fs place ≡ Some f →
      field_at (open_fields at fs) place ≡ Some (typed_field f)
  field_there [] place f e = let within = slice_get_within [] place f e in absurd (omega (arith, within))
  field_there (g ∷ fs) zero f e = ap (option_map typed_field) e
  field_there (g ∷ fs) (suc place) f e = field_there fs place f e

  part_there : (ps : List Part) (place : ℕ) (p : Part) → slice_get ps place ≡ Some p →
      alternative_at (open_parts at ps) place ≡ Some (typed_part p)
  part_there [] place p e = let within = slice_get_within [] place p e in absurd (omega (arith, within))
  part_there (q ∷ ps) zero p e = ap (option_map typed_part) e
  part_there (q ∷ ps) (suc place) p e = part_there ps place p e

field_below : (fs : List Field) (place : ℕ) (f : Field) → slice_get fs place ≡ Some f → (i : ℕ) →
    FieldsBelow i fs → f.node < i
field_below fs place f e i h = rw (get_or_from_slice_get fs place f f e) at (h place f (slice_get_within fs place f e))

part_below : (ps : List Part) (place : ℕ) (p : Part) → slice_get ps place ≡ Some p → (i : ℕ) →
    PartsBelow i ps → p.node < i
part_below ps place p e i h = rw (get_or_from_slice_get ps place p p e) at (h place p (slice_get_within ps place p e))

-- a field that was found is the portion at its place
pub field_portion : (fs : List Field) (place : ℕ) (f : Field) (joint : Joint) → place < length fs
    → f ≡ get_or fs place f → joint_name joint ≡ name_of f.name
    → ((k : ℕ) → joint_text joint k ≡ field_step (name_of f.name) k)
    → IsFieldPortion fs place (record { joint = joint; node = f.node })
field_portion fs place f joint within item named step =
    let e = slice_get-get_or fs place f within ∙ ap Some (sym item) in
    record {
      part =
          λ at. field_there at fs place f e ∙ ap (λ name. Some (record { name = name; type = at f.node })) (sym named);
      step = step place ∙ ap (λ name. field_step name place) (sym named);
      below = field_below fs place f e;
    }

pub part_portion : (ps : List Part) (place : ℕ) (p : Part) (joint : Joint) → place < length ps → p ≡ get_or ps place p
    → joint_name joint ≡ name_of p.name
    → ((k : ℕ) → joint_text joint k ≡ field_step (name_of p.name) k)
    → IsPartPortion ps place (record { joint = joint; node = p.node })
part_portion ps place p joint within item named step =
    let e = slice_get-get_or ps place p within ∙ ap Some (sym item) in
    record {
      part =
          λ at. part_there at ps place p e ∙ ap (λ name. Some (record { name = name; type = at p.node })) (sym named);
      step = step place ∙ ap (λ name. field_step name place) (sym named);
      below = part_below ps place p e;
    }

-- the portion of a node's shape is that of its type
pub portion_at : (nodes : List Node) → IsTable nodes → (to : WayStep) (node : Node) (p : Portion) →
    to.node < length nodes → node ≡ get_or nodes to.node node → IsShapePortion node.shape to.place p →
    IsPortion nodes to p
portion_at nodes table to node p within item h =
    let e = slice_get-get_or nodes to.node node within ∙ ap Some (sym item) in
    let opened = opens nodes table to.node node e in
    let below = h.below to.node (table.below to.node node e) in
    record {
      part = ap (λ t. part_at t to.place) opened ∙ h.part (type_of nodes);
      step = ap (λ t. step_text t (joint_name p.joint) to.place) opened ∙ h.step (type_of nodes);
      inside = omega (arith, within, below);
    }

pub if_portion_at : (nodes : List Node) → IsTable nodes → (to : WayStep) (node : Node) → to.node < length nodes
    → node ≡ get_or nodes to.node node
    → (found : Option Portion) → IfSome found (IsShapePortion node.shape to.place) → IfSome found (IsPortion nodes to)
if_portion_at nodes table to node within item None h = h
if_portion_at nodes table to node within item (Some p) h = portion_at nodes table to node p within item h

-- ---- where there is no part

pub field_past : (fs : List Field) (place : ℕ) → length fs ≤ place → LacksField fs place
field_past [] place le at = refl
field_past (f ∷ fs) zero le at = absurd (omega (arith, le))
field_past (f ∷ fs) (suc place) le at = field_past fs place (omega (arith, le)) at

pub part_past : (ps : List Part) (place : ℕ) → length ps ≤ place → LacksAlternative ps place
part_past [] place le at = refl
part_past (p ∷ ps) zero le at = absurd (omega (arith, le))
part_past (p ∷ ps) (suc place) le at = part_past ps place (omega (arith, le)) at

pub if_no_portion : (nodes : List Node) → IsTable nodes → (to : WayStep) (node : Node) → to.node < length nodes
    → node ≡ get_or nodes to.node node
    → (found : Option Portion) → IfNone found (LacksShapePortion node.shape to.place)
    → IfNone found (LacksPortion nodes to)
if_no_portion nodes table to node within item (Some p) h = tt
if_no_portion nodes table to node within item None h =
    let e = slice_get-get_or nodes to.node node within ∙ ap Some (sym item) in
    λ _. ap (λ t. part_at t to.place) (opens nodes table to.node node e) ∙ h (type_of nodes)

-- a fact that is said where there is no value
pub if_none : {A P : Type 0} (o : Option A) → P → IfNone o P
if_none None p = p
if_none (Some x) p = tt
