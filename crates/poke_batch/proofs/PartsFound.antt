-- Laws of the parts to which paths lead.
use Rattle.std.proofs.Common.{◌≡◌, ◌∙◌, ℕ, suc, Bool, ◌+◌, ◌-◌, ◌<◌, true, false, List, [], ◌∷◌, Option, Some, None, drop, refl, sym, ap, subst, arith}
use Rattle.value_store.specs.Labels.{member_name}
use Rattle.pickle_meaning.specs.Values.{Label, Value, label_of, members_of, member_at}
use Rattle.command_line.specs.declared.path.Step.{Step}
use Rattle.command_line.specs.declared.path.Step.TheVariants.{Field, Place, Element}
use Rattle.command_line.specs.declared.ask.Ask.{Ask}
use Rattle.command_line.specs.declared.terms.Terms.{Terms}
use Rattle.pickle_types.specs.declared.node.Node.{Node}
use Rattle.pickle_types.specs.declared.table.Table.{Table}
use Rattle.pickle_types.specs.declared.table.TypeId.{TypeId}
use Rattle.pickle_types.specs.NodeParts.{char_node_of}
use Rattle.pickle_types.specs.TypeTable.{nodes_of}
use Rattle.value_text.specs.declared.typed.Typed.{Typed}
use Rattle.value_text.specs.TypedValue.{nodes_in, char_node_in, types_in, node_in, mapped_in}
use Rattle.poke_batch.specs.PathNodes.{node_of}
use Rattle.poke_batch.specs.Selected.{part_in, text_under, typed_text, has_selected}
use Rattle.poke_batch.specs.RunsUnder.{requested, text_beside, part_has}
use Rattle.value_text.specs.ShowWords.{FileBytes}
use Rattle.poke_batch.specs.PathParts.{is_array, is_named, is_nameless_at, place_named, place_if, place_of, member_if, member_there, node_there, node_from, node_at, step_to, part_from, part_of}

named_first : (name : List ℕ) (label : Label) (more place : ℕ) → is_named name (member_name label place) ≡ true
    → place_named name label (suc more) place ≡ Some place
named_first name label more place named = rw named refl

named_later : (name : List ℕ) (label : Label) (more place : ℕ) → is_named name (member_name label place) ≡ false
    → place_named name label (suc more) place ≡ place_named name label more (place + 1)
named_later name label more place other = rw other refl

-- the place is this
pub found_there : (name : List ℕ) (label : Label) (count place : ℕ) → place < count
    → is_named name (member_name label place) ≡ true
    → place_named name label (count - place) place ≡ Some place
found_there name label count place more named =
    let e : count - place ≡ suc (count - (place + 1)) = omega (arith, more) in
    subst (λ n. place_named name label n place ≡ Some place) (sym e)
    (named_first name label (count - (place + 1)) place named)

-- or further on
pub found_later : (name : List ℕ) (label : Label) (count place : ℕ) → place < count
    → is_named name (member_name label place) ≡ false
    → place_named name label (count - place) place ≡ place_named name label (count - (place + 1)) (place + 1)
found_later name label count place more other =
    let e : count - place ≡ suc (count - (place + 1)) = omega (arith, more) in
    subst (λ n. place_named name label n place ≡ place_named name label (count - (place + 1)) (place + 1)) (sym e)
    (named_later name label (count - (place + 1)) place other)

-- nothing is part of nothing
pub nowhere : (steps : List Step) → part_from steps None ≡ None
nowhere [] = refl
nowhere (step ∷ steps) = nowhere steps

-- a step that leads nowhere
pub lost : (steps : List Step) (i : ℕ) (step : Step) (given reached : Value)
    → part_of steps given ≡ part_of (drop i steps) reached
    → drop i steps ≡ step ∷ drop (i + 1) steps → None ≡ step_to step reached → None ≡ part_of steps given
lost steps i step given reached so_far next none =
    sym (so_far ∙ ap (λ s. part_from s (Some reached)) next ∙ ap (part_from (drop (i + 1) steps)) (sym none)
    ∙ nowhere (drop (i + 1) steps))

-- one step further
pub further_part : (step : Step) (steps : List Step) {left : List Step} (value part : Value) → left ≡ step ∷ steps →
    Some part ≡ step_to step value → part_of left value ≡ part_of steps part
further_part step steps value part next found =
    ap (λ s. part_from s (Some value)) next ∙ ap (part_from steps) (sym found)

pub further_node : (nodes : List Node) (step : Step) (steps : List Step) {left : List Step} (of : Option ℕ)
    (value : Value) (to : Option ℕ) (part : Value) → left ≡ step ∷ steps
    → Some part ≡ step_to step value → to ≡ node_there nodes of value (place_of step value)
    → node_from nodes left of (Some value) ≡ node_from nodes steps to (Some part)
further_node nodes step steps of value to part next found node =
    ap (λ s. node_from nodes s of (Some value)) next
    ∙ ap (node_from nodes steps (node_there nodes of value (place_of step value))) (sym found)
    ∙ ap (λ n. node_from nodes steps n (Some part)) (sym node)

-- a step leads to the member at its place
pub step_there : (step : Step) (value : Value) → member_there value (place_of step value) ≡ step_to step value
step_there (Field name) value = refl
step_there (Place place) value = chosen (is_nameless_at value place)
  where
    chosen : (hit : Bool) → member_there value (place_if hit place) ≡ member_if hit (member_at (members_of value) place)
    chosen true = refl
    chosen false = refl
step_there (Element place) value = chosen (is_array (label_of value))
  where
    chosen : (hit : Bool) → member_there value (place_if hit place) ≡ member_if hit (member_at (members_of value) place)
    chosen true = refl
    chosen false = refl

-- a part is printed as the part of a value of a table, and has the same parts
module _ (table : Table) (id : TypeId) (terms : Terms) (whole part : Typed)
    (nodes : nodes_in (types_in whole) ≡ nodes_of table) (of : node_in whole ≡ Some id.node)
    (same : types_in part ≡ types_in whole) (node : node_in part ≡ node_of terms.part whole) where
  part_nodes : nodes_in (types_in part) ≡ nodes_of table
  part_nodes = ap nodes_in same ∙ nodes

  part_requested : part_in part ≡ requested table id terms (mapped_in whole) (mapped_in part)
  part_requested =
      ap (λ n. record { node = n; value = mapped_in part }) (node
      ∙ ap (λ n. node_at (nodes_in (types_in whole)) terms.part n (mapped_in whole)) of
      ∙ ap (λ ns. node_at ns terms.part (Some id.node) (mapped_in whole)) nodes)

  pub part_printed : (ask : Ask) (file : Option FileBytes) → char_node_in (types_in whole) ≡ char_node_of table →
      typed_text terms file ask.mode part ≡ text_beside table id ask terms file (mapped_in whole) (mapped_in part)
  part_printed ask file chars =
      ap (λ ns. text_under ns (char_node_in (types_in part)) terms file ask.mode (part_in part)) part_nodes
      ∙ ap (λ letters. text_under (nodes_of table) letters terms file ask.mode (part_in part))
      (ap char_node_in same ∙ chars)
      ∙ ap (text_under (nodes_of table) (char_node_of table) terms file ask.mode) part_requested

  pub part_has_selected : has_selected (nodes_in (types_in part)) terms.selection (part_in part)
      ≡ part_has table id terms (mapped_in whole) (mapped_in part)
  part_has_selected =
      ap (λ ns. has_selected ns terms.selection (part_in part)) part_nodes
      ∙ ap (has_selected (nodes_of table) terms.selection) part_requested
