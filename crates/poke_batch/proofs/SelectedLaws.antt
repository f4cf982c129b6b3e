-- Laws of the parts that selections lead to.
use Rattle.std.proofs.Common.{◌≡◌, ◌∙◌, ◌⊎◌, inl, inr, ℕ, Bool, true, false, if◌then◌else◌, List, [], ◌∷◌, ◌++◌, map, Option, Some, None, codes, refl, sym, ap, subst}
use Rattle.std.specs.Prelude.{option_map}
use Rattle.pickle_types.specs.declared.node.Node.{Node}
use Rattle.pickle_types.specs.NodeParts.{char_node_of}
use Rattle.pickle_types.specs.TypeTable.{nodes_of}
use Rattle.pickle_meaning.specs.Values.{Value}
use Rattle.text_output.specs.declared.mode.Mode.{Mode}
use Rattle.text_output.specs.declared.mode.Mode.TheVariants.{Flat, Json}
use Rattle.text_output.specs.declared.style.Style.{Style}
use Rattle.value_text.specs.ShowParts.{SightOf}
use Rattle.command_line.specs.declared.path.Step.{Step}
use Rattle.command_line.specs.declared.selection.Column.{Column}
use Rattle.command_line.specs.declared.pattern.PatternStep.TheVariants.{Exact}
use Rattle.poke_batch.specs.PathParts.{step_to, part_from, place_of, node_there, node_from, node_at}
use Rattle.poke_batch.proofs.PartsFound.{nowhere}
use Rattle.poke_batch.specs.RunLaws.{PathsLeadToOnePart, CellsAreParts, PrintedRowsAreWhole}
use Rattle.poke_batch.specs.Selected.{OfRow, OfWholeRow, Part, cell_of, each_text, from_step, has_columns, is_there, lines_of, parts_through, text_in, there_lines, those}
use Rattle.poke_batch.proofs.PartTexts.{styled_part}

module _ (nodes : List Node) where
  -- a path leads to one part, or to none
  steps_lead : (steps : List Step) (part : Part) → parts_through nodes (map Exact steps) part
      ≡ option_map (λ value. record { node = node_from nodes steps part.node (Some part.value); value = value })
      (part_from steps (Some part.value)) ∷ []
  steps_lead [] part = refl
  steps_lead (step ∷ steps) part =
      found_leads (step_to step part.value) (λ value. steps_lead steps
      (record { node = node_there nodes part.node part.value (place_of step part.value); value = value }))
    where
      found_leads : (found : Option Value)
          → ((value : Value)
          → parts_through nodes (map Exact steps)
          (record { node = node_there nodes part.node part.value (place_of step part.value); value = value })
          ≡ option_map (λ more. record {
            node =
                node_from nodes steps (node_there nodes part.node part.value (place_of step part.value)) (Some value);
            value = more;
          }) (part_from steps (Some value)) ∷ [])
          → from_step nodes (parts_through nodes (map Exact steps)) (option_map (λ value.
          record { node = node_there nodes part.node part.value (place_of step part.value); value = value }) found)
          ≡ option_map (λ value. record {
            node = node_from nodes steps (node_there nodes part.node part.value (place_of step part.value)) found;
            value = value;
          }) (part_from steps found) ∷ []
      found_leads None leads =
          ap (λ found. option_map (λ value. record {
            node = node_from nodes steps (node_there nodes part.node part.value (place_of step part.value)) None;
            value = value;
          }) found ∷ []) (sym (nowhere steps))
      found_leads (Some value) leads = leads value

pub one_part : PathsLeadToOnePart
one_part nodes path part = steps_lead nodes path.steps.items part

-- a cell is a text without its line feed
cell_text : (nodes : List Node) (chars : Option ℕ) (style : Style) (mode : Mode) (part : Part)
    → (mode ≡ Flat) ⊎ (mode ≡ Json)
    → cell_of nodes chars style mode (Some part) ++ codes "\n"
    ≡ text_in None style mode nodes chars part.node part.value
cell_text nodes chars style mode part (inl e) = subst (λ m. cell_of nodes chars style m (Some part) ++ codes "\n"
    ≡ text_in None style m nodes chars part.node part.value) (sym e) refl
cell_text nodes chars style mode part (inr e) = subst (λ m. cell_of nodes chars style m (Some part) ++ codes "\n"
    ≡ text_in None style m nodes chars part.node part.value) (sym e) refl

pub cells : CellsAreParts
cells table id ask terms path mapped part mode look all given found =
    ap (λ o. cell_of (nodes_of table) (char_node_of table) terms.style ask.mode (option_map
    (λ value. record { node = node_from (nodes_of table) path.steps.items (Some id.node) (Some mapped); value = value })
    o) ++ codes "\n") found
    ∙ cell_text (nodes_of table) (char_node_of table) terms.style ask.mode
    (record { node = node_from (nodes_of table) path.steps.items (Some id.node) (Some mapped); value = part }) mode
    ∙ sym (styled_part table id ask terms mapped part look all
    ∙ ap (λ p. text_in None terms.style ask.mode (nodes_of table) (char_node_of table)
    (node_at (nodes_of table) p (Some id.node) mapped) part) given)

-- the rows that lack a part have no lines
module _ (nodes : List Node) (chars : Option ℕ) (sight : Option SightOf) (style : Style) (mode : Mode)
    (columns : List Column) where
  whole_lines : (parts : List (Option Part))
      → each_text (lines_of nodes chars sight style mode (OfWholeRow columns)) parts
      ≡ each_text (lines_of nodes chars sight style mode (OfRow columns))
      (those (is_there nodes (OfRow columns)) parts)
  whole_lines [] = refl
  whole_lines (None ∷ parts) = whole_lines parts
  whole_lines (Some part ∷ parts) = by_test (whole_lines parts) (has_columns nodes columns part)
    where
      by_test : each_text (lines_of nodes chars sight style mode (OfWholeRow columns)) parts
          ≡ each_text (lines_of nodes chars sight style mode (OfRow columns))
          (those (is_there nodes (OfRow columns)) parts)
          → (whole : Bool)
          → (if whole then there_lines nodes chars sight style mode (OfRow columns) part else [])
          ++ each_text (lines_of nodes chars sight style mode (OfWholeRow columns)) parts
          ≡ each_text (lines_of nodes chars sight style mode (OfRow columns))
          (if whole then Some part ∷ those (is_there nodes (OfRow columns)) parts
          else those (is_there nodes (OfRow columns)) parts)
      by_test rest true =
          ap (λ lines. there_lines nodes chars sight style mode (OfRow columns) part ++ lines) rest
      by_test rest false = rest

pub rows_whole : PrintedRowsAreWhole
rows_whole nodes chars sight style mode columns part steps =
    whole_lines nodes chars sight style mode columns (parts_through nodes steps part)
