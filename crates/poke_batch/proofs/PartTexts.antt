-- How the requested part of a value is printed.
use Rattle.std.proofs.Common.{◌≡◌, ◌∙◌, ℕ, Option, Some, None, ap}
use Rattle.pickle_types.specs.declared.table.Table.{Table}
use Rattle.pickle_types.specs.declared.table.TypeId.{TypeId}
use Rattle.pickle_types.specs.NodeParts.{char_node_of}
use Rattle.pickle_types.specs.TypeTable.{nodes_of}
use Rattle.pickle_meaning.specs.Values.{Value}
use Rattle.command_line.specs.declared.ask.Ask.{Ask}
use Rattle.command_line.specs.declared.terms.Terms.{Terms}
use Rattle.text_output.specs.declared.mode.Mode.TheVariants.{Json}
use Rattle.text_output.specs.Styles.{plain}
use Rattle.value_text.specs.Printed.{printed}
use Rattle.value_text.proofs.PlainTexts.{prints_plain}
use Rattle.poke_batch.specs.PathParts.{node_at}
use Rattle.poke_batch.specs.RunsUnder.{requested, part_text}
use Rattle.poke_batch.specs.Selected.{text_in, sighted, selected_text}

-- the node of the type of the requested part
abbrev pub part_node : Table → TypeId → Terms → (mapped : Value) → Option ℕ
part_node table id terms mapped = node_at (nodes_of table) terms.part (Some id.node) mapped

-- without a look and a selection it is printed in the style
pub styled_part : (table : Table) (id : TypeId) (ask : Ask) (terms : Terms) (whole part : Value) → terms.look ≡ None
    → terms.selection ≡ None
    → part_text table id ask terms whole part
    ≡ text_in None terms.style ask.mode (nodes_of table) (char_node_of table) (part_node table id terms whole) part
styled_part table id ask terms whole part none all =
    ap (λ selection. selected_text (nodes_of table) (char_node_of table) (sighted None terms.look) terms.style ask.mode
    selection (requested table id terms whole part)) all
    ∙ ap (λ look. text_in (sighted None look) terms.style ask.mode (nodes_of table) (char_node_of table)
    (part_node table id terms whole) part) none

-- in the plain style as without a style
pub plain_part : (table : Table) (id : TypeId) (ask : Ask) (terms : Terms) (whole part : Value) → terms.style ≡ plain →
    terms.look ≡ None → terms.selection ≡ None → part_text table id ask terms whole part ≡ printed ask.mode part
plain_part table id ask terms whole part e none all =
    styled_part table id ask terms whole part none all
    ∙ ap
    (λ style. text_in None style ask.mode (nodes_of table) (char_node_of table) (part_node table id terms whole) part) e
    ∙ prints_plain (nodes_of table) (char_node_of table) (part_node table id terms whole) ask.mode part

-- and in JSON in the form of that
pub json_part : (table : Table) (id : TypeId) (ask : Ask) (terms : Terms) (whole part : Value) → ask.mode ≡ Json
    → terms.look ≡ None → terms.selection ≡ None
    → part_text table id ask terms whole part
    ≡ text_in None terms.style Json (nodes_of table) (char_node_of table) (part_node table id terms whole) part
json_part table id ask terms whole part mode none all =
    styled_part table id ask terms whole part none all
    ∙ ap (λ m. text_in None terms.style m (nodes_of table) (char_node_of table) (part_node table id terms whole) part)
    mode
