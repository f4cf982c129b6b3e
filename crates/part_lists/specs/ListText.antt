-- The text of the parts that values of a type can have.
use Rattle.std.specs.Prelude.{ℕ, List, ◌++◌, Option, Some, None, codes}
use Rattle.std.specs.List.{flat_map}
use Rattle.pickle_types.specs.declared.table.Table.{Table}
use Rattle.pickle_types.specs.declared.table.TypeId.{TypeId}
use Rattle.pickle_types.specs.TypeTable.{nodes_of}
use Rattle.pickle_types.specs.NodeParts.{char_node_of}
use Rattle.command_line.specs.declared.answer_form.AnswerForm.{AnswerForm}
use Rattle.command_line.specs.declared.answer_form.AnswerForm.TheVariants.{Text, Json}
use Rattle.value_text.specs.TypeWords.{Known, node_word}
use Rattle.part_lists.specs.Steps.{ListedStep, path_text}
use Rattle.part_lists.specs.Listed.{Part, parts_of}

-- the word of a type is the one that a shown value has, to 8 levels of arrays
abbrev pub type_word : Known → (node : ℕ) → List ℕ
type_word types node = node_word 8 types node

-- a line: a path, a tab and the word of the type, or an object with both; names need no escapes
abbrev pub line_text : AnswerForm → Known → Part → List ℕ
line_text Text types part = path_text part.steps ++ (codes "\t" ++ (type_word types part.node ++ codes "\n"))
line_text Json types part = codes "{\"path\":\""
    ++ (path_text part.steps ++ (codes "\",\"type\":\"" ++ (type_word types part.node ++ codes "\"}\n")))

-- the lines of parts of a part, with the steps to that before theirs
abbrev pub within : (before : List ListedStep) → Part → Part
within before part = record part { steps = before ++ part.steps }

abbrev pub lines_within : AnswerForm → Known → (before : List ListedStep) → List Part → List ℕ
lines_within form types before = flat_map (λ part. line_text form types (within before part))

abbrev pub lines_text : AnswerForm → Known → List Part → List ℕ
lines_text form types = flat_map (line_text form types)

-- all levels: no type has more than 64
abbrev pub levels_of : (most : Option ℕ) → ℕ
levels_of None = 64
levels_of (Some most) = most

abbrev pub known_in : Table → Known
known_in table = record { nodes = nodes_of table; letters = char_node_of table }

-- the list of the parts of a type of a table, to so many levels below it
abbrev pub list_text : AnswerForm → Table → TypeId → (most : Option ℕ) → List ℕ
list_text form table id most =
    lines_text form (known_in table) (parts_of (nodes_of table) (levels_of most) id.node)
