-- The names of the columns of the places that a search finds.
use Rattle.std.specs.Prelude.{ℕ, Bool, true, if◌then◌else◌, List, [], ◌++◌, Option, Some, None, codes}
use Rattle.command_line.specs.declared.request.ValueSearch.{ValueSearch}
use Rattle.command_line.specs.declared.selection.Selection.{Selection}
use Rattle.command_line.specs.declared.selection.Shape.{Shape}
use Rattle.command_line.specs.declared.selection.Shape.TheVariants as shape
use Rattle.command_line.specs.declared.terms.Terms.{Terms}
use Rattle.poke_batch.specs.Selected.{header_text}

-- after the names of the place and the size, and of the format and the byte order of a search for all: those of a row
abbrev pub shape_names : Shape → List ℕ
shape_names (shape.Parts patterns) = codes "\n"
shape_names (shape.Rows rows) = codes "\t" ++ header_text true rows.columns.items

abbrev pub names_after : Option Selection → List ℕ
names_after None = codes "\n"
names_after (Some selection) = shape_names selection.shape

abbrev pub place_names : (all_formats : Bool) → Terms → List ℕ
place_names all_formats terms = codes "at\tsize"
    ++ (if all_formats then codes "\tformat\tendian" else [])
    ++ names_after terms.selection

-- if they are wanted
abbrev pub place_names_due : ValueSearch → (all_formats : Bool) → Terms → List ℕ
place_names_due search all_formats terms = if search.header then place_names all_formats terms else []
