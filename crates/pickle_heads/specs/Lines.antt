-- The lines of a head.
use Rattle.std.specs.Prelude.{ℕ, Bool, ◌||◌, List, Option, Some, None, is_some, codes}
use Rattle.pickle_heads.specs.Texts.{first_line, after_line, after}

-- what the first line of a text says after a prefix
abbrev pub said : (prefix text : List ℕ) → Option (List ℕ)
said prefix text = after prefix (first_line text)

abbrev pub after_said : (text : List ℕ) → Option (List ℕ) → List ℕ
after_said text (Some _) = after_line text
after_said text None = text

-- the text after its first line, if that begins with a prefix
abbrev pub past : (prefix text : List ℕ) → List ℕ
past prefix text = after_said text (said prefix text)

-- The second line names the type to map. The lines after it are optional, and in this order.
abbrev pub main_text : List ℕ → Option (List ℕ)
main_text pickle = said (codes "// main: ") (after_line pickle)

abbrev pub from_identified : List ℕ → List ℕ
from_identified pickle = after_line (after_line pickle)

abbrev pub identified_text : List ℕ → Option (List ℕ)
identified_text pickle = said (codes "// Identified by: ") (from_identified pickle)

abbrev pub from_form : List ℕ → List ℕ
from_form pickle = past (codes "// Identified by: ") (from_identified pickle)

abbrev pub form_text : List ℕ → Option (List ℕ)
form_text pickle = said (codes "// Form of: ") (from_form pickle)

abbrev pub from_inside : List ℕ → List ℕ
from_inside pickle = past (codes "// Form of: ") (from_form pickle)

abbrev pub inside_text : List ℕ → Option (List ℕ)
inside_text pickle = said (codes "// Inside: ") (from_inside pickle)

abbrev pub from_records : List ℕ → List ℕ
from_records pickle = past (codes "// Inside: ") (from_inside pickle)

abbrev pub records_text : List ℕ → Option (List ℕ)
records_text pickle = said (codes "// Records: ") (from_records pickle)

abbrev pub begins_as_one : List ℕ → Bool
begins_as_one text =
    is_some (said (codes "// Identified by: ") text) || is_some (said (codes "// Form of: ") text)
    || is_some (said (codes "// Inside: ") text) || is_some (said (codes "// Records: ") text)

-- a line that begins as one of these, but after them: it is there twice, or before one that comes before it
abbrev pub is_misplaced : List ℕ → Bool
is_misplaced pickle = begins_as_one (past (codes "// Records: ") (from_records pickle))
