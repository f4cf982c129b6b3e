-- A note about a pickle as members of a JSON object.
use Rattle.std.specs.Prelude.{ℕ, ◌+◌, List, [], ◌++◌, Option, None, Some, unwrap_or, ◌==◌, ◌||◌, not, if◌then◌else◌, min, length, take, drop, codes, decimal}
use Rattle.std.specs.List.{prefix_len}
use Rattle.std.specs.Option.{option_map}
use Rattle.pickle_source.specs.declared.note.Note.{Note}
use Rattle.pickle_source.specs.Places.{line_behind, column_behind}
use Rattle.value_text.specs.JsonText.{json_string}
use Rattle.pickle_json.specs.Members.{text_member, number_member}

-- the place of a note; one after the pickle is its end
abbrev pub place_in : (pickle : List ℕ) (at : ℕ) → ℕ
place_in pickle at = min at (length pickle)

-- how many bytes come before the end of a line: a line feed (10) or a carriage return (13) ends it
abbrev pub left_in_line : (rest : List ℕ) → ℕ
left_in_line rest = prefix_len (λ byte. not (byte == 10 || byte == 13)) rest

-- how many bytes a note marks in its line
abbrev pub marked_by : (pickle : List ℕ) (at length : ℕ) → ℕ
marked_by pickle at length = min (left_in_line (drop (place_in pickle at) pickle)) length

-- the column after the marked bytes, if there are any
abbrev pub end_column : (column marked : ℕ) → Option ℕ
end_column column marked = if marked == 0 then None else Some (column + marked)

-- line and column, the column after what is meant, the sentence, and what to write instead
abbrev pub place_members : (line column marked : ℕ) (sentence help : List ℕ) → List ℕ
place_members line column marked sentence help =
    (codes "\"line\":" ++ decimal line)
    ++ ((codes ",\"column\":" ++ decimal column) ++ (number_member (codes ",\"end\":") (end_column column marked)
    ++ ((codes ",\"says\":" ++ json_string sentence) ++ text_member (codes ",\"write\":") help)))

-- what to write instead, empty if a note doesn't say that
abbrev pub help_of : Note → List ℕ
help_of note = unwrap_or (option_map (λ help. help.items) note.help) []

-- the members of a note; lines and columns are counted from 1
abbrev pub note_members : (pickle : List ℕ) → Note → List ℕ
note_members pickle note =
    let before = take (place_in pickle note.at) pickle in
    place_members (line_behind before) (column_behind before) (marked_by pickle note.at note.length)
    note.sentence.items (help_of note)
