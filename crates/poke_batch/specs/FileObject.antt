-- The JSON object of one file among many, on a line: its name, the exit status of its run, and its value or its fault.
use Rattle.std.specs.Prelude.{◌≡◌, ℕ, ◌-◌, Bool, true, false, not, List, [], ◌∷◌, ◌++◌, Some, ◌==◌, if◌then◌else◌, length, take, codes}
use Rattle.std.specs.List.{prefix_len}
use Rattle.run_parts.specs.declared.status.Status.{Status}
use Rattle.run_parts.specs.declared.status.Status.TheVariants.{Done, Fault, Refused, Outside}
use Rattle.run_parts.specs.declared.outcome.Outcome.{Outcome}
use Rattle.run_parts.specs.declared.outcome.Outcome.TheVariants as outcome
use Rattle.run_parts.specs.Outcomes.{EndsAs, outcome_members, outcome_status}
use Rattle.run_parts.specs.Told.{Saying}
use Rattle.value_text.specs.JsonText.{json_string}
use Rattle.value_text.specs.ValueText.{comma}
use Rattle.poke_batch.specs.FileLine.{shown_name, in_memory}
use Rattle.poke_batch.specs.declared.each.Kept.{Kept}

-- the name of a file as its line has it, as a JSON string
abbrev pub name_json : List ℕ → List ℕ
name_json name = json_string (shown_name name)

-- the member with the exit status, between two others
abbrev pub status_member : Status → List ℕ
status_member Done = codes ",\"status\":0,"
status_member Fault = codes ",\"status\":1,"
status_member Refused = codes ",\"status\":2,"
status_member Outside = codes ",\"status\":3,"

-- a text without the line feed at its end
abbrev pub without_end : List ℕ → List ℕ
without_end text = take (length text - 1) text

-- the member with the value of a run that is done, and this one or the members that report its refusal or fault
abbrev pub value_member : (text : List ℕ) → List ℕ
value_member text = codes "\"value\":" ++ without_end text

abbrev pub result_members : Outcome → (text : List ℕ) → List ℕ
result_members outcome.Done text = value_member text
result_members ended text = outcome_members ended

-- a byte before the first line of some, or as a separate line
abbrev pub before_lines : (byte : ℕ) → List (List ℕ) → List (List ℕ)
before_lines byte [] = (byte ∷ []) ∷ []
before_lines byte (line ∷ lines) = (byte ∷ line) ∷ lines

-- the lines of a text, each without the line feed (10) that ends it
abbrev pub text_lines : List ℕ → List (List ℕ)
text_lines [] = []
text_lines (byte ∷ bytes) = if byte == 10 then [] ∷ text_lines bytes else before_lines byte (text_lines bytes)

-- a line without the two blanks (32) that indent it
abbrev pub without_indent : List ℕ → List ℕ
without_indent (byte ∷ other ∷ line) =
    if byte == 32 then (if other == 32 then line else byte ∷ other ∷ line) else byte ∷ other ∷ line
without_indent line = line

-- how many bytes the first line of a text has
abbrev pub line_length : (text : List ℕ) → ℕ
line_length text = prefix_len (λ byte. not (byte == 10)) text

-- the first line of a text as a JSON string, after a comma unless it is the first of all
abbrev pub first_line_json : (first : Bool) → (text : List ℕ) → List ℕ
first_line_json first text = comma first ++ json_string (without_indent (take (line_length text) text))

-- lines as JSON strings, joined by commas
abbrev pub lines_json : (first : Bool) → List (List ℕ) → List ℕ
lines_json first [] = []
lines_json first (line ∷ lines) = (comma first ++ json_string (without_indent line)) ++ lines_json false lines

-- the member with the lines of a text that explains
abbrev pub reasons_member : (reasons : List ℕ) → List ℕ
reasons_member reasons = codes ",\"why\":[" ++ (lines_json true (text_lines reasons) ++ codes "]")

-- the same, and nothing without a text
abbrev pub why_member : (reasons : List ℕ) → List ℕ
why_member [] = []
why_member (byte ∷ reasons) = reasons_member (byte ∷ reasons)

-- the members after the name, and the end of the object and of its line
abbrev pub later_members : Outcome → (text reasons : List ℕ) → List ℕ
later_members ended text reasons =
    status_member (outcome_status ended) ++ (result_members ended text ++ (why_member reasons ++ codes "}\n"))

-- the object, on a line
abbrev pub file_object : (name : List ℕ) → Outcome → (text reasons : List ℕ) → List ℕ
file_object name ended text reasons =
    codes "{\"name\":" ++ (name_json name ++ later_members ended text reasons)

-- the object of a file whose run is stored
abbrev pub kept_object : Kept → (name reasons : List ℕ) → List ℕ
kept_object kept name reasons = file_object name kept.outcome kept.text.items reasons

-- what is stored of a run is how it ended, and what it wrote into memory
pub record HoldsRun (IsRight : Saying → Type 0) (kept : Kept) : Type 0 where
  pub ended : Outcome
  pub ends : EndsAs IsRight ended (Some []) (Some kept.text.items)
  pub outcome_is : kept.outcome ≡ in_memory ended
