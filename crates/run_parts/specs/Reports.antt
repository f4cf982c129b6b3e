-- The line that reports a refusal or a fault, by its status, its name and its place.
use Rattle.std.specs.Prelude.{ℕ, List, [], ◌∷◌, ◌++◌, codes, decimal}
use Rattle.run_parts.specs.declared.lines.RunEnd.{RunEnd}
use Rattle.run_parts.specs.declared.lines.RunEnd.TheVariants.{Nowhere, Byte, Declaration, Bit, Starts}
use Rattle.run_parts.specs.declared.status.Status.{Status}
use Rattle.run_parts.specs.declared.status.Status.TheVariants.{Done, Fault, Refused, Outside}

-- the word with which a line begins
abbrev pub lead : Status → List ℕ
lead Done = codes "fault "
lead Fault = codes "fault "
lead Refused = codes "refused "
lead Outside = codes "fault "

-- the first of some bits and their number, in a line and as members
abbrev pub starts_text : (first count : ℕ) → List ℕ
starts_text first count = codes " at " ++ ((decimal first ++ codes "#b count ") ++ (decimal count ++ 10 ∷ []))

abbrev pub starts_members : (first count : ℕ) → List ℕ
starts_members first count = codes "\",\"at\":" ++ ((decimal first ++ codes ",\"count\":") ++ decimal count)

-- the place after the name, and the end of the line
abbrev pub place_text : RunEnd → List ℕ
place_text Nowhere = 10 ∷ []
place_text (Byte byte) = codes " at byte " ++ (decimal byte ++ 10 ∷ [])
place_text (Declaration declaration) = codes " in type " ++ (decimal declaration ++ 10 ∷ [])
place_text (Bit bit) = codes " at " ++ (decimal bit ++ codes "#b\n")
place_text (Starts first count) = starts_text first count

-- the whole line
abbrev pub report_line : Status → (kind : List ℕ) → RunEnd → List ℕ
report_line status kind place = lead status ++ (kind ++ place_text place)

-- the same as members of a JSON object: the start, up to the name
abbrev pub member_lead : Status → List ℕ
member_lead Done = codes "\"fault\":\""
member_lead Fault = codes "\"fault\":\""
member_lead Refused = codes "\"refused\":\""
member_lead Outside = codes "\"fault\":\""

-- the place after the name
abbrev pub member_place : RunEnd → List ℕ
member_place Nowhere = codes "\""
member_place (Byte byte) = codes "\",\"byte\":" ++ decimal byte
member_place (Declaration declaration) = codes "\",\"type\":" ++ decimal declaration
member_place (Bit bit) = codes "\",\"at\":" ++ decimal bit
member_place (Starts first count) = starts_members first count

-- the members
abbrev pub report_members : Status → (kind : List ℕ) → RunEnd → List ℕ
report_members status kind place = member_lead status ++ (kind ++ member_place place)

-- the object of these members, on a line
abbrev pub report_json : Status → (kind : List ℕ) → RunEnd → List ℕ
report_json status kind place = codes "{" ++ (report_members status kind place ++ codes "}\n")
