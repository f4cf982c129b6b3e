-- What the head of a pickle says.
use Rattle.std.specs.Prelude.{ℕ, Bool, false, ◌&&◌, ◌+◌, not, if◌then◌else◌, List, [], ◌∷◌, take, drop, Option, Some, None, option_map, is_some, is_none, unwrap_or, codes}
use Rattle.std.specs.Str.{bytes_eq}
use Rattle.bit_space.specs.declared.order.Order.{Order}
use Rattle.bit_space.specs.declared.order.Order.TheVariants.{Big, Little}
use Rattle.pickle_heads.specs.declared.fault.HeadFault.{HeadFault}
use Rattle.pickle_heads.specs.declared.fault.HeadFault.TheVariants as fault
use Rattle.pickle_heads.specs.declared.identified.Orders.TheVariants.{OfOptions, One, Both}
use Rattle.pickle_heads.specs.Texts.{first_line, after, is_name}
use Rattle.pickle_heads.specs.Options.{given_in}
use Rattle.pickle_heads.specs.Lines.{main_text, identified_text, form_text, inside_text, records_text, is_misplaced}
use Rattle.pickle_heads.specs.Identified.{Signature, by_nothing, by_type, identified_in}
use Rattle.pickle_heads.specs.Inside.{Among, inside_in}
use Rattle.pickle_heads.specs.Records.{Listed, records_in, is_pickle_name}

-- what is read of a text that is there
abbrev pub read : {X : Type 0} → (List ℕ → Option X) → Option (List ℕ) → Option X
read reading None = None
read reading (Some text) = reading text

-- the sentence of the first line, `// NAME: SENTENCE`, or no text
abbrev pub sentence_in : (name title : List ℕ) → List ℕ
sentence_in name title = unwrap_or (read (after (codes ": ")) (read (after name) (after (codes "// ") title))) []

-- The place of the first mark between a type and options in the text of the line `main`. A type is what is before it,
-- and options are what is after it.
abbrev pub mark_place : List ℕ → ℕ
mark_place [] = 0
mark_place (b ∷ text) =
    if bytes_eq (take 11 (b ∷ text)) (codes ", options: ") then 0 else 1 + mark_place text

abbrev pub type_in : List ℕ → List ℕ
type_in text = take (mark_place text) text

abbrev pub options_in : List ℕ → List ℕ
options_in text = drop (mark_place text + 11) text

abbrev pub is_main : List ℕ → Bool
is_main text = is_name (type_in text) && is_some (given_in (options_in text))

abbrev pub pickle_in : List ℕ → Option (List ℕ)
pickle_in text = if is_pickle_name text then Some text else None

-- what the head of a pickle says in each of its lines
abbrev pub sentence_of : (name pickle : List ℕ) → List ℕ
sentence_of name pickle = sentence_in name (first_line pickle)

abbrev pub main_of : List ℕ → Option (List ℕ)
main_of pickle = option_map type_in (main_text pickle)

abbrev pub options_of : List ℕ → List ℕ
options_of pickle = options_in (unwrap_or (main_text pickle) [])

abbrev pub identified_of : List ℕ → Option Signature
identified_of pickle = read identified_in (identified_text pickle)

abbrev pub form_of : List ℕ → Option (List ℕ)
form_of pickle = read pickle_in (form_text pickle)

abbrev pub inside_of : List ℕ → Option Among
inside_of pickle = read inside_in (inside_text pickle)

abbrev pub records_of : List ℕ → Option Listed
records_of pickle = read records_in (records_text pickle)

-- a text that is there, and in which nothing is read
abbrev pub is_lost : {X : Type 0} → (List ℕ → Option X) → Option (List ℕ) → Bool
is_lost reading text = is_some text && is_none (read reading text)

abbrev pub is_odd : Option (List ℕ) → Bool
is_odd None = false
is_odd (Some text) = not (is_main text)

-- the first line that isn't in its form, among the texts of the lines
abbrev pub later_fault_in : (inside records : Option (List ℕ)) → (misplaced : Bool) → Option HeadFault
later_fault_in inside records misplaced =
    if is_lost inside_in inside then Some fault.Inside
    else if is_lost records_in records then Some fault.Records
    else if misplaced then Some fault.Order
    else None

abbrev pub fault_in : (main identified form inside records : Option (List ℕ)) → (misplaced : Bool) → Option HeadFault
fault_in main identified form inside records misplaced =
    if is_odd main then Some fault.Main
    else if is_lost identified_in identified then Some fault.Identified
    else if is_lost pickle_in form then Some fault.Form
    else later_fault_in inside records misplaced

abbrev pub fault_of : List ℕ → Option HeadFault
fault_of pickle = fault_in (main_text pickle) (identified_text pickle) (form_text pickle) (inside_text pickle)
    (records_text pickle) (is_misplaced pickle)

abbrev pub fault_name : HeadFault → List ℕ
fault_name fault.Main = codes "main"
fault_name fault.Identified = codes "Identified by"
fault_name fault.Form = codes "Form of"
fault_name fault.Inside = codes "Inside"
fault_name fault.Records = codes "Records"
fault_name fault.Order = codes "order of lines"

-- both orders, and which is first
abbrev pub both_from : Order → List Order
both_from Big = Big ∷ Little ∷ []
both_from Little = Little ∷ Big ∷ []

-- The byte orders to try: those of the line `Identified by`. If it has none, the order of the options, and big-endian
-- if these have none.
abbrev pub orders_for : Option Signature → (order : Option Order) → List Order
orders_for (Some (by_type _ (One order))) _ = order ∷ []
orders_for (Some (by_type _ (Both first))) _ = both_from first
orders_for (Some (by_type _ OfOptions)) order = unwrap_or order Big ∷ []
orders_for (Some by_nothing) order = unwrap_or order Big ∷ []
orders_for None order = unwrap_or order Big ∷ []
