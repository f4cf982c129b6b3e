-- The parts of a value that have a line of their own in mode `lines`, and their order.
use Rattle.std.specs.Prelude.{◌≡◌, ℕ, ◌<◌, true, false, List, [], ◌∷◌, ◌++◌, Some, Contains}
use Rattle.pickle_meaning.specs.Values.{Value, label_of, members_of, member_at}
use Rattle.text_output.specs.Styles.{plain}
use Rattle.value_text.specs.LinesText.{is_parted}
use Rattle.value_text.specs.StyledLeaves.{styled_leaf}
use Rattle.value_text.specs.PathText.{step_text}

-- Places, one for each step, lead from a value to a part of it, through values that have parts; and the text of the
-- steps.
pub data LeadsBy : Value → (places steps : List ℕ) → Value → Type 0 where
  here : {value : Value} → LeadsBy value [] [] value
  further : {value part found : Value} {places steps : List ℕ} (place : ℕ)
      → is_parted (label_of value) (members_of value) ≡ true
      → member_at (members_of value) place ≡ Some part → LeadsBy part places steps found
      → LeadsBy value (place ∷ places) (step_text (label_of value) place ++ steps) found

-- a line: the places that lead to its part, the text of these steps, and the part
pub record Line : Type 0 where
  pub places : List ℕ
  pub steps : List ℕ
  pub part : Value

-- a line is that of a part which has no parts itself
pub record IsLineOf (value : Value) (line : Line) : Type 0 where
  pub leads : LeadsBy value line.places line.steps line.part
  pub bare : is_parted (label_of line.part) (members_of line.part) ≡ false

-- a part is before another one: where the places first differ, its place is lower
pub data IsBefore : (places others : List ℕ) → Type 0 where
  lower : {place other : ℕ} {places others : List ℕ} → place < other → IsBefore (place ∷ places) (other ∷ others)
  deeper : {place : ℕ} {places others : List ℕ} → IsBefore places others → IsBefore (place ∷ places) (place ∷ others)

abbrev pub IsBeforeAll : (places : List ℕ) → List Line → Type 0
IsBeforeAll places [] = Unit {0}
IsBeforeAll places (line ∷ lines) = IsBefore places line.places × IsBeforeAll places lines

-- each part is before those that follow it, so no part is there twice
abbrev pub AreInOrder : List Line → Type 0
AreInOrder [] = Unit {0}
AreInOrder (line ∷ lines) = IsBeforeAll line.places lines × AreInOrder lines

abbrev pub AreLinesOf : Value → List Line → Type 0
AreLinesOf value [] = Unit {0}
AreLinesOf value (line ∷ lines) = IsLineOf value line × AreLinesOf value lines

abbrev pub lines_text : List Line → List ℕ
lines_text [] = []
lines_text (line ∷ lines) = styled_leaf plain line.steps line.part ++ lines_text lines

-- a text has one line for each part that has no parts itself, in the value's order, and nothing else
pub record NamesParts (value : Value) (text : List ℕ) : Type 0 where
  pub lines : List Line
  pub are : AreLinesOf value lines
  pub all : (line : Line) → IsLineOf value line → Contains lines line
  pub order : AreInOrder lines
  pub is : text ≡ lines_text lines
