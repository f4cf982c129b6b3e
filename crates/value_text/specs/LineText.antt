-- The lines of a value in the parts that are written one after the other.
use Rattle.std.specs.Prelude.{ℕ, ◌+◌, List, [], ◌++◌, if◌then◌else◌, codes}
use Rattle.text_output.specs.declared.style.Style.{Style}
use Rattle.pickle_meaning.specs.Values.{Label, Value, label_of, members_of, member_count}
use Rattle.value_store.specs.Labels.{kind_of}
use Rattle.value_text.specs.TreeText.{indent_text, prefix_text, has_parts}
use Rattle.value_text.specs.CutArrays.{limit_of}
use Rattle.value_text.specs.StyledTree.{styled_head, styled_parts}

-- what is before a head
abbrev pub start_text : (level : ℕ) → Label → (place : ℕ) → List ℕ
start_text level label place = indent_text level ++ prefix_text label place

module _ (style : Style) where
  -- the head of a value
  abbrev pub head_of : Value → List ℕ
  head_of value = styled_head style (label_of value) (member_count (members_of value))

  -- the lines of all parts of a value
  abbrev pub all_parts_text : (level : ℕ) → Value → List ℕ
  all_parts_text level value =
      styled_parts style (limit_of style (label_of value)) (level + 1) (label_of value) 0 (members_of value)

  -- the lines below that of a value
  abbrev pub below_text : (level : ℕ) → Value → List ℕ
  below_text level value = if has_parts (kind_of (label_of value)) then all_parts_text level value else []

  -- the line of a value from its head on, and the lines below it
  abbrev pub rest_text : (level : ℕ) → Value → List ℕ
  rest_text level value = head_of value ++ (codes "\n" ++ below_text level value)

  -- the lines of a part
  abbrev pub part_text : (level : ℕ) → Label → (place : ℕ) → Value → List ℕ
  part_text level label place value = start_text level label place ++ rest_text level value
