-- The printed value in a style, over lines: a line for each value, and the lines of its parts below it.
use Rattle.std.specs.Prelude.{ℕ, suc, ◌+◌, List, [], ◌++◌, Option, if◌then◌else◌, codes}
use Rattle.text_output.specs.declared.style.Style.{Style}
use Rattle.pickle_meaning.specs.Values.{Label, IntegerLabel, OffsetLabel, TextLabel, ArrayLabel, StructLabel, UnionLabel, Value, Mapped, Members, NoMembers, MemberThen, AbsentThen, member_count}
use Rattle.value_store.specs.Labels.{kind_of}
use Rattle.text_output.specs.Brackets.{in_brackets}
use Rattle.value_text.specs.ValueText.{string_text, title_text}
use Rattle.value_text.specs.TreeText.{line_text, prefix_text, has_parts}
use Rattle.value_text.specs.StyledNumbers.{integer_in, offset_in}
use Rattle.value_text.specs.CutArrays.{limit_of, is_past, more_line}

module _ (style : Style) where
  -- a scalar as on one line, how many elements an array has, the name of a struct or a union or its sort
  abbrev pub styled_head : Label → (count : ℕ) → List ℕ
  styled_head (IntegerLabel number type) count = integer_in style.numbers type number
  styled_head (OffsetLabel magnitude type unit) count = offset_in style.numbers type unit magnitude
  styled_head (TextLabel bytes) count = string_text bytes
  styled_head ArrayLabel count = in_brackets count
  styled_head (StructLabel name fields) count = title_text (codes "struct") name
  styled_head (UnionLabel name index alternative) count = title_text (codes "union") name

  abbrev mutual
    -- the line of a value, and below it those of its parts, a level deeper
    pub styled_lines : (level : ℕ) (prefix : List ℕ) → Value → List ℕ
    styled_lines level prefix (Mapped label start end members) =
        line_text level prefix (styled_head label (member_count members))
        ++ (if has_parts (kind_of label) then styled_parts (limit_of style label) (level + 1) label 0 members else [])

    -- the lines of the present members from a place on, up to the limit
    pub styled_parts : (limit : Option ℕ) → (level : ℕ) → Label → (place : ℕ) → Members → List ℕ
    styled_parts limit level label place NoMembers = []
    styled_parts limit level label place (AbsentThen rest) =
        if is_past limit place then more_line level (suc (member_count rest))
        else styled_parts limit level label (suc place) rest
    styled_parts limit level label place (MemberThen value rest) =
        if is_past limit place then more_line level (suc (member_count rest))
        else styled_lines level (prefix_text label place) value ++ styled_parts limit level label (suc place) rest

-- the whole output
abbrev pub styled_tree : Style → Value → List ℕ
styled_tree style value = styled_lines style 0 [] value
