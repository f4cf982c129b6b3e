-- The printed value in a style, with a line for each part that has no parts itself.
use Rattle.std.specs.Prelude.{ℕ, suc, ◌-◌, List, [], ◌++◌, Option, Some, None, if◌then◌else◌, codes, decimal}
use Rattle.text_output.specs.declared.style.Style.{Style}
use Rattle.pickle_meaning.specs.Values.{Value, Mapped, Members, NoMembers, MemberThen, AbsentThen, label_of, start_of, end_of, members_of, member_at, member_count}
use Rattle.value_text.specs.PathText.{step_text, path_text}
use Rattle.value_text.specs.LinesText.{bits_cell, place_cells, is_parted}
use Rattle.value_text.specs.Notation.{flat}
use Rattle.value_text.specs.StyledValue.{written}
use Rattle.value_text.specs.CutArrays.{limit_of, is_past, more_text}

abbrev pub styled_text_cell : Style → Value → List ℕ
styled_text_cell style value = codes "\t" ++ (written flat style value ++ codes "\n")

-- the line of a part: its path, start, size and text, with tabs between them
abbrev pub styled_leaf : Style → (steps : List ℕ) → Value → List ℕ
styled_leaf style steps value = path_text steps ++ (place_cells value ++ styled_text_cell style value)

-- where a part starts, or the value itself
abbrev pub start_or : Value → Option Value → ℕ
start_or whole None = start_of whole
start_or whole (Some part) = start_of part

-- where the part at a place starts, or the value if that is absent
abbrev pub start_from : Value → (place : ℕ) → ℕ
start_from value place = start_or value (member_at (members_of value) place)

-- the step to the elements from a place on
abbrev pub more_step : (place : ℕ) → List ℕ
more_step place = codes "[" ++ (decimal place ++ codes "..]")

-- where elements are that are left out: their start, and the array's size without what is before them
abbrev pub more_cells : (array : Value) (from : ℕ) → List ℕ
more_cells array from = bits_cell from ++ bits_cell (end_of array - start_of array - (from - start_of array))

-- the line of the elements of an array from a place and a bit on
abbrev pub more_leaf : (steps : List ℕ) (array : Value) (place from left : ℕ) → List ℕ
more_leaf steps array place from left =
    steps ++ (more_step place ++ (more_cells array from ++ (codes "\t" ++ (more_text left ++ codes "\n"))))

module _ (style : Style) where
  abbrev mutual
    -- the lines of a value to which steps lead: those of its parts or, if it has none, its own
    pub styled_leaves : (steps : List ℕ) → Value → List ℕ
    styled_leaves steps (Mapped label start end members) =
        if is_parted label members
        then styled_branches (limit_of style label) steps (Mapped label start end members) 0 members
        else styled_leaf style steps (Mapped label start end members)

    -- the lines of the present members of a value from a place on, up to the limit
    pub styled_branches : (limit : Option ℕ) (steps : List ℕ) → Value → (place : ℕ) → Members → List ℕ
    styled_branches limit steps owner place NoMembers = []
    styled_branches limit steps owner place (AbsentThen rest) =
        if is_past limit place then more_leaf steps owner place (start_of owner) (suc (member_count rest))
        else styled_branches limit steps owner (suc place) rest
    styled_branches limit steps owner place (MemberThen value rest) =
        if is_past limit place then more_leaf steps owner place (start_of value) (suc (member_count rest))
        else styled_leaves (steps ++ step_text (label_of owner) place) value
        ++ styled_branches limit steps owner (suc place) rest

-- the whole output
abbrev pub styled_part_lines : Style → Value → List ℕ
styled_part_lines style value = styled_leaves style [] value
