-- Arrays of which only the first elements are printed.
use Rattle.std.specs.Prelude.{ℕ, Bool, false, nat_le, nat_lt, List, [], ◌++◌, Option, Some, None, if◌then◌else◌, ◌==◌, codes, decimal}
use Rattle.text_output.specs.declared.style.Style.{Style}
use Rattle.pickle_meaning.specs.Values.{Label, IntegerLabel, OffsetLabel, TextLabel, ArrayLabel, StructLabel, UnionLabel}
use Rattle.value_text.specs.ValueText.{comma}
use Rattle.value_text.specs.TreeText.{indent_text}

-- the most members that are printed of a value: a style limits the elements of arrays alone
abbrev pub limit_of : Style → Label → Option ℕ
limit_of style (IntegerLabel number type) = None
limit_of style (OffsetLabel magnitude type unit) = None
limit_of style (TextLabel bytes) = None
limit_of style ArrayLabel = style.elements
limit_of style (StructLabel name fields) = None
limit_of style (UnionLabel name index alternative) = None

-- whether the members from a place on are left out
abbrev pub is_past : (limit : Option ℕ) → (place : ℕ) → Bool
is_past None place = false
is_past (Some most) place = nat_le most place

-- whether members of so many are left out, and how many are not
abbrev pub is_cut : (limit : Option ℕ) → (count : ℕ) → Bool
is_cut None count = false
is_cut (Some most) count = nat_lt most count

abbrev pub kept_count : (limit : Option ℕ) → (count : ℕ) → ℕ
kept_count None count = count
kept_count (Some most) count = if nat_lt most count then most else count

-- how many more there are
abbrev pub more_text : (left : ℕ) → List ℕ
more_text left = codes "..+" ++ decimal left

-- the same in JSON
abbrev pub more_object : (left : ℕ) → List ℕ
more_object left = codes "{\"..\":" ++ (decimal left ++ codes "}")

-- the same after other members on one line, on a separate line, and in JSON
abbrev pub more_member : (first : Bool) (left : ℕ) → List ℕ
more_member first left = comma first ++ more_text left

abbrev pub more_line : (level left : ℕ) → List ℕ
more_line level left = indent_text level ++ (more_text left ++ codes "\n")

abbrev pub more_item : (first : Bool) (left : ℕ) → List ℕ
more_item first left = comma first ++ more_object left

-- what is printed of so many that are left, if there are any
abbrev pub left_text : (more : ℕ → List ℕ) → (left : ℕ) → List ℕ
left_text more left = if left == 0 then [] else more left
