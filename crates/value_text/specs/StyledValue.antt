-- The printed value on one line, in a notation and a style. In the plain style all numbers are decimal, and no element
-- is left out.
use Rattle.std.specs.Prelude.{ℕ, suc, Bool, true, false, List, [], ◌++◌, Option, None, if◌then◌else◌, codes}
use Rattle.text_output.specs.declared.style.Style.{Style}
use Rattle.pickle_meaning.specs.Values.{Label, IntegerLabel, OffsetLabel, TextLabel, ArrayLabel, StructLabel, UnionLabel, Value, Mapped, Members, NoMembers, MemberThen, AbsentThen, member_count}
use Rattle.value_text.specs.ValueText.{comma}
use Rattle.value_text.specs.Notation.{Notation, flat, keys, no_key}
use Rattle.value_text.specs.CutArrays.{is_past}

module _ (notation : Notation) (style : Style) where
  abbrev mutual
    -- a struct or a union has its title, and its present parts in braces
    pub written : Value → List ℕ
    written (Mapped (IntegerLabel number type) start end _) = notation.integer style.numbers type number
    written (Mapped (OffsetLabel magnitude type unit) start end _) = notation.offset style.numbers type unit magnitude
    written (Mapped (TextLabel bytes) start end _) = notation.string bytes
    written (Mapped ArrayLabel start end members) =
        codes "[" ++ (written_members style.elements no_key 0 true members ++ codes "]")
    written (Mapped (StructLabel name fields) start end members) =
        notation.title (codes "struct") name
        ++ (notation.opens
        ++ (written_members None (keys notation (StructLabel name fields)) 0 true members ++ codes "}"))
    written (Mapped (UnionLabel name index alternative) start end members) =
        notation.title (codes "union") name
        ++ (notation.opens
        ++ (written_members None (keys notation (UnionLabel name index alternative)) 0 true members ++ codes "}"))

    -- the present members from a place on, each after its key if it has one, joined by commas, up to the limit
    pub written_members : (limit : Option ℕ) (before : (place : ℕ) → List ℕ) (place : ℕ) (first : Bool) → Members →
        List ℕ
    written_members limit before place first NoMembers = []
    written_members limit before place first (AbsentThen rest) =
        if is_past limit place then comma first ++ notation.more (suc (member_count rest))
        else written_members limit before (suc place) first rest
    written_members limit before place first (MemberThen value rest) =
        if is_past limit place then comma first ++ notation.more (suc (member_count rest))
        else (comma first ++ (before place ++ written value)) ++ written_members limit before (suc place) false rest

-- the whole output
abbrev pub written_line : Notation → Style → Value → List ℕ
written_line notation style value = written notation style value ++ codes "\n"

-- with types and names
abbrev pub styled_value : Style → Value → List ℕ
styled_value style value = written flat style value

abbrev pub styled_members : Style → (limit : Option ℕ) → Label → (place : ℕ) (first : Bool) → Members → List ℕ
styled_members style limit label place first members =
    written_members flat style limit (keys flat label) place first members
