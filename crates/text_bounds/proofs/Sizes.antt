-- The sizes of values: the printed value has as many bytes as its size says, in each mode and style.
use Rattle.std.proofs.Common.{◌≡◌, ℕ, zero, suc, ◌+◌, ◌-◌, ◌*◌, ◌<◌, ◌≤◌, max, Bool, true, false, List, [], ◌∷◌, ◌++◌, Option, Some, None, length, codes, decimal, replicate, refl, inl, inr, arith, length-append}
use Rattle.std.proofs.Math.Nat.{add-mul, mul-add, mul-le-mul_left}
use Rattle.std.proofs.lemmas.Bool.{cases_Bool}
use Rattle.std.specs.Prelude.{if◌then◌else◌, ◌⊎◌}
use Rattle.pickle_meaning.specs.Values.{Naming, Label, IntegerLabel, OffsetLabel, TextLabel, ArrayLabel, StructLabel, UnionLabel, Value, Mapped, Members, NoMembers, MemberThen, AbsentThen, member_count, start_of, end_of}
use Rattle.value_store.specs.Labels.{kind_of, member_name}
use Rattle.text_output.specs.declared.mode.Mode.{Mode}
use Rattle.text_output.specs.declared.style.Style.{Style}
use Rattle.text_output.specs.Brackets.{in_brackets}
use Rattle.value_text.specs.ValueText.{title_text, comma}
use Rattle.value_text.specs.TreeText.{indent_text, prefix_text, line_text, has_parts}
use Rattle.value_text.specs.Notation.{Notation, keys, no_key}
use Rattle.value_text.specs.PathText.{field_step, step_text, path_text}
use Rattle.value_text.specs.LinesText.{bits_cell, place_cells, any_present, is_parted}
use Rattle.value_text.specs.CutArrays.{limit_of, is_past, more_text, more_line}
use Rattle.value_text.specs.StyledValue.{written, written_members, styled_value, styled_members}
use Rattle.value_text.specs.StyledTree.{styled_head, styled_lines, styled_parts}
use Rattle.value_text.specs.StyledLeaves.{styled_text_cell, styled_leaf, more_step, more_cells, more_leaf, styled_leaves, styled_branches, styled_part_lines}
use Rattle.text_bounds.specs.declared.form.Form.{Form}
use Rattle.text_bounds.specs.TextRoom.{Size, Rooms, on_line, tree_rooms, cells_room, lines_rooms, rooms_in, with_parts, moved, no_size, both, more_size, or_text, text_size}
use Rattle.text_bounds.proofs.Within.{longer_within, array_within}

-- what a printed value has beside its members
abbrev pub own_room : Style → Rooms → Label → (count : ℕ) → ℕ
own_room style rooms (IntegerLabel number type) count = length (rooms.notation.integer style.numbers type number)
own_room style rooms (OffsetLabel magnitude type unit) count =
    length (rooms.notation.offset style.numbers type unit magnitude)
own_room style rooms (TextLabel bytes) count = length (rooms.notation.string bytes)
own_room style rooms ArrayLabel count = rooms.array count
own_room style rooms (StructLabel name fields) count = rooms.titled (codes "struct") name
own_room style rooms (UnionLabel name index alternative) count = rooms.titled (codes "union") name

abbrev pub member_before : Rooms → Label → (place : ℕ) → ℕ
member_before rooms ArrayLabel place = rooms.element_before place
member_before rooms label place = rooms.field_before (member_name label place) place

abbrev pub member_moves : Rooms → Label → (place : ℕ) → ℕ
member_moves rooms ArrayLabel place = rooms.element_moves place
member_moves rooms label place = rooms.field_moves (member_name label place) place

-- an array may be a text
abbrev pub or_chars : Style → Rooms → Label → (count start end : ℕ) → Size → Size
or_chars style rooms (IntegerLabel number type) count start end size = size
or_chars style rooms (OffsetLabel magnitude type unit) count start end size = size
or_chars style rooms (TextLabel bytes) count start end size = size
or_chars style rooms ArrayLabel count start end size =
    or_text style.chars (text_size rooms count start (end - start)) size
or_chars style rooms (StructLabel name fields) count start end size = size
or_chars style rooms (UnionLabel name index alternative) count start end size = size

-- what stands for the members from a place and a bit on of a value from bit `start` to bit `end`
abbrev pub rest_size : Rooms → (start end place from left : ℕ) → Size
rest_size rooms start end place from left = more_size rooms left place from (end - start - (from - start))

module _ (style : Style) (rooms : Rooms) where
  abbrev mutual
    pub size_by : Value → Size
    size_by (Mapped label start end members) =
        or_chars style rooms label (member_count members) start end
        (with_parts rooms (own_room style rooms label (member_count members) + rooms.line start (end - start))
        (members_by (limit_of style label) label start end 0 members))

    -- of the members from a place on of a value from bit `start` to bit `end`, up to the limit
    pub members_by : (limit : Option ℕ) → Label → (start end place : ℕ) → Members → Size
    members_by limit label start end place NoMembers = no_size
    members_by limit label start end place (AbsentThen rest) =
        if is_past limit place then rest_size rooms start end place start (suc (member_count rest))
        else members_by limit label start end (suc place) rest
    members_by limit label start end place (MemberThen value rest) =
        if is_past limit place then rest_size rooms start end place (start_of value) (suc (member_count rest))
        else both (moved (member_before rooms label place) (member_moves rooms label place) (size_by value))
        (members_by limit label start end (suc place) rest)

abbrev pub size_in : Form → Value → Size
size_in form value = size_by form.style (rooms_in form) value

abbrev pub members_in : Form → (limit : Option ℕ) → Label → (start end place : ℕ) → Members → Size
members_in form limit label start end place members =
    members_by form.style (rooms_in form) limit label start end place members

abbrev pub form_of : Style → Mode → Form
form_of style mode = record { mode = mode; style = style }

-- ---- on one line

comma_short : (first : Bool) → length (comma first) ≤ 1
comma_short true = omega arith
comma_short false = omega arith

in_braces : (title opens members : List ℕ)
    → length (title ++ (opens ++ (members ++ codes "}"))) ≡ length title + (length opens + 1) + length members
in_braces title opens members =
    omega (
      arith,
      length-append title (opens ++ (members ++ codes "}")),
      length-append opens (members ++ codes "}"),
      length-append members (codes "}"),
    )

module _ (style : Style) (notation : Notation) (escape : ℕ) where
  abbrev line_rooms : Rooms
  line_rooms = on_line notation escape

  -- what is before a member is short, its comma included
  abbrev IsShortBefore : (before : (place : ℕ) → List ℕ) → Label → Type 0
  IsShortBefore before label = (place : ℕ) → 1 + length (before place) ≤ member_before line_rooms label place

  more_short : (first : Bool) (left : ℕ) → length (comma first ++ notation.more left) ≤ 1 + length (notation.more left)
  more_short first left = omega (arith, comma_short first, length-append (comma first) (notation.more left))

  no_moves : (label : Label) (place lines : ℕ) → member_moves line_rooms label place * lines ≡ 0
  no_moves (IntegerLabel number type) place lines = omega arith
  no_moves (OffsetLabel magnitude type unit) place lines = omega arith
  no_moves (TextLabel bytes) place lines = omega arith
  no_moves ArrayLabel place lines = omega arith
  no_moves (StructLabel name fields) place lines = omega arith
  no_moves (UnionLabel name index alternative) place lines = omega arith

  member_short : (limit : Option ℕ) (before : (place : ℕ) → List ℕ) (label : Label) → IsShortBefore before label
      → (start end place : ℕ) (first : Bool) (value : Value) (rest : Members)
      → length (written notation style value) ≤ (size_by style line_rooms value).text
      → length (written_members notation style limit before (suc place) false rest)
      ≤ (members_by style line_rooms limit label start end (suc place) rest).text
      → length ((comma first ++ (before place ++ written notation style value))
      ++ written_members notation style limit before (suc place) false rest)
      ≤ (both (moved (member_before line_rooms label place) (member_moves line_rooms label place)
      (size_by style line_rooms value))
      (members_by style line_rooms limit label start end (suc place) rest)).text
  member_short limit before label h start end place first value rest one more =
      let text = before place ++ written notation style value in
      omega (
        arith,
        one,
        more,
        comma_short first,
        h place,
        no_moves label place (size_by style line_rooms value).lines,
        length-append (comma first ++ text) (written_members notation style limit before (suc place) false rest),
        length-append (comma first) text,
        length-append (before place) (written notation style value),
      )

  mutual
    pub line_short : (v : Value) → length (written notation style v) ≤ (size_by style line_rooms v).text
    line_short (Mapped (IntegerLabel number type) start end _) = omega arith
    line_short (Mapped (OffsetLabel magnitude type unit) start end _) = omega arith
    line_short (Mapped (TextLabel bytes) start end _) = omega arith
    line_short (Mapped ArrayLabel start end members) =
        let text = written_members notation style style.elements no_key 0 true members in
        let parts = members_by style line_rooms style.elements ArrayLabel start end 0 members in
        let inside = array_within style.chars (text_size line_rooms (member_count members) start (end - start))
        (with_parts line_rooms 2 parts) in
        omega (
          arith,
          members_short style.elements no_key ArrayLabel (λ place. omega arith) start end 0 true members,
          inside.text,
          length-append text (codes "]"),
        )
    line_short (Mapped (StructLabel name fields) start end members) =
        let before = keys notation (StructLabel name fields) in
        omega (
          arith,
          members_short None before (StructLabel name fields) (λ place. omega arith) start end 0 true members,
          in_braces (notation.title (codes "struct") name) notation.opens
              (written_members notation style None before 0 true members),
        )
    line_short (Mapped (UnionLabel name index alternative) start end members) =
        let before = keys notation (UnionLabel name index alternative) in
        omega (
          arith,
          members_short None before (UnionLabel name index alternative) (λ place. omega arith)
              start end 0 true members,
          in_braces (notation.title (codes "union") name) notation.opens
              (written_members notation style None before 0 true members),
        )

    members_short : (limit : Option ℕ) (before : (place : ℕ) → List ℕ) (label : Label) → IsShortBefore before label
        → (start end place : ℕ) (first : Bool) (members : Members)
        → length (written_members notation style limit before place first members)
        ≤ (members_by style line_rooms limit label start end place members).text
    members_short limit before label h start end place first NoMembers = omega arith
    members_short limit before label h start end place first (AbsentThen rest) =
        elim (cases_Bool (is_past limit place)) [
          | inl past ↦ rw past (more_short first (suc (member_count rest)))
          | inr earlier ↦ rw earlier (members_short limit before label h start end (suc place) first rest)
        ]
    members_short limit before label h start end place first (MemberThen value rest) =
        elim (cases_Bool (is_past limit place)) [
          | inl past ↦ rw past (more_short first (suc (member_count rest)))
          | inr earlier ↦ rw earlier (member_short limit before label h start end place first value rest
              (line_short value) (members_short limit before label h start end (suc place) false rest))
        ]

-- ---- over lines

indent_length : (level : ℕ) → length (indent_text level) ≡ 2 * level
indent_length level = repeated (2 * level)
  where
    repeated : (n : ℕ) → length {A = ℕ} (replicate n 32) ≡ n
    repeated zero = refl
    repeated (suc n) = omega (arith, repeated n)

tree_before : (label : Label) (place : ℕ) → length (prefix_text label place) ≡ member_before tree_rooms label place
tree_before (IntegerLabel number type) place = refl
tree_before (OffsetLabel magnitude type unit) place = refl
tree_before (TextLabel bytes) place = refl
tree_before ArrayLabel place = length-append (in_brackets place) (codes "=")
tree_before (StructLabel name fields) place = refl
tree_before (UnionLabel name index alternative) place = refl

tree_moves : (label : Label) (place lines : ℕ) → member_moves tree_rooms label place * lines ≡ 2 * lines
tree_moves (IntegerLabel number type) place lines = refl
tree_moves (OffsetLabel magnitude type unit) place lines = refl
tree_moves (TextLabel bytes) place lines = refl
tree_moves ArrayLabel place lines = refl
tree_moves (StructLabel name fields) place lines = refl
tree_moves (UnionLabel name index alternative) place lines = refl

-- one more level puts two more blanks before each line
level_more : (level lines : ℕ) → 2 * (level + 1) * lines ≡ 2 * level * lines + 2 * lines
level_more level lines =
    let same : 2 * (level + 1) ≡ 2 * level + 2 = omega arith in rw same (add-mul (2 * level) 2 lines)

line_length : (level : ℕ) (prefix head : List ℕ) →
    length (line_text level prefix head) ≡ 2 * level + (length prefix + (length head + 1))
line_length level prefix head =
    omega (
      arith,
      indent_length level,
      length-append (indent_text level) (prefix ++ (head ++ codes "\n")),
      length-append prefix (head ++ codes "\n"),
      length-append head (codes "\n"),
    )

where_parted : (b : Bool) (text : List ℕ) (n : ℕ) → length text ≤ n → length (if b then text else []) ≤ n
where_parted true text n h = h
where_parted false text n h = omega arith

more_line_length : (level left : ℕ) → length (more_line (level + 1) left) ≡ length (more_line 1 left) + 2 * level
more_line_length level left =
    omega (
      arith,
      indent_length (level + 1),
      indent_length 1,
      length-append (indent_text (level + 1)) (more_text left ++ codes "\n"),
      length-append (indent_text 1) (more_text left ++ codes "\n"),
    )

-- a value's size holds that of its parts
chars_inside : (style : Style) (rooms : Rooms) (n : ℕ) (label : Label) (count start end : ℕ) (size : Size) →
    size.text + n * size.lines
    ≤ (or_chars style rooms label count start end size).text
    + n * (or_chars style rooms label count start end size).lines
chars_inside style rooms n (IntegerLabel number type) count start end size = omega arith
chars_inside style rooms n (OffsetLabel magnitude type unit) count start end size = omega arith
chars_inside style rooms n (TextLabel bytes) count start end size = omega arith
chars_inside style rooms n ArrayLabel count start end size =
    longer_within n (array_within style.chars (text_size rooms count start (end - start)) size)
chars_inside style rooms n (StructLabel name fields) count start end size = omega arith
chars_inside style rooms n (UnionLabel name index alternative) count start end size = omega arith

module _ (style : Style) where
  head_length : (label : Label) (count : ℕ) →
      length (styled_head style label count) ≡ own_room style tree_rooms label count
  head_length (IntegerLabel number type) count = refl
  head_length (OffsetLabel magnitude type unit) count = refl
  head_length (TextLabel bytes) count = refl
  head_length ArrayLabel count = refl
  head_length (StructLabel name fields) count = refl
  head_length (UnionLabel name index alternative) count = refl

  tree_part : (limit : Option ℕ) (level : ℕ) (label : Label) (start end place : ℕ) (value : Value) (rest : Members)
      → length (styled_lines style (level + 1) (prefix_text label place) value)
      ≤ (size_by style tree_rooms value).text + 2 * (level + 1) * (size_by style tree_rooms value).lines
      + length (prefix_text label place)
      → length (styled_parts style limit (level + 1) label (suc place) rest)
      ≤ (members_by style tree_rooms limit label start end (suc place) rest).text
      + 2 * level * (members_by style tree_rooms limit label start end (suc place) rest).lines
      → length (styled_lines style (level + 1) (prefix_text label place) value
      ++ styled_parts style limit (level + 1) label (suc place) rest)
      ≤ (both
      (moved (member_before tree_rooms label place) (member_moves tree_rooms label place)
      (size_by style tree_rooms value))
      (members_by style tree_rooms limit label start end (suc place) rest)).text
      + 2 * level * (both
      (moved (member_before tree_rooms label place) (member_moves tree_rooms label place)
      (size_by style tree_rooms value))
      (members_by style tree_rooms limit label start end (suc place) rest)).lines
  tree_part limit level label start end place value rest first later =
      let one = size_by style tree_rooms value in
      let more = members_by style tree_rooms limit label start end (suc place) rest in
      omega (
        arith,
        first,
        later,
        tree_before label place,
        tree_moves label place one.lines,
        level_more level one.lines,
        mul-add (2 * level) one.lines more.lines,
        length-append (styled_lines style (level + 1) (prefix_text label place) value)
            (styled_parts style limit (level + 1) label (suc place) rest),
      )

  mutual
    pub tree_short : (level : ℕ) (prefix : List ℕ) (v : Value) → length (styled_lines style level prefix v)
        ≤ (size_by style tree_rooms v).text + 2 * level * (size_by style tree_rooms v).lines + length prefix
    tree_short level prefix (Mapped label start end members) =
        let head = styled_head style label (member_count members) in
        let limit = limit_of style label in
        let parts = members_by style tree_rooms limit label start end 0 members in
        let line = line_text level prefix head in
        let below = if has_parts (kind_of label) then styled_parts style limit (level + 1) label 0 members else [] in
        let few = where_parted (has_parts (kind_of label)) (styled_parts style limit (level + 1) label 0 members) _
        (tree_parts limit level label start end 0 members) in
        let inside = chars_inside style tree_rooms (2 * level) label (member_count members) start end
        (with_parts tree_rooms (own_room style tree_rooms label (member_count members) + 1) parts) in
        omega (
          arith,
          few,
          inside,
          head_length label (member_count members),
          line_length level prefix head,
          length-append line below,
          mul-add (2 * level) 1 parts.lines,
        )

    tree_parts : (limit : Option ℕ) (level : ℕ) (label : Label) (start end place : ℕ) (members : Members)
        → length (styled_parts style limit (level + 1) label place members)
        ≤ (members_by style tree_rooms limit label start end place members).text
        + 2 * level * (members_by style tree_rooms limit label start end place members).lines
    tree_parts limit level label start end place NoMembers = omega arith
    tree_parts limit level label start end place (AbsentThen rest) = elim (cases_Bool (is_past limit place)) [
      | inl past ↦ rw past (omega (arith, more_line_length level (suc (member_count rest))))
      | inr before ↦ rw before (tree_parts limit level label start end (suc place) rest)
    ]
    tree_parts limit level label start end place (MemberThen value rest) = elim (cases_Bool (is_past limit place)) [
      | inl past ↦ rw past (omega (arith, more_line_length level (suc (member_count rest))))
      | inr before ↦ rw before (tree_part limit level label start end place value rest
          (tree_short (level + 1) (prefix_text label place) value)
          (tree_parts limit level label start end (suc place) rest))
    ]

-- ---- a line for each part without parts

clash : true ≡ false → ⊥
clash e = cc

none_text : (style : Style) (label : Label) (place : ℕ) (first : Bool) (members : Members) →
    any_present members ≡ false → styled_members style None label place first members ≡ []
none_text style label place first NoMembers e = refl
none_text style label place first (MemberThen value rest) e = absurd (clash e)
none_text style label place first (AbsentThen rest) e = none_text style label (suc place) first rest e

cell_length : (bits : ℕ) → length (bits_cell bits) ≡ 3 + length (decimal bits)
cell_length bits = omega (arith, length-append (decimal bits) (codes "#b"))

leaf_length : (style : Style) (steps : List ℕ) (v : Value) → length (styled_leaf style steps v)
    ≡ length (path_text steps) + (cells_room (start_of v) (end_of v - start_of v) + length (styled_value style v))
leaf_length style steps v =
    let size = end_of v - start_of v in
    omega (
      arith,
      cell_length (start_of v),
      cell_length size,
      length-append (bits_cell (start_of v)) (bits_cell size),
      length-append (path_text steps) (place_cells v ++ styled_text_cell style v),
      length-append (place_cells v) (styled_text_cell style v),
      length-append (styled_value style v) (codes "\n"),
    )

more_leaf_length : (steps : List ℕ) (array : Value) (place from left : ℕ)
    → length (more_leaf steps array place from left) ≡ length steps + (length (more_step place)
    + (cells_room from (end_of array - start_of array - (from - start_of array)) + length (more_text left)))
more_leaf_length steps array place from left =
    let size = end_of array - start_of array - (from - start_of array) in
    omega (
      arith,
      cell_length from,
      cell_length size,
      length-append (bits_cell from) (bits_cell size),
      length-append steps
          (more_step place ++ (more_cells array from ++ (codes "\t" ++ (more_text left ++ codes "\n")))),
      length-append (more_step place) (more_cells array from ++ (codes "\t" ++ (more_text left ++ codes "\n"))),
      length-append (more_cells array from) (codes "\t" ++ (more_text left ++ codes "\n")),
      length-append (more_text left) (codes "\n"),
    )

path_length : (steps : List ℕ) → 0 < length steps → length (path_text steps) ≡ length steps
path_length [] lt = absurd (omega (arith, lt))
path_length (byte ∷ steps) lt = refl

step_length : (label : Label) (place : ℕ) → length (step_text label place) ≡ member_moves lines_rooms label place
step_length (IntegerLabel number type) place = refl
step_length (OffsetLabel magnitude type unit) place = refl
step_length (TextLabel bytes) place = refl
step_length ArrayLabel place = refl
step_length (StructLabel name fields) place = refl
step_length (UnionLabel name index alternative) place = refl

field_step_some : (name : Naming) (place : ℕ) → 0 < length (field_step name place)
field_step_some None place = omega arith
field_step_some (Some name) place = omega arith

step_some : (label : Label) (place : ℕ) → 0 < length (step_text label place)
step_some (IntegerLabel number type) place = field_step_some None place
step_some (OffsetLabel magnitude type unit) place = field_step_some None place
step_some (TextLabel bytes) place = field_step_some None place
step_some ArrayLabel place = omega arith
step_some (StructLabel name fields) place = field_step_some (member_name (StructLabel name fields) place) place
step_some (UnionLabel name index alternative) place =
    field_step_some (member_name (UnionLabel name index alternative) place) place

lines_before : (label : Label) (place : ℕ) → member_before lines_rooms label place ≡ 0
lines_before (IntegerLabel number type) place = refl
lines_before (OffsetLabel magnitude type unit) place = refl
lines_before (TextLabel bytes) place = refl
lines_before ArrayLabel place = refl
lines_before (StructLabel name fields) place = refl
lines_before (UnionLabel name index alternative) place = refl

more_step_some : (place : ℕ) → 2 ≤ length (more_step place)
more_step_some place = omega (arith, length-append (decimal place) (codes "..]"))

module _ (style : Style) where
  -- the text of an array without present elements: none, or what stands for those that are left out
  absent_text : (limit : Option ℕ) (start end place : ℕ) (members : Members) → any_present members ≡ false
      → (styled_members style limit ArrayLabel place true members ≡ [])
      ⊎ (cells_room start (end - start) + 2 + length (styled_members style limit ArrayLabel place true members)
      ≤ (members_by style lines_rooms limit ArrayLabel start end place members).text)
  absent_text limit start end place NoMembers e = inl refl
  absent_text limit start end place (MemberThen value rest) e = absurd (clash e)
  absent_text limit start end place (AbsentThen rest) e = elim (cases_Bool (is_past limit place)) [
    | inl past ↦ rw past (inr (let same : end - start - (start - start) ≡ end - start = omega arith in
        rw same (omega (arith, more_step_some place))))
    | inr before ↦ rw before (absent_text limit start end (suc place) rest e)
  ]

  -- a value without present parts, on its line
  leaf_short : (label : Label) (start end : ℕ) (members : Members) → is_parted label members ≡ false
      → cells_room start (end - start) + length (styled_value style (Mapped label start end members))
      ≤ (with_parts lines_rooms
      (own_room style lines_rooms label (member_count members) + cells_room start (end - start))
      (members_by style lines_rooms (limit_of style label) label start end 0 members)).text
  leaf_short (IntegerLabel number type) start end _ e = omega arith
  leaf_short (OffsetLabel magnitude type unit) start end _ e = omega arith
  leaf_short (TextLabel bytes) start end _ e = omega arith
  leaf_short ArrayLabel start end members e = elim (absent_text style.elements start end 0 members e) [
    | inl none ↦ rw none (omega arith)
    | inr few ↦
        omega (arith, few, length-append (styled_members style style.elements ArrayLabel 0 true members) (codes "]"))
  ]
  leaf_short (StructLabel name fields) start end members e =
      rw (none_text style (StructLabel name fields) 0 true members e)
      (omega (arith, in_braces (title_text (codes "struct") name) (codes " {") []))
  leaf_short (UnionLabel name index alternative) start end members e =
      rw (none_text style (UnionLabel name index alternative) 0 true members e)
      (omega (arith, in_braces (title_text (codes "union") name) (codes " {") []))

  branch_short : (limit : Option ℕ) (steps : List ℕ) (label : Label) (start end : ℕ) (all : Members) (place : ℕ)
      (value : Value) (rest : Members)
      → length (styled_leaves style (steps ++ step_text label place) value)
      ≤ (size_by style lines_rooms value).text
      + length (steps ++ step_text label place) * (size_by style lines_rooms value).lines
      → length (styled_branches style limit steps (Mapped label start end all) (suc place) rest)
      ≤ (members_by style lines_rooms limit label start end (suc place) rest).text
      + length steps * (members_by style lines_rooms limit label start end (suc place) rest).lines
      → length (styled_leaves style (steps ++ step_text label place) value
      ++ styled_branches style limit steps (Mapped label start end all) (suc place) rest)
      ≤ (both (moved (member_before lines_rooms label place) (member_moves lines_rooms label place)
      (size_by style lines_rooms value))
      (members_by style lines_rooms limit label start end (suc place) rest)).text
      + length steps
      * (both (moved (member_before lines_rooms label place) (member_moves lines_rooms label place)
      (size_by style lines_rooms value))
      (members_by style lines_rooms limit label start end (suc place) rest)).lines
  branch_short limit steps label start end all place value rest first later =
      let one = size_by style lines_rooms value in
      let more = members_by style lines_rooms limit label start end (suc place) rest in
      let step = step_text label place in
      let long = length-append steps step in
      let moves = step_length label place in
      omega (
        arith,
        rw (long, moves) at first,
        later,
        lines_before label place,
        add-mul (length steps) (member_moves lines_rooms label place) one.lines,
        mul-add (length steps) one.lines more.lines,
        length-append (styled_leaves style (steps ++ step) value)
            (styled_branches style limit steps (Mapped label start end all) (suc place) rest),
      )

  longer_steps : (steps : List ℕ) (label : Label) (place : ℕ) → 0 < length (steps ++ step_text label place)
  longer_steps steps label place = omega (arith, length-append steps (step_text label place), step_some label place)

  mutual
    lines_short : (steps : List ℕ) (v : Value) → 0 < length steps →
        length (styled_leaves style steps v)
        ≤ (size_by style lines_rooms v).text + length steps * (size_by style lines_rooms v).lines
    lines_short steps (Mapped label start end members) some =
        let parts = members_by style lines_rooms (limit_of style label) label start end 0 members in
        let own = with_parts lines_rooms
        (own_room style lines_rooms label (member_count members) + cells_room start (end - start)) parts in
        let inside = chars_inside style lines_rooms (length steps) label (member_count members) start end own in
        let short = chosen (branches_short (limit_of style label) steps label start end members 0 members)
        (is_parted label members) refl in
        omega (arith, inside, short)
      where
        chosen : length (styled_branches style (limit_of style label) steps (Mapped label start end members) 0 members)
            ≤ (members_by style lines_rooms (limit_of style label) label start end 0 members).text
            + length steps * (members_by style lines_rooms (limit_of style label) label start end 0 members).lines
            → (b : Bool) → is_parted label members ≡ b
            → length
            (if b then styled_branches style (limit_of style label) steps (Mapped label start end members) 0 members
            else styled_leaf style steps (Mapped label start end members))
            ≤ (with_parts lines_rooms
            (own_room style lines_rooms label (member_count members) + cells_room start (end - start))
            (members_by style lines_rooms (limit_of style label) label start end 0 members)).text
            + length steps * (with_parts lines_rooms
            (own_room style lines_rooms label (member_count members) + cells_room start (end - start))
            (members_by style lines_rooms (limit_of style label) label start end 0 members)).lines
        chosen few true e =
            let parts = members_by style lines_rooms (limit_of style label) label start end 0 members in
            omega (arith, few, mul-le-mul_left {m = parts.lines} {n = max 1 parts.lines} (length steps) (omega arith))
        chosen few false e =
            let parts = members_by style lines_rooms (limit_of style label) label start end 0 members in
            omega (
              arith,
              leaf_short label start end members e,
              leaf_length style steps (Mapped label start end members),
              path_length steps some,
              mul-le-mul_left {m = 1} {n = max 1 parts.lines} (length steps) (omega arith),
            )

    branches_short : (limit : Option ℕ) (steps : List ℕ) (label : Label) (start end : ℕ) (all : Members)
        (place : ℕ) (members : Members)
        → length (styled_branches style limit steps (Mapped label start end all) place members)
        ≤ (members_by style lines_rooms limit label start end place members).text
        + length steps * (members_by style lines_rooms limit label start end place members).lines
    branches_short limit steps label start end all place NoMembers = omega arith
    branches_short limit steps label start end all place (AbsentThen rest) = elim (cases_Bool (is_past limit place)) [
      | inl past ↦ rw past
          (omega (arith, more_leaf_length steps (Mapped label start end all) place start (suc (member_count rest))))
      | inr before ↦ rw before (branches_short limit steps label start end all (suc place) rest)
    ]
    branches_short limit steps label start end all place (MemberThen value rest) =
        elim (cases_Bool (is_past limit place)) [
          | inl past ↦ rw past (omega (
            arith,
            more_leaf_length steps (Mapped label start end all) place (start_of value) (suc (member_count rest)),
          ))
          | inr before ↦ rw before (branch_short limit steps label start end all place value rest
              (lines_short (steps ++ step_text label place) value (longer_steps steps label place))
              (branches_short limit steps label start end all (suc place) rest))
        ]

  -- a value without parts has a dot for its path
  pub all_lines_short : (v : Value) → length (styled_part_lines style v) ≤ (size_by style lines_rooms v).text + 1
  all_lines_short (Mapped label start end members) =
      let parts = members_by style lines_rooms (limit_of style label) label start end 0 members in
      let own = with_parts lines_rooms
      (own_room style lines_rooms label (member_count members) + cells_room start (end - start)) parts in
      omega (
        arith,
        chars_inside style lines_rooms 0 label (member_count members) start end own,
        chosen (is_parted label members) refl,
      )
    where
      chosen : (b : Bool) → is_parted label members ≡ b
          → length (if b then styled_branches style (limit_of style label) [] (Mapped label start end members) 0 members
          else styled_leaf style [] (Mapped label start end members))
          ≤ (with_parts lines_rooms
          (own_room style lines_rooms label (member_count members) + cells_room start (end - start))
          (members_by style lines_rooms (limit_of style label) label start end 0 members)).text + 1
      chosen true e = omega (arith, branches_short (limit_of style label) [] label start end members 0 members)
      chosen false e =
          omega (arith, leaf_short label start end members e, leaf_length style [] (Mapped label start end members))
