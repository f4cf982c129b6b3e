-- Laws of the lines of a shown value.
use Rattle.std.proofs.Common.{◌≡◌, ◌≢◌, ℕ, zero, suc, add-one, ◌+◌, ◌-◌, ◌*◌, ◌/◌, ◌<◌, ◌≤◌, List, [], ◌++◌, Bool, true, false, not, ◌&&◌, Option, Some, None, codes, refl, sym, ◌∙◌, ap, arith, inl, inr}
use Rattle.std.specs.Prelude.{◌==◌, nat_lt, nat_le, min}
use Rattle.std.specs.List.{flat_map, range_with_len}
use Rattle.std.proofs.lemmas.Bool.{lt-ltb, cases_lt}
use Rattle.std.proofs.lemmas.List.{append-nil}
use Rattle.value_store.specs.declared.value.Kind.TheVariants as kind
use Rattle.pickle_meaning.specs.Values.{Value, Mapped, Label, IntegerLabel, OffsetLabel, TextLabel, ArrayLabel, StructLabel, UnionLabel, Members, NoMembers, MemberThen, AbsentThen, label_of, start_of, end_of, members_of, member_count, member_at}
use Rattle.value_store.specs.Labels.{kind_of, number_of, unit_of, bytes_of, width_of, signed_of, member_name}
use Rattle.text_output.specs.Brackets.{in_brackets}
use Rattle.text_output.specs.declared.style.Look.{Look}
use Rattle.value_text.specs.LinesText.{any_present}
use Rattle.value_text.specs.PartTypes.{part_node}
use Rattle.value_text.specs.ShowWords.{shown_number, shown_offset, shown_string}
use Rattle.value_text.specs.ShowText.{View, margin, name_cell, found_name, is_array, is_inline, are_inline, inline_text, inline_members, inline_name, separator, is_byte_label, is_number_label, cut_of, at_most, within, rows_text, rest_from, dump_text, shown_rest, shown_parts, show_text}
use Rattle.value_text.specs.ShowParts.{is_inline_if, whole_text, rest_text, part_text, start_text, sight_in, all_inline_text, braced_text}
use Rattle.value_text.proofs.MemberTexts.{members_from, with_member, from_at, from_end}

rest_is : (view : View) (level : ℕ) (inner : Bool) (of : Option ℕ) (value : Value) →
    shown_rest view level inner of value ≡ rest_text view level inner of value
rest_is view level inner of (Mapped label start end members) = refl

pub show_is : (view : View) (of : Option ℕ) (value : Value) → show_text view of value ≡ whole_text view of value
show_is view of value = ap (λ s. margin view.look view.file 0 value ++ s) (rest_is view 0 false of value)

-- what is cut, and what an element is, by the kind of the value
pub cut_array : (most : Option ℕ) (label : Label) → kind.Array ≡ kind_of label → cut_of most label ≡ most
cut_array most (IntegerLabel number type) e = cc
cut_array most (OffsetLabel magnitude type unit) e = cc
cut_array most (TextLabel bytes) e = cc
cut_array most ArrayLabel e = refl
cut_array most (StructLabel name fields) e = cc
cut_array most (UnionLabel name index alternative) e = cc

pub cut_other : (most : Option ℕ) (label : Label) → kind_of label ≢ kind.Array → cut_of most label ≡ None
cut_other most (IntegerLabel number type) e = refl
cut_other most (OffsetLabel magnitude type unit) e = refl
cut_other most (TextLabel bytes) e = refl
cut_other most ArrayLabel e = absurd (e refl)
cut_other most (StructLabel name fields) e = refl
cut_other most (UnionLabel name index alternative) e = refl

pub ruleset by_cut = (cut_array, cut_other)

pub array_is : (label : Label) → kind.Array ≡ kind_of label → is_array label ≡ true
array_is (IntegerLabel number type) e = cc
array_is (OffsetLabel magnitude type unit) e = cc
array_is (TextLabel bytes) e = cc
array_is ArrayLabel e = refl
array_is (StructLabel name fields) e = cc
array_is (UnionLabel name index alternative) e = cc

pub array_isnt : (label : Label) → kind_of label ≢ kind.Array → is_array label ≡ false
array_isnt (IntegerLabel number type) e = refl
array_isnt (OffsetLabel magnitude type unit) e = refl
array_isnt (TextLabel bytes) e = refl
array_isnt ArrayLabel e = absurd (e refl)
array_isnt (StructLabel name fields) e = refl
array_isnt (UnionLabel name index alternative) e = refl

pub ruleset by_array = (array_is, array_isnt)

pub name_of_element : (label : Label) (place : ℕ) → kind.Array ≡ kind_of label →
    name_cell label place ≡ codes " " ++ in_brackets place
name_of_element (IntegerLabel number type) place e = cc
name_of_element (OffsetLabel magnitude type unit) place e = cc
name_of_element (TextLabel bytes) place e = cc
name_of_element ArrayLabel place e = refl
name_of_element (StructLabel name fields) place e = cc
name_of_element (UnionLabel name index alternative) place e = cc

pub name_of_field : (label : Label) (place : ℕ) → kind_of label ≢ kind.Array →
    name_cell label place ≡ found_name (member_name label place)
name_of_field (IntegerLabel number type) place e = refl
name_of_field (OffsetLabel magnitude type unit) place e = refl
name_of_field (TextLabel bytes) place e = refl
name_of_field ArrayLabel place e = absurd (e refl)
name_of_field (StructLabel name fields) place e = refl
name_of_field (UnionLabel name index alternative) place e = refl

pub ruleset by_name = (name_of_element, name_of_field)

pub byte_integer : (label : Label) → kind.Integer ≡ kind_of label →
    is_byte_label label ≡ (width_of label == 8) && not (signed_of label)
byte_integer (IntegerLabel number type) e = refl
byte_integer (OffsetLabel magnitude type unit) e = cc
byte_integer (TextLabel bytes) e = cc
byte_integer ArrayLabel e = cc
byte_integer (StructLabel name fields) e = cc
byte_integer (UnionLabel name index alternative) e = cc

pub byte_other : (label : Label) → kind_of label ≢ kind.Integer → is_byte_label label ≡ false
byte_other (IntegerLabel number type) e = absurd (e refl)
byte_other (OffsetLabel magnitude type unit) e = refl
byte_other (TextLabel bytes) e = refl
byte_other ArrayLabel e = refl
byte_other (StructLabel name fields) e = refl
byte_other (UnionLabel name index alternative) e = refl

pub ruleset by_byte = (byte_integer, byte_other)

pub number_integer : (label : Label) → kind.Integer ≡ kind_of label → is_number_label label ≡ true
number_integer (IntegerLabel number type) e = refl
number_integer (OffsetLabel magnitude type unit) e = refl
number_integer (TextLabel bytes) e = cc
number_integer ArrayLabel e = cc
number_integer (StructLabel name fields) e = cc
number_integer (UnionLabel name index alternative) e = cc

pub number_offset : (label : Label) → kind.Offset ≡ kind_of label → is_number_label label ≡ true
number_offset (IntegerLabel number type) e = refl
number_offset (OffsetLabel magnitude type unit) e = refl
number_offset (TextLabel bytes) e = cc
number_offset ArrayLabel e = cc
number_offset (StructLabel name fields) e = cc
number_offset (UnionLabel name index alternative) e = cc

pub number_other : (label : Label) → kind_of label ≢ kind.Integer → kind_of label ≢ kind.Offset →
    is_number_label label ≡ false
number_other (IntegerLabel number type) e f = absurd (e refl)
number_other (OffsetLabel magnitude type unit) e f = absurd (f refl)
number_other (TextLabel bytes) e f = refl
number_other ArrayLabel e f = refl
number_other (StructLabel name fields) e f = refl
number_other (UnionLabel name index alternative) e f = refl

pub ruleset by_number = (number_integer, number_offset, number_other)

-- whether a value goes on the line of its name
pub line_integer : (v : Value) → kind.Integer ≡ kind_of (label_of v) → is_inline v ≡ true
line_integer (Mapped (IntegerLabel number type) start end _) e = refl
line_integer (Mapped (OffsetLabel magnitude type unit) start end _) e = cc
line_integer (Mapped (TextLabel bytes) start end _) e = cc
line_integer (Mapped ArrayLabel start end _) e = cc
line_integer (Mapped (StructLabel name fields) start end _) e = cc
line_integer (Mapped (UnionLabel name index alternative) start end _) e = cc

pub line_offset : (v : Value) → kind.Offset ≡ kind_of (label_of v) → is_inline v ≡ true
line_offset (Mapped (IntegerLabel number type) start end _) e = refl
line_offset (Mapped (OffsetLabel magnitude type unit) start end _) e = refl
line_offset (Mapped (TextLabel bytes) start end _) e = cc
line_offset (Mapped ArrayLabel start end _) e = cc
line_offset (Mapped (StructLabel name fields) start end _) e = cc
line_offset (Mapped (UnionLabel name index alternative) start end _) e = cc

pub line_string : (v : Value) → kind.Text ≡ kind_of (label_of v) → is_inline v ≡ true
line_string (Mapped (IntegerLabel number type) start end _) e = refl
line_string (Mapped (OffsetLabel magnitude type unit) start end _) e = refl
line_string (Mapped (TextLabel bytes) start end _) e = refl
line_string (Mapped ArrayLabel start end _) e = cc
line_string (Mapped (StructLabel name fields) start end _) e = cc
line_string (Mapped (UnionLabel name index alternative) start end _) e = cc

pub line_array : (v : Value) → kind.Array ≡ kind_of (label_of v) → is_inline v ≡ false
line_array (Mapped (IntegerLabel number type) start end _) e = cc
line_array (Mapped (OffsetLabel magnitude type unit) start end _) e = cc
line_array (Mapped (TextLabel bytes) start end _) e = cc
line_array (Mapped ArrayLabel start end _) e = refl
line_array (Mapped (StructLabel name fields) start end _) e = cc
line_array (Mapped (UnionLabel name index alternative) start end _) e = cc

pub line_struct : (v : Value) → kind.Struct ≡ kind_of (label_of v) →
    is_inline v ≡ nat_le (end_of v - start_of v) 64 && any_present (members_of v) && are_inline (members_of v)
line_struct (Mapped (IntegerLabel number type) start end _) e = cc
line_struct (Mapped (OffsetLabel magnitude type unit) start end _) e = cc
line_struct (Mapped (TextLabel bytes) start end _) e = cc
line_struct (Mapped ArrayLabel start end _) e = cc
line_struct (Mapped (StructLabel name fields) start end _) e = refl
line_struct (Mapped (UnionLabel name index alternative) start end _) e = cc

pub line_union : (v : Value) → kind.Union ≡ kind_of (label_of v) → is_inline v ≡ are_inline (members_of v)
line_union (Mapped (IntegerLabel number type) start end _) e = cc
line_union (Mapped (OffsetLabel magnitude type unit) start end _) e = cc
line_union (Mapped (TextLabel bytes) start end _) e = cc
line_union (Mapped ArrayLabel start end _) e = cc
line_union (Mapped (StructLabel name fields) start end _) e = cc
line_union (Mapped (UnionLabel name index alternative) start end _) e = refl

pub ruleset by_line = (line_integer, line_offset, line_string, line_array, line_struct, line_union)

-- the text of a value on its line
pub inline_integer : (look : Look) (v : Value) → kind.Integer ≡ kind_of (label_of v) →
    inline_text look v ≡ shown_number look.numbers (number_of (label_of v))
inline_integer look (Mapped (IntegerLabel number type) start end _) e = refl
inline_integer look (Mapped (OffsetLabel magnitude type unit) start end _) e = cc
inline_integer look (Mapped (TextLabel bytes) start end _) e = cc
inline_integer look (Mapped ArrayLabel start end _) e = cc
inline_integer look (Mapped (StructLabel name fields) start end _) e = cc
inline_integer look (Mapped (UnionLabel name index alternative) start end _) e = cc

pub inline_offset : (look : Look) (v : Value) → kind.Offset ≡ kind_of (label_of v) →
    inline_text look v ≡ shown_offset look.numbers (unit_of (label_of v)) (number_of (label_of v))
inline_offset look (Mapped (IntegerLabel number type) start end _) e = cc
inline_offset look (Mapped (OffsetLabel magnitude type unit) start end _) e = refl
inline_offset look (Mapped (TextLabel bytes) start end _) e = cc
inline_offset look (Mapped ArrayLabel start end _) e = cc
inline_offset look (Mapped (StructLabel name fields) start end _) e = cc
inline_offset look (Mapped (UnionLabel name index alternative) start end _) e = cc

pub inline_string : (look : Look) (v : Value) → kind.Text ≡ kind_of (label_of v) →
    inline_text look v ≡ shown_string look.elements (bytes_of (label_of v))
inline_string look (Mapped (IntegerLabel number type) start end _) e = cc
inline_string look (Mapped (OffsetLabel magnitude type unit) start end _) e = cc
inline_string look (Mapped (TextLabel bytes) start end _) e = refl
inline_string look (Mapped ArrayLabel start end _) e = cc
inline_string look (Mapped (StructLabel name fields) start end _) e = cc
inline_string look (Mapped (UnionLabel name index alternative) start end _) e = cc

pub inline_array : (look : Look) (v : Value) → kind.Array ≡ kind_of (label_of v) → inline_text look v ≡ []
inline_array look (Mapped (IntegerLabel number type) start end _) e = cc
inline_array look (Mapped (OffsetLabel magnitude type unit) start end _) e = cc
inline_array look (Mapped (TextLabel bytes) start end _) e = cc
inline_array look (Mapped ArrayLabel start end _) e = refl
inline_array look (Mapped (StructLabel name fields) start end _) e = cc
inline_array look (Mapped (UnionLabel name index alternative) start end _) e = cc

pub inline_struct : (look : Look) (v : Value) → kind.Struct ≡ kind_of (label_of v) →
    inline_text look v ≡ all_inline_text look v
inline_struct look (Mapped (IntegerLabel number type) start end _) e = cc
inline_struct look (Mapped (OffsetLabel magnitude type unit) start end _) e = cc
inline_struct look (Mapped (TextLabel bytes) start end _) e = cc
inline_struct look (Mapped ArrayLabel start end _) e = cc
inline_struct look (Mapped (StructLabel name fields) start end _) e = refl
inline_struct look (Mapped (UnionLabel name index alternative) start end _) e = cc

pub inline_union : (look : Look) (v : Value) → kind.Union ≡ kind_of (label_of v) →
    inline_text look v ≡ all_inline_text look v
inline_union look (Mapped (IntegerLabel number type) start end _) e = cc
inline_union look (Mapped (OffsetLabel magnitude type unit) start end _) e = cc
inline_union look (Mapped (TextLabel bytes) start end _) e = cc
inline_union look (Mapped ArrayLabel start end _) e = cc
inline_union look (Mapped (StructLabel name fields) start end _) e = cc
inline_union look (Mapped (UnionLabel name index alternative) start end _) e = refl

pub ruleset by_inline = (inline_integer, inline_offset, inline_string, inline_array, inline_struct, inline_union)

-- the members on a line, one after the other
pub inline_present : (look : Look) (label : Label) (all : Members) (i : ℕ) (first : Bool) (value : Value)
    → i < member_count all → Some value ≡ member_at all i
    → inline_members look label i first (members_from i all)
    ≡ ((separator first ++ inline_name (member_name label i)) ++ braced_text look value)
    ++ inline_members look label (i + 1) false (members_from (i + 1) all)
inline_present look label all i first value lt is =
    ap (inline_members look label i first)
    (from_at all i lt ∙ ap (λ o. with_member o (members_from (i + 1) all)) (sym is))
    ∙ ap (λ n. ((separator first ++ inline_name (member_name label i)) ++ braced_text look value)
    ++ inline_members look label n false (members_from (i + 1) all)) (sym (add-one i))

pub inline_absent : (look : Look) (label : Label) (all : Members) (i : ℕ) (first : Bool) → i < member_count all
    → None ≡ member_at all i
    → inline_members look label i first (members_from i all)
    ≡ inline_members look label (i + 1) first (members_from (i + 1) all)
inline_absent look label all i first lt is =
    ap (inline_members look label i first)
    (from_at all i lt ∙ ap (λ o. with_member o (members_from (i + 1) all)) (sym is))
    ∙ ap (λ n. inline_members look label n first (members_from (i + 1) all)) (sym (add-one i))

pub inline_end : (look : Look) (label : Label) (all : Members) (i : ℕ) (first : Bool) → member_count all ≤ i →
    inline_members look label i first (members_from i all) ≡ []
inline_end look label all i first h = ap (inline_members look label i first) (from_end all i h)

-- whether the members from a place on go on the line
pub are_inline_at : (all : Members) (i : ℕ) → i < member_count all →
    are_inline (members_from i all) ≡ is_inline_if (member_at all i) && are_inline (members_from (i + 1) all)
are_inline_at all i lt = ap are_inline (from_at all i lt) ∙ by_member (member_at all i) (members_from (i + 1) all)
  where
    by_member : (member : Option Value) (rest : Members) →
        are_inline (with_member member rest) ≡ is_inline_if member && are_inline rest
    by_member None rest = refl
    by_member (Some value) rest = refl

pub are_inline_end : (all : Members) (i : ℕ) → member_count all ≤ i → are_inline (members_from i all) ≡ true
are_inline_end all i h = ap are_inline (from_end all i h)

-- a part that isn't cut off
within_at : (most : Option ℕ) (count i : ℕ) → i < at_most most count → within most i ≡ true
within_at None count i h = refl
within_at (Some m) count i h = lt-ltb i m (omega arith)

below_count : (most : Option ℕ) (count i : ℕ) → i < at_most most count → i < count
below_count None count i h = h
below_count (Some m) count i h = omega arith

pub parts_present : (view : View) (level : ℕ) (of : Option ℕ) (label : Label) (all : Members) (i : ℕ) (value : Value)
    → i < at_most (cut_of view.look.elements label) (member_count all) → Some value ≡ member_at all i
    → shown_parts view level of label i (members_from i all)
    ≡ part_text view level of label i value ++ shown_parts view level of label (i + 1) (members_from (i + 1) all)
parts_present view level of label all i value h is =
    let here = within_at (cut_of view.look.elements label) (member_count all) i h in
    let lt = below_count (cut_of view.look.elements label) (member_count all) i h in
    ap (shown_parts view level of label i)
    (from_at all i lt ∙ ap (λ o. with_member o (members_from (i + 1) all)) (sym is))
    ∙ shown here
    ∙ ap (λ n. part_text view level of label i value ++ shown_parts view level of label n (members_from (i + 1) all))
    (sym (add-one i))
  where
    shown : within (cut_of view.look.elements label) i ≡ true
        → shown_parts view level of label i (MemberThen value (members_from (i + 1) all))
        ≡ part_text view level of label i value ++ shown_parts view level of label (suc i) (members_from (i + 1) all)
    shown here = rw here (ap (λ s.
        (start_text (sight_in view) level label i value ++ s)
        ++ shown_parts view level of label (suc i) (members_from (i + 1) all))
        (rest_is view level (is_array label) (part_node view.types.nodes of label i) value))

pub parts_absent : (view : View) (level : ℕ) (of : Option ℕ) (label : Label) (all : Members) (i : ℕ)
    → i < at_most (cut_of view.look.elements label) (member_count all) → None ≡ member_at all i
    → shown_parts view level of label i (members_from i all)
    ≡ shown_parts view level of label (i + 1) (members_from (i + 1) all)
parts_absent view level of label all i h is =
    ap (shown_parts view level of label i)
    (from_at all i (below_count (cut_of view.look.elements label) (member_count all) i h)
    ∙ ap (λ o. with_member o (members_from (i + 1) all)) (sym is))
    ∙ ap (λ n. shown_parts view level of label n (members_from (i + 1) all)) (sym (add-one i))

-- nothing of what is cut off
cut_off : (view : View) (level : ℕ) (of : Option ℕ) (label : Label) (m i : ℕ) (members : Members) →
    cut_of view.look.elements label ≡ Some m → m ≤ i → shown_parts view level of label i members ≡ []
cut_off view level of label m i NoMembers e h = refl
cut_off view level of label m i (AbsentThen rest) e h = cut_off view level of label m (suc i) rest e (omega arith)
cut_off view level of label m i (MemberThen value rest) e h =
    let out : within (Some m) i ≡ false = not_below i m h in
    rw (e, out) (cut_off view level of label m (suc i) rest e (omega arith))
  where
    not_below : (i m : ℕ) → m ≤ i → nat_lt i m ≡ false
    not_below i m h = grind arith

pub parts_end : (view : View) (level : ℕ) (of : Option ℕ) (label : Label) (all : Members) (i : ℕ) →
    at_most (cut_of view.look.elements label) (member_count all) ≤ i →
    shown_parts view level of label i (members_from i all) ≡ []
parts_end view level of label all i h = by_most (cut_of view.look.elements label) refl h
  where
    by_most : (most : Option ℕ) → cut_of view.look.elements label ≡ most → at_most most (member_count all) ≤ i →
        shown_parts view level of label i (members_from i all) ≡ []
    by_most None e h = ap (shown_parts view level of label i) (from_end all i h)
    by_most (Some m) e h = elim (cases_lt i m) [
      | inl lt ↦ ap (shown_parts view level of label i) (from_end all i (omega arith))
      | inr ge ↦ cut_off view level of label m i (members_from i all) e (omega arith)
    ]

-- the pieces of a line from a place on
pub flat_first : (f : ℕ → List ℕ) (i end : ℕ) → i < end →
    flat_map f (range_with_len i (end - i)) ≡ f i ++ flat_map f (range_with_len (i + 1) (end - (i + 1)))
flat_first f i end h =
    let e : end - i ≡ suc (end - (i + 1)) = omega arith in ap (λ n. flat_map f (range_with_len i n)) e

pub flat_none : (f : ℕ → List ℕ) (i end : ℕ) → end ≤ i → flat_map f (range_with_len i (end - i)) ≡ []
flat_none f i end h = let e : end - i ≡ 0 = omega arith in ap (λ n. flat_map f (range_with_len i n)) e

-- no member is past the end
pub past_end : (all : Members) (i : ℕ) → member_count all ≤ i → member_at all i ≡ None
past_end NoMembers i h = refl
past_end (MemberThen value rest) zero h = absurd (omega (arith, h))
past_end (AbsentThen rest) zero h = absurd (omega (arith, h))
past_end (MemberThen value rest) (suc i) h = past_end rest i (omega (arith, h))
past_end (AbsentThen rest) (suc i) h = past_end rest i (omega (arith, h))

-- a dump of all rows, and one that is cut
pub dump_all : (look : Look) (level : ℕ) (members : Members) →
    dump_text look level None members ≡ rows_text look level ((member_count members + 15) / 16) members
dump_all look level members = append-nil (rows_text look level ((member_count members + 15) / 16) members)

pub dump_whole : (look : Look) (level most : ℕ) (members : Members) → (member_count members + 15) / 16 ≤ most →
    dump_text look level (Some most) members ≡ rows_text look level ((member_count members + 15) / 16) members
dump_whole look level most members h =
    let rows : min ((member_count members + 15) / 16) most ≡ (member_count members + 15) / 16 = omega arith in
    let none : member_at members (16 * most) ≡ None = past_end members (16 * most) (omega arith) in
    rw (rows, none) (append-nil (rows_text look level ((member_count members + 15) / 16) members))

pub dump_cut : (look : Look) (level most : ℕ) (members : Members) → most < (member_count members + 15) / 16 →
    dump_text look level (Some most) members
    ≡ rows_text look level most members ++ rest_from look level members (16 * most)
dump_cut look level most members h =
    let rows : min ((member_count members + 15) / 16) most ≡ most = omega arith in
    rw rows refl
