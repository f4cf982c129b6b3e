-- Laws of the lines of values.
use Rattle.std.proofs.Common.{◌≡◌, ◌≢◌, ℕ, suc, add-one, ◌+◌, ◌-◌, ◌*◌, ◌<◌, ◌≤◌, List, [], ◌++◌, Option, Some, None, true, false, codes, refl, sym, ◌∙◌, ap, replicate, take, arith}
use Rattle.std.proofs.lemmas.List.{append_assoc, replicate-append-replicate, take-replicate}
use Rattle.value_store.specs.declared.value.Kind.{Kind}
use Rattle.value_store.specs.declared.value.Kind.TheVariants as kind
use Rattle.pickle_meaning.specs.Values.{Value, Mapped, Label, IntegerLabel, OffsetLabel, TextLabel, ArrayLabel, StructLabel, UnionLabel, Members, member_count, member_at}
use Rattle.value_store.specs.Labels.{kind_of, number_of, unit_of, bytes_of, name_of, member_name}
use Rattle.text_output.specs.declared.style.Style.{Style}
use Rattle.value_text.specs.declared.print.escape.Escapes.TheVariants.{Poke}
use Rattle.value_text.specs.ValueText.{title_text, name_text}
use Rattle.value_text.specs.Escaped.{quoted_by}
use Rattle.value_text.specs.StyledNumbers.{integer_in, offset_in}
use Rattle.value_text.specs.CutArrays.{is_past, kept_count, left_text, more_line}
use Rattle.value_text.specs.PartText.{type_of}
use Rattle.text_output.specs.Brackets.{in_brackets}
use Rattle.value_text.specs.TreeText.{indent_text, prefix_text}
use Rattle.value_text.specs.StyledTree.{styled_head, styled_lines, styled_parts, styled_tree}
use Rattle.value_text.specs.LineText.{rest_text, part_text}
use Rattle.value_text.proofs.MemberTexts.{members_from, with_member, from_at}
use Rattle.value_text.proofs.Cuts.{left_is}

-- the head of a label, by its kind
abbrev head_by : Style → Kind → Label → ℕ → List ℕ
head_by style kind.Integer label count = integer_in style.numbers (type_of label) (number_of label)
head_by style kind.Offset label count = offset_in style.numbers (type_of label) (unit_of label) (number_of label)
head_by style kind.Text label count = quoted_by Poke (bytes_of label)
head_by style kind.Array label count = in_brackets count
head_by style kind.Struct label count = title_text (codes "struct") (name_of label)
head_by style kind.Union label count = title_text (codes "union") (name_of label)

head_is : (style : Style) (label : Label) (count : ℕ) →
    styled_head style label count ≡ head_by style (kind_of label) label count
head_is style (IntegerLabel number type) count = refl
head_is style (OffsetLabel magnitude type unit) count = refl
head_is style (TextLabel bytes) count = refl
head_is style ArrayLabel count = refl
head_is style (StructLabel name fields) count = refl
head_is style (UnionLabel name index alternative) count = refl

head_at : (style : Style) (of : Kind) (label : Label) (count : ℕ) → of ≡ kind_of label →
    styled_head style label count ≡ head_by style of label count
head_at style of label count e = head_is style label count ∙ ap (λ k. head_by style k label count) (sym e)

pub head_of_integer : (style : Style) (label : Label) (count : ℕ) → kind.Integer ≡ kind_of label →
    styled_head style label count ≡ integer_in style.numbers (type_of label) (number_of label)
head_of_integer style label count e = head_at style kind.Integer label count e

pub head_of_offset : (style : Style) (label : Label) (count : ℕ) → kind.Offset ≡ kind_of label →
    styled_head style label count ≡ offset_in style.numbers (type_of label) (unit_of label) (number_of label)
head_of_offset style label count e = head_at style kind.Offset label count e

pub head_of_string : (style : Style) (label : Label) (count : ℕ) → kind.Text ≡ kind_of label →
    styled_head style label count ≡ quoted_by Poke (bytes_of label)
head_of_string style label count e = head_at style kind.Text label count e

pub head_of_array : (style : Style) (label : Label) (count : ℕ) → kind.Array ≡ kind_of label →
    styled_head style label count ≡ in_brackets count
head_of_array style label count e = head_at style kind.Array label count e

pub head_of_struct : (style : Style) (label : Label) (count : ℕ) → kind.Struct ≡ kind_of label →
    styled_head style label count ≡ title_text (codes "struct") (name_of label)
head_of_struct style label count e = head_at style kind.Struct label count e

pub head_of_union : (style : Style) (label : Label) (count : ℕ) → kind.Union ≡ kind_of label →
    styled_head style label count ≡ title_text (codes "union") (name_of label)
head_of_union style label count e = head_at style kind.Union label count e

pub ruleset by_kind = (head_of_integer, head_of_offset, head_of_string, head_of_array, head_of_struct, head_of_union)

-- what is before a part, by the kind of the value that has it
pub prefix_of_element : (label : Label) (place : ℕ) → kind.Array ≡ kind_of label →
    prefix_text label place ≡ in_brackets place ++ codes "="
prefix_of_element (IntegerLabel number type) place e = cc
prefix_of_element (OffsetLabel magnitude type unit) place e = cc
prefix_of_element (TextLabel bytes) place e = cc
prefix_of_element ArrayLabel place e = refl
prefix_of_element (StructLabel name fields) place e = cc
prefix_of_element (UnionLabel name index alternative) place e = cc

pub prefix_of_field : (label : Label) (place : ℕ) → kind_of label ≢ kind.Array →
    prefix_text label place ≡ name_text (member_name label place)
prefix_of_field (IntegerLabel number type) place e = refl
prefix_of_field (OffsetLabel magnitude type unit) place e = refl
prefix_of_field (TextLabel bytes) place e = refl
prefix_of_field ArrayLabel place e = absurd (e refl)
prefix_of_field (StructLabel name fields) place e = refl
prefix_of_field (UnionLabel name index alternative) place e = refl

pub ruleset by_prefix = (prefix_of_element, prefix_of_field)

-- the lines of a value, from what is before its head
lines_rest : (style : Style) (level : ℕ) (prefix : List ℕ) (value : Value) →
    styled_lines style level prefix value ≡ (indent_text level ++ prefix) ++ rest_text style level value
lines_rest style level prefix (Mapped label start end all) = simp append_assoc

pub tree_rest : (style : Style) (value : Value) → styled_tree style value ≡ rest_text style 0 value
tree_rest style value = lines_rest style 0 [] value

-- a part that isn't past the limit, and one that is
line_before : (style : Style) (limit : Option ℕ) (level : ℕ) (label : Label) (i : ℕ) (value : Value) (rest : Members)
    → is_past limit i ≡ false
    → styled_parts style limit level label i (with_member (Some value) rest)
    ≡ styled_lines style level (prefix_text label i) value ++ styled_parts style limit level label (suc i) rest
line_before style limit level label i value rest before = rw before refl

absent_before : (style : Style) (limit : Option ℕ) (level : ℕ) (label : Label) (i : ℕ) (rest : Members)
    → is_past limit i ≡ false
    → styled_parts style limit level label i (with_member None rest) ≡ styled_parts style limit level label (suc i) rest
absent_before style limit level label i rest before = rw before refl

line_past : (style : Style) (limit : Option ℕ) (level : ℕ) (label : Label) (i : ℕ) (member : Option Value)
    (rest : Members) → is_past limit i ≡ true
    → styled_parts style limit level label i (with_member member rest) ≡ more_line level (suc (member_count rest))
line_past style limit level label i None rest past = rw past refl
line_past style limit level label i (Some value) rest past = rw past refl

-- a part that is there
pub lines_present : (style : Style) (limit : Option ℕ) (level : ℕ) (label : Label) (all : Members) (i : ℕ)
    (value : Value) → i < member_count all → is_past limit i ≡ false → Some value ≡ member_at all i
    → styled_parts style limit level label i (members_from i all)
    ≡ part_text style level label i value ++ styled_parts style limit level label (i + 1) (members_from (i + 1) all)
lines_present style limit level label all i value lt before is =
    ap (styled_parts style limit level label i)
    (from_at all i lt ∙ ap (λ o. with_member o (members_from (i + 1) all)) (sym is))
    ∙ line_before style limit level label i value (members_from (i + 1) all) before
    ∙ ap (λ s. s ++ styled_parts style limit level label (suc i) (members_from (i + 1) all))
    (lines_rest style level (prefix_text label i) value)
    ∙ ap (λ n. part_text style level label i value ++ styled_parts style limit level label n (members_from (i + 1) all))
    (sym (add-one i))

pub lines_absent : (style : Style) (limit : Option ℕ) (level : ℕ) (label : Label) (all : Members) (i : ℕ)
    → i < member_count all → is_past limit i ≡ false → None ≡ member_at all i
    → styled_parts style limit level label i (members_from i all)
    ≡ styled_parts style limit level label (i + 1) (members_from (i + 1) all)
lines_absent style limit level label all i lt before is =
    ap (styled_parts style limit level label i)
    (from_at all i lt ∙ ap (λ o. with_member o (members_from (i + 1) all)) (sym is))
    ∙ absent_before style limit level label i (members_from (i + 1) all) before
    ∙ ap (λ n. styled_parts style limit level label n (members_from (i + 1) all)) (sym (add-one i))

-- the end of those that are printed
pub lines_left : (style : Style) (limit : Option ℕ) (level : ℕ) (label : Label) (all : Members) (i : ℕ)
    → i ≡ kept_count limit (member_count all)
    → styled_parts style limit level label i (members_from i all) ≡ left_text (more_line level) (member_count all - i)
lines_left style limit level label all i e =
    left_is limit (λ place. styled_parts style limit level label place) (more_line level) (λ place. refl)
    (λ place member rest past. line_past style limit level label place member rest past) all i e

-- the blanks of more than 32 levels begin with those of 32
pub blanks_first : (left : ℕ) → 32 < left →
    replicate {A = ℕ} (2 * left) 32 ≡ replicate 64 32 ++ replicate (2 * (left - 32)) 32
blanks_first left more =
    let e : 64 + 2 * (left - 32) ≡ 2 * left = omega (arith, more) in
    sym (replicate-append-replicate 64 (2 * (left - 32)) 32 ∙ ap (λ n. replicate n 32) e)

-- the blanks of at most 32 levels
pub few_blanks : (left : ℕ) → left ≤ 32 → take {A = ℕ} (2 * left) (replicate 64 32) ≡ replicate (2 * left) 32
few_blanks left few = let fits : 2 * left ≤ 64 = omega (arith, few) in take-replicate (2 * left) 64 32 fits
