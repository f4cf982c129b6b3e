-- Laws of values that are written on one line.
use Rattle.std.proofs.Common.{◌≡◌, ℕ, suc, add-one, ◌+◌, ◌-◌, ◌<◌, ◌≤◌, List, [], ◌++◌, Option, Some, None, Bool, true, false, codes, refl, sym, ◌∙◌, ap}
use Rattle.std.proofs.lemmas.List.{append_assoc}
use Rattle.text_output.specs.declared.style.Style.{Style}
use Rattle.value_store.specs.declared.value.Kind.TheVariants as kind
use Rattle.pickle_meaning.specs.Values.{Value, Mapped, Label, IntegerLabel, OffsetLabel, TextLabel, ArrayLabel, StructLabel, UnionLabel, Members, label_of, member_count, member_at}
use Rattle.value_store.specs.declared.scalar.Scalar.{Scalar}
use Rattle.value_store.specs.declared.scalar.Scalar.TheVariants as scalar
use Rattle.value_store.specs.Scalars.{scalar_label, scalar_if}
use Rattle.value_store.specs.Labels.{kind_of, number_of, unit_of, bytes_of, member_name}
use Rattle.value_text.specs.ValueText.{comma}
use Rattle.value_text.specs.Notation.{Notation, keys}
use Rattle.value_text.specs.StyledValue.{written, written_members}
use Rattle.value_text.specs.CutArrays.{is_past, kept_count, left_text}
use Rattle.value_text.specs.PartText.{type_of, scalar_text, more_element, number_field, array_text, titled_text, field_text}
use Rattle.value_text.proofs.MemberTexts.{members_from, with_member, from_at, from_end, found_scalar}
use Rattle.value_text.proofs.Cuts.{left_is}

module _ (notation : Notation) (style : Style) where
  -- a value that is an integer or an offset
  written_scalar : (value : Value) (number : Scalar) → label_of value ≡ scalar_label number →
      written notation style value ≡ scalar_text notation style.numbers number
  written_scalar (Mapped label start end all) (scalar.Integer number type) e = rw e refl
  written_scalar (Mapped label start end all) (scalar.Offset magnitude type unit) e = rw e refl

module _ (notation : Notation) (style : Style) (limit : Option ℕ) (before : ℕ → List ℕ) where
  -- a member that isn't past the limit, and one that is
  present_before : (i : ℕ) (first : Bool) (value : Value) (rest : Members) → is_past limit i ≡ false
      → written_members notation style limit before i first (with_member (Some value) rest)
      ≡ (comma first ++ (before i ++ written notation style value))
      ++ written_members notation style limit before (suc i) false rest
  present_before i first value rest kept = rw kept refl

  absent_before : (i : ℕ) (first : Bool) (rest : Members) → is_past limit i ≡ false
      → written_members notation style limit before i first (with_member None rest)
      ≡ written_members notation style limit before (suc i) first rest
  absent_before i first rest kept = rw kept refl

  member_past : (i : ℕ) (first : Bool) (member : Option Value) (rest : Members) → is_past limit i ≡ true
      → written_members notation style limit before i first (with_member member rest)
      ≡ more_element notation first (suc (member_count rest))
  member_past i first None rest past = rw past refl
  member_past i first (Some value) rest past = rw past refl

  -- a member that is there
  pub member_present : (all : Members) (i : ℕ) (first : Bool) (value : Value)
      → i < member_count all → is_past limit i ≡ false → Some value ≡ member_at all i
      → written_members notation style limit before i first (members_from i all)
      ≡ (comma first ++ (before i ++ written notation style value))
      ++ written_members notation style limit before (i + 1) false (members_from (i + 1) all)
  member_present all i first value lt kept is =
      ap (written_members notation style limit before i first)
      (from_at all i lt ∙ ap (λ o. with_member o (members_from (i + 1) all)) (sym is))
      ∙ present_before i first value (members_from (i + 1) all) kept
      ∙ ap (λ n. (comma first ++ (before i ++ written notation style value))
      ++ written_members notation style limit before n false (members_from (i + 1) all)) (sym (add-one i))

  pub member_absent : (all : Members) (i : ℕ) (first : Bool)
      → i < member_count all → is_past limit i ≡ false → None ≡ member_at all i
      → written_members notation style limit before i first (members_from i all)
      ≡ written_members notation style limit before (i + 1) first (members_from (i + 1) all)
  member_absent all i first lt kept is =
      ap (written_members notation style limit before i first)
      (from_at all i lt ∙ ap (λ o. with_member o (members_from (i + 1) all)) (sym is))
      ∙ absent_before i first (members_from (i + 1) all) kept
      ∙ ap (λ n. written_members notation style limit before n first (members_from (i + 1) all)) (sym (add-one i))

  -- a member that is an integer or an offset
  pub member_number : (all : Members) (i : ℕ) (first : Bool) (number : Scalar)
      → i < member_count all → is_past limit i ≡ false → Some (scalar_label number) ≡ scalar_if (member_at all i)
      → written_members notation style limit before i first (members_from i all)
      ≡ (comma first ++ (before i ++ scalar_text notation style.numbers number))
      ++ written_members notation style limit before (i + 1) false (members_from (i + 1) all)
  member_number all i first number lt kept is =
      let found = found_scalar (member_at all i) number is in
      member_present all i first found.value lt kept found.there
      ∙ ap (λ s. (comma first ++ (before i ++ s))
      ++ written_members notation style limit before (i + 1) false (members_from (i + 1) all))
      (written_scalar notation style found.value number found.label)

  -- the end of those that are printed
  pub members_left : (all : Members) (i : ℕ) (first : Bool) → i ≡ kept_count limit (member_count all)
      → written_members notation style limit before i first (members_from i all)
      ≡ left_text (more_element notation first) (member_count all - i)
  members_left all i first e =
      left_is limit (λ place. written_members notation style limit before place first) (more_element notation first)
      (λ place. refl) (λ place member rest past. member_past place first member rest past) all i e

  pub members_end : (all : Members) (i : ℕ) (first : Bool) → member_count all ≤ i →
      written_members notation style limit before i first (members_from i all) ≡ []
  members_end all i first h = ap (written_members notation style limit before i first) (from_end all i h)

module _ (notation : Notation) (style : Style) (label : Label) where
  -- a field with its key
  pub field_present : (all : Members) (i : ℕ) (first : Bool) (value : Value)
      → i < member_count all → Some value ≡ member_at all i
      → written_members notation style None (keys notation label) i first (members_from i all)
      ≡ field_text notation style first (member_name label i) i value
      ++ written_members notation style None (keys notation label) (i + 1) false (members_from (i + 1) all)
  field_present all i first value lt is =
      member_present notation style None (keys notation label) all i first value lt refl is
      ∙ ap
      (λ s. s ++ written_members notation style None (keys notation label) (i + 1) false (members_from (i + 1) all))
      (sym (append_assoc (comma first) (keys notation label i) (written notation style value)))

  pub field_number : (all : Members) (i : ℕ) (first : Bool) (number : Scalar)
      → i < member_count all → Some (scalar_label number) ≡ scalar_if (member_at all i)
      → written_members notation style None (keys notation label) i first (members_from i all)
      ≡ number_field notation style.numbers first (member_name label i) i number
      ++ written_members notation style None (keys notation label) (i + 1) false (members_from (i + 1) all)
  field_number all i first number lt is =
      member_number notation style None (keys notation label) all i first number lt refl is
      ∙ ap
      (λ s. s ++ written_members notation style None (keys notation label) (i + 1) false (members_from (i + 1) all))
      (sym (append_assoc (comma first) (keys notation label i) (scalar_text notation style.numbers number)))

module _ (notation : Notation) (style : Style) where
  -- the text of a value, by its kind
  pub written_integer : (v : Value) → kind.Integer ≡ kind_of (label_of v) →
      written notation style v ≡ notation.integer style.numbers (type_of (label_of v)) (number_of (label_of v))
  written_integer (Mapped (IntegerLabel number type) start end _) e = refl
  written_integer (Mapped (OffsetLabel magnitude type unit) start end _) e = cc
  written_integer (Mapped (TextLabel bytes) start end _) e = cc
  written_integer (Mapped ArrayLabel start end _) e = cc
  written_integer (Mapped (StructLabel name fields) start end _) e = cc
  written_integer (Mapped (UnionLabel name index alternative) start end _) e = cc

  pub written_offset : (v : Value) → kind.Offset ≡ kind_of (label_of v) → written notation style v
      ≡ notation.offset style.numbers (type_of (label_of v)) (unit_of (label_of v)) (number_of (label_of v))
  written_offset (Mapped (IntegerLabel number type) start end _) e = cc
  written_offset (Mapped (OffsetLabel magnitude type unit) start end _) e = refl
  written_offset (Mapped (TextLabel bytes) start end _) e = cc
  written_offset (Mapped ArrayLabel start end _) e = cc
  written_offset (Mapped (StructLabel name fields) start end _) e = cc
  written_offset (Mapped (UnionLabel name index alternative) start end _) e = cc

  pub written_string : (v : Value) → kind.Text ≡ kind_of (label_of v) →
      written notation style v ≡ notation.string (bytes_of (label_of v))
  written_string (Mapped (IntegerLabel number type) start end _) e = cc
  written_string (Mapped (OffsetLabel magnitude type unit) start end _) e = cc
  written_string (Mapped (TextLabel bytes) start end _) e = refl
  written_string (Mapped ArrayLabel start end _) e = cc
  written_string (Mapped (StructLabel name fields) start end _) e = cc
  written_string (Mapped (UnionLabel name index alternative) start end _) e = cc

  pub written_array : (v : Value) → kind.Array ≡ kind_of (label_of v) →
      written notation style v ≡ array_text notation style v
  written_array (Mapped (IntegerLabel number type) start end _) e = cc
  written_array (Mapped (OffsetLabel magnitude type unit) start end _) e = cc
  written_array (Mapped (TextLabel bytes) start end _) e = cc
  written_array (Mapped ArrayLabel start end all) e = refl
  written_array (Mapped (StructLabel name fields) start end _) e = cc
  written_array (Mapped (UnionLabel name index alternative) start end _) e = cc

  pub written_struct : (v : Value) → kind.Struct ≡ kind_of (label_of v) →
      written notation style v ≡ titled_text notation style (codes "struct") v
  written_struct (Mapped (IntegerLabel number type) start end _) e = cc
  written_struct (Mapped (OffsetLabel magnitude type unit) start end _) e = cc
  written_struct (Mapped (TextLabel bytes) start end _) e = cc
  written_struct (Mapped ArrayLabel start end _) e = cc
  written_struct (Mapped (StructLabel name fields) start end all) e = refl
  written_struct (Mapped (UnionLabel name index alternative) start end _) e = cc

  pub written_union : (v : Value) → kind.Union ≡ kind_of (label_of v) →
      written notation style v ≡ titled_text notation style (codes "union") v
  written_union (Mapped (IntegerLabel number type) start end _) e = cc
  written_union (Mapped (OffsetLabel magnitude type unit) start end _) e = cc
  written_union (Mapped (TextLabel bytes) start end _) e = cc
  written_union (Mapped ArrayLabel start end _) e = cc
  written_union (Mapped (StructLabel name fields) start end _) e = cc
  written_union (Mapped (UnionLabel name index alternative) start end all) e = refl

pub ruleset by_kind = (written_integer, written_offset, written_string, written_array, written_struct, written_union)
