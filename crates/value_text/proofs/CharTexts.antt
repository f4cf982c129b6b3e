-- Arrays of chars as texts.
use Rattle.std.proofs.Common.{◌≡◌, ◌≢◌, ℕ, zero, suc, ◌+◌, ◌<◌, ◌≤◌, List, [], ◌∷◌, ◌++◌, length, take, drop, get_or, Option, Some, None, true, false, inl, inr, refl, sym, ◌∙◌, ap, subst, arith}
use Rattle.std.specs.Prelude.{◌%◌, ◌==◌, IfSome, unsigned_abs}
use Rattle.std.specs.Option.{option_map}
use Rattle.std.proofs.lemmas.Bool.{cases_Bool}
use Rattle.std.proofs.lemmas.List.{drop_more, drop_all, get_or-take, length-take-le}
use Rattle.pickle_types.specs.declared.integer.IntegerType.{IntegerType}
use Rattle.pickle_types.specs.declared.node.Node.{Node}
use Rattle.pickle_meaning.specs.Values.{Label, IntegerLabel, OffsetLabel, TextLabel, ArrayLabel, StructLabel, UnionLabel, Value, Mapped, Members, NoMembers, MemberThen, AbsentThen, label_of, start_of, end_of, members_of, member_at, member_count}
use Rattle.value_store.specs.Integers.{IsIntegerOf, AreIntegersOf, AreBytesOf, byte_members}
use Rattle.value_store.specs.declared.scalar.Scalar.{Scalar}
use Rattle.value_store.specs.Labels.{number_of}
use Rattle.value_store.specs.Scalars.{scalar_label, scalar_in, scalar_if}
use Rattle.pickle_meaning.specs.Arithmetic.{with_sign}
use Rattle.value_text.specs.PartTypes.{part_node}
use Rattle.value_text.specs.CharTexts.{is_node, has_chars, char_if, chars_in, kept_before, trimmed, with_texts, parts_with_texts}
use Rattle.value_text.specs.ValueText.{spelled, spelled_byte}
use Rattle.value_text.proofs.CharArrays.{no_chars}
use Rattle.value_text.proofs.MemberTexts.{found_scalar}

module _ (nodes : List Node) (chars : Option ℕ) where
  -- what a label says of a text as of an array
  pub seen_label : {A : Type 0} (f : Label → A) → ((bytes : List ℕ) → f (TextLabel bytes) ≡ f ArrayLabel)
      → (of : Option ℕ) (value : Value)
      → f (label_of (with_texts nodes chars of value)) ≡ f (label_of value)
  seen_label f same of (Mapped (IntegerLabel number type) start end all) = refl
  seen_label f same of (Mapped (OffsetLabel magnitude type unit) start end all) = refl
  seen_label f same of (Mapped (TextLabel bytes) start end all) = refl
  seen_label f same of (Mapped ArrayLabel start end all) =
      elim (cases_Bool (is_node chars (part_node nodes of ArrayLabel 0))) [
        | inl hit ↦ rw hit (same (trimmed (chars_in all)))
        | inr miss ↦ rw miss refl
      ]
  seen_label f same of (Mapped (StructLabel name fields) start end all) = refl
  seen_label f same of (Mapped (UnionLabel name index alternative) start end all) = refl

  -- an array of chars, and any other value
  pub seen_text : (of : Option ℕ) (value : Value)
      → has_chars chars (part_node nodes of (label_of value) 0) (label_of value) ≡ true
      → with_texts nodes chars of value
      ≡ Mapped (TextLabel (trimmed (chars_in (members_of value)))) (start_of value) (end_of value) NoMembers
  seen_text of (Mapped label start end all) h = rw h refl

  pub seen_other : (of : Option ℕ) (value : Value)
      → has_chars chars (part_node nodes of (label_of value) 0) (label_of value) ≡ false
      → with_texts nodes chars of value ≡ Mapped (label_of value) (start_of value) (end_of value)
      (parts_with_texts nodes chars of (label_of value) 0 (members_of value))
  seen_other of (Mapped label start end all) h = rw h refl

  -- an array is no number, and neither is a text
  pub seen_scalar : (of : Option ℕ) (part : Option Value) →
      scalar_if (option_map (with_texts nodes chars of) part) ≡ scalar_if part
  seen_scalar of None = refl
  seen_scalar of (Some value) = seen_label scalar_in (λ bytes. refl) of value

  pub seen_start : (of : Option ℕ) (value : Value) → start_of (with_texts nodes chars of value) ≡ start_of value
  seen_start of value = elim (cases_Bool (has_chars chars (part_node nodes of (label_of value) 0) (label_of value))) [
    | inl hit ↦ ap start_of (seen_text of value hit)
    | inr miss ↦ ap start_of (seen_other of value miss)
  ]

  pub seen_end : (of : Option ℕ) (value : Value) → end_of (with_texts nodes chars of value) ≡ end_of value
  seen_end of value = elim (cases_Bool (has_chars chars (part_node nodes of (label_of value) 0) (label_of value))) [
    | inl hit ↦ ap end_of (seen_text of value hit)
    | inr miss ↦ ap end_of (seen_other of value miss)
  ]

  -- the members
  pub parts_count : (of : Option ℕ) (label : Label) (place : ℕ) (all : Members) →
      member_count (parts_with_texts nodes chars of label place all) ≡ member_count all
  parts_count of label place NoMembers = refl
  parts_count of label place (AbsentThen rest) = ap (λ n. 1 + n) (parts_count of label (suc place) rest)
  parts_count of label place (MemberThen value rest) = ap (λ n. 1 + n) (parts_count of label (suc place) rest)

  pub parts_at : (of : Option ℕ) (label : Label) (place : ℕ) (all : Members) (i : ℕ)
      → member_at (parts_with_texts nodes chars of label place all) i
      ≡ option_map (with_texts nodes chars (part_node nodes of label (place + i))) (member_at all i)
  parts_at of label place NoMembers i = refl
  parts_at of label place (AbsentThen rest) zero = refl
  parts_at of label place (MemberThen value rest) zero = let here : place + 0 ≡ place = omega arith in rw here refl
  parts_at of label place (AbsentThen rest) (suc i) =
      let on : place + suc i ≡ suc place + i = omega arith in rw on (parts_at of label (suc place) rest i)
  parts_at of label place (MemberThen value rest) (suc i) =
      let on : place + suc i ≡ suc place + i = omega arith in rw on (parts_at of label (suc place) rest i)

  mutual
    -- without a of there are no such arrays
    pub untyped_is : (value : Value) → with_texts nodes chars None value ≡ value
    untyped_is (Mapped label start end all) =
        rw (no_chars chars label) (ap (Mapped label start end) (untyped_parts label 0 all))

    untyped_parts : (label : Label) (place : ℕ) (all : Members) →
        parts_with_texts nodes chars None label place all ≡ all
    untyped_parts label place NoMembers = refl
    untyped_parts label place (AbsentThen rest) = ap AbsentThen (untyped_parts label (suc place) rest)
    untyped_parts label place (MemberThen value rest) =
        ap (λ v. MemberThen v (parts_with_texts nodes chars None label (suc place) rest)) (untyped_is value)
        ∙ ap (MemberThen value) (untyped_parts label (suc place) rest)

  -- integers stay
  parts_of_bytes : (of : Option ℕ) (label : Label) (place : ℕ) (type : IntegerType) (start : ℕ) (bytes : List ℕ)
      → parts_with_texts nodes chars of label place (byte_members type start bytes) ≡ byte_members type start bytes
  parts_of_bytes of label place type start [] = refl
  parts_of_bytes of label place type start (byte ∷ bytes) =
      ap (MemberThen (Mapped (IntegerLabel (with_sign type byte) type) start (start + type.width) NoMembers))
      (parts_of_bytes of label (suc place) type (start + type.width) bytes)

  pub bytes_seen : (of : Option ℕ) (type : IntegerType) (bytes : List ℕ) (value : Value)
      → has_chars chars (part_node nodes of (label_of value) 0) (label_of value) ≡ false
      → AreBytesOf type bytes value → AreBytesOf type bytes (with_texts nodes chars of value)
  bytes_seen of type bytes value other are = record {
    width = are.width;
    most = are.most;
    below = are.below;
    members =
        ap members_of (seen_other of value other)
        ∙ ap (parts_with_texts nodes chars of (label_of value) 0) are.members
        ∙ parts_of_bytes of (label_of value) 0 type (start_of value) bytes
        ∙ ap (λ start. byte_members type start bytes) (sym (seen_start of value));
  }

  integer_seen : (of : Option ℕ) (type : IntegerType) (value : Value) → IsIntegerOf type value →
      IsIntegerOf type (with_texts nodes chars of value)
  integer_seen of type (Mapped (IntegerLabel number t) start end all) is = is
  integer_seen of type (Mapped (OffsetLabel magnitude t unit) start end all) is = cc
  integer_seen of type (Mapped (TextLabel bytes) start end all) is = cc
  integer_seen of type (Mapped ArrayLabel start end all) is = cc
  integer_seen of type (Mapped (StructLabel name fields) start end all) is = cc
  integer_seen of type (Mapped (UnionLabel name index alternative) start end all) is = cc

  integer_if : (of : Option ℕ) (type : IntegerType) (part : Option Value) → IfSome part (IsIntegerOf type) →
      IfSome (option_map (with_texts nodes chars of) part) (IsIntegerOf type)
  integer_if of type None h = tt
  integer_if of type (Some value) h = integer_seen of type value h

  pub integers_seen : (of : Option ℕ) (type : IntegerType) (value : Value)
      → has_chars chars (part_node nodes of (label_of value) 0) (label_of value) ≡ false
      → AreIntegersOf type (members_of value) → AreIntegersOf type (members_of (with_texts nodes chars of value))
  integers_seen of type value other are i =
      subst (λ part. IfSome part (IsIntegerOf type))
      (sym (ap (λ v. member_at (members_of v) i) (seen_other of value other)
      ∙ parts_at of (label_of value) 0 (members_of value) i))
      (integer_if (part_node nodes of (label_of value) (0 + i)) type (member_at (members_of value) i) (are i))

-- the bytes of elements
pub chars_at : (all : Members) (i : ℕ) → get_or (chars_in all) i 0 ≡ char_if (member_at all i)
chars_at NoMembers i = refl
chars_at (AbsentThen rest) zero = refl
chars_at (MemberThen value rest) zero = refl
chars_at (AbsentThen rest) (suc i) = chars_at rest i
chars_at (MemberThen value rest) (suc i) = chars_at rest i

pub chars_count : (all : Members) → length (chars_in all) ≡ member_count all
chars_count NoMembers = refl
chars_count (AbsentThen rest) = omega (arith, chars_count rest)
chars_count (MemberThen value rest) = omega (arith, chars_count rest)

-- an element that is a number, and one that is none
pub char_numbered : (member : Option Value) (number : Scalar) → Some (scalar_label number) ≡ scalar_if member →
    char_if member ≡ unsigned_abs (number_of (scalar_label number)) % 256
char_numbered member number e =
    let found = found_scalar member number e in
    ap char_if (sym found.there) ∙ ap (λ label. unsigned_abs (number_of label) % 256) found.label

pub char_none : (member : Option Value) → None ≡ scalar_if member → char_if member ≡ 0
char_none None e = refl
char_none (Some (Mapped (IntegerLabel number type) start end all)) e = cc
char_none (Some (Mapped (OffsetLabel magnitude type unit) start end all)) e = cc
char_none (Some (Mapped (TextLabel bytes) start end all)) e = refl
char_none (Some (Mapped ArrayLabel start end all)) e = refl
char_none (Some (Mapped (StructLabel name fields) start end all)) e = refl
char_none (Some (Mapped (UnionLabel name index alternative) start end all)) e = refl

-- one more byte at the end
pub trimmed_zero : (bytes : List ℕ) (byte : ℕ) → byte ≡ 0 → trimmed (bytes ++ byte ∷ []) ≡ trimmed bytes
trimmed_zero [] byte e = rw e refl
trimmed_zero (first ∷ bytes) byte e = ap (kept_before first) (trimmed_zero bytes byte e)

pub trimmed_some : (bytes : List ℕ) (byte : ℕ) → byte ≢ 0 → trimmed (bytes ++ byte ∷ []) ≡ bytes ++ byte ∷ []
trimmed_some [] byte some = let is : (byte == 0) ≡ false = grind (arith, some) in rw is refl
trimmed_some (first ∷ bytes) byte some = ap (kept_before first) (trimmed_some bytes byte some) ∙ kept bytes
  where
    kept : (rest : List ℕ) → kept_before first (rest ++ byte ∷ []) ≡ first ∷ (rest ++ byte ∷ [])
    kept [] = refl
    kept (next ∷ rest) = refl

-- a text of chars from a place on
pub chars_next : (escape : ℕ → List ℕ) (bytes text : List ℕ) (n i : ℕ) → take n bytes ≡ text → n ≤ length bytes → i < n
    → spelled escape (drop i text) ≡ spelled_byte escape (get_or bytes i 0) ++ spelled escape (drop (i + 1) text)
chars_next escape bytes text n i e le lt =
    let size : length text ≡ n = ap length (sym e) ∙ length-take-le n bytes le in
    ap (spelled escape) (drop_more text i 0 (omega (arith, size, lt)))
    ∙ ap (λ byte. spelled_byte escape byte ++ spelled escape (drop (i + 1) text))
    (ap (λ bytes. get_or bytes i 0) (sym e) ∙ get_or-take n bytes i 0 lt)

pub chars_end : (escape : ℕ → List ℕ) (bytes text : List ℕ) (n i : ℕ) → take n bytes ≡ text → n ≤ length bytes → n ≤ i →
    spelled escape (drop i text) ≡ []
chars_end escape bytes text n i e le ge =
    let size : length text ≡ n = ap length (sym e) ∙ length-take-le n bytes le in
    ap (spelled escape) (drop_all i text (omega (arith, size, ge)))
