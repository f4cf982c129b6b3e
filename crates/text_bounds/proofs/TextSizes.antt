-- A value in which arrays of chars are texts is no larger than the value.
use Rattle.std.proofs.Common.{◌≡◌, ℕ, suc, ◌+◌, ◌≤◌, true, false, List, [], ◌∷◌, Option, length, refl, inl, inr, arith}
use Rattle.std.proofs.lemmas.Bool.{cases_Bool}
use Rattle.std.specs.Prelude.{◌==◌}
use Rattle.pickle_types.specs.declared.node.Node.{Node}
use Rattle.pickle_meaning.specs.Values.{Label, IntegerLabel, OffsetLabel, TextLabel, ArrayLabel, StructLabel, UnionLabel, Value, Mapped, Members, NoMembers, MemberThen, AbsentThen, member_count}
use Rattle.text_output.specs.declared.style.Chars.{Chars}
use Rattle.text_output.specs.declared.style.Chars.TheVariants.{Numbers, Text}
use Rattle.value_text.specs.CharTexts.{has_chars, chars_in, kept_before, trimmed, with_texts, parts_with_texts}
use Rattle.value_text.specs.CutArrays.{limit_of, is_past}
use Rattle.value_text.specs.PartTypes.{part_node}
use Rattle.value_text.specs.Styled.{with_chars}
use Rattle.value_text.proofs.CharTexts.{seen_start, parts_count, chars_count}
use Rattle.text_bounds.specs.declared.form.Form.{Form}
use Rattle.text_bounds.specs.TextRoom.{Size, rooms_in}
use Rattle.text_bounds.proofs.ModeRooms.{are_rooms}
use Rattle.text_bounds.proofs.StringLengths.{if_short}
use Rattle.text_bounds.proofs.Within.{Within, quoted_short, parts_within, moved_within, both_within, same_within, first_within, or_within}
use Rattle.text_bounds.proofs.Sizes.{or_chars, size_in, members_in}

-- ---- texts

kept_short : (byte : ℕ) (bytes : List ℕ) → length (kept_before byte bytes) ≤ 1 + length bytes
kept_short byte [] = if_short (byte == 0) [] (byte ∷ []) 1 (omega arith) (omega arith)
kept_short byte (next ∷ rest) = omega arith

trimmed_short : (bytes : List ℕ) → length (trimmed bytes) ≤ length bytes
trimmed_short [] = omega arith
trimmed_short (byte ∷ bytes) = omega (arith, kept_short byte (trimmed bytes), trimmed_short bytes)

-- ---- values

module _ (form : Form) (nodes : List Node) (chars : Option ℕ) where
  chars_or : (label : Label) (count start end : ℕ) {a b : Size} → Within a b →
      Within (or_chars form.style (rooms_in form) label count start end a)
      (or_chars form.style (rooms_in form) label count start end b)
  chars_or (IntegerLabel number type) count start end h = h
  chars_or (OffsetLabel magnitude type unit) count start end h = h
  chars_or (TextLabel bytes) count start end h = h
  chars_or ArrayLabel count start end h = or_within form.style.chars same_within h
  chars_or (StructLabel name fields) count start end h = h
  chars_or (UnionLabel name index alternative) count start end h = h

  clash : false ≡ true → ⊥
  clash e = cc

  -- the text of an array of chars
  text_there : (label : Label) (start end : ℕ) (members : Members) (size : Size) (element : Option ℕ)
      → form.style.chars ≡ Text → has_chars chars element label ≡ true
      → Within (size_in form (Mapped (TextLabel (trimmed (chars_in members))) start end NoMembers))
      (or_chars form.style (rooms_in form) label (member_count members) start end size)
  text_there (IntegerLabel number type) start end members size element is hit = absurd (clash hit)
  text_there (OffsetLabel magnitude type unit) start end members size element is hit = absurd (clash hit)
  text_there (TextLabel bytes) start end members size element is hit = absurd (clash hit)
  text_there (StructLabel name fields) start end members size element is hit = absurd (clash hit)
  text_there (UnionLabel name index alternative) start end members size element is hit = absurd (clash hit)
  text_there ArrayLabel start end members size element is hit =
      let few : length (trimmed (chars_in members)) ≤ member_count members =
      omega (arith, trimmed_short (chars_in members), chars_count members) in
      let own = quoted_short (are_rooms form.mode) (trimmed (chars_in members)) (member_count members) few in
      rw is (first_within size (parts_within (are_rooms form.mode) _ _ (omega (arith, own)) same_within))

  mutual
    texts_within : (of : Option ℕ) (value : Value) → form.style.chars ≡ Text →
        Within (size_in form (with_texts nodes chars of value)) (size_in form value)
    texts_within of (Mapped label start end members) is =
        elim (cases_Bool (has_chars chars (part_node nodes of label 0) label)) [
          | inl hit ↦ rw hit (text_there label start end members _ (part_node nodes of label 0) is hit)
          | inr miss ↦ rw (miss, parts_count nodes chars of label 0 members)
              (chars_or label (member_count members) start end (parts_within (are_rooms form.mode) _ _ (omega arith)
              (parts_texts_within (limit_of form.style label) of label start end 0 members is)))
        ]

    parts_texts_within : (limit : Option ℕ) (of : Option ℕ) (label : Label) (start end place : ℕ) (members : Members)
        → form.style.chars ≡ Text
        → Within (members_in form limit label start end place (parts_with_texts nodes chars of label place members))
        (members_in form limit label start end place members)
    parts_texts_within limit of label start end place NoMembers is = same_within
    parts_texts_within limit of label start end place (AbsentThen rest) is = elim (cases_Bool (is_past limit place)) [
      | inl past ↦ rw (past, parts_count nodes chars of label (suc place) rest) same_within
      | inr before ↦ rw before (parts_texts_within limit of label start end (suc place) rest is)
    ]
    parts_texts_within limit of label start end place (MemberThen value rest) is =
        elim (cases_Bool (is_past limit place)) [
          | inl past ↦ rw (
            past,
            parts_count nodes chars of label (suc place) rest,
            seen_start nodes chars (part_node nodes of label place) value,
          ) same_within
          | inr before ↦ rw before
              (both_within (moved_within _ _ _ _ (omega arith) (omega arith)
              (texts_within (part_node nodes of label place) value is))
              (parts_texts_within limit of label start end (suc place) rest is))
        ]

  chars_as : (kind : Chars) (of : Option ℕ) (value : Value) → form.style.chars ≡ kind →
      Within (size_in form (with_chars kind nodes chars of value)) (size_in form value)
  chars_as Numbers of value is = same_within
  chars_as Text of value is = texts_within of value is

  pub chars_within : (of : Option ℕ) (value : Value) →
      Within (size_in form (with_chars form.style.chars nodes chars of value)) (size_in form value)
  chars_within of value = chars_as form.style.chars of value refl
