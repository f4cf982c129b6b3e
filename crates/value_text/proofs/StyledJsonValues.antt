-- Values printed in JSON read back as the values.
use Rattle.std.proofs.Common.{◌≡◌, ℕ, zero, suc, ℤ, pos, negsuc, ◌+◌, ◌/◌, ◌%◌, ◌^◌, ◌<◌, ◌≤◌, true, false, inl, inr, List, [], ◌∷◌, ◌++◌, Option, Some, None, codes, decimal, refl, sym, ap, subst, arith}
use Rattle.std.specs.Prelude.{unsigned_abs, nat_lt, ◌==◌, IfSome}
use Rattle.std.proofs.lemmas.Bool.{cases_Bool}
use Rattle.std.proofs.lemmas.List.{append-nil, append_assoc}
use Rattle.pickle_types.specs.declared.node.Node.{Node}
use Rattle.text_output.specs.HexDigits.{hex_digit}
use Rattle.text_output.specs.declared.style.Numbers.{Numbers}
use Rattle.text_output.specs.declared.style.Numbers.TheVariants.{Decimal, Hexadecimal, Digits}
use Rattle.text_output.specs.declared.style.Style.{Style}
use Rattle.text_output.specs.declared.style.Chars.{Chars}
use Rattle.text_output.specs.declared.style.Chars.TheVariants as form
use Rattle.pickle_meaning.specs.Values.{Label, IntegerLabel, OffsetLabel, TextLabel, ArrayLabel, StructLabel, UnionLabel, Value, Mapped, Members, NoMembers, MemberThen, AbsentThen, member_count}
use Rattle.value_store.specs.Labels.{member_name}
use Rattle.value_text.specs.JsonText.{json_string}
use Rattle.value_text.specs.Notation.{json, keys, no_key}
use Rattle.value_text.specs.Json.{no_blank, one_blank, line_feed, ReadsCharacters, plain_character, no_character, ReadsString, string, ReadsValue, number_value, string_value, object, Reads, json as read, last_element, ReadsEntry, last_entry, one_entry}
use Rattle.value_text.specs.JsonValue.{whole_number}
use Rattle.value_text.specs.SmallParts.{AreBytes, IsSmallLabel, HasSmallParts, AreSmallParts, HasFewMembers, HaveFewMembers}
use Rattle.value_text.specs.CutArrays.{is_past, more_object}
use Rattle.value_text.specs.CharTexts.{has_chars, chars_in, kept_before, trimmed, with_texts, parts_with_texts}
use Rattle.value_text.specs.PartTypes.{part_node}
use Rattle.value_text.specs.StyledNumbers.{hex_digits, hexadecimal, signed_hex, quoted_hex, json_number, json_offset_in}
use Rattle.value_text.specs.StyledValue.{written, written_members}
use Rattle.value_text.specs.StyledJsonValue.{integer_json, styled_offset_json, more_json, styled_json_of, styled_elements, styled_entries}
use Rattle.value_text.specs.Styled.{with_chars}
use Rattle.value_text.specs.Laws.{PrintsJson, JsonReadsBack}
use Rattle.value_text.proofs.CharTexts.{parts_count}
use Rattle.value_text.proofs.JsonWords.{number_is, natural_is, string_is}
use Rattle.value_text.proofs.JsonValues.{bare, MoreElements, no_element, more_elements, MoreEntries, no_entry, more_entries, InList, without_elements, with_elements, InObject, without_entries, with_entries, element_then, entry_then, list_is, object_is, entry_is, key_is, HasKeys, struct_keys, union_keys}

-- ---- hexadecimal digits in a string

digit_character : (n : ℕ) {rest characters : List ℕ} → n < 16 → ReadsCharacters rest characters →
    ReadsCharacters (hex_digit n ∷ rest) (hex_digit n ∷ characters)
digit_character n {rest} {characters} small h = elim (cases_Bool (nat_lt n 10)) [
  | inl hit ↦ (let below : n < 10 = grind (arith, hit) in
      rw hit (plain_character {byte = 48 + n} (omega arith) (omega (arith, below)) (λ e. omega (arith, e))
      (λ e. omega (arith, e, below)) h))
  | inr miss ↦ (let from : 10 ≤ n = grind (arith, miss) in
      rw miss (plain_character {byte = 87 + n} (omega arith) (omega (arith, small)) (λ e. omega (arith, e))
      (λ e. omega (arith, e, from)) h))
]

digits_characters : (most n : ℕ) {rest characters : List ℕ} → ReadsCharacters rest characters →
    ReadsCharacters (hex_digits most n ++ rest) (hex_digits most n ++ characters)
digits_characters zero n h = h
digits_characters (suc most) n {rest} {characters} h =
    let last : ReadsCharacters (hex_digit (n % 16) ∷ rest) (hex_digit (n % 16) ∷ characters) =
    digit_character (n % 16) (omega arith) h in
    elim (cases_Bool (nat_lt n 16)) [
      | inl hit ↦ rw hit last
      | inr miss ↦ rw (
        miss,
        append_assoc (hex_digits most (n / 16)) (hex_digit (n % 16) ∷ []) rest,
        append_assoc (hex_digits most (n / 16)) (hex_digit (n % 16) ∷ []) characters,
      )
          (digits_characters most (n / 16) last)
    ]

hex_characters : (n : ℕ) → ReadsCharacters (codes "0x" ++ hexadecimal n) (codes "0x" ++ hexadecimal n)
unfolding hexadecimal
hex_characters n =
    let all : ReadsCharacters (hex_digits 32 n) (hex_digits 32 n) =
    subst (λ s. ReadsCharacters s s) (append-nil (hex_digits 32 n)) (digits_characters 32 n no_character) in
    plain_character {byte = 48} (omega arith) (omega arith) (λ e. omega (arith, e)) (λ e. omega (arith, e))
    (plain_character {byte = 120} (omega arith) (omega arith) (λ e. omega (arith, e)) (λ e. omega (arith, e)) all)

signed_characters : (z : ℤ) → ReadsCharacters (signed_hex z) (signed_hex z)
signed_characters (pos n) = hex_characters n
signed_characters (negsuc n) = plain_character {byte = 45} (omega arith) (omega arith) (λ e. omega (arith, e))
    (λ e. omega (arith, e)) (hex_characters (suc n))

quoted_is : (z : ℤ) → ReadsString (quoted_hex z) (signed_hex z)
unfolding quoted_hex
quoted_is z = string (signed_characters z)

integer_is : (numbers : Numbers) (z : ℤ) → unsigned_abs z < 2 ^ 64 →
    ReadsValue (json_number numbers z) (integer_json numbers z)
integer_is Decimal z small = number_value (number_is z small)
integer_is Hexadecimal z small = string_value (quoted_is z)
integer_is Digits z small = number_value (number_is z small)

offset_is : (numbers : Numbers) (magnitude : ℤ) (unit : ℕ) → unsigned_abs magnitude < 2 ^ 64 → unit < 2 ^ 64 →
    ReadsValue (json_offset_in numbers magnitude unit) (styled_offset_json numbers magnitude unit)
unfolding json_offset_in json_string
offset_is numbers magnitude unit m u =
    let first : ReadsEntry (codes "\"magnitude\":" ++ json_number numbers magnitude) (codes "magnitude")
    (integer_json numbers magnitude) =
    entry_is (string_is (codes "magnitude") magnitude_is) (integer_is numbers magnitude m) in
    let second : ReadsEntry (codes "\"unit\":" ++ decimal unit) (codes "unit") (whole_number (pos unit)) =
    entry_is (string_is (codes "unit") unit_is) (number_value (natural_is unit u)) in
    subst (λ t. ReadsValue t (styled_offset_json numbers magnitude unit)) (ap (λ s. codes "{\"magnitude\":" ++ s)
    (append_assoc (json_number numbers magnitude) (codes ",\"unit\":" ++ decimal unit) (codes "}")))
    (object (one_entry first (last_entry second)))
  where
    unit_is : AreBytes (codes "unit")
    unit_is = (omega arith, (omega arith, (omega arith, (omega arith, tt))))

    magnitude_is : AreBytes (codes "magnitude")
    magnitude_is = (
      omega arith,
      (
        omega arith,
        (omega arith, (omega arith, (omega arith, (omega arith, (omega arith, (omega arith, (omega arith, tt))))))),
      ),
    )

-- how many more there are
more_is : (left : ℕ) → left < 2 ^ 64 → ReadsValue (more_object left) (more_json left)
unfolding json_string
more_is left small =
    let only : ReadsEntry (codes "\"..\":" ++ decimal left) (codes "..") (whole_number (pos left)) =
    entry_is (string_is (codes "..") (omega arith, (omega arith, tt))) (number_value (natural_is left small)) in
    object (last_entry only)

-- where a member is past a limit, there is one
limit_some : (limit : Option ℕ) (place : ℕ) → is_past limit place ≡ true → (most : ℕ) × (limit ≡ Some most)
limit_some None place past = cc
limit_some (Some most) place past = (most, refl)

module _ (style : Style) where
  -- a fact that has to hold where a style may leave elements out
  abbrev IfCut : Type 0 → Type 0
  IfCut fact = (most : ℕ) → style.elements ≡ Some most → fact

  -- the object for elements that are left out
  past_is : (place left : ℕ) → is_past style.elements place ≡ true → IfCut (left < 2 ^ 64) →
      Reads (more_object left) (more_json left)
  past_is place left past few =
      let cut = limit_some style.elements place past in bare (more_is left (few cut.0 cut.1))

  mutual
    value_is : (value : Value) → HasSmallParts value → IfCut (HasFewMembers value) →
        ReadsValue (written json style value) (styled_json_of style value)
    value_is (Mapped (IntegerLabel number type) start end _) h few = integer_is style.numbers number h.0
    value_is (Mapped (OffsetLabel magnitude type unit) start end _) h few =
        offset_is style.numbers magnitude unit h.0.0 h.0.1
    value_is (Mapped (TextLabel bytes) start end _) h few = string_value (string_is bytes h.0)
    value_is (Mapped ArrayLabel start end all) h few =
        list_is (elements_are 0 all (λ most cut. (few most cut).0) h.1 (λ most cut. (few most cut).1))
    value_is (Mapped (StructLabel name fields) start end all) h few =
        object_is
        (entries_are (StructLabel name fields) 0 all (struct_keys name fields h.0.1) (omega (arith, h.0.0)) h.1
        (λ most cut. (few most cut).1))
    value_is (Mapped (UnionLabel name index alternative) start end all) h few =
        object_is (entries_are (UnionLabel name index alternative) 0 all (union_keys name index alternative h.0.1)
        (omega (arith, h.0.0)) h.1 (λ most cut. (few most cut).1))

    elements_are : (place : ℕ) (members : Members) → IfCut (member_count members < 2 ^ 64)
        → AreSmallParts members → IfCut (HaveFewMembers members)
        → InList (written_members json style style.elements no_key place true members)
        (styled_elements style style.elements place members)
    elements_are place NoMembers count h few = without_elements
    elements_are place (AbsentThen rest) count h few = elim (cases_Bool (is_past style.elements place)) [
      | inl past ↦ rw past (with_elements (last_element (past_is place (suc (member_count rest)) past
          (λ most cut. omega (arith, count most cut)))))
      | inr before ↦ rw before (elements_are (suc place) rest (λ most cut. omega (arith, count most cut)) h few)
    ]
    elements_are place (MemberThen value rest) count h few = elim (cases_Bool (is_past style.elements place)) [
      | inl past ↦ rw past (with_elements (last_element (past_is place (suc (member_count rest)) past
          (λ most cut. omega (arith, count most cut)))))
      | inr before ↦ rw before (with_elements (element_then (bare (value_is value h.0 (λ most cut. (few most cut).0)))
          (elements_follow (suc place) rest (λ most cut. omega (arith, count most cut)) h.1
          (λ most cut. (few most cut).1))))
    ]

    elements_follow : (place : ℕ) (members : Members) → IfCut (member_count members < 2 ^ 64)
        → AreSmallParts members → IfCut (HaveFewMembers members)
        → MoreElements (written_members json style style.elements no_key place false members)
        (styled_elements style style.elements place members)
    elements_follow place NoMembers count h few = no_element
    elements_follow place (AbsentThen rest) count h few = elim (cases_Bool (is_past style.elements place)) [
      | inl past ↦ rw past (more_elements (last_element (past_is place (suc (member_count rest)) past
          (λ most cut. omega (arith, count most cut)))))
      | inr before ↦ rw before (elements_follow (suc place) rest (λ most cut. omega (arith, count most cut)) h few)
    ]
    elements_follow place (MemberThen value rest) count h few = elim (cases_Bool (is_past style.elements place)) [
      | inl past ↦ rw past (more_elements (last_element (past_is place (suc (member_count rest)) past
          (λ most cut. omega (arith, count most cut)))))
      | inr before ↦ rw before (more_elements (element_then (bare (value_is value h.0 (λ most cut. (few most cut).0)))
          (elements_follow (suc place) rest (λ most cut. omega (arith, count most cut)) h.1
          (λ most cut. (few most cut).1))))
    ]

    entries_are : (label : Label) (place : ℕ) (members : Members) → HasKeys label
        → place + member_count members ≤ 2 ^ 64 → AreSmallParts members → IfCut (HaveFewMembers members)
        → InObject (written_members json style None (keys json label) place true members)
        (styled_entries style label place members)
    entries_are label place NoMembers named count h few = without_entries
    entries_are label place (AbsentThen rest) named count h few =
        entries_are label (suc place) rest named (omega (arith, count)) h few
    entries_are label place (MemberThen value rest) named count h few =
        with_entries (entry_then (entry_is (key_is (member_name label place) place (named place) (omega (arith, count)))
        (value_is value h.0 (λ most cut. (few most cut).0)))
        (entries_follow label (suc place) rest named (omega (arith, count)) h.1 (λ most cut. (few most cut).1)))

    entries_follow : (label : Label) (place : ℕ) (members : Members) → HasKeys label
        → place + member_count members ≤ 2 ^ 64 → AreSmallParts members → IfCut (HaveFewMembers members)
        → MoreEntries (written_members json style None (keys json label) place false members)
        (styled_entries style label place members)
    entries_follow label place NoMembers named count h few = no_entry
    entries_follow label place (AbsentThen rest) named count h few =
        entries_follow label (suc place) rest named (omega (arith, count)) h few
    entries_follow label place (MemberThen value rest) named count h few =
        more_entries (entry_then (entry_is (key_is (member_name label place) place (named place) (omega (arith, count)))
        (value_is value h.0 (λ most cut. (few most cut).0)))
        (entries_follow label (suc place) rest named (omega (arith, count)) h.1 (λ most cut. (few most cut).1)))

-- ---- arrays of chars

chars_small : (all : Members) → AreBytes (chars_in all)
chars_small NoMembers = tt
chars_small (AbsentThen rest) = (omega arith, chars_small rest)
chars_small (MemberThen value rest) = (omega arith, chars_small rest)

kept_small : (byte : ℕ) (bytes : List ℕ) → byte < 2 ^ 8 → AreBytes bytes → AreBytes (kept_before byte bytes)
kept_small byte [] small h = elim (cases_Bool (byte == 0)) [
  | inl hit ↦ rw hit tt
  | inr miss ↦ rw miss (small, tt)
]
kept_small byte (next ∷ rest) small h = (small, h)

trimmed_small : (bytes : List ℕ) → AreBytes bytes → AreBytes (trimmed bytes)
trimmed_small [] h = tt
trimmed_small (byte ∷ bytes) h = kept_small byte (trimmed bytes) h.0 (trimmed_small bytes h.1)

module _ (nodes : List Node) (chars : Option ℕ) where
  mutual
    small_seen : (of : Option ℕ) (value : Value) → HasSmallParts value → HasSmallParts (with_texts nodes chars of value)
    small_seen of (Mapped label start end all) h =
        elim (cases_Bool (has_chars chars (part_node nodes of label 0) label)) [
          | inl hit ↦ rw hit (trimmed_small (chars_in all) (chars_small all), tt)
          | inr miss ↦ rw miss (
            subst (IsSmallLabel label) (sym (parts_count nodes chars of label 0 all)) h.0,
            parts_small of label 0 all h.1,
          )
        ]

    parts_small : (of : Option ℕ) (label : Label) (place : ℕ) (all : Members) → AreSmallParts all →
        AreSmallParts (parts_with_texts nodes chars of label place all)
    parts_small of label place NoMembers h = tt
    parts_small of label place (AbsentThen rest) h = parts_small of label (suc place) rest h
    parts_small of label place (MemberThen value rest) h =
        (small_seen (part_node nodes of label place) value h.0, parts_small of label (suc place) rest h.1)

  mutual
    few_seen : (of : Option ℕ) (value : Value) → HasFewMembers value → HasFewMembers (with_texts nodes chars of value)
    few_seen of (Mapped label start end all) h =
        elim (cases_Bool (has_chars chars (part_node nodes of label 0) label)) [
          | inl hit ↦ rw hit (omega arith, tt)
          | inr miss ↦ rw miss
              (subst (λ n. n < 2 ^ 64) (sym (parts_count nodes chars of label 0 all)) h.0, parts_few of label 0 all h.1)
        ]

    parts_few : (of : Option ℕ) (label : Label) (place : ℕ) (all : Members) → HaveFewMembers all →
        HaveFewMembers (parts_with_texts nodes chars of label place all)
    parts_few of label place NoMembers h = tt
    parts_few of label place (AbsentThen rest) h = parts_few of label (suc place) rest h
    parts_few of label place (MemberThen value rest) h =
        (few_seen (part_node nodes of label place) value h.0, parts_few of label (suc place) rest h.1)

  small_as : (form : Chars) (of : Option ℕ) (value : Value) → HasSmallParts value →
      HasSmallParts (with_chars form nodes chars of value)
  small_as form.Numbers of value h = h
  small_as form.Text of value h = small_seen of value h

  few_as : (form : Chars) (of : Option ℕ) (value : Value) → HasFewMembers value →
      HasFewMembers (with_chars form nodes chars of value)
  few_as form.Numbers of value h = h
  few_as form.Text of value h = few_seen of value h

-- such a fact holds anyway if it holds without a limit
pub if_cut : (limit : Option ℕ) {fact : Type 0} → fact → IfSome limit (λ most. fact)
if_cut None h = tt
if_cut (Some most) h = h

few_if : {limit : Option ℕ} {fact : Type 0} → IfSome limit (λ most. fact) → (most : ℕ) → limit ≡ Some most → fact
few_if {limit} {fact} few most cut = rw cut at few

-- the text without the line feed at its end
pub json_text_reads : (nodes : List Node) (chars of : Option ℕ) (style : Style) (value : Value) → HasSmallParts value
    → IfSome style.elements (λ most. HasFewMembers value)
    → ReadsValue (written json style (with_chars style.chars nodes chars of value))
    (styled_json_of style (with_chars style.chars nodes chars of value))
json_text_reads nodes chars of style value small few =
    value_is style (with_chars style.chars nodes chars of value) (small_as nodes chars style.chars of value small)
    (λ most cut. few_as nodes chars style.chars of value (few_if few most cut))

pub json_reads_back : JsonReadsBack
json_reads_back nodes chars of style value small few =
    read no_blank (json_text_reads nodes chars of style value small few) (one_blank line_feed no_blank)

pub prints_json : PrintsJson
prints_json nodes chars of style value small few = (
  styled_json_of style (with_chars style.chars nodes chars of value),
  json_reads_back nodes chars of style value small few,
)
