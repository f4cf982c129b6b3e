-- JSON with each double quote twice.
use Rattle.std.proofs.Common.{◌≡◌, ℕ, suc, ℤ, Bool, true, false, List, [], ◌∷◌, ◌++◌, Option, None, inl, inr, refl, sym, ◌∙◌, ap}
use Rattle.std.specs.Prelude.{decimal, codes}
use Rattle.std.specs.Fmt.{signed_decimal}
use Rattle.std.proofs.lemmas.Bool.{cases_Bool}
use Rattle.std.proofs.lemmas.List.{append_assoc}
use Rattle.pickle_meaning.specs.Values.{IntegerLabel, OffsetLabel, TextLabel, ArrayLabel, StructLabel, UnionLabel, Value, Mapped, Members, NoMembers, MemberThen, AbsentThen, member_count}
use Rattle.text_output.specs.declared.style.Style.{Style}
use Rattle.value_text.specs.ValueText.{comma}
use Rattle.value_text.specs.Notation.{json, keys, no_key}
use Rattle.value_text.specs.StyledValue.{written, written_members}
use Rattle.value_text.specs.CutArrays.{is_past}
use Rattle.csv_text.specs.Quotes.{doubled_byte, doubled}
use Rattle.csv_text.specs.DoubledJson.{doubled_json}
use Rattle.std.proofs.Common.{pos, subst}
use Rattle.text_output.specs.declared.style.Numbers.{Numbers}
use Rattle.value_text.specs.JsonText.{json_escape, json_string}
use Rattle.value_text.specs.Puts.{Puts}
use Rattle.value_text.specs.StyledNumbers.{signed_hex, quoted_hex, json_number, json_offset_in}
use Rattle.value_text.specs.ValueText.{spelled}
use Rattle.value_text.specs.declared.print.printer.Printer.{Printer}
use Rattle.csv_text.specs.Quotes.{in_quotes}
use Rattle.csv_text.specs.DoubledJson.{name_start, place_start}
use Rattle.csv_text.proofs.Plain.{doubled_plain, needs_special, decimal_plain, hex_plain}

pub doubled_append : (xs ys : List ℕ) → doubled (xs ++ ys) ≡ doubled xs ++ doubled ys
doubled_append [] ys = refl
doubled_append (x ∷ xs) ys =
    ap (λ s. doubled_byte x ++ s) (doubled_append xs ys) ∙ sym (append_assoc (doubled_byte x) (doubled xs) (doubled ys))

pub decimal_doubled : (z : ℤ) → signed_decimal z ≡ doubled (signed_decimal z)
decimal_doubled z = sym (doubled_plain (signed_decimal z) (needs_special (signed_decimal z) (decimal_plain z)))

comma_doubled : (first : Bool) → doubled (comma first) ≡ comma first
comma_doubled true = refl
comma_doubled false = refl

left_is : (first : Bool) (left : ℕ) → comma first ++ doubled_json.more left ≡ doubled (comma first ++ json.more left)
left_is true left = refl
left_is false left = refl

member_is : (comma key key' text text' more more' : List ℕ) → doubled comma ≡ comma → key ≡ doubled key'
    → text ≡ doubled text' → more ≡ doubled more'
    → (comma ++ (key ++ text)) ++ more ≡ doubled ((comma ++ (key' ++ text')) ++ more')
member_is comma key key' text text' more more' a b c d =
    rw (b, c, d) (sym (doubled_append (comma ++ (key' ++ text')) more'
    ∙ ap (λ s. s ++ doubled more') (doubled_append comma (key' ++ text')
    ∙ ap (λ s. doubled comma ++ s) (doubled_append key' text')
    ∙ ap (λ s. s ++ (doubled key' ++ doubled text')) a)))

module _ (style : Style) where
  mutual
    written_is : (value : Value) → written doubled_json style value ≡ doubled (written json style value)
    written_is (Mapped (IntegerLabel number type) start end all) = refl
    written_is (Mapped (OffsetLabel magnitude type unit) start end all) = refl
    written_is (Mapped (TextLabel bytes) start end all) = refl
    written_is (Mapped ArrayLabel start end all) =
        ap (λ s. codes "[" ++ (s ++ codes "]")) (members_are style.elements no_key no_key (λ i. refl) 0 true all)
        ∙ ap (λ s. codes "[" ++ s)
        (sym (doubled_append (written_members json style style.elements no_key 0 true all) (codes "]")))
    written_is (Mapped (StructLabel name fields) start end all) =
        ap (λ s. codes "{" ++ (s ++ codes "}"))
        (members_are None (keys doubled_json (StructLabel name fields))
        (keys json (StructLabel name fields)) (λ i. refl)
        0 true all)
        ∙ ap (λ s. codes "{" ++ s) (sym (doubled_append
        (written_members json style None (keys json (StructLabel name fields)) 0 true all) (codes "}")))
    written_is (Mapped (UnionLabel name index alternative) start end all) =
        ap (λ s. codes "{" ++ (s ++ codes "}"))
        (members_are None (keys doubled_json (UnionLabel name index alternative))
        (keys json (UnionLabel name index alternative)) (λ i. refl) 0 true all)
        ∙ ap (λ s. codes "{" ++ s) (sym (doubled_append
        (written_members json style None (keys json (UnionLabel name index alternative)) 0 true all) (codes "}")))

    members_are : (limit : Option ℕ) (before of : (place : ℕ) → List ℕ)
        → ((place : ℕ) → before place ≡ doubled (of place)) → (place : ℕ) (first : Bool) (all : Members)
        → written_members doubled_json style limit before place first all
        ≡ doubled (written_members json style limit of place first all)
    members_are limit before of same place first NoMembers = refl
    members_are limit before of same place first (AbsentThen rest) = elim (cases_Bool (is_past limit place)) [
      | inl past ↦ rw past (left_is first (suc (member_count rest)))
      | inr kept ↦ rw kept (members_are limit before of same (suc place) first rest)
    ]
    members_are limit before of same place first (MemberThen value rest) = elim (cases_Bool (is_past limit place)) [
      | inl past ↦ rw past (left_is first (suc (member_count rest)))
      | inr kept ↦ rw kept (member_is (comma first) (before place) (of place)
          (written doubled_json style value) (written json style value)
          (written_members doubled_json style limit before (suc place) false rest)
          (written_members json style limit of (suc place) false rest) (comma_doubled first) (same place)
          (written_is value) (members_are limit before of same (suc place) false rest))
    ]

pub written_doubled : (style : Style) (value : Value) →
    written doubled_json style value ≡ doubled (written json style value)
written_doubled style value = written_is style value

-- ---- what is put, in parts

pub puts_as : {W : Type 0} {contents : W → Option (List ℕ)} {a b : Printer W} {x y : List ℕ} → x ≡ y →
    Puts contents a b x → Puts contents a b y
puts_as {W} {contents} {a} {b} {x} {y} e h = subst (Puts contents a b) e h

hex_doubled : (z : ℤ) → signed_hex z ≡ doubled (signed_hex z)
hex_doubled z = sym (doubled_plain (signed_hex z) (needs_special (signed_hex z) (hex_plain z)))

pub quoted_hex_is : (z : ℤ) → codes "\"\"" ++ (signed_hex z ++ codes "\"\"") ≡ doubled (quoted_hex z)
unfolding quoted_hex
quoted_hex_is z = ap (λ s. codes "\"\"" ++ s)
    (ap (λ s. s ++ codes "\"\"") (hex_doubled z) ∙ sym (doubled_append (signed_hex z) (codes "\"")))

pub offset_is : (numbers : Numbers) (magnitude : ℤ) (unit : ℕ)
    → codes "{\"\"magnitude\"\":" ++ (doubled (json_number numbers magnitude)
    ++ (codes ",\"\"unit\"\":" ++ (decimal unit ++ codes "}")))
    ≡ doubled (json_offset_in numbers magnitude unit)
unfolding json_offset_in
offset_is numbers magnitude unit =
    ap (λ s. codes "{\"\"magnitude\"\":" ++ (doubled (json_number numbers magnitude) ++ (codes ",\"\"unit\"\":" ++ s)))
    (ap (λ s. s ++ codes "}") (decimal_doubled (pos unit)) ∙ sym (doubled_append (decimal unit) (codes "}")))
    ∙ ap (λ s. codes "{\"\"magnitude\"\":" ++ s)
    (sym (doubled_append (json_number numbers magnitude) (codes ",\"unit\":" ++ (decimal unit ++ codes "}"))))

pub more_is : (left : ℕ) → codes "{\"\"..\"\":" ++ (decimal left ++ codes "}") ≡ doubled (json.more left)
more_is left = ap (λ s. codes "{\"\"..\"\":" ++ s)
    (ap (λ s. s ++ codes "}") (decimal_doubled (pos left)) ∙ sym (doubled_append (decimal left) (codes "}")))

pub name_is : (first : Bool) (name : List ℕ) →
    comma first ++ (doubled (json_string name) ++ codes ":") ≡ name_start first name
name_is first name = ap (λ s. comma first ++ s) (sym (doubled_append (json_string name) (codes ":")))

pub place_is : (first : Bool) (place : ℕ) →
    comma first ++ (codes "\"\"" ++ (decimal place ++ codes "\"\":")) ≡ place_start first place
place_is first place = ap (λ s. comma first ++ (codes "\"\"" ++ s))
    (ap (λ s. s ++ codes "\"\":") (decimal_doubled (pos place)) ∙ sym (doubled_append (decimal place) (codes "\":"))
    ∙ ap doubled (sym (append_assoc (decimal place) (codes "\"") (codes ":"))))

pub string_is : (bytes : List ℕ) →
    codes "\"\"" ++ (doubled (spelled json_escape bytes) ++ codes "\"\"") ≡ doubled (json_string bytes)
unfolding json_string
string_is bytes = ap (λ s. codes "\"\"" ++ s) (sym (doubled_append (spelled json_escape bytes) (codes "\"")))

pub json_is : (style : Style) (value : Value) →
    codes "\"" ++ (written doubled_json style value ++ codes "\"") ≡ in_quotes (written json style value)
json_is style value = ap (λ s. codes "\"" ++ (s ++ codes "\"")) (written_doubled style value)
