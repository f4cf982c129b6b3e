-- The texts of rows of integers.
use Rattle.std.proofs.Common.{◌≡◌, ℕ, suc, ℤ, ◌+◌, ◌<◌, List, [], ◌∷◌, ◌++◌, length, drop, get_or, decimal, Option, Bool, true, false, refl, sym, ap, ◌∙◌, arith}
use Rattle.std.specs.Fmt.{signed_decimal}
use Rattle.std.proofs.lemmas.List.{drop_more}
use Rattle.pickle_types.specs.declared.integer.IntegerType.{IntegerType}
use Rattle.text_output.specs.declared.style.Numbers.{Numbers}
use Rattle.text_output.specs.declared.style.Numbers.TheVariants.{Decimal}
use Rattle.text_output.specs.declared.style.Style.{Style}
use Rattle.pickle_meaning.specs.Arithmetic.{with_sign}
use Rattle.pickle_meaning.specs.Values.{Value, Mapped, IntegerLabel, OffsetLabel, TextLabel, ArrayLabel, StructLabel, UnionLabel, label_of, start_of, members_of, member_count}
use Rattle.value_store.specs.Labels.{number_of}
use Rattle.value_store.specs.Integers.{IsIntegerOf, AreBytesOf, byte_members}
use Rattle.value_text.specs.ValueText.{comma, integer_text}
use Rattle.value_text.specs.StyledNumbers.{integer_in, json_number}
use Rattle.value_text.specs.Notation.{Notation, no_key}
use Rattle.value_text.specs.StyledValue.{written_members}
use Rattle.value_text.specs.CutArrays.{is_past, is_cut}
use Rattle.value_text.specs.PartText.{type_of, element_text, integer_element, elements_text, byte_type, flat_byte, byte_text, row_text}
use Rattle.value_text.proofs.Cuts.{whole_before}

-- an integer as an element
pub integer_is : (notation : Notation) (style : Style) (first : Bool) (v : Value) (type : IntegerType)
    → IsIntegerOf type v
    → element_text notation style first v
    ≡ integer_element notation style.numbers first type (number_of (label_of v))
integer_is notation style first (Mapped (IntegerLabel n t) s e m) type is =
    ap (λ label. comma first ++ notation.integer style.numbers (type_of label) n) is
integer_is notation style first (Mapped (OffsetLabel n t u) s e m) type is = cc
integer_is notation style first (Mapped (TextLabel bytes) s e m) type is = cc
integer_is notation style first (Mapped ArrayLabel s e m) type is = cc
integer_is notation style first (Mapped (StructLabel name fields) s e m) type is = cc
integer_is notation style first (Mapped (UnionLabel name index alternative) s e m) type is = cc

bytes_count : (type : IntegerType) (start : ℕ) (bytes : List ℕ) →
    member_count (byte_members type start bytes) ≡ length bytes
bytes_count type start [] = refl
bytes_count type start (byte ∷ bytes) = omega (arith, bytes_count type (start + type.width) bytes)

-- integers of a byte each as elements, of which none is left out
bytes_text : (notation : Notation) (style : Style) (limit : Option ℕ) (type : IntegerType) (first : Bool)
    (place start : ℕ) (bytes : List ℕ) → is_cut limit (place + length bytes) ≡ false
    → written_members notation style limit no_key place first (byte_members type start bytes)
    ≡ row_text (byte_text notation style.numbers type) first bytes
bytes_text notation style limit type first place start [] whole = refl
bytes_text notation style limit type first place start (byte ∷ bytes) whole =
    let before : is_past limit place ≡ false =
    whole_before limit (place + suc (length bytes)) place whole (omega arith) in
    let on : place + suc (length bytes) ≡ suc place + length bytes = omega arith in
    rw before (ap (λ text. (comma first ++ notation.integer style.numbers type (with_sign type byte)) ++ text)
    (bytes_text notation style limit type false (suc place) (start + type.width) bytes (rw on at whole)))

pub byte_row : (notation : Notation) (style : Style) (type : IntegerType) (bytes : List ℕ) (value : Value)
    → AreBytesOf type bytes value → is_cut style.elements (member_count (members_of value)) ≡ false
    → row_text (byte_text notation style.numbers type) true bytes ≡ elements_text notation style value
byte_row notation style type bytes value are whole =
    let here : length bytes ≡ 0 + length bytes = omega arith in
    let count : member_count (members_of value) ≡ 0 + length bytes =
    ap member_count are.members ∙ bytes_count type (start_of value) bytes ∙ here in
    sym (ap (λ all. written_members notation style style.elements no_key 0 true all) are.members
    ∙ bytes_text notation style style.elements type true 0 (start_of value) bytes (rw count at whole))

-- a row from one on
pub row_first : (item : ℕ → List ℕ) (bytes : List ℕ) (first : Bool) (i : ℕ) → i < length bytes
    → row_text item first (drop i bytes)
    ≡ (comma first ++ item (get_or bytes i 0)) ++ row_text item false (drop (i + 1) bytes)
row_first item bytes first i lt = ap (λ bytes. row_text item first bytes) (drop_more bytes i 0 lt)

-- rows of the same items
pub row_same : (item other : ℕ → List ℕ) (first : Bool) (bytes : List ℕ) → ((byte : ℕ) → item byte ≡ other byte) →
    row_text item first bytes ≡ row_text other first bytes
row_same item other first [] same = refl
row_same item other first (byte ∷ bytes) same =
    ap (λ s. (comma first ++ s) ++ row_text item false bytes) (same byte)
    ∙ ap (λ s. (comma first ++ other byte) ++ s) (row_same item other false bytes same)

-- most bytes
pub flat_plain : (byte : ℕ) → integer_in Decimal byte_type (with_sign byte_type byte) ≡ flat_byte byte
unfolding with_sign integer_text
flat_plain byte = refl

-- unsigned bytes in decimal digits
pub json_plain : (numbers : Numbers) (type : IntegerType) (byte : ℕ) → type.signed ≡ false
    → ((n : ℤ) → json_number numbers n ≡ signed_decimal n)
    → json_number numbers (with_sign type byte) ≡ decimal byte
unfolding with_sign
json_plain numbers type byte unsigned digits = digits (with_sign type byte) ∙ rw unsigned refl
