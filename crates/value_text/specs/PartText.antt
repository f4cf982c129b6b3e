-- The printed value in the parts that are written one after the other.
use Rattle.std.specs.Prelude.{ℕ, ℤ, Bool, true, false, List, [], ◌∷◌, ◌++◌, None, codes, decimal}
use Rattle.pickle_types.specs.declared.integer.IntegerType.{IntegerType}
use Rattle.text_output.specs.declared.style.Numbers.{Numbers}
use Rattle.text_output.specs.declared.style.Style.{Style}
use Rattle.pickle_meaning.specs.Arithmetic.{with_sign}
use Rattle.pickle_meaning.specs.Values.{Naming, Label, Value, label_of, members_of}
use Rattle.value_store.specs.Labels.{name_of, width_of, signed_of}
use Rattle.value_store.specs.declared.scalar.Scalar.{Scalar}
use Rattle.value_store.specs.declared.scalar.Scalar.TheVariants as scalar
use Rattle.value_text.specs.ValueText.{comma}
use Rattle.value_text.specs.Notation.{Notation, keys, no_key}
use Rattle.value_text.specs.StyledValue.{written, written_members}

-- the type of an integer, or of an offset's magnitude
abbrev pub type_of : Label → IntegerType
type_of label = record { width = width_of label; signed = signed_of label }

-- the type of most bytes
abbrev pub byte_type : IntegerType
byte_type = record { width = 8; signed = false }

-- a byte of this type
abbrev pub flat_byte : ℕ → List ℕ
flat_byte byte = decimal byte ++ codes "UB"

-- an item for each byte
abbrev pub row_text : (item : (byte : ℕ) → List ℕ) (first : Bool) → List ℕ → List ℕ
row_text item first [] = []
row_text item first (byte ∷ bytes) = (comma first ++ item byte) ++ row_text item false bytes

module _ (notation : Notation) where
  -- an integer or an offset
  abbrev pub scalar_text : Numbers → Scalar → List ℕ
  scalar_text numbers (scalar.Integer number type) = notation.integer numbers type number
  scalar_text numbers (scalar.Offset magnitude type unit) = notation.offset numbers type unit magnitude

  -- an element that is an integer of a type
  abbrev pub integer_element : Numbers → (first : Bool) → IntegerType → ℤ → List ℕ
  integer_element numbers first type number = comma first ++ notation.integer numbers type number

  -- an element that is an integer or an offset
  abbrev pub number_element : Numbers → (first : Bool) → Scalar → List ℕ
  number_element numbers first number = comma first ++ scalar_text numbers number

  -- what is before the field at a place, or before an alternative
  abbrev pub key_text_at : (first : Bool) → Naming → (place : ℕ) → List ℕ
  key_text_at first name place = comma first ++ notation.key name place

  -- a field or an alternative that is an integer or an offset
  abbrev pub number_field : Numbers → (first : Bool) → Naming → (place : ℕ) → Scalar → List ℕ
  number_field numbers first name place number = key_text_at first name place ++ scalar_text numbers number

  -- how many elements are left out, after other elements
  abbrev pub more_element : (first : Bool) → (left : ℕ) → List ℕ
  more_element first = λ left. comma first ++ notation.more left

  -- an integer of a type whose bits are a byte
  abbrev pub byte_text : Numbers → IntegerType → (byte : ℕ) → List ℕ
  byte_text numbers type = λ byte. notation.integer numbers type (with_sign type byte)

module _ (notation : Notation) (style : Style) where
  abbrev pub elements_text : Value → List ℕ
  elements_text value = written_members notation style style.elements no_key 0 true (members_of value)

  abbrev pub array_text : Value → List ℕ
  array_text value = codes "[" ++ (elements_text value ++ codes "]")

  -- an element with what is before it
  abbrev pub element_text : (first : Bool) → Value → List ℕ
  element_text first value = comma first ++ written notation style value

  -- all fields of a struct, or the alternative of a union
  abbrev pub fields_text : Value → List ℕ
  fields_text value = written_members notation style None (keys notation (label_of value)) 0 true (members_of value)

  -- a struct or a union
  abbrev pub titled_text : (sort : List ℕ) → Value → List ℕ
  titled_text sort value =
      notation.title sort (name_of (label_of value)) ++ (notation.opens ++ (fields_text value ++ codes "}"))

  -- a field with what is before it
  abbrev pub field_text : (first : Bool) → Naming → (place : ℕ) → Value → List ℕ
  field_text first name place value = key_text_at notation first name place ++ written notation style value
