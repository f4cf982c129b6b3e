-- Parts of the printed value, by the names and values that are borrowed.
use denote.Bor.{Bor}
use Rattle.std.specs.Prelude.{ℕ, Bool, List, Option}
use Rattle.std.specs.Option.{option_map}
use Rattle.text_output.specs.declared.style.Style.{Style}
use Rattle.pickle_meaning.specs.Values.{Naming, label_of}
use Rattle.value_text.specs.declared.typed.Typed.{Typed}
use Rattle.value_text.specs.TypedValue.{typed_shown}
use Rattle.value_text.specs.LineText.{start_text, part_text}
use Rattle.text_output.specs.declared.style.Numbers.{Numbers}
use Rattle.value_store.specs.declared.scalar.Scalar.{Scalar}
use Rattle.value_text.specs.Notation.{Notation}
use Rattle.value_text.specs.PartText.{key_text_at, number_field, field_text}
use Rattle.value_text.specs.TreeText.{prefix_text}

abbrev pub lent_name : Option (Bor (List ℕ)) → Naming
lent_name name = option_map (λ letters. letters.now) name

-- what is before the part at a place of a value
abbrev pub lent_prefix : Typed → (place : ℕ) → List ℕ
lent_prefix value place = prefix_text (label_of (typed_shown value)) place

-- the same on a separate line
abbrev pub lent_start : (level : ℕ) → Typed → (place : ℕ) → List ℕ
lent_start level value place = start_text level (label_of (typed_shown value)) place

-- the lines of the part at a place of a value
abbrev pub lent_part : Style → (level : ℕ) → Typed → (place : ℕ) → Typed → List ℕ
lent_part style level value place part = part_text style level (label_of (typed_shown value)) place (typed_shown part)

module _ (notation : Notation) where
  -- what is before the field at a place, or before an alternative
  abbrev pub lent_key : (first : Bool) → Option (Bor (List ℕ)) → (place : ℕ) → List ℕ
  lent_key first name place = key_text_at notation first (lent_name name) place

  -- a field or an alternative that is an integer or an offset, and any other one
  abbrev pub lent_number : Numbers → (first : Bool) → Option (Bor (List ℕ)) → (place : ℕ) → Scalar → List ℕ
  lent_number numbers first name place number = number_field notation numbers first (lent_name name) place number

  abbrev pub lent_field : Style → (first : Bool) → Option (Bor (List ℕ)) → (place : ℕ) → Typed → List ℕ
  lent_field style first name place field =
      field_text notation style first (lent_name name) place (typed_shown field)
