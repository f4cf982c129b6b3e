-- Values beside their types.
use Rattle.std.proofs.Common.{◌≡◌, ◌≢◌, ℕ, Option, Some, None, false, refl}
use Rattle.value_store.specs.declared.value.Kind.TheVariants as kind
use Rattle.pickle_meaning.specs.Values.{Label, IntegerLabel, OffsetLabel, TextLabel, ArrayLabel, StructLabel, UnionLabel}
use Rattle.value_store.specs.Labels.{kind_of}
use Rattle.value_text.specs.CharTexts.{is_node, has_chars}

-- only an array has chars
pub chars_of_array : (chars element : Option ℕ) (label : Label) → kind.Array ≡ kind_of label →
    has_chars chars element label ≡ is_node chars element
chars_of_array chars element (IntegerLabel number type) e = cc
chars_of_array chars element (OffsetLabel magnitude type unit) e = cc
chars_of_array chars element (TextLabel bytes) e = cc
chars_of_array chars element ArrayLabel e = refl
chars_of_array chars element (StructLabel name fields) e = cc
chars_of_array chars element (UnionLabel name index alternative) e = cc

pub chars_of_other : (chars element : Option ℕ) (label : Label) → kind_of label ≢ kind.Array →
    has_chars chars element label ≡ false
chars_of_other chars element (IntegerLabel number type) e = refl
chars_of_other chars element (OffsetLabel magnitude type unit) e = refl
chars_of_other chars element (TextLabel bytes) e = refl
chars_of_other chars element ArrayLabel e = absurd (e refl)
chars_of_other chars element (StructLabel name fields) e = refl
chars_of_other chars element (UnionLabel name index alternative) e = refl

-- without a node no array has chars
pub no_chars : (chars : Option ℕ) (label : Label) → has_chars chars None label ≡ false
no_chars None (IntegerLabel number type) = refl
no_chars None (OffsetLabel magnitude type unit) = refl
no_chars None (TextLabel bytes) = refl
no_chars None ArrayLabel = refl
no_chars None (StructLabel name fields) = refl
no_chars None (UnionLabel name index alternative) = refl
no_chars (Some node) (IntegerLabel number type) = refl
no_chars (Some node) (OffsetLabel magnitude type unit) = refl
no_chars (Some node) (TextLabel bytes) = refl
no_chars (Some node) ArrayLabel = refl
no_chars (Some node) (StructLabel name fields) = refl
no_chars (Some node) (UnionLabel name index alternative) = refl

pub ruleset chars_by_kind = (chars_of_array, chars_of_other)
