-- Computed integers and offsets, and the labels of their values.
use Rattle.std.specs.Prelude.{◌≡◌, ℕ, ◌<◌, ◌≤◌, ℤ, pos, Option, Some, None, Result, Ok, Err}
use Rattle.pickle_types.specs.Table.{IsWidth}
use Rattle.pickle_types.specs.Sound.{IsSmall}
use Rattle.pickle_meaning.specs.declared.faults.MapFaultKind.{MapFaultKind}
use Rattle.value_store.specs.declared.scalar.Scalar.{Scalar}
use Rattle.value_store.specs.declared.scalar.Scalar.TheVariants as scalar
use Rattle.pickle_meaning.specs.Values.{Value, label_of, Label, IntegerLabel, OffsetLabel, TextLabel, ArrayLabel, StructLabel, UnionLabel}
use Rattle.pickle_meaning.specs.Arithmetic.{Computed}

abbrev pub scalar_label : Scalar → Label
scalar_label (scalar.Integer number type) = IntegerLabel number type
scalar_label (scalar.Offset magnitude type unit) = OffsetLabel magnitude type unit

abbrev pub computed_of : Result Scalar MapFaultKind → Computed
computed_of (Ok s) = Ok (scalar_label s)
computed_of (Err kind) = Err kind

-- the type has a width and holds the number, and a unit is at least one bit
abbrev pub IsScalar : Scalar → Type 0
IsScalar (scalar.Integer number type) = IsWidth type × IsSmall type.signed number
IsScalar (scalar.Offset magnitude type unit) = IsWidth type × IsSmall type.signed magnitude × (1 ≤ unit)

-- a number to shift by, where it isn't negative and is less than a width
abbrev pub IsShift : (width : ℕ) → ℤ → Option ℕ → Type 0
IsShift width count (Some n) = (count ≡ pos n) × (n < width)
IsShift width count None = (n : ℕ) → count ≡ pos n → width ≤ n

-- the number of an integer or an offset
abbrev pub scalar_in : Label → Option Label
scalar_in (IntegerLabel number type) = Some (IntegerLabel number type)
scalar_in (OffsetLabel magnitude type unit) = Some (OffsetLabel magnitude type unit)
scalar_in (TextLabel bytes) = None
scalar_in ArrayLabel = None
scalar_in (StructLabel name fields) = None
scalar_in (UnionLabel name index alternative) = None

-- the same of a value that may be absent
abbrev pub scalar_if : Option Value → Option Label
scalar_if None = None
scalar_if (Some value) = scalar_in (label_of value)
