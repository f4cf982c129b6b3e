-- What matters to an operator about its operand.
use Rattle.std.specs.Prelude.{◌≡◌}
use Rattle.pickle_evaluation.specs.declared.content.Content.{Content}
use Rattle.pickle_evaluation.specs.declared.content.Content.TheVariants as content
use Rattle.pickle_meaning.specs.Values.{Label, IntegerLabel, OffsetLabel, TextLabel, ArrayLabel, StructLabel, UnionLabel}
use Rattle.value_store.specs.Scalars.{scalar_label, IsScalar}

-- an array, a struct or a union
abbrev pub IsMade : Label → Type 0
IsMade (IntegerLabel number type) = ⊥
IsMade (OffsetLabel magnitude type unit) = ⊥
IsMade (TextLabel bytes) = ⊥
IsMade ArrayLabel = Unit {0}
IsMade (StructLabel name fields) = Unit {0}
IsMade (UnionLabel name index alternative) = Unit {0}

abbrev pub IsHeld : Content → Label → Type 0
IsHeld (content.Scalar s) x = x ≡ scalar_label s
IsHeld (content.Text bytes) x = x ≡ TextLabel bytes.now
IsHeld content.Other x = IsMade x

abbrev pub IsSoundContent : Content → Type 0
IsSoundContent (content.Scalar s) = IsScalar s
IsSoundContent (content.Text bytes) = Unit {0}
IsSoundContent content.Other = Unit {0}
