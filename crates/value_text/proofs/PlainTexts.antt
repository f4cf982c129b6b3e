-- A value is printed without a style in the plain one.
use Rattle.std.proofs.Common.{◌≡◌, refl, ◌∙◌, ap}
use Rattle.text_output.specs.declared.mode.Mode.{Mode}
use Rattle.text_output.specs.declared.style.Style.{Style}
use Rattle.text_output.specs.Styles.{plain}
use Rattle.value_store.specs.declared.value.ValueRef.{ValueRef}
use Rattle.value_store.specs.Refs.{value_shown}
use Rattle.value_text.specs.declared.typed.Typed.{Typed}
use Rattle.value_text.specs.TypedValue.{value_in}
use Rattle.value_text.specs.Printed.{printed}
use Rattle.value_text.specs.Styled.{typed_printed}
use Rattle.value_text.specs.Laws.{PrintsPlain}

pub plain_typed : (style : Style) (typed : Typed) (value : ValueRef) (mode : Mode) → style ≡ plain →
    value_in typed ≡ value → typed_printed style mode typed ≡ printed mode (value_shown value)
plain_typed style typed value mode e is =
    ap (λ s. typed_printed s mode typed) e ∙ ap (λ v. printed mode (value_shown v)) is

pub prints_plain : PrintsPlain
prints_plain nodes chars of mode value = refl
