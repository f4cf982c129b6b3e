-- The default style.
use Rattle.std.specs.Prelude.{None}
use Rattle.text_output.specs.declared.style.Style.{Style}
use Rattle.text_output.specs.declared.style.Numbers.TheVariants.{Decimal}
use Rattle.text_output.specs.declared.style.Chars.TheVariants as chars

-- decimal numbers, `char` as any other number, and all elements
abbrev pub plain : Style
plain = record { numbers = Decimal; chars = chars.Numbers; elements = None }
