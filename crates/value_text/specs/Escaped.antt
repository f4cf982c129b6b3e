-- The escapes of strings, by language.
use Rattle.std.specs.Prelude.{ℕ, List}
use Rattle.value_text.specs.declared.print.escape.Escapes.{Escapes}
use Rattle.value_text.specs.declared.print.escape.Escapes.TheVariants.{Poke, Json}
use Rattle.value_text.specs.ValueText.{escape_text, spelled, string_text}
use Rattle.value_text.specs.JsonText.{json_escape, json_string}

abbrev pub escape_of : Escapes → ℕ → List ℕ
escape_of Poke = escape_text
escape_of Json = json_escape

abbrev pub spelled_by : Escapes → List ℕ → List ℕ
spelled_by escapes bytes = spelled (escape_of escapes) bytes

-- in double quotes
abbrev pub quoted_by : Escapes → List ℕ → List ℕ
quoted_by Poke bytes = string_text bytes
quoted_by Json bytes = json_string bytes
