-- The bytes of a text.
use Rattle.std.specs.Prelude.{ℕ, List, take}
use Rattle.csv_text.specs.declared.text.Text.{Text}
use Rattle.csv_text.specs.SourceBytes.{source_bytes}

abbrev pub text_bytes : Text → List ℕ
text_bytes text = take text.len (source_bytes text.source)
