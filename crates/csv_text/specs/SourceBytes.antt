-- The bytes that a source has.
use Rattle.std.specs.Prelude.{ℕ, List}
use Rattle.pickle_meaning.specs.Values.{members_of}
use Rattle.value_store.specs.Owners.{owner_of}
use Rattle.value_store.specs.Refs.{value_shown}
use Rattle.value_text.specs.CharTexts.{chars_in}
use Rattle.csv_text.specs.declared.source.Source.{Source}
use Rattle.csv_text.specs.declared.source.Source.TheVariants.{Bytes, Chars}

abbrev pub source_bytes : Source → List ℕ
source_bytes (Bytes bytes) = bytes.now
source_bytes (Chars elements) = chars_in (members_of (value_shown (owner_of elements)))
