use Rattle.std.proofs.Common.{◌≡◌, take}
use Rattle.std.specs.Prelude.{string_bytes}
use Rattle.command_line.specs.WordText.{word_text}
use Rattle.command_line.proofs.words.shown.shown_word.Given as goal

abbrev pub invariant-loop-byte : goal.invariant-loop-byte
invariant-loop-byte l = string_bytes l.text ≡ word_text (take l.byte-index l.word)
