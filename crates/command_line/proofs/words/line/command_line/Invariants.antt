use Rattle.std.proofs.Common.{◌≡◌, ◌∷◌, ◌++◌, map, drop, string_bytes, codes}
use Rattle.command_line.specs.Lines.{spelled_words}
use Rattle.command_line.specs.declared.words.line.WordPlace.TheVariants.{Options}
use Rattle.command_line.proofs.words.line.command_line.Given as goal

abbrev pub invariant-loop-word : goal.invariant-loop-word
invariant-loop-word l =
    map string_bytes l.line.items ++ spelled_words l.place (map string_bytes (drop l.word-index l.words))
    ≡ codes "poke_batch" ∷ spelled_words Options (map string_bytes l.words)
