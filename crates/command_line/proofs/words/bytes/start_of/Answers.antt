use Rattle.std.proofs.Common.{rules, ◌≡◌, None, codes}
use Rattle.clap.specs.Matches.{found_of, first_value}
use Rattle.command_line.specs.Found.{word_in}
use Rattle.command_line.specs.OffsetWord.{IsNoOffset}
use Rattle.command_line.proofs.words.bytes.start_of.Goals as goal

pub returns-in_err-bits_of-in-None-clause-refused : goal.returns-in_err-bits_of-in-None-clause-refused
returns-in_err-bits_of-in-None-clause-refused c =
    let given : first_value (found_of c.args.found.now) (codes "byte") ≡ None = search rules in
    let none : IsNoOffset (word_in (found_of c.args.found.now) (codes "at")) =
    rw c.word.ensures at c.in_err-bits_of-in-None.ensures.refused in
    rw given (search rules)
