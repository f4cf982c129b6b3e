use Rattle.std.proofs.Common.{rules, ◌≡◌, None}
use Rattle.clap.specs.Matches.{found_of, first_value}
use Rattle.command_line.proofs.words.bytes.bytes_in.Goals as goal

pub returns-in-None-clause-refused : goal.returns-in-None-clause-refused
returns-in-None-clause-refused c =
    let given : first_value (found_of c.args.found.now) c.args.plain.now ≡ None = search rules in
    rw given (rw c.word.ensures at c.bytes_of.ensures.refused)
