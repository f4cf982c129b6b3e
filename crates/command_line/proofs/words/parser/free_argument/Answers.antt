use Rattle.command_line.proofs.words.parser.free_argument.Goals as goal

pub returns : goal.returns
returns c =
    let kind = c.with_kind-arg.ensures _ c.bare_argument.ensures in
    let letter = c.with_letter-arg.ensures _ kind in
    let default = c.with_default-arg.ensures _ letter in
    c.with_values.ensures _ default
