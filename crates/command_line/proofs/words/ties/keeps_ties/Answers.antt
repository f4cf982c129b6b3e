use Rattle.std.proofs.Common.{◌∙◌}
use Rattle.clap.specs.Matches.{found_of}
use Rattle.command_line.proofs.Tied.{all_kept}
use Rattle.command_line.proofs.words.ties.keeps_ties.Goals as goal

pub returns : goal.returns
returns c =
    let table = c.arguments.result in
    c.keep_all_ties.ensures ∙ all_kept c.args.command.now (found_of c.args.found.now) table.mapping.now
    table.formats.now table.style.now table.others.now table.positionals.now c.arguments.ensures
