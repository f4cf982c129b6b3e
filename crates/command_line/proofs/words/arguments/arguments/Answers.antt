use Rattle.command_line.proofs.Declared.{is_table}
use Rattle.command_line.proofs.words.arguments.arguments.Goals as goal

pub returns : goal.returns
returns c = is_table _ _ _ _ _ c.mapping_options.ensures c.format_options.ensures c.style_options.ensures
    c.other_options.ensures c.positionals.ensures
