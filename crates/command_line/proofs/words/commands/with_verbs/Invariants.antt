use Rattle.std.proofs.Common.{◌≡◌, option_map, take}
use Rattle.clap.specs.Simple.{App}
use Rattle.command_line.specs.Commands.{IsApp, table_of, verb_names, with_commands}
use Rattle.command_line.specs.declared.words.parser.Ties.TheVariants.{Without}
use Rattle.command_line.proofs.words.commands.with_verbs.Given as goal

abbrev pub invariant-loop-verb : goal.invariant-loop-verb
invariant-loop-verb l = (app : App) → l.fn.ties ≡ Without → IsApp app l.initial.program
    → IsApp (with_commands app (verb_names (take l.verb-index l.verbs)) (option_map (λ name. name.now) l.fn.only)
    (table_of l.fn.table)) l.program
