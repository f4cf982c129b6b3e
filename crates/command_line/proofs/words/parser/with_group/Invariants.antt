use Rattle.std.proofs.Common.{◌≡◌, take}
use Rattle.clap.specs.Simple.{App}
use Rattle.command_line.specs.Commands.{IsApp, rules_of, with_rules}
use Rattle.command_line.specs.declared.words.parser.Ties.TheVariants.{Without}
use Rattle.command_line.proofs.words.parser.with_group.Given as goal

abbrev pub invariant-loop-row : goal.invariant-loop-row
invariant-loop-row l = (app : App) → l.fn.ties ≡ Without → IsApp app l.initial.command
    → IsApp (with_rules app (rules_of l.fn.name (take l.row-index l.group))) l.command
