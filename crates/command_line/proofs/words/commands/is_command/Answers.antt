use Rattle.std.proofs.Common.{◌∙◌, ap}
use Rattle.std.specs.List.{list_any}
use Rattle.std.specs.Str.{bytes_eq}
use Rattle.clap.proofs.WalkLemmas.{list_any-map}
use Rattle.command_line.specs.declared.words.commands.Verb.{Verb}
use Rattle.command_line.proofs.words.commands.is_command.Goals as goal

pub returns : goal.returns
returns c =
    c.has_name.ensures
    ∙ list_any-map (λ name. bytes_eq name c.args.word.now) (λ (verb : Verb). verb.name.now) c.verbs.result.now
    ∙ ap (list_any (λ name. bytes_eq name c.args.word.now)) c.verbs.ensures
