use Rattle.std.proofs.Common.{ℕ, List, Option, map, option_map, string_bytes, refl}
use Rattle.std.specs.Borrow.{Bor}
use Rattle.clap.specs.Walk.{Text}
use Rattle.command_line.specs.Commands.{EntersCommand}
use Rattle.command_line.proofs.OneCommand.{is_some_of}
use Rattle.command_line.proofs.Parsed.{finds, fails}
use Rattle.command_line.proofs.words.matches_of.Goals as goal

pub returns : goal.returns
returns c =
    let is = c.in_ok-program.ensures refl in
    let parse = c.try_get_matches_from in
    let line : List Text = map string_bytes c.args.line.now in
    let only : Option Text = option_map (λ (name : Bor (List ℕ)). name.now) c.command_in.result in
    let enters = is_some_of (λ (name : Bor (List ℕ)). name.now) (EntersCommand line) c.command_in.result
    c.command_in.ensures in
    record {
      finds = finds parse.result _ only _ _ c.arguments.ensures enters is parse.ensures.matches parse.ensures.kinds;
      fails = fails parse.result _ only _ _ c.arguments.ensures enters is parse.ensures.kinds;
    }
