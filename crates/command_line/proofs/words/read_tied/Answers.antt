use Rattle.std.proofs.Common.{rules, ◌≡◌, true, inr}
use Rattle.clap.specs.Matches.{found_of}
use Rattle.command_line.specs.Ties.{keeps_ties}
use Rattle.command_line.proofs.Misreads.{fails_more}
use Rattle.command_line.proofs.words.read_tied.Goals as goal

pub returns-clause-misread : goal.returns-clause-misread
returns-clause-misread c =
    let kept : keeps_ties c.args.command.now (found_of c.args.found.now) ≡ true = search rules in
    fails_more c.read_found.result _ _ _ _ (λ wrong. inr (kept, wrong)) (λ wrong. (kept, wrong))
    c.read_found.ensures.misread
