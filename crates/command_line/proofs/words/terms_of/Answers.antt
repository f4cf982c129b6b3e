use Rattle.command_line.proofs.Misreads.{passed}
use Rattle.command_line.proofs.SelectedWords.{beside_wrong}
use Rattle.command_line.proofs.words.terms_of.Goals as goal

pub returns-in_err-part_beside-clause-misread : goal.returns-in_err-part_beside-clause-misread
returns-in_err-part_beside-clause-misread c =
    passed _ _ _ _ _ _ c.from_residual-in_err-part_beside.ensures.1
    (beside_wrong _ c.args.choice c.in_ok-selection.selection c.in_ok-selection.ensures.ok) (λ never. never)
    c.in_err-part_beside.ensures.misread
