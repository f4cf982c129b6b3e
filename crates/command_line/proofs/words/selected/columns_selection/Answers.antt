use Rattle.std.proofs.Common.{arith}
use Rattle.command_line.specs.Misread.{IsNoOnePath}
use Rattle.command_line.specs.Misread.MisreadColumns.{lone_wrong}
use Rattle.command_line.proofs.Misreads.{passed, word_at}
use Rattle.command_line.proofs.words.selected.columns_selection.Goals as goal

pub returns-in_err-lone_path-in-len1-Empty-clause-misread : goal.returns-in_err-lone_path-in-len1-Empty-clause-misread
returns-in_err-lone_path-in-len1-Empty-clause-misread c =
    passed _ _ _ _ _ _ c.from_residual-in_err-lone_path-in-len1-Empty.ensures.1
    (λ wrong. lone_wrong (word_at IsNoOnePath c.args.words.now 0 _ (omega arith) wrong))
    (λ never. never) c.in_err-lone_path-in-len1-Empty.ensures.misread
