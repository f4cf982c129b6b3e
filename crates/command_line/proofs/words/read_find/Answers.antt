use Rattle.std.proofs.Common.{inl}
use Rattle.command_line.proofs.Misreads.{passed}
use Rattle.command_line.proofs.words.read_find.Goals as goal

pub returns-in_err-terms-clause-misread : goal.returns-in_err-terms-clause-misread
returns-in_err-terms-clause-misread c = passed _ _ _ _ _ _ c.from_residual-in_err-terms.ensures.1
    (λ wrong. inl wrong) (λ never. absurd never) c.in_err-terms.ensures.misread
