use Rattle.command_line.specs.Misread.{IsNoColumn}
use Rattle.command_line.proofs.Misreads.{passed, word_at}
use Rattle.command_line.proofs.SelectedWords.{columns_step}
use Rattle.command_line.proofs.words.selected.columns_of.Goals as goal

pub loop-word-preserved : goal.loop-word-preserved
loop-word-preserved c =
    columns_step c.args.words.now c.loop-word.word-index _ c.loop-word.columns.items c.push.new.self.items
    c.in_ok-column.column c.loop-word-test.true c.loop-word.invariant c.in_ok-column.ensures.ok c.in-Ok.ensures.items

pub returns-in_err-column-clause-misread : goal.returns-in_err-column-clause-misread
returns-in_err-column-clause-misread c = passed _ _ _ _ _ _ c.from_residual.ensures.1
    (word_at IsNoColumn c.args.words.now c.loop-word.word-index _ c.loop-word-test.true)
    (λ never. never) c.in_err-column.ensures.misread
