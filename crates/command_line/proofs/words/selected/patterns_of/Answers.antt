use Rattle.command_line.specs.Misread.{IsNoPattern}
use Rattle.command_line.proofs.Misreads.{passed, word_at}
use Rattle.command_line.proofs.SelectedWords.{patterns_step}
use Rattle.command_line.proofs.words.selected.patterns_of.Goals as goal

pub loop-word-preserved : goal.loop-word-preserved
loop-word-preserved c =
    patterns_step c.args.words.now c.loop-word.word-index _ c.loop-word.patterns.items c.push.new.self.items
    c.in_ok-pattern.pattern c.loop-word-test.true c.loop-word.invariant c.in_ok-pattern.ensures.ok c.in-Ok.ensures.items

pub returns-in_err-pattern-clause-misread : goal.returns-in_err-pattern-clause-misread
returns-in_err-pattern-clause-misread c = passed _ _ _ _ _ _ c.from_residual.ensures.1
    (word_at IsNoPattern c.args.words.now c.loop-word.word-index _ c.loop-word-test.true)
    (λ never. never) c.in_err-pattern.ensures.misread
