use Rattle.jobs.specs.Explained.{AreUnfinished}
use Rattle.jobs.proofs.file_run.unfinished_lines.Given as goal

abbrev pub invariant-loop-place : goal.invariant-loop-place
invariant-loop-place l = AreUnfinished l.formats l.lines.items
