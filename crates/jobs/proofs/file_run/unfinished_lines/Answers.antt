use Rattle.std.proofs.Common.{refl}
use Rattle.std.proofs.lemmas.Option.{slice_get_read}
use Rattle.jobs.specs.Explained.{none_unfinished, one_unfinished}
use Rattle.jobs.proofs.file_run.unfinished_lines.Goals.{in-Some+in-Ok, in_default}
use Rattle.jobs.proofs.file_run.unfinished_lines.Goals as goal

pub loop-place-init : goal.loop-place-init
loop-place-init c = rw c.new-lines.ensures.items none_unfinished

pub returns-in-Err : goal.returns-in-Err
returns-in-Err c = rw c.new.ensures.items none_unfinished

pub loop-place-preserved : goal.loop-place-preserved
loop-place-preserved c =
    elim c.match-get.branch [
      | in-Some+in-Ok w ↦ rw (w.lines-is, w.in-Ok.ensures, w.deref-in-Some.ensures.value)
          (one_unfinished {format = w.in-Some.format.now} _ c.loop-place.invariant
          (slice_get_read c.args.formats.now.list.items _ _ _ refl
          (rw c.deref.ensures.value at w.in-Some.ensures.lookup.3.0)
          (rw c.deref.ensures.value at w.in-Some.ensures.lookup.1)))
      | in_default w ↦ rw w.lines-is c.loop-place.invariant
    ]
