use Rattle.std.proofs.Common.{◌≢◌, [], rules}
use Rattle.jobs.specs.Asides.{all_lines, lack_memory}
use Rattle.jobs.proofs.Holding.{keeps_before}
use Rattle.jobs.proofs.file_run.tell_lines.Goals.{in-Ok, in-Err}
use Rattle.jobs.proofs.file_run.tell_lines.Goals as goal

pub returns-clause-told : goal.returns-clause-told
returns-clause-told g c =
    let some : c.args.lines.now ≢ [] = search rules in
    elim c.match-gather_reasons.branch [
      | in-Ok w ↦ rw w.aside-is (all_lines some (keeps_before _ _ _ _ c.clear.ensures
          (rw (w.deref.ensures.value, w.in-Ok.ensures, c.new-text.ensures.items) at w.tell.ensures)))
      | in-Err w ↦ rw w.aside-is (lack_memory some (keeps_before _ _ _ _ c.clear.ensures w.tell-in-Err.ensures))
    ]
