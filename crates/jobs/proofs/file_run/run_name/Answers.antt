use Rattle.jobs.specs.Every.{AppendsFile, every_of}
use Rattle.jobs.specs.Files.{RunsFile}
use Rattle.jobs.proofs.FilesWritten.{run_kept, run_unflushed}
use Rattle.run_parts.proofs.Sayings.{on_err}
use Rattle.jobs.proofs.file_run.run_name.Goals.{in-Ok+in_ok-status-in-Ok, in-Err+in_ok-status-in-Err}
use Rattle.jobs.specs.Asides.{Tells, TellsName}
use Rattle.jobs.proofs.Told.{kept_tells, tells_kept}
use Rattle.jobs.proofs.file_run.run_name.Goals as goal

pub returns-in_err-finish_file-clause-err : goal.returns-in_err-finish_file-clause-err
returns-in_err-finish_file-clause-err g c =
    let gives = g.P.Opener.gives c.args.opener.now in
    let every = every_of c.args.task in
    let written : AppendsFile gives every c.args.name.now (g.O.Write.contents c.args.out.now)
    (g.O.Write.contents c.match-open_named.out) c.match-open_named.status =
    elim c.match-open_named.branch [
      | in-Ok+in_ok-status-in-Ok w ↦ rw (w.status-is, w.out-is) w.in_ok-status-in-Ok.ensures.ok
      | in-Err+in_ok-status-in-Err w ↦ rw (w.status-is, w.out-is) w.in_ok-status-in-Err.ensures.ok
    ] in
    on_err c.from_residual-in_err-finish_file.result
    (run_unflushed (RunsFile gives every c.args.name.now) every c.args.name.now _ _ _ c.match-open_named.status written
    c.in_err-finish_file.ensures.out)

pub returns-clause-ok : goal.returns-clause-ok
returns-clause-ok g c =
    let gives = g.P.Opener.gives c.args.opener.now in
    let every = every_of c.args.task in
    let written : AppendsFile gives every c.args.name.now (g.O.Write.contents c.args.out.now)
    (g.O.Write.contents c.match-open_named.out) c.match-open_named.status =
    elim c.match-open_named.branch [
      | in-Ok+in_ok-status-in-Ok w ↦ rw (w.status-is, w.out-is) w.in_ok-status-in-Ok.ensures.ok
      | in-Err+in_ok-status-in-Err w ↦ rw (w.status-is, w.out-is) w.in_ok-status-in-Err.ensures.ok
    ] in
    run_kept (RunsFile gives every c.args.name.now) every c.args.name.now _ _ _ c.match-open_named.status written
    c.in_ok-finish_file.ensures.out

pub returns-in_err-status-in-Ok-clause-told : goal.returns-in_err-status-in-Ok-clause-told
returns-in_err-status-in-Ok-clause-told g c = kept_tells _ _ _ _ c.show.ensures c.run_opened.ensures.told

pub returns-in_err-status-in-Err-clause-told : goal.returns-in_err-status-in-Err-clause-told
returns-in_err-status-in-Err-clause-told g c = kept_tells _ _ _ _ c.show.ensures c.run_unopened.ensures.told

pub returns-in_err-finish_file-clause-told : goal.returns-in_err-finish_file-clause-told
returns-in_err-finish_file-clause-told g c =
    let gives = g.P.Opener.gives c.args.opener.now in
    let told : Tells (TellsName gives (every_of c.args.task) c.args.name.now) (g.A.Aside.told c.args.aside.now)
    (g.A.Aside.told c.match-open_named.aside) =
    elim c.match-open_named.branch [
      | in-Ok+in_ok-status-in-Ok w ↦ rw w.aside-is (kept_tells _ _ _ _ c.show.ensures w.run_opened.ensures.told)
      | in-Err+in_ok-status-in-Err w ↦ rw w.aside-is (kept_tells _ _ _ _ c.show.ensures w.run_unopened.ensures.told)
    ] in
    tells_kept _ _ _ _ told c.finish_file.ensures.told

pub returns-clause-told : goal.returns-clause-told
returns-clause-told g c =
    let gives = g.P.Opener.gives c.args.opener.now in
    let told : Tells (TellsName gives (every_of c.args.task) c.args.name.now) (g.A.Aside.told c.args.aside.now)
    (g.A.Aside.told c.match-open_named.aside) =
    elim c.match-open_named.branch [
      | in-Ok+in_ok-status-in-Ok w ↦ rw w.aside-is (kept_tells _ _ _ _ c.show.ensures w.run_opened.ensures.told)
      | in-Err+in_ok-status-in-Err w ↦ rw w.aside-is (kept_tells _ _ _ _ c.show.ensures w.run_unopened.ensures.told)
    ] in
    tells_kept _ _ _ _ told c.finish_file.ensures.told
