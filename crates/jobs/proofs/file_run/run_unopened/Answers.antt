use Rattle.std.proofs.Common.{[], Err, Ok}
use Rattle.jobs.specs.Every.{every_of}
use Rattle.jobs.specs.Files.{RunsFile}
use Rattle.jobs.proofs.FilesWritten.{fails_run, run_kept, run_unflushed, text_cut, text_written}
use Rattle.run_parts.proofs.Sayings.{on_err}
use Rattle.run_parts.specs.declared.outcome.Outcome.TheVariants as outcome
use Rattle.std.proofs.KnownBytes.{Keeps-refl}
use Rattle.jobs.specs.Asides.{ExplainsName, none_told, unopened_name}
use Rattle.jobs.proofs.Told.{form_tells, unopened_explains}
use Rattle.jobs.proofs.file_run.run_unopened.Goals as goal

pub returns-in_err-status-clause-err : goal.returns-in_err-status-clause-err
returns-in_err-status-clause-err g c =
    let every = every_of c.args.task in
    on_err c.from_residual.result
    (text_cut {T = Unit {0}} (RunsFile (g.P.Opener.gives c.args.opener.now) every c.args.name.now) every
    c.args.name.now (outcome.Failed c.failure.result) [] c.lines.result.now (Err c.in_err-status.field-0) _ _
    (λ e. rw c.lines.ensures (c.unopened_lines-lines.ensures.quiet e))
    (rw c.failure.ensures
    (fails_run (g.P.Opener.gives c.args.opener.now) every c.args.name.now c.args.fault c.requires.fails))
    c.in_err-status.ensures.err)

pub returns-in_err-tell_reasons-clause-err : goal.returns-in_err-tell_reasons-clause-err
returns-in_err-tell_reasons-clause-err g c =
    let every = every_of c.args.task in
    let Runs = RunsFile (g.P.Opener.gives c.args.opener.now) every c.args.name.now in
    on_err c.from_residual-in_err-tell_reasons.result
    (run_unflushed Runs every c.args.name.now _ _ _ c.in_ok-status.status
    (text_written {E = Unit {0}} Runs every c.args.name.now (outcome.Failed c.failure.result) []
    c.lines.result.now (Ok c.in_ok-status.status) _ _
    (λ e. rw c.lines.ensures (c.unopened_lines-lines.ensures.quiet e))
    (rw c.failure.ensures
    (fails_run (g.P.Opener.gives c.args.opener.now) every c.args.name.now c.args.fault c.requires.fails))
    c.in_ok-status.ensures.status c.in_ok-status.ensures.ok)
    c.in_err-tell_reasons.ensures.out)

pub returns-clause-ok : goal.returns-clause-ok
returns-clause-ok g c =
    let every = every_of c.args.task in
    let Runs = RunsFile (g.P.Opener.gives c.args.opener.now) every c.args.name.now in
    run_kept Runs every c.args.name.now _ _ _ c.in_ok-status.status
    (text_written {E = Unit {0}} Runs every c.args.name.now (outcome.Failed c.failure.result) []
    c.lines.result.now (Ok c.in_ok-status.status) _ _
    (λ e. rw c.lines.ensures (c.unopened_lines-lines.ensures.quiet e))
    (rw c.failure.ensures
    (fails_run (g.P.Opener.gives c.args.opener.now) every c.args.name.now c.args.fault c.requires.fails))
    c.in_ok-status.ensures.status c.in_ok-status.ensures.ok)
    c.in_ok-tell_reasons.ensures.out

pub returns-in_err-status-clause-told : goal.returns-in_err-status-clause-told
returns-in_err-status-clause-told g c = none_told (Keeps-refl _)

pub returns-in_err-tell_reasons-clause-told : goal.returns-in_err-tell_reasons-clause-told
returns-in_err-tell_reasons-clause-told g c =
    form_tells c.args.task.form c.args.name.now c.lines-2.result.now
    (ExplainsName (g.P.Opener.gives c.args.opener.now) (every_of c.args.task) c.args.name.now) _ _ c.tell_reasons.result
    (λ some. unopened_name c.requires.fails (unopened_explains c.args.task.explains c.lines-2.result.now
    (λ e. rw c.lines-2.ensures (c.unopened_lines-lines.ensures.quiet e))
    (rw c.lines-2.ensures c.unopened_lines-lines.ensures.lines) some)) c.tell_reasons.ensures.told

pub returns-clause-told : goal.returns-clause-told
returns-clause-told g c =
    form_tells c.args.task.form c.args.name.now c.lines-2.result.now
    (ExplainsName (g.P.Opener.gives c.args.opener.now) (every_of c.args.task) c.args.name.now) _ _ c.tell_reasons.result
    (λ some. unopened_name c.requires.fails (unopened_explains c.args.task.explains c.lines-2.result.now
    (λ e. rw c.lines-2.ensures (c.unopened_lines-lines.ensures.quiet e))
    (rw c.lines-2.ensures c.unopened_lines-lines.ensures.lines) some)) c.tell_reasons.ensures.told
