use Rattle.std.proofs.Common.{[], Err, Ok, refl}
use Rattle.jobs.specs.Every.{every_of}
use Rattle.jobs.specs.Files.{EndsBy}
use Rattle.jobs.proofs.FilesWritten.{run_kept, run_unflushed, text_cut, text_written}
use Rattle.run_parts.proofs.Sayings.{on_err}
use Rattle.run_parts.specs.declared.outcome.Outcome.TheVariants as outcome
use Rattle.jobs.proofs.file_run.put_failed.Goals as goal

pub returns-in_err-status-clause-err : goal.returns-in_err-status-clause-err
returns-in_err-status-clause-err g c =
    on_err c.from_residual.result
    (text_cut {T = Unit {0}} (EndsBy c.args.failure) (every_of c.args.task) c.args.name.now
    (outcome.Failed c.args.failure) [] [] (Err c.in_err-status.field-0) _ _ (λ e. refl)
    (record { ended_is = refl; text_is = refl }) c.in_err-status.ensures.err)

pub returns-in_err-finish_file-clause-err : goal.returns-in_err-finish_file-clause-err
returns-in_err-finish_file-clause-err g c =
    on_err c.from_residual-in_err-finish_file.result
    (run_unflushed (EndsBy c.args.failure) (every_of c.args.task) c.args.name.now _ _ _ c.in_ok-status.status
    (text_written {E = Unit {0}} (EndsBy c.args.failure) (every_of c.args.task) c.args.name.now
    (outcome.Failed c.args.failure) [] [] (Ok c.in_ok-status.status) _ _ (λ e. refl)
    (record { ended_is = refl; text_is = refl }) c.in_ok-status.ensures.status c.in_ok-status.ensures.ok)
    c.in_err-finish_file.ensures.out)

pub returns-clause-ok : goal.returns-clause-ok
returns-clause-ok g c =
    run_kept (EndsBy c.args.failure) (every_of c.args.task) c.args.name.now _ _ _ c.in_ok-status.status
    (text_written {E = Unit {0}} (EndsBy c.args.failure) (every_of c.args.task) c.args.name.now
    (outcome.Failed c.args.failure) [] [] (Ok c.in_ok-status.status) _ _ (λ e. refl)
    (record { ended_is = refl; text_is = refl }) c.in_ok-status.ensures.status c.in_ok-status.ensures.ok)
    c.in_ok-finish_file.ensures.out
