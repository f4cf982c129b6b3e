use Rattle.std.proofs.Common.{[], Err, Ok, refl}
use Rattle.bit_space.specs.SpaceView.{HasRisen}
use Rattle.jobs.specs.Every.{every_of}
use Rattle.jobs.specs.Files.{IdentifiesFrom, identifies_from}
use Rattle.jobs.proofs.FilesWritten.{run_kept, run_unflushed, text_cut, text_written}
use Rattle.run_parts.proofs.Sayings.{on_err}
use Rattle.std.proofs.KnownBytes.{Keeps-refl}
use Rattle.jobs.specs.Asides.{none_told}
use Rattle.jobs.specs.Explained.{AreUnfinished}
use Rattle.jobs.proofs.Told.{lines_tell}
use Rattle.jobs.proofs.file_run.identify_space.Goals as goal

pub returns-in_err-status-clause-err : goal.returns-in_err-status-clause-err
returns-in_err-status-clause-err g c =
    let file = g.S.Space.view c.args.space.now in
    let after = g.S.Space.view c.identify_file-outcome.new.space in
    let identity = c.args.identity in
    on_err c.from_residual.result
    (text_cut {T = Unit {0}}
    (IdentifiesFrom identity.formats.now identity.all identity.form c.args.start file
    (HasRisen file.failures after.failures))
    (every_of c.args.task) c.args.name.now c.identify_file-outcome.result c.deref.result.now []
    (Err c.in_err-status.field-0) _ _
    (λ e. refl)
    (rw c.deref.ensures.value (identifies_from (λ risen. risen) c.identify_file-outcome.ensures.is))
    c.in_err-status.ensures.err)

pub returns-in_err-tell_lines-clause-err : goal.returns-in_err-tell_lines-clause-err
returns-in_err-tell_lines-clause-err g c =
    let file = g.S.Space.view c.args.space.now in
    let after = g.S.Space.view c.identify_file-outcome.new.space in
    let identity = c.args.identity in
    let Runs = IdentifiesFrom identity.formats.now identity.all identity.form c.args.start file
    (HasRisen file.failures after.failures) in
    on_err c.from_residual-in_err-tell_lines.result
    (run_unflushed Runs (every_of c.args.task) c.args.name.now _ _ _ c.in_ok-status.status
    (text_written {E = Unit {0}} Runs (every_of c.args.task) c.args.name.now c.identify_file-outcome.result
    c.deref.result.now [] (Ok c.in_ok-status.status) _ _ (λ e. refl)
    (rw c.deref.ensures.value (identifies_from (λ risen. risen) c.identify_file-outcome.ensures.is))
    c.in_ok-status.ensures.status c.in_ok-status.ensures.ok)
    c.in_err-tell_lines.ensures.out)

pub returns-clause-ok : goal.returns-clause-ok
returns-clause-ok g c =
    let file = g.S.Space.view c.args.space.now in
    let after = g.S.Space.view c.identify_file-outcome.new.space in
    let identity = c.args.identity in
    let Runs = IdentifiesFrom identity.formats.now identity.all identity.form c.args.start file
    (HasRisen file.failures after.failures) in
    run_kept Runs (every_of c.args.task) c.args.name.now _ _ _ c.in_ok-status.status
    (text_written {E = Unit {0}} Runs (every_of c.args.task) c.args.name.now c.identify_file-outcome.result
    c.deref.result.now [] (Ok c.in_ok-status.status) _ _ (λ e. refl)
    (rw c.deref.ensures.value (identifies_from (λ risen. risen) c.identify_file-outcome.ensures.is))
    c.in_ok-status.ensures.status c.in_ok-status.ensures.ok)
    c.in_ok-tell_lines.ensures.out

pub returns-in_err-status-clause-told : goal.returns-in_err-status-clause-told
returns-in_err-status-clause-told g c = none_told (Keeps-refl _)

pub returns-in_err-tell_lines-clause-told : goal.returns-in_err-tell_lines-clause-told
returns-in_err-tell_lines-clause-told g c =
    lines_tell c.args.name.now c.deref-3.result.now (AreUnfinished c.args.identity.formats.now) _ _ c.tell_lines.result
    (λ some. rw c.deref-3.ensures.value c.unfinished_lines-lines.ensures) c.tell_lines.ensures.told

pub returns-clause-told : goal.returns-clause-told
returns-clause-told g c =
    lines_tell c.args.name.now c.deref-3.result.now (AreUnfinished c.args.identity.formats.now) _ _ c.tell_lines.result
    (λ some. rw c.deref-3.ensures.value c.unfinished_lines-lines.ensures) c.tell_lines.ensures.told
