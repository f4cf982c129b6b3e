use Rattle.std.proofs.Common.{◌≡◌, [], refl, subst, sym}
use Rattle.std.proofs.lemmas.Result.{IfOk-weaker, on_err_weaker}
use Rattle.bit_space.specs.SpaceView.{HasRisen}
use Rattle.jobs.specs.Every.{every_of}
use Rattle.jobs.specs.Files.{RunsFile, no_cache, starts_nowhere}
use Rattle.jobs.proofs.FilesWritten.{may_more, opened_cut, opened_written, text_cut, text_written}
use Rattle.jobs.proofs.Sighted.{fails_seen, sight_failures}
use Rattle.run_parts.specs.declared.outcome.Failure.TheVariants as failure
use Rattle.run_parts.specs.declared.outcome.Outcome.TheVariants as outcome
use Rattle.spool.specs.Window.{cut_at, seen}
use Rattle.std.proofs.KnownBytes.{Keeps-refl}
use Rattle.jobs.specs.Asides.{TellsRun, none_told}
use Rattle.jobs.proofs.Told.{opened_tells, tells_more}
use Rattle.jobs.proofs.file_run.run_opened.Goals as goal

pub returns-in_default-clause-ok : goal.returns-in_default-clause-ok
returns-in_default-clause-ok g c =
    let every = every_of c.args.task in
    text_written (RunsFile (g.P.Opener.gives c.args.opener.now) every c.args.name.now) every c.args.name.now
    outcome.Offset [] [] c.put_run.result _ _ (λ e. refl)
    (starts_nowhere {file = g.P.Bytes.Space.view c.args.bytes} c.requires.opened
    (sym (rw c.in_default.is at c.bit_in.ensures)))
    c.put_run.ensures.status c.put_run.ensures.ok

pub returns-in_default-clause-err : goal.returns-in_default-clause-err
returns-in_default-clause-err g c =
    let every = every_of c.args.task in
    text_cut (RunsFile (g.P.Opener.gives c.args.opener.now) every c.args.name.now) every c.args.name.now
    outcome.Offset [] [] c.put_run.result _ _ (λ e. refl)
    (starts_nowhere {file = g.P.Bytes.Space.view c.args.bytes} c.requires.opened
    (sym (rw c.in_default.is at c.bit_in.ensures)))
    c.put_run.ensures.err

pub returns-in_default-new-clause-ok : goal.returns-in_default-new-clause-ok
returns-in_default-new-clause-ok g c =
    let every = every_of c.args.task in
    text_written (RunsFile (g.P.Opener.gives c.args.opener.now) every c.args.name.now) every c.args.name.now
    (outcome.Failed failure.Memory) [] [] c.put_run-in_default-new.result _ _ (λ e. refl) no_cache
    c.put_run-in_default-new.ensures.status c.put_run-in_default-new.ensures.ok

pub returns-in_default-new-clause-err : goal.returns-in_default-new-clause-err
returns-in_default-new-clause-err g c =
    let every = every_of c.args.task in
    text_cut (RunsFile (g.P.Opener.gives c.args.opener.now) every c.args.name.now) every c.args.name.now
    (outcome.Failed failure.Memory) [] [] c.put_run-in_default-new.result _ _ (λ e. refl) no_cache
    c.put_run-in_default-new.ensures.err

pub returns-in_default-kept-clause-ok : goal.returns-in_default-kept-clause-ok
returns-in_default-kept-clause-ok g c =
    let every = every_of c.args.task in
    text_written (RunsFile (g.P.Opener.gives c.args.opener.now) every c.args.name.now) every c.args.name.now
    (outcome.Failed failure.Memory) [] [] c.put_run-in_default-kept.result _ _ (λ e. refl) no_cache
    c.put_run-in_default-kept.ensures.status c.put_run-in_default-kept.ensures.ok

pub returns-in_default-kept-clause-err : goal.returns-in_default-kept-clause-err
returns-in_default-kept-clause-err g c =
    let every = every_of c.args.task in
    text_cut (RunsFile (g.P.Opener.gives c.args.opener.now) every c.args.name.now) every c.args.name.now
    (outcome.Failed failure.Memory) [] [] c.put_run-in_default-kept.result _ _ (λ e. refl) no_cache
    c.put_run-in_default-kept.ensures.err

pub returns-clause-ok : goal.returns-clause-ok
returns-clause-ok g c =
    let gives = g.P.Opener.gives c.args.opener.now in
    let file = g.P.Bytes.Space.view c.args.bytes in
    let task = c.args.task in
    let start = c.in-Some.start in
    let first = c.in-Ok.space in
    let sight = cut_at first.end (g.P.Bytes.Space.view first.whole) in
    let last = c.run_space.new.space in
    let after = g.P.Bytes.Space.view last.whole in
    let whole = g.met.P.Bytes.Space.whole c.args.bytes in
    let same : sight ≡ seen task.window start file = rw c.in-Ok.ensures c.from_start-window.ensures in
    IfOk-weaker c.run_space.result _ _
    (λ status h. opened_written gives (every_of task) c.args.name.now file sight start
    (HasRisen sight.failures after.failures) _ _ status c.requires.opened
    (sym (rw c.in-Some.is at c.bit_in.ensures)) same
    (may_more task.work start sight _ _
    (λ risen. fails_seen task.window start file sight after last.end (gives.is_failing c.args.name.now)
    whole same
    (λ end end' keeps more. g.met.P.Opener.failing c.args.opener.now c.args.name.now task.spool c.args.bytes
    last.whole end end' c.requires.opened keeps more)
    c.run_space.ensures.keeps
    (subst (λ count. HasRisen count after.failures)
    (sight_failures task.window start file sight whole same) risen))) h)
    c.run_space.ensures.ok

pub returns-clause-err : goal.returns-clause-err
returns-clause-err g c =
    let gives = g.P.Opener.gives c.args.opener.now in
    let file = g.P.Bytes.Space.view c.args.bytes in
    let task = c.args.task in
    let start = c.in-Some.start in
    let first = c.in-Ok.space in
    let sight = cut_at first.end (g.P.Bytes.Space.view first.whole) in
    let last = c.run_space.new.space in
    let after = g.P.Bytes.Space.view last.whole in
    let whole = g.met.P.Bytes.Space.whole c.args.bytes in
    let same : sight ≡ seen task.window start file = rw c.in-Ok.ensures c.from_start-window.ensures in
    on_err_weaker c.run_space.result
    (opened_cut gives (every_of task) c.args.name.now file sight start
    (HasRisen sight.failures after.failures) _ _ c.requires.opened (sym (rw c.in-Some.is at c.bit_in.ensures)) same
    (may_more task.work start sight _ _
    (λ risen. fails_seen task.window start file sight after last.end (gives.is_failing c.args.name.now)
    whole same
    (λ end end' keeps more. g.met.P.Opener.failing c.args.opener.now c.args.name.now task.spool c.args.bytes
    last.whole end end' c.requires.opened keeps more)
    c.run_space.ensures.keeps
    (subst (λ count. HasRisen count after.failures)
    (sight_failures task.window start file sight whole same) risen))))
    c.run_space.ensures.err

pub returns-clause-told : goal.returns-clause-told
returns-clause-told g c =
    let gives = g.P.Opener.gives c.args.opener.now in
    let file = g.P.Bytes.Space.view c.args.bytes in
    let task = c.args.task in
    let start = c.in-Some.start in
    let first = c.in-Ok.space in
    let sight = cut_at first.end (g.P.Bytes.Space.view first.whole) in
    let same : sight ≡ seen task.window start file = rw c.in-Ok.ensures c.from_start-window.ensures in
    tells_more (TellsRun c.args.name.now ((every_of task).explains start sight)) _ _ _
    (λ text tells. opened_tells gives (every_of task) c.args.name.now text file sight start c.requires.opened
    (sym (rw c.in-Some.is at c.bit_in.ensures)) same tells)
    c.run_space.ensures.told

pub returns-in_default-clause-told : goal.returns-in_default-clause-told
returns-in_default-clause-told g c = none_told (Keeps-refl _)

pub returns-in_default-new-clause-told : goal.returns-in_default-new-clause-told
returns-in_default-new-clause-told g c = none_told (Keeps-refl _)

pub returns-in_default-kept-clause-told : goal.returns-in_default-kept-clause-told
returns-in_default-kept-clause-told g c = none_told (Keeps-refl _)
