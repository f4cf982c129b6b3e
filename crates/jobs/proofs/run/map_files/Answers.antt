use Rattle.std.proofs.KnownBytes.{Keeps-refl}
use Rattle.jobs.specs.Jobs.{each_due, file_due, task_due}
use Rattle.jobs.specs.Tasks.{IsOverFiles}
use Rattle.jobs.specs.Aims.{of_mapping}
use Rattle.jobs.proofs.FilesTold.{none_over}
use Rattle.jobs.proofs.Holding.{holds_more}
use Rattle.jobs.proofs.FileReasons.{file_over, files_over, task_over}
use Rattle.jobs.proofs.run.map_files.Goals as goal

pub returns-in-Map-clause-holds : goal.returns-in-Map-clause-holds
returns-in-Map-clause-holds g c =
    holds_more _ _ _ _ _ (λ lines end due. file_due c.in-Map.ensures due) c.map_file.ensures.holds

pub returns-in-MapEach-clause-holds : goal.returns-in-MapEach-clause-holds
returns-in-MapEach-clause-holds g c =
    holds_more _ _ _ _ _ (λ lines end due. each_due c.in-MapEach.ensures due) c.map_each-ending.ensures.holds

pub returns-in-Do-clause-holds : goal.returns-in-Do-clause-holds
returns-in-Do-clause-holds g c =
    holds_more _ _ _ _ _ (λ lines end due. task_due _ _ c.in-Do.ensures due) c.do_in_file.ensures

pub returns-in-Map-clause-told : goal.returns-in-Map-clause-told
returns-in-Map-clause-told g c =
    none_over (g.P.Opener.gives c.args.opener.now) c.args.why.now.asked (of_mapping c.args.mapping)
    c.args.pickle.now.bytes.items c.args.over.now _ _ (Keeps-refl _)

pub returns-in-MapEach-clause-told : goal.returns-in-MapEach-clause-told
returns-in-MapEach-clause-told g c =
    let files : IsOverFiles c.args.over.now c.in-MapEach.names.now = c.in-MapEach.ensures in
    rw files.over_is c.map_each-ending.ensures.told

pub returns-in-Do-clause-told : goal.returns-in-Do-clause-told
returns-in-Do-clause-told g c =
    none_over (g.P.Opener.gives c.args.opener.now) c.args.why.now.asked (of_mapping c.args.mapping)
    c.args.pickle.now.bytes.items c.args.over.now _ _ (Keeps-refl _)

pub returns-in-Map-clause-opened : goal.returns-in-Map-clause-opened
returns-in-Map-clause-opened g c =
    file_over _ _ _ _ c.args.over.now _ _ _ c.in-Map.ensures c.map_file.ensures.opened

pub returns-in-MapEach-clause-opened : goal.returns-in-MapEach-clause-opened
returns-in-MapEach-clause-opened g c = files_over _ _ _ _ c.args.over.now _ _ _ c.in-MapEach.ensures

pub returns-in-Do-clause-opened : goal.returns-in-Do-clause-opened
returns-in-Do-clause-opened g c = task_over _ _ _ _ c.args.over.now _ _ _ _ _ c.in-Do.ensures
