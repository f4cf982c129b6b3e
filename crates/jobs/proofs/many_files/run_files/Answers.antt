use Rattle.jobs.specs.Every.{every_of}
use Rattle.jobs.proofs.FilesTold.{files_kept}
use Rattle.jobs.proofs.many_files.run_files.Goals as goal

pub returns-clause-told : goal.returns-clause-told
returns-clause-told g c =
    files_kept (g.P.Opener.gives c.args.opener.now) (every_of c.args.task) c.args.files.now _ _ _
    c.run_names-ending.ensures.told c.clear.ensures
