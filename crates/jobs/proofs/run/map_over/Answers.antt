use Rattle.jobs.specs.Aims.{of_mapping}
use Rattle.jobs.proofs.FileReasons.{kept_over}
use Rattle.jobs.proofs.run.map_over.Goals as goal

pub returns-clause-opened : goal.returns-clause-opened
returns-clause-opened g c =
    kept_over (g.P.Opener.gives c.args.opener.now) (of_mapping c.args.mapping) c.args.pickle.now.bytes.items
    c.args.why.now.asked c.args.over.now c.map_files-ended.result _ _ c.map_files-ended.ensures.opened
    c.explain_ending.ensures.otherwise
