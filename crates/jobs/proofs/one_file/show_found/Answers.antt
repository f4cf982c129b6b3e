use Rattle.jobs.proofs.FileReasons.{failed_unmapped, met_ended}
use Rattle.jobs.proofs.one_file.show_found.Goals as goal

pub returns-in-Failed-clause-says : goal.returns-in-Failed-clause-says
returns-in-Failed-clause-says g c = λ mapped. absurd (failed_unmapped c.show_met-ended.result _ c.in-Failed.is mapped)

pub returns-in_default-clause-says : goal.returns-in_default-clause-says
returns-in_default-clause-says g c = λ mapped. (
  met_ended c.args.run.now.terms.now c.args.outcome _ _ c.show_met-ended.result c.show_met-ended.ensures
      c.in_default.not-Failed,
  c.say_found.ensures,
)
