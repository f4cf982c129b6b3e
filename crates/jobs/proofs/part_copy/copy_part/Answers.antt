use Rattle.jobs.proofs.Copied.{copy_holds}
use Rattle.jobs.proofs.part_copy.copy_part.Goals as goal

pub returns-clause-copies : goal.returns-clause-copies
returns-clause-copies g c = λ asked. record {
  after = g.S.Space.view c.write_raw_part-outcome.new.space;
  failures = c.explain_copy.ensures.failures;
  holds = copy_holds c.args.pickle.now.bytes.items _ _ _ _ _ _
      (c.write_raw_part-outcome.ensures.writes c.args.pickle.now.bytes.items asked);
}
