use Rattle.std.proofs.Common.{sym, arith}
use Rattle.poke_batch.specs.RunsUnder.{lacks_type}
use Rattle.poke_batch.proofs.Unresolved.{ends_unresolved}
use Rattle.jobs.proofs.FileReasons.{space_mapped, unasked_space, unresolved_possible, unresolved_unmapped}
use Rattle.jobs.proofs.Mapped.{met_holds, space_holds}
use Rattle.jobs.proofs.one_file.map_space.Goals as goal

pub returns-in-Err-clause-maps : goal.returns-in-Err-clause-maps
returns-in-Err-clause-maps g c = record {
  after = g.S.Space.view c.args.space.now;
  failures = omega arith;
  holds = space_holds c.args.pickle.now.bytes.items c.args.ask.now c.args.terms.now _ _ c.args.why.now.asked
      c.in-Err.outcome _ _
      (ends_unresolved c.args.pickle.now.bytes.items c.args.ask.now c.args.terms.now _ _ _ c.in-Err.outcome
      (lacks_type (rw (sym c.deref.ensures.value) c.in-Err.ensures.none)));
}

pub returns-then-not-why-clause-maps : goal.returns-then-not-why-clause-maps
returns-then-not-why-clause-maps g c = record {
  after = g.S.Space.view c.map_requested-outcome.new.space;
  failures = omega arith;
  holds = space_holds c.args.pickle.now.bytes.items c.args.ask.now c.args.terms.now _ _ c.args.why.now.asked
      c.map_requested-outcome.result _ _
      (c.map_requested-outcome.ensures.ends c.args.pickle.now.bytes.items
      (rw (sym c.deref.ensures.value) c.in-Ok.ensures.asked));
}

pub returns-clause-maps : goal.returns-clause-maps
returns-clause-maps g c = record {
  after = g.S.Space.view c.map_requested-outcome.new.space;
  failures = c.explain_run.ensures.keeps.failures;
  holds = met_holds c.args.pickle.now.bytes.items c.args.ask.now c.args.terms.now _ _ c.args.why.now.asked
      c.map_requested-outcome.result c.explain_run.result _ _ _ c.if-not-why.false
      (c.map_requested-outcome.ensures.ends c.args.pickle.now.bytes.items
      (rw (sym c.deref.ensures.value) c.in-Ok.ensures.asked))
      c.explain_run.ensures.met;
}

pub returns-in-Err-clause-explains : goal.returns-in-Err-clause-explains
returns-in-Err-clause-explains g c = record {
  mapped = λ asked mapped. absurd (unresolved_unmapped _ _ c.in-Err.outcome c.in-Err.ensures.none mapped);
  impossible = λ asked is. absurd (unresolved_possible _ _ c.in-Err.outcome c.in-Err.ensures.none is);
}

pub returns-then-not-why-clause-explains : goal.returns-then-not-why-clause-explains
returns-then-not-why-clause-explains g c = unasked_space _ _ _ _ _ _ _ _ c.if-not-why.true

pub returns-clause-explains : goal.returns-clause-explains
returns-clause-explains g c = record {
  mapped = λ asked mapped.
      space_mapped c.args.pickle.now.bytes.items c.args.ask.now c.args.terms.now _ _ _ c.explain_run.result _ _
      (rw (sym c.deref.ensures.value) c.in-Ok.ensures.asked) c.map_requested-outcome.ensures.keeps
      c.explain_run.ensures.keeps (c.explain_run.ensures.says mapped);
  impossible = c.explain_run.ensures.impossible;
}
