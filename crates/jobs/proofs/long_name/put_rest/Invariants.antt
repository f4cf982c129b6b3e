use Rattle.jobs.proofs.LongNames.{CopiesSome}
use Rattle.jobs.proofs.long_name.put_rest.Given as goal

abbrev pub invariant-loop : goal.invariant-loop
invariant-loop g l = CopiesSome l.form (g.L.Read.remaining l.initial.list) (g.L.Read.remaining l.list)
    (g.O.Write.contents l.initial.out) (g.O.Write.contents l.out)
