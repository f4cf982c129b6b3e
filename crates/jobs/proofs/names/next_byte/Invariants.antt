use Rattle.std.proofs.Common.{[]}
use Rattle.std.specs.Io.KnownBytes.{Consumes}
use Rattle.jobs.proofs.names.next_byte.Given as goal

abbrev pub invariant-loop : goal.invariant-loop
invariant-loop g l = Consumes (g.L.Read.remaining l.initial.list) (g.L.Read.remaining l.list) []
