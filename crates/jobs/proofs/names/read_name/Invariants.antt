use Rattle.std.proofs.Common.{◌≢◌, ◌≤◌, All, length, vec_capacity}
use Rattle.std.specs.Io.KnownBytes.{Consumes}
use Rattle.jobs.proofs.names.read_name.Given as goal

abbrev pub invariant-loop : goal.invariant-loop
invariant-loop g l = record {
  read : Consumes (g.L.Read.remaining l.initial.list) (g.L.Read.remaining l.list) l.name.items;
  within : All (λ byte. byte ≢ 0) l.name.items;
  most : length l.name.items ≤ 4096;
  capacity : vec_capacity l.initial.name ≤ vec_capacity l.name;
}
