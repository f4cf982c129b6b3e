use Rattle.std.proofs.Common.{◌≡◌, ◌-◌, ◌++◌, length, map, drop}
use Rattle.pickle_types.specs.Built.{named_of}
use Rattle.pickle_types.specs.DeclaredTypes.{told_of, told_as}
use Rattle.pickle_types.proofs.table.Table.declared_types.Given as goal

abbrev pub invariant-loop-place : goal.invariant-loop-place
invariant-loop-place l =
    map told_of l.told.items ++ map (λ named. told_as (named_of l.self.nodes.items named)) (drop l.place l.self.names)
    ≡ map (λ named. told_as (named_of l.self.nodes.items named)) (drop 18 l.self.names)

abbrev pub decreases-loop-place : goal.decreases-loop-place
decreases-loop-place l = length l.self.names - l.place
