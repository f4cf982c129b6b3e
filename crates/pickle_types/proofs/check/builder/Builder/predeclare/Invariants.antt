use Rattle.std.proofs.Common.{◌≡◌, [], ◌+◌, ◌++◌, ◌≤◌, length, true, drop}
use Rattle.pickle_types.specs.Building.{known_types, named_types, may_add, IsInStep}
use Rattle.pickle_types.proofs.check.builder.Builder.predeclare.Given as goal

abbrev pub invariant-loop-entry : goal.invariant-loop-entry
invariant-loop-entry l = record {
  ready : l.self.seen ≡ [];
  order : IsInStep l.initial.self → IsInStep l.self;
  few : length l.self.nodes ≤ length l.initial.self.nodes + l.entry-index;
  new : may_add (known_types l.self) (drop l.entry-index l.types) ≡ true;
  rest : known_types l.self ++ named_types (drop l.entry-index l.types)
      ≡ known_types l.initial.self ++ named_types l.types;
}
