use Rattle.std.proofs.Common.{◌≡◌, ◌+◌, length, All}
use Rattle.pickle_types.specs.PlacesByName.{IsBare}
use Rattle.pickle_types.proofs.places_by_name.add_trees.Given as goal

abbrev pub invariant-loop : goal.invariant-loop
invariant-loop l = record {
  bare : All IsBare l.trees.items;
  count : length l.trees.items ≡ length l.initial.trees.items + l.counter;
}
