use Rattle.std.proofs.Common.{◌≡◌, take}
use Rattle.first_numbers.proofs.layouts.copy_of.Given as goal

abbrev pub invariant-loop-x : goal.invariant-loop-x
invariant-loop-x l = l.numbers.items ≡ take l.x-index l.first.numbers.items
