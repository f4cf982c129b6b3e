use Rattle.std.proofs.Common.{◌≡◌, ◌++◌, take}
use Rattle.first_numbers.specs.Held.{numbers_shown}
use Rattle.first_numbers.specs.Layouts.{moved}
use Rattle.first_numbers.proofs.layouts.push_moved.Given as goal

abbrev pub invariant-loop-x : goal.invariant-loop-x
invariant-loop-x l = numbers_shown l.all.items
    ≡ numbers_shown l.initial.all.items ++ moved l.place l.set (numbers_shown (take l.x-index l.numbers))
