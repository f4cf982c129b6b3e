use Rattle.std.proofs.Common.{◌≡◌, ℕ, ◌+◌, take}
use Rattle.bit_space.specs.SpaceView.{Keeps, known_bits}
use Rattle.first_numbers.specs.Held.{numbers_shown}
use Rattle.first_numbers.specs.Runs.{AllFail}
use Rattle.first_numbers.proofs.number.First.missed_steps.Given as goal

abbrev pub invariant-loop-x : goal.invariant-loop-x
invariant-loop-x g l = record {
  keeps : Keeps (g.S.Space.view l.fn.space) (g.S.Space.view l.space);
  fail : (tests : ℕ) × (l.steps ≡ l.self.base + tests) × AllFail (known_bits (g.S.Space.view l.fn.space)) l.order
      l.start (numbers_shown (take l.x-index l.self.numbers.items)) tests;
}
