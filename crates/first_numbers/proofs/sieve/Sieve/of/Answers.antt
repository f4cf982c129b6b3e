use Rattle.std.proofs.Common.{refl}
use Rattle.first_numbers.proofs.sieve.Sieve.of.Goals as goal

pub returns : goal.returns
returns c = λ space. record {
  sound = c.in_ok-layout.ensures.sound;
  holds = c.in_ok-layout.ensures.is;
  is_order = refl;
  second = c.second_screen.ensures;
  passes = c.layout_screen.ensures space;
}
