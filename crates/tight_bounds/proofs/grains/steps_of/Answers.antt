use Rattle.std.proofs.Common.{refl}
use Rattle.tight_bounds.specs.Tight.{octet, grain}
use Rattle.tight_bounds.proofs.grains.steps_of.Goals as goal

pub returns : goal.returns
unfolding octet
returns c x h = c.quotient.ensures x grain h refl
