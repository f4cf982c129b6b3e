use Rattle.std.proofs.Common.{refl}
use Rattle.tight_bounds.specs.Tight.{octet, width, own, fixed}
use Rattle.tight_bounds.proofs.type_grains.string_grains.Goals as goal

pub returns : goal.returns
unfolding octet width own fixed
returns c m = record {
  width = refl;
  own = refl;
  fixed = c.step.ensures;
  rate = refl;
  attempt = c.sum_of.ensures _ _ c.step-2.ensures c.step-3.ensures;
  missed = refl;
}
