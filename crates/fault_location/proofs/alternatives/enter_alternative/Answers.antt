use Rattle.std.proofs.Common.{sym, ◌∙◌}
use Rattle.fault_parts.specs.Arises.{in_alternative}
use Rattle.fault_location.proofs.alternatives.enter_alternative.Goals as goal

pub returns-clause-is : goal.returns-clause-is
returns-clause-is c = λ bits nodes levels alternatives rest i before path h.
    in_alternative before (sym (rw c.stop_of.ensures at c.misses.ensures) ∙ c.if-misses.false)
    (rw (c.alternative_part.ensures.inner_is, c.alternative_part.ensures.clause_is) at h)
