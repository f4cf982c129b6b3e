use Rattle.std.proofs.Common.{◌≡◌, take, length}
use Rattle.pickle_types.proofs.many_fields.ManyFields.truncate.Given as goal

abbrev pub decreases-loop-self : goal.decreases-loop-self
decreases-loop-self l = length l.self

abbrev pub invariant-loop-self : goal.invariant-loop-self
invariant-loop-self l = take l.count l.self ≡ take l.count l.initial.self
