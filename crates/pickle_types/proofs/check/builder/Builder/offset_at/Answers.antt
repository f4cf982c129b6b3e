use Rattle.std.proofs.Common.{refl}
use Rattle.pickle_types.specs.Types.{depth}
use Rattle.pickle_types.proofs.check.builder.Builder.offset_at.Goals as goal

pub push-requires-clause-depth : goal.push-requires-clause-depth
unfolding depth
push-requires-clause-depth c = refl
