use Rattle.std.proofs.Common.{refl}
use Rattle.pickle_types.specs.Types.{depth}
use Rattle.pickle_types.proofs.BuiltNodes.{in_step_one}
use Rattle.pickle_types.proofs.check.builder.Builder.predeclare_one.Goals as goal

pub push-requires-clause-depth : goal.push-requires-clause-depth
unfolding depth
push-requires-clause-depth c = refl

pub returns-clause-order : goal.returns-clause-order
returns-clause-order c step =
    in_step_one c.args.self.now c.push.new.self _ c.args.word.now c.in_ok-found.found.node _ c.add.result
    c.in_ok-found.ensures.node c.push.ensures.names c.add.ensures.named c.add.ensures.nodes step
