use Rattle.std.proofs.Common.{rules, refl, arith}
use Rattle.pickle_map.specs.Mappable.{IsPartOf}
use Rattle.pickle_map.proofs.Shapes.{of_one}
use Rattle.value_store.specs.Slots.{level_count}
use Rattle.fault_parts.specs.Arises.{no_miss_before}
use Rattle.fault_location.proofs.checker.Checker.enter_alternatives.Goals as goal

pub loop-index-init : goal.loop-index-init
loop-index-init g c = record {
  frame = search rules;
  depth = search rules;
  same = refl;
  so_far = λ bytes known. no_miss_before;
}

pub returns-then-index-target-clause-goes_on : goal.returns-then-index-target-clause-goes_on
returns-then-index-target-clause-goes_on g c =
    let part = of_one (IsPartOf c.args.self.now.nodes.now (level_count c.args.self.now.store.now))
    c.args.alternatives.now c.loop-index.index c.index-alternatives-index.result c.requires.alternatives (omega arith)
    c.index-alternatives-index.is in
    let part = rw (← c.loop-index.invariant.depth) at part in
    c.enter_alternative.ensures.goes_on c.args.self.now.nodes.now (level_count c.loop-index.self.store.now) part
