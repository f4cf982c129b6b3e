use Rattle.std.proofs.Common.{◌∙◌, ◌+◌, ap, drop}
use Rattle.value_text.specs.TypedValue.{nodes_in, types_in, node_in, mapped_in}
use Rattle.poke_batch.specs.PathParts.{node_there, place_of}
use Rattle.poke_batch.proofs.PartsFound.{lost, further_part, further_node}
use Rattle.poke_batch.proofs.Items.{item_left}
use Rattle.poke_batch.proofs.part.part_of.Goals as goal

pub returns-in-None-clause-value : goal.returns-in-None-clause-value
returns-in-None-clause-value c =
    let steps = c.args.steps.now in
    let i = c.loop-step.step-index in
    let next = item_left steps i c.step-item.result c.loop-step-test.true c.step-item.is in
    lost steps i c.step-item.result (mapped_in c.args.value) (mapped_in c.loop-step.part) c.loop-step.invariant.value
    next c.in-None.ensures.value

pub loop-step-preserved : goal.loop-step-preserved
loop-step-preserved c =
    let steps = c.args.steps.now in
    let i = c.loop-step.step-index in
    let part = c.loop-step.part in
    let next = item_left steps i c.step-item.result c.loop-step-test.true c.step-item.is in
    let found = c.in-Some.ensures in
    record {
      value = c.loop-step.invariant.value
          ∙ further_part c.step-item.result (drop (i + 1) steps) (mapped_in part)
          (mapped_in c.in-Some.next) next found.value;
      types = found.types ∙ c.loop-step.invariant.types;
      node = c.loop-step.invariant.node
          ∙ further_node (nodes_in (types_in c.args.value)) c.step-item.result (drop (i + 1) steps) (node_in part)
          (mapped_in part) (node_in c.in-Some.next) (mapped_in c.in-Some.next) next found.value
          (found.node
          ∙ ap (λ types.
          node_there (nodes_in types) (node_in part) (mapped_in part) (place_of c.step-item.result (mapped_in part)))
          c.loop-step.invariant.types);
    }
