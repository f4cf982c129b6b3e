-- `enters_integral`: the steps that are left, from the part that was reached.
use Rattle.std.proofs.Common.{◌≡◌, ◌∙◌, ◌+◌, ap, drop, false, sym, true}
use Rattle.poke_batch.proofs.Items.{item_left}
use Rattle.poke_batch.specs.PathParts.{node_there, place_of}
use Rattle.value_text.specs.TypedValue.{mapped_in, node_in, nodes_in, types_in}
use Rattle.raw_parts.proofs.Integrals.{entered, enters_none, further}
use Rattle.raw_parts.specs.Integral.{is_integral}
use Rattle.raw_parts.proofs.integral.enters_integral.Goals as goal

pub returns-then-is_integral : goal.returns-then-is_integral
returns-then-is_integral c =
    let steps = c.args.steps.now in
    let i = c.loop-step.step-index in
    let part = c.loop-step.part in
    let nodes = nodes_in (types_in c.args.value) in
    let next = item_left steps i c.step-item.result c.loop-step-test.true c.step-item.is in
    let is : is_integral nodes (node_in part) ≡ true =
    ap (λ types. is_integral (nodes_in types) (node_in part)) (sym c.loop-step.invariant.types)
    ∙ sym c.is_integral.ensures ∙ c.if-is_integral.true in
    sym (c.loop-step.invariant.enters
    ∙ entered nodes c.step-item.result (drop (i + 1) steps) (node_in part) (mapped_in part) next is)

pub returns-in-None : goal.returns-in-None
returns-in-None c =
    let steps = c.args.steps.now in
    let i = c.loop-step.step-index in
    let part = c.loop-step.part in
    let nodes = nodes_in (types_in c.args.value) in
    let next = item_left steps i c.step-item.result c.loop-step-test.true c.step-item.is in
    let not_it : is_integral nodes (node_in part) ≡ false =
    ap (λ types. is_integral (nodes_in types) (node_in part)) (sym c.loop-step.invariant.types)
    ∙ sym c.is_integral.ensures ∙ c.if-is_integral.false in
    sym (c.loop-step.invariant.enters
    ∙ enters_none nodes c.step-item.result (drop (i + 1) steps) (node_in part) (mapped_in part) next not_it
    c.in-None.ensures.value)

pub loop-step-preserved : goal.loop-step-preserved
loop-step-preserved c =
    let steps = c.args.steps.now in
    let i = c.loop-step.step-index in
    let part = c.loop-step.part in
    let nodes = nodes_in (types_in c.args.value) in
    let next = item_left steps i c.step-item.result c.loop-step-test.true c.step-item.is in
    let not_it : is_integral nodes (node_in part) ≡ false =
    ap (λ types. is_integral (nodes_in types) (node_in part)) (sym c.loop-step.invariant.types)
    ∙ sym c.is_integral.ensures ∙ c.if-is_integral.false in
    let found = c.in-Some.ensures in
    record {
      enters = c.loop-step.invariant.enters
          ∙ further nodes c.step-item.result (drop (i + 1) steps) (node_in part) (mapped_in part) next
          (node_in c.in-Some.next) (mapped_in c.in-Some.next) not_it found.value
          (found.node
          ∙ ap (λ types.
          node_there (nodes_in types) (node_in part) (mapped_in part) (place_of c.step-item.result (mapped_in part)))
          c.loop-step.invariant.types);
      types = found.types ∙ c.loop-step.invariant.types;
    }
