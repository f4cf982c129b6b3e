use Rattle.std.proofs.Common.{rules, ◌*◌, sym, ap, ◌∙◌}
use Rattle.pickle_types.specs.Table.{type_of}
use Rattle.fault_location.proofs.ArrayElements.{no_elements, elements_go}
use Rattle.fault_location.specs.Frames.{frames_after, frames_of}
use Rattle.fault_location.proofs.checker.Checker.outgrows.Goals as goal

pub loop-self-init : goal.loop-self-init
loop-self-init g c = record {
  frame = search rules;
  after = search rules;
  inside = search rules;
  depth = search rules;
  counted = search rules;
  before = λ bytes e. no_elements;
}

pub loop-self-preserved : goal.loop-self-preserved
loop-self-preserved g c =
    let i = c.loop-self.invariant in
    let due = sym c.is_due.ensures ∙ c.loop-self-test.true in
    let mapped = rw (i.frame.lent.nodes, c.element_at.ensures) at c.in-Ok.ensures.is in
    record {
      frame = search rules;
      after = search rules;
      inside = search rules;
      depth = search rules;
      counted = search rules;
      before = elements_go (g.S.Space.view c.args.space.now) (g.S.Space.view c.loop-self.space)
          (g.met.S.Space.whole c.args.space.now) i.frame.left.bytes
          (type_of c.args.self.now.nodes.now c.args.elements.element) c.args.elements.order c.args.elements.start
          c.args.elements.extent
          (frames_of c.args.self.now) (frames_after c.args.self.now c.loop-self.self)
          (frames_after c.args.self.now c.map_type.new.self)
          c.loop-self.count c.loop-self.behind c.in-Ok.end _ (ap (λ n. 8 * n) c.len-bits.ensures) due
          c.if-behind-end.true i.before mapped;
    }
