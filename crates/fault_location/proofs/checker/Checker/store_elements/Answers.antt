use Rattle.std.proofs.Common.{rules, ◌*◌, sym, ap, ◌∙◌}
use Rattle.pickle_types.specs.Table.{type_of}
use Rattle.fault_location.proofs.ArrayElements.{no_elements, elements_go}
use Rattle.fault_location.specs.Frames.{frames_after, frames_of}
use Rattle.fault_location.proofs.checker.Checker.store_elements.Goals as goal

pub loop-place-init : goal.loop-place-init
loop-place-init g c = record {
  frame = search rules;
  after = search rules;
  inside = search rules;
  depth = search rules;
  before = λ bytes e. no_elements;
}

pub loop-place-preserved : goal.loop-place-preserved
loop-place-preserved g c =
    let i = c.loop-place.invariant in
    let due = sym c.is_due.ensures ∙ c.if-not-is_due.false in
    let mapped = rw (i.frame.lent.nodes, c.element_at.ensures) at c.in-Ok.ensures.is in
    record {
      frame = search rules;
      after = search rules;
      inside = search rules;
      depth = search rules;
      before = elements_go (g.S.Space.view c.args.space.now) (g.S.Space.view c.loop-place.space)
          (g.met.S.Space.whole c.args.space.now) i.frame.left.bytes
          (type_of c.args.self.now.nodes.now c.args.elements.element) c.args.elements.order c.args.elements.start
          c.args.elements.extent
          (frames_of c.args.self.now) (frames_after c.args.self.now c.loop-place.self)
          (frames_after c.args.self.now c.map_type.new.self)
          c.loop-place.place c.loop-place.behind c.in-Ok.end _ (ap (λ n. 8 * n) c.len-bits.ensures) due
          c.if-behind-end.true i.before mapped;
    }
