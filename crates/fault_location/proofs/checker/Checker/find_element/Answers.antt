use Rattle.std.proofs.Common.{rules, ◌≡◌, ◌*◌, ◌<◌, ◌≤◌, length, true, false, sym, ap, ◌∙◌, arith}
use Rattle.std.proofs.lemmas.Result.{err_from_is_err_and}
use Rattle.bit_space.specs.Bits.{bits_of}
use Rattle.bit_space.proofs.Digits.{length-bits_of}
use Rattle.bit_space.proofs.Failures.{risen_later}
use Rattle.pickle_types.specs.Table.{type_of}
use Rattle.pickle_meaning.specs.Values.{end_of}
use Rattle.pickle_meaning.specs.Means.{Means}
use Rattle.fault_location.proofs.ArrayElements.{no_elements, elements_go, due_on}
use Rattle.fault_location.proofs.Located.{elements_over, elements_empty, elements_ended, elements_inside, comes_as, says_fault, no_less}
use Rattle.fault_location.proofs.Searching.{among_go, among_least, among_inside, stop_ends}
use Rattle.fault_location.specs.Ways.{fault_of}
use Rattle.value_store.specs.Slots.{levels}
use Rattle.fault_location.specs.Frames.{frames_after, frames_of}
use Rattle.fault_location.proofs.checker.Checker.find_element.Goals as goal

pub loop-elements-init : goal.loop-elements-init
loop-elements-init g c = record {
  frame = search rules;
  after = search rules;
  inside = search rules;
  depth = search rules;
  counted = search rules;
  before = λ bytes e. no_elements;
  spent = λ bytes e. (length (bits_of bytes), omega arith, omega arith);
}

pub loop-elements-preserved : goal.loop-elements-preserved
loop-elements-preserved g c =
    let i = c.loop-elements.invariant in
    let due = sym c.is_due.ensures ∙ c.loop-elements-test.true in
    let mapped = rw (i.frame.lent.nodes, c.element_at-element.ensures) at c.in-Ok.ensures.is in
    record {
      frame = search rules;
      after = search rules;
      inside = search rules;
      depth = search rules;
      counted = search rules;
      before = elements_go (g.S.Space.view c.args.space.now) (g.S.Space.view c.loop-elements.space)
          (g.met.S.Space.whole c.args.space.now) i.frame.left.bytes
          (type_of c.args.self.now.nodes.now c.args.elements.element) c.args.elements.order c.args.elements.start
          c.args.elements.extent
          (frames_of c.args.self.now) (frames_after c.args.self.now c.loop-elements.self)
          (frames_after c.args.self.now c.map_type.new.self)
          c.loop-elements.count c.loop-elements.behind c.in-Ok.end _ (ap (λ n. 8 * n) c.len-bits.ensures) due
          c.if-behind-end.true i.before mapped;
      spent = λ bytes known.
          let whole = g.met.S.Space.whole c.args.space.now in
          let counted = whole bytes known in
          let h = mapped bytes (i.frame.left.bytes ∙ known) in
          let inside = c.in-Ok.ensures.ends in
          let few : c.loop-elements.count < length (bits_of bytes) =
          rw length-bits_of (omega (arith, counted, i.counted, i.frame.left.len, c.if-behind-end.true, inside.1)) in
          let due =
          due_on (g.S.Space.view c.args.space.now) whole bytes known c.args.elements.extent _ c.args.elements.start
          c.loop-elements.count c.loop-elements.behind true (ap (λ n. 8 * n) c.len-bits.ensures) due in
          let took = rw (i.frame.lent.nodes, c.element_at-element.ensures)
          at (c.in-Ok.ensures.spends bytes (i.frame.left.bytes ∙ known)) in
          let so_far = i.spent bytes known in
          let further : c.loop-elements.behind < end_of h.value = omega (arith, h.ends, c.if-behind-end.true) in
          rw (h.keeps, ← h.ends)
          (among_go (bits_of bytes) (type_of c.args.self.now.nodes.now c.args.elements.element) c.args.elements.order
          c.args.elements.start c.args.elements.extent (frames_after c.args.self.now c.loop-elements.self) so_far.0
          c.loop-elements.count c.loop-elements.behind so_far.1 few due
          h.value h.means further c.loop-elements.self.meter.now.steps
          c.map_type.new.self.meter.now.steps _ so_far.2 took);
    }

pub returns-in-Ok-2-clause-is : goal.returns-in-Ok-2-clause-is
returns-in-Ok-2-clause-is g c =
    λ bytes known.
    let i = c.loop-elements.invariant in
    let whole = g.met.S.Space.whole c.args.space.now in
    let counted = whole bytes known in
    let here : c.args.elements.start ≤ length (bits_of bytes) =
    rw length-bits_of (omega (arith, counted, c.requires.inside)) in
    let due = due_on (g.S.Space.view c.args.space.now) whole bytes known c.args.elements.extent _ c.args.elements.start
    c.loop-elements.count c.loop-elements.behind true (ap (λ n. 8 * n) c.len-bits.ensures)
    (sym c.is_due.ensures ∙ c.loop-elements-test.true) in
    let before = i.before bytes known in
    let mapped = rw (i.frame.lent.nodes, c.element_at-element.ensures) at c.in-Ok.ensures.is in
    let h = mapped bytes (i.frame.left.bytes ∙ known) in
    let some = no_less h.means in
    let empty : end_of h.value ≡ c.loop-elements.behind = omega (arith, some, h.ends, c.if-behind-end.false) in
    elements_empty (bits_of bytes) (type_of c.args.self.now.nodes.now c.args.elements.element) c.args.elements.order
    c.args.elements.start c.args.elements.extent (frames_of c.args.self.now)
    (frames_after c.args.self.now c.loop-elements.self) c.loop-elements.count c.loop-elements.behind here before due
    h.value h.means empty

pub returns-then-ends-clause-is : goal.returns-then-ends-clause-is
returns-then-ends-clause-is g c =
    λ bytes known.
    let i = c.loop-elements.invariant in
    let whole = g.met.S.Space.whole c.args.space.now in
    let counted = whole bytes known in
    let here : c.args.elements.start ≤ length (bits_of bytes) =
    rw length-bits_of (omega (arith, counted, c.requires.inside)) in
    let due = due_on (g.S.Space.view c.args.space.now) whole bytes known c.args.elements.extent _ c.args.elements.start
    c.loop-elements.count c.loop-elements.behind true (ap (λ n. 8 * n) c.len-bits.ensures)
    (sym c.is_due.ensures ∙ c.loop-elements-test.true) in
    let before = i.before bytes known in
    let nodes = c.loop-elements.self.nodes.now in
    let element = c.element_at-element.result in
    let means = says_fault (Means (bits_of bytes) (type_of nodes element.node) element.order
    (levels nodes c.loop-elements.self.store.now) element.start)
    (levels nodes c.loop-elements.self.store.now) (levels nodes c.map_type.new.self.store.now) c.in-Err.stop
    c.in_ok-_fault-in-Err._fault c.in_ok-_fault-in-Err.ensures
    (c.in-Err.ensures.is bytes (i.frame.left.bytes ∙ known)) in
    let means = rw (i.frame.lent.nodes, c.element_at-element.ensures) at means in
    let ends = comes_as c.in-Err.stop c.in_ok-_fault-in-Err._fault c.in_ok-_fault-in-Err.ensures c.args.elements.extent
    true (sym c.ends.ensures ∙ c.if-ends.true) in
    elements_ended (bits_of bytes) (type_of c.args.self.now.nodes.now c.args.elements.element) c.args.elements.order
    c.args.elements.start c.args.elements.extent (frames_of c.args.self.now)
    (frames_after c.args.self.now c.loop-elements.self) c.loop-elements.count c.loop-elements.behind here before due
    (fault_of c.in_ok-_fault-in-Err._fault) means ends

pub returns-in-Err-clause-is : goal.returns-in-Err-clause-is
returns-in-Err-clause-is g c =
    λ bytes known.
    let i = c.loop-elements.invariant in
    let whole = g.met.S.Space.whole c.args.space.now in
    let counted = whole bytes known in
    let here : c.args.elements.start ≤ length (bits_of bytes) =
    rw length-bits_of (omega (arith, counted, c.requires.inside)) in
    let due = due_on (g.S.Space.view c.args.space.now) whole bytes known c.args.elements.extent _ c.args.elements.start
    c.loop-elements.count c.loop-elements.behind true (ap (λ n. 8 * n) c.len-bits.ensures)
    (sym c.is_due.ensures ∙ c.loop-elements-test.true) in
    let before = i.before bytes known in
    let nodes = c.loop-elements.self.nodes.now in
    let element = c.element_at-element.result in
    let means = says_fault (Means (bits_of bytes) (type_of nodes element.node) element.order
    (levels nodes c.loop-elements.self.store.now) element.start)
    (levels nodes c.loop-elements.self.store.now) (levels nodes c.map_type.new.self.store.now) c.in-Err.stop
    c.in_ok-_fault-in-Err._fault c.in_ok-_fault-in-Err.ensures
    (c.in-Err.ensures.is bytes (i.frame.left.bytes ∙ known)) in
    let means = rw (i.frame.lent.nodes, c.element_at-element.ensures) at means in
    let goes = comes_as c.in-Err.stop c.in_ok-_fault-in-Err._fault c.in_ok-_fault-in-Err.ensures c.args.elements.extent
    false (sym c.ends.ensures ∙ c.if-ends.false) in
    let same = rw i.frame.lent.nodes at c.in-Err.ensures.level.same in
    rw (c.element_at-element.ensures, same) (elements_inside (bits_of bytes)
    (type_of c.args.self.now.nodes.now c.args.elements.element) c.args.elements.order c.args.elements.start
    c.args.elements.extent (frames_of c.args.self.now) (frames_after c.args.self.now c.loop-elements.self)
    c.loop-elements.count c.loop-elements.behind here before due (fault_of c.in_ok-_fault-in-Err._fault) means goes)

pub returns-clause-is : goal.returns-clause-is
returns-clause-is g c =
    λ bytes known.
    let i = c.loop-elements.invariant in
    let whole = g.met.S.Space.whole c.args.space.now in
    let counted = whole bytes known in
    let here : c.args.elements.start ≤ length (bits_of bytes) =
    rw length-bits_of (omega (arith, counted, c.requires.inside)) in
    let due = due_on (g.S.Space.view c.args.space.now) whole bytes known c.args.elements.extent _ c.args.elements.start
    c.loop-elements.count c.loop-elements.behind false (ap (λ n. 8 * n) c.len-bits.ensures)
    (sym c.is_due.ensures ∙ c.loop-elements-test.false) in
    let before = i.before bytes known in
    elements_over (bits_of bytes) (type_of c.args.self.now.nodes.now c.args.elements.element) c.args.elements.order
    c.args.elements.start c.args.elements.extent (frames_of c.args.self.now)
    (frames_after c.args.self.now c.loop-elements.self) c.loop-elements.count c.loop-elements.behind here before due

pub returns-in-Ok-2-clause-spends : goal.returns-in-Ok-2-clause-spends
returns-in-Ok-2-clause-spends g c =
    λ bytes known.
    let i = c.loop-elements.invariant in
    let due = due_on (g.S.Space.view c.args.space.now) (g.met.S.Space.whole c.args.space.now) bytes known
    c.args.elements.extent _ c.args.elements.start c.loop-elements.count c.loop-elements.behind true
    (ap (λ n. 8 * n) c.len-bits.ensures) (sym c.is_due.ensures ∙ c.loop-elements-test.true) in
    let so_far = i.spent bytes known in
    let took = rw (i.frame.lent.nodes, c.element_at-element.ensures)
    at (c.in-Ok.ensures.spends bytes (i.frame.left.bytes ∙ known)) in
    let least = among_least (bits_of bytes) (type_of c.args.self.now.nodes.now c.args.elements.element)
    c.args.elements.order c.args.elements.start c.args.elements.extent
    (frames_after c.args.self.now c.loop-elements.self) so_far.0 c.loop-elements.count c.loop-elements.behind due in
    omega (arith, so_far.2, took, least)

pub returns-then-ends-clause-spends : goal.returns-then-ends-clause-spends
returns-then-ends-clause-spends g c =
    λ bytes known.
    let i = c.loop-elements.invariant in
    let due = due_on (g.S.Space.view c.args.space.now) (g.met.S.Space.whole c.args.space.now) bytes known
    c.args.elements.extent _ c.args.elements.start c.loop-elements.count c.loop-elements.behind true
    (ap (λ n. 8 * n) c.len-bits.ensures) (sym c.is_due.ensures ∙ c.loop-elements-test.true) in
    let so_far = i.spent bytes known in
    let took = rw (c.in_ok-_fault-in-Err.ensures, i.frame.lent.nodes, c.element_at-element.ensures)
    at (c.in-Err.ensures.spends bytes (i.frame.left.bytes ∙ known)) in
    let least = among_least (bits_of bytes) (type_of c.args.self.now.nodes.now c.args.elements.element)
    c.args.elements.order c.args.elements.start c.args.elements.extent
    (frames_after c.args.self.now c.loop-elements.self) so_far.0 c.loop-elements.count c.loop-elements.behind due in
    omega (arith, so_far.2, took, least)

pub returns-in-Err-clause-spends : goal.returns-in-Err-clause-spends
returns-in-Err-clause-spends g c =
    λ bytes known.
    let i = c.loop-elements.invariant in
    let due = due_on (g.S.Space.view c.args.space.now) (g.met.S.Space.whole c.args.space.now) bytes known
    c.args.elements.extent _ c.args.elements.start c.loop-elements.count c.loop-elements.behind true
    (ap (λ n. 8 * n) c.len-bits.ensures) (sym c.is_due.ensures ∙ c.loop-elements-test.true) in
    let so_far = i.spent bytes known in
    let took = rw (c.in_ok-_fault-in-Err.ensures, i.frame.lent.nodes, c.element_at-element.ensures)
    at (c.in-Err.ensures.spends bytes (i.frame.left.bytes ∙ known)) in
    let nodes = c.loop-elements.self.nodes.now in
    let element = c.element_at-element.result in
    let means = says_fault (Means (bits_of bytes) (type_of nodes element.node) element.order
    (levels nodes c.loop-elements.self.store.now) element.start)
    (levels nodes c.loop-elements.self.store.now) (levels nodes c.map_type.new.self.store.now) c.in-Err.stop
    c.in_ok-_fault-in-Err._fault c.in_ok-_fault-in-Err.ensures
    (c.in-Err.ensures.is bytes (i.frame.left.bytes ∙ known)) in
    let means = rw (i.frame.lent.nodes, c.element_at-element.ensures) at means in
    let goes = comes_as c.in-Err.stop c.in_ok-_fault-in-Err._fault c.in_ok-_fault-in-Err.ensures c.args.elements.extent
    false (sym c.ends.ensures ∙ c.if-ends.false) in
    let least =
    among_inside (bits_of bytes) (type_of c.args.self.now.nodes.now c.args.elements.element) c.args.elements.order
    c.args.elements.start c.args.elements.extent (frames_after c.args.self.now c.loop-elements.self) so_far.0
    c.loop-elements.count c.loop-elements.behind due (fault_of c.in_ok-_fault-in-Err._fault) means goes in
    let same = rw i.frame.lent.nodes at c.in-Err.ensures.level.same in
    rw (c.element_at-element.ensures, same) (omega (arith, so_far.2, took, least))

pub returns-clause-spends : goal.returns-clause-spends
returns-clause-spends g c =
    λ bytes known.
    let so_far = c.loop-elements.invariant.spent bytes known in
    omega (arith, so_far.2)

pub returns-in_err-_fault-in-Err-clause-spends : goal.returns-in_err-_fault-in-Err-clause-spends
returns-in_err-_fault-in-Err-clause-spends g c =
    let p = err_from_is_err_and c.from_residual.result c.from_residual.ensures.1 in
    λ bytes known.
    let i = c.loop-elements.invariant in
    let due = due_on (g.S.Space.view c.args.space.now) (g.met.S.Space.whole c.args.space.now) bytes known
    c.args.elements.extent _ c.args.elements.start c.loop-elements.count c.loop-elements.behind true
    (ap (λ n. 8 * n) c.len-bits.ensures) (sym c.is_due.ensures ∙ c.loop-elements-test.true) in
    let so_far = i.spent bytes known in
    let least = among_least (bits_of bytes) (type_of c.args.self.now.nodes.now c.args.elements.element)
    c.args.elements.order c.args.elements.start c.args.elements.extent
    (frames_after c.args.self.now c.loop-elements.self) so_far.0 c.loop-elements.count c.loop-elements.behind due in
    let spends = rw (i.frame.lent.nodes, c.element_at-element.ensures)
    at (c.in-Err.ensures.spends bytes (i.frame.left.bytes ∙ known)) in
    rw (p.1, p.2)
    (stop_ends c.loop-elements.self.meter.now.limit c.args.self.now.meter.now.limit c.loop-elements.self.meter.now.steps
    c.args.self.now.meter.now.steps _ _ _ c.in-Err.stop _ c.in_err-_fault-in-Err.ensures
    (risen_later _ _ _ i.frame.left.failures c.in-Err.ensures.frame.left.failures) i.frame.left.limit
    (omega (arith, so_far.2, least)) spends)
