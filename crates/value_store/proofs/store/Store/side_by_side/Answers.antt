use Rattle.std.proofs.Common.{◌≡◌, ◌<◌, Some, None, length, ◌+◌, get_or, arith, ap, sym, ◌∙◌, drop, subst}
use Rattle.std.proofs.lemmas.List.{get_or_read}
use Rattle.pickle_types.specs.declared.integer.IntegerType.{IntegerType}
use Rattle.value_store.specs.Integers.{AreNumbersAt}
use Rattle.value_store.specs.declared.store.slots.Shape.TheVariants.{Integer}
use Rattle.value_store.proofs.SideBySide.{link_there, same_sign, next_early, numbers_next}
use Rattle.value_store.proofs.store.Store.side_by_side.Goals as goal

pub node_at-node-requires : goal.node_at-node-requires
node_at-node-requires c =
    let i = c.loop-link.link-index in
    let within : i < length c.args.links.now = omega (arith, c.loop-link-test.true) in
    let is : get_or c.args.links.now i None ≡ Some c.in_ok-target-2.field-0 =
    sym (get_or_read c.args.links.now i c.link-item.result within c.link-item.is None)
    ∙ sym c.target-in-loop-link.ensures ∙ c.in_ok-target-2.was in
    link_there (length c.args.self.now.slots.nodes) c.args.links.now i c.in_ok-target-2.field-0
    c.requires.there within is

pub overflow_add-begin : goal.overflow_add-begin
overflow_add-begin c =
    let i = c.loop-link.link-index in
    let slots = c.args.self.now.slots in
    let type : IntegerType = record { width = c.in-Integer.width; signed = c.in-Integer.signed } in
    let n = c.node_at-node.result in
    let within : i < length c.args.links.now = omega (arith, c.loop-link-test.true) in
    let is : get_or c.args.links.now i None ≡ Some c.in_ok-target-2.field-0 =
    sym (get_or_read c.args.links.now i c.link-item.result within c.link-item.is None)
    ∙ sym c.target-in-loop-link.ensures ∙ c.in_ok-target-2.was in
    let shape : n.shape ≡ Integer c.in-Integer.width c.in-Integer.signed =
    c.in-Integer-shape.is ∙ ap (λ w. Integer w c.in-Integer-shape.sign) c.if-bits-width.false
    ∙ ap (Integer c.in-Integer.width)
    (same_sign c.in-Integer-shape.sign c.in-Integer.signed c.if-sign-signed.false) in
    let early = next_early slots type c.loop-link.begin c.loop-link.content c.args.links.now i
    c.in_ok-target-2.field-0 n within is c.node_at-node.ensures.is
    c.node_at-node.ensures.read c.if-node-begin.false c.if-node-content.false shape c.requires.early in
    omega (arith, early.0, c.from.ensures)

pub overflow_add-content : goal.overflow_add-content
overflow_add-content c =
    let i = c.loop-link.link-index in
    let slots = c.args.self.now.slots in
    let type : IntegerType = record { width = c.in-Integer.width; signed = c.in-Integer.signed } in
    let n = c.node_at-node.result in
    let within : i < length c.args.links.now = omega (arith, c.loop-link-test.true) in
    let is : get_or c.args.links.now i None ≡ Some c.in_ok-target-2.field-0 =
    sym (get_or_read c.args.links.now i c.link-item.result within c.link-item.is None)
    ∙ sym c.target-in-loop-link.ensures ∙ c.in_ok-target-2.was in
    let shape : n.shape ≡ Integer c.in-Integer.width c.in-Integer.signed =
    c.in-Integer-shape.is ∙ ap (λ w. Integer w c.in-Integer-shape.sign) c.if-bits-width.false
    ∙ ap (Integer c.in-Integer.width)
    (same_sign c.in-Integer-shape.sign c.in-Integer.signed c.if-sign-signed.false) in
    let early = next_early slots type c.loop-link.begin c.loop-link.content c.args.links.now i
    c.in_ok-target-2.field-0 n within is c.node_at-node.ensures.is
    c.node_at-node.ensures.read c.if-node-begin.false c.if-node-content.false shape c.requires.early in
    omega (arith, early.1)

pub loop-link-preserved : goal.loop-link-preserved
loop-link-preserved c = λ rest.
    let i = c.loop-link.link-index in
    let slots = c.args.self.now.slots in
    let type : IntegerType = record { width = c.in-Integer.width; signed = c.in-Integer.signed } in
    let n = c.node_at-node.result in
    let within : i < length c.args.links.now = omega (arith, c.loop-link-test.true) in
    let is : get_or c.args.links.now i None ≡ Some c.in_ok-target-2.field-0 =
    sym (get_or_read c.args.links.now i c.link-item.result within c.link-item.is None)
    ∙ sym c.target-in-loop-link.ensures ∙ c.in_ok-target-2.was in
    let shape : n.shape ≡ Integer c.in-Integer.width c.in-Integer.signed =
    c.in-Integer-shape.is ∙ ap (λ w. Integer w c.in-Integer-shape.sign) c.if-bits-width.false
    ∙ ap (Integer c.in-Integer.width)
    (same_sign c.in-Integer-shape.sign c.in-Integer.signed c.if-sign-signed.false) in
    let next : AreNumbersAt slots type (c.loop-link.begin + c.in-Integer.width) (c.loop-link.content + 1)
    (drop (i + 1) c.args.links.now) =
    subst (λ w. AreNumbersAt slots type (c.loop-link.begin + w) (c.loop-link.content + 1)
    (drop (i + 1) c.args.links.now)) c.from.ensures rest in
    c.loop-link.invariant (numbers_next slots type c.loop-link.begin c.loop-link.content c.args.links.now i
    c.in_ok-target-2.field-0 n within is c.node_at-node.ensures.is
    c.if-node-begin.false c.if-node-content.false shape next)
