use Rattle.std.proofs.Common.{arith, ◌≡◌, ◌-◌, drop, length, sym, subst}
use Rattle.std.proofs.lemmas.List.{drop_more, drop_all}
use Rattle.type_parts.specs.CanHave.{AreKnown, by_path}
use Rattle.type_parts.proofs.Known.{path_before}
use Rattle.type_parts.proofs.can_have.Finder.by_path.Goals as goal

pub loop-at-init : goal.loop-at-init
loop-at-init c = (
  omega arith,
  c.requires,
  λ goal are.
      subst (λ ss. AreKnown c.args.self.now.nodes.now c.args.known.items (by_path ss goal))
      (sym (drop_all (length c.args.steps.now) c.args.steps.now (omega arith))) are,
)

pub loop-at-preserved : goal.loop-at-preserved
loop-at-preserved c =
    let i = c.loop-at.invariant in
    let next = drop_more c.args.steps.now (c.loop-at.at - 1) c.index-steps-at.result (omega arith) in
    let next = rw (← c.index-steps-at.is) at next in (
      omega arith,
      c.in_ok-known.ensures.count,
      λ goal are.
          path_before c.args.self.now.nodes.now c.args.steps.now c.loop-at.at c.index-steps-at.result
          c.in_ok-known.known.items goal (omega arith) next (c.in_ok-known.ensures.each _ (i.2 goal are)),
    )

pub returns : goal.returns
returns c =
    let i = c.loop-at.invariant in
    let none : c.loop-at.at ≡ 0 = omega (arith, c.loop-at-test.false) in
    record {
      count = i.1;
      each = λ goal are. subst (λ k. AreKnown c.args.self.now.nodes.now c.loop-at.known.items
          (by_path (drop k c.args.steps.now) goal)) none (i.2 goal are);
    }
