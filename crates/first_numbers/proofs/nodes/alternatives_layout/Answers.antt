use Rattle.std.proofs.Common.{arith, ap, refl, ◌∙◌, subst, ◌≡◌, drop, length}
use Rattle.pickle_types.specs.Table.{type_of, open_parts}
use Rattle.first_numbers.specs.Held.{TakesAlternative}
use Rattle.first_numbers.specs.Layouts.{alternatives_layout, none_tried}
use Rattle.first_numbers.proofs.Steps.{alternative_off, alternative_on, no_part_left}
use Rattle.first_numbers.proofs.nodes.alternatives_layout.Goals as goal

pub loop-at-init : goal.loop-at-init
loop-at-init c = record {
  within = omega arith;
  sound = rw c.new.ensures.items tt;
  so_far = λ nodes are. (
    none_tried,
    record { base = refl; need = refl; fault = refl; numbers = rw c.new.ensures.items refl },
    refl,
  );
}

pub returns-then-not-branch-clause-is : goal.returns-then-not-branch-clause-is
returns-then-not-branch-clause-is c = λ nodes are.
    let part = c.index-parts-at.result in
    let mine = c.index-known-part.result in
    let so_far = c.loop-at.invariant.so_far nodes are in
    alternative_off nodes c.args.known.now are c.args.parts.now c.loop-at.at part mine c.loop-at.all
    c.next_alternative.new.all (alternatives_layout (open_parts (type_of nodes) c.args.parts.now) none_tried)
    (omega (arith, c.loop-at-test.true))
    c.index-parts-at.is c.requires.below c.index-known-part.is so_far.0 so_far.1 so_far.2
    (subst (TakesAlternative part mine c.loop-at.all c.next_alternative.new.all) c.if-not-branch.true
    c.in_ok-next_alternative.ensures.is)

pub loop-at-preserved : goal.loop-at-preserved
loop-at-preserved c = record {
  within = omega (arith, c.loop-at-test.true);
  sound = c.in_ok-next_alternative.ensures.sound;
  so_far = λ nodes are.
      let part = c.index-parts-at.result in
      let mine = c.index-known-part.result in
      let so_far = c.loop-at.invariant.so_far nodes are in
      alternative_on nodes c.args.known.now are c.args.parts.now c.loop-at.at part mine c.loop-at.all
      c.next_alternative.new.all (alternatives_layout (open_parts (type_of nodes) c.args.parts.now) none_tried)
      (omega (arith, c.loop-at-test.true))
      c.index-parts-at.is c.requires.below c.index-known-part.is so_far.0 so_far.1 so_far.2
      (subst (TakesAlternative part mine c.loop-at.all c.next_alternative.new.all) c.if-not-branch.false
      c.in_ok-next_alternative.ensures.is);
}

pub returns-clause-is : goal.returns-clause-is
returns-clause-is c = λ nodes are.
    let last : c.loop-at.at ≡ length c.args.parts.now =
    omega (arith, c.loop-at-test.false, c.loop-at.invariant.within) in
    let so_far = c.loop-at.invariant.so_far nodes are in
    record {
      first = so_far.0;
      is = so_far.2 ∙ ap (λ i. alternatives_layout (open_parts (type_of nodes) (drop i c.args.parts.now)) so_far.0) last
          ∙ no_part_left (type_of nodes) c.args.parts.now so_far.0;
      holds = so_far.1;
    }
