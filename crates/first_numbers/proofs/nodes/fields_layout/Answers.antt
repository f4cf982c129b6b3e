use Rattle.std.proofs.Common.{arith, ap, ◌∙◌, subst, ◌≡◌, drop, length}
use Rattle.pickle_types.specs.Table.{type_of, open_fields}
use Rattle.first_numbers.specs.Held.{IsSoundStep, TakesField}
use Rattle.first_numbers.specs.Layouts.{fields_layout, none_passed}
use Rattle.first_numbers.proofs.Steps.{field_done, field_on, no_field_left}
use Rattle.first_numbers.proofs.nodes.fields_layout.Goals as goal

pub returns-in-Done-clause-is : goal.returns-in-Done-clause-is
returns-in-Done-clause-is c = λ nodes are.
    let field = c.index-fields-at.result in
    let mine = c.index-known-field.result in
    field_done nodes c.args.known.now are c.args.pinned c.args.fields.now c.loop-at.at field mine c.loop-at.b
    (fields_layout c.args.pinned (open_fields (type_of nodes) c.args.fields.now) none_passed)
    (omega (arith, c.loop-at-test.true))
    c.index-fields-at.is c.requires.below c.index-known-field.is (c.loop-at.invariant.so_far nodes are) c.in-Done.layout
    (subst (TakesField c.args.pinned field mine c.loop-at.b) c.in-Done.is c.in_ok-next.ensures.is)

pub loop-at-preserved : goal.loop-at-preserved
loop-at-preserved c = record {
  within = omega (arith, c.loop-at-test.true);
  counted = subst (IsSoundStep c.loop-at.b) c.in-On.is c.in_ok-next.ensures.sound
      ∙ omega (arith, c.loop-at.invariant.counted);
  so_far = λ nodes are.
      let field = c.index-fields-at.result in
      let mine = c.index-known-field.result in
      field_on nodes c.args.known.now are c.args.pinned c.args.fields.now c.loop-at.at field mine c.loop-at.b
      (fields_layout c.args.pinned (open_fields (type_of nodes) c.args.fields.now) none_passed)
      (omega (arith, c.loop-at-test.true))
      c.index-fields-at.is c.requires.below c.index-known-field.is (c.loop-at.invariant.so_far nodes are) c.in-On.next
      (subst (TakesField c.args.pinned field mine c.loop-at.b) c.in-On.is c.in_ok-next.ensures.is);
}

pub returns-clause-is : goal.returns-clause-is
returns-clause-is c = λ nodes are.
    let last : c.loop-at.at ≡ length c.args.fields.now =
    omega (arith, c.loop-at-test.false, c.loop-at.invariant.within) in
    c.loop-at.invariant.so_far nodes are
    ∙ ap (λ i. fields_layout c.args.pinned (open_fields (type_of nodes) (drop i c.args.fields.now)) c.loop-at.b) last
    ∙ no_field_left (type_of nodes) c.args.pinned c.args.fields.now c.loop-at.b
