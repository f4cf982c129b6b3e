use Rattle.std.proofs.Common.{rules, ◌≡◌, ℕ, ◌+◌, Ok, Err, refl, sym, ap, ◌∙◌, subst, arith}
use Rattle.std.proofs.lemmas.Result.{err_from_is_err_and}
use Rattle.std.proofs.lemmas.Int.{to_z-of_z}
use mir.Syntax.{w128}
use mir.Val.{SFits}
use Rattle.pickle_types.specs.Table.{term_of}
use Rattle.pickle_evaluation.specs.declared.operand.Operand.TheVariants as computing
use Rattle.pickle_evaluation.specs.declared.operand.Unvalued.TheVariants.{Fault}
use Rattle.pickle_meaning.specs.declared.faults.MapFaultKind.TheVariants as fault
use Rattle.pickle_meaning.specs.Arithmetic.{prefixed, to_integer, to_offset, in_unit}
use Rattle.pickle_meaning.specs.Values.{value_at}
use Rattle.pickle_evaluation.specs.Operands.{operand_of, Evaluated}
use Rattle.pickle_meaning.specs.Evaluation.{evaluation, operand_label, truth_of, leads_to, present, selected, settled, unless_settled, attribute_of, as_common, literal_length, between, element, and_operand, gives, chosen}
use Rattle.pickle_evaluation.specs.Comes.{computed_operand, infix_part, choice_part, index_part}
use Rattle.pickle_evaluation.proofs.Signed.{small_fits}
use Rattle.pickle_evaluation.proofs.Evaluations.{first_stops, goes_on, no_step}
use Rattle.pickle_evaluation.proofs.Arms.{computed_seen, stops_seen, seen_stops, seen_goes_on, seen_at, stepped_seen, seen_arm_stops, seen_arm_computes, seen_arm_faults, at_limit, is_led, is_not_led, leads, leads_not, arm_stops, arm_computes, arm_faults, arm_leads, arm_leads_not, arm_is, settles, settles_not, not_chosen, left_chosen, right_chosen}
use Rattle.pickle_evaluation.specs.Evaluating.{truth_label}
use Rattle.value_store.specs.Scalars.{scalar_label}
use Rattle.value_store.specs.Slots.{levels}
use Rattle.pickle_evaluation.proofs.expression.+evaluate.Goals as goal

pub evaluate-returns-in_err-tick-clause-is : goal.evaluate-returns-in_err-tick-clause-is
evaluate-returns-in_err-tick-clause-is t c nodes =
    let p = err_from_is_err_and c.from_residual.result c.from_residual.ensures.1 in
    rw (p.1, p.2) (no_step nodes c.args.meter.now.limit c.args.meter.now.steps c.tick.new.self.steps c.args.e.now
    (levels nodes c.args.store.now) c.in_err-tick.ensures.err
    (c.in_err-tick.ensures.err ∙ c.in_err-tick.ensures.refused.0 refl))

pub apply-returns-in_err-x-in-Prefix-clause-is : goal.apply-returns-in_err-x-in-Prefix-clause-is
unfolding evaluation
apply-returns-in_err-x-in-Prefix-clause-is t c nodes before after_step =
    let p = err_from_is_err_and c.from_residual.result c.from_residual.ensures.1 in
    rw (p.1, p.2, c.in-Prefix.is, ← c.deref.ensures)
    (seen_arm_stops nodes c.args.meter.now.limit before c.args.meter.now.steps c.look.new.meter.steps
    c.in_err-x-in-Prefix.field-0.0 (evaluation (term_of c.deref.result.now) (levels nodes c.args.store.now))
    (λ x. gives (prefixed c.in-Prefix.op (operand_label x))) after_step (c.in_err-x-in-Prefix.ensures.is nodes))

pub apply-returns-in_err-apply_prefix-in-Prefix-clause-is : goal.apply-returns-in_err-apply_prefix-in-Prefix-clause-is
unfolding evaluation
apply-returns-in_err-apply_prefix-in-Prefix-clause-is t c nodes before after_step =
    let p = err_from_is_err_and c.from_residual-in_err-apply_prefix-in-Prefix.result
    c.from_residual-in_err-apply_prefix-in-Prefix.ensures.1 in
    rw (p.1, p.2, c.in-Prefix.is, ← c.deref.ensures)
    (seen_arm_faults nodes c.args.meter.now.limit before c.args.meter.now.steps c.look.new.meter.steps
    c.in_ok-x-in-Prefix.x c.in_err-apply_prefix-in-Prefix.field-0.0
    (evaluation (term_of c.deref.result.now) (levels nodes c.args.store.now)) (prefixed c.in-Prefix.op) after_step
    (c.in_ok-x-in-Prefix.ensures.is nodes) c.in_err-apply_prefix-in-Prefix.ensures.is)

pub apply-returns-in_ok-apply_prefix-in-Prefix-clause-is : goal.apply-returns-in_ok-apply_prefix-in-Prefix-clause-is
unfolding evaluation
apply-returns-in_ok-apply_prefix-in-Prefix-clause-is t c nodes before after_step =
    rw (c.in-Prefix.is, ← c.deref.ensures)
    (seen_arm_computes nodes c.args.meter.now.limit before c.args.meter.now.steps c.look.new.meter.steps
    c.in_ok-x-in-Prefix.x c.in_ok-apply_prefix-in-Prefix.field-0
    (evaluation (term_of c.deref.result.now) (levels nodes c.args.store.now)) (prefixed c.in-Prefix.op) after_step
    (c.in_ok-x-in-Prefix.ensures.is nodes) c.in_ok-apply_prefix-in-Prefix.ensures.is)

pub apply-returns-in_err-x-in-ToInteger-clause-is : goal.apply-returns-in_err-x-in-ToInteger-clause-is
unfolding evaluation
apply-returns-in_err-x-in-ToInteger-clause-is t c nodes before after_step =
    let p =
    err_from_is_err_and c.from_residual-in_err-x-in-ToInteger.result c.from_residual-in_err-x-in-ToInteger.ensures.1 in
    rw (p.1, p.2, c.in-ToInteger.is, ← c.deref-in-ToInteger.ensures)
    (seen_arm_stops nodes c.args.meter.now.limit before c.args.meter.now.steps c.look-in-ToInteger.new.meter.steps
    c.in_err-x-in-ToInteger.field-0.0
    (evaluation (term_of c.deref-in-ToInteger.result.now) (levels nodes c.args.store.now))
    (λ x. gives (to_integer c.in-ToInteger.number (operand_label x))) after_step
    (c.in_err-x-in-ToInteger.ensures.is nodes))

pub apply-returns-in_err-to_integer-in-ToInteger-clause-is :
    goal.apply-returns-in_err-to_integer-in-ToInteger-clause-is
unfolding evaluation
apply-returns-in_err-to_integer-in-ToInteger-clause-is t c nodes before after_step =
    let p = err_from_is_err_and c.from_residual-in_err-to_integer-in-ToInteger.result
    c.from_residual-in_err-to_integer-in-ToInteger.ensures.1 in
    rw (p.1, p.2, c.in-ToInteger.is, ← c.deref-in-ToInteger.ensures)
    (seen_arm_faults nodes c.args.meter.now.limit before c.args.meter.now.steps c.look-in-ToInteger.new.meter.steps
    c.in_ok-x-in-ToInteger.x c.in_err-to_integer-in-ToInteger.field-0.0
    (evaluation (term_of c.deref-in-ToInteger.result.now) (levels nodes c.args.store.now))
    (to_integer c.in-ToInteger.number) after_step (c.in_ok-x-in-ToInteger.ensures.is nodes)
    c.in_err-to_integer-in-ToInteger.ensures.is)

pub apply-returns-in_ok-to_integer-in-ToInteger-clause-is :
    goal.apply-returns-in_ok-to_integer-in-ToInteger-clause-is
unfolding evaluation
apply-returns-in_ok-to_integer-in-ToInteger-clause-is t c nodes before after_step =
    rw (c.in-ToInteger.is, ← c.deref-in-ToInteger.ensures)
    (seen_arm_computes nodes c.args.meter.now.limit before c.args.meter.now.steps c.look-in-ToInteger.new.meter.steps
    c.in_ok-x-in-ToInteger.x c.in_ok-to_integer-in-ToInteger.field-0
    (evaluation (term_of c.deref-in-ToInteger.result.now) (levels nodes c.args.store.now))
    (to_integer c.in-ToInteger.number) after_step (c.in_ok-x-in-ToInteger.ensures.is nodes)
    c.in_ok-to_integer-in-ToInteger.ensures.is)

pub apply-returns-in_err-x-in-ToOffset-clause-is : goal.apply-returns-in_err-x-in-ToOffset-clause-is
unfolding evaluation
apply-returns-in_err-x-in-ToOffset-clause-is t c nodes before after_step =
    let p =
    err_from_is_err_and c.from_residual-in_err-x-in-ToOffset.result c.from_residual-in_err-x-in-ToOffset.ensures.1 in
    rw (p.1, p.2, c.in-ToOffset.is, ← c.deref-in-ToOffset.ensures)
    (seen_arm_stops nodes c.args.meter.now.limit before c.args.meter.now.steps c.look-in-ToOffset.new.meter.steps
    c.in_err-x-in-ToOffset.field-0.0
    (evaluation (term_of c.deref-in-ToOffset.result.now) (levels nodes c.args.store.now))
    (λ x. gives (to_offset c.in-ToOffset.number c.in-ToOffset.unit (operand_label x))) after_step
    (c.in_err-x-in-ToOffset.ensures.is nodes))

pub apply-returns-in_err-to_offset-in-ToOffset-clause-is : goal.apply-returns-in_err-to_offset-in-ToOffset-clause-is
unfolding evaluation
apply-returns-in_err-to_offset-in-ToOffset-clause-is t c nodes before after_step =
    let p = err_from_is_err_and c.from_residual-in_err-to_offset-in-ToOffset.result
    c.from_residual-in_err-to_offset-in-ToOffset.ensures.1 in
    rw (p.1, p.2, c.in-ToOffset.is, ← c.deref-in-ToOffset.ensures)
    (seen_arm_faults nodes c.args.meter.now.limit before c.args.meter.now.steps c.look-in-ToOffset.new.meter.steps
    c.in_ok-x-in-ToOffset.x c.in_err-to_offset-in-ToOffset.field-0.0
    (evaluation (term_of c.deref-in-ToOffset.result.now) (levels nodes c.args.store.now))
    (to_offset c.in-ToOffset.number c.in-ToOffset.unit) after_step (c.in_ok-x-in-ToOffset.ensures.is nodes)
    c.in_err-to_offset-in-ToOffset.ensures.is)

pub apply-returns-in_ok-to_offset-in-ToOffset-clause-is : goal.apply-returns-in_ok-to_offset-in-ToOffset-clause-is
unfolding evaluation
apply-returns-in_ok-to_offset-in-ToOffset-clause-is t c nodes before after_step =
    rw (c.in-ToOffset.is, ← c.deref-in-ToOffset.ensures)
    (seen_arm_computes nodes c.args.meter.now.limit before c.args.meter.now.steps c.look-in-ToOffset.new.meter.steps
    c.in_ok-x-in-ToOffset.x c.in_ok-to_offset-in-ToOffset.field-0
    (evaluation (term_of c.deref-in-ToOffset.result.now) (levels nodes c.args.store.now))
    (to_offset c.in-ToOffset.number c.in-ToOffset.unit) after_step (c.in_ok-x-in-ToOffset.ensures.is nodes)
    c.in_ok-to_offset-in-ToOffset.ensures.is)

pub apply-returns-in_err-x-in-InUnit-clause-is : goal.apply-returns-in_err-x-in-InUnit-clause-is
unfolding evaluation
apply-returns-in_err-x-in-InUnit-clause-is t c nodes before after_step =
    let p =
    err_from_is_err_and c.from_residual-in_err-x-in-InUnit.result c.from_residual-in_err-x-in-InUnit.ensures.1 in
    rw (p.1, p.2, c.in-InUnit.is, ← c.deref-in-InUnit.ensures)
    (seen_arm_stops nodes c.args.meter.now.limit before c.args.meter.now.steps c.look-in-InUnit.new.meter.steps
    c.in_err-x-in-InUnit.field-0.0 (evaluation (term_of c.deref-in-InUnit.result.now) (levels nodes c.args.store.now))
    (λ x. gives (in_unit c.in-InUnit.unit (operand_label x))) after_step (c.in_err-x-in-InUnit.ensures.is nodes))

pub apply-returns-in_err-in_unit-in-InUnit-clause-is : goal.apply-returns-in_err-in_unit-in-InUnit-clause-is
unfolding evaluation
apply-returns-in_err-in_unit-in-InUnit-clause-is t c nodes before after_step =
    let p = err_from_is_err_and c.from_residual-in_err-in_unit-in-InUnit.result
    c.from_residual-in_err-in_unit-in-InUnit.ensures.1 in
    rw (p.1, p.2, c.in-InUnit.is, ← c.deref-in-InUnit.ensures)
    (seen_arm_faults nodes c.args.meter.now.limit before c.args.meter.now.steps c.look-in-InUnit.new.meter.steps
    c.in_ok-x-in-InUnit.x c.in_err-in_unit-in-InUnit.field-0.0
    (evaluation (term_of c.deref-in-InUnit.result.now) (levels nodes c.args.store.now)) (in_unit c.in-InUnit.unit)
    after_step (c.in_ok-x-in-InUnit.ensures.is nodes) c.in_err-in_unit-in-InUnit.ensures.is)

pub apply-returns-in_ok-in_unit-in-InUnit-clause-is : goal.apply-returns-in_ok-in_unit-in-InUnit-clause-is
unfolding evaluation
apply-returns-in_ok-in_unit-in-InUnit-clause-is t c nodes before after_step =
    rw (c.in-InUnit.is, ← c.deref-in-InUnit.ensures)
    (seen_arm_computes nodes c.args.meter.now.limit before c.args.meter.now.steps c.look-in-InUnit.new.meter.steps
    c.in_ok-x-in-InUnit.x c.in_ok-in_unit-in-InUnit.field-0
    (evaluation (term_of c.deref-in-InUnit.result.now) (levels nodes c.args.store.now)) (in_unit c.in-InUnit.unit)
    after_step (c.in_ok-x-in-InUnit.ensures.is nodes) c.in_ok-in_unit-in-InUnit.ensures.is)

pub apply-returns-in_err-x-in-Attribute-clause-is : goal.apply-returns-in_err-x-in-Attribute-clause-is
unfolding evaluation
apply-returns-in_err-x-in-Attribute-clause-is t c nodes before after_step =
    let p =
    err_from_is_err_and c.from_residual-in_err-x-in-Attribute.result c.from_residual-in_err-x-in-Attribute.ensures.1 in
    rw (p.1, p.2, c.in-Attribute.is, ← c.deref-in-Attribute.ensures)
    (arm_stops nodes c.args.meter.now.limit c.args.meter.now.limit before c.args.meter.now.steps
    c.evaluate-in-Attribute.new.meter.steps c.in_err-x-in-Attribute.field-0.0
    (evaluation (term_of c.deref-in-Attribute.result.now) (levels nodes c.args.store.now))
    (λ p. gives (attribute_of c.in-Attribute.attribute p)) refl after_step (c.in_err-x-in-Attribute.ensures.is nodes))

pub apply-returns-in_err-attribute_of-in-Attribute-clause-is :
    goal.apply-returns-in_err-attribute_of-in-Attribute-clause-is
unfolding evaluation
apply-returns-in_err-attribute_of-in-Attribute-clause-is t c nodes before after_step =
    let p = err_from_is_err_and c.from_residual-in_err-attribute_of-in-Attribute.result
    c.from_residual-in_err-attribute_of-in-Attribute.ensures.1 in
    rw (p.1, p.2, c.in-Attribute.is, ← c.deref-in-Attribute.ensures)
    (arm_faults nodes c.args.meter.now.limit c.args.meter.now.limit before c.args.meter.now.steps
    c.evaluate-in-Attribute.new.meter.steps c.in_ok-x-in-Attribute.x c.in_err-attribute_of-in-Attribute.field-0.0
    (evaluation (term_of c.deref-in-Attribute.result.now) (levels nodes c.args.store.now))
    (λ p. attribute_of c.in-Attribute.attribute p) refl after_step (c.in_ok-x-in-Attribute.ensures.is nodes)
    (c.in_err-attribute_of-in-Attribute.ensures.is nodes))

pub apply-returns-in_ok-attribute_of-in-Attribute-clause-is :
    goal.apply-returns-in_ok-attribute_of-in-Attribute-clause-is
unfolding evaluation
apply-returns-in_ok-attribute_of-in-Attribute-clause-is t c nodes before after_step =
    rw (c.in-Attribute.is, ← c.deref-in-Attribute.ensures)
    (arm_computes nodes c.args.meter.now.limit c.args.meter.now.limit before c.args.meter.now.steps
    c.evaluate-in-Attribute.new.meter.steps c.in_ok-x-in-Attribute.x c.in_ok-attribute_of-in-Attribute.field-0
    (evaluation (term_of c.deref-in-Attribute.result.now) (levels nodes c.args.store.now))
    (λ p. attribute_of c.in-Attribute.attribute p) refl after_step (c.in_ok-x-in-Attribute.ensures.is nodes)
    (c.in_ok-attribute_of-in-Attribute.ensures.is nodes))

pub apply-returns-in_err-x-in-Select-clause-is : goal.apply-returns-in_err-x-in-Select-clause-is
unfolding evaluation
apply-returns-in_err-x-in-Select-clause-is t c nodes before after_step =
    let p =
    err_from_is_err_and c.from_residual-in_err-x-in-Select.result c.from_residual-in_err-x-in-Select.ensures.1 in
    rw (p.1, p.2, c.in-Select.is, ← c.deref-in-Select.ensures)
    (arm_stops nodes c.args.meter.now.limit c.args.meter.now.limit before c.args.meter.now.steps
    c.evaluate.new.meter.steps c.in_err-x-in-Select.field-0.0
    (evaluation (term_of c.deref-in-Select.result.now) (levels nodes c.args.store.now))
    (λ p. leads_to (present (selected p c.in-Select.place))) refl after_step (c.in_err-x-in-Select.ensures.is nodes))

pub apply-returns-in_err-select-in-Select-clause-is : goal.apply-returns-in_err-select-in-Select-clause-is
unfolding evaluation
apply-returns-in_err-select-in-Select-clause-is t c nodes before after_step =
    let p = err_from_is_err_and c.from_residual-in_err-select-in-Select.result
    c.from_residual-in_err-select-in-Select.ensures.1 in
    rw (p.1, p.2, c.in-Select.is, ← c.deref-in-Select.ensures)
    (arm_leads_not nodes c.args.meter.now.limit c.args.meter.now.limit before c.args.meter.now.steps
    c.evaluate.new.meter.steps c.in_ok-x-in-Select.x c.in_err-select-in-Select.field-0.0
    (evaluation (term_of c.deref-in-Select.result.now) (levels nodes c.args.store.now))
    (λ p. present (selected p c.in-Select.place)) refl after_step (c.in_ok-x-in-Select.ensures.is nodes)
    (c.in_err-select-in-Select.ensures.is nodes))

pub apply-returns-in_ok-select-in-Select-clause-is : goal.apply-returns-in_ok-select-in-Select-clause-is
unfolding evaluation
apply-returns-in_ok-select-in-Select-clause-is t c nodes before after_step =
    rw (c.in-Select.is, ← c.deref-in-Select.ensures)
    (arm_leads nodes c.args.meter.now.limit c.args.meter.now.limit before c.args.meter.now.steps
    c.evaluate.new.meter.steps c.in_ok-x-in-Select.x c.in_ok-select-in-Select.field-0
    (evaluation (term_of c.deref-in-Select.result.now) (levels nodes c.args.store.now))
    (λ p. present (selected p c.in-Select.place)) refl after_step (c.in_ok-x-in-Select.ensures.is nodes)
    (c.in_ok-select-in-Select.ensures.is nodes))

pub evaluate-returns-in-Number-clause-is : goal.evaluate-returns-in-Number-clause-is
unfolding evaluation
evaluate-returns-in-Number-clause-is t c nodes =
    let fits : SFits w128 c.from.result = search rules in
    let tick = c.in_ok-tick.ensures.ok in
    rw (c.in-Number.is, to_z-of_z w128 c.from.result fits, c.from.ensures) (refl, tick)

pub evaluate-returns-in-Text-clause-is : goal.evaluate-returns-in-Text-clause-is
unfolding evaluation
evaluate-returns-in-Text-clause-is t c nodes =
    let tick = c.in_ok-tick.ensures.ok in
    rw (c.in-Text.is, c.deref.ensures.value) (refl, tick)

pub evaluate-returns-in-Some-clause-is : goal.evaluate-returns-in-Some-clause-is
unfolding evaluation
evaluate-returns-in-Some-clause-is t c nodes =
    let v = sym (c.in-Some.ensures nodes) in
    rw c.in-Name.is
    (arm_is nodes c.args.meter.now.limit c.tick.new.self.limit c.args.meter.now.steps c.tick.new.self.steps
    c.tick.new.self.steps (Ok (computing.Value c.in-Some.value))
    (leads_to (present (value_at (levels nodes c.args.store.now) c.in-Name.level c.in-Name.place)))
    c.in_ok-tick.ensures.limit c.in_ok-tick.ensures.ok
    (leads nodes c.tick.new.self.limit c.tick.new.self.steps (computing.Value c.in-Some.value)
    (present (value_at (levels nodes c.args.store.now) c.in-Name.level c.in-Name.place)) (is_led _ _ v)))

pub evaluate-returns-in-None-clause-is : goal.evaluate-returns-in-None-clause-is
unfolding evaluation
evaluate-returns-in-None-clause-is t c nodes =
    let v = sym (c.in-None.ensures nodes) in
    rw c.in-Name.is
    (arm_is nodes c.args.meter.now.limit c.tick.new.self.limit c.args.meter.now.steps c.tick.new.self.steps
    c.tick.new.self.steps (Err (Fault fault.Absent))
    (leads_to (present (value_at (levels nodes c.args.store.now) c.in-Name.level c.in-Name.place)))
    c.in_ok-tick.ensures.limit c.in_ok-tick.ensures.ok
    (leads_not nodes c.tick.new.self.limit c.tick.new.self.steps fault.Absent
    (present (value_at (levels nodes c.args.store.now) c.in-Name.level c.in-Name.place)) (is_not_led _ v)))

pub evaluate-returns-in-Bracket-clause-is : goal.evaluate-returns-in-Bracket-clause-is
unfolding evaluation
evaluate-returns-in-Bracket-clause-is t c nodes =
    rw (c.in-Bracket.is, ← c.deref-in-Bracket.ensures)
    (arm_is nodes c.args.meter.now.limit c.tick.new.self.limit c.args.meter.now.steps c.tick.new.self.steps
    c.evaluate.new.meter.steps c.evaluate.result
    (evaluation (term_of c.deref-in-Bracket.result.now) (levels nodes c.args.store.now)) c.in_ok-tick.ensures.limit
    c.in_ok-tick.ensures.ok (c.evaluate.ensures.is nodes))

pub evaluate-returns-in_err-infix-in-Infix-clause-is : goal.evaluate-returns-in_err-infix-in-Infix-clause-is
unfolding evaluation
evaluate-returns-in_err-infix-in-Infix-clause-is t c nodes =
    let p =
    err_from_is_err_and c.from_residual-in_err-infix-in-Infix.result c.from_residual-in_err-infix-in-Infix.ensures.1 in
    rw (p.1, p.2, c.in-Infix.is, ← c.deref-in-Infix.ensures, ← c.deref-in-Infix-2.ensures)
    (arm_is nodes c.args.meter.now.limit c.tick.new.self.limit c.args.meter.now.steps c.tick.new.self.steps
    c.infix.new.meter.steps (Err c.in_err-infix-in-Infix.field-0.0) (infix_part c.in-Infix.op
    (term_of c.deref-in-Infix.result.now) (term_of c.deref-in-Infix-2.result.now) (levels nodes c.args.store.now))
    c.in_ok-tick.ensures.limit c.in_ok-tick.ensures.ok (c.in_err-infix-in-Infix.ensures.is nodes))

pub evaluate-returns-in_ok-infix-in-Infix-clause-is : goal.evaluate-returns-in_ok-infix-in-Infix-clause-is
unfolding evaluation
evaluate-returns-in_ok-infix-in-Infix-clause-is t c nodes =
    rw (c.in-Infix.is, ← c.deref-in-Infix.ensures, ← c.deref-in-Infix-2.ensures)
    (arm_is nodes c.args.meter.now.limit c.tick.new.self.limit c.args.meter.now.steps c.tick.new.self.steps
    c.infix.new.meter.steps (Ok (computing.Scalar c.in_ok-infix-in-Infix.field-0)) (infix_part c.in-Infix.op
    (term_of c.deref-in-Infix.result.now) (term_of c.deref-in-Infix-2.result.now) (levels nodes c.args.store.now))
    c.in_ok-tick.ensures.limit c.in_ok-tick.ensures.ok (c.in_ok-infix-in-Infix.ensures.is nodes))

pub evaluate-returns-in-Choice-clause-is : goal.evaluate-returns-in-Choice-clause-is
unfolding evaluation
evaluate-returns-in-Choice-clause-is t c nodes =
    rw (c.in-Choice.is, ← c.deref-in-Choice.ensures, ← c.deref-in-Choice-2.ensures, ← c.deref-in-Choice-3.ensures)
    (arm_is nodes c.args.meter.now.limit c.tick.new.self.limit c.args.meter.now.steps c.tick.new.self.steps
    c.choice.new.meter.steps c.choice.result (choice_part c.in-Choice.common (term_of c.deref-in-Choice.result.now)
    (term_of c.deref-in-Choice-2.result.now) (term_of c.deref-in-Choice-3.result.now) (levels nodes c.args.store.now))
    c.in_ok-tick.ensures.limit c.in_ok-tick.ensures.ok (c.choice.ensures.is nodes))

pub evaluate-returns-in-Index-clause-is : goal.evaluate-returns-in-Index-clause-is
unfolding evaluation
evaluate-returns-in-Index-clause-is t c nodes =
    rw (c.in-Index.is, ← c.deref-in-Index.ensures, ← c.deref-in-Index-2.ensures)
    (arm_is nodes c.args.meter.now.limit c.tick.new.self.limit c.args.meter.now.steps c.tick.new.self.steps
    c.index.new.meter.steps c.index.result (index_part (term_of c.deref-in-Index.result.now)
    (term_of c.deref-in-Index-2.result.now) (levels nodes c.args.store.now))
    c.in_ok-tick.ensures.limit c.in_ok-tick.ensures.ok (c.index.ensures.is nodes))

pub choice-returns-in_err-t-clause-is : goal.choice-returns-in_err-t-clause-is
choice-returns-in_err-t-clause-is t c nodes =
    let p = err_from_is_err_and c.from_residual.result c.from_residual.ensures.1 in
    rw (p.1, p.2) (seen_stops nodes c.args.meter.now.limit c.args.meter.now.steps c.look.new.meter.steps
    c.in_err-t.field-0.0 (evaluation (term_of c.args.c.now) (levels nodes c.args.store.now)) (λ t.
    and_operand (chosen (truth_of (operand_label t)) (evaluation (term_of c.args.x.now) (levels nodes c.args.store.now))
    (evaluation (term_of c.args.y.now) (levels nodes c.args.store.now)))
    (λ z. gives (as_common c.args.common.now (operand_label z)))) (c.in_err-t.ensures.is nodes))

pub choice-returns-in_err-truth_of-clause-is : goal.choice-returns-in_err-truth_of-clause-is
choice-returns-in_err-truth_of-clause-is t c nodes =
    let p = err_from_is_err_and c.from_residual-in_err-truth_of.result c.from_residual-in_err-truth_of.ensures.1 in
    rw (p.1, p.2) (seen_goes_on nodes c.args.meter.now.limit c.args.meter.now.steps c.look.new.meter.steps
    c.look.new.meter.steps c.in_ok-t.t (Err (Fault c.in_err-truth_of.field-0.0))
    (evaluation (term_of c.args.c.now) (levels nodes c.args.store.now)) (λ t.
    and_operand (chosen (truth_of (operand_label t)) (evaluation (term_of c.args.x.now) (levels nodes c.args.store.now))
    (evaluation (term_of c.args.y.now) (levels nodes c.args.store.now)))
    (λ z. gives (as_common c.args.common.now (operand_label z)))) (c.in_ok-t.ensures.is nodes)
    (λ t held. not_chosen nodes c.args.meter.now.limit c.look.new.meter.steps (truth_of (operand_label t))
    c.in_err-truth_of.field-0.0 (evaluation (term_of c.args.x.now) (levels nodes c.args.store.now))
    (evaluation (term_of c.args.y.now) (levels nodes c.args.store.now))
    (λ z. gives (as_common c.args.common.now (operand_label z)))
    (sym (c.in_err-truth_of.ensures (operand_label t) held))))

pub choice-returns-then-branch-clause-is : goal.choice-returns-then-branch-clause-is
choice-returns-then-branch-clause-is t c nodes =
    seen_goes_on nodes c.args.meter.now.limit c.args.meter.now.steps c.look.new.meter.steps c.evaluate.new.meter.steps
    c.in_ok-t.t c.chosen.result (evaluation (term_of c.args.c.now) (levels nodes c.args.store.now)) (λ t.
    and_operand (chosen (truth_of (operand_label t)) (evaluation (term_of c.args.x.now) (levels nodes c.args.store.now))
    (evaluation (term_of c.args.y.now) (levels nodes c.args.store.now)))
    (λ z. gives (as_common c.args.common.now (operand_label z)))) (c.in_ok-t.ensures.is nodes)
    (λ t held. left_chosen nodes c.args.meter.now.limit c.look.new.meter.steps c.evaluate.new.meter.steps
    c.chosen.result (truth_of (operand_label t)) (evaluation (term_of c.args.x.now) (levels nodes c.args.store.now))
    (evaluation (term_of c.args.y.now) (levels nodes c.args.store.now))
    (λ z. gives (as_common c.args.common.now (operand_label z)))
    (sym (c.in_ok-truth_of.ensures (operand_label t) held) ∙ ap Ok c.if-branch.true)
    (c.chosen.ensures.is nodes c.args.meter.now.limit c.look.new.meter.steps c.evaluate.new.meter.steps
    (evaluation (term_of c.args.x.now) (levels nodes c.args.store.now))
    (at_limit nodes c.look.new.meter.limit c.args.meter.now.limit c.look.new.meter.steps c.evaluate.new.meter.steps
    c.evaluate.result (evaluation (term_of c.args.x.now) (levels nodes c.args.store.now)) c.look.ensures.meter.limit
    (c.evaluate.ensures.is nodes))))

pub choice-returns-else-branch-clause-is : goal.choice-returns-else-branch-clause-is
choice-returns-else-branch-clause-is t c nodes =
    seen_goes_on nodes c.args.meter.now.limit c.args.meter.now.steps c.look.new.meter.steps
    c.evaluate-else-branch.new.meter.steps c.in_ok-t.t c.chosen-else-branch.result
    (evaluation (term_of c.args.c.now) (levels nodes c.args.store.now)) (λ t.
    and_operand (chosen (truth_of (operand_label t)) (evaluation (term_of c.args.x.now) (levels nodes c.args.store.now))
    (evaluation (term_of c.args.y.now) (levels nodes c.args.store.now)))
    (λ z. gives (as_common c.args.common.now (operand_label z)))) (c.in_ok-t.ensures.is nodes)
    (λ t held. right_chosen nodes c.args.meter.now.limit c.look.new.meter.steps c.evaluate-else-branch.new.meter.steps
    c.chosen-else-branch.result (truth_of (operand_label t))
    (evaluation (term_of c.args.x.now) (levels nodes c.args.store.now))
    (evaluation (term_of c.args.y.now) (levels nodes c.args.store.now))
    (λ z. gives (as_common c.args.common.now (operand_label z)))
    (sym (c.in_ok-truth_of.ensures (operand_label t) held) ∙ ap Ok c.if-branch.false)
    (c.chosen-else-branch.ensures.is nodes c.args.meter.now.limit c.look.new.meter.steps
    c.evaluate-else-branch.new.meter.steps (evaluation (term_of c.args.y.now) (levels nodes c.args.store.now)) (at_limit
    nodes c.look.new.meter.limit c.args.meter.now.limit c.look.new.meter.steps c.evaluate-else-branch.new.meter.steps
    c.evaluate-else-branch.result (evaluation (term_of c.args.y.now) (levels nodes c.args.store.now))
    c.look.ensures.meter.limit (c.evaluate-else-branch.ensures.is nodes))))

pub index-returns-in_err-p-clause-is : goal.index-returns-in_err-p-clause-is
index-returns-in_err-p-clause-is t c nodes =
    let p = err_from_is_err_and c.from_residual.result c.from_residual.ensures.1 in
    rw (p.1, p.2) (first_stops nodes c.args.meter.now.limit c.args.meter.now.steps c.evaluate.new.meter.steps
    c.in_err-p.field-0.0 (evaluation (term_of c.args.e.now) (levels nodes c.args.store.now)) (λ p. and_operand
    (evaluation (term_of c.args.i.now) (levels nodes c.args.store.now)) (λ n. leads_to (element p (operand_label n))))
    (c.in_err-p.ensures.is nodes))

pub index-returns-in_err-n-clause-is : goal.index-returns-in_err-n-clause-is
index-returns-in_err-n-clause-is t c nodes =
    let p = err_from_is_err_and c.from_residual-in_err-n.result c.from_residual-in_err-n.ensures.1 in
    rw (p.1, p.2)
    (goes_on nodes c.args.meter.now.limit c.args.meter.now.steps c.evaluate.new.meter.steps c.look.new.meter.steps
    c.in_ok-p.p (Err c.in_err-n.field-0.0) (evaluation (term_of c.args.e.now) (levels nodes c.args.store.now)) (λ p.
    and_operand (evaluation (term_of c.args.i.now) (levels nodes c.args.store.now))
    (λ n. leads_to (element p (operand_label n)))) (c.in_ok-p.ensures.is nodes)
    (seen_stops nodes c.args.meter.now.limit c.evaluate.new.meter.steps c.look.new.meter.steps c.in_err-n.field-0.0
    (evaluation (term_of c.args.i.now) (levels nodes c.args.store.now))
    (λ n. leads_to (element (operand_of nodes c.in_ok-p.p) (operand_label n)))
    (seen_at nodes c.args.meter.now.limit c.evaluate.new.meter.limit c.evaluate.new.meter.steps c.look.new.meter.steps
    (Err c.in_err-n.field-0.0) (evaluation (term_of c.args.i.now) (levels nodes c.args.store.now))
    c.evaluate.ensures.meter.limit (c.in_err-n.ensures.is nodes))))

pub index-returns-in_err-element-clause-is : goal.index-returns-in_err-element-clause-is
index-returns-in_err-element-clause-is t c nodes =
    let p = err_from_is_err_and c.from_residual-in_err-element.result c.from_residual-in_err-element.ensures.1 in
    rw (p.1, p.2) (goes_on nodes c.args.meter.now.limit c.args.meter.now.steps c.evaluate.new.meter.steps
    c.look.new.meter.steps c.in_ok-p.p (Err (Fault c.in_err-element.field-0.0))
    (evaluation (term_of c.args.e.now) (levels nodes c.args.store.now)) (λ p. and_operand
    (evaluation (term_of c.args.i.now) (levels nodes c.args.store.now)) (λ n. leads_to (element p (operand_label n))))
    (c.in_ok-p.ensures.is nodes)
    (seen_goes_on nodes c.args.meter.now.limit c.evaluate.new.meter.steps c.look.new.meter.steps c.look.new.meter.steps
    c.in_ok-n.n (Err (Fault c.in_err-element.field-0.0))
    (evaluation (term_of c.args.i.now) (levels nodes c.args.store.now))
    (λ n. leads_to (element (operand_of nodes c.in_ok-p.p) (operand_label n)))
    (seen_at nodes c.args.meter.now.limit c.evaluate.new.meter.limit c.evaluate.new.meter.steps c.look.new.meter.steps
    (Ok c.in_ok-n.n) (evaluation (term_of c.args.i.now) (levels nodes c.args.store.now)) c.evaluate.ensures.meter.limit
    (c.in_ok-n.ensures.is nodes))
    (λ n held. leads_not nodes c.args.meter.now.limit c.look.new.meter.steps c.in_err-element.field-0.0
    (element (operand_of nodes c.in_ok-p.p) (operand_label n))
    (c.in_err-element.ensures.is nodes (operand_label n) held))))

pub index-returns-clause-is : goal.index-returns-clause-is
index-returns-clause-is t c nodes =
    goes_on nodes c.args.meter.now.limit c.args.meter.now.steps c.evaluate.new.meter.steps c.look.new.meter.steps
    c.in_ok-p.p (Ok c.in_ok-element.field-0) (evaluation (term_of c.args.e.now) (levels nodes c.args.store.now)) (λ p.
    and_operand (evaluation (term_of c.args.i.now) (levels nodes c.args.store.now))
    (λ n. leads_to (element p (operand_label n)))) (c.in_ok-p.ensures.is nodes)
    (seen_goes_on nodes c.args.meter.now.limit c.evaluate.new.meter.steps c.look.new.meter.steps c.look.new.meter.steps
    c.in_ok-n.n (Ok c.in_ok-element.field-0) (evaluation (term_of c.args.i.now) (levels nodes c.args.store.now))
    (λ n. leads_to (element (operand_of nodes c.in_ok-p.p) (operand_label n)))
    (seen_at nodes c.args.meter.now.limit c.evaluate.new.meter.limit c.evaluate.new.meter.steps c.look.new.meter.steps
    (Ok c.in_ok-n.n) (evaluation (term_of c.args.i.now) (levels nodes c.args.store.now)) c.evaluate.ensures.meter.limit
    (c.in_ok-n.ensures.is nodes))
    (λ n held. leads nodes c.args.meter.now.limit c.look.new.meter.steps c.in_ok-element.field-0
    (element (operand_of nodes c.in_ok-p.p) (operand_label n))
    (c.in_ok-element.ensures.is nodes (operand_label n) held)))

pub infix-returns-in_err-left-clause-is : goal.infix-returns-in_err-left-clause-is
infix-returns-in_err-left-clause-is t c nodes =
    let p = err_from_is_err_and c.from_residual.result c.from_residual.ensures.1 in
    rw (p.1, p.2) (seen_stops nodes c.args.meter.now.limit c.args.meter.now.steps c.look.new.meter.steps
    c.in_err-left.field-0.0 (evaluation (term_of c.args.a.now) (levels nodes c.args.store.now)) (λ x.
    unless_settled (settled c.args.op (truth_of (operand_label x)))
    (and_operand (evaluation (term_of c.args.b.now) (levels nodes c.args.store.now)) (λ y.
    between c.args.op (literal_length (term_of c.args.a.now) + literal_length (term_of c.args.b.now)) (operand_label x)
    (operand_label y))))
    (c.in_err-left.ensures.is nodes))

pub infix-returns-in-Some-clause-is : goal.infix-returns-in-Some-clause-is
infix-returns-in-Some-clause-is t c nodes =
    seen_goes_on nodes c.args.meter.now.limit c.args.meter.now.steps c.look.new.meter.steps c.look.new.meter.steps
    c.in_ok-left.left (Ok (computing.Scalar c.truth.result))
    (evaluation (term_of c.args.a.now) (levels nodes c.args.store.now)) (λ x.
    unless_settled (settled c.args.op (truth_of (operand_label x)))
    (and_operand (evaluation (term_of c.args.b.now) (levels nodes c.args.store.now)) (λ y.
    between c.args.op (literal_length (term_of c.args.a.now) + literal_length (term_of c.args.b.now)) (operand_label x)
    (operand_label y))))
    (c.in_ok-left.ensures.is nodes)
    (λ x held.
    settles nodes c.args.meter.now.limit c.look.new.meter.steps (settled c.args.op (truth_of (operand_label x)))
    c.in-Some.holds c.truth.result (and_operand (evaluation (term_of c.args.b.now) (levels nodes c.args.store.now))
    (λ y. between c.args.op (literal_length (term_of c.args.a.now) + literal_length (term_of c.args.b.now))
    (operand_label x) (operand_label y)))
    (ap (settled c.args.op) (sym (c.truth_of.ensures (operand_label x) held))
    ∙ sym c.settled_truth.ensures ∙ c.in-Some.is)
    c.truth.ensures.is)

pub infix-returns-in_err-right-clause-is : goal.infix-returns-in_err-right-clause-is
infix-returns-in_err-right-clause-is t c nodes =
    let p = err_from_is_err_and c.from_residual-in_err-right.result c.from_residual-in_err-right.ensures.1 in
    rw (p.1, p.2)
    (seen_goes_on nodes c.args.meter.now.limit c.args.meter.now.steps c.look.new.meter.steps c.look-2.new.meter.steps
    c.in_ok-left.left (Err c.in_err-right.field-0.0) (evaluation (term_of c.args.a.now) (levels nodes c.args.store.now))
    (λ x. unless_settled (settled c.args.op (truth_of (operand_label x)))
    (and_operand (evaluation (term_of c.args.b.now) (levels nodes c.args.store.now)) (λ y.
    between c.args.op (literal_length (term_of c.args.a.now) + literal_length (term_of c.args.b.now)) (operand_label x)
    (operand_label y))))
    (c.in_ok-left.ensures.is nodes)
    (λ x held. settles_not nodes c.args.meter.now.limit c.look.new.meter.steps c.look-2.new.meter.steps
    (Err c.in_err-right.field-0.0) (settled c.args.op (truth_of (operand_label x)))
    (and_operand (evaluation (term_of c.args.b.now) (levels nodes c.args.store.now)) (λ y.
    between c.args.op (literal_length (term_of c.args.a.now) + literal_length (term_of c.args.b.now)) (operand_label x)
    (operand_label y)))
    (ap (settled c.args.op) (sym (c.truth_of.ensures (operand_label x) held))
    ∙ sym c.settled_truth.ensures ∙ c.in_default.is)
    (seen_stops nodes c.args.meter.now.limit c.look.new.meter.steps c.look-2.new.meter.steps c.in_err-right.field-0.0
    (evaluation (term_of c.args.b.now) (levels nodes c.args.store.now)) (λ y. between c.args.op
    (literal_length (term_of c.args.a.now) + literal_length (term_of c.args.b.now)) (operand_label x) (operand_label y))
    (seen_at nodes c.args.meter.now.limit c.look.new.meter.limit c.look.new.meter.steps c.look-2.new.meter.steps
    (Err c.in_err-right.field-0.0) (evaluation (term_of c.args.b.now) (levels nodes c.args.store.now))
    c.look.ensures.meter.limit (c.in_err-right.ensures.is nodes)))))

pub infix-returns-clause-is : goal.infix-returns-clause-is
infix-returns-clause-is t c nodes =
    let n : c.literal_length.result + c.literal_length-2.result
    ≡ (literal_length (term_of c.args.a.now) + literal_length (term_of c.args.b.now)) =
    rw (c.literal_length.ensures.is, c.literal_length-2.ensures.is) refl in
    let l : c.look-2.new.meter.limit ≡ c.args.meter.now.limit =
    c.look-2.ensures.meter.limit ∙ c.look.ensures.meter.limit in
    seen_goes_on nodes c.args.meter.now.limit c.args.meter.now.steps c.look.new.meter.steps c.between.new.meter.steps
    c.in_ok-left.left (computed_operand c.between.result)
    (evaluation (term_of c.args.a.now) (levels nodes c.args.store.now)) (λ x.
    unless_settled (settled c.args.op (truth_of (operand_label x)))
    (and_operand (evaluation (term_of c.args.b.now) (levels nodes c.args.store.now)) (λ y.
    between c.args.op (literal_length (term_of c.args.a.now) + literal_length (term_of c.args.b.now)) (operand_label x)
    (operand_label y))))
    (c.in_ok-left.ensures.is nodes)
    (λ x held. settles_not nodes c.args.meter.now.limit c.look.new.meter.steps c.between.new.meter.steps
    (computed_operand c.between.result) (settled c.args.op (truth_of (operand_label x)))
    (and_operand (evaluation (term_of c.args.b.now) (levels nodes c.args.store.now)) (λ y.
    between c.args.op (literal_length (term_of c.args.a.now) + literal_length (term_of c.args.b.now)) (operand_label x)
    (operand_label y)))
    (ap (settled c.args.op) (sym (c.truth_of.ensures (operand_label x) held))
    ∙ sym c.settled_truth.ensures ∙ c.in_default.is)
    (seen_goes_on nodes c.args.meter.now.limit c.look.new.meter.steps c.look-2.new.meter.steps c.between.new.meter.steps
    c.in_ok-right.right (computed_operand c.between.result)
    (evaluation (term_of c.args.b.now) (levels nodes c.args.store.now)) (λ y. between c.args.op
    (literal_length (term_of c.args.a.now) + literal_length (term_of c.args.b.now)) (operand_label x) (operand_label y))
    (seen_at nodes c.args.meter.now.limit c.look.new.meter.limit c.look.new.meter.steps c.look-2.new.meter.steps
    (Ok c.in_ok-right.right) (evaluation (term_of c.args.b.now) (levels nodes c.args.store.now))
    c.look.ensures.meter.limit (c.in_ok-right.ensures.is nodes))
    (λ y is_y.
    subst (λ (k : ℕ). Evaluated nodes c.args.meter.now.limit c.look-2.new.meter.steps c.between.new.meter.steps
    (computed_operand c.between.result) (between c.args.op k (operand_label x) (operand_label y))) n
    (at_limit nodes c.look-2.new.meter.limit c.args.meter.now.limit c.look-2.new.meter.steps c.between.new.meter.steps
    (computed_operand c.between.result)
    (between c.args.op (c.literal_length.result + c.literal_length-2.result) (operand_label x) (operand_label y)) l
    (c.between.ensures.is nodes (operand_label x) (operand_label y) held is_y)))))

pub look-returns-in_err-tick-clause-is : goal.look-returns-in_err-tick-clause-is
look-returns-in_err-tick-clause-is t c nodes =
    let p = err_from_is_err_and c.from_residual.result c.from_residual.ensures.1 in
    let same = c.in_err-tick.ensures.err in
    let last = same ∙ c.in_err-tick.ensures.refused.0 refl in
    let one = c.in-Some.ensures.is nodes in
    rw (p.1, p.2, one.3) (last, omega (arith, same, last))

pub look-returns-in-Some-clause-is : goal.look-returns-in-Some-clause-is
look-returns-in-Some-clause-is t c nodes =
    let one = c.in-Some.ensures.is nodes in
    let n =
    to_z-of_z w128 c.in-Some.n.number (small_fits c.in-Some.n.of.signed c.in-Some.n.number c.in-Some.ensures.width.1) in
    rw (n, one.3) (one.0, one.1, one.2, c.in_ok-tick.ensures.ok)

pub look-returns-in_err-take_steps-clause-is : goal.look-returns-in_err-take_steps-clause-is
look-returns-in_err-take_steps-clause-is t c nodes =
    let p = err_from_is_err_and c.from_residual-in_err-take_steps.result c.from_residual-in_err-take_steps.ensures.1 in
    let found = c.in-Some-comparison.ensures nodes in
    rw (p.1, p.2, found.3) c.in_err-take_steps.ensures.err

pub look-returns-in-Some-comparison-clause-is : goal.look-returns-in-Some-comparison-clause-is
look-returns-in-Some-comparison-clause-is t c nodes =
    let found = c.in-Some-comparison.ensures nodes in
    let same : truth_label c.in-Some-comparison.holds ≡ scalar_label c.truth.result =
    let e = c.truth.ensures.is in cc in
    rw found.3 (found.0, found.1, found.2 ∙ same, c.in_ok-take_steps.ensures.ok)

pub look-returns-in_err-tick-in-Infix-clause-is : goal.look-returns-in_err-tick-in-Infix-clause-is
look-returns-in_err-tick-in-Infix-clause-is t c nodes =
    let p =
    err_from_is_err_and c.from_residual-in_err-tick-in-Infix.result c.from_residual-in_err-tick-in-Infix.ensures.1 in
    rw (p.1, p.2) (no_step nodes c.args.meter.now.limit c.args.meter.now.steps c.tick-in-Infix.new.self.steps
    c.args.e.now (levels nodes c.args.store.now) c.in_err-tick-in-Infix.ensures.err
    (c.in_err-tick-in-Infix.ensures.err ∙ c.in_err-tick-in-Infix.ensures.refused.0 refl))

pub look-returns-in_err-infix-in-Infix-clause-is : goal.look-returns-in_err-infix-in-Infix-clause-is
unfolding evaluation
look-returns-in_err-infix-in-Infix-clause-is t c nodes =
    let p =
    err_from_is_err_and c.from_residual-in_err-infix-in-Infix.result c.from_residual-in_err-infix-in-Infix.ensures.1 in
    rw (p.1, p.2, c.in-Infix.is, ← c.deref.ensures, ← c.deref-in-Infix.ensures)
    (stops_seen nodes c.args.meter.now.limit c.args.meter.now.steps c.tick-in-Infix.new.self.steps
    c.infix.new.meter.steps c.in_err-infix-in-Infix.field-0.0 (infix_part c.in-Infix.op (term_of c.deref.result.now)
    (term_of c.deref-in-Infix.result.now) (levels nodes c.args.store.now)) c.in_ok-tick-in-Infix.ensures.ok
    (at_limit nodes c.tick-in-Infix.new.self.limit c.args.meter.now.limit c.tick-in-Infix.new.self.steps
    c.infix.new.meter.steps (Err c.in_err-infix-in-Infix.field-0.0) (infix_part c.in-Infix.op
    (term_of c.deref.result.now) (term_of c.deref-in-Infix.result.now) (levels nodes c.args.store.now))
    c.in_ok-tick-in-Infix.ensures.limit (c.in_err-infix-in-Infix.ensures.is nodes)))

pub look-returns-in_ok-infix-in-Infix-clause-is : goal.look-returns-in_ok-infix-in-Infix-clause-is
unfolding evaluation
look-returns-in_ok-infix-in-Infix-clause-is t c nodes =
    rw (c.in-Infix.is, ← c.deref.ensures, ← c.deref-in-Infix.ensures)
    (computed_seen nodes c.args.meter.now.limit c.args.meter.now.steps c.tick-in-Infix.new.self.steps
    c.infix.new.meter.steps c.in_ok-infix-in-Infix.field-0 (infix_part c.in-Infix.op (term_of c.deref.result.now)
    (term_of c.deref-in-Infix.result.now) (levels nodes c.args.store.now)) c.in_ok-tick-in-Infix.ensures.ok
    (at_limit nodes c.tick-in-Infix.new.self.limit c.args.meter.now.limit c.tick-in-Infix.new.self.steps
    c.infix.new.meter.steps (Ok (computing.Scalar c.in_ok-infix-in-Infix.field-0)) (infix_part c.in-Infix.op
    (term_of c.deref.result.now) (term_of c.deref-in-Infix.result.now) (levels nodes c.args.store.now))
    c.in_ok-tick-in-Infix.ensures.limit (c.in_ok-infix-in-Infix.ensures.is nodes)))

pub look-returns-in_err-tick-in-Bracket-clause-is : goal.look-returns-in_err-tick-in-Bracket-clause-is
look-returns-in_err-tick-in-Bracket-clause-is t c nodes =
    let p = err_from_is_err_and c.from_residual-in_err-tick-in-Bracket.result
    c.from_residual-in_err-tick-in-Bracket.ensures.1 in
    let same = c.in_err-tick-in-Bracket.ensures.err in
    rw (p.1, p.2) (no_step nodes c.args.meter.now.limit c.args.meter.now.steps c.tick-in-Bracket.new.self.steps
    c.args.e.now (levels nodes c.args.store.now) same (same ∙ c.in_err-tick-in-Bracket.ensures.refused.0 refl))

pub look-returns-in_ok-tick-in-Bracket-clause-is : goal.look-returns-in_ok-tick-in-Bracket-clause-is
unfolding evaluation
look-returns-in_ok-tick-in-Bracket-clause-is t c nodes =
    let inside = evaluation (term_of c.deref-in-Bracket.result.now) (levels nodes c.args.store.now) in
    let middle = c.tick-in-Bracket.new.self.steps in
    rw (c.in-Bracket.is, ← c.deref-in-Bracket.ensures)
    (stepped_seen nodes c.args.meter.now.limit c.args.meter.now.steps middle c.look.new.meter.steps c.look.result inside
    c.in_ok-tick-in-Bracket.ensures.ok
    (seen_at nodes c.args.meter.now.limit c.tick-in-Bracket.new.self.limit middle c.look.new.meter.steps c.look.result
    inside c.in_ok-tick-in-Bracket.ensures.limit (c.look.ensures.is nodes)))

pub look-returns-in_ok-evaluate-in_default-e-clause-is : goal.look-returns-in_ok-evaluate-in_default-e-clause-is
look-returns-in_ok-evaluate-in_default-e-clause-is t c nodes =
    let h = c.in_ok-evaluate-in_default-e.ensures.is nodes in
    (operand_of nodes c.in_ok-evaluate-in_default-e.field-0, h.0, c.seen.ensures.held nodes, h.1)
