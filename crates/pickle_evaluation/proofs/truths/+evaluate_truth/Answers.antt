use Rattle.std.proofs.Common.{◌≡◌, ◌+◌, true, Ok, Err, not, refl, sym, ap, ◌∙◌}
use Rattle.std.proofs.lemmas.Result.{err_from_is_err_and}
use Rattle.pickle_types.specs.Table.{term_of}
use Rattle.pickle_evaluation.specs.declared.operand.Unvalued.TheVariants.{Fault}
use Rattle.pickle_meaning.specs.Arithmetic.{prefixed}
use Rattle.pickle_meaning.specs.Evaluation.{evaluation, operand_label, truth_of, settled, literal_length, gives, and_operand}
use Rattle.pickle_evaluation.specs.Comes.{infix_part, is_not}
use Rattle.pickle_evaluation.proofs.Evaluations.{no_step}
use Rattle.pickle_evaluation.proofs.TruthLaws.{its_truth, truth_at, truth_stops, truth_goes_on, truth_stepped, truth_settles, truth_settles_not, joins, left_joins_not, right_joins_not, negates, negates_not}
use Rattle.value_store.specs.Slots.{levels}
use Rattle.pickle_evaluation.proofs.truths.+evaluate_truth.Goals as goal

pub evaluate_truth-returns-in_err-tick-in-Infix-clause-is : goal.evaluate_truth-returns-in_err-tick-in-Infix-clause-is
evaluate_truth-returns-in_err-tick-in-Infix-clause-is t c nodes =
    let p = err_from_is_err_and c.from_residual.result c.from_residual.ensures.1 in
    let same = c.in_err-tick-in-Infix.ensures.err in
    rw (p.1, p.2) (no_step nodes c.args.meter.now.limit c.args.meter.now.steps c.tick.new.self.steps
    c.args.e.now (levels nodes c.args.store.now) same (same ∙ c.in_err-tick-in-Infix.ensures.refused.0 refl))

pub evaluate_truth-returns-in_err-tick-in-Prefix-clause-is :
    goal.evaluate_truth-returns-in_err-tick-in-Prefix-clause-is
evaluate_truth-returns-in_err-tick-in-Prefix-clause-is t c nodes =
    let p =
    err_from_is_err_and c.from_residual-in_err-tick-in-Prefix.result c.from_residual-in_err-tick-in-Prefix.ensures.1 in
    let same = c.in_err-tick-in-Prefix.ensures.err in
    rw (p.1, p.2) (no_step nodes c.args.meter.now.limit c.args.meter.now.steps c.tick-in-Prefix.new.self.steps
    c.args.e.now (levels nodes c.args.store.now) same (same ∙ c.in_err-tick-in-Prefix.ensures.refused.0 refl))

pub evaluate_truth-returns-in_err-holds-in-Prefix-clause-is :
    goal.evaluate_truth-returns-in_err-holds-in-Prefix-clause-is
unfolding evaluation
evaluate_truth-returns-in_err-holds-in-Prefix-clause-is t c nodes =
    let p =
    err_from_is_err_and c.from_residual-in_err-holds-in-Prefix.result
    c.from_residual-in_err-holds-in-Prefix.ensures.1 in
    let e = evaluation (term_of c.deref-in-Prefix.result.now) (levels nodes c.args.store.now) in
    let mid = c.tick-in-Prefix.new.self.steps in
    let after = c.operand_truth.new.meter.steps in
    let u = c.in_err-holds-in-Prefix.field-0.0 in
    rw (p.1, p.2, c.in-Prefix.is, ← c.deref-in-Prefix.ensures)
    (truth_stepped c.args.meter.now.limit c.args.meter.now.steps mid after (Err u)
    (and_operand e (λ x. gives (prefixed c.in-Prefix.op (operand_label x)))) c.in_ok-tick-in-Prefix.ensures.ok
    (truth_stops c.args.meter.now.limit mid after u e (λ x. gives (prefixed c.in-Prefix.op (operand_label x)))
    (truth_at c.args.meter.now.limit c.tick-in-Prefix.new.self.limit mid after (Err u) e
    c.in_ok-tick-in-Prefix.ensures.limit
    (c.in_err-holds-in-Prefix.ensures.is nodes))))

pub evaluate_truth-returns-in_err-holds-in-Prefix-2-clause-is :
    goal.evaluate_truth-returns-in_err-holds-in-Prefix-2-clause-is
unfolding evaluation
evaluate_truth-returns-in_err-holds-in-Prefix-2-clause-is t c nodes =
    let p =
    err_from_is_err_and c.from_residual-in_err-holds-in-Prefix-2.result
    c.from_residual-in_err-holds-in-Prefix-2.ensures.1 in
    let e = evaluation (term_of c.deref-in-Prefix.result.now) (levels nodes c.args.store.now) in
    let mid = c.tick-in-Prefix.new.self.steps in
    let after = c.operand_truth.new.meter.steps in
    let kind = c.in_err-holds-in-Prefix-2.field-0.0 in
    let passed = c.if-is_not.true in
    let negating : is_not c.in-Prefix.op ≡ true = sym c.is_not.ensures ∙ cc in
    let holds = c.in_ok-holds-in-Prefix.holds in
    rw (p.1, p.2, c.in-Prefix.is, ← c.deref-in-Prefix.ensures)
    (truth_stepped c.args.meter.now.limit c.args.meter.now.steps mid after (Err (Fault kind))
    (and_operand e (λ x. gives (prefixed c.in-Prefix.op (operand_label x)))) c.in_ok-tick-in-Prefix.ensures.ok
    (truth_goes_on c.args.meter.now.limit mid after after holds (Err (Fault kind)) e
    (λ x. gives (prefixed c.in-Prefix.op (operand_label x)))
    (truth_at c.args.meter.now.limit c.tick-in-Prefix.new.self.limit mid after (Ok holds) e
    c.in_ok-tick-in-Prefix.ensures.limit
    (c.in_ok-holds-in-Prefix.ensures.is nodes))
    (λ x held. negates_not c.args.meter.now.limit after c.in-Prefix.op (operand_label x) kind negating
    (held ∙ c.in_err-holds-in-Prefix-2.was))))

pub evaluate_truth-returns-in_err-tick-in-Bracket-clause-is :
    goal.evaluate_truth-returns-in_err-tick-in-Bracket-clause-is
evaluate_truth-returns-in_err-tick-in-Bracket-clause-is t c nodes =
    let p = err_from_is_err_and c.from_residual-in_err-tick-in-Bracket.result
    c.from_residual-in_err-tick-in-Bracket.ensures.1 in
    let same = c.in_err-tick-in-Bracket.ensures.err in
    rw (p.1, p.2) (no_step nodes c.args.meter.now.limit c.args.meter.now.steps c.tick-in-Bracket.new.self.steps
    c.args.e.now (levels nodes c.args.store.now) same (same ∙ c.in_err-tick-in-Bracket.ensures.refused.0 refl))

pub evaluate_truth-returns-in_ok-tick-in-Infix-clause-is :
    goal.evaluate_truth-returns-in_ok-tick-in-Infix-clause-is
unfolding evaluation
evaluate_truth-returns-in_ok-tick-in-Infix-clause-is t c nodes =
    let joined = infix_part c.in-Infix.op (term_of c.deref-in-Infix.result.now) (term_of c.deref-in-Infix-2.result.now)
    (levels nodes c.args.store.now) in
    let mid = c.tick.new.self.steps in
    let after = c.logic.new.meter.steps in
    rw (c.in-Infix.is, ← c.deref-in-Infix.ensures, ← c.deref-in-Infix-2.ensures)
    (truth_stepped c.args.meter.now.limit c.args.meter.now.steps mid after c.logic.result joined
    c.in_ok-tick-in-Infix.ensures.ok
    (truth_at c.args.meter.now.limit c.tick.new.self.limit mid after c.logic.result joined
    c.in_ok-tick-in-Infix.ensures.limit
    (c.logic.ensures.is nodes)))

pub evaluate_truth-returns-in_ok-holds-in-Prefix-2-clause-is :
    goal.evaluate_truth-returns-in_ok-holds-in-Prefix-2-clause-is
unfolding evaluation
evaluate_truth-returns-in_ok-holds-in-Prefix-2-clause-is t c nodes =
    let e = evaluation (term_of c.deref-in-Prefix.result.now) (levels nodes c.args.store.now) in
    let mid = c.tick-in-Prefix.new.self.steps in
    let after = c.operand_truth.new.meter.steps in
    let holds = c.in_ok-holds-in-Prefix.holds in
    let it = c.in_ok-holds-in-Prefix-2.field-0 in
    let passed = c.if-is_not.true in
    let negating : is_not c.in-Prefix.op ≡ true = sym c.is_not.ensures ∙ cc in
    rw (c.in-Prefix.is, ← c.deref-in-Prefix.ensures)
    (truth_stepped c.args.meter.now.limit c.args.meter.now.steps mid after (Ok (Ok (not it)))
    (and_operand e (λ x. gives (prefixed c.in-Prefix.op (operand_label x)))) c.in_ok-tick-in-Prefix.ensures.ok
    (truth_goes_on c.args.meter.now.limit mid after after holds (Ok (Ok (not it))) e
    (λ x. gives (prefixed c.in-Prefix.op (operand_label x)))
    (truth_at c.args.meter.now.limit c.tick-in-Prefix.new.self.limit mid after (Ok holds) e
    c.in_ok-tick-in-Prefix.ensures.limit
    (c.in_ok-holds-in-Prefix.ensures.is nodes))
    (λ x held. negates c.args.meter.now.limit after c.in-Prefix.op (operand_label x) it negating
    (held ∙ c.in_ok-holds-in-Prefix-2.was))))

pub evaluate_truth-returns-in_ok-tick-in-Bracket-clause-is :
    goal.evaluate_truth-returns-in_ok-tick-in-Bracket-clause-is
unfolding evaluation
evaluate_truth-returns-in_ok-tick-in-Bracket-clause-is t c nodes =
    let inside = evaluation (term_of c.deref-in-Bracket.result.now) (levels nodes c.args.store.now) in
    let mid = c.tick-in-Bracket.new.self.steps in
    let after = c.operand_truth-in-Bracket.new.meter.steps in
    rw (c.in-Bracket.is, ← c.deref-in-Bracket.ensures)
    (truth_stepped c.args.meter.now.limit c.args.meter.now.steps mid after c.operand_truth-in-Bracket.result inside
    c.in_ok-tick-in-Bracket.ensures.ok
    (truth_at c.args.meter.now.limit c.tick-in-Bracket.new.self.limit mid after c.operand_truth-in-Bracket.result inside
    c.in_ok-tick-in-Bracket.ensures.limit (c.operand_truth-in-Bracket.ensures.is nodes)))

pub logic-returns-in_err-left-clause-is : goal.logic-returns-in_err-left-clause-is
logic-returns-in_err-left-clause-is t c nodes =
    let p = err_from_is_err_and c.from_residual.result c.from_residual.ensures.1 in
    rw (p.1, p.2) (truth_stops c.args.meter.now.limit c.args.meter.now.steps c.operand_truth.new.meter.steps
    c.in_err-left.field-0.0 (evaluation (term_of c.args.a.now) (levels nodes c.args.store.now)) _
    (c.in_err-left.ensures.is nodes))

pub logic-returns-in-Some-clause-is : goal.logic-returns-in-Some-clause-is
logic-returns-in-Some-clause-is t c nodes =
    let mid = c.operand_truth.new.meter.steps in
    truth_goes_on c.args.meter.now.limit c.args.meter.now.steps mid mid c.in_ok-left.left (Ok (Ok c.in-Some.holds))
    (evaluation (term_of c.args.a.now) (levels nodes c.args.store.now)) _ (c.in_ok-left.ensures.is nodes)
    (λ x held. truth_settles c.args.meter.now.limit mid (settled c.args.op (truth_of (operand_label x)))
    c.in-Some.holds _ (ap (settled c.args.op) held ∙ sym c.settled_truth.ensures ∙ c.in-Some.is))

pub logic-returns-in_err-right-clause-is : goal.logic-returns-in_err-right-clause-is
logic-returns-in_err-right-clause-is t c nodes =
    let p = err_from_is_err_and c.from_residual-in_err-right.result c.from_residual-in_err-right.ensures.1 in
    let mid = c.operand_truth.new.meter.steps in
    let after = c.operand_truth-2.new.meter.steps in
    let right = evaluation (term_of c.args.b.now) (levels nodes c.args.store.now) in
    rw (p.1, p.2) (truth_goes_on c.args.meter.now.limit c.args.meter.now.steps mid after c.in_ok-left.left
    (Err c.in_err-right.field-0.0) (evaluation (term_of c.args.a.now) (levels nodes c.args.store.now)) _
    (c.in_ok-left.ensures.is nodes)
    (λ x held. truth_settles_not c.args.meter.now.limit mid after (Err c.in_err-right.field-0.0)
    (settled c.args.op (truth_of (operand_label x))) _
    (ap (settled c.args.op) held ∙ sym c.settled_truth.ensures ∙ c.in_default.is)
    (truth_stops c.args.meter.now.limit mid after c.in_err-right.field-0.0 right _
    (truth_at c.args.meter.now.limit c.operand_truth.new.meter.limit mid after (Err c.in_err-right.field-0.0) right
    c.operand_truth.ensures.meter.limit (c.in_err-right.ensures.is nodes)))))

pub logic-returns-in_err-left-2-clause-is : goal.logic-returns-in_err-left-2-clause-is
logic-returns-in_err-left-2-clause-is t c nodes =
    let p = err_from_is_err_and c.from_residual-in_err-left-2.result c.from_residual-in_err-left-2.ensures.1 in
    let mid = c.operand_truth.new.meter.steps in
    let after = c.operand_truth-2.new.meter.steps in
    let right = evaluation (term_of c.args.b.now) (levels nodes c.args.store.now) in
    let literal = literal_length (term_of c.args.a.now) + literal_length (term_of c.args.b.now) in
    let kind = c.in_err-left-2.field-0.0 in
    rw (p.1, p.2)
    (truth_goes_on c.args.meter.now.limit c.args.meter.now.steps mid after c.in_ok-left.left (Err (Fault kind))
    (evaluation (term_of c.args.a.now) (levels nodes c.args.store.now)) _ (c.in_ok-left.ensures.is nodes)
    (λ x held. truth_settles_not c.args.meter.now.limit mid after (Err (Fault kind))
    (settled c.args.op (truth_of (operand_label x))) _
    (ap (settled c.args.op) held ∙ sym c.settled_truth.ensures ∙ c.in_default.is)
    (truth_goes_on c.args.meter.now.limit mid after after c.in_ok-right.right (Err (Fault kind)) right _
    (truth_at c.args.meter.now.limit c.operand_truth.new.meter.limit mid after (Ok c.in_ok-right.right) right
    c.operand_truth.ensures.meter.limit (c.in_ok-right.ensures.is nodes))
    (λ y is_y. left_joins_not c.args.meter.now.limit after c.args.op literal (operand_label x) (operand_label y) kind
    c.requires.logical c.requires.literal (held ∙ c.in_err-left-2.was)))))

pub logic-returns-in_err-right-2-clause-is : goal.logic-returns-in_err-right-2-clause-is
logic-returns-in_err-right-2-clause-is t c nodes =
    let p = err_from_is_err_and c.from_residual-in_err-right-2.result c.from_residual-in_err-right-2.ensures.1 in
    let mid = c.operand_truth.new.meter.steps in
    let after = c.operand_truth-2.new.meter.steps in
    let right = evaluation (term_of c.args.b.now) (levels nodes c.args.store.now) in
    let literal = literal_length (term_of c.args.a.now) + literal_length (term_of c.args.b.now) in
    let kind = c.in_err-right-2.field-0.0 in
    rw (p.1, p.2)
    (truth_goes_on c.args.meter.now.limit c.args.meter.now.steps mid after c.in_ok-left.left (Err (Fault kind))
    (evaluation (term_of c.args.a.now) (levels nodes c.args.store.now)) _ (c.in_ok-left.ensures.is nodes)
    (λ x held. truth_settles_not c.args.meter.now.limit mid after (Err (Fault kind))
    (settled c.args.op (truth_of (operand_label x))) _
    (ap (settled c.args.op) held ∙ sym c.settled_truth.ensures ∙ c.in_default.is)
    (truth_goes_on c.args.meter.now.limit mid after after c.in_ok-right.right (Err (Fault kind)) right _
    (truth_at c.args.meter.now.limit c.operand_truth.new.meter.limit mid after (Ok c.in_ok-right.right) right
    c.operand_truth.ensures.meter.limit (c.in_ok-right.ensures.is nodes))
    (λ y is_y. right_joins_not c.args.meter.now.limit after c.args.op literal (operand_label x) (operand_label y) kind
    c.requires.logical c.requires.literal (is_y ∙ c.in_err-right-2.was)))))

pub logic-returns-clause-is : goal.logic-returns-clause-is
logic-returns-clause-is t c nodes =
    let mid = c.operand_truth.new.meter.steps in
    let after = c.operand_truth-2.new.meter.steps in
    let right = evaluation (term_of c.args.b.now) (levels nodes c.args.store.now) in
    let literal = literal_length (term_of c.args.a.now) + literal_length (term_of c.args.b.now) in
    let p = c.in_ok-left-2.field-0 in
    let q = c.in_ok-right-2.field-0 in
    truth_goes_on c.args.meter.now.limit c.args.meter.now.steps mid after c.in_ok-left.left (Ok (Ok q))
    (evaluation (term_of c.args.a.now) (levels nodes c.args.store.now)) _ (c.in_ok-left.ensures.is nodes)
    (λ x held.
    truth_settles_not c.args.meter.now.limit mid after (Ok (Ok q)) (settled c.args.op (truth_of (operand_label x))) _
    (ap (settled c.args.op) held ∙ sym c.settled_truth.ensures ∙ c.in_default.is)
    (truth_goes_on c.args.meter.now.limit mid after after c.in_ok-right.right (Ok (Ok q)) right _
    (truth_at c.args.meter.now.limit c.operand_truth.new.meter.limit mid after (Ok c.in_ok-right.right) right
    c.operand_truth.ensures.meter.limit (c.in_ok-right.ensures.is nodes))
    (λ y is_y. joins c.args.meter.now.limit after c.args.op literal (operand_label x) (operand_label y) p q
    c.requires.logical c.requires.literal (held ∙ c.in_ok-left-2.was) (is_y ∙ c.in_ok-right-2.was)
    (ap (settled c.args.op) (sym c.in_ok-left-2.was) ∙ sym c.settled_truth.ensures ∙ c.in_default.is))))

pub operand_truth-returns-in_err-take_steps-clause-is : goal.operand_truth-returns-in_err-take_steps-clause-is
operand_truth-returns-in_err-take_steps-clause-is t c nodes =
    let p = err_from_is_err_and c.from_residual.result c.from_residual.ensures.1 in
    let found = c.in-Some.ensures nodes in
    rw (p.1, p.2, found.3) c.in_err-take_steps.ensures.err

pub operand_truth-returns-in-Some-clause-is : goal.operand_truth-returns-in-Some-clause-is
operand_truth-returns-in-Some-clause-is t c nodes =
    let found = c.in-Some.ensures nodes in
    rw found.3 (found.0, found.1, ap truth_of found.2 ∙ its_truth c.in-Some.holds, c.in_ok-take_steps.ensures.ok)
