use Rattle.std.proofs.Common.{rules, ◌≡◌, true, subst}
use Rattle.std.proofs.lemmas.Int.{to_z-of_z}
use mir.Syntax.{w128}
use mir.Val.{SFits}
use Rattle.pickle_types.specs.Table.{term_of}
use Rattle.pickle_meaning.specs.Arithmetic.{in_unit, prefixed, to_integer, to_offset}
use Rattle.pickle_meaning.specs.Evaluation.{evaluation}
use Rattle.first_numbers.specs.Layouts.{is_over_own}
use Rattle.first_numbers.proofs.Alike.{both_true}
use Rattle.first_numbers.proofs.Judging.{judged_applied, judged_both, judged_bracket, judged_left, judged_name, judged_number}
use Rattle.first_numbers.proofs.judge.+judge.Goals as goal

pub returns-in-Number-clause-is : goal.returns-in-Number-clause-is
returns-in-Number-clause-is t c own levels v is here label =
    let fits : SFits w128 c.from.result = search rules in
    rw (c.in_steps.ensures, c.in-Number.is, to_z-of_z w128 c.from.result fits, c.from.ensures)
    (judged_number c.in-Number.number c.in-Number.value levels)

pub returns-in-Name-clause-is : goal.returns-in-Name-clause-is
returns-in-Name-clause-is t c own levels v is here label =
    let over = subst (λ e. is_over_own own (term_of e) ≡ true) c.in-Name.is is in
    rw (c.in_steps-in-Name.ensures, c.in-Name.is)
    (judged_name c.args.x own c.in-Name.field-0 c.in-Name.field-1 levels v over here label)

pub returns-in-Bracket-clause-is : goal.returns-in-Bracket-clause-is
returns-in-Bracket-clause-is t c own levels v is here label =
    let over = subst (λ e. is_over_own own (term_of e) ≡ true) c.in-Bracket.is is in
    let inner = c.judge-inner.ensures.is own levels v (rw c.deref.ensures over) here label in
    rw (c.in_steps-in-Bracket.ensures, c.in-Bracket.is, ← c.deref.ensures)
    (judged_bracket c.judge-inner.result (term_of c.deref.result.now) levels c.one_more.result inner c.one_more.ensures)

pub returns-in-Prefix-clause-is : goal.returns-in-Prefix-clause-is
unfolding evaluation
returns-in-Prefix-clause-is t c own levels v is here label =
    let over = subst (λ e. is_over_own own (term_of e) ≡ true) c.in-Prefix.is is in
    let inner = c.judge-inner-in-Prefix.ensures.is own levels v (rw c.deref-in-Prefix.ensures over) here label in
    rw (c.in_steps-in-Prefix.ensures, c.in-Prefix.is, ← c.deref-in-Prefix.ensures)
    (judged_applied c.judge-inner-in-Prefix.result (evaluation (term_of c.deref-in-Prefix.result.now) levels)
    (prefixed c.in-Prefix.op) c.with_prefix.result c.one_more-in-Prefix.result inner c.with_prefix.ensures.is
    c.one_more-in-Prefix.ensures)

pub returns-in-ToInteger-clause-is : goal.returns-in-ToInteger-clause-is
unfolding evaluation
returns-in-ToInteger-clause-is t c own levels v is here label =
    let over = subst (λ e. is_over_own own (term_of e) ≡ true) c.in-ToInteger.is is in
    let inner = c.judge-inner-in-ToInteger.ensures.is own levels v (rw c.deref-in-ToInteger.ensures over) here label in
    rw (c.in_steps-in-ToInteger.ensures, c.in-ToInteger.is, ← c.deref-in-ToInteger.ensures)
    (judged_applied c.judge-inner-in-ToInteger.result (evaluation (term_of c.deref-in-ToInteger.result.now) levels)
    (to_integer c.in-ToInteger.number) c.as_integer.result c.one_more-in-ToInteger.result inner c.as_integer.ensures.is
    c.one_more-in-ToInteger.ensures)

pub returns-in-ToOffset-clause-is : goal.returns-in-ToOffset-clause-is
unfolding evaluation
returns-in-ToOffset-clause-is t c own levels v is here label =
    let over = subst (λ e. is_over_own own (term_of e) ≡ true) c.in-ToOffset.is is in
    let inner = c.judge-inner-in-ToOffset.ensures.is own levels v (rw c.deref-in-ToOffset.ensures over) here label in
    rw (c.in_steps-in-ToOffset.ensures, c.in-ToOffset.is, ← c.deref-in-ToOffset.ensures)
    (judged_applied c.judge-inner-in-ToOffset.result (evaluation (term_of c.deref-in-ToOffset.result.now) levels)
    (to_offset c.in-ToOffset.number c.in-ToOffset.unit) c.as_offset.result c.one_more-in-ToOffset.result inner
    c.as_offset.ensures.is c.one_more-in-ToOffset.ensures)

pub returns-in-InUnit-clause-is : goal.returns-in-InUnit-clause-is
unfolding evaluation
returns-in-InUnit-clause-is t c own levels v is here label =
    let over = subst (λ e. is_over_own own (term_of e) ≡ true) c.in-InUnit.is is in
    let inner = c.judge-inner-in-InUnit.ensures.is own levels v (rw c.deref-in-InUnit.ensures over) here label in
    rw (c.in_steps-in-InUnit.ensures, c.in-InUnit.is, ← c.deref-in-InUnit.ensures)
    (judged_applied c.judge-inner-in-InUnit.result (evaluation (term_of c.deref-in-InUnit.result.now) levels)
    (in_unit c.in-InUnit.unit) c.with_unit.result c.one_more-in-InUnit.result inner c.with_unit.ensures.is
    c.one_more-in-InUnit.ensures)

pub returns-in-Some-clause-is : goal.returns-in-Some-clause-is
returns-in-Some-clause-is t c own levels v is here label =
    let over = both_true (is_over_own own (term_of c.in-Infix.a.value)) (is_over_own own (term_of c.in-Infix.b.value))
    (subst (λ e. is_over_own own (term_of e) ≡ true) c.in-Infix.is is) in
    let left = c.judge-left.ensures.is own levels v (rw c.deref-in-Infix.ensures over.0) here label in
    rw (c.in_steps-in-Some.ensures, c.in-Infix.is, ← c.deref-in-Infix.ensures)
    (judged_left c.in-Infix.op c.judge-left.result (term_of c.deref-in-Infix.result.now) (term_of c.in-Infix.b.value)
    levels c.in-Some.value c.one_more-in-Some.result left c.in-Some.ensures.is c.one_more-in-Some.ensures)

pub returns-in-None-clause-is : goal.returns-in-None-clause-is
returns-in-None-clause-is t c own levels v is here label =
    let over = both_true (is_over_own own (term_of c.in-Infix.a.value)) (is_over_own own (term_of c.in-Infix.b.value))
    (subst (λ e. is_over_own own (term_of e) ≡ true) c.in-Infix.is is) in
    let over_a : is_over_own own (term_of c.deref-in-Infix.result.now) ≡ true = rw c.deref-in-Infix.ensures over.0 in
    let over_b : is_over_own own (term_of c.deref-in-None.result.now) ≡ true = rw c.deref-in-None.ensures over.1 in
    let left = c.judge-left.ensures.is own levels v over_a here label in
    let right = c.judge.ensures.is own levels v over_b here label in
    rw (c.in-Infix.is, ← c.deref-in-Infix.ensures, ← c.deref-in-None.ensures)
    (judged_both own c.in-Infix.op c.judge-left.result c.judge.result c.joined.result
    (term_of c.deref-in-Infix.result.now) (term_of c.deref-in-None.result.now) levels over_a over_b left right
    c.in-None.ensures.is c.joined.ensures.is)
