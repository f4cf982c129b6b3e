use Rattle.jobs.specs.Given.{of_check, of_parts, of_types}
use Rattle.jobs.proofs.Asked.{if_none_more, if_some_more, over_files}
use Rattle.jobs.proofs.pickles.question_of.Goals as goal

pub returns-in-Check-clause-some : goal.returns-in-Check-clause-some
returns-in-Check-clause-some c = rw c.in-Check.is (of_check c.deref.ensures)

pub returns-in-Types-clause-some : goal.returns-in-Types-clause-some
returns-in-Types-clause-some c = rw c.in-Types.is (of_types c.deref-in-Types.ensures)

pub returns-in-Parts-clause-some : goal.returns-in-Parts-clause-some
returns-in-Parts-clause-some c = rw c.in-Parts.is (of_parts _ c.deref-in-Parts.ensures c.as_bytes.ensures.value)

pub returns-in_default-clause-some : goal.returns-in_default-clause-some
returns-in_default-clause-some c =
    if_some_more c.bound_question.result _ _ (λ found about. about c.args.asked.now.answer)
    c.bound_question.ensures.some

pub returns-in_default-clause-none : goal.returns-in_default-clause-none
returns-in_default-clause-none c =
    if_none_more c.bound_question.result _ _
    (λ none. over_files c.args.asked.now.job none c.in_default.not-Check c.in_default.not-Types c.in_default.not-Parts)
    c.bound_question.ensures.none
