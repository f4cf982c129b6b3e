use Rattle.std.proofs.Common.{sym}
use Rattle.pickle_evaluation.proofs.Arms.{is_led, is_not_led}
use Rattle.pickle_evaluation.proofs.expression.select.Goals as goal

pub returns-in-Some-clause-is : goal.returns-in-Some-clause-is
returns-in-Some-clause-is c nodes =
    rw c.in-Value.is (is_led _ _ (sym (c.in-Some.ensures nodes)))

pub returns-in-None-clause-is : goal.returns-in-None-clause-is
returns-in-None-clause-is c nodes =
    rw c.in-Value.is (is_not_led _ (sym (c.in-None.ensures nodes)))
