use Rattle.command_line.proofs.PathTexts.{rest_is, within_some, within_none, next_some}
use Rattle.command_line.proofs.path.step_len.Goals as goal

pub returns-in-Some-clause-within : goal.returns-in-Some-clause-within
returns-in-Some-clause-within c = within_some c.args.text.now _ c.in-Some.place c.requires
    (rest_is c.args.text.now 1 c.requires) c.in-Some.ensures.some

pub returns-in-Some-clause-next : goal.returns-in-Some-clause-next
returns-in-Some-clause-next c =
    next_some c.args.text.now _ c.in-Some.place c.requires (rest_is c.args.text.now 1 c.requires) c.in-Some.ensures.some

pub returns-in-None-clause-within : goal.returns-in-None-clause-within
returns-in-None-clause-within c =
    within_none c.args.text.now _ c.requires (rest_is c.args.text.now 1 c.requires) c.in-None.ensures.none
