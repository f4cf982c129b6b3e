use Rattle.std.proofs.Common.{◌∙◌, ap}
use Rattle.value_store.specs.Refs.{value_shown}
use Rattle.poke_batch.specs.PathParts.{member_there}
use Rattle.poke_batch.proofs.PartsFound.{step_there}
use Rattle.poke_batch.proofs.part.step_to.Goals as goal

pub returns-in-Some : goal.returns-in-Some
returns-in-Some c =
    c.child.ensures.member ∙ ap (member_there (value_shown c.args.value)) c.in-Some.ensures
    ∙ step_there c.args.step.now (value_shown c.args.value)

pub returns-in-None : goal.returns-in-None
returns-in-None c = ap (member_there (value_shown c.args.value)) c.in-None.ensures
    ∙ step_there c.args.step.now (value_shown c.args.value)
