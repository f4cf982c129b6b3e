use Rattle.std.proofs.Common.{◌≡◌, ◌∙◌, Some, None, ap, subst}
use Rattle.std.specs.Prelude.{IfSome}
use Rattle.value_store.specs.Refs.{value_shown}
use Rattle.value_text.specs.TypedValue.{nodes_in, types_in, node_in, mapped_in}
use Rattle.poke_batch.specs.PathParts.{member_there, node_there, place_of}
use Rattle.poke_batch.proofs.PartsFound.{step_there}
use Rattle.poke_batch.proofs.part.step_beside.Goals as goal

pub returns-in-Some-clause-value : goal.returns-in-Some-clause-value
returns-in-Some-clause-value c =
    let at : Some c.in-Some.place ≡ place_of c.args.step.now (mapped_in c.args.value) =
    c.in-Some.ensures ∙ ap (λ v. place_of c.args.step.now (value_shown v)) c.value.ensures in
    c.child.ensures.value
    ∙ ap (member_there (mapped_in c.args.value)) at ∙ step_there c.args.step.now (mapped_in c.args.value)

pub returns-in-Some-clause-node : goal.returns-in-Some-clause-node
returns-in-Some-clause-node c =
    let at : Some c.in-Some.place ≡ place_of c.args.step.now (mapped_in c.args.value) =
    c.in-Some.ensures ∙ ap (λ v. place_of c.args.step.now (value_shown v)) c.value.ensures in
    subst (λ of. IfSome c.child.result (λ part. node_in part ≡ of))
    (ap (node_there (nodes_in (types_in c.args.value)) (node_in c.args.value) (mapped_in c.args.value)) at)
    c.child.ensures.node

pub returns-in-None-clause-value : goal.returns-in-None-clause-value
returns-in-None-clause-value c =
    let at : None ≡ place_of c.args.step.now (mapped_in c.args.value) =
    c.in-None.ensures ∙ ap (λ v. place_of c.args.step.now (value_shown v)) c.value.ensures in
    ap (member_there (mapped_in c.args.value)) at ∙ step_there c.args.step.now (mapped_in c.args.value)
