use Rattle.std.proofs.Common.{rules, ◌∙◌, sym, ap, Some}
use Rattle.std.specs.Option.{option_map}
use Rattle.std.proofs.lemmas.Int.{to_z-of_z}
use mir.Syntax.{w128}
use mir.Val.{SFits}
use Rattle.value_store.specs.Refs.{value_of}
use Rattle.value_store.specs.Scalars.{scalar_label}
use Rattle.pickle_evaluation.proofs.Comparisons.{names_integer}
use Rattle.value_store.specs.Slots.{levels}
use Rattle.pickle_evaluation.proofs.comparison.named.Goals as goal

pub returns-in-Some-Integer-clause-is : goal.returns-in-Some-Integer-clause-is
returns-in-Some-Integer-clause-is c nodes =
    let v = sym (c.part.ensures nodes) ∙ ap (option_map (value_of nodes)) c.in-Some.is in
    let s = sym (c.scalar.ensures.is nodes) ∙ ap (option_map scalar_label) c.in-Some-Integer.is
    ∙ ap (λ z. Some (scalar_label z)) c.in-Some-Integer.field-0-is in
    let fits : SFits w128 c.in-Some-Integer.number = search rules in
    rw (to_z-of_z w128 c.in-Some-Integer.number fits) (names_integer (levels nodes c.args.store.now) c.args.level
    c.args.place (value_of nodes c.in-Some.value) c.in-Some-Integer.number c.in-Some-Integer.of v s)
