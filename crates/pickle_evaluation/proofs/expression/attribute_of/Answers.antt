use Rattle.std.proofs.Common.{◌≡◌, Ok, pos, to_z, sym, ap, ◌∙◌, arith}
use Rattle.pickle_meaning.specs.Arithmetic.{unsigned_type}
use Rattle.pickle_meaning.specs.Values.{IntegerLabel, label_of, members_of, member_count}
use Rattle.value_store.specs.Labels.{kind_of}
use Rattle.value_store.specs.Refs.{value_of}
use Rattle.value_store.specs.declared.value.Kind.TheVariants as kind
use Rattle.pickle_evaluation.proofs.Elements.{length_of}
use Rattle.std.proofs.Math.Facts.{to_z_pos}
use mir.Syntax.{w128}
use Rattle.pickle_evaluation.proofs.expression.attribute_of.Goals as goal
use Rattle.pickle_evaluation.proofs.expression.attribute_of.Goals.{in-Array, in_default-matches}

pub returns-in-Length-clause-is : goal.returns-in-Length-clause-is
returns-in-Length-clause-is c nodes =
    let e : kind_of (label_of (value_of nodes c.in-Value.value)) ≡ kind.Array =
    sym (c.kind.ensures nodes) ∙ (elim c.match-matches.branch [
      | in-Array w ↦ w.in-Array.is
      | in_default-matches w ↦ absurd (let e = w.matches-is in let f = c.if-matches.true in cc)
    ]) in
    let n : to_z w128 c.len.result ≡ pos (member_count (members_of (value_of nodes c.in-Value.value))) =
    to_z_pos w128 (omega arith) ∙ ap pos (c.len.ensures nodes) in
    rw (c.in-Length.is, c.in-Value.is)
    (ap (λ z. Ok (IntegerLabel z (unsigned_type 64))) n ∙ sym (length_of (value_of nodes c.in-Value.value) e))
