use Rattle.std.proofs.Common.{◌≢◌, ◌∙◌, sym, refl}
use Rattle.std.proofs.lemmas.Bool.{false≢true}
use Rattle.pickle_types.specs.declared.fault.FaultKind.TheVariants.{Memory}
use Rattle.run_parts.specs.Accepted.{ill_typed, no_memory}
use Rattle.run_parts.proofs.Refusing.{types_fail, told_place}
use Rattle.run_parts.proofs.accept.ill_typed.Goals as goal

pub returns-then-eq : goal.returns-then-eq
returns-then-eq c = λ pickle declarations syntax wrong fails place. no_memory

pub returns-else-eq : goal.returns-else-eq
returns-else-eq c = λ pickle declarations syntax wrong fails place.
    let other : c.args.fault.kind ≢ Memory = (λ m. false≢true (sym c.if-eq.false ∙ c.eq.ensures ∙ rw m refl)) in
    ill_typed syntax
    (record { none = wrong other; fails = types_fail _ _ other fails; first = told_place _ _ _ other place }) other
