use Rattle.std.proofs.Common.{◌∙◌, sym, refl}
use Rattle.std.proofs.lemmas.Bool.{false≢true}
use Rattle.run_parts.specs.Accepted.{no_memory}
use Rattle.run_parts.proofs.Refusing.{tokens_refused}
use Rattle.run_parts.proofs.accept.no_tokens.Goals as goal

pub returns-then-eq : goal.returns-then-eq
returns-then-eq c = λ pickle failed. no_memory

pub returns-else-eq : goal.returns-else-eq
returns-else-eq c =
    λ pickle failed. tokens_refused pickle _ _ (λ m. false≢true (sym c.if-eq.false ∙ c.eq.ensures ∙ rw m refl)) failed
