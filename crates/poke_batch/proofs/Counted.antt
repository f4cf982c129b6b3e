-- The text of a check.
use Rattle.std.proofs.Common.{◌≡◌, ◌∙◌, length, sym, subst, ℕ, List}
use Rattle.pickle_tree.specs.Tree.{DeclarationTree}
use Rattle.pickle_types.specs.Names.{Names}
use Rattle.run_parts.specs.Accepted.{IsAccepted}
use Rattle.run_parts.specs.Told.{Text}
use Rattle.poke_batch.specs.Runs.{ChecksAs, accepted, types_text}

-- the text of a count is the text of the declarations counted
pub counted : {pickle : List ℕ} {declarations : List DeclarationTree} {types : Names} {count answer : ℕ} →
    IsAccepted pickle declarations types → count ≡ length declarations → answer ≡ count →
    ChecksAs pickle (Text (types_text answer))
counted {pickle} a e e' = subst (λ n. ChecksAs pickle (Text (types_text n))) (sym (e' ∙ e)) (accepted a)
