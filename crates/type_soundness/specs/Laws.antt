-- The laws of the type rules and of evaluation.
use Rattle.std.specs.Prelude.{◌≡◌, ℕ, List, Result}
use Rattle.pickle_tree.specs.Tree.{Tree}
use Rattle.pickle_types.specs.Types.{Term}
use Rattle.pickle_types.specs.Scopes.{Visible}
use Rattle.pickle_types.specs.Names.{Names}
use Rattle.pickle_types.specs.Expressions.{Sort}
use Rattle.pickle_types.specs.WellTyped.{HasSort}
use Rattle.pickle_meaning.specs.declared.faults.MapFaultKind.{MapFaultKind}
use Rattle.pickle_meaning.specs.Values.{Levels}
use Rattle.pickle_meaning.specs.Evaluation.{Operand, Evaluation, evaluation}
use Rattle.type_soundness.specs.Sorts.{IsOutcome, LevelsFit}
use Rattle.type_soundness.specs.Derivations.{Yields}

-- the outcome that a derivation yields is the expression's, in the same steps
abbrev pub DerivationsAreExact : Type 0
DerivationsAreExact = (levels : Levels) (e : Term) (r : Result Operand MapFaultKind) (k : ℕ) → Yields levels e r k →
    ((evaluation e levels).outcome ≡ r) × ((evaluation e levels).steps ≡ k)

-- an evaluation that has a derivation, and has a value of a sort or a fault that an expression may have
pub record IsSafe (levels : Levels) (e : Term) (s : Sort) (a : Evaluation) : Type 0 where
  pub yields : Yields levels e a.outcome a.steps
  pub outcome : IsOutcome s a.outcome

-- a well typed expression is safe over frames that hold what it sees
abbrev pub ExpressionsAreSafe : Type 0
ExpressionsAreSafe =
    (names : Names) (seen : List Visible) (count : ℕ) (tree : Tree) (e : Term) (s : Sort) (levels : Levels) →
    HasSort names seen count tree e s → LevelsFit seen count levels → IsSafe levels e s (evaluation e levels)
