-- A well typed expression has the same evaluation over frames that agree on what it sees.
use Rattle.std.proofs.Common.{◌≡◌, ℕ, List, refl, ap}
use Rattle.pickle_tree.specs.Tree.{Tree}
use Rattle.pickle_types.specs.Types.{Term}
use Rattle.pickle_types.specs.Scopes.{Visible}
use Rattle.pickle_types.specs.Names.{Names}
use Rattle.pickle_types.specs.Expressions.{Sort}
use Rattle.pickle_types.specs.WellTyped.{HasSort, Converts}
use Rattle.pickle_meaning.specs.Values.{Levels}
use Rattle.pickle_meaning.specs.Evaluation.{present, leads_to, with_steps, evaluation}
use Rattle.scope_laws.specs.Agreement.{LevelsAgree}
use Rattle.scope_laws.specs.Laws.{ExpressionsAreLocal}

module _ {names : Names} {seen : List Visible} {count : ℕ} (levels levels' : Levels)
    (agree : LevelsAgree seen count levels levels') where
  pub evaluated_alike : {tree : Tree} {e : Term} {s : Sort} → HasSort names seen count tree e s →
      evaluation e levels ≡ evaluation e levels'
  unfolding evaluation
  evaluated_alike (HasSort.literal h) = refl
  evaluated_alike HasSort.character = refl
  evaluated_alike HasSort.text = refl
  evaluated_alike (HasSort.name {word} v found) =
      ap (λ o. with_steps 1 (leads_to (present o))) (agree word v found).same
  evaluated_alike (HasSort.bracket h) = rw (evaluated_alike h) refl
  evaluated_alike (HasSort.before t h p) = rw (evaluated_alike h) refl
  evaluated_alike (HasSort.between s t h g p) = rw (evaluated_alike h) (rw (evaluated_alike g) refl)
  evaluated_alike (HasSort.choice w s t h f g p) =
      rw (evaluated_alike h) (rw (evaluated_alike f) (rw (evaluated_alike g) refl))
  evaluated_alike (HasSort.index bound w h g) = rw (evaluated_alike h) (rw (evaluated_alike g) refl)
  evaluated_alike (HasSort.select t h found) = rw (evaluated_alike h) refl
  evaluated_alike (HasSort.count t bound h) = rw (evaluated_alike h) refl
  evaluated_alike (HasSort.size t path h) = rw (evaluated_alike h) refl
  evaluated_alike (HasSort.in_unit h b) = rw (evaluated_alike h) refl
  evaluated_alike (HasSort.convert t h (Converts.to_integer refers)) = rw (evaluated_alike h) refl
  evaluated_alike (HasSort.convert t h (Converts.to_named_offset refers)) = rw (evaluated_alike h) refl
  evaluated_alike (HasSort.convert t h (Converts.to_offset refers b)) = rw (evaluated_alike h) refl

pub expressions_local : ExpressionsAreLocal
expressions_local names seen count tree e s levels levels' h agree = evaluated_alike levels levels' agree h
