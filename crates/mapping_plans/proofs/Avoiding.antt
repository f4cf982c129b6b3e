-- An expression that names nothing of a frame is evaluated alike whatever that frame has.
use Rattle.std.proofs.Common.{◌≡◌, ℕ, Option, Some, None, refl, ap}
use Rattle.pickle_types.specs.Types.{Term, Number, Text, Name, Bracket, Before, Between, Choice, Index, Select, AttributeOf, ToInteger, ToOffset, InUnit}
use Rattle.pickle_meaning.specs.Evaluation.{evaluation}
use Rattle.pickle_meaning.specs.Clauses.{constraint, clause_steps}
use Rattle.pickle_meaning.specs.Values.{Levels, value_at}
use Rattle.mapping_plans.specs.Avoids.{Avoids, ClauseAvoids}

-- frames that differ at most at that level
abbrev pub Agree : (level : ℕ) → (levels levels' : Levels) → Type 0
Agree level levels levels' =
    (named place : ℕ) → (named ≡ level → ⊥) → value_at levels named place ≡ value_at levels' named place

module _ (level : ℕ) (levels levels' : Levels) (agree : Agree level levels levels') where
  pub evaluated_alike : (e : Term) → Avoids level e → evaluation e levels ≡ evaluation e levels'
  unfolding evaluation
  evaluated_alike (Number type value) h = refl
  evaluated_alike (Text bytes) h = refl
  evaluated_alike (Name named place) h = rw (agree named place h) refl
  evaluated_alike (Bracket e) h = rw (evaluated_alike e h) refl
  evaluated_alike (Before op e) h = rw (evaluated_alike e h) refl
  evaluated_alike (Between op a b) h = rw (evaluated_alike a h.0, evaluated_alike b h.1) refl
  evaluated_alike (Choice common c x y) h =
      rw (evaluated_alike c h.0, evaluated_alike x h.1, evaluated_alike y h.2) refl
  evaluated_alike (Index e i) h = rw (evaluated_alike e h.0, evaluated_alike i h.1) refl
  evaluated_alike (Select e place) h = rw (evaluated_alike e h) refl
  evaluated_alike (AttributeOf attribute e) h = rw (evaluated_alike e h) refl
  evaluated_alike (ToInteger type e) h = rw (evaluated_alike e h) refl
  evaluated_alike (ToOffset type unit e) h = rw (evaluated_alike e h) refl
  evaluated_alike (InUnit unit e) h = rw (evaluated_alike e h) refl

-- so is a constraint, in as many steps
pub constrained_alike : (level : ℕ) (levels levels' : Levels) → Agree level levels levels' → (c : Option Term) →
    ClauseAvoids level c → (place : ℕ) → constraint c levels place ≡ constraint c levels' place
unfolding constraint
constrained_alike level levels levels' agree None h place = refl
constrained_alike level levels levels' agree (Some e) h place = rw (evaluated_alike level levels levels' agree e h) refl

pub steps_alike : (level : ℕ) (levels levels' : Levels) → Agree level levels levels' → (c : Option Term) →
    ClauseAvoids level c → clause_steps c levels ≡ clause_steps c levels'
steps_alike level levels levels' agree None h = refl
steps_alike level levels levels' agree (Some e) h = ap (λ e. e.steps) (evaluated_alike level levels levels' agree e h)
