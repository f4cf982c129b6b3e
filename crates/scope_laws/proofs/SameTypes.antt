-- Types all of whose expressions have the same evaluation beside two pairs of frames.
use Rattle.std.proofs.Common.{◌≡◌, ℕ, Bool, true, false, List, ◌∷◌, Option, Some, None, refl, ap}
use Rattle.pickle_types.specs.Types.{Term, Bound, Unbounded, ByCount, BySize, PokeType, IntegerOf, OffsetOf, StringOf, ArrayOf, StructOf, IntegralOf, UnionOf, Fields, NoFields, FieldThen, Parts, NoParts, PartThen}
use Rattle.pickle_meaning.specs.Values.{Value, Levels}
use Rattle.pickle_meaning.specs.Evaluation.{Evaluation, evaluation}
use Rattle.pickle_meaning.specs.Clauses.{constraint, condition, field_start, clause_steps, label_steps, extent_of, bound_steps}

-- an expression, if there is one, has the same evaluation over both
abbrev pub SameClause : Levels → Levels → Option Term → Type 0
SameClause levels levels' None = Unit {0}
SameClause levels levels' (Some e) = evaluation e levels ≡ evaluation e levels'

abbrev pub SameBound : Levels → Levels → Bound → Type 0
SameBound levels levels' Unbounded = Unit {0}
SameBound levels levels' (ByCount e) = evaluation e levels ≡ evaluation e levels'
SameBound levels levels' (BySize e) = evaluation e levels ≡ evaluation e levels'

unfoldable mutual
  -- each expression of a type has the same evaluation over both, whatever the type's own frames have
  pub SameType : Levels → Levels → PokeType → Type 0
  SameType levels levels' (IntegerOf type) = Unit {0}
  SameType levels levels' (OffsetOf type unit) = Unit {0}
  SameType levels levels' StringOf = Unit {0}
  SameType levels levels' (ArrayOf element bound) =
      SameBound levels levels' bound
      × ((top : List (Option Value)) → SameType (top ∷ levels) (top ∷ levels') element)
  SameType levels levels' (StructOf name pinned fields) = SameFields levels levels' fields
  SameType levels levels' (IntegralOf name type fields) = SameParts levels levels' fields
  SameType levels levels' (UnionOf name alternatives) = SameParts levels levels' alternatives

  pub SameFields : Levels → Levels → Fields → Type 0
  SameFields levels levels' NoFields = Unit {0}
  SameFields levels levels' (FieldThen name order ty c label when rest) =
      ((top : List (Option Value)) →
      SameType (top ∷ levels) (top ∷ levels') ty
      × SameClause (top ∷ levels) (top ∷ levels') c
      × SameClause (top ∷ levels) (top ∷ levels') label
      × SameClause (top ∷ levels) (top ∷ levels') when)
      × SameFields levels levels' rest

  pub SameParts : Levels → Levels → Parts → Type 0
  SameParts levels levels' NoParts = Unit {0}
  SameParts levels levels' (PartThen name order ty c rest) =
      ((top : List (Option Value)) →
      SameType (top ∷ levels) (top ∷ levels') ty × SameClause (top ∷ levels) (top ∷ levels') c)
      × SameParts levels levels' rest

-- ---- clauses

module _ (levels levels' : Levels) where
  pub same_steps : (c : Option Term) → SameClause levels levels' c → clause_steps c levels ≡ clause_steps c levels'
  same_steps None h = refl
  same_steps (Some e) h = ap (λ (a : Evaluation). a.steps) h

  pub same_constraint : (c : Option Term) (place : ℕ) → SameClause levels levels' c →
      constraint c levels' place ≡ constraint c levels place
  unfolding constraint
  same_constraint None place h = refl
  same_constraint (Some e) place h = rw h refl

  pub same_condition : (c : Option Term) (s : ℕ) → SameClause levels levels' c →
      condition c levels' s ≡ condition c levels s
  unfolding condition
  same_condition None s h = refl
  same_condition (Some e) s h = rw h refl

  pub same_start : (pinned : Bool) (label : Option Term) (s behind : ℕ) → SameClause levels levels' label →
      field_start pinned label levels' s behind ≡ field_start pinned label levels s behind
  unfolding field_start
  same_start true label s behind h = refl
  same_start false None s behind h = refl
  same_start false (Some e) s behind h = rw h refl

  pub same_label_steps : (pinned : Bool) (label : Option Term) → SameClause levels levels' label →
      label_steps pinned label levels ≡ label_steps pinned label levels'
  same_label_steps true label h = refl
  same_label_steps false label h = same_steps label h

  pub same_extent : (bound : Bound) (s : ℕ) → SameBound levels levels' bound →
      extent_of bound levels' s ≡ extent_of bound levels s
  unfolding extent_of
  same_extent Unbounded s h = refl
  same_extent (ByCount e) s h = rw h refl
  same_extent (BySize e) s h = rw h refl

  pub same_bound_steps : (bound : Bound) → SameBound levels levels' bound →
      bound_steps bound levels ≡ bound_steps bound levels'
  same_bound_steps Unbounded h = refl
  same_bound_steps (ByCount e) h = ap (λ (a : Evaluation). a.steps) h
  same_bound_steps (BySize e) h = ap (λ (a : Evaluation). a.steps) h
