-- What the calls for the clauses of a type did, on the open values of a store with the names of a table.
use Rattle.std.specs.Prelude.{ℕ, Bool, List, Option, Box, Result}
use Rattle.std.specs.declared.alloc.Global.{Global}
use Rattle.bit_space.specs.declared.meter.Meter.{Meter}
use Rattle.pickle_types.specs.declared.node.Extent.{Extent as Bound}
use Rattle.pickle_types.specs.declared.node.Node.{Node}
use Rattle.pickle_types.specs.declared.node.Resolved.{Resolved}
use Rattle.pickle_types.specs.Table.{term_of, optional_term, bound_of}
use Rattle.pickle_evaluation.specs.declared.content.Content.{Content}
use Rattle.pickle_meaning.specs.declared.extent.Extent.{Extent}
use Rattle.pickle_meaning.specs.Clauses.{FaultAt, constraint, condition, field_start, extent_of, clause_steps, label_steps, bound_steps, kind_at, told_at}
use Rattle.pickle_meaning.specs.Evaluation.{evaluation, truth_of}
use Rattle.pickle_meaning.specs.Values.{Label}
use Rattle.pickle_map.specs.declared.mapper.stop.Stop.{Stop}
use Rattle.pickle_map.specs.Settles.{Settles, Sees}
use Rattle.value_store.specs.Slots.{Held, levels}

module _ (nodes : List Node) (meter meter' : Meter) (store : Held) where
  -- a constraint was checked; its faults are at `place`
  abbrev pub Checks : Option (Box Resolved Global) → (place : ℕ) → Result (Unit {0}) Stop → Type 0
  Checks clause place result =
      Settles meter.limit meter.steps meter'.steps result (constraint (optional_term clause) (levels nodes store) place)
      (clause_steps (optional_term clause) (levels nodes store))

  -- a condition was evaluated to decide whether its field is present
  abbrev pub TellsThere : Option (Box Resolved Global) → (start : ℕ) → Result Bool Stop → Type 0
  TellsThere clause start result =
      Settles meter.limit meter.steps meter'.steps result (condition (optional_term clause) (levels nodes store) start)
      (clause_steps (optional_term clause) (levels nodes store))

  -- a field's start was found, by its label or after the field before it
  abbrev pub FindsStart : (pinned : Bool) → Option (Box Resolved Global) → (start last_end : ℕ) → Result ℕ Stop → Type 0
  FindsStart pinned label start last_end result =
      Settles meter.limit meter.steps meter'.steps result
      (field_start pinned (optional_term label) (levels nodes store) start last_end)
      (label_steps pinned (optional_term label) (levels nodes store))

  -- the extent of an array was found
  abbrev pub FindsExtent : Bound → (start : ℕ) → Result Extent Stop → Type 0
  FindsExtent bound start result =
      Settles meter.limit meter.steps meter'.steps result (extent_of (bound_of bound) (levels nodes store) start)
      (bound_steps (bound_of bound) (levels nodes store))

  -- an expression was evaluated; what its value gives has its fault at `place`, as the expression has
  abbrev pub TellsOf : {A : Type 0} → Resolved → (place : ℕ) → (Label → Result A FaultAt) → Result A Stop → Type 0
  TellsOf e place told result =
      Settles meter.limit meter.steps meter'.steps result
      (told_at place told (evaluation (term_of e) (levels nodes store)).outcome)
      (evaluation (term_of e) (levels nodes store)).steps

  -- its truth is returned
  abbrev pub TellsTruth : Resolved → (place : ℕ) → Result Bool Stop → Type 0
  TellsTruth e place result = TellsOf e place (λ x. kind_at place (truth_of x)) result

  -- its value is returned as operators need it
  abbrev pub ShowsValue : Resolved → (place : ℕ) → Result Content Stop → Type 0
  ShowsValue e place result =
      Sees meter.limit meter.steps meter'.steps place result (evaluation (term_of e) (levels nodes store))
