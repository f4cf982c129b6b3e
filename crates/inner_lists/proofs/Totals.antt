-- Each path to a list leads to something, and takes the steps of what is evaluated on it.
use Rattle.std.proofs.Common.{◌≡◌, ℕ, zero, suc, ◌+◌, ◌<◌, ◌≤◌, max, length, Bool, true, false, List, [], ◌∷◌, Option, Some, None, ◌⊎◌, inl, inr, Result, Ok, Err, refl, arith}
use Rattle.std.proofs.lemmas.Bool.{cases_lt, false≢true}
use Rattle.bit_space.specs.declared.order.Order.{Order}
use Rattle.pickle_tree.specs.declared.tree.ByteOrder.{ByteOrder}
use Rattle.pickle_types.specs.Types.{PokeType, Term, Bound, IntegerOf, OffsetOf, StringOf, ArrayOf, StructOf, IntegralOf, UnionOf, Fields, NoFields, FieldThen}
use Rattle.pickle_meaning.specs.declared.extent.Extent.{Extent}
use Rattle.pickle_meaning.specs.Clauses.{FaultAt, constraint, condition, field_start, extent_of, clause_steps, label_steps, bound_steps}
use Rattle.pickle_meaning.specs.Means.{ordered}
use Rattle.pickle_meaning.specs.Values.{Naming, Value, end_of, Levels, pushed, opened}
use Rattle.mapping_plans.specs.Mapping.{plan}
use Rattle.mapping_plans.specs.Plan.{result_of, steps_of}
use Rattle.mapping_plans.proofs.Exists.{plan_means}
use Rattle.list_laws.specs.Meanings.{IsMeant}
use Rattle.list_laws.specs.Paths.{Path, is_list, is_list_in}
use Rattle.list_laws.specs.Reaches.{Reached, Faulty, Lacking, holds, refused, faulty, Reaches, ReachesIn, past_end, array, bound_fault, through, absent, field, field_fault, condition_fault, label_fault, lacks, into}

-- an outcome of a claim, with so many steps or more
pub record Total (claim : Reached → (steps : ℕ) → Type 0) (least : ℕ) : Type 0 where
  pub outcome : Reached
  pub steps : ℕ
  pub holds : claim outcome steps
  pub most : least ≤ steps

-- a number is below another one, or isn't
cases_below : (m s : ℕ) → (m < s) ⊎ (s ≤ m)
cases_below m s = elim (cases_lt m s) [ inl lt ↦ inl lt | inr le ↦ inr (omega (arith, le)) ]

-- more steps than these
pub at_least : {claim : Reached → ℕ → Type 0} (n least : ℕ) → n ≤ least → Total claim least → Total claim n
at_least n least le t =
    let most = t.most in
    record { outcome = t.outcome; steps = t.steps; holds = t.holds; most = omega (arith, most, le) }

module _ (m : ℕ) (bits : List ℕ) (pinned : Bool) (s : ℕ) (name : Naming) (set : Option ByteOrder) (ty : PokeType)
    (c label when : Option Term) (rest : Fields) (path : Path) (order : Order) (levels : Levels) (behind top : ℕ) where
  -- what the paths through these fields lead to
  abbrev From : (place : ℕ) → Reached → ℕ → Type 0
  From place r k = ReachesIn m (IsMeant bits) pinned s (FieldThen name set ty c label when rest) place path order levels
      behind top r k

  -- the same of what is after the first field, or in it
  abbrev pub Next : (place : ℕ) → Type 0
  Next zero = (p : ℕ) → Total (Reaches m (IsMeant bits) ty path (ordered set order) levels p top) 0
  Next (suc place) = (levels' : Levels) (behind' top' : ℕ) →
      Total (ReachesIn m (IsMeant bits) pinned s rest place path order levels' behind' top') 0

  -- by its constraint, where it is before the one on the path
  pub checked_total : (place p k : ℕ) (v : Value) → Next (suc place) → condition when levels s ≡ Ok true
      → field_start pinned label levels s behind ≡ Ok p → IsMeant bits ty (ordered set order) levels p (Ok v) k
      → (o : Result (Unit {0}) FaultAt) → constraint c (pushed levels (Some v)) p ≡ o
      → Total (From (suc place)) (1 + clause_steps when levels + label_steps pinned label levels
      + (k + clause_steps c (pushed levels (Some v))))
  checked_total place p k v next there start means (Ok tt) e =
      let t = next (pushed levels (Some v)) (end_of v) (max top (end_of v)) in
      record { outcome = t.outcome; steps = _; holds = field there start (holds means e) t.holds; most = omega arith }
  checked_total place p k v next there start means (Err f) e =
      record { outcome = Faulty f; steps = _; holds = field_fault there start (refused means e); most = omega arith }

  -- by its own outcome
  pub typed_total : (place p k : ℕ) (o : Result Value FaultAt) → Next (suc place) → condition when levels s ≡ Ok true
      → field_start pinned label levels s behind ≡ Ok p → IsMeant bits ty (ordered set order) levels p o k
      → Total (From (suc place)) (1 + clause_steps when levels + label_steps pinned label levels + k)
  typed_total place p k (Ok v) next there start means =
      at_least _ _ (omega arith)
      (checked_total place p k v next there start means (constraint c (pushed levels (Some v)) p) refl)
  typed_total place p k (Err f) next there start means =
      record { outcome = Faulty f; steps = _; holds = field_fault there start (faulty means); most = omega arith }

  -- by its start
  started_total : (place p : ℕ) → Next place → condition when levels s ≡ Ok true
      → field_start pinned label levels s behind ≡ Ok p
      → Total (From place) (1 + clause_steps when levels + label_steps pinned label levels)
  started_total zero p next there start =
      let t = next p in
      record { outcome = t.outcome; steps = _; holds = into there start t.holds; most = omega arith }
  started_total (suc place) p next there start =
      at_least _ _ (omega arith)
      (typed_total place p (steps_of bits (plan (length bits) ty (ordered set order) levels p))
      (result_of bits (plan (length bits) ty (ordered set order) levels p)) next there start
      (record { made = _; means = plan_means bits ty (ordered set order) levels p }))

  -- by its label
  pub label_total : (place : ℕ) → Next place → condition when levels s ≡ Ok true → (o : Result ℕ FaultAt)
      → field_start pinned label levels s behind ≡ o
      → Total (From place) (1 + clause_steps when levels + label_steps pinned label levels)
  label_total place next there (Ok p) e = started_total place p next there e
  label_total place next there (Err f) e =
      record { outcome = Faulty f; steps = _; holds = label_fault there e; most = omega arith }

  -- without it
  gone_total : (place : ℕ) → Next place → condition when levels s ≡ Ok false →
      Total (From place) (1 + clause_steps when levels)
  gone_total zero next gone = record { outcome = Lacking; steps = _; holds = lacks gone; most = omega arith }
  gone_total (suc place) next gone =
      let t = next (pushed levels None) behind top in
      record { outcome = t.outcome; steps = _; holds = absent gone t.holds; most = omega arith }

  -- by its condition
  pub when_total : (place : ℕ) → Next place → (o : Result Bool FaultAt) → condition when levels s ≡ o →
      Total (From place) (1 + clause_steps when levels)
  when_total place next (Ok true) e =
      at_least _ _ (omega arith)
      (label_total place next e (field_start pinned label levels s behind) refl)
  when_total place next (Ok false) e = gone_total place next e
  when_total place next (Err f) e =
      record { outcome = Faulty f; steps = _; holds = condition_fault e; most = omega arith }

module _ (m : ℕ) (bits : List ℕ) where
  -- the array itself
  pub total_array : (element : PokeType) (bound : Bound) (order : Order) (levels : Levels) (s top : ℕ) → s ≤ m
      → (o : Result Extent FaultAt) → extent_of bound levels s ≡ o
      → Total (Reaches m (IsMeant bits) (ArrayOf element bound) [] order levels s top) (1 + bound_steps bound levels)
  total_array element bound order levels s top inside (Ok extent) e =
      record { outcome = _; steps = _; holds = array inside e; most = omega arith }
  total_array element bound order levels s top inside (Err f) e =
      record { outcome = Faulty f; steps = _; holds = bound_fault inside e; most = omega arith }

  total_past : (ty : PokeType) (path : Path) (order : Order) (levels : Levels) (s top : ℕ) → m < s →
      Total (Reaches m (IsMeant bits) ty path order levels s top) 0
  total_past ty path order levels s top past =
      record { outcome = _; steps = 0; holds = past_end past; most = omega arith }

  mutual
    pub total : (ty : PokeType) (path : Path) (order : Order) (levels : Levels) (s top : ℕ) → is_list ty path ≡ true →
        Total (Reaches m (IsMeant bits) ty path order levels s top) 0
    total (IntegerOf type) path order levels s top is = absurd (false≢true is)
    total (OffsetOf type unit) path order levels s top is = absurd (false≢true is)
    total StringOf path order levels s top is = absurd (false≢true is)
    total (ArrayOf element bound) [] order levels s top is = elim (cases_below m s) [
      | inl past ↦ total_past (ArrayOf element bound) [] order levels s top past
      | inr inside ↦
          at_least 0 _ (omega arith)
          (total_array element bound order levels s top inside (extent_of bound levels s) refl)
    ]
    total (ArrayOf element bound) (place ∷ path) order levels s top is = absurd (false≢true is)
    total (StructOf name pinned fields) [] order levels s top is = absurd (false≢true is)
    total (StructOf name pinned fields) (place ∷ path) order levels s top is = elim (cases_below m s) [
      | inl past ↦ total_past (StructOf name pinned fields) (place ∷ path) order levels s top past
      | inr inside ↦
          let t = total_in fields place path pinned order (opened levels) s s (max top s) is in
          record { outcome = t.outcome; steps = _; holds = through inside t.holds; most = omega arith }
    ]
    total (IntegralOf name type fields) path order levels s top is = absurd (false≢true is)
    total (UnionOf name alternatives) path order levels s top is = absurd (false≢true is)

    pub total_in : (fields : Fields) (place : ℕ) (path : Path) (pinned : Bool) (order : Order) (levels : Levels)
        (s behind top : ℕ) → is_list_in fields place path ≡ true →
        Total (ReachesIn m (IsMeant bits) pinned s fields place path order levels behind top) 0
    total_in NoFields place path pinned order levels s behind top is = absurd (false≢true is)
    total_in (FieldThen name set ty c label when rest) zero path pinned order levels s behind top is =
        at_least 0 _ (omega arith)
        (when_total m bits pinned s name set ty c label when rest path order levels behind top zero
        (λ p. total ty path (ordered set order) levels p top is) (condition when levels s) refl)
    total_in (FieldThen name set ty c label when rest) (suc place) path pinned order levels s behind top is =
        at_least 0 _ (omega arith)
        (when_total m bits pinned s name set ty c label when rest path order levels behind top (suc place)
        (λ levels' behind' top'. total_in rest place path pinned order levels' s behind' top' is)
        (condition when levels s) refl)

  -- what is after a field on the way, or in it, is there
  pub next_total : (pinned : Bool) (s : ℕ) (name : Naming) (set : Option ByteOrder) (ty : PokeType)
      (c label when : Option Term) (rest : Fields) (path : Path) (order : Order) (levels : Levels) (behind top : ℕ)
      (place : ℕ) → is_list_in (FieldThen name set ty c label when rest) place path ≡ true →
      Next m bits pinned s name set ty c label when rest path order levels behind top place
  next_total pinned s name set ty c label when rest path order levels behind top zero is =
      λ p. total ty path (ordered set order) levels p top is
  next_total pinned s name set ty c label when rest path order levels behind top (suc place) is =
      λ levels' behind' top'. total_in rest place path pinned order levels' s behind' top' is
