-- A field of a struct on the way to a list: why it stops, and what is before the fields after it or the type in it.
use Rattle.std.proofs.Common.{◌≡◌, ℕ, zero, suc, ◌+◌, ◌*◌, ◌<◌, max, Bool, true, false, List, Option, Some, None, Result, Ok, Err, refl, sym, ap, ◌∙◌, subst, arith}
use Rattle.bit_space.specs.Bits.{bits_of}
use Rattle.bit_space.specs.declared.order.Order.{Order}
use Rattle.pickle_tree.specs.declared.tree.ByteOrder.{ByteOrder}
use Rattle.pickle_types.specs.Types.{PokeType, Term, Fields, FieldThen}
use Rattle.pickle_meaning.specs.Clauses.{FaultAt, constraint, condition, field_start, clause_steps, label_steps}
use Rattle.pickle_meaning.specs.Means.{ordered}
use Rattle.pickle_meaning.specs.Values.{Naming, Value, end_of, Levels, pushed}
use Rattle.pickle_map.specs.declared.mapper.stop.Stop.{Stop}
use Rattle.pickle_map.specs.declared.mapper.stop.Stop.TheVariants.{Fault, Limit, Device, Memory}
use Rattle.pickle_map.specs.Settles.{Settles}
use Rattle.inner_lists.specs.Calls.{Claim, Comes, Leads, RunsOut, StopsAt}
use Rattle.list_laws.specs.Meanings.{IsMeant, Meaning, SpaceBytes, meaning_in}
use Rattle.list_laws.specs.Paths.{Path, is_list_in}
use Rattle.list_laws.specs.Reaches.{Reached, Faulty, Lacking, holds, refused, faulty, Reaches, ReachesIn, absent, field, field_fault, condition_fault, label_fault, lacks, into}
use Rattle.inner_lists.proofs.Totals.{Total, Next, checked_total, typed_total, label_total, when_total, next_total}

-- an outcome that takes more steps than are left
pub runs_out : (space : SpaceBytes) (claim : Claim Reached) (limit before after least : ℕ) → after ≡ limit
    → limit < before + least → ((bits : List ℕ) → Total (claim (IsMeant bits)) least)
    → RunsOut space claim limit before after
runs_out space claim limit before after least all more total = record {
  all = all;
  exceeds = λ bytes known.
      let t = total (bits_of bytes) in
      let most = t.most in
      record { outcome = t.outcome; steps = t.steps; holds = t.holds; more = omega (arith, more, most) };
}

-- a clause that stops: at a fault that is claimed after so many steps
pub clause_stops : {A : Type 0} (space : SpaceBytes) (D : Type 0) (claim : Claim Reached)
    (limit before mid after least steps : ℕ) (o : Result A FaultAt) (stop : Stop) → mid + steps ≡ before + least
    → ((M : Meaning) (f : FaultAt) → o ≡ Err f → claim M (Faulty f) least)
    → ((bits : List ℕ) → Total (claim (IsMeant bits)) least)
    → Settles limit mid after (Err stop) o steps → StopsAt space D claim Faulty limit before after stop
clause_stops space D claim limit before mid after least steps o (Fault kind place) same fault total h = record {
  steps = least;
  taken = let taken = h.1 in omega (arith, taken, same);
  holds = λ known are. fault (meaning_in space known) (kind, place) h.0;
}
clause_stops space D claim limit before mid after least steps o Limit same fault total h =
    runs_out space claim limit before after least h.0 (let more = h.1 in omega (arith, more, same)) total
clause_stops space D claim limit before mid after least steps o Device same fault total h = absurd h
clause_stops space D claim limit before mid after least steps o Memory same fault total h = absurd h

module _ (space : SpaceBytes) (D : Type 0) (pinned : Bool) (s : ℕ) (name : Naming) (set : Option ByteOrder)
    (ty : PokeType) (c label when : Option Term) (rest : Fields) (place : ℕ) (path : Path) (order : Order)
    (levels : Levels) (behind top : ℕ) (limit before : ℕ) where
  -- what the path through these fields leads to
  abbrev pub from : Claim Reached
  from = λ M r k. ReachesIn (8 * space.len) M pinned s (FieldThen name set ty c label when rest) place path order levels
      behind top r k

  abbrev IsPath : Type 0
  IsPath = is_list_in (FieldThen name set ty c label when rest) place path ≡ true

  next_of : IsPath → (bits : List ℕ) →
      Next (8 * space.len) bits pinned s name set ty c label when rest path order levels behind top place
  next_of is bits =
      next_total (8 * space.len) bits pinned s name set ty c label when rest path order levels behind top place is

  total_when : IsPath → (bits : List ℕ) → Total (from (IsMeant bits)) (1 + clause_steps when levels)
  total_when is bits =
      when_total (8 * space.len) bits pinned s name set ty c label when rest path order levels behind top place
      (next_of is bits) (condition when levels s) refl

  -- no step is left for it
  pub tick_stops : IsPath → (after : ℕ) → after ≡ limit → before ≡ limit → RunsOut space from limit before after
  tick_stops is after all none =
      runs_out space from limit before after (1 + clause_steps when levels) all (omega (arith, none)) (total_when is)

  -- its condition stops
  pub condition_stops : IsPath → (start limit' mid after : ℕ) (stop : Stop) → start ≡ s → limit' ≡ limit
      → mid ≡ before + 1
      → Settles {A = Bool} limit' mid after (Err stop) (condition when levels start) (clause_steps when levels)
      → StopsAt space D from Faulty limit before after stop
  condition_stops is start limit' mid after stop at same taken h =
      clause_stops space D from limit before mid after (1 + clause_steps when levels)
      (clause_steps when levels) (condition when levels s) stop (omega (arith, taken))
      (λ M f e. condition_fault e) (total_when is)
      (subst (λ (n : ℕ). Settles {A = Bool} n mid after (Err stop) (condition when levels s) (clause_steps when levels))
      same
      (subst (λ (n : ℕ).
      Settles {A = Bool} limit' mid after (Err stop) (condition when levels n) (clause_steps when levels)) at h))

  -- its label stops
  pub label_stops : IsPath → (limit' mid after : ℕ) (stop : Stop) → limit' ≡ limit
      → mid ≡ before + 1 + clause_steps when levels
      → condition when levels s ≡ Ok true
      → Settles {A = ℕ} limit' mid after (Err stop) (field_start pinned label levels s behind)
      (label_steps pinned label levels)
      → StopsAt space D from Faulty limit before after stop
  label_stops is limit' mid after stop same taken there h =
      clause_stops space D from limit before mid after
      (1 + clause_steps when levels + label_steps pinned label levels)
      (label_steps pinned label levels) (field_start pinned label levels s behind) stop (omega (arith, taken))
      (λ M f e. label_fault there e)
      (λ bits. label_total (8 * space.len) bits pinned s name set ty c label when rest path order levels behind top
      place (next_of is bits) there (field_start pinned label levels s behind) refl)
      (subst (λ (n : ℕ). Settles {A = ℕ} n mid after (Err stop) (field_start pinned label levels s behind)
      (label_steps pinned label levels)) same h)

module _ (space : SpaceBytes) (D : Type 0) (pinned : Bool) (s : ℕ) (name : Naming) (set : Option ByteOrder)
    (ty : PokeType) (c label when : Option Term) (rest : Fields) (place : ℕ) (path : Path) (order : Order)
    (levels : Levels) (behind top : ℕ) (limit before : ℕ) where
  -- what the path leads to that goes on after the field
  abbrev past : Claim Reached
  past = from space D pinned s name set ty c label when rest (suc place) path order levels behind top limit before

  -- it is absent
  pub absent_leads : (levels' : Levels) (after : ℕ) → levels' ≡ pushed levels None
      → after ≡ before + 1 + clause_steps when levels → condition when levels s ≡ Ok false
      → Leads space
      (λ M r k. ReachesIn (8 * space.len) M pinned s rest place path order levels' behind top r k)
      past before after
  absent_leads levels' after frames taken gone = record {
    steps = 1 + clause_steps when levels;
    taken = omega (arith, taken);
    leads = λ known are r k h. absent gone
        (subst (λ (l : Levels). ReachesIn (8 * space.len) (meaning_in space known) pinned s rest place path order l
        behind top r k) frames h);
  }

  module _ (p mid : ℕ) (own : Order) (there : condition when levels s ≡ Ok true)
      (start : field_start pinned label levels s behind ≡ Ok p)
      (taken : mid ≡ before + 1 + clause_steps when levels + label_steps pinned label levels)
      (ordering : own ≡ ordered set order) where
    -- what its type is
    abbrev its : Claim (Result Value FaultAt)
    its = λ M r k. M ty own levels p r k

    as_ordered : (M : Meaning) (r : Result Value FaultAt) (k : ℕ) → its M r k → M ty (ordered set order) levels p r k
    as_ordered M r k h = subst (λ (o : Order). M ty o levels p r k) ordering h

    -- its type stops
    pub type_stops : is_list_in rest place path ≡ true → (limit' after : ℕ) (stop : Stop) → limit' ≡ limit
        → StopsAt space D its (λ f. Err f) limit' mid after stop
        → StopsAt space D past Faulty limit before after stop
    type_stops is limit' after (Fault kind at) same h = record {
      steps = 1 + clause_steps when levels + label_steps pinned label levels + h.steps;
      taken = let more = h.taken in omega (arith, more, taken);
      holds = λ known are.
          field_fault there start (faulty (as_ordered (meaning_in space known) _ _ (h.holds known are)));
    }
    type_stops is limit' after Limit same h = record {
      all = let all = h.all in omega (arith, all, same);
      exceeds = λ bytes known.
          let x = h.exceeds bytes known in
          let t = typed_total (8 * space.len) (bits_of bytes) pinned s name set ty c label when rest path order levels
          behind top place p x.steps x.outcome
          (next_total (8 * space.len) (bits_of bytes) pinned s name set ty c label when rest path
          order levels behind top
          (suc place) is) there start (as_ordered (IsMeant (bits_of bytes)) _ _ x.holds) in
          let most = t.most in
          let more = x.more in
          record {
            outcome = t.outcome;
            steps = t.steps;
            holds = t.holds;
            more = omega (arith, most, more, taken, same);
          };
    }
    type_stops is limit' after Device same h = h
    type_stops is limit' after Memory same h = tt

    module _ (v : Value) (then end : ℕ) (levels' : Levels) (came : Comes space its mid then (Ok v))
        (kept : levels' ≡ pushed levels (Some v)) (ends : end_of v ≡ end) where
      as_pushed : {A : Type 0} (f : Levels → A) → f levels' ≡ f (pushed levels (Some v))
      as_pushed f = ap f kept

      -- its constraint stops
      pub constraint_stops : is_list_in rest place path ≡ true → (limit' after : ℕ) (stop : Stop) → limit' ≡ limit
          → Settles {A = Unit {0}} limit' then after (Err stop) (constraint c levels' p) (clause_steps c levels')
          → StopsAt space D past Faulty limit before after stop
      constraint_stops is limit' after (Fault kind at) same h = record {
        steps = 1 + clause_steps when levels + label_steps pinned label levels
            + (came.steps + clause_steps c (pushed levels (Some v)));
        taken = let more = came.taken in let most = h.1 in let e = as_pushed (clause_steps c) in
            omega (arith, more, most, taken, e);
        holds = λ known are. field_fault there start
            (refused (as_ordered (meaning_in space known) _ _ (came.holds known are))
            (sym (as_pushed (λ l. constraint c l p)) ∙ h.0));
      }
      constraint_stops is limit' after Limit same h = record {
        all = let all = h.0 in omega (arith, all, same);
        exceeds = λ bytes known.
            let t = checked_total (8 * space.len) (bits_of bytes) pinned s name set ty c label when rest path order
            levels behind top place p came.steps v
            (next_total (8 * space.len) (bits_of bytes) pinned s name set ty c label when rest path order levels behind
            top (suc place) is) there start (as_ordered (IsMeant (bits_of bytes)) _ _ (came.holds (Some bytes) known))
            (constraint c (pushed levels (Some v)) p) refl in
            let most = t.most in
            let more = h.1 in
            let first = came.taken in
            let e = as_pushed (clause_steps c) in
            record {
              outcome = t.outcome;
              steps = t.steps;
              holds = t.holds;
              more = omega (arith, most, more, taken, first, same, e);
            };
      }
      constraint_stops is limit' after Device same h = absurd h
      constraint_stops is limit' after Memory same h = absurd h

      -- it is a value whose constraint holds
      pub value_leads : (after : ℕ) → constraint c levels' p ≡ Ok tt → after ≡ then + clause_steps c levels'
          → Leads space
          (λ M r k. ReachesIn (8 * space.len) M pinned s rest place path order levels' end (max top end) r k)
          past before after
      value_leads after fine checked = record {
        steps = 1 + clause_steps when levels + label_steps pinned label levels
            + (came.steps + clause_steps c (pushed levels (Some v)));
        taken = let more = came.taken in let e = as_pushed (clause_steps c) in omega (arith, more, checked, taken, e);
        leads = λ known are r k h.
            field there start
            (holds (as_ordered (meaning_in space known) _ _ (came.holds known are))
            (sym (as_pushed (λ l. constraint c l p)) ∙ fine))
            (subst (λ (n : ℕ). ReachesIn (8 * space.len) (meaning_in space known) pinned s rest place path order
            (pushed levels (Some v)) n (max top n) r k) (sym ends)
            (subst (λ (l : Levels). ReachesIn (8 * space.len) (meaning_in space known) pinned s rest place path order l
            end (max top end) r k) kept h));
      }

module _ (space : SpaceBytes) (D : Type 0) (pinned : Bool) (s : ℕ) (name : Naming) (set : Option ByteOrder)
    (ty : PokeType) (c label when : Option Term) (rest : Fields) (path : Path) (order : Order)
    (levels : Levels) (behind top : ℕ) (limit before : ℕ) where
  -- what the path leads to that goes on in the field
  abbrev inside : Claim Reached
  inside = from space D pinned s name set ty c label when rest zero path order levels behind top limit before

  pub lacks_comes : (after : ℕ) → after ≡ before + 1 + clause_steps when levels → condition when levels s ≡ Ok false
      → Comes space inside before after Lacking
  lacks_comes after taken gone = record {
    steps = 1 + clause_steps when levels;
    taken = omega (arith, taken);
    holds = λ known are. lacks gone;
  }

  pub into_leads : (p after : ℕ) → after ≡ before + 1 + clause_steps when levels + label_steps pinned label levels
      → condition when levels s ≡ Ok true → field_start pinned label levels s behind ≡ Ok p
      → Leads space
      (λ M r k. Reaches (8 * space.len) M ty path (ordered set order) levels p top r k) inside before after
  into_leads p after taken there start = record {
    steps = 1 + clause_steps when levels + label_steps pinned label levels;
    taken = omega (arith, taken);
    leads = λ known are r k h. into there start h;
  }
