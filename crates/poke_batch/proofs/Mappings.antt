-- Laws of what a mapping says.
use Rattle.std.proofs.Common.{◌≡◌, ◌≢◌, ◌+◌, ◌-◌, ◌*◌, ◌<◌, ◌∙◌, ℕ, List, Option, Some, Result, Ok, Err, refl, sym, ap, subst, arith}
use Rattle.std.proofs.lemmas.Option.{same_Some}
use Rattle.bit_space.specs.declared.order.Order.{Order}
use Rattle.bit_space.specs.Bits.{bits_of}
use Rattle.bit_space.specs.SpaceView.{SpaceView, HasRisen}
use Rattle.pickle_tree.specs.Tree.{DeclarationTree}
use Rattle.pickle_types.specs.declared.node.Node.{Node}
use Rattle.pickle_types.specs.Bounds.{cost}
use Rattle.pickle_types.specs.Names.{Names, find_type}
use Rattle.pickle_types.specs.Types.{PokeType}
use Rattle.pickle_meaning.specs.Answer.{Answer}
use Rattle.pickle_meaning.specs.Clauses.{FaultAt}
use Rattle.bit_space.specs.declared.meter.Meter.{Meter}
use Rattle.mapping_plans.specs.Mapping.{plan}
use Rattle.pickle_map.specs.Framed.{world_of}
use Rattle.pickle_map.specs.Mapped.{FaultMeans, EndsRun, Gives, fault_finish, RunsTo, RunsToFault}
use Rattle.value_store.specs.Slots.{Held, levels}
use Rattle.pickle_meaning.specs.Values.{Value, no_values, value_at}
use Rattle.pickle_meaning.specs.declared.faults.MapFaultKind.{MapFaultKind}
use Rattle.pickle_meaning.specs.declared.faults.MapFaultKind.TheVariants as fault
use Rattle.run_parts.specs.Accepted.{IsAccepted}
use Rattle.pickle_meaning.specs.FaultNames.{fault_kind}
use Rattle.run_parts.specs.FaultLines.{fault_saying}
use Rattle.command_line.specs.declared.ask.Ask.{Ask}
use Rattle.run_parts.specs.declared.status.Status.TheVariants.{Fault}
use Rattle.run_parts.specs.Lines.{fault_at_line}
use Rattle.poke_batch.specs.Runs.{HasAnswer, IsAsked, MapsAs, stops, device, no_memory}
use Rattle.run_parts.specs.Told.{Line}

pub asked : {pickle name : List ℕ} {declarations : List DeclarationTree} {types : Names} {type : PokeType} →
    IsAccepted pickle declarations types → find_type name types ≡ Some type → IsAsked pickle name type
asked a f = record { declarations = _; types = _; accepted = a; found = f }

-- an answer under the steps that a meter has left, which took none before
pub has_answer : (bytes : List ℕ) (type : PokeType) (order : Order) (start limit most used : ℕ)
    (answer : Result Value FaultAt) (k j : ℕ)
    → most ≡ limit → used ≡ 0 → Answer (bits_of bytes) type order start (most - used) answer k j
    → HasAnswer bytes type order start limit answer
has_answer bytes type order start limit most used answer k j same none means = record {
  steps = k;
  made = j;
  means = subst (λ left. Answer (bits_of bytes) type order start left answer k j) (omega (arith, same, none)) means;
}

-- the run of a mapping whose meter took no step and made no value before
pub run_to_fault : (space : SpaceView) (type : PokeType) (order : Order) (start limit : ℕ) (meter meter' : Meter)
    (store store' : Held) (kind : MapFaultKind) (at : ℕ)
    → meter.limit ≡ limit → meter.steps ≡ 0 → meter.made ≡ 0
    → RunsTo space meter meter' store store' (plan (8 * space.len) type order no_values start) (fault_finish kind at)
    → RunsToFault space type order start limit kind at
run_to_fault space type order start limit meter meter' store store' kind at same none nothing run = record {
  world = world_of space store store';
  known = refl;
  steps = meter'.steps;
  made = meter'.made;
  state = run.last;
  follows = rw (same, none, nothing) at run.follows;
}

-- what a mapping says of its fault, with a meter that took no step before
module _ (pickle : List ℕ) (ask : Ask) (before after : SpaceView) (type : PokeType) (at most used taken k j : ℕ)
    (same : most ≡ ask.limit) (none : used ≡ 0) (named : IsAsked pickle ask.name.now type) where
  stopped : (kind : MapFaultKind)
      → ((bytes : List ℕ) → before.bytes ≡ Some bytes
      → Answer (bits_of bytes) type ask.order ask.start (most - used) (Err (kind, at)) k j)
      → RunsToFault before type ask.order ask.start ask.limit kind
      at → (kind ≡ fault.Limit → (taken ≡ most) × (most < used + cost type (8 * before.len)))
      → (EndsRun kind → at ≡ ask.start)
      → kind ≢ fault.Device → kind ≢ fault.Memory
      → MapsAs pickle ask before after (Line Fault (fault_at_line (fault_kind kind) at))
  stopped kind means run over place not_device not_memory =
      stops named not_device not_memory
      (λ bytes known.
      has_answer bytes type ask.order ask.start ask.limit most used (Err (kind, at)) k j same none (means bytes known))
      run
      (λ e. (place (subst EndsRun (sym e) tt), omega (arith, (over e).1, same, none)))

  pub fault_says : (kind : MapFaultKind)
      → ((bytes : List ℕ) → before.bytes ≡ Some bytes
      → FaultMeans (bits_of bytes) type ask.order ask.start (most - used) kind at k j)
      → RunsToFault before type ask.order ask.start ask.limit kind
      at → (kind ≡ fault.Limit → (taken ≡ most) × (most < used + cost type (8 * before.len)))
      → (EndsRun kind → at ≡ ask.start)
      → (kind ≡ fault.Device → HasRisen before.failures after.failures)
      → MapsAs pickle ask before after (fault_saying kind at)
  fault_says fault.End means run over place risen = stopped fault.End means run over place (λ e. cc) (λ e. cc)
  fault_says fault.Constraint means run over place risen =
      stopped fault.Constraint means run over place (λ e. cc) (λ e. cc)
  fault_says fault.Bounds means run over place risen = stopped fault.Bounds means run over place (λ e. cc) (λ e. cc)
  fault_says fault.NoBits means run over place risen = stopped fault.NoBits means run over place (λ e. cc) (λ e. cc)
  fault_says fault.Zero means run over place risen = stopped fault.Zero means run over place (λ e. cc) (λ e. cc)
  fault_says fault.Overflow means run over place risen = stopped fault.Overflow means run over place (λ e. cc) (λ e. cc)
  fault_says fault.Absent means run over place risen = stopped fault.Absent means run over place (λ e. cc) (λ e. cc)
  fault_says fault.Index means run over place risen = stopped fault.Index means run over place (λ e. cc) (λ e. cc)
  fault_says fault.Limit means run over place risen = stopped fault.Limit means run over place (λ e. cc) (λ e. cc)
  fault_says fault.Device means run over place risen = device named (risen refl)
  fault_says fault.Memory means run over place risen = no_memory

-- the value that a store gives, as the value that is shown at its root
pub root_given : {nodes : List Node} {store : Held} {P : Value → Type 0} (g : Gives nodes store P) →
    value_at (levels nodes store) 0 0 ≡ Some g.value
root_given g = ap (λ levels. value_at levels 0 0) g.keeps

-- the answer that a mapping has by its value
pub value_answers : (type : PokeType) (order : Order) (start limit most used k j : ℕ) (known : Option (List ℕ))
    (nodes : List Node) (store : Held) (v : Value)
    → most ≡ limit → used ≡ 0
    → ((bytes : List ℕ) → known ≡ Some bytes
    → Gives nodes store (λ v. Answer (bits_of bytes) type order start (most - used) (Ok v) k j))
    → value_at (levels nodes store) 0 0 ≡ Some v
    → (bytes : List ℕ) → known ≡ Some bytes → HasAnswer bytes type order start limit (Ok v)
value_answers type order start limit most used k j known nodes store v same none means root bytes is =
    let m = means bytes is in
    let e = same_Some m.value v (sym (root_given m) ∙ root) in
    has_answer bytes type order start limit most used (Ok v) k j same none
    (subst (λ v. Answer (bits_of bytes) type order start (most - used) (Ok v) k j) e m.holds)
