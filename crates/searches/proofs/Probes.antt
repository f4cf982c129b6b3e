-- The attempts at the types that are looked for.
use Rattle.std.proofs.Common.{◌≡◌, ◌≤◌, ℕ, true, List, [], append-nil, slice_index, Option, Result, Some, None, Ok, Err, IfOk, IfErr, IfSome, refl, sym, subst, arith}
use Rattle.bit_space.proofs.Failures.{risen_later}
use Rattle.bit_space.specs.SpaceView.{Keeps, SpaceView}
use Rattle.bit_space.specs.declared.order.Order.{Order}
use Rattle.command_line.specs.declared.ask.Ask.{Ask}
use Rattle.pickle_meaning.specs.Values.{end_of}
use Rattle.pickle_types.specs.declared.table.TypeId.{TypeId}
use Rattle.poke_batch.specs.declared.type_run.TypeRun.{TypeRun}
use Rattle.records.specs.Next.{HoldsValue, IsStopped}
use Rattle.records.specs.declared.attempt.Stopped.{Stopped}
use Rattle.run_parts.specs.declared.outcome.Outcome.{Outcome}
use Rattle.searches.proofs.Trials.{is_hit, is_miss}
use Rattle.searches.specs.Round.{GoesNext, GoesWithout, HasHit, HasMiss, StopsHunt}
use Rattle.searches.specs.Rounds.{IsNth, due}
use Rattle.searches.specs.Sought.{IsAttempt, StopsAt, StopsType, TriesType, TriesValue, ask_in, is_due, meant, past_stop, past_value, signed, spent, stops_signature, stops_value, unmeant, unsigned}
use Rattle.searches.specs.Starts.{ask_at}
use Rattle.searches.specs.Written.{IsRunAt}
use Rattle.searches.specs.declared.hunt.Hunt.{Hunt}
use Rattle.searches.specs.declared.hunt.Tried.{Tried}
use Rattle.searches.specs.declared.probe.Hit.{Hit}
use Rattle.searches.specs.declared.search.Reach.{Reach}
use Rattle.searches.specs.declared.sought.Sought.{Sought}
use Rattle.value_store.specs.Slots.{Held}

-- what a run stored is what an attempt found
module _ (hunt : Hunt) (first before : SpaceView) (at : Reach) (sought : Sought) (id : TypeId) (run : TypeRun)
    (is_run : IsAttempt hunt at sought id run) (since : Keeps first before) where
  run_at : IsRunAt run hunt.search at run
  run_at = record {
    table = refl;
    id = refl;
    terms = refl;
    ask = subst (λ (ask : Ask). ask ≡ ask_at hunt.search at ask) (sym is_run.ask) refl;
  }

  pub has_hit : (store : Held) (steps end : ℕ) (h : HoldsValue run before store steps) → end ≡ end_of h.value
      → HasHit hunt first at sought id (record { end = end; steps = steps })
  has_hit store steps end h is_end = record {
    value = h.value;
    hits = record {
      run = run;
      is_run = is_run;
      hit = is_hit run run hunt.search first before at run_at since store steps h;
    };
    is_end = is_end;
  }

  pub has_miss : (last : SpaceView) (stop : Stopped) → Keeps before last → IsStopped run before last stop
      → HasMiss hunt first last at sought id stop
  has_miss last stop during h = record {
    misses = record {
      run = run;
      is_run = is_run;
      miss = is_miss run run hunt.search first before at run_at since last stop h;
    };
    device = λ kind.
        risen_later first.failures before.failures last.failures since.failures during.failures (h.device kind);
  }

  -- what is known without a mapping
  pub skip_missed : (last : SpaceView) (skipped : Option Stopped) → Keeps before last →
      IfSome skipped (IsStopped run before last) → IfSome skipped (HasMiss hunt first last at sought id)
  skip_missed last (Some stop) during h = has_miss last stop during h
  skip_missed last None during h = tt

-- within the steps that are left
pub skip_few : (hunt : Hunt) (at : Reach) (run : TypeRun) (order : Order) (before last : SpaceView) →
    run.ask.now ≡ ask_in hunt.search at hunt.ask.now order → (skipped : Option Stopped) →
    IfSome skipped (IsStopped run before last) → IfSome skipped (λ stopped. stopped.steps ≤ at.left)
skip_few hunt at run order before last is (Some stop) h =
    let few = subst (λ (ask : Ask). stop.steps ≤ ask.limit) is h.few in omega (arith, few)
skip_few hunt at run order before last is None h = tt

pub known_few : (hunt : Hunt) (at : Reach) (order : Order) (ask : Ask) →
    ask ≡ ask_in hunt.search at hunt.ask.now order → (known : Option Stopped) →
    IfSome known (λ stopped. stopped.steps ≤ ask.limit) → IfSome known (λ stopped. stopped.steps ≤ at.left)
known_few hunt at order ask is (Some stop) h =
    let few = subst (λ (ask : Ask). stop.steps ≤ ask.limit) is h in omega (arith, few)
known_few hunt at order ask is None h = tt

-- a type that is due and has no value
pub goes_known : (hunt : Hunt) (first last : SpaceView) (k : ℕ) (at : Reach) (places text : List ℕ) (sought : Sought)
    (stop : Stopped) (next : Option Reach) → is_due hunt.search at (slice_index places k) ≡ true →
    IsNth hunt.list.now k sought → HasMiss hunt first last at sought sought.signature stop →
    next ≡ past_stop hunt.search hunt.terms.now.most_bytes at stop.fault.kind stop.steps →
    IfSome next (GoesNext hunt first k at places places text text)
goes_known hunt first last k at places text sought stop (Some next) is_on nth miss is = record {
  more = [];
  tries = due is_on nth (unsigned miss.misses (sym is));
  adds = sym (append-nil text);
}
goes_known hunt first last k at places text sought stop None is_on nth miss is = tt

module _ (hunt : Hunt) (first last : SpaceView) (at : Reach) (sought : Sought) where
  -- an attempt was stopped, and the search goes on
  pub goes_unmeant : (stop : Stopped) → HasMiss hunt first last at sought sought.id stop
      → (result : Result Tried Outcome) → IfOk result (GoesWithout hunt.search hunt.terms.now.most_bytes at stop)
      → IfOk result (TriesValue hunt first at sought)
  goes_unmeant stop miss (Ok tried) goes =
      subst (λ (end : Option ℕ). TriesValue hunt first at sought (record { reach = tried.reach; end = end }))
      (sym goes.none) (unmeant miss.misses goes.on)
  goes_unmeant stop miss (Err ended) goes = tt

  pub goes_unsigned : (stop : Stopped) → HasMiss hunt first last at sought sought.signature stop
      → (result : Result Tried Outcome) → IfOk result (GoesWithout hunt.search hunt.terms.now.most_bytes at stop)
      → IfOk result (TriesType hunt first at sought)
  goes_unsigned stop miss (Ok tried) goes =
      subst (λ (end : Option ℕ). TriesType hunt first at sought (record { reach = tried.reach; end = end }))
      (sym goes.none) (unsigned miss.misses goes.on)
  goes_unsigned stop miss (Err ended) goes = tt

  -- it was stopped, and the search ends
  pub stops_at : (id : TypeId) (stop : Stopped) → HasMiss hunt first last at sought id stop
      → (result : Result Tried Outcome) → IfErr result (StopsHunt hunt.terms.now hunt.search at stop)
      → IfErr result (StopsAt hunt first last at sought id)
  stops_at id stop miss (Ok tried) ends = tt
  stops_at id stop miss (Err ended) ends = record {
    kind = stop.fault.kind;
    place = stop.fault.at;
    steps = stop.steps;
    miss = miss.misses;
    ends = ends.ends;
    device = miss.device;
    says = ends.says;
  }

  pub stops_unsigned : (result : Result Tried Outcome)
      → IfErr result (StopsAt hunt first last at sought sought.signature)
      → IfErr result (StopsType hunt first last at sought)
  stops_unsigned (Ok tried) ends = tt
  stops_unsigned (Err ended) ends = stops_signature ends

  -- the type's value was found
  pub goes_meant : (hit : Hit) (next : Reach) → HasHit hunt first at sought sought.id hit
      → next ≡ past_value at hit.steps → TriesValue hunt first at sought (record { reach = next; end = Some hit.end })
  goes_meant hit next found is =
      subst (λ (reach : Reach). TriesValue hunt first at sought (record { reach = reach; end = Some hit.end })) (sym is)
      (subst (λ (end : ℕ). TriesValue hunt first at sought (record {
        reach = past_value at hit.steps;
        end = Some end;
      })) (sym found.is_end) (meant found.hits))

  -- the signature has a value, and the type was tried after it
  pub goes_signed : (hit : Hit) (next : Reach) → HasHit hunt first at sought sought.signature hit
      → next ≡ spent at hit.steps → (result : Result Tried Outcome) → IfOk result (TriesValue hunt first next sought)
      → IfOk result (TriesType hunt first at sought)
  goes_signed hit next found is (Ok tried) tries =
      signed found.hits (subst (λ (next : Reach). TriesValue hunt first next sought tried) is tries)
  goes_signed hit next found is (Err ended) tries = tt

  pub stops_signed : (hit : Hit) (next : Reach) → HasHit hunt first at sought sought.signature hit
      → next ≡ spent at hit.steps → (result : Result Tried Outcome)
      → IfErr result (StopsAt hunt first last next sought sought.id)
      → IfErr result (StopsType hunt first last at sought)
  stops_signed hit next found is (Ok tried) ends = tt
  stops_signed hit next found is (Err ended) ends =
      stops_value found.hits (subst (λ (next : Reach). StopsAt hunt first last next sought sought.id ended) is ends)
