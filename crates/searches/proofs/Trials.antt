-- What one start of a search leaves of it.
use Rattle.std.proofs.Common.{◌≡◌, ◌∙◌, ◌<◌, ◌≤◌, ◌*◌, ℕ, true, false, List, [], ◌∷◌, Option, Result, Some, None, Ok, Err, IfOk, IfErr, sym, ap, subst}
use Rattle.std.proofs.KnownBytes.{Appends-nil, Keeps-refl}
use Rattle.std.proofs.lemmas.List.{append-nil}
use Rattle.std.specs.Borrow.{Bor}
use Rattle.std.specs.Option.{option_map}
use Rattle.std.specs.Io.KnownBytes.{Appends}
use Rattle.bit_space.proofs.Failures.{keeps_all, risen_later}
use Rattle.bit_space.specs.Bits.{bits_of}
use Rattle.bit_space.specs.SpaceView.{Keeps, SpaceView}
use Rattle.command_line.specs.declared.ask.Ask.{Ask}
use Rattle.bit_space.specs.declared.order.Order.{Order}
use Rattle.command_line.specs.declared.terms.Terms.{Terms}
use Rattle.mapping_plans.specs.Kept.{KeepsBy}
use Rattle.mapping_plans.specs.Mapping.{plan}
use Rattle.pickle_map.specs.Follows.{Follows}
use Rattle.pickle_map.specs.Mapped.{FaultMeans, RunsToFault, fault_finish}
use Rattle.pickle_meaning.specs.Answer.{Answer}
use Rattle.pickle_meaning.specs.Fits.{Fits}
use Rattle.pickle_meaning.specs.Values.{no_values}
use Rattle.pickle_meaning.specs.declared.faults.MapFaultKind.{MapFaultKind}
use Rattle.pickle_types.specs.Bounds.{cost, room}
use Rattle.pickle_types.specs.TypeTable.{type_named}
use Rattle.pickle_types.specs.Types.{PokeType}
use Rattle.pickle_types.specs.declared.table.Table.{Table}
use Rattle.pickle_types.specs.declared.table.TypeId.{TypeId}
use Rattle.poke_batch.specs.TypeRuns.{run_type}
use Rattle.poke_batch.specs.declared.type_run.TypeRun.{TypeRun}
use Rattle.poke_batch.specs.RunsUnder.{AreLightUnder, AreTooHeavy, WeighsAtMost}
use Rattle.records.proofs.Nexts.{light_since, view_kept}
use Rattle.records.specs.Next.{HoldsValue, IsStopped, LacksSlots}
use Rattle.records.specs.declared.attempt.Stopped.{Stopped}
use Rattle.run_parts.specs.declared.outcome.Outcome.{Outcome}
use Rattle.searches.specs.Starts.{IsHit, IsMiss, after_stop, after_value, ask_at, goes_on}
use Rattle.searches.specs.Trial.{EndsHere, GoesOn, IsUnput, PutsHeld, StopsSearch, cut_off, is_cut, lacks_line, no_more}
use Rattle.searches.specs.Written.{IsRunAt, Meanwhile, breaks, finds, misses, stopped, unwritten}
use Rattle.searches.specs.declared.search.Reach.{Reach}
use Rattle.searches.specs.declared.search.Search.{Search}
use Rattle.value_store.specs.Moves.{IsWithin, no_state}
use Rattle.value_store.specs.Slots.{Held, each_of}

same_type : (run next : TypeRun) (search : Search) (at : Reach) → IsRunAt run search at next →
    run_type next ≡ run_type run
same_type run next search at h =
    ap (λ (t : Bor Table). type_named t.now next.id) h.table
    ∙ ap (λ (id : TypeId). type_named run.table.now id) h.id

-- a search went on when it began too
pub on_since : (search : Search) (at : Reach) (first before : SpaceView) → Keeps first before
    → goes_on search at (8 * before.len) ≡ true → goes_on search at (8 * first.len) ≡ true
on_since search at first before since on = subst (λ (len : ℕ). goes_on search at (8 * len) ≡ true) since.len on

-- a run to a fault, and too few slots, from the time when the search began
pub runs_since : {first before : SpaceView} {type : PokeType} {order : Order} {start limit : ℕ} {kind : MapFaultKind}
    {at : ℕ} → Keeps first before → RunsToFault before type order start limit kind at
    → RunsToFault first type order start limit kind at
runs_since {first} {before} {type} {order} {start} {limit} {kind} {at} since h = record {
  world = h.world;
  known = h.known ∙ ap (option_map bits_of) since.bytes;
  steps = h.steps;
  made = h.made;
  state = h.state;
  follows =
      subst (λ (len : ℕ). Follows h.world limit (plan (8 * len) type order no_values start) 0 0 no_state h.steps h.made
      h.state (fault_finish kind at)) since.len h.follows;
}

pub lacks_since : {first before : SpaceView} {most : ℕ} {type : PokeType} {ask : Ask} → Keeps first before
    → LacksSlots most type ask before → LacksSlots most type ask first
lacks_since {first} {before} {most} {type} {ask} since h = record {
  bound = subst (λ (len : ℕ). most < room type (8 * len)) since.len h.bound;
  few = record {
    lack = λ bytes known.
        subst (λ (len : ℕ). KeepsBy (λ state. IsWithin state (each_of most)) false (bits_of bytes)
        (plan (8 * len) type ask.order no_values ask.start) ask.limit no_state → ⊥) since.len
        (h.few.lack bytes (since.bytes ∙ known));
  };
}

pub heavy_since : {first before : SpaceView} {most : ℕ} {type : PokeType} {ask : Ask} → Keeps first before
    → AreTooHeavy most type ask before → AreTooHeavy most type ask first
heavy_since {first} {before} {most} {type} {ask} since h = record {
  lack = λ bytes known.
      subst (λ (len : ℕ). WeighsAtMost most type ask (8 * len) bytes → ⊥) since.len
      (h.lack bytes (since.bytes ∙ known));
}

module _ (run next : TypeRun) (search : Search) (first before : SpaceView) (at : Reach)
    (is_next : IsRunAt run search at next) (since : Keeps first before) where
  -- the value that a store holds is that of the next attempt
  pub is_hit : (store : Held) (steps : ℕ) (h : HoldsValue next before store steps) →
      IsHit run search first at h.value steps
  is_hit store steps h = record {
    few = subst (λ (ask : Ask). steps ≤ ask.limit) is_next.ask h.few;
    made = h.made;
    means = λ bytes known.
        subst
        (λ (ask : Ask). Answer (bits_of bytes) (run_type run) ask.order ask.start ask.limit (Ok h.value) steps h.made)
        is_next.ask
        (subst
        (λ (ty : PokeType).
        Answer (bits_of bytes) ty next.ask.now.order next.ask.now.start next.ask.now.limit (Ok h.value) steps h.made)
        (same_type run next search at is_next) (h.means bytes (since.bytes ∙ known)));
    fits =
        subst (λ (ask : Ask). Fits (8 * first.len) (run_type run) no_values ask.start h.value) is_next.ask
        (subst (λ (ty : PokeType). Fits (8 * first.len) ty no_values next.ask.now.start h.value)
        (same_type run next search at is_next)
        (subst (λ (len : ℕ). Fits (8 * len) (run_type next) no_values next.ask.now.start h.value) since.len h.fits));
    light =
        subst (λ (terms : Bor Terms). AreLightUnder terms.now (run_type run) (ask_at search at run.ask.now) first)
        is_next.terms
        (subst (λ (ask : Ask). AreLightUnder next.terms.now (run_type run) ask first) is_next.ask
        (subst (λ (ty : PokeType). AreLightUnder next.terms.now ty next.ask.now first)
        (same_type run next search at is_next) (light_since since h.light)));
  }

  -- what stopped a run stopped the next attempt
  pub is_miss : (done : SpaceView) (stop : Stopped) → IsStopped next before done stop →
      IsMiss run search first at stop.fault.kind stop.fault.at stop.steps
  is_miss done stop h = record {
    few = subst (λ (ask : Ask). stop.steps ≤ ask.limit) is_next.ask h.few;
    made = h.made;
    means = λ bytes known.
        subst
        (λ (ask : Ask). FaultMeans (bits_of bytes) (run_type run) ask.order ask.start ask.limit stop.fault.kind
        stop.fault.at stop.steps h.made)
        is_next.ask
        (subst
        (λ (ty : PokeType).
        FaultMeans (bits_of bytes) ty next.ask.now.order next.ask.now.start next.ask.now.limit stop.fault.kind
        stop.fault.at stop.steps h.made)
        (same_type run next search at is_next) (h.means bytes (since.bytes ∙ known)));
    runs =
        subst
        (λ (ask : Ask). RunsToFault first (run_type run) ask.order ask.start ask.limit stop.fault.kind stop.fault.at)
        is_next.ask
        (subst
        (λ (ty : PokeType). RunsToFault first ty next.ask.now.order next.ask.now.start next.ask.now.limit
        stop.fault.kind stop.fault.at) (same_type run next search at is_next) (runs_since since h.runs));
    costs = λ kind.
        subst (λ (ask : Ask). ask.limit < cost (run_type run) (8 * first.len)) is_next.ask
        (subst (λ (ty : PokeType). next.ask.now.limit < cost ty (8 * first.len)) (same_type run next search at is_next)
        (subst (λ (len : ℕ). next.ask.now.limit < cost (run_type next) (8 * len)) since.len (h.costs kind)));
    slots = λ kind free most given.
        subst (λ (ask : Ask). LacksSlots most (run_type run) ask first) is_next.ask
        (subst (λ (ty : PokeType). LacksSlots most ty next.ask.now first) (same_type run next search at is_next)
        (lacks_since since
        (h.slots kind (ap (λ (terms : Bor Terms). terms.now.most_bytes) is_next.terms ∙ free) most
        (ap (λ (terms : Bor Terms). terms.now.most_slots) is_next.terms ∙ given))));
    heavy = λ kind most given.
        subst (λ (ask : Ask). AreTooHeavy most (run_type run) ask first) is_next.ask
        (subst (λ (ty : PokeType). AreTooHeavy most ty next.ask.now first) (same_type run next search at is_next)
        (heavy_since since
        (h.heavy kind most (ap (λ (terms : Bor Terms). terms.now.most_bytes) is_next.terms ∙ given))));
    limit = λ kind. subst (λ (ask : Ask). stop.steps ≡ ask.limit) is_next.ask (h.limit kind);
    here = λ ends. subst (λ (ask : Ask). stop.fault.at ≡ ask.start) is_next.ask (h.place ends);
  }

-- the next attempt, from what its run stored
module _ (run : TypeRun) (search : Search) (first : SpaceView) (at : Reach) where
  meanwhile : {next : TypeRun} {before begun done : SpaceView} {Holds : TypeRun → (begun done : SpaceView) → Type 0}
      → IsRunAt run search at next → Keeps first before → Keeps before begun → Keeps begun done
      → Holds next begun done → Meanwhile run search first at Holds
  meanwhile {next} {before} {begun} {done} is_next since mapping writing holds = record {
    next = next;
    is_next = is_next;
    begun = begun;
    done = done;
    since = keeps_all since mapping;
    during = writing;
    holds = holds;
  }

  -- a value's line was written
  pub finds_value : {next : TypeRun} {before : SpaceView} {store : Held} {steps : ℕ}
      (h : HoldsValue next before store steps) (begun done : SpaceView)
      → IsRunAt run search at next → Keeps first before → Keeps before begun → Keeps begun done
      → goes_on search at (8 * before.len) ≡ true → (bits : ℕ) → bits ≡ 8 * before.len
      → (out out' : Option (List ℕ)) (end : ℕ) → PutsHeld next begun done h.value out out' end
      → GoesOn run search first at out out' (after_value search at end steps bits)
  finds_value {next} {before} {store} {steps} h begun done is_next since mapping writing on bits same out out' end put =
      subst (λ (bits : ℕ). GoesOn run search first at out out' (after_value search at end steps bits))
      (sym (same ∙ ap (λ (len : ℕ). 8 * len) since.len))
      (subst (λ (end : ℕ). GoesOn run search first at out out' (after_value search at end steps (8 * first.len)))
      (sym put.is_end)
      (record {
        more = put.put.line ∷ [];
        on = on_since search at first before since on;
        tries = finds (is_hit run next search first before at is_next since store steps h)
            (meanwhile is_next since mapping writing put.put.is_line);
        takes = subst (λ (text : List ℕ). Appends out out' text) (sym (append-nil put.put.line)) put.put.takes;
      }))

  -- it wasn't written
  pub ends_unput : {next : TypeRun} {before : SpaceView} {store : Held} {steps : ℕ}
      (h : HoldsValue next before store steps) (begun done : SpaceView)
      → IsRunAt run search at next → Keeps first before → Keeps before begun → Keeps begun done
      → goes_on search at (8 * before.len) ≡ true → (out out' : Option (List ℕ)) (ended : Outcome)
      → IsUnput next begun done h.value out out' ended
      → EndsHere run search first done at out out' ended
  ends_unput {next} {before} {store} {steps} h begun done is_next since mapping writing on out out' _
      (lacks_line lacks keeps) =
      no_more
      (breaks (on_since search at first before since on)
      (unwritten (is_hit run next search first before at is_next since store steps h)
      (meanwhile is_next since mapping writing (view_kept done, lacks)))) keeps
  ends_unput {next} {before} {store} {steps} h begun done is_next since mapping writing on out out' _ (is_cut put) =
      cut_off (on_since search at first before since on)
      (is_hit run next search first before at is_next since store steps h)
      (meanwhile is_next since mapping writing put.is_line) put.takes

  -- the attempt was stopped, and the search goes on
  pub passes : {next : TypeRun} {before done : SpaceView} {stop : Stopped} → IsStopped next before done stop
      → IsRunAt run search at next → Keeps first before → goes_on search at (8 * before.len) ≡ true
      → (bits : ℕ) → bits ≡ 8 * before.len → (out : Option (List ℕ)) (result : Result Reach Outcome)
      → IfOk result (λ next.
      after_stop search run.terms.now.most_bytes at stop.fault.kind stop.steps bits ≡ Some next)
      → IfOk result (GoesOn run search first at out out)
  passes {next} {before} {done} {stop} h is_next since on bits same out (Ok reach) goes = record {
    more = [];
    on = on_since search at first before since on;
    tries = misses (is_miss run next search first before at is_next since done stop h)
        (subst (λ (bits : ℕ).
        after_stop search run.terms.now.most_bytes at stop.fault.kind stop.steps bits ≡ Some reach)
        (same ∙ ap (λ (len : ℕ). 8 * len) since.len) goes);
    takes = Appends-nil out;
  }
  passes {next} {before} {done} {stop} h is_next since on bits same out (Err ended) goes = tt

  -- it was stopped, and the search ends
  pub ends_stopped : {next : TypeRun} {before done : SpaceView} {stop : Stopped} → IsStopped next before done stop
      → IsRunAt run search at next → Keeps first before → Keeps before done → goes_on search at (8 * before.len) ≡ true
      → (bits : ℕ) → bits ≡ 8 * before.len → (out : Option (List ℕ)) (result : Result Reach Outcome)
      → IfErr result (StopsSearch run.terms.now search at stop bits)
      → IfErr result (EndsHere run search first done at out out)
  ends_stopped {next} {before} {done} {stop} h is_next since during on bits same out (Ok reach) ends = tt
  ends_stopped {next} {before} {done} {stop} h is_next since during on bits same out (Err ended) ends =
      no_more
      (breaks (on_since search at first before since on)
      (stopped (is_miss run next search first before at is_next since done stop h)
      (subst (λ (bits : ℕ). after_stop search run.terms.now.most_bytes at stop.fault.kind stop.steps bits ≡ None)
      (same ∙ ap (λ (len : ℕ). 8 * len) since.len) ends.is_end)
      (λ kind. risen_later first.failures before.failures done.failures since.failures during.failures (h.device kind))
      ends.says))
      (Keeps-refl out)
