-- What a path from the type of a run leads to.
use Rattle.std.proofs.Common.{◌≡◌, ◌∙◌, ◌≤◌, ◌<◌, ◌+◌, ◌*◌, ℕ, List, Result, Ok, Err, ap, subst, arith}
use Rattle.bit_space.specs.Bits.{bits_of}
use Rattle.bit_space.specs.SpaceView.{SpaceView, HasRisen}
use Rattle.inner_lists.specs.Calls.{Claim, Comes, Exceeds, RunsOut, StopsAt, frames_of, reaches_from}
use Rattle.inner_lists.specs.declared.place.Stage.{Stage}
use Rattle.inner_records.specs.Written.{HasNoList, lacks, run_reaches, stopped}
use Rattle.list_laws.specs.Meanings.{IsMeant, Meaning, SpaceBytes, bytes_in}
use Rattle.list_laws.specs.Paths.{Path}
use Rattle.list_laws.specs.Reaches.{Faulty, Lacking, Reached, Reaches}
use Rattle.pickle_map.specs.Mapped.{fault_of}
use Rattle.pickle_map.specs.declared.mapper.state.Mapper.{Mapper}
use Rattle.pickle_map.specs.declared.mapper.stop.Stop.{Stop}
use Rattle.pickle_map.specs.declared.mapper.stop.Stop.TheVariants.{Fault, Limit, Device, Memory}
use Rattle.pickle_meaning.specs.Clauses.{FaultAt}
use Rattle.pickle_meaning.specs.Values.{Levels, no_values}
use Rattle.pickle_types.specs.Table.{type_of}
use Rattle.pickle_types.specs.TypeTable.{nodes_of}
use Rattle.pickle_types.specs.Types.{PokeType}
use Rattle.pickle_types.specs.declared.node.Node.{Node}
use Rattle.poke_batch.specs.RunsUnder.{end_under_saying}
use Rattle.poke_batch.specs.TypeRuns.{run_type}
use Rattle.poke_batch.specs.declared.type_run.TypeRun.{TypeRun}
use Rattle.run_parts.specs.Outcomes.{outcome_saying}
use Rattle.run_parts.specs.declared.outcome.Outcome.{Outcome}
use Rattle.run_parts.specs.declared.outcome.Outcome.TheVariants as outcome

-- what stops a call by one claim stops it by another that follows, with the same meter
pub stops_alike : {R : Type 0} (space : SpaceBytes) (D : Type 0) (A B : Claim R) (fault : FaultAt → R)
    (limit limit' before before' after : ℕ) (stop : Stop) → limit ≡ limit' → before ≡ before'
    → ((M : Meaning) (r : R) (k : ℕ) → A M r k → B M r k)
    → StopsAt space D A fault limit before after stop → StopsAt space D B fault limit' before' after stop
stops_alike space D A B fault limit limit' before before' after (Fault kind place) same from then h = record {
  steps = h.steps;
  taken = let taken = h.taken in omega (arith, taken, from);
  holds = λ known are. then _ _ _ (h.holds known are);
}
stops_alike space D A B fault limit limit' before before' after Limit same from then h = record {
  all = let all = h.all in omega (arith, all, same);
  exceeds = λ bytes known.
      let x = h.exceeds bytes known in
      let more = x.more in
      record {
        outcome = x.outcome;
        steps = x.steps;
        holds = then (IsMeant (bits_of bytes)) x.outcome x.steps x.holds;
        more = omega (arith, more, same, from);
      };
}
stops_alike space D A B fault limit limit' before before' after Device same from then h = h
stops_alike space D A B fault limit limit' before before' after Memory same from then h = tt

module _ {W : Type 0} (run : TypeRun) (path : Path) (old : Mapper W) (node start : ℕ)
    (at_node : node ≡ run.id.node) (at_start : start ≡ run.ask.now.start)
    (nodes : old.nodes.now ≡ nodes_of run.table.now) (none : frames_of old ≡ no_values) where
  abbrev stage : Stage
  stage = record { node = node; order = run.ask.now.order; start = start; top = 0 }

  same_type : type_of old.nodes.now node ≡ run_type run
  same_type = ap (λ (nodes : List Node). type_of nodes node) nodes
      ∙ ap (λ (node : ℕ). type_of (nodes_of run.table.now) node) at_node

  -- from the first frames it leads where it leads from the type of the run
  from_start : (space : SpaceBytes) (M : Meaning) (r : Reached) (k : ℕ) → reaches_from space old stage path M r k
      → run_reaches run path space M r k
  from_start space M r k h =
      subst (λ (start : ℕ). Reaches (8 * space.len) M (run_type run) path run.ask.now.order no_values start 0 r k)
      at_start
      (subst (λ (levels : Levels). Reaches (8 * space.len) M (run_type run) path run.ask.now.order levels start 0 r k)
      none
      (subst (λ (ty : PokeType). Reaches (8 * space.len) M ty path run.ask.now.order (frames_of old) start 0 r k)
      same_type h))

  module _ (space space' : SpaceView) (before after : ℕ) (fresh : before ≡ 0) (few : after ≤ run.ask.now.limit) where
    pub none_there : Comes (bytes_in space) (reaches_from (bytes_in space) old stage path) before after Lacking
        → HasNoList run path space space' outcome.NoSuchPart
    none_there h = lacks few (record {
      steps = h.steps;
      taken = let taken = h.taken in omega (arith, taken, fresh);
      holds = λ known are. from_start (bytes_in space) _ _ _ (h.holds known are);
    })

    pub stops_there : (limit : ℕ) (stop : Stop) (ended : Outcome) → limit ≡ run.ask.now.limit
        → StopsAt (bytes_in space) (HasRisen space.failures space'.failures)
        (reaches_from (bytes_in space) old stage path) Faulty limit before after stop
        → outcome_saying ended ≡ end_under_saying run.terms.now.most_slots run.terms.now.most_bytes run.ask.now.start
        (fault_of stop run.ask.now.start).kind (fault_of stop run.ask.now.start).at
        → HasNoList run path space space' ended
    stops_there limit stop ended same h says =
        stopped after stop few
        (stops_alike (bytes_in space) (HasRisen space.failures space'.failures)
        (reaches_from (bytes_in space) old stage path) (run_reaches run path (bytes_in space)) Faulty
        limit run.ask.now.limit before 0 after stop same fresh (from_start (bytes_in space)) h) says
