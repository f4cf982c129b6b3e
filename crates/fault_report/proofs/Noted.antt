-- What a call stored is stored after it is noted that no allocation failed for it.
use Rattle.std.proofs.Common.{◌≡◌, ◌∙◌, ◌||◌, Bool, true, false, Result, Ok, Err, IfOk, is_err, rules}
use Rattle.pickle_map.specs.declared.mapper.stop.Stop.{Stop}
use Rattle.fault_report.specs.declared.watcher.PartWatcher.{PartWatcher}
use Rattle.fault_report.specs.Watching.{AddsMiss, Ends, StaysNoted}

-- if no failure was noted, the call was done
pub was_done : {T E P : Type 0} (kept : Result T E) (old new : Bool) → IfOk kept (λ _. P) → new ≡ (old || is_err kept)
    → new ≡ false → P
was_done (Ok done) old new stored noted starved = stored
was_done (Err e) old new stored noted starved = grind (rules, noted, starved)

pub ends_noted : (stop : Stop) (old done new : PartWatcher) → Ends stop old done →
    StaysNoted done new → Ends stop old new
ends_noted stop old done new ends stays = record {
  of = ends.of;
  under_way = ends.under_way;
  ended = ends.ended;
  array = ends.array;
  count = ends.count;
  way = ends.way;
  stop = ends.stop;
  adds = rw stays.ended ends.adds;
  fault = stays.fault ∙ ends.fault;
  mismatches = stays.mismatches ∙ ends.mismatches;
}

pub miss_noted : (stop : Stop) (old done new : PartWatcher) → AddsMiss stop old done → StaysNoted done new →
    AddsMiss stop old new
miss_noted stop old done new adds stays = record {
  of = adds.of;
  under_way = adds.under_way;
  mismatches = rw stays.mismatches adds.mismatches;
  ended = rw stays.ended adds.ended;
  fault = stays.fault ∙ adds.fault;
}
