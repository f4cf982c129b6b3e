-- What notifications do to what a watcher stores.
use Rattle.std.specs.Prelude.{◌≡◌, ◌+◌, ◌-◌, ◌^◌, ◌&&◌, ◌||◌, ℕ, Bool, true, false, not, min, List, [], ◌∷◌, ◌++◌, length, map, take, drop, slice_get, Option, Some, None, IsSomeAnd}
use Rattle.std.specs.Option.{UnwrapsOrElse}
use Rattle.pickle_types.specs.declared.node.Node.{Node}
use Rattle.pickle_meaning.specs.declared.extent.Extent.{Extent}
use Rattle.pickle_map.specs.declared.mapper.stop.Stop.{Stop}
use Rattle.pickle_map.specs.declared.mapper.watch.Clause.{Clause}
use Rattle.fault_report.specs.declared.cause.Cause.{Cause}
use Rattle.fault_report.specs.declared.cause.Cause.TheVariants.{Outgrown}
use Rattle.fault_report.specs.declared.cause.EndedArray.{EndedArray}
use Rattle.fault_report.specs.declared.cause.Fault.{Fault}
use Rattle.fault_report.specs.declared.cause.Miss.{Miss}
use Rattle.fault_report.specs.declared.trail.Level.{Level}
use Rattle.fault_report.specs.declared.mismatches.FullUnion.{FullUnion}
use Rattle.fault_report.specs.declared.watcher.PartWatcher.{PartWatcher}
use Rattle.fault_report.specs.Found.{places_under_way, way_places}
use Rattle.fault_report.specs.Nodes.{is_array}
use Rattle.fault_report.specs.Watched.{AddsFault, AddsTo, ForgetsIn, IsExpression, IsFaultOf, IsNoneFits, IsPlain, Sums, at_next}
use Rattle.fault_report.specs.Watched.{begun_of, count_around, emptied_at, ended_counts, entered_full}
use Rattle.fault_report.specs.Watched.{has_array_after, hides, hides_union, innermost, is_at_first_number, is_caught, is_fault}
use Rattle.fault_report.specs.Watched.{is_in_array, left_at, left_full, level_of, outer}

-- the levels that a watcher stores, how many they are, and the alternatives that didn't match
abbrev pub levels_of : PartWatcher → List Level
levels_of watcher = watcher.trail.levels.items

abbrev pub depth_of : PartWatcher → ℕ
depth_of watcher = length (levels_of watcher)

abbrev pub misses_of : PartWatcher → List Miss
misses_of watcher = watcher.mismatches.misses.items

-- nothing is printed of a stop of the part that is under way, and of the innermost union
abbrev pub is_hidden : PartWatcher → Stop → Bool
is_hidden watcher stop = hides watcher.mismatches.full stop

abbrev pub is_union_hidden : PartWatcher → Stop → Bool
is_union_hidden watcher stop = hides_union watcher.mismatches.full (depth_of watcher) stop

-- ---- the walk goes on

-- all but the levels stays
pub record StaysButTrail (old new : PartWatcher) : Type 0 where
  pub nodes : new.nodes ≡ old.nodes
  pub near : new.near ≡ old.near
  pub misses : misses_of new ≡ misses_of old
  pub fault : new.fault ≡ old.fault
  pub ended : new.ended ≡ old.ended
  pub starved : new.starved ≡ old.starved

-- all stays, once it is noted whether an allocation failed
pub record StaysNoted (old new : PartWatcher) : Type 0 where
  pub nodes : new.nodes ≡ old.nodes
  pub trail : new.trail ≡ old.trail
  pub near : new.near ≡ old.near
  pub mismatches : new.mismatches ≡ old.mismatches
  pub fault : new.fault ≡ old.fault
  pub ended : new.ended ≡ old.ended

-- nothing was notified
pub record IsFresh (watcher : PartWatcher) : Type 0 where
  pub trail : levels_of watcher ≡ []
  pub misses : misses_of watcher ≡ []
  pub full : watcher.mismatches.full ≡ None
  pub broken : Sums [] watcher.ended.broken
  pub planned : Sums [] watcher.ended.planned
  pub fault : watcher.fault ≡ None
  pub starved : watcher.starved ≡ false

-- the walk went into one more level
pub record Enters (level : Level) (old new : PartWatcher) : Type 0 where
  pub nodes : new.nodes ≡ old.nodes
  pub trail : new.starved ≡ false → levels_of new ≡ levels_of old ++ level ∷ []
  pub misses : misses_of new ≡ misses_of old
  pub fault : new.fault ≡ old.fault
  pub ended : new.ended ≡ old.ended
  pub starved : old.starved ≡ true → new.starved ≡ true

-- the next part of the innermost level began
pub record Begins (old new : PartWatcher) : Type 0 where
  pub nodes : new.nodes ≡ old.nodes
  pub trail : levels_of new
      ≡ outer (levels_of old) ++ map (at_next (ended_counts old.ended)) (innermost (levels_of old))
  pub near : new.near ≡ old.near
  pub mismatches : new.mismatches ≡ old.mismatches
  pub fault : new.fault ≡ old.fault
  pub ended : new.ended ≡ old.ended
  pub starved : new.starved ≡ old.starved

-- the full union with the level that the walk enters, and without the one that it leaves
abbrev pub full_inside : PartWatcher → (at : ℕ) → Option FullUnion
full_inside watcher at = entered_full (is_array watcher.nodes.now at) watcher.mismatches.full

abbrev pub full_outside : PartWatcher → Option FullUnion
full_outside watcher =
    let emptied = emptied_at (depth_of watcher) watcher.mismatches.full in
    left_full (is_in_array watcher.nodes.now (levels_of watcher)) emptied

-- the walk left the innermost level, whatever is stored of the fault
pub record LeavesLevel (old new : PartWatcher) : Type 0 where
  pub nodes : new.nodes ≡ old.nodes
  pub trail : levels_of new ≡ outer (levels_of old)
  pub near : new.near ≡ old.near
  pub misses : misses_of new ≡ left_at (depth_of old) (misses_of old)
  pub full : new.mismatches.full ≡ full_outside old
  pub ended : new.ended ≡ old.ended
  pub starved : old.starved ≡ true → new.starved ≡ true

-- the walk left the innermost level
pub record Leaves (old new : PartWatcher) : Type 0 where
  pub level : LeavesLevel old new
  pub fault : new.fault ≡ old.fault
  pub starved : new.starved ≡ old.starved

-- ---- a part has a fault

-- where the walk is stays
pub record StaysThere (old new : PartWatcher) : Type 0 where
  pub nodes : new.nodes ≡ old.nodes
  pub trail : new.trail ≡ old.trail
  pub near : new.near ≡ old.near
  pub starved : old.starved ≡ true → new.starved ≡ true

-- all but the fault stays
pub record StaysButFault (old new : PartWatcher) : Type 0 where
  pub nodes : new.nodes ≡ old.nodes
  pub trail : new.trail ≡ old.trail
  pub near : new.near ≡ old.near
  pub mismatches : new.mismatches ≡ old.mismatches
  pub ended : new.ended ≡ old.ended
  pub starved : old.starved ≡ true → new.starved ≡ true

-- the stored fault of the part that is under way or, if none is stored, a plain one
abbrev pub IsUnderWay : PartWatcher → Stop → Fault → Type 0
IsUnderWay watcher stop fault =
    UnwrapsOrElse watcher.fault (IsFaultOf (places_under_way (levels_of watcher)) stop IsPlain) fault

-- whether the walk is where it looks at the expressions of alternatives that don't match
abbrev pub is_near_after : Option ℕ → List Node → List Level → Bool
is_near_after None nodes levels = false
is_near_after (Some depth) nodes levels = not (has_array_after nodes depth levels)

abbrev pub is_near : PartWatcher → Bool
is_near watcher = is_near_after watcher.near watcher.nodes.now (levels_of watcher)

-- whether it looks at an expression that stops the mapping
abbrev pub looks : PartWatcher → (table : List Node) → Stop → Bool
looks watcher table stop = is_fault stop && (is_near watcher || not (is_caught table (levels_of watcher) stop))

-- what is stored of an expression: which clause it is in, if it is looked at
abbrev pub IsBlame : (is_looked_at : Bool) → Clause → Cause → Type 0
IsBlame true clause cause = IsExpression clause cause
IsBlame false clause cause = IsPlain cause

-- the fault of an expression of the part that is under way
abbrev pub IsBlamed : PartWatcher → Clause → (table : List Node) → Stop → Fault → Type 0
IsBlamed watcher clause table stop fault =
    IsFaultOf (places_under_way (levels_of watcher)) stop (IsBlame (looks watcher table stop) clause) fault

-- the fault of the innermost array, whose elements end after its extent
abbrev pub IsOutgrown : PartWatcher → Extent → (end : ℕ) → Stop → Fault → Type 0
IsOutgrown watcher extent end stop fault =
    IsFaultOf (places_under_way (outer (levels_of watcher))) stop (λ cause. cause ≡ Outgrown extent end) fault

-- The innermost array ended by the fault under way, before the part that had begun last. It is planned if that fault is
-- at the first number of the part.
pub record Ends (reason : Stop) (old new : PartWatcher) : Type 0 where
  pub of : Fault
  pub under_way : IsUnderWay old reason of
  pub ended : EndedArray
  pub array : way_places ended.array ≡ places_under_way (outer (levels_of old))
  pub count : ended.count ≡ begun_of (levels_of old) - 1
  pub way : ended.way ≡ of.way
  pub stop : ended.stop ≡ of.stop
  pub adds : let part = min (length ended.array.steps.items + 1) (2 ^ 64 - 1) in
      AddsTo (is_at_first_number old.nodes.now part of) ended old.ended new.ended
  pub fault : new.fault ≡ None
  pub mismatches : new.mismatches ≡ old.mismatches

-- one more alternative of the innermost union doesn't match, by the fault under way; the arrays that ended in it are
-- forgotten
pub record AddsMiss (reason : Stop) (old new : PartWatcher) : Type 0 where
  pub of : Fault
  pub under_way : IsUnderWay old reason of
  pub mismatches : AddsFault (depth_of old) of old.mismatches new.mismatches
  pub ended : ForgetsIn (level_of (levels_of old)) old.ended new.ended
  pub fault : new.fault ≡ None

-- the same of an alternative that is hidden: it isn't stored
pub record HidesMiss (old new : PartWatcher) : Type 0 where
  pub mismatches : new.mismatches ≡ old.mismatches
  pub ended : ForgetsIn (level_of (levels_of old)) old.ended new.ended
  pub fault : new.fault ≡ None
  pub starved : new.starved ≡ old.starved

-- no alternative of the innermost union matches: those that are stored of it become its fault
pub record Refuses (reason : Stop) (old new : PartWatcher) : Type 0 where
  pub fault : let around = count_around (depth_of old) (misses_of old) in
      IsSomeAnd new.fault (IsFaultOf (places_under_way (outer (levels_of old))) reason
      (IsNoneFits (drop around (misses_of old)) (begun_of (levels_of old))))
  pub misses : misses_of new ≡ take (count_around (depth_of old) (misses_of old)) (misses_of old)
  pub full : new.mismatches.full ≡ emptied_at (depth_of old) old.mismatches.full
  pub ended : new.ended ≡ old.ended

-- the same of a union that is hidden: they are dropped
pub record DropsMisses (old new : PartWatcher) : Type 0 where
  pub misses : misses_of new ≡ left_at (depth_of old) (misses_of old)
  pub full : new.mismatches.full ≡ emptied_at (depth_of old) old.mismatches.full
  pub fault : new.fault ≡ old.fault
  pub ended : new.ended ≡ old.ended
  pub starved : new.starved ≡ old.starved
