-- What a watcher of a mapping stores: the levels that the walk is in, the alternatives that didn't match, and the
-- arrays that ended early.
use Rattle.std.specs.Prelude.{◌≡◌, ◌<◌, ◌-◌, ◌+◌, ◌^◌, ◌&&◌, ◌||◌, ◌==◌, ℕ, Bool, true, false, min, if◌then◌else◌, nat_eq, nat_lt, nat_le}
use Rattle.std.specs.Prelude.{List, [], ◌∷◌, ◌++◌, take, drop, length, map, fold, count_by, slice_get, Option, Some, None}
use Rattle.std.specs.List.{list_all, list_any}
use Rattle.pickle_types.specs.declared.node.Node.{Node}
use Rattle.pickle_map.specs.declared.mapper.stop.Stop.{Stop}
use Rattle.pickle_map.specs.declared.mapper.stop.Stop.TheVariants as stops
use Rattle.pickle_map.specs.declared.mapper.watch.Clause.{Clause}
use Rattle.pickle_map.specs.Stops.{stop_misses}
use Rattle.fault_report.specs.declared.cause.Around.{Around}
use Rattle.fault_report.specs.declared.cause.Cause.{Cause}
use Rattle.fault_report.specs.declared.cause.Cause.TheVariants.{Plain, Expression, Outgrown, NoneFits}
use Rattle.fault_report.specs.declared.cause.Blamed.{Blamed}
use Rattle.fault_report.specs.declared.cause.EndedArray.{EndedArray}
use Rattle.fault_report.specs.declared.cause.Fault.{Fault}
use Rattle.fault_report.specs.declared.cause.Miss.{Miss}
use Rattle.fault_report.specs.declared.endings.Counts.{Counts}
use Rattle.fault_report.specs.declared.endings.EarlyEndings.{EarlyEndings}
use Rattle.fault_report.specs.declared.ended.Endings.{Endings}
use Rattle.fault_report.specs.declared.mismatches.FullUnion.{FullUnion}
use Rattle.fault_report.specs.declared.mismatches.Mismatches.{Mismatches}
use Rattle.fault_report.specs.declared.trail.Level.{Level}
use Rattle.fault_report.specs.declared.way.Way.{Way}
use Rattle.fault_report.specs.declared.way.WayStep.{WayStep}
use Rattle.fault_report.specs.Found.{way_places}
use Rattle.fault_report.specs.Nodes.{catches, is_array, is_one_place}

-- ---- the levels, the outermost first

-- no arrays
abbrev pub none_ended : Counts
none_ended = record { broken = 0; planned = 0 }

-- a level of which no part has begun
abbrev pub entered : (node : ℕ) → Level
entered node = record { node = node; begun = 0; ended = none_ended }

-- a level of which the part is under way to which a step leads
abbrev pub entered_at : WayStep → Level
entered_at step = record { node = step.node; begun = min (step.place + 1) (2 ^ 64 - 1); ended = none_ended }

-- a level whose next part has begun, when so many arrays had ended
abbrev pub at_next : Counts → Level → Level
at_next ended level = record { node = level.node; begun = min (level.begun + 1) (2 ^ 64 - 1); ended = ended }

-- the innermost level, and those around it
abbrev pub innermost : List Level → List Level
innermost levels = drop (length levels - 1) levels

abbrev pub outer : List Level → List Level
outer levels = take (length levels - 1) levels

-- the innermost level, if there is one, and how many of its parts have begun
abbrev pub level_of : List Level → Option Level
level_of levels = slice_get levels (length levels - 1)

abbrev pub begun_in : Option Level → ℕ
begun_in None = 0
begun_in (Some level) = level.begun

abbrev pub begun_of : List Level → ℕ
begun_of levels = begun_in (level_of levels)

-- whether the innermost level is an array
abbrev pub is_array_level : List Node → Option Level → Bool
is_array_level nodes None = false
is_array_level nodes (Some level) = is_array nodes level.node

abbrev pub is_in_array : List Node → List Level → Bool
is_in_array nodes levels = is_array_level nodes (level_of levels)

-- whether one after the first `depth` is an array
abbrev pub has_array_after : List Node → (depth : ℕ) → List Level → Bool
has_array_after nodes depth levels = list_any (λ level. is_array nodes level.node) (drop depth levels)

-- whether a stop only means that an array or a union among them goes on
abbrev pub is_caught : List Node → List Level → Stop → Bool
is_caught nodes levels stop = list_any (λ level. catches nodes level.node stop) levels

-- ---- the fault of the part that is under way

-- nothing is known of what is around a part
pub record IsBare (around : Around) : Type 0 where
  pub leads : around.leads.items ≡ []
  pub front : around.front.items ≡ []
  pub fits : around.fits ≡ None
  pub met : around.met.items ≡ []

-- a fault of the part to which places lead, with a cause of this kind, and nothing known of what is around it
pub record IsFaultOf (places : List ℕ) (reason : Stop) (IsCause : Cause → Type 0) (fault : Fault) : Type 0 where
  pub way : way_places fault.way ≡ places
  pub stop : fault.stop ≡ reason
  pub cause : IsCause fault.cause
  pub around : IsBare fault.around

-- nothing failed beyond the stop
abbrev pub IsPlain : Cause → Type 0
IsPlain cause = cause ≡ Plain

-- an expression of this clause failed
abbrev pub IsExpression : Clause → Cause → Type 0
IsExpression clause (Expression blamed) = blamed.clause ≡ clause
IsExpression clause Plain = ⊥
IsExpression clause (Outgrown extent end) = ⊥
IsExpression clause (NoneFits misses) = ⊥

-- a union failed, by these alternatives that didn't match, and by how many there are in all
abbrev pub IsNoneFits : (told : List Miss) → (count : ℕ) → Cause → Type 0
IsNoneFits told count (NoneFits misses) = (misses.told.items ≡ told) × (misses.count ≡ count)
IsNoneFits told count Plain = ⊥
IsNoneFits told count (Expression blamed) = ⊥
IsNoneFits told count (Outgrown extent end) = ⊥

-- whether a stop is a fault of the type's meaning
abbrev pub is_fault : Stop → Bool
is_fault (stops.Fault kind at) = true
is_fault stops.Limit = false
is_fault stops.Device = false
is_fault stops.Memory = false

-- ---- the arrays that ended early

-- of all arrays, in the order in which they ended, the last are stored, and all are counted
pub record Sums (all : List EndedArray) (endings : Endings) : Type 0 where
  pub last : endings.last.items ≡ drop (length all - length endings.last.items) all
  pub count : endings.count ≡ length all

-- one more array ended: it is stored as the last, and the first of 16 isn't stored any more
pub record Adds (ended : EndedArray) (old new : Endings) : Type 0 where
  pub stored : new.last.items ≡ drop (length old.last.items - 15) old.last.items ++ ended ∷ []
  pub sums : (all : List EndedArray) → Sums all old → length all + 1 < 2 ^ 64 → Sums (all ++ ended ∷ []) new

-- the arrays after the first `count` of all were forgotten
pub record Forgets (count : ℕ) (old new : Endings) : Type 0 where
  pub stored : new.last.items ≡ take (count - (old.count - length old.last.items)) old.last.items
  pub sums : (all : List EndedArray) → Sums all old → Sums (take count all) new

abbrev pub ended_counts : EarlyEndings → Counts
ended_counts endings = record { broken = endings.broken.count; planned = endings.planned.count }

-- one more array ended, of one of the two kinds
abbrev pub AddsTo : (is_planned : Bool) → EndedArray → (old new : EarlyEndings) → Type 0
AddsTo true ended old new = Adds ended old.planned new.planned × (new.broken ≡ old.broken)
AddsTo false ended old new = Adds ended old.broken new.broken × (new.planned ≡ old.planned)

abbrev pub ForgetsAll : Counts → (old new : EarlyEndings) → Type 0
ForgetsAll counts old new = Forgets counts.broken old.broken new.broken × Forgets counts.planned old.planned new.planned

-- those that ended in the part of a level that is under way were forgotten
abbrev pub ForgetsIn : Option Level → (old new : EarlyEndings) → Type 0
ForgetsIn None old new = new ≡ old
ForgetsIn (Some level) old new = ForgetsAll level.ended old new

-- ---- the alternatives that didn't match, those of the outermost union first

-- how many belong to unions around the level at a depth, and how many to the one at it
abbrev pub count_around : (depth : ℕ) → List Miss → ℕ
count_around depth misses = count_by (λ miss. nat_lt miss.depth depth) misses

abbrev pub count_at : (depth : ℕ) → List Miss → ℕ
count_at depth misses = count_by (λ miss. nat_eq miss.depth depth) misses

-- one more alternative, if fewer than 16 of its union are stored
abbrev pub with_miss : Miss → List Miss → List Miss
with_miss miss misses = if nat_lt (count_at miss.depth misses) 16 then misses ++ miss ∷ [] else misses

-- the union that is full with one more alternative, the outermost
abbrev pub filled : Miss → List Miss → Option FullUnion → Option FullUnion
filled miss misses None =
    if nat_le 16 (count_at miss.depth misses + 1) then Some (record { depth = miss.depth; arrays = 0 }) else None
filled miss misses (Some full) = Some full

-- the full union, with one more array around the walk, and with one fewer
abbrev pub in_array : Option FullUnion → Option FullUnion
in_array None = None
in_array (Some full) = Some (record { depth = full.depth; arrays = min (full.arrays + 1) (2 ^ 64 - 1) })

abbrev pub out_of_array : Option FullUnion → Option FullUnion
out_of_array None = None
out_of_array (Some full) = Some (record { depth = full.depth; arrays = full.arrays - 1 })

-- the full union when the walk enters a level, which may be an array, and when it leaves one
abbrev pub entered_full : (is_array : Bool) → Option FullUnion → Option FullUnion
entered_full true full = in_array full
entered_full false full = full

abbrev pub left_full : (is_array : Bool) → Option FullUnion → Option FullUnion
left_full true full = out_of_array full
left_full false full = full

-- an alternative of a union inside the one at a depth, stored for that one; and all of these
abbrev pub moved_out : (depth : ℕ) → Miss → Miss
moved_out depth miss = record {
  depth = depth;
  of = miss.of;
  inside = min (miss.inside + 1) (2 ^ 64 - 1);
  way = miss.way;
  stop = miss.stop;
  blamed = miss.blamed;
}

abbrev pub with_inner : (depth : ℕ) → (inner misses : List Miss) → List Miss
with_inner depth [] misses = misses
with_inner depth (miss ∷ inner) misses = with_inner depth inner (with_miss (moved_out depth miss) misses)

-- the union that is full with them
abbrev pub filled_inner : (depth : ℕ) → (inner misses : List Miss) → Option FullUnion → Option FullUnion
filled_inner depth [] misses full = full
filled_inner depth (miss ∷ inner) misses full =
    let moved = moved_out depth miss in filled_inner depth inner (with_miss moved misses) (filled moved misses full)

-- those that are left when the walk leaves the level at a depth: none of its own, if the last is one
abbrev pub is_inside : (depth : ℕ) → Option Miss → Bool
is_inside depth None = false
is_inside depth (Some last) = nat_le depth last.depth

abbrev pub left_at : (depth : ℕ) → List Miss → List Miss
left_at depth misses =
    if is_inside depth (slice_get misses (length misses - 1)) then take (count_around depth misses) misses else misses

-- the full union, unless it is at a depth or inside the level there
abbrev pub emptied_at : (depth : ℕ) → Option FullUnion → Option FullUnion
emptied_at depth None = None
emptied_at depth (Some full) = if nat_le depth full.depth then None else Some full

-- nothing is stored of a fault that only means that one more alternative of the full union doesn't match
abbrev pub hides : Option FullUnion → Stop → Bool
hides None stop = false
hides (Some full) stop = nat_eq full.arrays 0 && stop_misses stop

abbrev pub hides_union : Option FullUnion → (depth : ℕ) → Stop → Bool
hides_union None depth stop = false
hides_union (Some full) depth stop = nat_lt full.depth depth && hides (Some full) stop

-- what a cause says of an alternative that doesn't match: its expression, and the alternatives of a union
abbrev pub blamed_of : Cause → Option Blamed
blamed_of (Expression blamed) = Some blamed
blamed_of Plain = None
blamed_of (Outgrown extent end) = None
blamed_of (NoneFits misses) = None

abbrev pub inner_of : Cause → List Miss
inner_of (NoneFits misses) = misses.told.items
inner_of Plain = []
inner_of (Expression blamed) = []
inner_of (Outgrown extent end) = []

-- the alternative of the union at a depth that doesn't match by a fault
abbrev pub miss_of : (depth : ℕ) → Fault → Miss
miss_of depth fault = record {
  depth = depth;
  of = depth;
  inside = 0;
  way = fault.way;
  stop = fault.stop;
  blamed = blamed_of fault.cause;
}

-- the alternative of the union at a depth was added that doesn't match by a fault, and those of a union in it
pub record AddsFault (depth : ℕ) (fault : Fault) (old new : Mismatches) : Type 0 where
  pub misses : let with = with_miss (miss_of depth fault) old.misses.items in
      new.misses.items ≡ with_inner depth (inner_of fault.cause) with
  pub full : let miss = miss_of depth fault in
      new.full ≡ filled_inner depth (inner_of fault.cause) (with_miss miss old.misses.items)
      (filled miss old.misses.items old.full)

-- whether a path leads on to the first number of what its first `count` steps lead to, and whether a fault is in it: if
-- no alternative fits, all of them stop there
abbrev pub is_first : List Node → (count : ℕ) → Way → Bool
is_first nodes count way =
    list_all (λ step. step.place == 0 || is_one_place nodes step.node) (drop count way.steps.items)

abbrev pub is_at_first_number : List Node → (count : ℕ) → Fault → Bool
is_at_first_number nodes count fault =
    stop_misses fault.stop && is_first nodes count fault.way
    && list_all (λ miss. is_first nodes count miss.way) (inner_of fault.cause)
