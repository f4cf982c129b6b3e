-- What calls leave of the frames and slots of a store, and the contents of a store that never grows.
use Rattle.std.proofs.Common.{◌≡◌, ◌+◌, ◌-◌, ◌<◌, ◌≤◌, max, List, Option, Ok, Err, refl, ap, subst, ◌∙◌, arith}
use Rattle.pickle_types.specs.declared.node.Node.{Node}
use Rattle.value_store.specs.declared.store.room.Growth.TheVariants.{Never}
use Rattle.value_store.specs.declared.store.room.Room.{Room}
use Rattle.value_store.specs.Below.{Extends, KeepsBelow}
use Rattle.value_store.specs.Levels.{FitsIn}
use Rattle.value_store.specs.Moves.{Moves, Opens, Drops, State}
use Rattle.value_store.specs.Slots.{Held, HoldsInRoom, levels, level_count, around, cut_to, innermost, marks_of, Regrown}
use Rattle.value_store.proofs.Below.{extends-same, extends-then, extends-below, extends-back}
use Rattle.value_store.proofs.Held.{regrown-levels, regrown-depth}
use Rattle.pickle_map.specs.declared.mapper.stop.Stop.{Stop}
use Rattle.pickle_map.specs.Framed.{AddsToLevel, ClosesLevel, KeepsOpened, LevelStays}
use Rattle.pickle_meaning.specs.Values.{Value, pushed, opened as opened_in, outer_of}
use Rattle.pickle_meaning.specs.Room.{Slot, slots}
use Rattle.pickle_map.proofs.Walks.{outer_pushed}

-- ---- what was stored when the innermost frame was opened

pub extended_keeps : (old new : Held) → Extends old new → KeepsOpened old new
extended_keeps old new more = λ opened frame own. extends-then opened old new own more

pub below_keeps : (old new : Held) → KeepsBelow old new → KeepsOpened old new
below_keeps old new below = λ opened frame own. extends-below opened old new frame own below

-- the frame is cleared
pub cleared_keeps : (old new : Held) → new.slots ≡ cut_to (innermost old.frames) old.slots → KeepsOpened old new
cleared_keeps old new cut =
    λ opened frame own. extends-same opened new (extends-back opened old new frame own cut)

-- the call was refused
pub regrown_keeps : (old new : Held) → Regrown old new → KeepsOpened old new
regrown_keeps old new e = extended_keeps old new (extends-same old new (ap (λ (h : Held). h.slots) e))

pub keeps_then : (first old new : Held) → old.frames ≡ first.frames → KeepsOpened first old → KeepsOpened old new →
    KeepsOpened first new
keeps_then first old new frames keeps more =
    λ opened frame own. more opened (ap innermost frames ∙ frame) (keeps opened frame own)

-- ---- frames

module _ (nodes : List Node) where
  -- a call that was refused leaves its frame
  pub regrown_stays : (first old new : Held) → LevelStays nodes first old → Regrown old new → LevelStays nodes first new
  regrown_stays first old new stays e = record {
    outer = ap outer_of (regrown-levels nodes old new e) ∙ stays.outer;
    depth = regrown-depth old new e ∙ stays.depth;
    frames = ap (λ (h : Held). h.frames) e ∙ stays.frames;
    opened = keeps_then first old new stays.frames stays.opened (regrown_keeps old new e);
  }

  -- so does one call after another
  pub stays_then : (first old new : Held) → LevelStays nodes first old → LevelStays nodes old new →
      LevelStays nodes first new
  stays_then first old new stays more = record {
    outer = more.outer ∙ stays.outer;
    depth = more.depth ∙ stays.depth;
    frames = more.frames ∙ stays.frames;
    opened = keeps_then first old new stays.frames stays.opened more.opened;
  }

  -- a call that stored one more value leaves its frame too
  pub pushed_stays : (first old new : Held) (v : Option Value) → LevelStays nodes first old →
      levels nodes new ≡ pushed (levels nodes old) v → level_count new ≡ level_count old →
      new.frames ≡ old.frames → Extends old new → LevelStays nodes first new
  pushed_stays first old new v stays kept same frames more = record {
    outer = ap outer_of kept ∙ outer_pushed (levels nodes old) v ∙ stays.outer;
    depth = same ∙ stays.depth;
    frames = frames ∙ stays.frames;
    opened = keeps_then first old new stays.frames stays.opened (extended_keeps old new more);
  }

  -- what does nothing leaves it
  pub same_stays : (store : Held) → LevelStays nodes store store
  same_stays store = record { outer = refl; depth = refl; frames = refl; opened = λ opened frame own. own }

  -- a call that adds a value, or stops
  pub added_stays : {A : Type 0} (first old new : Held) (v : Option Value) (x : A) → LevelStays nodes first old →
      levels nodes new ≡ pushed (levels nodes old) v → AddsToLevel nodes old new (Ok x) → LevelStays nodes first new
  added_stays first old new v x stays kept adds =
      pushed_stays first old new v stays kept adds.depth adds.frames adds.extends

  pub stopped_stays : {A : Type 0} (first old new : Held) (stop : Stop) → LevelStays nodes first old →
      AddsToLevel {A = A} nodes old new (Err stop) → LevelStays nodes first new
  stopped_stays first old new stop stays adds = record {
    outer = ap outer_of adds.same ∙ stays.outer;
    depth = adds.depth ∙ stays.depth;
    frames = adds.frames ∙ stays.frames;
    opened = keeps_then first old new stays.frames stays.opened (extended_keeps old new adds.extends);
  }

  -- a call that was refused adds nothing
  pub regrown_adds : {A : Type 0} (old new : Held) (stop : Stop) → Regrown old new →
      AddsToLevel {A = A} nodes old new (Err stop)
  regrown_adds old new stop e =
      let slots = ap (λ (h : Held). h.slots) e in
      record {
        same = regrown-levels nodes old new e;
        depth = regrown-depth old new e;
        frames = ap (λ (h : Held). h.frames) e;
        extends = extends-same old new slots;
        back = slots;
        within = tt;
      }

  pub same_adds : {A : Type 0} (store : Held) (stop : Stop) → AddsToLevel {A = A} nodes store store (Err stop)
  same_adds store stop = regrown_adds store store stop refl

  -- a call that stops where another did
  pub stopped_adds : {A B : Type 0} (old new : Held) (stop stop' : Stop) →
      AddsToLevel {A = A} nodes old new (Err stop) → AddsToLevel {A = B} nodes old new (Err stop')
  stopped_adds old new stop stop' adds = record {
    same = adds.same;
    depth = adds.depth;
    frames = adds.frames;
    extends = adds.extends;
    back = adds.back;
    within = tt;
  }

  -- a call in a frame of its own, which is rolled back after it
  pub dropped_stays : (first begun done last : Held) → Moves first begun Opens → begun.slots ≡ first.slots →
      levels nodes begun ≡ opened_in (levels nodes first) → LevelStays nodes begun done →
      levels nodes last ≡ outer_of (levels nodes done) → Moves done last Drops →
      last.slots ≡ cut_to (innermost done.frames) done.slots → level_count begun ≡ level_count first + 1 →
      level_count last + 1 ≡ level_count done → LevelStays nodes first last
  dropped_stays first begun done last opens slots inside stays dropped drops cut deeper less =
      let marked : innermost begun.frames ≡ marks_of first.slots = ap (λ (s : State). innermost s.frames) opens in
      let back = extends-back first done last (ap innermost stays.frames ∙ marked)
      (stays.opened first marked (extends-same first begun slots)) cut in
      record {
        outer = ap outer_of (dropped ∙ stays.outer ∙ ap outer_of inside);
        depth = omega (arith, stays.depth, deeper, less);
        frames = ap (λ (s : State). s.frames) drops ∙ ap around stays.frames
            ∙ ap (λ (s : State). around s.frames) opens;
        opened = extended_keeps first last (extends-same first last back);
      }

  -- a call of the store that closes the frame
  pub closes_level : (first old new : Held) → 1 < level_count first → LevelStays nodes first old →
      level_count new ≡ max 1 (level_count old - 1) → new.frames ≡ around old.frames → KeepsBelow old new →
      HoldsInRoom new → ClosesLevel first new
  closes_level first old new inside stays depth frames below within = record {
    depth = omega (arith, inside, stays.depth, depth);
    frames = frames ∙ ap around stays.frames;
    opened = keeps_then first old new stays.frames stays.opened (below_keeps old new below);
    within = within;
  }

  -- a store that never grows holds no more than its capacity
  pub kept_within : (old new : Held) → new.room ≡ old.room → old.room.growth ≡ Never →
      (new.room.growth ≡ Never → FitsIn new.room (levels nodes new)) → (kind : Slot) →
      slots kind (levels nodes new) ≤ old.room.least
  kept_within old new e never fits kind = subst (λ (r : Room). slots kind (levels nodes new) ≤ r.least) e
      (fits (ap (λ (r : Room). r.growth) e ∙ never) kind)
