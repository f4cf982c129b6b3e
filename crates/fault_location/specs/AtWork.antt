-- What the calls of a checker leave as it was, and what they may be given, by the states of the checker.
use Rattle.std.specs.Prelude.{◌≡◌, ℕ, ◌+◌, ◌^◌, ◌<◌, [], ◌∷◌, Result}
use Rattle.bit_space.specs.SpaceView.{SpaceView}
use Rattle.pickle_types.specs.declared.node.Field.{Field}
use Rattle.pickle_types.specs.declared.node.Part.{Part as Alternative}
use Rattle.pickle_types.specs.Table.{type_of}
use Rattle.pickle_meaning.specs.Means.{number_type, width_in}
use Rattle.pickle_map.specs.declared.mapper.stop.Stop.{Stop}
use Rattle.pickle_map.specs.Mappable.{IsFieldOf, IsPartOf}
use Rattle.pickle_map.specs.Framed as framed
use Rattle.pickle_meaning.specs.Values.{outer_of}
use Rattle.value_store.specs.Slots.{level_count}
use Rattle.fault_location.specs.declared.checker.Checker.{Checker}
use Rattle.fault_location.specs.declared.part.Part.{Part}
use Rattle.fault_location.specs.Frames.{frames_of}
use Rattle.fault_location.specs.Sites.{MayEnter}
use Rattle.fault_location.specs.Ways.{Leaves, IsPart}

-- the checker still has the table, the meter and the store that it borrowed
pub record StaysLent (old new : Checker) : Type 0 where
  pub nodes : new.nodes.now ≡ old.nodes.now
  pub packings : new.packings.ghost_name ≡ old.packings.ghost_name
  pub meter : new.meter.ghost_name ≡ old.meter.ghost_name
  pub store : new.store.ghost_name ≡ old.store.ghost_name

-- what stays in a call that reads
pub record Frame (space space' : SpaceView) (old new : Checker) : Type 0 where
  pub lent : StaysLent old new
  pub left : Leaves space space' old.meter.now new.meter.now

-- what stays in a call of the mapper
pub record MapFrame {A : Type 0} (space space' : SpaceView) (old new : Checker) (result : Result A Stop) : Type 0 where
  pub lent : StaysLent old new
  pub left : framed.Frame space space' old.meter.now new.meter.now old.store.now new.store.now 0 result

-- what stays in a call that reads nothing, and in one that stores nothing either
pub record WorkFrame (old new : Checker) : Type 0 where
  pub lent : StaysLent old new
  pub limit : new.meter.now.limit ≡ old.meter.now.limit

pub record LookFrame (old new : Checker) : Type 0 where
  pub lent : StaysLent old new
  pub limit : new.meter.now.limit ≡ old.meter.now.limit
  pub same : new.store.now ≡ old.store.now

-- as many frames are open as before
abbrev pub DepthStays : (old new : Checker) → Type 0
DepthStays old new = level_count new.store.now ≡ level_count old.store.now

abbrev pub AddsToLevel : {A : Type 0} → (old new : Checker) → Result A Stop → Type 0
AddsToLevel old new result = framed.AddsToLevel old.nodes.now old.store.now new.store.now result

abbrev pub LevelStays : (old new : Checker) → Type 0
LevelStays old new = framed.LevelStays old.nodes.now old.store.now new.store.now

-- a type may be mapped
abbrev pub MayMap : Checker → (node : ℕ) → Type 0
MayMap checker node = MayEnter checker.nodes.now (level_count checker.store.now) node

-- a type may be mapped in one more frame
abbrev pub MayOpen : Checker → (node : ℕ) → Type 0
MayOpen checker node = MayEnter checker.nodes.now (level_count checker.store.now + 1) node

-- a part may be mapped, with its constraint
abbrev pub MayTry : Checker → Part → Type 0
MayTry checker part = IsPart checker.nodes.now (level_count checker.store.now) part

-- a field of a struct may be mapped, and an alternative of a union or a field of an integral struct
abbrev pub IsFieldIn : Checker → Field → Type 0
IsFieldIn checker = IsFieldOf checker.nodes.now (level_count checker.store.now)

abbrev pub IsPartIn : Checker → Alternative → Type 0
IsPartIn checker = IsPartOf checker.nodes.now (level_count checker.store.now)

-- a number has no more binary digits than the type at a place of the table
abbrev pub FitsType : Checker → (node digits : ℕ) → Type 0
FitsType checker node digits = digits < 2 ^ width_in (number_type (type_of checker.nodes.now node))

-- the innermost frame is empty
abbrev pub IsFresh : Checker → Type 0
IsFresh checker = frames_of checker ≡ [] ∷ outer_of (frames_of checker)
