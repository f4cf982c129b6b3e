-- What the calls of a mapper did between two of its states: frames and plans, by its meter and its store.
use Rattle.std.specs.Prelude.{◌≡◌, ℕ, ◌*◌, ◌<◌, length, Bool, true, List, Some, Result}
use Rattle.bit_space.specs.SpaceView.{SpaceView}
use Rattle.bit_space.specs.declared.order.Order.{Order}
use Rattle.pickle_types.specs.declared.integer.IntegerType.{IntegerType}
use Rattle.pickle_types.specs.declared.node.Field.{Field}
use Rattle.pickle_types.specs.declared.node.Part.{Part}
use Rattle.pickle_types.specs.Table.{IsTable, type_of}
use Rattle.pickle_types.specs.Types.{PokeType}
use Rattle.pickle_meaning.specs.declared.extent.Extent.{Extent}
use Rattle.pickle_meaning.specs.Means.{Opened}
use Rattle.pickle_meaning.specs.Values.{Value, outer_of}
use Rattle.pickle_map.specs.declared.mapper.state.Mapper.{Mapper}
use Rattle.pickle_map.specs.declared.mapper.stop.Stop.{Stop}
use Rattle.pickle_map.specs.Calls.{Planned}
use Rattle.pickle_map.specs.Calls as calls
use Rattle.pickle_map.specs.Columns.{shapes_of}
use Rattle.pickle_map.specs.Columns as columns
use Rattle.pickle_map.specs.Framed as framed
use Rattle.pickle_map.specs.Records as records
use Rattle.pickle_map.specs.LaidArrays as laid
use Rattle.pickle_map.specs.Row.{IsRecordType}
use Rattle.value_store.specs.declared.store.slots.Shape.{Shape}
use Rattle.value_store.specs.Keeping.{IsPushed}
use Rattle.value_store.specs.Lent.{numbered}
use Rattle.value_store.specs.Slots.{KeepsRoom, levels, packs}
use Rattle.mapping_plans.specs.Rows.{scalar_shape}

module _ {W : Type 0} where
  -- the mapper still has the table, the meter and the store that it borrowed
  pub record StaysLent (old new : Mapper W) : Type 0 where
    pub nodes : new.nodes.now ≡ old.nodes.now
    pub packings : new.packings.ghost_name ≡ old.packings.ghost_name
    pub meter : new.meter.ghost_name ≡ old.meter.ghost_name
    pub store : new.store.ghost_name ≡ old.store.ghost_name

  -- ---- what stays

  -- what stays in a call that reads, and in one that doesn't
  pub record Frame {A : Type 0} (space space' : SpaceView) (old new : Mapper W) (ahead : ℕ)
      (result : Result A Stop) : Type 0 where
    pub lent : StaysLent old new
    pub left : framed.Frame space space' old.meter.now new.meter.now old.store.now new.store.now ahead result

  pub record WorkFrame {A : Type 0} (old new : Mapper W) (ahead : ℕ) (result : Result A Stop) : Type 0 where
    pub lent : StaysLent old new
    pub left : framed.WorkFrame old.meter.now new.meter.now old.store.now new.store.now ahead result

  -- ---- the frames of the store

  abbrev pub AddsToLevel : {A : Type 0} → (old new : Mapper W) → Result A Stop → Type 0
  AddsToLevel old new result = framed.AddsToLevel old.nodes.now old.store.now new.store.now result

  abbrev pub LevelStays : (old new : Mapper W) → Type 0
  LevelStays old new = framed.LevelStays old.nodes.now old.store.now new.store.now

  abbrev pub LeavesLevel : {A : Type 0} → (old new : Mapper W) → Result A Stop → Type 0
  LeavesLevel old new result = framed.LeavesLevel old.nodes.now old.store.now new.store.now result

  -- ---- plans of calls that read

  abbrev pub Maps : SpaceView → (old new : Mapper W) → Planned Value → Result ℕ Stop → Type 0
  Maps space old new planned result =
      calls.Maps old.nodes.now space old.meter.now new.meter.now old.store.now new.store.now planned result

  abbrev pub Closes : SpaceView → (old new : Mapper W) → Planned Value → Result ℕ Stop → Type 0
  Closes space old new planned result =
      calls.Closes old.nodes.now space old.meter.now new.meter.now old.store.now new.store.now planned result

  abbrev pub Fills : SpaceView → (old new : Mapper W) → Planned Opened → Result ℕ Stop → Type 0
  Fills space old new planned result =
      calls.Fills old.nodes.now space old.meter.now new.meter.now old.store.now new.store.now planned result

  abbrev pub Takes : SpaceView → (old new : Mapper W) → List Part → Order → (start : ℕ) → Result (ℕ × ℕ) Stop → Type 0
  Takes space old new alternatives order start result =
      calls.Takes old.nodes.now space old.meter.now new.meter.now old.store.now new.store.now
      alternatives order start result

  abbrev pub PacksRow : SpaceView → (old new : Mapper W) → Shape → (element : ℕ) → Extent → Order → (start : ℕ) →
      Result ℕ Stop → Type 0
  PacksRow space old new shape element extent order start result =
      calls.PacksRow old.nodes.now space old.meter.now new.meter.now old.store.now new.store.now shape element
      extent order start result

  -- ---- plans of calls that store a number that was read

  abbrev pub Places : (old new : Mapper W) → PokeType → (digits start : ℕ) → Result (Unit {0}) Stop → Type 0
  Places old new ty digits start result =
      calls.Places old.nodes.now old.meter.now new.meter.now old.store.now new.store.now ty digits start result

  abbrev pub PlacesLevel : (old new : Mapper W) → (at : ℕ) → IntegerType → List Part → (digits start : ℕ) →
      Result (Unit {0}) Stop → Type 0
  PlacesLevel old new at number fields digits start result =
      calls.PlacesLevel old.nodes.now old.meter.now new.meter.now old.store.now new.store.now
      at number fields digits start result

  abbrev pub PlacesPart : (old new : Mapper W) → Part → (digits start : ℕ) → Result (Unit {0}) Stop → Type 0
  PlacesPart old new part digits start result =
      calls.PlacesPart old.nodes.now old.meter.now new.meter.now old.store.now new.store.now part digits start result

  abbrev pub PlacesFields : (old new : Mapper W) → List Part → (digits width start : ℕ) →
      Result (Unit {0}) Stop → Type 0
  PlacesFields old new fields digits width start result =
      calls.PlacesFields old.nodes.now old.meter.now new.meter.now old.store.now new.store.now fields
      digits width start result

  -- ---- numbers of structs, and packed structs

  abbrev pub columns_of : (old : Mapper W) → List Field → List Shape
  columns_of old fields = shapes_of (type_of old.nodes.now) fields

  -- the integer or offset at a place of the table is one more member of the innermost frame
  abbrev pub PushesScalar : (old new : Mapper W) → (at digits start : ℕ) → Type 0
  PushesScalar old new at digits start =
      IsPushed old.store.now new.store.now (Some (numbered (scalar_shape (type_of old.nodes.now at)) start digits))

  -- and its bytes are at the end of a row
  abbrev pub AddsScalar : (old new : Mapper W) → (at start end : ℕ) → (row row' : List ℕ) → Type 0
  AddsScalar old new at start end row row' =
      columns.AddsDigits old.store.now new.store.now (scalar_shape (type_of old.nodes.now at)) start end row row'

  abbrev pub AddsColumns : (old new : Mapper W) → List Field → (start end : ℕ) → (row row' : List ℕ) → Type 0
  AddsColumns old new fields start end row row' =
      columns.AddsColumns old.store.now new.store.now (columns_of old fields) start end row row'

  -- a struct of numbers with these fields, arrays of which the store packs
  pub record IsRecord (old : Mapper W) (at : ℕ) (fields : List Field) : Type 0 where
    pub table : IsTable old.nodes.now
    pub inside : at < length old.nodes.now
    pub type : IsRecordType old.nodes.now at fields
    pub packs : packs old.store.now.room ≡ true

  abbrev pub IsAmong : (old : Mapper W) → (at : ℕ) → List Field → (start : ℕ) → Type 0
  IsAmong old at fields start = records.IsAmong old.nodes.now old.store.now at (columns_of old fields) start

  abbrev pub TakesRow : (old : Mapper W) → (at : ℕ) → List Field → (start end : ℕ) → (row : List ℕ) → Type 0
  TakesRow old at fields start end row =
      records.TakesRow old.nodes.now old.store.now at (columns_of old fields) start end row

  abbrev pub OpensArray : (old new : Mapper W) → (at : ℕ) → List Field → (start : ℕ) → Type 0
  OpensArray old new at fields start =
      records.OpensArray old.nodes.now old.store.now new.store.now at (columns_of old fields) start

  abbrev pub AddsRow : (old new : Mapper W) → (at : ℕ) → List Field → (start : ℕ) → (row : List ℕ) → Type 0
  AddsRow old new at fields start row =
      records.AddsRow old.nodes.now old.store.now new.store.now at (columns_of old fields) start row

  -- what stays in a call that only stores
  pub record StoreFrame (old new : Mapper W) : Type 0 where
    pub lent : StaysLent old new
    pub meter : new.meter.now ≡ old.meter.now
    pub room : KeepsRoom old.store.now new.store.now
    pub level : LevelStays old new

  abbrev pub PacksOne : SpaceView → (old new : Mapper W) → (at : ℕ) → List Field → (start : ℕ) → Planned Value →
      Result ℕ Stop → Type 0
  PacksOne space old new at fields start planned result =
      records.PacksOrStops old.nodes.now space old.meter.now new.meter.now old.store.now new.store.now
      at (columns_of old fields) start
      (planned old.nodes.now (8 * space.len) (levels old.nodes.now old.store.now)) result

  abbrev pub PacksAll : SpaceView → (old new : Mapper W) → (at : ℕ) → List Field → (start : ℕ) → Planned Opened →
      Result ℕ Stop → Type 0
  PacksAll space old new at fields start planned result =
      records.PacksAllOrStops old.nodes.now space old.meter.now new.meter.now old.store.now new.store.now
      at (columns_of old fields) start
      (outer_of (levels old.nodes.now old.store.now))
      (planned old.nodes.now (8 * space.len) (levels old.nodes.now old.store.now)) result

  -- ---- packed values

  abbrev pub IsAmongValues : (old : Mapper W) → (at : ℕ) → (first : Bool) → (place : ℕ) → Type 0
  IsAmongValues old at first place = laid.IsAmong old.nodes.now old.store.now (type_of old.nodes.now at) first place

  abbrev pub PacksOneValue : SpaceView → (old new : Mapper W) → (at place : ℕ) → Planned Value →
      Result ℕ Stop → Type 0
  PacksOneValue space old new at place planned result =
      laid.PacksOrStops old.nodes.now space old.meter.now new.meter.now old.store.now new.store.now
      (type_of old.nodes.now at) place
      (planned old.nodes.now (8 * space.len) (levels old.nodes.now old.store.now)) result

  abbrev pub PacksAllValues : SpaceView → (old new : Mapper W) → (at start : ℕ) → Planned Opened →
      Result ℕ Stop → Type 0
  PacksAllValues space old new at start planned result =
      laid.PacksAllOrStops old.nodes.now space old.meter.now new.meter.now old.store.now new.store.now
      (type_of old.nodes.now at) start (outer_of (levels old.nodes.now old.store.now))
      (planned old.nodes.now (8 * space.len) (levels old.nodes.now old.store.now)) result
