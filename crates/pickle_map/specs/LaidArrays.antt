-- Arrays of values of fixed layout that a store packs, while they are mapped.
use Rattle.std.specs.Prelude.{◌≡◌, ◌≢◌, ℕ, ◌+◌, ◌*◌, ◌<◌, length, List, [], ◌∷◌, ◌++◌, Bool, true, false, Option, Some, Result, Ok, Err}
use Rattle.bit_space.specs.declared.meter.Meter.{Meter}
use Rattle.bit_space.specs.declared.order.Order.{Order}
use Rattle.bit_space.specs.SpaceView.{SpaceView}
use Rattle.pickle_types.specs.declared.node.Node.{Node}
use Rattle.pickle_types.specs.Table.{type_of}
use Rattle.pickle_types.specs.Types.{PokeType}
use Rattle.pickle_meaning.specs.Clauses.{FaultAt}
use Rattle.pickle_meaning.specs.Fits.{Fits}
use Rattle.pickle_meaning.specs.Means.{Opened}
use Rattle.pickle_meaning.specs.Values.{Value, Levels, end_of}
use Rattle.value_store.specs.LayoutArrays.{IsPackingLike, instances_from}
use Rattle.value_store.specs.Layouts.{template_of}
use Rattle.value_store.specs.Slots.{Held, Regrown, levels}
use Rattle.mapping_plans.specs.Mapping.{packs_last, plan}
use Rattle.mapping_plans.specs.Plan.{Plan, then_ok}
use Rattle.pickle_map.specs.declared.mapper.stop.Stop.{Stop}
use Rattle.pickle_map.specs.declared.mapper.stop.Stop.TheVariants.{Memory}
use Rattle.pickle_map.specs.Calls.{Planned}
use Rattle.pickle_map.specs.Follows.{Done}
use Rattle.pickle_map.specs.Framed.{Runs}
use Rattle.pickle_map.specs.Records.{IsOpened}
use Rattle.pickle_map.specs.Stops.{stop_finish}

-- the innermost frame is that of an array, which has these values of the type from the bit `start` up to the bit
-- `place`
pub record IsLaidArray (nodes : List Node) (h : Held) (ty : PokeType) (start : ℕ) (outer : Levels) (place : ℕ)
    (values : List (Option Value)) : Type 0 where
  pub m : ℕ
  pub inner : Levels
  pub first : Value
  pub fits : Fits m ty inner start first
  pub size : ℕ
  pub wide : end_of first ≡ start + size
  pub rows : List (List ℕ)
  pub some : 0 < length rows
  pub array : IsPackingLike nodes h (template_of first 0) size start rows outer
  pub are : values ≡ instances_from (template_of first 0) size 0 rows
  pub ends : place ≡ start + size * length rows

-- the same where it may have none yet
pub data HasValues (nodes : List Node) (h : Held) (ty : PokeType) (start : ℕ) (outer : Levels) : (place : ℕ) →
    List (Option Value) → Type 0 where
  no_values : levels nodes h ≡ [] ∷ outer → IsOpened h → HasValues nodes h ty start outer start []
  some_values : {place : ℕ} {values : List (Option Value)} → IsLaidArray nodes h ty start outer place values →
      HasValues nodes h ty start outer place values

-- the frame of an array whose next value, the first or not, begins at the bit `place`
pub record IsNext (nodes : List Node) (h : Held) (ty : PokeType) (place : ℕ) : Type 0 where
  pub start : ℕ
  pub outer : Levels
  pub values : List (Option Value)
  pub array : IsLaidArray nodes h ty start outer place values

abbrev pub IsAmong : List Node → Held → PokeType → (first : Bool) → (place : ℕ) → Type 0
IsAmong nodes h ty true place = (outer : Levels) × (levels nodes h ≡ [] ∷ outer) × IsOpened h
IsAmong nodes h ty false place = IsNext nodes h ty place

-- a value that is packed after it was mapped
abbrev pub as_value : (at : ℕ) → Order → (start : ℕ) → Planned Value
as_value at order start =
    λ nodes m levels. then_ok (plan m (type_of nodes at) order levels start) (packs_last levels)

-- the array has that value after those that it had, which ended at the bit `place`
abbrev pub AddsValue : List Node → (before after : Held) → PokeType → (place : ℕ) → (value : Value) → Type 0
AddsValue nodes before after ty place value =
    (start : ℕ) (outer : Levels) (values : List (Option Value)) →
    HasValues nodes before ty start outer place values →
    IsLaidArray nodes after ty start outer (end_of value) (values ++ Some value ∷ [])

module _ (nodes : List Node) (space : SpaceView) (meter meter' : Meter) (store store' : Held) (ty : PokeType) where
  -- a value was packed after those that the array had, by a plan
  pub record PacksOne (place : ℕ) (p : Plan (Result Value FaultAt)) (end : ℕ) : Type 0 where
    pub value : Value
    pub m : ℕ
    pub inner : Levels
    pub fits : Fits m ty inner place value
    pub adds : AddsValue nodes store store' ty place value
    pub ends : end_of value ≡ end
    pub runs : Runs space meter meter' store store' p (Done (Ok value))

  -- or the call stopped, and left those, if there was memory
  abbrev pub PacksOrStops : (place : ℕ) → Plan (Result Value FaultAt) → Result ℕ Stop → Type 0
  PacksOrStops place p (Ok end) = PacksOne place p end
  PacksOrStops place p (Err stop) =
      Runs space meter meter' store store' p (stop_finish stop) × (stop ≢ Memory → Regrown store store')

  -- all values of an array were packed, by the plan of its elements
  pub record PacksAll (start : ℕ) (outer : Levels) (p : Plan (Result Opened FaultAt)) (end : ℕ) : Type 0 where
    pub values : List (Option Value)
    pub has : HasValues nodes store' ty start outer end values
    pub runs : Runs space meter meter' store store' p (Done (Ok (values ∷ outer, end)))

  abbrev pub PacksAllOrStops : (start : ℕ) → (outer : Levels) → Plan (Result Opened FaultAt) → Result ℕ Stop → Type 0
  PacksAllOrStops start outer p (Ok end) = PacksAll start outer p end
  PacksAllOrStops start outer p (Err stop) = Runs space meter meter' store store' p (stop_finish stop)
