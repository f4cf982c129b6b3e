-- The calls of a mapping: the plan of each call by name, and what the call did by it.
use Rattle.std.specs.Prelude.{◌≡◌, ℕ, ◌+◌, ◌*◌, ◌/◌, List, [], Option, Some, None, Box, Bool, Result, Ok, Err, map, slice_get, unwrap_or}
use Rattle.std.specs.declared.alloc.Global.{Global}
use Rattle.bit_space.specs.declared.meter.Meter.{Meter}
use Rattle.bit_space.specs.declared.order.Order.{Order}
use Rattle.bit_space.specs.SpaceView.{SpaceView}
use Rattle.pickle_types.specs.declared.integer.IntegerType.{IntegerType}
use Rattle.pickle_types.specs.declared.node.Extent.{Extent as Bound}
use Rattle.pickle_types.specs.declared.node.Field.{Field}
use Rattle.pickle_types.specs.declared.node.Node.{Node}
use Rattle.pickle_types.specs.declared.node.Part.{Part}
use Rattle.pickle_types.specs.declared.node.Resolved.{Resolved}
use Rattle.pickle_types.specs.Types.{PokeType, IntegerOf, OffsetOf, ArrayOf, StructOf, IntegralOf, UnionOf}
use Rattle.pickle_types.specs.Bounds.{least_width, count_of}
use Rattle.pickle_types.specs.Table.{type_of, open_fields, open_parts, optional_term, bound_of}
use Rattle.pickle_meaning.specs.declared.extent.Extent.{Extent}
use Rattle.pickle_map.specs.declared.mapper.stop.Stop.{Stop}
use Rattle.value_store.specs.declared.store.slots.Shape.{Shape}
use Rattle.pickle_meaning.specs.Values.{Naming, Value, end_of, Levels, pushed, outer_of}
use Rattle.pickle_meaning.specs.Clauses.{FaultAt}
use Rattle.pickle_meaning.specs.Means.{Opened, Taken, struct_value, field_names, part_names, number_type, width_in}
use Rattle.mapping_plans.specs.Plan.{Plan, Tick, then_ok, framed}
use Rattle.mapping_plans.specs.Mapping.{plan, read_plan, number_plan, digits_plan, text_plan, fields_plan, element_plan, elements_plan, alternatives_plan, constrained, closes, array_closes, struct_closes, union_closes}
use Rattle.pickle_map.specs.Follows.{Done}
use Rattle.pickle_map.specs.Framed.{world_between, world_of, KeepsOrStops, Runs, Works}
use Rattle.pickle_map.specs.Row.{Packs}
use Rattle.value_store.specs.Moves.{Closes as ClosesFrame, state_of}
use Rattle.value_store.specs.Slots.{Held, levels}
use Rattle.value_store.specs.Names.{title_at, part_name}
use Rattle.pickle_map.specs.Stops.{stop_finish}

-- ---- the plans of calls

-- a plan, by the table, the number of the file's bits and the stored frames
abbrev pub Planned : Type 0 → Type 0
Planned A = List Node → (m : ℕ) → Levels → Plan (Result A FaultAt)

-- the type at a place of the table
abbrev pub as_type : (at : ℕ) → Order → (start : ℕ) → Planned Value
as_type at order start = λ nodes m levels. plan m (type_of nodes at) order levels start

-- that type and its constraint
abbrev pub as_checked : (at : ℕ) → Option (Box Resolved Global) → Order → (start : ℕ) → Planned Value
as_checked at constraint order start = λ nodes m levels.
    then_ok (plan m (type_of nodes at) order levels start) (constrained (optional_term constraint) levels start)

-- a type that is read as one number
abbrev pub as_number : (at : ℕ) → IntegerType → Order → (start : ℕ) → Planned Value
as_number at number order start = λ nodes m levels. read_plan m (type_of nodes at) number order levels start

abbrev pub as_integer : IntegerType → Order → (start : ℕ) → Planned Value
as_integer number order start = λ nodes m levels. read_plan m (IntegerOf number) number order levels start

abbrev pub as_offset : IntegerType → (unit : ℕ) → Order → (start : ℕ) → Planned Value
as_offset number unit order start = λ nodes m levels. read_plan m (OffsetOf number unit) number order levels start

-- a string, and its bytes in their own frame
abbrev pub as_text : (start : ℕ) → Planned Value
as_text start = λ nodes m levels. Tick (framed levels (text_plan m (m / 8 + 1) [] levels start start))

abbrev pub as_text_level : (start : ℕ) → Planned Value
as_text_level start = λ nodes m levels. text_plan m (m / 8 + 1) [] (outer_of levels) start start

-- an array, its elements, and its frame with them
abbrev pub as_array : (element : ℕ) → Bound → Order → (start : ℕ) → Planned Value
as_array element bound order start =
    λ nodes m levels. plan m (ArrayOf (type_of nodes element) (bound_of bound)) order levels start

abbrev pub as_elements : (element : ℕ) → Extent → Order → (start : ℕ) → Planned Opened
as_elements element extent order start = λ nodes m levels.
    elements_plan (element_plan (type_of nodes element) (plan m (type_of nodes element) order)) m start extent
    (count_of m (least_width (type_of nodes element))) 0 levels start

abbrev pub as_array_level : (element : ℕ) → Extent → Order → (start : ℕ) → Planned Value
as_array_level element extent order start = λ nodes m levels.
    then_ok (as_elements element extent order start nodes m levels) (array_closes (type_of nodes element) start)

-- a struct, its fields, and its frame with them
abbrev pub as_struct : (at : ℕ) → (pinned : Bool) → List Field → Order → (start : ℕ) → Planned Value
as_struct at pinned fields order start = λ nodes m levels.
    plan m (StructOf (title_at nodes at) pinned (open_fields (type_of nodes) fields)) order levels start

abbrev pub as_fields : (pinned : Bool) → List Field → Order → (start : ℕ) → Planned Opened
as_fields pinned fields order start =
    λ nodes m levels. fields_plan m pinned start (open_fields (type_of nodes) fields) order levels start start

abbrev pub as_struct_level : (at : ℕ) → (pinned : Bool) → List Field → Order → (start : ℕ) → Planned Value
as_struct_level at pinned fields order start = λ nodes m levels.
    then_ok (as_fields pinned fields order start nodes m levels)
    (struct_closes (title_at nodes at) (field_names (open_fields (type_of nodes) fields)) start)

-- a union, its alternatives, and its frame with them
abbrev pub as_union : (at : ℕ) → List Part → Order → (start : ℕ) → Planned Value
as_union at alternatives order start = λ nodes m levels.
    plan m (UnionOf (title_at nodes at) (open_parts (type_of nodes) alternatives)) order levels start

abbrev pub as_alternatives : List Part → Order → (start : ℕ) → Planned Taken
as_alternatives alternatives order start =
    λ nodes m levels. alternatives_plan m (open_parts (type_of nodes) alternatives) 0 order levels start

abbrev pub as_union_level : (at : ℕ) → List Part → Order → (start : ℕ) → Planned Value
as_union_level at alternatives order start = λ nodes m levels.
    then_ok (as_alternatives alternatives order start nodes m levels)
    (union_closes (title_at nodes at) (outer_of levels) start)

-- ---- what a call that reads the space did

module _ (nodes : List Node) (space : SpaceView) (meter meter' : Meter) (store store' : Held) where
  -- it stored one more value in these frames, or stopped
  abbrev pub MapsIn : Levels → Plan (Result Value FaultAt) → Result ℕ Stop → Type 0
  MapsIn before p result = KeepsOrStops (world_of space store store') meter.limit p meter.steps meter.made
      (state_of store) meter'.steps meter'.made (state_of store') before (levels nodes store') (λ end. end) result

  -- it stored one more value in the innermost frame
  abbrev pub Maps : Planned Value → Result ℕ Stop → Type 0
  Maps planned result = MapsIn (levels nodes store) (planned nodes (8 * space.len) (levels nodes store)) result

  -- it closed the innermost frame as a value
  abbrev pub Closes : Planned Value → Result ℕ Stop → Type 0
  Closes planned result =
      MapsIn (outer_of (levels nodes store)) (planned nodes (8 * space.len) (levels nodes store)) result

  -- it stored parts of the innermost frame, which end at a bit
  abbrev pub FillsBy : Plan (Result Opened FaultAt) → Result ℕ Stop → Type 0
  FillsBy p (Ok end) = Runs space meter meter' store store' p (Done (Ok (levels nodes store', end)))
  FillsBy p (Err stop) = Runs space meter meter' store store' p (stop_finish stop)

  abbrev pub Fills : Planned Opened → Result ℕ Stop → Type 0
  Fills planned result = FillsBy (planned nodes (8 * space.len) (levels nodes store)) result

  -- it stored the alternative of that number, which ends at `end`, of those with these names
  pub record TakesOne (names : List Naming) (p : Plan (Result Taken FaultAt)) (index end : ℕ) : Type 0 where
    pub value : Value
    pub keeps : levels nodes store' ≡ pushed (levels nodes store) (Some value)
    pub ends : end_of value ≡ end
    pub follows : Runs space meter meter' store store' p
        (Done (Ok (record { index = index; name = unwrap_or (slice_get names index) None; value = value })))

  abbrev pub TakesBy : List Naming → Plan (Result Taken FaultAt) → Result (ℕ × ℕ) Stop → Type 0
  TakesBy names p (Ok r) = TakesOne names p r.0 r.1
  TakesBy names p (Err stop) = Runs space meter meter' store store' p (stop_finish stop)

  -- it stored one of these alternatives
  abbrev pub Takes : List Part → Order → (start : ℕ) → Result (ℕ × ℕ) Stop → Type 0
  Takes alternatives order start result =
      TakesBy (map part_name alternatives)
      (as_alternatives alternatives order start nodes (8 * space.len) (levels nodes store)) result

  -- it packed the elements of an array in the innermost frame, which end at a bit
  abbrev pub PacksBy : Shape → (start : ℕ) → Plan (Result Opened FaultAt) → Result ℕ Stop → Type 0
  PacksBy shape start p (Ok end) =
      Packs nodes space meter meter' store store' shape start (outer_of (levels nodes store)) p end
  PacksBy shape start p (Err stop) = Runs space meter meter' store store' p (stop_finish stop)

  abbrev pub PacksRow : Shape → (element : ℕ) → Extent → Order → (start : ℕ) → Result ℕ Stop → Type 0
  PacksRow shape element extent order start result =
      PacksBy shape start (as_elements element extent order start nodes (8 * space.len) (levels nodes store)) result

-- ---- what a call did with a number that was read

-- the integral struct at a place of the table
abbrev pub integral_at : List Node → (at : ℕ) → IntegerType → List Part → PokeType
integral_at nodes at number fields = IntegralOf (title_at nodes at) number (open_parts (type_of nodes) fields)

module _ (nodes : List Node) (meter meter' : Meter) (store store' : Held) where
  -- it stored one more value in these frames, which ends at `end`, or stopped
  abbrev pub PlacesIn : Levels → Plan (Result Value FaultAt) → (end : ℕ) → Result (Unit {0}) Stop → Type 0
  PlacesIn before p end result =
      (known : Option (List ℕ)) →
      KeepsOrStops (world_between known store store') meter.limit p meter.steps meter.made (state_of store) meter'.steps
      meter'.made (state_of store') before (levels nodes store') (λ u. end) result

  -- it stored the number as a value of a type, after its own first step
  abbrev pub Places : PokeType → (digits start : ℕ) → Result (Unit {0}) Stop → Type 0
  Places ty digits start result =
      PlacesIn (levels nodes store) (number_plan ty digits (levels nodes store) start)
      (start + width_in (number_type ty)) result

  -- it stored the fields of an integral struct in the innermost frame, and closed that frame
  abbrev pub PlacesLevel : (at : ℕ) → IntegerType → List Part → (digits start : ℕ) → Result (Unit {0}) Stop → Type 0
  PlacesLevel at number fields digits start result =
      PlacesIn (outer_of (levels nodes store))
      (then_ok (digits_plan (open_parts (type_of nodes) fields) digits number.width (levels nodes store) start)
      (closes ClosesFrame
      (struct_value (title_at nodes at) (part_names (open_parts (type_of nodes) fields)) start (start + number.width))))
      (start + number.width) result

  -- it stored a field of an integral struct, whose constraint holds
  abbrev pub PlacesPart : Part → (digits start : ℕ) → Result (Unit {0}) Stop → Type 0
  PlacesPart part digits start result =
      PlacesIn (levels nodes store)
      (then_ok (Tick (number_plan (type_of nodes part.node) digits (levels nodes store) start))
      (constrained (optional_term part.constraint) (levels nodes store) start))
      (start + width_in (number_type (type_of nodes part.node))) result

  -- it stored the fields that a number of that width is cut into
  abbrev pub PlacesBy : Plan (Result Levels FaultAt) → Result (Unit {0}) Stop → Type 0
  PlacesBy p (Ok u) = Works meter meter' store store' p (Done (Ok (levels nodes store')))
  PlacesBy p (Err stop) = Works meter meter' store store' p (stop_finish stop)

  abbrev pub PlacesFields : List Part → (digits width start : ℕ) → Result (Unit {0}) Stop → Type 0
  PlacesFields fields digits width start result =
      PlacesBy (digits_plan (open_parts (type_of nodes) fields) digits width (levels nodes store) start) result
