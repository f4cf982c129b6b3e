-- The elements of an array, where they aren't packed.
use Rattle.std.proofs.Common.{◌≡◌, ℕ, Bool, true, false, Option, None, Result, Ok, inl, inr, refl, sym, ap, ◌∙◌, arith}
use Rattle.pickle_types.specs.Types.{PokeType}
use Rattle.pickle_types.specs.declared.node.Field.{Field}
use Rattle.pickle_types.specs.declared.node.Part.{Part}
use Rattle.pickle_types.specs.declared.name.Name.{Name}
use Rattle.std.specs.Prelude.{Vec}
use Rattle.std.specs.declared.alloc.Global.{Global}
use Rattle.pickle_types.specs.declared.node.Shape.{Shape}
use Rattle.pickle_types.specs.declared.node.Shape.TheVariants as shape
use Rattle.pickle_types.specs.declared.integer.IntegerType.{IntegerType}
use Rattle.pickle_types.specs.Table.{open_shape}
use Rattle.pickle_map.specs.declared.mapper.stop.Stop.{Stop}
use Rattle.pickle_map.specs.declared.mapper.stop.Stop.TheVariants.{Fault, Limit, Device, Memory}
use Rattle.pickle_meaning.specs.Clauses.{FaultAt}
use Rattle.pickle_meaning.specs.Values.{Value, Levels}
use Rattle.value_store.specs.Moves.{Move, Opens, Drops, Clears, Places, Leaves, Closes, Writes, Ends, Packs, ClosesRow, OpensRecords, PacksRecord, ClosesRecords, PacksStruct, PacksValue, State, moved, needed}
use Rattle.mapping_plans.specs.Plan.{Plan, Ended, Tick, Made, Read, as_number, as_struct, packed, as_row, in_row}
use Rattle.mapping_plans.specs.Mapping.{array_move, packs_last, then_packed}
use Rattle.mapping_plans.specs.Avoids.{IsScalar}
use Rattle.mapping_plans.specs.Rows.{Row, Apart, Numbers, Records, Values, scalar_width, row_of, stride_of}
use Rattle.value_store.specs.Layouts.{packs_value}
use Rattle.value_store.specs.Slots.{packs}
use Rattle.pickle_map.specs.Follows.{World, HasRoom, after_move, during_move, MovesTo, TakesMore, RefusesMove, LacksRoom, Walk, arrived, stepped, kept, read, Done, NeedsStep, NeedsRead, NeedsRoom, Follows}
use Rattle.pickle_map.specs.Stops.{stop_finish}
use Rattle.value_store.specs.Weights.{weight}
use Rattle.pickle_map.proofs.Weighed.{apart_light}
use Rattle.pickle_map.proofs.Walks.{follow_done, follow_made, follow_stop, follow_then_ok}

-- ---- a plan as that of an element

-- where nothing is packed, a number is placed as others are, and a struct is closed as others are
number_alike : (width : ℕ) (move : Move) (state : State) →
    moved false (as_number width move) state ≡ moved false move state
number_alike width Opens state = refl
number_alike width Drops state = refl
number_alike width Clears state = refl
number_alike width Places state = refl
number_alike width Leaves state = refl
number_alike width Closes state = refl
number_alike width Writes state = refl
number_alike width Ends state = refl
number_alike width (Packs other) state = refl
number_alike width ClosesRow state = refl
number_alike width OpensRecords state = refl
number_alike width (PacksRecord count) state = refl
number_alike width ClosesRecords state = refl
number_alike width (PacksStruct other) state = refl
number_alike width (PacksValue size template other) state = refl

record_alike : (stride : ℕ) (move : Move) (state : State) →
    moved false (as_struct stride move) state ≡ moved false move state
record_alike stride Opens state = refl
record_alike stride Drops state = refl
record_alike stride Clears state = refl
record_alike stride Places state = refl
record_alike stride Leaves state = refl
record_alike stride Closes state = refl
record_alike stride Writes state = refl
record_alike stride Ends state = refl
record_alike stride (Packs other) state = refl
record_alike stride ClosesRow state = refl
record_alike stride OpensRecords state = refl
record_alike stride (PacksRecord count) state = refl
record_alike stride ClosesRecords state = refl
record_alike stride (PacksStruct other) state = refl
record_alike stride (PacksValue size template other) state = refl

unpacked : (row : Row) (move : Move) (state : State) → moved false (packed row move) state ≡ moved false move state
unpacked Apart move state = refl
unpacked (Numbers width) move state = number_alike width move state
unpacked (Records widths) move state = record_alike (stride_of widths) move state
unpacked (Values stride) move state = refl

-- nor does a move need more on its way than what it leaves
plainly : (move : Move) (state : State) → needed false move state ≡ moved false move state
plainly Opens state = refl
plainly Drops state = refl
plainly Clears state = refl
plainly Places state = refl
plainly Leaves state = refl
plainly Closes state = refl
plainly Writes state = refl
plainly Ends state = refl
plainly (Packs width) state = refl
plainly ClosesRow state = refl
plainly OpensRecords state = refl
plainly (PacksRecord count) state = refl
plainly ClosesRecords state = refl
plainly (PacksStruct stride) state = refl
plainly (PacksValue size template stride) state = refl

needs_alike : (row : Row) (move : Move) (state : State) → needed false (packed row move) state ≡ needed false move state
needs_alike row move state = plainly (packed row move) state ∙ unpacked row move state ∙ sym (plainly move state)

takes_number : (width : ℕ) (move : Move) → TakesMore move → TakesMore (as_number width move)
takes_number width Opens h = h
takes_number width Drops h = h
takes_number width Clears h = h
takes_number width Places h = tt
takes_number width Leaves h = tt
takes_number width Closes h = tt
takes_number width Writes h = tt
takes_number width Ends h = tt
takes_number width (Packs other) h = tt
takes_number width ClosesRow h = tt
takes_number width OpensRecords h = tt
takes_number width (PacksRecord count) h = tt
takes_number width ClosesRecords h = h
takes_number width (PacksStruct other) h = tt
takes_number width (PacksValue size template other) h = tt

takes_record : (stride : ℕ) (move : Move) → TakesMore move → TakesMore (as_struct stride move)
takes_record stride Opens h = h
takes_record stride Drops h = h
takes_record stride Clears h = h
takes_record stride Places h = tt
takes_record stride Leaves h = tt
takes_record stride Closes h = tt
takes_record stride Writes h = tt
takes_record stride Ends h = tt
takes_record stride (Packs other) h = tt
takes_record stride ClosesRow h = tt
takes_record stride OpensRecords h = tt
takes_record stride (PacksRecord count) h = tt
takes_record stride ClosesRecords h = h
takes_record stride (PacksStruct other) h = tt
takes_record stride (PacksValue size template other) h = tt

takes_packed : (row : Row) (move : Move) → TakesMore move → TakesMore (packed row move)
takes_packed Apart move h = h
takes_packed (Numbers width) move h = takes_number width move h
takes_packed (Records widths) move h = takes_record (stride_of widths) move h
takes_packed (Values stride) move h = h

-- nor does the element take more than the value
number_back : (width : ℕ) (move : Move) → TakesMore (as_number width move) → TakesMore move
number_back width Opens h = h
number_back width Drops h = h
number_back width Clears h = h
number_back width Places h = tt
number_back width Leaves h = h
number_back width Closes h = h
number_back width Writes h = h
number_back width Ends h = h
number_back width (Packs other) h = h
number_back width ClosesRow h = h
number_back width OpensRecords h = h
number_back width (PacksRecord count) h = h
number_back width ClosesRecords h = h
number_back width (PacksStruct other) h = h
number_back width (PacksValue size template other) h = h

struct_back : (stride : ℕ) (move : Move) → TakesMore (as_struct stride move) → TakesMore move
struct_back stride Opens h = h
struct_back stride Drops h = h
struct_back stride Clears h = h
struct_back stride Places h = h
struct_back stride Leaves h = h
struct_back stride Closes h = tt
struct_back stride Writes h = h
struct_back stride Ends h = h
struct_back stride (Packs other) h = h
struct_back stride ClosesRow h = h
struct_back stride OpensRecords h = h
struct_back stride (PacksRecord count) h = h
struct_back stride ClosesRecords h = h
struct_back stride (PacksStruct other) h = h
struct_back stride (PacksValue size template other) h = h

pub takes_back : (row : Row) (move : Move) → TakesMore (packed row move) → TakesMore move
takes_back Apart move h = h
takes_back (Numbers width) move h = number_back width move h
takes_back (Records widths) move h = struct_back (stride_of widths) move h
takes_back (Values stride) move h = h

takes_array : (row : Row) → TakesMore (array_move row)
takes_array Apart = tt
takes_array (Numbers width) = tt
takes_array (Records widths) = tt
takes_array (Values stride) = tt

step_as_row : {A : Type 0} (row : Row) (p : Plan A) → NeedsStep p → NeedsStep (as_row row p)
step_as_row row (Ended a) h = absurd h
step_as_row row (Tick p) h = tt
step_as_row row (Made count move levels p) h = absurd h
step_as_row row (Read place bits order rest) h = absurd h

read_as_row : {A : Type 0} (row : Row) (p : Plan A) → NeedsRead p → NeedsRead (as_row row p)
read_as_row row (Ended a) h = absurd h
read_as_row row (Tick p) h = absurd h
read_as_row row (Made count move levels p) h = absurd h
read_as_row row (Read place bits order rest) h = tt

module _ (world : World) (none : packs world.room ≡ false) (row : Row) where
  same_after : (move : Move) (state : State) → after_move world (packed row move) state ≡ after_move world move state
  same_after move state = rw none (unpacked row move state)

  same_during : (move : Move) (state : State) →
      during_move world (packed row move) state ≡ during_move world move state
  same_during move state = rw none (needs_alike row move state)

  room_as_row : {A : Type 0} (state : State) (p : Plan A) → NeedsRoom world state p →
      NeedsRoom world state (as_row row p)
  room_as_row state (Ended a) h = absurd h
  room_as_row state (Tick p) h = absurd h
  room_as_row state (Made count move levels p) h =
      record { takes = takes_packed row move h.takes; least = h.least; before = refused h.before }
    where
      refused : RefusesMove world move state → RefusesMove world (packed row move) state
      refused (inl over) = inl (rw (same_during move state) over)
      refused (inr heavy) = inr (rw (same_after move state) heavy)
  room_as_row state (Read place bits order rest) h = absurd h

  walk_as_row : {A : Type 0} {rest : Plan A} {k' j' : ℕ} {last : State} {p : Plan A} {k j : ℕ} {state : State} →
      Walk world rest k' j' last p k j state → Walk world (as_row row rest) k' j' last (as_row row p) k j state
  walk_as_row arrived = arrived
  walk_as_row (stepped w) = stepped (walk_as_row w)
  walk_as_row (kept {move} {state} has w) =
      kept record {
        room = rw (same_during move state) has.room;
        light = rw (same_after move state) (λ adds. has.light (takes_back row move adds.0, adds.1));
      } (rw (same_after move state) (walk_as_row w))
  walk_as_row (read n m w) = read n m (walk_as_row w)

  done_as_row : {A : Type 0} {limit : ℕ} {p : Plan A} {k j k' j' : ℕ} {state state' : State} {a : A} →
      Follows world limit p k j state k' j' state' (Done a) →
      Follows world limit (as_row row p) k j state k' j' state' (Done a)
  done_as_row h = record {
    rest = as_row row h.rest;
    at = h.at;
    walk = walk_as_row h.walk;
    ends = (ap (as_row row) h.ends.0, h.ends.1);
  }

  stops_as_row : {A : Type 0} {limit : ℕ} {p : Plan (Result A FaultAt)} {k j k' j' : ℕ} {state state' : State}
      (stop : Stop) → Follows world limit p k j state k' j' state' (stop_finish stop) →
      Follows world limit (as_row row p) k j state k' j' state' (stop_finish stop)
  stops_as_row (Fault kind place) h = done_as_row h
  stops_as_row Limit h = record {
    rest = as_row row h.rest;
    at = h.at;
    walk = walk_as_row h.walk;
    ends = (step_as_row row h.rest h.ends.0, h.ends.1);
  }
  stops_as_row Device h =
      record { rest = as_row row h.rest; at = h.at; walk = walk_as_row h.walk; ends = read_as_row row h.rest h.ends }
  stops_as_row Memory h =
      record { rest = as_row row h.rest; at = h.at; walk = walk_as_row h.walk; ends = room_as_row h.at h.rest h.ends }

-- a store that doesn't pack a row packs none
packs_none : (packing : Bool) (row : Row) → (row ≡ Apart → ⊥) → (packing ≡ true → row ≡ Apart) → packing ≡ false
packs_none true row other apart = absurd (other (apart refl))
packs_none false row other apart = refl

-- their array is closed as others are
closes_alike : (world : World) (row : Row) → (packs world.room ≡ true → row ≡ Apart) → (state : State) →
    after_move world (array_move row) state ≡ after_move world Closes state
closes_alike world Apart apart state = refl
closes_alike world (Numbers width) apart state =
    let none = packs_none (packs world.room) (Numbers width) (λ e. cc) apart in rw none refl
closes_alike world (Records widths) apart state =
    let none = packs_none (packs world.room) (Records widths) (λ e. cc) apart in rw none refl
closes_alike world (Values stride) apart state =
    let none = packs_none (packs world.room) (Values stride) (λ e. cc) apart in rw none refl

-- and needs as much
close_needs : (world : World) (row : Row) → (packs world.room ≡ true → row ≡ Apart) → (state : State) →
    during_move world (array_move row) state ≡ during_move world Closes state
close_needs world Apart apart state = refl
close_needs world (Numbers width) apart state = closes_alike world (Numbers width) apart state
close_needs world (Records widths) apart state = closes_alike world (Records widths) apart state
close_needs world (Values stride) apart state = closes_alike world (Values stride) apart state

-- the plan of such an element, which is packed after that where values are
abbrev element_of : Row → Levels → Plan (Result Value FaultAt) → Plan (Result Value FaultAt)
element_of row levels p = then_packed row levels (in_row row p)

module _ {world : World} where
  -- packing changes nothing
  stays_apart : packs world.room ≡ false → (v : Value) {state : State} → HasRoom world state →
      MovesTo world (packs_value v) state state
  stays_apart none v {state} has = record {
    is = rw none refl;
    has = record {
      room = rw none has;
      light = rw none (λ adds. apart_light world.room (weight state.now) none);
    };
  }

  pub element_done : (row : Row) → (packs world.room ≡ true → row ≡ Apart) → (levels : Levels) →
      {limit : ℕ} {p : Plan (Result Value FaultAt)} {k j k' j' : ℕ} {state state' : State} {v : Value} →
      Follows world limit p k j state k' j' state' (Done (Ok v)) → HasRoom world state' →
      Follows world limit (element_of row levels p) k j state k' j' state' (Done (Ok v))
  element_done Apart apart levels h has = h
  element_done (Numbers width) apart levels h has =
      done_as_row world (packs_none (packs world.room) (Numbers width) (λ e. cc) apart) (Numbers width) h
  element_done (Records widths) apart levels h has =
      done_as_row world (packs_none (packs world.room) (Records widths) (λ e. cc) apart) (Records widths) h
  element_done (Values stride) apart levels {limit} {p} {v} h has =
      let none = packs_none (packs world.room) (Values stride) (λ e. cc) apart in
      follow_then_ok p (packs_last levels) h
      (follow_made {limit' = limit} (stays_apart none v has) refl refl (omega arith) follow_done)

  pub element_stopped : (row : Row) → (packs world.room ≡ true → row ≡ Apart) → (levels : Levels) →
      {limit : ℕ} {p : Plan (Result Value FaultAt)} {k j k' j' : ℕ} {state state' : State}
      (stop : Stop) → Follows world limit p k j state k' j' state' (stop_finish stop) →
      Follows world limit (element_of row levels p) k j state k' j' state' (stop_finish stop)
  element_stopped Apart apart levels stop h = h
  element_stopped (Numbers width) apart levels stop h =
      stops_as_row world (packs_none (packs world.room) (Numbers width) (λ e. cc) apart) (Numbers width) stop h
  element_stopped (Records widths) apart levels stop h =
      stops_as_row world (packs_none (packs world.room) (Records widths) (λ e. cc) apart) (Records widths) stop h
  element_stopped (Values stride) apart levels {p} stop h = follow_stop p (packs_last levels) stop h

module _ {world : World} (row : Row) (apart : packs world.room ≡ true → row ≡ Apart) where
  pub array_moves : {state state' : State} → MovesTo world Closes state state' →
      MovesTo world (array_move row) state state'
  array_moves {state} h =
      record {
        is = h.is ∙ sym (closes_alike world row apart state);
        has = record {
          room = rw (close_needs world row apart state) h.has.room;
          light = rw (closes_alike world row apart state) (λ adds. h.has.light (tt, adds.1));
        };
      }

  pub array_lacks : {state : State} {levels : Levels} → LacksRoom world state Closes levels →
      LacksRoom world state (array_move row) levels
  array_lacks {state} h =
      record { takes = takes_array row; least = h.least; before = refused h.before }
    where
      refused : RefusesMove world Closes state → RefusesMove world (array_move row) state
      refused (inl over) = inl (rw (close_needs world row apart state) over)
      refused (inr heavy) = inr (rw (closes_alike world row apart state) heavy)

-- ---- elements that are no numbers

-- a shape that is neither an integer's nor an offset's
pub no_scalar : (types : ℕ → PokeType) (s : Shape) → ((number : IntegerType) → s ≡ shape.Integer number → ⊥) →
    ((number : IntegerType) (unit : ℕ) → s ≡ shape.Offset number unit → ⊥) → scalar_width (open_shape types s) ≡ None
no_scalar types (shape.Integer number) no_integer no_offset = absurd (no_integer number refl)
no_scalar types (shape.Offset number unit) no_integer no_offset = absurd (no_offset number unit refl)
no_scalar types shape.String no_integer no_offset = refl
no_scalar types (shape.Array element bound) no_integer no_offset = refl
no_scalar types (shape.Struct name pinned fields) no_integer no_offset = refl
no_scalar types (shape.Integral name number fields) no_integer no_offset = refl
no_scalar types (shape.Union name alternatives) no_integer no_offset = refl

pub not_scalar : (types : ℕ → PokeType) (s : Shape) → ((number : IntegerType) → s ≡ shape.Integer number → ⊥) →
    ((number : IntegerType) (unit : ℕ) → s ≡ shape.Offset number unit → ⊥) → IsScalar (open_shape types s) → ⊥
not_scalar types (shape.Integer number) no_integer no_offset h = no_integer number refl
not_scalar types (shape.Offset number unit) no_integer no_offset h = no_offset number unit refl
not_scalar types shape.String no_integer no_offset h = h
not_scalar types (shape.Array element bound) no_integer no_offset h = h
not_scalar types (shape.Struct name pinned fields) no_integer no_offset h = h
not_scalar types (shape.Integral name number fields) no_integer no_offset h = h
not_scalar types (shape.Union name alternatives) no_integer no_offset h = h

-- a shape that is no struct's either
pub apart_shape : (types : ℕ → PokeType) (s : Shape) → ((number : IntegerType) → s ≡ shape.Integer number → ⊥) →
    ((number : IntegerType) (unit : ℕ) → s ≡ shape.Offset number unit → ⊥) →
    ((name : Option Name) (pinned : Bool) (fields : Vec Field Global) → s ≡ shape.Struct name pinned fields → ⊥) →
    ((name : Option Name) (number : IntegerType) (fields : Vec Part Global) → s ≡ shape.Integral name number fields →
    ⊥) → row_of (open_shape types s) ≡ Apart
apart_shape types (shape.Integer number) no_integer no_offset no_struct no_integral = absurd (no_integer number refl)
apart_shape types (shape.Offset number unit) no_integer no_offset no_struct no_integral =
    absurd (no_offset number unit refl)
apart_shape types shape.String no_integer no_offset no_struct no_integral = refl
apart_shape types (shape.Array element bound) no_integer no_offset no_struct no_integral = refl
apart_shape types (shape.Struct name pinned fields) no_integer no_offset no_struct no_integral =
    absurd (no_struct name pinned fields refl)
apart_shape types (shape.Integral name number fields) no_integer no_offset no_struct no_integral =
    absurd (no_integral name number fields refl)
apart_shape types (shape.Union name alternatives) no_integer no_offset no_struct no_integral = refl
