-- What the calls on a path say of a table's types, on bits, from the store before the call and the store after it.
use Rattle.std.specs.Prelude.{◌≡◌, ℕ, Bool, List, Option, Box, Result, Err}
use Rattle.std.specs.declared.alloc.Global.{Global}
use Rattle.pickle_types.specs.declared.node.Field.{Field}
use Rattle.pickle_types.specs.declared.node.Node.{Node}
use Rattle.pickle_types.specs.declared.node.Part.{Part as Alternative}
use Rattle.pickle_types.specs.declared.node.Resolved.{Resolved}
use Rattle.pickle_types.specs.Types.{Term}
use Rattle.pickle_types.specs.Table.{type_of, open_fields, open_parts, optional_term}
use Rattle.pickle_meaning.specs.declared.faults.MapFault.{MapFault}
use Rattle.pickle_meaning.specs.Clauses.{constraint, condition, field_start}
use Rattle.pickle_meaning.specs.Means.{Means}
use Rattle.pickle_meaning.specs.Values.{no_values}
use Rattle.pickle_map.specs.declared.mapper.stop.Stop.{Stop}
use Rattle.fault_location.specs.declared.checker.Checker.{Checker}
use Rattle.fault_location.specs.declared.part.Claim.{Claim}
use Rattle.fault_location.specs.declared.part.Part.{Part}
use Rattle.fault_location.specs.declared.part.Entered.{Entered}
use Rattle.fault_location.specs.declared.part.StructStart.{StructStart}
use Rattle.fault_location.specs.declared.part.TypeStart.{TypeStart}
use Rattle.fault_location.specs.declared.part.UnionStart.{UnionStart}
use Rattle.fault_location.specs.declared.site.Cut.{Cut}
use Rattle.fault_location.specs.declared.site.Inner.{Inner}
use Rattle.fault_location.specs.Frames.{frames_after, frames_of}
use Rattle.fault_location.specs.Digits.{ReachesNumber}
use Rattle.fault_location.specs.Ways.{Comes, Settled, Enters, EntersField, InPart, InType, HasFault, constraint_of, fault_of, start_type}
use Rattle.fault_parts.specs.Arises.{Path, Arises, FieldsArise, AlternativesArise, NumberArises}
use Rattle.value_store.specs.Slots.{Held, levels}

-- the fault of a type arises at the end of the path, as is claimed
abbrev pub ArisesFrom : TypeStart → Claim → (bits : List ℕ) → Type 0
ArisesFrom whole claim bits =
    Arises bits (start_type whole) whole.order no_values whole.start (fault_of claim.fault) claim.path.now

-- the constraint of a part refuses it with the fault
abbrev pub Refuses : Part → MapFault → Held → Type 0
Refuses part fault store =
    (nodes : List Node) → constraint (constraint_of part) (levels nodes store) part.inner.start ≡ Err (fault_of fault)

module _ (checker : Checker) where
  -- the fault arises in a part, with its constraint, at the end of a path
  abbrev pub PartHas : Part → MapFault → Path → (bits : List ℕ) → Type 0
  PartHas part fault path bits = InPart bits checker.nodes.now (frames_of checker) part (fault_of fault) path

  -- it arises in a type
  abbrev pub TypeHas : Inner → MapFault → Path → (bits : List ℕ) → Type 0
  TypeHas inner fault path bits = InType bits checker.nodes.now (frames_of checker) inner (fault_of fault) path

  -- a type means the fault
  abbrev pub MeansFault : Inner → MapFault → (bits : List ℕ) → Type 0
  MeansFault inner fault bits = HasFault bits checker.nodes.now (frames_of checker) inner (fault_of fault)

  -- a number that is read as a type has the fault
  abbrev pub NumberHas : Cut → MapFault → Path → Type 0
  NumberHas cut fault path =
      NumberArises (type_of checker.nodes.now cut.node) cut.digits (frames_of checker) cut.start (fault_of fault) path

module _ (old new : Checker) where
  -- a type was entered at a place
  abbrev pub EntersType : Inner → (place : ℕ) → MapFault → Entered → (bits : List ℕ) → Type 0
  EntersType inner place fault entered bits =
      Enters bits old.nodes.now (frames_after old new) place (fault_of fault)
      (InType bits old.nodes.now (frames_of old) inner (fault_of fault)) entered

  -- the fields of a struct were entered at a place
  abbrev pub EntersStruct : StructStart → List Field → (place : ℕ) → MapFault → Entered → (bits : List ℕ) → Type 0
  EntersStruct whole fields place fault entered bits =
      Enters bits old.nodes.now (frames_after old new) place (fault_of fault)
      (FieldsArise bits whole.pinned whole.start whole.order (open_fields (type_of old.nodes.now) fields)
      (frames_of old) (fault_of fault)) entered

  -- the alternatives of a union were entered at a place
  abbrev pub EntersUnion : UnionStart → List Alternative → (place : ℕ) → MapFault → Entered → (bits : List ℕ) → Type 0
  EntersUnion whole alternatives place fault entered bits =
      Enters bits old.nodes.now (frames_after old new) place (fault_of fault)
      (AlternativesArise bits whole.order (open_parts (type_of old.nodes.now) alternatives) (frames_of old) whole.start
      (fault_of fault)) entered

  -- a field was entered, after those that are absent or values
  abbrev pub EntersOne : StructStart → Field → (behind : ℕ) → MapFault → Entered → Type 0
  EntersOne whole field behind fault entered =
      EntersField old.nodes.now whole.pinned whole.start whole.order field (frames_of old) behind
      (fault_of fault) entered

  -- a type was mapped
  abbrev pub MapsType : Inner → Result ℕ Stop → (bits : List ℕ) → Type 0
  MapsType inner result bits =
      Comes (Means bits (type_of old.nodes.now inner.node) inner.order (frames_of old) inner.start)
      (frames_of old) (frames_after old new) result

  -- the fields of a number before a place were stored, and so many binary digits are left
  abbrev pub Reaches : List Alternative → (place digits width start left : ℕ) → Type 0
  Reaches fields place digits width start left =
      ReachesNumber old.nodes.now digits start fields width (frames_of old) place (frames_after old new) left

-- a constraint on the last value, and a condition, were evaluated, whatever the names of the table are
abbrev pub Checks : Option Term → Held → (place : ℕ) → Result (Unit {0}) Stop → Type 0
Checks clause store place result = (nodes : List Node) → Settled result (constraint clause (levels nodes store) place)

abbrev pub TellsThere : Option (Box Resolved Global) → Held → (start : ℕ) → Result Bool Stop → Type 0
TellsThere clause store start result =
    (nodes : List Node) → Settled result (condition (optional_term clause) (levels nodes store) start)

-- a field's start was found by its label
abbrev pub FindsStart : StructStart → Option (Box Resolved Global) → Held → (behind : ℕ) → Result ℕ Stop → Type 0
FindsStart whole label store behind result =
    (nodes : List Node) →
    Settled result (field_start whole.pinned (optional_term label) (levels nodes store) whole.start behind)
