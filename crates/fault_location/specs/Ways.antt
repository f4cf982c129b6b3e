-- What is found on a path from a type to the part of it in which a fault arises.
use Rattle.std.specs.Prelude.{◌≡◌, ℕ, ◌+◌, ◌<◌, ◌≤◌, length, Bool, List, [], ◌∷◌, Option, Some, None, Box, Result, Ok, Err, IfOk, option_copied}
use Rattle.std.specs.declared.alloc.Global.{Global}
use Rattle.bit_space.specs.Bits.{bits_of}
use Rattle.bit_space.specs.SpaceView.{SpaceView}
use Rattle.bit_space.specs.declared.meter.Meter.{Meter}
use Rattle.bit_space.specs.declared.order.Order.{Order}
use Rattle.pickle_types.specs.declared.node.Field.{Field}
use Rattle.pickle_types.specs.declared.node.Part.{Part as Alternative}
use Rattle.pickle_types.specs.declared.node.Node.{Node}
use Rattle.pickle_types.specs.declared.node.Resolved.{Resolved}
use Rattle.pickle_types.specs.Types.{PokeType, Term, Fields, FieldThen, Parts, PartThen, depth}
use Rattle.pickle_types.specs.Sound.{IsSoundClause}
use Rattle.pickle_types.specs.Table.{type_of, optional_term, name_of}
use Rattle.pickle_types.specs.TypeTable.{type_named}
use Rattle.pickle_meaning.specs.declared.faults.MapFault.{MapFault}
use Rattle.pickle_map.specs.declared.mapper.stop.Stop.{Stop}
use Rattle.pickle_map.specs.Mappable.{IsPartOf}
use Rattle.pickle_map.specs.declared.mapper.stop.Stop.TheVariants.{Fault, Limit, Device, Memory}
use Rattle.pickle_meaning.specs.Values.{Value, end_of, Levels, pushed}
use Rattle.pickle_meaning.specs.Clauses.{FaultAt}
use Rattle.pickle_meaning.specs.Means.{Means}
use Rattle.fault_parts.specs.Somehow.{Somehow}
use Rattle.fault_parts.specs.Arises.{Path, FieldsBefore, MissesBefore, Arises, PartArises, FieldsArise, AlternativesArise}
use Rattle.fault_location.specs.declared.part.Part.{Part}
use Rattle.fault_location.specs.declared.part.Entered.{Entered}
use Rattle.fault_location.specs.declared.part.Entered.TheVariants as entered
use Rattle.fault_location.specs.declared.part.TypeStart.{TypeStart}
use Rattle.fault_location.specs.declared.site.Inner.{Inner}

-- a fact about the bits of a space, where its bytes are known
abbrev pub OnBits : SpaceView → (List ℕ → Type 0) → Type 0
OnBits space P = (bytes : List ℕ) → space.bytes ≡ Some bytes → P (bits_of bytes)

-- the same of what a call found
abbrev pub IfFound : {A E : Type 0} → SpaceView → (A → List ℕ → Type 0) → Result A E → Type 0
IfFound space P result = IfOk result (λ found. OnBits space (P found))

-- what each call leaves of the space and of the meter as it was
pub record Leaves (space space' : SpaceView) (meter meter' : Meter) : Type 0 where
  pub limit : meter'.limit ≡ meter.limit
  pub len : space'.len ≡ space.len
  pub bytes : space'.bytes ≡ space.bytes
  pub failures : space.failures ≤ space'.failures

-- a meaning: outcomes with their steps and values made
abbrev pub Meaning : Type 1
Meaning = Result Value FaultAt → (steps made : ℕ) → Type 0

-- one more value was stored, which is meant and ends at a bit
pub record KeepsMeant (Says : Meaning) (levels levels' : Levels) (end : ℕ) : Type 0 where
  pub value : Value
  pub keeps : levels' ≡ pushed levels (Some value)
  pub ends : end_of value ≡ end
  pub means : Somehow (Says (Ok value))

-- a call stored the value that is meant, or stopped with the fault that is meant, or was ended by the run
abbrev pub Comes : Meaning → (levels levels' : Levels) → Result ℕ Stop → Type 0
Comes Says levels levels' (Ok end) = KeepsMeant Says levels levels' end
Comes Says levels levels' (Err (Fault kind place)) = Somehow (Says (Err (kind, place)))
Comes Says levels levels' (Err Limit) = Unit {0}
Comes Says levels levels' (Err Device) = Unit {0}
Comes Says levels levels' (Err Memory) = Unit {0}

-- a clause has its outcome, or is ended by the run
abbrev pub Settled : {A : Type 0} → Result A Stop → Result A FaultAt → Type 0
Settled (Ok x) o = o ≡ Ok x
Settled (Err (Fault kind place)) o = o ≡ Err (kind, place)
Settled (Err Limit) o = Unit {0}
Settled (Err Device) o = Unit {0}
Settled (Err Memory) o = Unit {0}

abbrev pub fault_of : MapFault → FaultAt
fault_of told = (told.kind, told.at)

-- the type of a table that is mapped from a bit on
abbrev pub start_type : TypeStart → PokeType
start_type whole = type_named whole.table.now whole.id

-- the constraint of a part, as a term
abbrev pub beside : Option (Option (Box Resolved Global)) → Option Term
beside None = None
beside (Some clause) = optional_term clause

abbrev pub constraint_of : Part → Option Term
constraint_of part = beside (option_copied part.constraint)

-- a part of a type in a table, where so many frames are open
pub record IsPart (nodes : List Node) (levels : ℕ) (part : Part) : Type 0 where
  pub inside : part.inner.node < length nodes
  pub deep : levels + depth (type_of nodes part.inner.node) ≤ 65
  pub sound : IsSoundClause (constraint_of part)

-- a field of a table, and fields after it
abbrev pub field_then : List Node → Field → Fields → Fields
field_then nodes f rest =
    FieldThen (name_of f.name) f.order (type_of nodes f.node) (optional_term f.constraint) (optional_term f.label)
    (optional_term f.condition) rest

-- an alternative of a table, or a field of an integral struct, and others after it
abbrev pub part_then : List Node → Alternative → Parts → Parts
part_then nodes p rest = PartThen (name_of p.name) p.order (type_of nodes p.node) (optional_term p.constraint) rest

-- a field was passed: those before it and it are absent or values
abbrev pub PassesField : List ℕ → List Node → (pinned : Bool) → (s : ℕ) → Order → Field → (levels levels' : Levels) →
    (behind behind' : ℕ) → Type 0
PassesField bits nodes pinned s order f levels levels' behind behind' =
    (fields rest : Fields) (first : Levels) (i : ℕ)
    → FieldsBefore bits pinned s order fields first i (field_then nodes f rest) levels behind
    → FieldsBefore bits pinned s order fields first (i + 1) rest levels' behind'

-- the fault arises in a part, with its constraint, at the end of a path
abbrev pub InPart : List ℕ → List Node → Levels → Part → FaultAt → Path → Type 0
InPart bits nodes levels part f path =
    PartArises bits (type_of nodes part.inner.node) (constraint_of part) part.inner.order levels part.inner.start f path

-- the fault arises at the end of a path in the type itself
abbrev pub InType : List ℕ → List Node → Levels → Inner → FaultAt → Path → Type 0
InType bits nodes levels inner f path = Arises bits (type_of nodes inner.node) inner.order levels inner.start f path

-- the type means the fault
abbrev pub HasFault : List ℕ → List Node → Levels → Inner → FaultAt → Type 0
HasFault bits nodes levels inner f =
    Somehow (Means bits (type_of nodes inner.node) inner.order levels inner.start (Err f))

-- What one step of a path found: the goal follows for each path on from here where the fault arises in the entered
-- part, or for this place alone.
abbrev pub Enters : List ℕ → List Node → Levels → (place : ℕ) → FaultAt → (Path → Type 0) → Entered → Type 0
Enters bits nodes levels place f Goal (entered.Part next) =
    (path : Path) → InPart bits nodes levels next f path → Goal (place ∷ path)
Enters bits nodes levels place f Goal entered.There = Goal (place ∷ [])
Enters bits nodes levels place f Goal entered.Nowhere = Unit {0}

-- the entered part may be mapped
abbrev pub GoesOn : List Node → (levels : ℕ) → Entered → Type 0
GoesOn nodes levels (entered.Part next) = IsPart nodes levels next
GoesOn nodes levels entered.There = Unit {0}
GoesOn nodes levels entered.Nowhere = Unit {0}

-- it may be, where the alternative may be mapped
abbrev pub GoesOnAs : Alternative → Entered → Type 0
GoesOnAs p entered = (nodes : List Node) (levels : ℕ) → IsPartOf nodes levels p → GoesOn nodes levels entered

-- a field was entered, after i fields that are absent or values
abbrev pub EntersField : List Node → (pinned : Bool) → (s : ℕ) → Order → Field → Levels → (behind : ℕ) →
    FaultAt → Entered → Type 0
EntersField nodes pinned s order f levels behind fault entered =
    (bits : List ℕ) (fields rest : Fields) (first : Levels) (i : ℕ)
    → FieldsBefore bits pinned s order fields first i (field_then nodes f rest) levels behind
    → Enters bits nodes levels i fault (FieldsArise bits pinned s order fields first fault) entered

-- an alternative doesn't match
abbrev pub Misses : List ℕ → List Node → Alternative → Order → Levels → (s : ℕ) → Type 0
Misses bits nodes p order levels s =
    (alternatives rest : Parts) (i : ℕ) → MissesBefore bits order alternatives levels s i (part_then nodes p rest)
    → MissesBefore bits order alternatives levels s (i + 1) rest

-- an alternative was entered, after i that don't match
abbrev pub EntersAlternative : Order → Alternative → (s : ℕ) → FaultAt → Entered → Type 0
EntersAlternative order p s fault entered =
    (bits : List ℕ) (nodes : List Node) (levels : Levels) (alternatives rest : Parts) (i : ℕ)
    → MissesBefore bits order alternatives levels s i (part_then nodes p rest)
    → Enters bits nodes levels i fault (AlternativesArise bits order alternatives levels s fault) entered

-- a stop is the fault
abbrev pub IsFault : Stop → MapFault → Type 0
IsFault stop fault = stop ≡ Fault fault.kind fault.at

-- a stop is the fault, where the result says that the fault arises there
abbrev pub IsThere : Stop → MapFault → Entered → Type 0
IsThere stop fault (entered.Part next) = ⊥
IsThere stop fault entered.There = IsFault stop fault
IsThere stop fault entered.Nowhere = Unit {0}
