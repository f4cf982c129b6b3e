-- What calls on the way to a list leave as it was, and what they find.
use Rattle.std.specs.Prelude.{◌≡◌, ℕ, zero, suc, ◌+◌, ◌*◌, ◌<◌, ◌≤◌, max, Bool, true, List, ◌∷◌, Option, Some, None, Result, Ok, Err}
use Rattle.bit_space.specs.Bits.{bits_of}
use Rattle.bit_space.specs.SpaceView.{SpaceView, HasRisen}
use Rattle.bit_space.specs.declared.order.Order.{Order}
use Rattle.pickle_types.specs.declared.node.Field.{Field}
use Rattle.pickle_types.specs.declared.node.Node.{Node}
use Rattle.pickle_types.specs.Types.{Fields, PokeType}
use Rattle.pickle_types.specs.Table.{type_of}
use Rattle.pickle_meaning.specs.Clauses.{FaultAt}
use Rattle.pickle_meaning.specs.Values.{Value, Levels, end_of, pushed, opened}
use Rattle.pickle_map.specs.AtWork.{StaysLent}
use Rattle.pickle_map.specs.declared.mapper.state.Mapper.{Mapper}
use Rattle.pickle_map.specs.declared.mapper.stop.Stop.{Stop}
use Rattle.pickle_map.specs.declared.mapper.stop.Stop.TheVariants as stop
use Rattle.pickle_map.specs.Mappable.{IsFieldOf}
use Rattle.value_store.specs.Slots.{KeepsRoom, levels, level_count}
use Rattle.fault_location.specs.declared.part.StructStart.{StructStart}
use Rattle.fault_location.specs.Sites.{MayEnter}
use Rattle.fault_location.specs.Ways.{Leaves, field_then}
use Rattle.inner_lists.specs.declared.place.ListPlace.{ListPlace}
use Rattle.inner_lists.specs.declared.place.Stage.{Stage}
use Rattle.list_laws.specs.Meanings.{AreBytes, IsMeant, Meaning, SpaceBytes, bytes_in, meaning_in}
use Rattle.list_laws.specs.Paths.{Path, is_list, is_list_in}
use Rattle.list_laws.specs.Reaches.{Faulty, Found, Lacking, Listed, Reached, Reaches, ReachesIn}

-- ---- what stays

-- the mapper still has what it borrowed; the space, the meter's limit and the store's capacity stay
pub record Frame {W : Type 0} (space space' : SpaceView) (old new : Mapper W) : Type 0 where
  pub lent : StaysLent old new
  pub left : Leaves space space' old.meter.now new.meter.now
  pub room : KeepsRoom old.store.now new.store.now

-- the same in a call that stores nothing and reads nothing
pub record LookFrame {W : Type 0} (old new : Mapper W) : Type 0 where
  pub lent : StaysLent old new
  pub limit : new.meter.now.limit ≡ old.meter.now.limit
  pub same : new.store.now ≡ old.store.now

-- the frames of the store
abbrev pub frames_of : {W : Type 0} → Mapper W → Levels
frames_of mapper = levels mapper.nodes.now mapper.store.now

-- a type may be mapped, and so may a field of a struct whose frame is open
abbrev pub MayMap : {W : Type 0} → Mapper W → (node : ℕ) → Type 0
MayMap mapper node = MayEnter mapper.nodes.now (level_count mapper.store.now) node

abbrev pub IsFieldIn : {W : Type 0} → Mapper W → Field → Type 0
IsFieldIn mapper = IsFieldOf mapper.nodes.now (level_count mapper.store.now)

-- ---- what is found

-- a claim about an outcome and its steps, by what types mean
abbrev pub Claim : Type 0 → Type 1
Claim R = Meaning → R → (steps : ℕ) → Type 0

-- the claim holds of this outcome in a space, with the steps from one count of the meter to another
pub record Comes {R : Type 0} (space : SpaceBytes) (claim : Claim R) (before after : ℕ) (r : R) : Type 0 where
  pub steps : ℕ
  pub taken : after ≡ before + steps
  pub holds : (known : Option (List ℕ)) → AreBytes space known → claim (meaning_in space known) r steps

-- on these bits the claim holds of an outcome that takes more steps than are left
pub record Exceeds {R : Type 0} (claim : Claim R) (limit before : ℕ) (bits : List ℕ) : Type 0 where
  pub outcome : R
  pub steps : ℕ
  pub holds : claim (IsMeant bits) outcome steps
  pub more : limit < before + steps

-- the limit was reached, and where the bytes are known, an outcome takes more steps than are left
pub record RunsOut {R : Type 0} (space : SpaceBytes) (claim : Claim R) (limit before after : ℕ) : Type 0 where
  pub all : after ≡ limit
  pub exceeds : (bytes : List ℕ) → space.bytes ≡ Some bytes → Exceeds claim limit before (bits_of bytes)

-- Why a call stopped: by the fault that is claimed, with too few steps left, by a read that failed, of which `Device`
-- says what it means, or by an allocation failure.
abbrev pub StopsAt : {R : Type 0} → SpaceBytes → (Device : Type 0) → Claim R → (fault : FaultAt → R) →
    (limit before after : ℕ) → Stop → Type 0
StopsAt space Device claim fault limit before after (stop.Fault kind place) =
    Comes space claim before after (fault (kind, place))
StopsAt space Device claim fault limit before after stop.Limit = RunsOut space claim limit before after
StopsAt space Device claim fault limit before after stop.Device = Device
StopsAt space Device claim fault limit before after stop.Memory = Unit {0}

-- a type was mapped into the innermost of some frames
pub record Keeps (space : SpaceBytes) (claim : Claim (Result Value FaultAt)) (before after : ℕ)
    (levels levels' : Levels) (end : ℕ) : Type 0 where
  pub value : Value
  pub kept : levels' ≡ pushed levels (Some value)
  pub ends : end_of value ≡ end
  pub comes : Comes space claim before after (Ok value)

-- what one claim says after some steps, another says from before them
pub record Leads {R : Type 0} (space : SpaceBytes) (inner outer : Claim R) (before after : ℕ) : Type 0 where
  pub steps : ℕ
  pub taken : after ≡ before + steps
  pub leads : (known : Option (List ℕ)) → AreBytes space known → (r : R) (k : ℕ)
      → inner (meaning_in space known) r k → outer (meaning_in space known) r (steps + k)

-- ---- claims

-- what a type is beside frames
abbrev pub maps_at : PokeType → Order → Levels → (start : ℕ) → Claim (Result Value FaultAt)
maps_at ty order levels start = λ M r k. M ty order levels start r k

-- what a path from a type leads to, and from the fields of a struct
abbrev pub reaches_from : {W : Type 0} → SpaceBytes → Mapper W → Stage → Path → Claim Reached
reaches_from space mapper stage path = λ M r k.
    Reaches (8 * space.len) M (type_of mapper.nodes.now stage.node) path stage.order (frames_of mapper) stage.start
    stage.top r k

abbrev pub reaches_in : {W : Type 0} → SpaceBytes → Mapper W → StructStart → Fields → (place : ℕ) → Path →
    (behind top : ℕ) → Claim Reached
reaches_in space mapper whole fields place path behind top = λ M r k.
    ReachesIn (8 * space.len) M whole.pinned whole.start fields place path whole.order (frames_of mapper) behind top r k

-- ---- paths

-- some path that goes on at a place of a type, or of a struct's fields, leads to a list
pub record LeadsOn (ty : PokeType) (place : ℕ) : Type 0 where
  pub path : Path
  pub list : is_list ty (place ∷ path) ≡ true

pub record LeadsOnIn (fields : Fields) (place : ℕ) : Type 0 where
  pub path : Path
  pub list : is_list_in fields place path ≡ true

-- a stage may be mapped, and the paths of a kind go on in it
pub record IsStage {W : Type 0} (space : SpaceView) (mapper : Mapper W) (IsPath : Path → Bool) (stage : Stage) :
    Type 0 where
  pub may : MayMap mapper stage.node
  pub inside : stage.top ≤ 8 * space.len
  pub list : (path : Path) → IsPath path ≡ true → is_list (type_of mapper.nodes.now stage.node) path ≡ true

abbrev pub GoesOn : {W : Type 0} → SpaceView → Mapper W → (IsPath : Path → Bool) → Option Stage → Type 0
GoesOn space mapper IsPath None = Unit {0}
GoesOn space mapper IsPath (Some stage) = IsStage space mapper IsPath stage

-- the stage of a field
abbrev pub IsStageOf : Field → (top : ℕ) → Option Stage → Type 0
IsStageOf field top None = Unit {0}
IsStageOf field top (Some stage) = (stage.node ≡ field.node) × (stage.top ≡ top)

-- ---- fields that are passed

-- after a field that ends at a bit or is absent: the end of the last present field, and the greatest end
abbrev pub passed_end : (behind : ℕ) → Option ℕ → ℕ
passed_end behind None = behind
passed_end behind (Some end) = end

abbrev pub passed_top : (top : ℕ) → Option ℕ → ℕ
passed_top top None = top
passed_top top (Some end) = max top end

-- it ends in the space
abbrev pub EndsIn : SpaceView → Option ℕ → Type 0
EndsIn space None = Unit {0}
EndsIn space (Some end) = end ≤ 8 * space.len

-- ---- lists

abbrev pub listed : List Node → Levels → ListPlace → Listed
listed nodes levels list = record {
  element = type_of nodes list.element;
  order = list.order;
  start = list.start;
  extent = list.extent;
  levels = levels;
  top = list.top;
}

-- the next type on the paths of a kind was found, or it is absent
abbrev pub Enters : {W : Type 0} → SpaceBytes → (limit before : ℕ) → (new : Mapper W) → (Device : Type 0) →
    (IsPath : Path → Bool) → (Path → Claim Reached) → Result (Option Stage) Stop → Type 0
Enters space limit before new Device IsPath outer (Ok (Some next)) =
    (path : Path) → Leads space (reaches_from space new next path) (outer path) before new.meter.now.steps
Enters space limit before new Device IsPath outer (Ok None) =
    (path : Path) → Comes space (outer path) before new.meter.now.steps Lacking
Enters space limit before new Device IsPath outer (Err stopped) =
    (path : Path) → IsPath path ≡ true →
    StopsAt space Device (outer path) Faulty limit before new.meter.now.steps stopped

module _ {W : Type 0} (space : SpaceBytes) (old new : Mapper W) where
  abbrev pub ComesTo : {R : Type 0} → Claim R → R → Type 0
  ComesTo claim r = Comes space claim old.meter.now.steps new.meter.now.steps r

  abbrev pub LeadsFrom : {R : Type 0} → (inner outer : Claim R) → Type 0
  LeadsFrom inner outer = Leads space inner outer old.meter.now.steps new.meter.now.steps

  abbrev pub Stops : {R : Type 0} → (Device : Type 0) → Claim R → (fault : FaultAt → R) → Stop → Type 0
  Stops Device claim fault stopped =
      StopsAt space Device claim fault old.meter.now.limit old.meter.now.steps new.meter.now.steps stopped

  abbrev pub KeepsOrStops : (Device : Type 0) → Levels → Claim (Result Value FaultAt) → Result ℕ Stop → Type 0
  KeepsOrStops Device levels claim (Ok end) =
      Keeps space claim old.meter.now.steps new.meter.now.steps levels (frames_of new) end
  KeepsOrStops Device levels claim (Err stopped) = Stops Device claim (λ f. Err f) stopped

  -- a field was passed
  abbrev pub Passes : (Device : Type 0) → StructStart → Field → (behind : ℕ) → Result (Option ℕ) Stop → Type 0
  Passes Device whole field behind (Ok end) =
      (rest : Fields) (place : ℕ) (path : Path) (top : ℕ) →
      LeadsFrom (reaches_in space new whole rest place path (passed_end behind end) (passed_top top end))
      (reaches_in space old whole (field_then old.nodes.now field rest) (suc place) path behind top)
  Passes Device whole field behind (Err stopped) =
      (rest : Fields) (place : ℕ) (path : Path) (top : ℕ) → is_list_in rest place path ≡ true →
      Stops Device (reaches_in space old whole (field_then old.nodes.now field rest) (suc place) path behind top)
      Faulty stopped

  -- it was entered through a field
  abbrev pub Starts : StructStart → Field → (behind top : ℕ) → Result (Option Stage) Stop → Type 0
  Starts whole field behind top result = (rest : Fields) →
      Enters space old.meter.now.limit old.meter.now.steps new ⊥ (is_list (type_of old.nodes.now field.node))
      (λ path. reaches_in space old whole (field_then old.nodes.now field rest) zero path behind top) result

  -- a list was reached, whose frame is open
  pub record Opens (claim : Claim Reached) (list : ListPlace) : Type 0 where
    pub around : Levels
    pub frames : frames_of new ≡ opened around
    pub comes : ComesTo claim (Found (listed old.nodes.now around list))
    pub element : MayMap new list.element
    pub inside : list.start ≤ 8 * space.len
    pub top : list.top ≤ 8 * space.len

  abbrev pub Reaching : (Device : Type 0) → Claim Reached → Result (Option ListPlace) Stop → Type 0
  Reaching Device claim (Ok (Some list)) = Opens claim list
  Reaching Device claim (Ok None) = ComesTo claim Lacking
  Reaching Device claim (Err stopped) = Stops Device claim Faulty stopped

-- the same of calls that read a space between two of its views
module _ {W : Type 0} (space space' : SpaceView) (old new : Mapper W) where
  abbrev pub MapsBeside : Levels → (node : ℕ) → Order → (start : ℕ) → Result ℕ Stop → Type 0
  MapsBeside levels node order start result =
      KeepsOrStops (bytes_in space) old new (HasRisen space.failures space'.failures) levels
      (maps_at (type_of old.nodes.now node) order levels start) result

  abbrev pub PassesField : StructStart → Field → (behind : ℕ) → Result (Option ℕ) Stop → Type 0
  PassesField whole field behind result =
      Passes (bytes_in space) old new (HasRisen space.failures space'.failures) whole field behind result

  abbrev pub EntersType : Stage → (place : ℕ) → Result (Option Stage) Stop → Type 0
  EntersType stage place result =
      Enters (bytes_in space) old.meter.now.limit old.meter.now.steps new (HasRisen space.failures space'.failures)
      (λ path. is_list (type_of old.nodes.now stage.node) (place ∷ path))
      (λ path. reaches_from (bytes_in space) old stage (place ∷ path)) result

  abbrev pub EntersFields : StructStart → Fields → (place top : ℕ) → Result (Option Stage) Stop → Type 0
  EntersFields whole fields place top result =
      Enters (bytes_in space) old.meter.now.limit old.meter.now.steps new (HasRisen space.failures space'.failures)
      (is_list_in fields place)
      (λ path. reaches_in (bytes_in space) old whole fields place path whole.start top) result

  abbrev pub ReachesList : Stage → Path → Result (Option ListPlace) Stop → Type 0
  ReachesList stage path result =
      Reaching (bytes_in space) old new (HasRisen space.failures space'.failures)
      (reaches_from (bytes_in space) old stage path) result
