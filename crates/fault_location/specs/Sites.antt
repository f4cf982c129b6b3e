-- Where the fault of a type arises, as it is found step by step.
use Rattle.std.specs.Prelude.{◌≡◌, ℕ, ◌+◌, ◌<◌, ◌≤◌, ◌^◌, length, suc, Bool, List, [], ◌∷◌, ◌++◌, Option, Some, Ok, Err}
use Rattle.bit_space.specs.declared.order.Order.{Order}
use Rattle.bit_space.specs.SpaceView.{SpaceView}
use Rattle.pickle_types.specs.declared.node.Field.{Field}
use Rattle.pickle_types.specs.declared.node.Node.{Node}
use Rattle.pickle_types.specs.declared.node.Part.{Part as Alternative}
use Rattle.pickle_types.specs.declared.integer.IntegerType.{IntegerType}
use Rattle.pickle_meaning.specs.Numbers.{number_at}
use Rattle.pickle_types.specs.Types.{Term, PokeType, ArrayOf, Fields, Parts, depth}
use Rattle.pickle_types.specs.Table.{type_of, open_fields, open_parts, bound_of}
use Rattle.pickle_meaning.specs.Values.{Value, end_of, Levels, pushed, no_values}
use Rattle.pickle_meaning.specs.Clauses.{FaultAt, constraint}
use Rattle.pickle_meaning.specs.Means.{ordered, Means, NumberMeans}
use Rattle.pickle_map.specs.declared.mapper.stop.Stop.{Stop}
use Rattle.pickle_map.specs.declared.mapper.stop.Stop.TheVariants as stop
use Rattle.mapping_plans.specs.Mapping.{plan}
use Rattle.mapping_plans.specs.Plan.{result_of}
use Rattle.value_store.specs.Slots.{Held, levels, level_count}
use Rattle.fault_parts.specs.Arises.{Path, Arises}
use Rattle.fault_parts.specs.Paths.{path_of, number_path, fields_path, alternatives_path, elements_path, digits_path}
use Rattle.fault_parts.specs.Somehow.{Somehow}
use Rattle.fault_location.specs.declared.checker.Checker.{Checker}
use Rattle.fault_location.specs.declared.part.Array.{Array}
use Rattle.fault_location.specs.declared.part.Elements.{Elements}
use Rattle.fault_location.specs.declared.part.Part.{Part}
use Rattle.fault_location.specs.declared.part.StructStart.{StructStart}
use Rattle.fault_location.specs.declared.part.TypeStart.{TypeStart}
use Rattle.fault_location.specs.declared.part.UnionStart.{UnionStart}
use Rattle.fault_location.specs.declared.site.Attempt.{Attempt}
use Rattle.fault_location.specs.declared.site.Attempt.TheVariants as attempt
use Rattle.fault_location.specs.declared.site.Cut.{Cut}
use Rattle.fault_location.specs.declared.site.Digits.{Digits}
use Rattle.fault_location.specs.declared.site.Digits.TheVariants as digits
use Rattle.fault_location.specs.declared.site.Inner.{Inner}
use Rattle.fault_location.specs.declared.site.Site.{Site}
use Rattle.fault_location.specs.declared.site.Site.TheVariants as site
use Rattle.fault_location.specs.declared.site.Tried.{Tried}
use Rattle.fault_location.specs.declared.site.Tried.TheVariants as tried
use Rattle.fault_location.specs.Frames.{frames_after, frames_of}
use Rattle.fault_location.specs.Digits.{KeepsNumber, PassesNumber, RefusesNumber}
use Rattle.fault_location.specs.Ways.{OnBits, PassesField, Misses, constraint_of, fault_of, field_then, part_then, start_type}

-- if a type means a fault on these bits, it arises at the end of the path
abbrev pub FindsPart : TypeStart → Path → (bits : List ℕ) → Type 0
FindsPart whole path bits =
    (f : FaultAt) → Somehow (Means bits (start_type whole) whole.order no_values whole.start (Err f)) →
    Arises bits (start_type whole) whole.order no_values whole.start f path

-- the path from a part to where its fault arises, and from a number
abbrev pub path_in : (bits : List ℕ) → List Node → Levels → Inner → Path
path_in bits nodes levels part = path_of bits (type_of nodes part.node) part.order levels part.start

abbrev pub path_cut : List Node → Levels → Cut → Path
path_cut nodes levels cut = number_path (type_of nodes cut.node) cut.digits levels cut.start

-- the path from the elements of an array to where a fault among them arises
abbrev pub path_among : (bits : List ℕ) → List Node → Levels → Elements → Path
path_among bits nodes levels all =
    elements_path (λ inside p. result_of bits (plan (length bits) (type_of nodes all.element) all.order inside p))
    (path_of bits (type_of nodes all.element) all.order)
    (length bits) all.start all.extent (suc (length bits)) 0 levels all.start

-- how a path begins: with nothing, with a place alone, or with a place and the path from its part
abbrev pub IsSite : (bits : List ℕ) → List Node → Levels → Path → Site → Type 0
IsSite bits nodes levels path site.Itself = path ≡ []
IsSite bits nodes levels path (site.Beside place) = path ≡ place ∷ []
IsSite bits nodes levels path (site.Inside place part) = path ≡ place ∷ path_in bits nodes levels part
IsSite bits nodes levels path (site.Number cut) = path ≡ path_cut nodes levels cut

abbrev pub AreDigits : List Node → Levels → Path → Digits → Type 0
AreDigits nodes levels path digits.Itself = path ≡ []
AreDigits nodes levels path (digits.Beside place) = path ≡ place ∷ []
AreDigits nodes levels path (digits.Inside place cut) = path ≡ place ∷ path_cut nodes levels cut

-- a type of a table may be mapped, where so many frames are open
pub record MayEnter (nodes : List Node) (levels node : ℕ) : Type 0 where
  pub inside : node < length nodes
  pub deep : levels + depth (type_of nodes node) ≤ 65

abbrev pub MayGoOn : List Node → (levels : ℕ) → Site → Type 0
MayGoOn nodes levels site.Itself = Unit {0}
MayGoOn nodes levels (site.Beside place) = Unit {0}
MayGoOn nodes levels (site.Inside place part) = MayEnter nodes levels part.node
MayGoOn nodes levels (site.Number cut) = MayEnter nodes levels cut.node × (cut.start < 2 ^ 63)

-- the part that was found has a frame of its own
abbrev pub HasFrame : (store store' : Held) → Site → Type 0
HasFrame store store' site.Itself = Unit {0}
HasFrame store store' (site.Beside place) = Unit {0}
HasFrame store store' (site.Inside place part) = level_count store' ≡ level_count store + 1
HasFrame store store' (site.Number cut) = Unit {0}

abbrev pub DigitsGoOn : List Node → (levels start : ℕ) → Digits → Type 0
DigitsGoOn nodes levels start digits.Itself = Unit {0}
DigitsGoOn nodes levels start (digits.Beside place) = Unit {0}
DigitsGoOn nodes levels start (digits.Inside place cut) = MayEnter nodes levels cut.node × (cut.start ≡ start)

-- ---- a part and its constraint

-- it is a value whose constraint holds
pub record IsPassed (bits : List ℕ) (ty : PokeType) (c : Option Term) (order : Order) (levels levels' : Levels)
    (s end : ℕ) : Type 0 where
  pub value : Value
  pub means : Somehow (Means bits ty order levels s (Ok value))
  pub holds : constraint c (pushed levels (Some value)) s ≡ Ok tt
  pub keeps : levels' ≡ pushed levels (Some value)
  pub ends : end_of value ≡ end

-- it is a value whose constraint has a fault
pub record IsRefused (bits : List ℕ) (ty : PokeType) (c : Option Term) (order : Order) (levels : Levels) (s : ℕ)
    (f : FaultAt) : Type 0 where
  pub value : Value
  pub means : Somehow (Means bits ty order levels s (Ok value))
  pub refused : constraint c (pushed levels (Some value)) s ≡ Err f

-- its type has a fault
pub record IsFaulty (bits : List ℕ) (ty : PokeType) (order : Order) (levels levels' : Levels) (s at : ℕ)
    (f : FaultAt) : Type 0 where
  pub means : Somehow (Means bits ty order levels s (Err f))
  pub keeps : levels' ≡ levels
  pub there : at ≡ s

abbrev pub TriesAs : (bits : List ℕ) → PokeType → Option Term → Order → (levels levels' : Levels) →
    (s : ℕ) → Tried → Type 0
TriesAs bits ty c order levels levels' s (tried.Passed end) = IsPassed bits ty c order levels levels' s end
TriesAs bits ty c order levels levels' s (tried.Beside fault) = IsRefused bits ty c order levels s (fault_of fault)
TriesAs bits ty c order levels levels' s (tried.Inside at fault) =
    IsFaulty bits ty order levels levels' s at (fault_of fault)

-- ---- a field

-- a field is passed; or the path of the fields from it on leads to it, or into it
abbrev pub TriesFieldAs : (bits : List ℕ) → List Node → (pinned : Bool) → (s : ℕ) → Order → Field →
    (levels levels' : Levels) → (behind : ℕ) → Tried → Type 0
TriesFieldAs bits nodes pinned s order f levels levels' behind (tried.Passed end) =
    PassesField bits nodes pinned s order f levels levels' behind end
TriesFieldAs bits nodes pinned s order f levels levels' behind (tried.Beside fault) =
    (rest : Fields) → fields_path bits pinned s (field_then nodes f rest) order levels behind ≡ 0 ∷ []
TriesFieldAs bits nodes pinned s order f levels levels' behind (tried.Inside at fault) =
    (rest : Fields) → fields_path bits pinned s (field_then nodes f rest) order levels behind
    ≡ 0 ∷ path_of bits (type_of nodes f.node) (ordered f.order order) levels' at

-- ---- an alternative

-- it fits, or doesn't match; or the path of the alternatives from it on leads to it, or into it
abbrev pub TriesAlternativeAs : (bits : List ℕ) → List Node → Alternative → Order → (levels levels' : Levels) →
    (s : ℕ) → Attempt → Type 0
TriesAlternativeAs bits nodes p order levels levels' s attempt.Fits =
    (rest : Parts) → alternatives_path bits (part_then nodes p rest) order levels s ≡ []
TriesAlternativeAs bits nodes p order levels levels' s attempt.Misses = Misses bits nodes p order levels s
TriesAlternativeAs bits nodes p order levels levels' s attempt.Beside =
    (rest : Parts) → alternatives_path bits (part_then nodes p rest) order levels s ≡ 0 ∷ []
TriesAlternativeAs bits nodes p order levels levels' s attempt.Inside =
    (rest : Parts) → alternatives_path bits (part_then nodes p rest) order levels s
    ≡ 0 ∷ path_of bits (type_of nodes p.node) (ordered p.order order) levels' s

-- an alternative that doesn't match leaves its frame as it was
abbrev pub LeavesFrame : (levels levels' : Levels) → Attempt → Type 0
LeavesFrame levels levels' attempt.Fits = Unit {0}
LeavesFrame levels levels' attempt.Misses = levels' ≡ levels
LeavesFrame levels levels' attempt.Beside = Unit {0}
LeavesFrame levels levels' attempt.Inside = Unit {0}

-- ---- a field of an integral struct

-- a number stopped: with the fault that it means, and the frames as they were
abbrev pub StopsNumber : PokeType → (n s : ℕ) → (levels levels' : Levels) → Stop → Type 0
StopsNumber ty n s levels levels' (stop.Fault kind place) =
    Somehow (NumberMeans ty n levels s (Err (kind, place))) × (levels' ≡ levels)
StopsNumber ty n s levels levels' stop.Limit = Unit {0}
StopsNumber ty n s levels levels' stop.Device = Unit {0}
StopsNumber ty n s levels levels' stop.Memory = Unit {0}

-- it is stored, and its constraint holds; or its constraint or its number has a fault
abbrev pub TriesDigitsAs : List Node → (n s : ℕ) → Alternative → (levels levels' : Levels) → Tried → Type 0
TriesDigitsAs nodes n s p levels levels' (tried.Passed end) = PassesNumber nodes n s p levels levels'
TriesDigitsAs nodes n s p levels levels' (tried.Beside fault) = RefusesNumber nodes n s p levels (fault_of fault)
TriesDigitsAs nodes n s p levels levels' (tried.Inside at fault) =
    Somehow (NumberMeans (type_of nodes p.node) n levels s (Err (fault_of fault))) × (levels' ≡ levels)

-- ---- an integral struct as a number

-- it ends past the last bit, or is the number of its bits
abbrev pub ReadsSite : Inner → IntegerType → Site → (bits : List ℕ) → Type 0
ReadsSite whole number site.Itself bits = length bits < whole.start + number.width
ReadsSite whole number (site.Beside place) bits = ⊥
ReadsSite whole number (site.Inside place inner) bits = ⊥
ReadsSite whole number (site.Number cut) bits =
    (whole.start + number.width ≤ length bits) × (cut.digits ≡ number_at bits whole.order whole.start number.width)

-- that number is read as that type, and starts below 2^63
abbrev pub IsSmallSite : Inner → Site → Type 0
IsSmallSite whole site.Itself = Unit {0}
IsSmallSite whole (site.Beside place) = ⊥
IsSmallSite whole (site.Inside place inner) = ⊥
IsSmallSite whole (site.Number cut) = (cut.node ≡ whole.node) × (cut.start ≡ whole.start) × (cut.start < 2 ^ 63)

-- ---- what the calls say, from the state of the checker before the call and after it

-- a path grew by the path to where the fault of a type arises
abbrev pub GoesAlong : SpaceView → Checker → Inner → (path path' : Path) → Type 0
GoesAlong space checker inner path path' =
    OnBits space (λ bits. path' ≡ path ++ path_in bits checker.nodes.now (frames_of checker) inner)

-- the same, into a number
abbrev pub GoesInto : Checker → Cut → (path path' : Path) → Type 0
GoesInto checker cut path path' = path' ≡ path ++ path_cut checker.nodes.now (frames_of checker) cut

-- the part that was found may be mapped
abbrev pub MayFollow : Checker → Site → Type 0
MayFollow checker found = MayGoOn checker.nodes.now (level_count checker.store.now) found

module _ (old new : Checker) where
  abbrev pub FindsSite : Inner → Site → (bits : List ℕ) → Type 0
  FindsSite inner found bits =
      IsSite bits old.nodes.now (frames_after old new) (path_in bits old.nodes.now (frames_of old) inner) found

  abbrev pub FindsField : StructStart → List Field → Site → (bits : List ℕ) → Type 0
  FindsField whole fields found bits =
      IsSite bits old.nodes.now (frames_after old new)
      (fields_path bits whole.pinned whole.start (open_fields (type_of old.nodes.now) fields) whole.order
      (frames_of old) whole.start) found

  abbrev pub FindsAlternative : UnionStart → List Alternative → Site → (bits : List ℕ) → Type 0
  FindsAlternative whole alternatives found bits =
      IsSite bits old.nodes.now (frames_after old new)
      (alternatives_path bits (open_parts (type_of old.nodes.now) alternatives) whole.order (frames_of old) whole.start)
      found

  abbrev pub FindsInArray : Array → Site → (bits : List ℕ) → Type 0
  FindsInArray array found bits =
      IsSite bits old.nodes.now (frames_after old new)
      (path_of bits (ArrayOf (type_of old.nodes.now array.element) (bound_of array.bound.now)) array.order
      (frames_of old) array.start) found

  abbrev pub FindsElement : Elements → Site → (bits : List ℕ) → Type 0
  FindsElement all found bits =
      IsSite bits old.nodes.now (frames_after old new) (path_among bits old.nodes.now (frames_of old) all) found

  abbrev pub FindsDigits : List Alternative → (digits width start : ℕ) → Digits → Type 0
  FindsDigits fields digits width start found =
      AreDigits old.nodes.now (frames_after old new)
      (digits_path (open_parts (type_of old.nodes.now) fields) digits width (frames_of old) start) found

  abbrev pub TriesPart : Part → Tried → (bits : List ℕ) → Type 0
  TriesPart part found bits =
      TriesAs bits (type_of old.nodes.now part.inner.node) (constraint_of part) part.inner.order (frames_of old)
      (frames_after old new) part.inner.start found

  abbrev pub TriesField : StructStart → Field → (behind : ℕ) → Tried → (bits : List ℕ) → Type 0
  TriesField whole field behind found bits =
      TriesFieldAs bits old.nodes.now whole.pinned whole.start whole.order field (frames_of old)
      (frames_after old new) behind found

  abbrev pub TriesAlternative : UnionStart → Alternative → Attempt → (bits : List ℕ) → Type 0
  TriesAlternative whole alternative found bits =
      TriesAlternativeAs bits old.nodes.now alternative whole.order (frames_of old)
      (frames_after old new) whole.start found

  abbrev pub LeavesLevels : Attempt → Type 0
  LeavesLevels found = LeavesFrame (frames_of old) (frames_after old new) found

  -- a number was stored as a type, or stopped, and was tried as a field
  abbrev pub StoresCut : Cut → Type 0
  StoresCut cut =
      KeepsNumber (type_of old.nodes.now cut.node) cut.digits cut.start (frames_of old) (frames_after old new)

  abbrev pub StopsCut : Cut → Stop → Type 0
  StopsCut cut told =
      StopsNumber (type_of old.nodes.now cut.node) cut.digits cut.start (frames_of old) (frames_after old new) told

  abbrev pub TriesDigits : Alternative → (digits start : ℕ) → Tried → Type 0
  TriesDigits field digits start found =
      TriesDigitsAs old.nodes.now digits start field (frames_of old) (frames_after old new) found
