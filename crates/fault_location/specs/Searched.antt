-- How many steps the search takes for the part in which the fault of a type arises, and what its calls say of them.
use Rattle.std.specs.Prelude.{◌≡◌, ℕ, zero, suc, ◌+◌, ◌-◌, ◌<◌, ◌≤◌, length, Bool, List, [], Option, Some, None, Box, Result, Ok, Err, IfOk, nat_eq, nat_le, if◌then◌else◌}
use Rattle.std.specs.declared.alloc.Global.{Global}
use Rattle.bit_space.specs.declared.meter.Meter.{Meter}
use Rattle.bit_space.specs.declared.order.Order.{Order}
use Rattle.bit_space.specs.SpaceView.{SpaceView, HasRisen}
use Rattle.pickle_types.specs.declared.node.Field.{Field}
use Rattle.pickle_types.specs.declared.node.Node.{Node}
use Rattle.pickle_types.specs.declared.node.Part.{Part as Alternative}
use Rattle.pickle_types.specs.declared.node.Resolved.{Resolved}
use Rattle.pickle_types.specs.Types.{Term, PokeType, IntegerOf, OffsetOf, StringOf, ArrayOf, StructOf, IntegralOf, UnionOf, Fields, NoFields, FieldThen, Parts, NoParts, PartThen}
use Rattle.pickle_types.specs.Table.{type_of, open_fields, open_parts, optional_term, bound_of}
use Rattle.pickle_meaning.specs.declared.extent.Extent.{Extent}
use Rattle.pickle_meaning.specs.declared.faults.MapFault.{MapFault}
use Rattle.pickle_meaning.specs.Numbers.{number_at}
use Rattle.pickle_meaning.specs.Values.{Value, end_of, Levels, pushed, opened, no_values}
use Rattle.pickle_meaning.specs.Clauses.{FaultAt, constraint, clause_steps, condition, field_start, label_steps, extent_of, bound_steps, is_due, ends_before, misses}
use Rattle.pickle_meaning.specs.Means.{ordered, number_type, width_in, first_digits}
use Rattle.pickle_map.specs.Framed.{IsEnd}
use Rattle.pickle_map.specs.declared.mapper.stop.Stop.{Stop}
use Rattle.pickle_map.specs.declared.mapper.stop.Stop.TheVariants as stop
use Rattle.mapping_plans.specs.Mapping.{plan, number_plan}
use Rattle.mapping_plans.specs.Plan.{result_of, steps_of}
use Rattle.value_store.specs.Slots.{Held, levels}
use Rattle.fault_location.specs.declared.checker.Checker.{Checker}
use Rattle.fault_location.specs.declared.part.Array.{Array}
use Rattle.fault_location.specs.declared.part.Elements.{Elements}
use Rattle.fault_location.specs.declared.part.Part.{Part}
use Rattle.fault_location.specs.declared.part.StructStart.{StructStart}
use Rattle.fault_location.specs.declared.part.TypeStart.{TypeStart}
use Rattle.fault_location.specs.declared.part.UnionStart.{UnionStart}
use Rattle.fault_location.specs.declared.site.Attempt.{Attempt}
use Rattle.fault_location.specs.declared.site.Attempt.TheVariants as attempt
use Rattle.fault_location.specs.declared.site.Cut.{Cut}
use Rattle.fault_location.specs.declared.site.Digits.{Digits}
use Rattle.fault_location.specs.declared.site.Digits.TheVariants as digits
use Rattle.fault_location.specs.declared.site.Ended.{Ended}
use Rattle.fault_location.specs.declared.site.Ended.TheVariants as ended
use Rattle.fault_location.specs.declared.site.Inner.{Inner}
use Rattle.fault_location.specs.declared.site.Site.{Site}
use Rattle.fault_location.specs.declared.site.Site.TheVariants as site
use Rattle.fault_location.specs.declared.site.Tried.{Tried}
use Rattle.fault_location.specs.declared.site.Tried.TheVariants as tried
use Rattle.fault_location.specs.Frames.{frames_after, frames_of}
use Rattle.fault_location.specs.AtWork.{AddsToLevel, LevelStays, MapFrame}
use Rattle.fault_location.specs.Calls.{MapsType}
use Rattle.fault_location.specs.Ways.{OnBits, constraint_of, field_then, part_then, start_type}

-- ---- how many steps a search takes

-- a number by an outcome
abbrev pub counted : {A : Type 0} → Result A FaultAt → (A → ℕ) → (FaultAt → ℕ) → ℕ
counted (Ok a) f g = f a
counted (Err e) f g = g e

-- the steps of a constraint, where the part before it is a value
abbrev pub value_steps : Option Term → Levels → Result Value FaultAt → ℕ
value_steps c levels r = counted r (λ v. clause_steps c (pushed levels (Some v))) (λ f. 0)

-- the steps of what follows a part: by its constraint if it is a value
abbrev pub after_part : Option Term → Levels → (s : ℕ) → Result Value FaultAt → (passed : Value → ℕ) →
    (refused faulty : FaultAt → ℕ) → ℕ
after_part c levels s r passed refused faulty =
    counted r (λ v. counted (constraint c (pushed levels (Some v)) s) (λ u. passed v) refused) faulty

-- the steps of a part and its constraint, and of a number that is one
abbrev pub part_steps : List ℕ → PokeType → Option Term → Order → Levels → (s : ℕ) → ℕ
part_steps bits ty c order levels s =
    steps_of bits (plan (length bits) ty order levels s)
    + value_steps c levels (result_of bits (plan (length bits) ty order levels s))

abbrev pub number_steps : PokeType → Option Term → (n : ℕ) → Levels → (s : ℕ) → ℕ
number_steps ty c n levels s =
    1 + steps_of [] (number_plan ty n levels s) + value_steps c levels (result_of [] (number_plan ty n levels s))

abbrev mutual
  -- the search in a number, and in the fields that it is cut into: up to the first field with a fault, then in that
  -- field
  pub number_search : PokeType → (n : ℕ) → Levels → (s : ℕ) → ℕ
  number_search (IntegerOf type) n levels s = 0
  number_search (OffsetOf type unit) n levels s = 0
  number_search StringOf n levels s = 0
  number_search (ArrayOf element bound) n levels s = 0
  number_search (StructOf name pinned _) n levels s = 0
  number_search (IntegralOf name type fields) n levels s = digits_search fields n type.width (opened levels) s
  number_search (UnionOf name alternatives) n levels s = 0

  pub digits_search : Parts → (n left : ℕ) → Levels → (s : ℕ) → ℕ
  digits_search NoParts n left levels s = 0
  digits_search (PartThen name order ty c rest) n left levels s =
      number_steps ty c (first_digits n left (width_in (number_type ty))) levels s
      + after_part c levels s (result_of [] (number_plan ty (first_digits n left (width_in (number_type ty))) levels s))
      (λ v. digits_search rest n (left - width_in (number_type ty)) (pushed levels (Some v)) s) (λ f. 0)
      (λ f. number_search ty (first_digits n left (width_in (number_type ty))) levels s)

-- The search among the elements of an array, after the first i: each is mapped, and the search goes on in the first
-- that has a fault with which the array doesn't end. At most n are tried.
abbrev pub elements_search : (steps : Levels → ℕ → ℕ) → (result : Levels → ℕ → Result Value FaultAt) →
    (search : Levels → ℕ → ℕ) → (m s : ℕ) → Extent → (n i : ℕ) → Levels → (place : ℕ) → ℕ
elements_search steps result search m s extent zero i levels place = 0
elements_search steps result search m s extent (suc n) i levels place =
    if is_due extent m s i place then steps levels place + counted (result levels place)
    (λ v. if nat_eq (end_of v) place then 0
    else elements_search steps result search m s extent n (i + 1) (pushed levels (Some v)) (end_of v))
    (λ f. if ends_before extent f.0 then 0 else search levels place)
    else 0

-- inside the file
abbrev pub if_inside : (m s : ℕ) → ℕ → ℕ
if_inside m s steps = if nat_le s m then steps else 0

abbrev mutual
  -- The search in a type: it maps the parts of the type up to the one that has the fault, with that part, and then goes
  -- on in it. It takes no step for the type itself.
  pub search_of : List ℕ → PokeType → Order → Levels → (s : ℕ) → ℕ
  search_of bits (IntegerOf type) order levels s = 0
  search_of bits (OffsetOf type unit) order levels s = 0
  search_of bits StringOf order levels s = 0
  search_of bits (ArrayOf ty bound) order levels s =
      if_inside (length bits) s (bound_steps bound levels + counted (extent_of bound levels s)
      (λ extent. elements_search (λ inside p. steps_of bits (plan (length bits) ty order inside p))
      (λ inside p. result_of bits (plan (length bits) ty order inside p)) (search_of bits ty order)
      (length bits) s extent (suc (length bits)) 0 (opened levels) s) (λ f. 0))
  search_of bits (StructOf name pinned fields) order levels s =
      if_inside (length bits) s (fields_search bits pinned s fields order (opened levels) s)
  search_of bits (IntegralOf name type fields) order levels s =
      if_inside (length bits) s (1 + if_inside (length bits)
      (s + type.width) (digits_search fields (number_at bits order s type.width) type.width (opened levels) s))
  search_of bits (UnionOf name alternatives) order levels s =
      if_inside (length bits) s (alternatives_search bits alternatives order (opened levels) s)

  -- the fields of a struct from here on
  pub fields_search : List ℕ → (pinned : Bool) → (s : ℕ) → Fields → Order → Levels → (behind : ℕ) → ℕ
  fields_search bits pinned s NoFields order levels behind = 0
  fields_search bits pinned s (FieldThen name set ty c label when rest) order levels behind =
      clause_steps when levels + counted (condition when levels s)
      (λ there. if there then label_steps pinned label levels + counted (field_start pinned label levels s behind)
      (λ p. part_steps bits ty c (ordered set order) levels p
      + after_part c levels p (result_of bits (plan (length bits) ty (ordered set order) levels p))
      (λ v. fields_search bits pinned s rest order (pushed levels (Some v)) (end_of v))
      (λ f. 0) (λ f. search_of bits ty (ordered set order) levels p))
      (λ f. 0)
      else fields_search bits pinned s rest order (pushed levels None) behind)
      (λ f. 0)

  -- the alternatives of a union from here on
  pub alternatives_search : List ℕ → Parts → Order → Levels → (s : ℕ) → ℕ
  alternatives_search bits NoParts order levels s = 0
  alternatives_search bits (PartThen name set ty c rest) order levels s =
      part_steps bits ty c (ordered set order) levels s
      + after_part c levels s (result_of bits (plan (length bits) ty (ordered set order) levels s)) (λ v. 0)
      (λ f. if misses f.0 then alternatives_search bits rest order levels s else 0)
      (λ f. if misses f.0 then alternatives_search bits rest order levels s
      else search_of bits ty (ordered set order) levels s)

-- ---- what calls say

-- Why a call of so many steps stopped: with a fault after all of them, or by Limit where fewer were left, by a read
-- that failed, of which `Device` says what it means, or by an allocation failure.
abbrev pub Stops : (Device : Type 0) → (limit before after steps : ℕ) → Stop → Type 0
Stops Device limit before after steps (stop.Fault kind place) = after ≡ before + steps
Stops Device limit before after steps stop.Limit = limit < before + steps
Stops Device limit before after steps stop.Device = Device
Stops Device limit before after steps stop.Memory = Unit {0}

-- a call that took so many steps, or stopped
abbrev pub Spends : {A : Type 0} → (Device : Type 0) → (limit before after : ℕ) → Result A Stop → (steps : ℕ) → Type 0
Spends Device limit before after (Ok x) steps = after ≡ before + steps
Spends Device limit before after (Err told) steps = Stops Device limit before after steps told

-- why a search of so many steps ended
abbrev pub Ends : (Device : Type 0) → (limit before whole : ℕ) → Ended → Type 0
Ends Device limit before whole ended.Limit = limit < before + whole
Ends Device limit before whole ended.Device = Device
Ends Device limit before whole ended.Memory = Unit {0}

-- a search of so many steps: after what it found so many are left of them; or it was ended
abbrev pub Searches : {A : Type 0} → (Device : Type 0) → (limit before after whole : ℕ) → (left : A → ℕ) →
    Result A Ended → Type 0
Searches Device limit before after whole left (Ok found) = after + left found ≤ before + whole
Searches Device limit before after whole left (Err e) = Ends Device limit before whole e

-- the same of a call that reads the space, and of one that reads nothing, between two states of the meter
abbrev pub SpendsReading : {A : Type 0} → (space space' : SpaceView) → (meter meter' : Meter) → Result A Stop →
    (steps : ℕ) → Type 0
SpendsReading space space' meter meter' result steps =
    Spends (HasRisen space.failures space'.failures) meter.limit meter.steps meter'.steps result steps

abbrev pub SpendsAlone : {A : Type 0} → (meter meter' : Meter) → Result A Stop → (steps : ℕ) → Type 0
SpendsAlone meter meter' result steps = Spends ⊥ meter.limit meter.steps meter'.steps result steps

abbrev pub SearchesReading : {A : Type 0} → (space space' : SpaceView) → (meter meter' : Meter) → (whole : ℕ) →
    (left : A → ℕ) → Result A Ended → Type 0
SearchesReading space space' meter meter' whole left result =
    Searches (HasRisen space.failures space'.failures) meter.limit meter.steps meter'.steps whole left result

abbrev pub SearchesAlone : {A : Type 0} → (meter meter' : Meter) → (whole : ℕ) → (left : A → ℕ) →
    Result A Ended → Type 0
SearchesAlone meter meter' whole left result = Searches ⊥ meter.limit meter.steps meter'.steps whole left result

-- the stop with which a search ended
abbrev pub stop_of : Ended → Stop
stop_of ended.Limit = stop.Limit
stop_of ended.Device = stop.Device
stop_of ended.Memory = stop.Memory

-- a call with nothing left
abbrev pub none_left : {A : Type 0} → A → ℕ
none_left x = 0

-- the search in a number, and in a part
abbrev pub search_cut : List Node → Levels → Cut → ℕ
search_cut nodes levels cut = number_search (type_of nodes cut.node) cut.digits levels cut.start

abbrev pub search_in : (bits : List ℕ) → List Node → Levels → Inner → ℕ
search_in bits nodes levels part = search_of bits (type_of nodes part.node) part.order levels part.start

-- the search among the elements of an array
abbrev pub search_among : (bits : List ℕ) → List Node → Levels → Elements → ℕ
search_among bits nodes levels all =
    elements_search (λ inside p. steps_of bits (plan (length bits) (type_of nodes all.element) all.order inside p))
    (λ inside p. result_of bits (plan (length bits) (type_of nodes all.element) all.order inside p))
    (search_of bits (type_of nodes all.element) all.order)
    (length bits) all.start all.extent (suc (length bits)) 0 levels all.start

-- what is left after a site was found
abbrev pub site_left : (bits : List ℕ) → List Node → Levels → Site → ℕ
site_left bits nodes levels site.Itself = 0
site_left bits nodes levels (site.Beside place) = 0
site_left bits nodes levels (site.Inside place part) = search_in bits nodes levels part
site_left bits nodes levels (site.Number cut) = search_cut nodes levels cut

abbrev pub digits_left : List Node → Levels → Digits → ℕ
digits_left nodes levels digits.Itself = 0
digits_left nodes levels (digits.Beside place) = 0
digits_left nodes levels (digits.Inside place cut) = search_cut nodes levels cut

-- what is left after a field or an alternative was tried, with others after it
abbrev pub field_left : List ℕ → List Node → (pinned : Bool) → (s : ℕ) → Order → Field →
    (rest : Fields) → Levels → Tried → ℕ
field_left bits nodes pinned s order f rest levels (tried.Passed end) =
    fields_search bits pinned s rest order levels end
field_left bits nodes pinned s order f rest levels (tried.Beside fault) = 0
field_left bits nodes pinned s order f rest levels (tried.Inside at fault) =
    search_of bits (type_of nodes f.node) (ordered f.order order) levels at

abbrev pub alternative_left : List ℕ → List Node → Order → Alternative → (rest : Parts) → (before levels : Levels) →
    (s : ℕ) → Attempt → ℕ
alternative_left bits nodes order p rest before levels s attempt.Fits = 0
alternative_left bits nodes order p rest before levels s attempt.Misses = alternatives_search bits rest order before s
alternative_left bits nodes order p rest before levels s attempt.Beside = 0
alternative_left bits nodes order p rest before levels s attempt.Inside =
    search_of bits (type_of nodes p.node) (ordered p.order order) levels s

-- What calls say that read the space, where its bytes are known, between the space and the checker before the call and
-- after it.
module _ (space space' : SpaceView) (old new : Checker) where
  -- so many steps of the search, and so many left after what was found
  abbrev pub SearchesOn : {A : Type 0} → (whole : List ℕ → ℕ) → (left : List ℕ → A → ℕ) → Result A Ended → Type 0
  SearchesOn whole left result =
      OnBits space (λ bits. SearchesReading space space' old.meter.now new.meter.now (whole bits) (left bits) result)

  -- the same, up to where a fault arises
  abbrev pub SearchesUpTo : (whole : List ℕ → ℕ) → Result Site Ended → Type 0
  SearchesUpTo whole = SearchesOn whole (λ bits. site_left bits old.nodes.now (frames_after old new))

  -- a type was mapped
  abbrev pub SpendsType : Inner → Result ℕ Stop → Type 0
  SpendsType inner result =
      OnBits space (λ bits. SpendsReading space space' old.meter.now new.meter.now result
      (steps_of bits (plan (length bits) (type_of old.nodes.now inner.node) inner.order (frames_of old) inner.start)))

  -- all that is known of a type that was mapped
  pub record MapsInner (inner : Inner) (result : Result ℕ Stop) : Type 0 where
    pub frame : MapFrame space space' old new result
    pub ends : IfOk result (IsEnd inner.start space)
    pub is : OnBits space (MapsType old new inner result)
    pub level : AddsToLevel old new result
    pub outer : LevelStays old new
    pub spends : SpendsType inner result

  -- it was tried, with its constraint
  abbrev pub SearchesPart : Part → Result Tried Ended → Type 0
  SearchesPart part =
      SearchesOn (λ bits. part_steps bits (type_of old.nodes.now part.inner.node) (constraint_of part) part.inner.order
      (frames_of old) part.inner.start)
      (λ bits. none_left)

  -- the search in a type, and one step of it
  abbrev pub SearchesIn : Inner → Result (Unit {0}) Ended → Type 0
  SearchesIn inner = SearchesOn (λ bits. search_in bits old.nodes.now (frames_of old) inner) (λ bits. none_left)

  abbrev pub SearchesSite : Inner → Result Site Ended → Type 0
  SearchesSite inner = SearchesUpTo (λ bits. search_in bits old.nodes.now (frames_of old) inner)

  -- the fields of a struct, and one of them
  abbrev pub SearchesStruct : StructStart → List Field → Result Site Ended → Type 0
  SearchesStruct whole fields =
      SearchesUpTo (λ bits. fields_search bits whole.pinned whole.start (open_fields (type_of old.nodes.now) fields)
      whole.order (frames_of old) whole.start)

  abbrev pub SearchesField : StructStart → Field → (behind : ℕ) → Result Tried Ended → Type 0
  SearchesField whole field behind result =
      OnBits space (λ bits. (rest : Fields) → SearchesReading space space' old.meter.now new.meter.now
      (fields_search bits whole.pinned whole.start (field_then old.nodes.now field rest) whole.order
      (frames_of old) behind)
      (field_left bits old.nodes.now whole.pinned whole.start whole.order field rest (frames_after old new)) result)

  -- the alternatives of a union, and one of them
  abbrev pub SearchesUnion : UnionStart → List Alternative → Result Site Ended → Type 0
  SearchesUnion whole alternatives =
      SearchesUpTo (λ bits. alternatives_search bits (open_parts (type_of old.nodes.now) alternatives) whole.order
      (frames_of old) whole.start)

  abbrev pub SearchesOne : UnionStart → Alternative → Result Attempt Ended → Type 0
  SearchesOne whole alternative result =
      OnBits space (λ bits. (rest : Parts) → SearchesReading space space' old.meter.now new.meter.now
      (alternatives_search bits (part_then old.nodes.now alternative rest) whole.order (frames_of old) whole.start)
      (alternative_left bits old.nodes.now whole.order alternative rest (frames_of old) (frames_after old new)
      whole.start) result)

  -- an array, and its elements
  abbrev pub SearchesArray : Array → Result Site Ended → Type 0
  SearchesArray array =
      SearchesUpTo (λ bits. search_of bits (ArrayOf (type_of old.nodes.now array.element) (bound_of array.bound.now))
      array.order (frames_of old) array.start)

  abbrev pub SearchesElements : Elements → Result Site Ended → Type 0
  SearchesElements all = SearchesUpTo (λ bits. search_among bits old.nodes.now (frames_of old) all)

-- an expression beside a type was evaluated, whatever the names of the table are
abbrev pub SpendsClause : {A : Type 0} → (meter meter' : Meter) → Held → Option (Box Resolved Global) →
    Result A Stop → Type 0
SpendsClause meter meter' store clause result =
    (nodes : List Node) → SpendsAlone meter meter' result (clause_steps (optional_term clause) (levels nodes store))

-- the constraint of a part was
abbrev pub SpendsConstraint : (meter meter' : Meter) → Held → Part → Result (Unit {0}) Stop → Type 0
SpendsConstraint meter meter' store part result =
    (nodes : List Node) → SpendsAlone meter meter' result (clause_steps (constraint_of part) (levels nodes store))

abbrev pub SpendsLabel : {A : Type 0} → (meter meter' : Meter) → Held → (pinned : Bool) → Option (Box Resolved Global) →
    Result A Stop → Type 0
SpendsLabel meter meter' store pinned label result = (nodes : List Node) →
    SpendsAlone meter meter' result (label_steps pinned (optional_term label) (levels nodes store))

-- an integral struct was read as a number
abbrev pub SearchesRead : (space space' : SpaceView) → (meter meter' : Meter) → Result Site Ended → Type 0
SearchesRead space space' meter meter' result =
    OnBits space (λ bits. SearchesReading space space' meter meter' 1 none_left result)

-- what calls say that read nothing
module _ (old new : Checker) where
  -- a number was stored as a type, and tried with its constraint as a field
  abbrev pub SpendsCut : Cut → Result (Unit {0}) Stop → Type 0
  SpendsCut cut result =
      SpendsAlone old.meter.now new.meter.now result
      (1 + steps_of [] (number_plan (type_of old.nodes.now cut.node) cut.digits (frames_of old) cut.start))

  abbrev pub SearchesNumber : Alternative → (digits start : ℕ) → Result Tried Ended → Type 0
  SearchesNumber p digits start result =
      SearchesAlone old.meter.now new.meter.now
      (number_steps (type_of old.nodes.now p.node) (optional_term p.constraint) digits (frames_of old) start) none_left
      result

  -- the fields of a number
  abbrev pub SearchesDigits : List Alternative → (digits width start : ℕ) → Result Digits Ended → Type 0
  SearchesDigits fields digits width start result =
      SearchesAlone old.meter.now new.meter.now
      (digits_search (open_parts (type_of old.nodes.now) fields) digits width (frames_of old) start)
      (digits_left old.nodes.now (frames_after old new)) result

  -- the search in a number
  abbrev pub SearchesCut : Cut → Result (Unit {0}) Ended → Type 0
  SearchesCut cut result =
      SearchesAlone old.meter.now new.meter.now (search_cut old.nodes.now (frames_of old) cut) none_left result

-- Why a search ended for the part of a type: where the bytes are known, fewer steps were left than it takes, a read
-- failed, or an allocation did.
abbrev pub EndsSearch : TypeStart → (space space' : SpaceView) → Meter → Ended → Type 0
EndsSearch whole space space' meter e =
    OnBits space (λ bits. Ends (HasRisen space.failures space'.failures) meter.limit meter.steps
    (search_of bits (start_type whole) whole.order no_values whole.start) e)

-- the stop of a fault, or of a search that ended
abbrev pub IsFaultIn : Stop → Result MapFault Ended → Type 0
IsFaultIn told (Ok fault) = told ≡ stop.Fault fault.kind fault.at
IsFaultIn told (Err e) = told ≡ stop_of e
