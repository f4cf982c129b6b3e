-- Which formats fit a file.
use Rattle.std.specs.Prelude.{◌≡◌, ℕ, ◌*◌, ◌<◌, Bool, if◌then◌else◌, List, Option, Some, None, slice_get, All, AllPairs, Any}
use Rattle.bit_space.specs.declared.order.Order.{Order}
use Rattle.bit_space.specs.declared.order.Order.TheVariants.{Big, Little}
use Rattle.bit_space.specs.SpaceView.{SpaceView, HasRisen}
use Rattle.pickle_types.specs.Bounds.{cost}
use Rattle.pickle_types.specs.Types.{PokeType}
use Rattle.pickle_types.specs.TypeTable.{type_named}
use Rattle.pickle_types.specs.declared.table.TypeId.{TypeId}
use Rattle.pickle_meaning.specs.declared.faults.MapFault.{MapFault}
use Rattle.pickle_meaning.specs.declared.faults.MapFaultKind.TheVariants as fault
use Rattle.pickle_meaning.specs.Values.{Value}
use Rattle.pickle_map.specs.Mapped.{EndsRun}
use Rattle.identification.specs.declared.fit.Fit.{Fit}
use Rattle.identification.specs.declared.fit.Ranked.{Ranked}
use Rattle.identification.specs.declared.format.Format.{Format}
use Rattle.identification.specs.declared.format.Formats.{Formats}
use Rattle.identification.specs.declared.format.Orders.{Orders}
use Rattle.identification.specs.Attempts.{MapsTo, MeasuresValue}
use Rattle.identification.specs.Ranking.{AreRanked, turn, IsEarlier}

-- whether a byte order is one of these
abbrev pub has_order : Orders → Order → Bool
has_order orders Little = orders.little
has_order orders Big = orders.big

-- the type of a format that is tried in a byte order: its identifying type, if it has one and names the order
abbrev pub type_to_try : Format → Order → Option TypeId
type_to_try format order = if has_order format.orders order then format.identifying else None

-- the format at a place has a type that is tried in a byte order
pub record IsTried (formats : List Format) (place : ℕ) (order : Order) (type : PokeType) : Type 0 where
  pub format : Format
  pub there : slice_get formats place ≡ Some format
  pub id : TypeId
  pub found : type_to_try format order ≡ Some id
  pub type_is : type_named format.table id ≡ type

-- that type means a value at a bit
pub record MapsFormat (formats : List Format) (start : ℕ) (bits : List ℕ) (place : ℕ) (order : Order) : Type 0 where
  pub type : PokeType
  pub tried : IsTried formats place order type
  pub value : Value
  pub maps : MapsTo bits type order start value

-- it means a value of these constrained bits and this size
pub record IsFit (formats : List Format) (start : ℕ) (bits : List ℕ) (fit : Fit) : Type 0 where
  pub type : PokeType
  pub tried : IsTried formats fit.place fit.order type
  pub measures : MeasuresValue bits type fit.order start fit.measured

abbrev pub HasFit : List Fit → (place : ℕ) → Order → Type 0
HasFit fits place order = Any (λ fit. (fit.place ≡ place) × (fit.order ≡ order)) fits

-- the formats that fit, as far as they are tried before a turn
pub record FitsBefore (formats : List Format) (start : ℕ) (bits : List ℕ) (next : ℕ) (fits : List Fit) : Type 0 where
  pub sound : All (IsFit formats start bits) fits
  pub complete : (place : ℕ) (order : Order) → turn place order < next → MapsFormat formats start bits place order →
      HasFit fits place order
  pub rising : AllPairs IsEarlier fits
  pub early : All (λ fit. turn fit.place fit.order < next) fits

-- Exactly the formats that fit, in the order in which they are tried: each has a value that its identifying type means
-- there, and each whose identifying type means a value there is among them, once.
pub record AreFits (formats : List Format) (start : ℕ) (bits : List ℕ) (fits : List Fit) : Type 0 where
  pub sound : All (IsFit formats start bits) fits
  pub complete : (place : ℕ) (order : Order) → MapsFormat formats start bits place order → HasFit fits place order
  pub rising : AllPairs IsEarlier fits

-- exactly the formats that fit, in their order
pub record IsIdentified (formats : Formats) (start : ℕ) (bits : List ℕ) (ranked : List Ranked) : Type 0 where
  pub fits : List Fit
  pub are : AreFits formats.list.items start bits fits
  pub order : AreRanked formats.lines.items fits ranked

-- a type that is tried, and whose bound is 2^64 steps or more
pub record IsLong (formats : List Format) (bytes : ℕ) : Type 0 where
  pub place : ℕ
  pub order : Order
  pub type : PokeType
  pub tried : IsTried formats place order type
  pub long : 18446744073709551615 < cost type (8 * bytes)

-- what ended the attempts: a failed read, an allocation failure, or the limit of a type with such a bound
pub record StopsTrying (formats : List Format) (before after : SpaceView) (stop : MapFault) : Type 0 where
  pub ends : EndsRun stop.kind
  pub device : stop.kind ≡ fault.Device → HasRisen before.failures after.failures
  pub limit : stop.kind ≡ fault.Limit → IsLong formats before.len
