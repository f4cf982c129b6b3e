-- Which formats without a signature a file has: those whose documented type maps it within a limit of steps.
use Rattle.std.specs.Prelude.{◌≡◌, ℕ, ◌+◌, ◌<◌, ◌≤◌, Bool, true, not, ◌||◌, ◌==◌, ◌++◌, ◌∷◌, [], if◌then◌else◌, List, Option, Some, None, Result, Ok, Err, length, slice_get, All, AllPairs, Any}
use Rattle.bit_space.specs.declared.order.Order.{Order}
use Rattle.bit_space.specs.declared.order.Order.TheVariants.{Big}
use Rattle.bit_space.specs.SpaceView.{SpaceView, HasRisen}
use Rattle.pickle_types.specs.Types.{PokeType}
use Rattle.pickle_types.specs.TypeTable.{type_named}
use Rattle.pickle_types.specs.declared.table.TypeId.{TypeId}
use Rattle.pickle_meaning.specs.declared.faults.MapFault.{MapFault}
use Rattle.pickle_meaning.specs.declared.faults.MapFaultKind.{MapFaultKind}
use Rattle.pickle_meaning.specs.declared.faults.MapFaultKind.TheVariants as fault
use Rattle.pickle_meaning.specs.Clauses.{FaultAt}
use Rattle.pickle_meaning.specs.Means.{Means}
use Rattle.pickle_meaning.specs.Values.{Value, end_of, no_values}
use Rattle.pickle_map.specs.Mapped.{EndsRun}
use Rattle.identification.specs.declared.timed.TheConstants.{MOST_STEPS}
use Rattle.identification.specs.declared.fit.Fit.{Fit}
use Rattle.identification.specs.declared.fit.Measured.{Measured}
use Rattle.identification.specs.declared.format.Documented.{Documented}
use Rattle.identification.specs.declared.format.Format.{Format}
use Rattle.identification.specs.declared.without_signature.OtherFits.{OtherFits}
use Rattle.identification.specs.declared.timed.Attempt.{Attempt}
use Rattle.identification.specs.declared.timed.Attempt.TheVariants.{Fits, Misses, Unfinished}
use Rattle.identification.specs.Attempts.{IsMeasured}

-- ---- one attempt

-- a value that must end with the file does
abbrev pub ends_right : (whole : Bool) → (end bits : ℕ) → Bool
ends_right whole end bits = not whole || (end == bits)

-- what is found where the type means a value of that size from a bit on
abbrev pub ended : (start bits : ℕ) → (whole : Bool) → Measured → Attempt
ended start bits whole measured = if ends_right whole (start + measured.size) bits then Fits measured else Misses

-- what is found where a mapping has a fault of that kind
abbrev pub unmapped : MapFaultKind → MapFault → Result Attempt MapFault
unmapped fault.Limit stop = Ok Unfinished
unmapped fault.Device stop = Err stop
unmapped fault.Memory stop = Err stop
unmapped kind stop = Ok Misses

-- the type means a value at a bit, in so many steps at most, and it ends right
pub record MapsInTime (bits : List ℕ) (type : PokeType) (order : Order) (whole : Bool) (start : ℕ)
    (value : Value) : Type 0 where
  pub steps : ℕ
  pub made : ℕ
  pub means : Means bits type order no_values start (Ok value) steps made
  pub few : steps ≤ MOST_STEPS
  pub ends : ends_right whole (end_of value) (length bits) ≡ true

-- the type means a value or a fault there, and that takes more steps
pub record TakesLonger (bits : List ℕ) (type : PokeType) (order : Order) (start : ℕ) : Type 0 where
  pub outcome : Result Value FaultAt
  pub steps : ℕ
  pub made : ℕ
  pub means : Means bits type order no_values start outcome steps made
  pub many : MOST_STEPS < steps

-- the type means a value in time, of these constrained bits and this size
pub record FitsInTime (bits : List ℕ) (type : PokeType) (order : Order) (whole : Bool) (start : ℕ)
    (measured : Measured) : Type 0 where
  pub value : Value
  pub maps : MapsInTime bits type order whole start value
  pub is : IsMeasured type value measured
  pub done : TakesLonger bits type order start → ⊥

-- it means none, and doesn't take longer
pub record MissesInTime (bits : List ℕ) (type : PokeType) (order : Order) (whole : Bool) (start : ℕ) : Type 0 where
  pub none : (value : Value) → MapsInTime bits type order whole start value → ⊥
  pub done : TakesLonger bits type order start → ⊥

-- it takes longer, and so doesn't fit
pub record IsCutOff (bits : List ℕ) (type : PokeType) (order : Order) (whole : Bool) (start : ℕ) : Type 0 where
  pub longer : TakesLonger bits type order start
  pub none : (value : Value) → MapsInTime bits type order whole start value → ⊥

abbrev pub Finds : (bits : List ℕ) → PokeType → Order → (whole : Bool) → (start : ℕ) → Attempt → Type 0
Finds bits type order whole start (Fits measured) = FitsInTime bits type order whole start measured
Finds bits type order whole start Misses = MissesInTime bits type order whole start
Finds bits type order whole start Unfinished = IsCutOff bits type order whole start

-- what ends an attempt that finds nothing: a failed read, or an allocation failure
pub record BreaksOff (before after : SpaceView) (stop : MapFault) : Type 0 where
  pub ends : EndsRun stop.kind
  pub timely : stop.kind ≡ fault.Limit → ⊥
  pub device : stop.kind ≡ fault.Device → HasRisen before.failures after.failures

-- ---- all formats

-- the documented type of a format that has no identifying type
abbrev pub unless_identified : Option TypeId → Option Documented → Option Documented
unless_identified None documented = documented
unless_identified (Some id) documented = None

abbrev pub bare_type : Format → Option Documented
bare_type format = unless_identified format.identifying format.documented

-- the byte order of its options, and big without one
abbrev pub order_of : Option Order → Order
order_of None = Big
order_of (Some order) = order

-- the format at a place is tried by this type
pub record IsBare (formats : List Format) (place : ℕ) (type : PokeType) (order : Order) (whole : Bool) : Type 0 where
  pub format : Format
  pub there : slice_get formats place ≡ Some format
  pub documented : Documented
  pub found : bare_type format ≡ Some documented
  pub type_is : type_named format.table documented.id ≡ type
  pub order_is : order_of documented.order ≡ order
  pub whole_is : documented.whole ≡ whole

-- that type maps the file in time
pub record MapsBare (formats : List Format) (start : ℕ) (bits : List ℕ) (place : ℕ) : Type 0 where
  pub type : PokeType
  pub order : Order
  pub whole : Bool
  pub bare : IsBare formats place type order whole
  pub value : Value
  pub maps : MapsInTime bits type order whole start value

-- it takes longer
pub record IsUnfinished (formats : List Format) (start : ℕ) (bits : List ℕ) (place : ℕ) : Type 0 where
  pub type : PokeType
  pub order : Order
  pub whole : Bool
  pub bare : IsBare formats place type order whole
  pub longer : TakesLonger bits type order start

-- a value of these constrained bits and this size
pub record IsOther (formats : List Format) (start : ℕ) (bits : List ℕ) (fit : Fit) : Type 0 where
  pub type : PokeType
  pub whole : Bool
  pub bare : IsBare formats fit.place type fit.order whole
  pub found : FitsInTime bits type fit.order whole start fit.measured

-- exactly what is wanted, each once, in the order of the places, as far as these come before a place
pub record HasBefore {X : Type 0} (place_of : X → ℕ) (IsOne : X → Type 0) (IsWanted : (place : ℕ) → Type 0) (next : ℕ)
    (xs : List X) : Type 0 where
  pub sound : All IsOne xs
  pub complete : (place : ℕ) → place < next → IsWanted place → Any (λ x. place_of x ≡ place) xs
  pub rising : AllPairs (λ a b. place_of a < place_of b) xs
  pub early : All (λ x. place_of x < next) xs

-- the same of all places
pub record HasExactly {X : Type 0} (place_of : X → ℕ) (IsOne : X → Type 0) (IsWanted : (place : ℕ) → Type 0)
    (xs : List X) : Type 0 where
  pub sound : All IsOne xs
  pub complete : (place : ℕ) → IsWanted place → Any (λ x. place_of x ≡ place) xs
  pub rising : AllPairs (λ a b. place_of a < place_of b) xs

abbrev pub place_of : Fit → ℕ
place_of fit = fit.place

abbrev pub itself : ℕ → ℕ
itself place = place

-- a format that fits
abbrev pub fit_at : (place : ℕ) → Order → Measured → Fit
fit_at place order measured = record { place = place; order = order; measured = measured }

-- what an attempt adds: that, the place of a format whose attempt takes longer, or nothing
abbrev pub Adds : Attempt → (place : ℕ) → Order → (before after : OtherFits) → Type 0
Adds Misses place order before after =
    (after.fits.items ≡ before.fits.items) × (after.unfinished.items ≡ before.unfinished.items)
Adds (Fits measured) place order before after =
    (after.fits.items ≡ before.fits.items ++ fit_at place order measured ∷ [])
    × (after.unfinished.items ≡ before.unfinished.items)
Adds Unfinished place order before after =
    (after.fits.items ≡ before.fits.items) × (after.unfinished.items ≡ before.unfinished.items ++ place ∷ [])

pub record OthersBefore (formats : List Format) (start : ℕ) (bits : List ℕ) (next : ℕ)
    (others : OtherFits) : Type 0 where
  pub fits : HasBefore place_of (IsOther formats start bits) (MapsBare formats start bits) next others.fits.items
  pub unfinished : HasBefore itself (IsUnfinished formats start bits) (IsUnfinished formats start bits) next
      others.unfinished.items

-- Exactly the formats without a signature whose documented type maps the file in time, and exactly those whose attempt
-- takes longer.
pub record AreOthers (formats : List Format) (start : ℕ) (bits : List ℕ) (others : OtherFits) : Type 0 where
  pub fits : HasExactly place_of (IsOther formats start bits) (MapsBare formats start bits) others.fits.items
  pub unfinished : HasExactly itself (IsUnfinished formats start bits) (IsUnfinished formats start bits)
      others.unfinished.items
