-- What an attempt to map a type finds.
use Rattle.std.specs.Prelude.{◌≡◌, ℕ, ◌-◌, ◌*◌, ◌<◌, List, Option, Some, None, Ok}
use Rattle.bit_space.specs.declared.order.Order.{Order}
use Rattle.bit_space.specs.SpaceView.{SpaceView, HasRisen}
use Rattle.pickle_types.specs.Bounds.{cost}
use Rattle.pickle_types.specs.Types.{PokeType}
use Rattle.pickle_meaning.specs.declared.faults.MapFault.{MapFault}
use Rattle.pickle_meaning.specs.declared.faults.MapFaultKind.TheVariants as fault
use Rattle.pickle_meaning.specs.Means.{Means}
use Rattle.pickle_meaning.specs.Values.{Value, start_of, end_of, no_values}
use Rattle.pickle_map.specs.Mapped.{EndsRun}
use Rattle.identification.specs.declared.fit.Measured.{Measured}
use Rattle.identification.specs.Constrained.{capped, bits_inside}

-- the type means a value at a bit
pub record MapsTo (bits : List ℕ) (type : PokeType) (order : Order) (start : ℕ) (value : Value) : Type 0 where
  pub steps : ℕ
  pub made : ℕ
  pub means : Means bits type order no_values start (Ok value) steps made

-- the constrained bits and the size of a value
pub record IsMeasured (type : PokeType) (value : Value) (measured : Measured) : Type 0 where
  pub constrained : measured.constrained ≡ capped (bits_inside type value)
  pub size : measured.size ≡ end_of value - start_of value

-- those of the value that the type means at a bit
pub record MeasuresValue (bits : List ℕ) (type : PokeType) (order : Order) (start : ℕ)
    (measured : Measured) : Type 0 where
  pub value : Value
  pub maps : MapsTo bits type order start value
  pub is : IsMeasured type value measured

-- what an attempt finds: a value, or that the type means none
abbrev pub Measures : (bits : List ℕ) → PokeType → Order → (start : ℕ) → Option Measured → Type 0
Measures bits type order start (Some measured) = MeasuresValue bits type order start measured
Measures bits type order start None = (value : Value) → MapsTo bits type order start value → ⊥

-- what ends an attempt that finds nothing: a failed read, an allocation failure, or a limit of 2^64 - 1 steps
pub record IsStopped (type : PokeType) (before after : SpaceView) (stop : MapFault) : Type 0 where
  pub ends : EndsRun stop.kind
  pub device : stop.kind ≡ fault.Device → HasRisen before.failures after.failures
  pub limit : stop.kind ≡ fault.Limit → 18446744073709551615 < cost type (8 * before.len)
