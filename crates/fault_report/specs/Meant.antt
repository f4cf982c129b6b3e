-- What a type has on a file's bytes, if they are known.
use Rattle.std.specs.Prelude.{◌≡◌, ◌<◌, ◌*◌, ◌-◌, ◌^◌, min, ℕ, List, Some, Ok}
use Rattle.bit_space.specs.Bits.{bits_of}
use Rattle.bit_space.specs.SpaceView.{SpaceView, HasRisen}
use Rattle.pickle_types.specs.Types.{PokeType}
use Rattle.pickle_meaning.specs.declared.faults.MapFault.{MapFault}
use Rattle.pickle_map.specs.Mapped.{FaultMeans, EndsRun}
use Rattle.pickle_meaning.specs.Values.{Value, no_values}
use Rattle.fault_parts.specs.Arises.{Arises}
use Rattle.fault_location.specs.Searched.{search_of}
use Rattle.fault_location.specs.Ways.{OnBits, fault_of}
use Rattle.command_line.specs.declared.ask.Ask.{Ask}
use Rattle.poke_batch.specs.Runs.{HasAnswer}

-- the fault that a type means on these bytes under the arguments of the run, in some steps and with some values made;
-- for a mapping that was broken off, that it was
pub record MeansFault (bytes : List ℕ) (type : PokeType) (ask : Ask) (fault : MapFault) : Type 0 where
  pub steps : ℕ
  pub made : ℕ
  pub means : FaultMeans (bits_of bytes) type ask.order ask.start ask.limit fault.kind fault.at steps made

-- the same for a space, if its bytes are known
abbrev pub HasFault : SpaceView → PokeType → Ask → MapFault → Type 0
HasFault space type ask fault = (bytes : List ℕ) → space.bytes ≡ Some bytes → MeansFault bytes type ask fault

-- A fault of a type is that of the part to which these places lead: if the bytes of the space are known, it arises
-- there. A fault that ends a run, such as Limit, arises in no part; it is reported for the part at which the run was.
pub data IsFaultAt (space : SpaceView) (type : PokeType) (ask : Ask) (fault : MapFault) (places : List ℕ) : Type 0 where
  arises_there : OnBits space (λ bits. Arises bits type ask.order no_values ask.start (fault_of fault) places) →
      IsFaultAt space type ask fault places
  ended_there : EndsRun fault.kind → IsFaultAt space type ask fault places

-- the most steps that the search for a part takes: four times those that the run may take
abbrev pub search_limit : Ask → ℕ
search_limit ask = min (ask.limit * 4) (2 ^ 64 - 1)

-- why the search for the part with a fault ended before it was found: it takes more steps than it may, or a read failed
pub data CutsSearch (space space' : SpaceView) (type : PokeType) (ask : Ask) (bits : List ℕ) : Type 0 where
  takes_more : search_limit ask < search_of bits type ask.order no_values ask.start →
      CutsSearch space space' type ask bits
  failed_read : HasRisen space.failures space'.failures → CutsSearch space space' type ask bits

-- Why no part is known that has a fault: the fault ends a run, and arises in no part; or, if the bytes of the space are
-- known, the search for the part was ended.
pub data IsUnfound (space space' : SpaceView) (type : PokeType) (ask : Ask) (fault : MapFault) : Type 0 where
  ended_run : EndsRun fault.kind → IsUnfound space space' type ask fault
  cut : OnBits space (CutsSearch space space' type ask) → IsUnfound space space' type ask fault

-- a value that a type means on the bytes of a space, if these are known
abbrev pub HasValue : SpaceView → PokeType → Ask → Type 0
HasValue space type ask = (bytes : List ℕ) → space.bytes ≡ Some bytes
    → (value : Value) × HasAnswer bytes type ask.order ask.start ask.limit (Ok value)
