-- What is known of a type that is mapped from a space.
use Rattle.std.specs.Prelude.{◌≡◌, ℕ, ◌*◌, List, Option, Some, None, Result, Ok, Err}
use Rattle.bit_space.specs.Bits.{bits_of}
use Rattle.bit_space.specs.SpaceView.{SpaceView}
use Rattle.bit_space.specs.declared.order.Order.{Order}
use Rattle.pickle_types.specs.Types.{PokeType}
use Rattle.pickle_meaning.specs.Clauses.{FaultAt}
use Rattle.pickle_meaning.specs.Fits.{Fits}
use Rattle.pickle_meaning.specs.Means.{Means}
use Rattle.pickle_meaning.specs.Values.{Value, Levels}

-- the outcomes of types beside frames, at a bit, with their steps
abbrev pub Meaning : Type 1
Meaning = PokeType → Order → Levels → (s : ℕ) → Result Value FaultAt → (steps : ℕ) → Type 0

-- on these bits it is the type's outcome
pub record IsMeant (bits : List ℕ) (ty : PokeType) (order : Order) (levels : Levels) (s : ℕ)
    (r : Result Value FaultAt) (steps : ℕ) : Type 0 where
  pub made : ℕ
  pub means : Means bits ty order levels s r steps made

-- what is known of a space while it is read: its length in bytes, and its bytes, if they are known
pub record SpaceBytes : Type 0 where
  pub len : ℕ
  pub bytes : Option (List ℕ)

abbrev pub bytes_in : SpaceView → SpaceBytes
bytes_in space = record { len = space.len; bytes = space.bytes }

-- a value fits its type
abbrev pub FitsIn : (len : ℕ) → PokeType → Levels → (s : ℕ) → Result Value FaultAt → Type 0
FitsIn len ty levels s (Ok v) = Fits (8 * len) ty levels s v
FitsIn len ty levels s (Err f) = Unit {0}

-- In a space it is the type's outcome where the bytes are known. Whatever they are, a value fits the type.
pub record IsMappedIn (space : SpaceBytes) (ty : PokeType) (order : Order) (levels : Levels) (s : ℕ)
    (r : Result Value FaultAt) (steps : ℕ) : Type 0 where
  pub means : (bytes : List ℕ) → space.bytes ≡ Some bytes → IsMeant (bits_of bytes) ty order levels s r steps
  pub fits : FitsIn space.len ty levels s r

-- what holds in a space, and what holds where these are its bytes
abbrev pub meaning_in : SpaceBytes → Option (List ℕ) → Meaning
meaning_in space None = IsMappedIn space
meaning_in space (Some bytes) = IsMeant (bits_of bytes)

-- they are its bytes
abbrev pub AreBytes : SpaceBytes → Option (List ℕ) → Type 0
AreBytes space None = Unit {0}
AreBytes space (Some bytes) = space.bytes ≡ Some bytes
