-- What is read of a stream, and the space of its bytes.
use Rattle.std.specs.Prelude.{◌≡◌, ℕ, ◌-◌, ◌^◌, ◌<◌, ◌≤◌, min, List, length, Option, None, Some, ⊤}
use Rattle.std.specs.Io.KnownBytes.{Consumes, IsAtEnd}
use Rattle.bit_space.specs.SpaceView.{SpaceView, honest}

-- the most bytes of a stream that are read, if so many are allowed: a space has less than 2^60
abbrev pub longest : ℕ → ℕ
longest most = min most (2 ^ 60 - 1)

-- these bytes were read: at most so many, and fewer only if the reader has no more
pub record AreFirst (most : ℕ) (old new : Option (List ℕ)) (bytes : List ℕ) : Type 0 where
  pub consumes : Consumes old new bytes
  pub few : length bytes ≤ most
  pub end : length bytes < most → IsAtEnd new

-- a space of all bytes that a reader had, which are at most so many
pub record HoldsAll (most : ℕ) (old new : Option (List ℕ)) (space : SpaceView) : Type 0 where
  pub bytes : List ℕ
  pub space_is : space ≡ honest bytes
  pub consumes : Consumes old new bytes
  pub few : length bytes ≤ most
  pub end : IsAtEnd new

-- a reader had more bytes than so many, where its bytes are known
abbrev pub IsLonger : ℕ → Option (List ℕ) → Type 0
IsLonger most None = ⊤
IsLonger most (Some bytes) = most < length bytes

-- a reader lost some first bytes, at most so many
pub record LosesUpTo (most : ℕ) (old new : Option (List ℕ)) : Type 0 where
  pub taken : List ℕ
  pub consumes : Consumes old new taken
  pub few : length taken ≤ most
