-- What callers know of a space.
use Rattle.std.specs.Prelude.{◌≡◌, ℕ, ◌+◌, ◌-◌, ◌^◌, ◌<◌, ◌≤◌, List, Option, Some, None, [], length, slice_range, option_map, unwrap_or, MatchOption}
use Rattle.std.proofs.Common.{ap, sym, subst}
use Rattle.bit_space.specs.Bits.{bits_of}

-- A space as its callers see it: its length in bytes, its bytes where they are known, and how often it failed. The
-- bytes are known where the space is honest.
pub record SpaceView : Type 0 where
  pub len : ℕ
  pub bytes : Option (List ℕ)
  pub failures : ℕ

-- an honest space that holds these bytes and never failed
abbrev pub honest : List ℕ → SpaceView
honest bytes = record { len = length bytes; bytes = Some bytes; failures = 0 }

-- the bits of a space, where they are known
abbrev pub known_bits : SpaceView → Option (List ℕ)
known_bits view = option_map bits_of view.bytes

-- where the bytes of a space are known, there are as many as its length says
abbrev pub IsWhole : SpaceView → Type 0
IsWhole view = (bytes : List ℕ) → view.bytes ≡ Some bytes → length bytes ≡ view.len

pub honest_whole : (bytes : List ℕ) → IsWhole (honest bytes)
honest_whole bytes found e = ap (λ (o : Option (List ℕ)). length (unwrap_or o [])) (sym e)

-- where the bytes of a space are known, a part is its `count` bytes from byte `at` on
abbrev pub GivesRange : SpaceView → (at count : ℕ) → (part : List ℕ) → Type 0
GivesRange view at count part = (bytes : List ℕ) → view.bytes ≡ Some bytes → part ≡ slice_range bytes at (at + count)

-- a count of failures rose; a count at its greatest value is read as having risen
abbrev pub HasRisen : ℕ → ℕ → Type 0
HasRisen before after = before < 2 ^ 64 - 1 → before < after

-- what a call leaves of a space: its length and bytes; its count of failures never falls
pub record Keeps (before after : SpaceView) : Type 0 where
  pub len : after.len ≡ before.len
  pub bytes : after.bytes ≡ before.bytes
  pub failures : before.failures ≤ after.failures

-- a space whose bytes are not known
abbrev pub unknown : ℕ → ℕ → SpaceView
unknown len failures = record { len = len; bytes = None; failures = failures }

pub unknown_whole : (len failures : ℕ) → IsWhole (unknown len failures)
unknown_whole len failures bytes e = absurd (subst (λ (o : Option (List ℕ)). MatchOption o (Unit {0}) (λ _. ⊥)) e tt)
