-- Bytes of a space that are written.
use Rattle.std.specs.Prelude.{◌≡◌, ◌-◌, ◌<◌, ◌≤◌, ℕ, List, Option, Some, length, slice_range}
use Rattle.std.specs.Io.KnownBytes.{Appends}
use Rattle.bit_space.specs.SpaceView.{SpaceView, HasRisen}
use Rattle.run_parts.specs.declared.outcome.Failure.{Failure}
use Rattle.run_parts.specs.declared.outcome.Failure.TheVariants as failure

-- a text has the bytes of a space from one up to another: so many, and if they are known, these
pub record AreBytes (space : SpaceView) (from end : ℕ) (text : List ℕ) : Type 0 where
  pub many : length text ≡ end - from
  pub known : (bytes : List ℕ) → space.bytes ≡ Some bytes → text ≡ slice_range bytes from end

-- such a text was written
pub record Copies (space : SpaceView) (from end : ℕ) (out out' : Option (List ℕ)) : Type 0 where
  pub text : List ℕ
  pub bytes : AreBytes space from end text
  pub takes : Appends out out' text

-- why writing bytes of a file ends early: a read of the file failed, or the writer did
abbrev pub Breaks : (before after : SpaceView) → Failure → Type 0
Breaks before after failure.Memory = ⊥
Breaks before after failure.Device = HasRisen before.failures after.failures
Breaks before after failure.Write = Unit {0}
Breaks before after failure.Read = ⊥
Breaks before after failure.Open = ⊥
Breaks before after failure.TooLong = ⊥

-- only the bytes before some place were written
pub record CopiesSome (before after : SpaceView) (from end : ℕ) (out out' : Option (List ℕ)) (failed : Failure) :
    Type 0 where
  pub breaks : Breaks before after failed
  pub place : ℕ
  pub starts : from ≤ place
  pub less : place < end
  pub copies : Copies before from place out out'
