use Rattle.std.proofs.Common.{◌≡◌, ◌*◌, ℕ, List, Some}
use Rattle.bit_space.specs.Bits.{bits_of}
use Rattle.bit_space.specs.SpaceView.{Keeps}
use Rattle.identification.specs.Fits.{FitsBefore}
use Rattle.identification.proofs.fits.all_fits.Given as goal

abbrev pub invariant-loop-place : goal.invariant-loop-place
invariant-loop-place g l = record {
  keeps : Keeps (g.S.Space.view l.fn.space) (g.S.Space.view l.space);
  so_far : (bytes : List ℕ) → (g.S.Space.view l.fn.space).bytes ≡ Some bytes →
      FitsBefore l.formats l.start (bits_of bytes) (2 * l.place) l.fits.items;
}
