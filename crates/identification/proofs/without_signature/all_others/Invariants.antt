use Rattle.std.proofs.Common.{◌≡◌, ℕ, List, Some}
use Rattle.bit_space.specs.Bits.{bits_of}
use Rattle.bit_space.specs.SpaceView.{Keeps}
use Rattle.identification.specs.Others.{OthersBefore}
use Rattle.identification.proofs.without_signature.all_others.Given as goal

abbrev pub invariant-loop-place : goal.invariant-loop-place
invariant-loop-place g l = record {
  keeps : Keeps (g.S.Space.view l.fn.space) (g.S.Space.view l.space);
  so_far : (bytes : List ℕ) → (g.S.Space.view l.fn.space).bytes ≡ Some bytes →
      OthersBefore l.formats l.start (bits_of bytes) l.place l.others;
}
