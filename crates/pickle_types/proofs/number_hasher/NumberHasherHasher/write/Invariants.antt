use Rattle.std.proofs.Common.{◌≡◌, ◌<◌, ◌≤◌, drop, length}
use Rattle.pickle_types.specs.Hashes.{number_of}
use Rattle.pickle_types.proofs.number_hasher.NumberHasherHasher.write.Given as goal

abbrev pub invariant-loop-left : goal.invariant-loop-left
invariant-loop-left l = record {
  small : l.number < 4294967296;
  within : l.left ≤ length l.bytes;
  rest : number_of l.self.number (drop l.left l.bytes) ≡ l.number;
}

abbrev pub decreases-loop-left : goal.decreases-loop-left
decreases-loop-left l = l.left
