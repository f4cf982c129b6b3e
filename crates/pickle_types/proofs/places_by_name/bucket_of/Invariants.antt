use Rattle.std.proofs.Common.{◌≡◌, ◌<◌, drop}
use Rattle.pickle_types.specs.PlacesByName.{scattered}
use Rattle.pickle_types.proofs.places_by_name.bucket_of.Given as goal

abbrev pub invariant-loop-byte : goal.invariant-loop-byte
invariant-loop-byte l = record {
  small : l.scattered < 65536;
  rest : scattered l.scattered (drop l.byte-index l.word) ≡ scattered 0 l.word;
}
