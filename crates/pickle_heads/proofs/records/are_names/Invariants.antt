use Rattle.std.proofs.Common.{◌≡◌, true, drop}
use Rattle.pickle_heads.specs.Records.{is_path_from}
use Rattle.pickle_heads.proofs.records.are_names.Given as goal

abbrev pub invariant-loop-byte : goal.invariant-loop-byte
invariant-loop-byte l = is_path_from true l.fn.text ≡ is_path_from l.first (drop l.byte-index l.text)
