use Rattle.std.proofs.Common.{◌≤◌, ◌-◌, vec_len}
use Rattle.std.specs.Io.KnownBytes.{Consumes}
use Rattle.run_parts.proofs.pickle.read_pickle.Given as goal

abbrev pub invariant-loop-page : goal.invariant-loop-page
invariant-loop-page g l =
    record {
      few : vec_len l.bytes ≤ 1048577;
      taken : Consumes (g.R.Read.remaining l.initial.reader) (g.R.Read.remaining l.reader) l.bytes.items;
    }

abbrev pub decreases-loop-page : goal.decreases-loop-page
decreases-loop-page g l = 1048577 - vec_len l.bytes
