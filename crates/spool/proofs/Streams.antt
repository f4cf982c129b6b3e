-- Laws of what is read of a stream.
use Rattle.std.proofs.Common.{ℕ, ◌+◌, ◌≤◌, List, ◌++◌, Option, take, length, arith}
use Rattle.std.specs.Io.KnownBytes.{Consumes}
use Rattle.std.proofs.KnownBytes.{Consumes-trans}
use Rattle.std.proofs.lemmas.List.{length-append, length-take}
use Rattle.spool.specs.Stream.{LosesUpTo}

-- a page was read after other bytes
pub loses_more : (a b c : Option (List ℕ)) (bytes page : List ℕ) (n most : ℕ) → Consumes a b bytes →
    Consumes b c (take n page) → length bytes + n ≤ most → LosesUpTo most a c
loses_more a b c bytes page n most h g le = record {
  taken = bytes ++ take n page;
  consumes = Consumes-trans a b c bytes (take n page) h g;
  few = omega (arith, length-append bytes (take n page), length-take n page, le);
}
