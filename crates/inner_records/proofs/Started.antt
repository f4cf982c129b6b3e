-- A list that was reached, and what is written of its elements.
use Rattle.std.proofs.Common.{◌≡◌, ℕ, List, Option, sym, subst}
use Rattle.std.specs.Prelude.{Bool}
use Rattle.std.specs.Io.KnownBytes.{Keeps as KeepsBytes}
use Rattle.bit_space.specs.SpaceView.{SpaceView}
use Rattle.inner_records.specs.Written.{HasNoList, IsElementRun, IsReached, WritesElements, WritesInner, WritesOf, begin_at, not_reached, reached}
use Rattle.list_laws.specs.Meanings.{bytes_in}
use Rattle.list_laws.specs.Paths.{Path, is_last}
use Rattle.list_laws.specs.Reaches.{Listed}
use Rattle.poke_batch.specs.TypeRuns.{run_type}
use Rattle.poke_batch.specs.declared.type_run.TypeRun.{TypeRun}
use Rattle.records.specs.Records.{first_of}
use Rattle.records.specs.declared.listing.Listing.{Listing}
use Rattle.records.specs.declared.listing.Progress.{Progress}
use Rattle.run_parts.specs.declared.outcome.Outcome.{Outcome}

module _ (run : TypeRun) (path : Path) (resume : Option ℕ) (listing : Listing) (first last : SpaceView)
    (out out' : Option (List ℕ)) (at : Progress) (ended : Outcome) where
  -- nothing is written where no list is reached
  pub writes_nothing : HasNoList run path first last ended → KeepsBytes out out' → at ≡ first_of run.ask.now
      → WritesInner run path resume listing first last out out' at ended
  writes_nothing none keeps is =
      subst (λ (p : Progress). WritesInner run path resume listing first last out out' p ended) (sym is)
      (not_reached none keeps)

  -- the elements of the list that is reached are written
  pub writes_elements : (list : Listed) (left : ℕ) (b : Bool) → b ≡ is_last (run_type run) path
      → IsReached run path (bytes_in first) list left
      → WritesElements run list left b resume listing first last out out' at ended
      → WritesInner run path resume listing first last out out' at ended
  writes_elements list left b is found writes =
      reached found
      (subst (λ (l : Bool). WritesElements run list left l resume listing first last out out' at ended) is writes)

module _ (run inner : TypeRun) (list : Listed) (left : ℕ) (is_last : Bool) (resume : Option ℕ) (listing : Listing)
    (first last : SpaceView) (out out' : Option (List ℕ)) (at : Progress) (ended : Outcome) where
  -- the run of an element's type writes them
  pub writes_by : (begin : Progress) → IsElementRun run list inner → begin ≡ begin_at resume list.start left
      → WritesOf inner listing first last list is_last begin out out' at ended
      → WritesElements run list left is_last resume listing first last out out' at ended
  writes_by begin is_inner is writes = record {
    inner = inner;
    is_inner = is_inner;
    writes = subst (λ (b : Progress). WritesOf inner listing first last list is_last b out out' at ended) is writes;
  }
