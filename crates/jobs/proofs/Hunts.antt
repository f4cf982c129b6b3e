-- What standard output holds of a search for many formats.
use Rattle.std.proofs.Common.{ℕ, List, ◌++◌, Option, Ok, sym, subst}
use Rattle.std.proofs.lemmas.List.{append-nil}
use Rattle.std.specs.Io.KnownBytes.{Appends}
use Rattle.bit_space.specs.SpaceView.{SpaceView}
use Rattle.command_line.specs.declared.request.Request.{Request}
use Rattle.command_line.specs.declared.request.ValueSearch.{ValueSearch}
use Rattle.identification.specs.declared.format.Formats.{Formats}
use Rattle.jobs.specs.Due.{Holds, early, whole}
use Rattle.jobs.specs.Hunted.{DueFound, IsHuntOf, all_found, first_found}
use Rattle.jobs.specs.declared.ending.Ending.TheVariants.{Run}
use Rattle.jobs.proofs.Holding.{upto_next}
use Rattle.run_parts.specs.Told.{AppendsUpTo}
use Rattle.run_parts.specs.declared.outcome.Outcome.{Outcome}
use Rattle.searches.specs.Rounds.{WritesTypes, one_round, output_fails, writes_all}
use Rattle.searches.specs.declared.hunt.Hunt.{Hunt}
use Rattle.searches.specs.declared.search.Reach.{Reach}

pub hunt_holds : (request : Request) (search : ValueSearch) (formats : Formats) (start : ℕ) (file after : SpaceView)
    (hunt : Hunt) (at : Reach) (ended : Outcome) (out out' : Option (List ℕ))
    → IsHuntOf request search formats start file.len hunt → WritesTypes hunt file after out out' at ended
    → Holds (DueFound request search formats start file after) out out' (Ok (Run ended))
hunt_holds request search formats start file after hunt at ended out out' is
    (writes_all {text = text} rounds ends appends) =
    whole (all_found is rounds ends) (subst (λ text. Appends out out' text) (sym (append-nil text)) appends)
hunt_holds request search formats start file after hunt at _ out out' is
    (output_fails {text = text} {more = more} {out'' = out''} rounds on tries appends cut) =
    early (first_found is (one_round rounds on tries))
    (subst (λ text. AppendsUpTo out out' text) (sym (append-nil (text ++ more)))
    (upto_next out out'' out' text more appends cut))
