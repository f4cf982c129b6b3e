-- What standard output holds of the places of values.
use Rattle.std.proofs.Common.{◌∙◌, ℕ, List, [], ◌∷◌, ◌++◌, Option, Ok, sym, ap, subst}
use Rattle.std.proofs.lemmas.List.{append-nil}
use Rattle.std.proofs.lemmas.List.Folds.{concat-append}
use Rattle.std.specs.List.{concat}
use Rattle.bit_space.specs.SpaceView.{SpaceView}
use Rattle.command_line.specs.declared.request.ValueSearch.{ValueSearch}
use Rattle.jobs.specs.Due.{Holds, early, whole}
use Rattle.jobs.specs.Tasks.{DueSearch, all_values, first_values, search_of}
use Rattle.jobs.specs.declared.ending.Ending.TheVariants.{Run}
use Rattle.jobs.proofs.Holding.{upto_next}
use Rattle.poke_batch.specs.declared.type_run.TypeRun.{TypeRun}
use Rattle.searches.specs.Written.{WritesSearch, finds, one_more, output_fails, writes_all}
use Rattle.searches.specs.declared.search.Reach.{Reach}
use Rattle.run_parts.specs.Told.{AppendsUpTo}
use Rattle.run_parts.specs.declared.outcome.Outcome.{Outcome}

pub search_holds : (search : ValueSearch) (file after : SpaceView) (run : TypeRun) (at : Reach) (ended : Outcome)
    (out out' : Option (List ℕ)) → WritesSearch run (search_of search) file after out out' at ended
    → Holds (DueSearch run search file after) out out' (Ok (Run ended))
search_holds search file after run at ended out out' (writes_all searched ends appends) =
    whole (all_values searched ends) appends
search_holds search file after run at _ out out'
    (output_fails {lines = lines} {line = line} {out'' = out''} searched on hit writes appends cut) =
    early (first_values (one_more searched on (finds hit writes)))
    (subst (λ text. AppendsUpTo out out' text)
    (sym (concat-append lines (line ∷ []) ∙ ap (λ text. concat lines ++ text) (append-nil line)))
    (upto_next out out'' out' (concat lines) line appends cut))
