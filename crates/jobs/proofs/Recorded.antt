-- What standard output holds of the records of a list.
use Rattle.std.proofs.Common.{ℕ, List, Option, Ok, sym, subst}
use Rattle.std.proofs.lemmas.List.Folds.{concat-append}
use Rattle.std.specs.List.{concat}
use Rattle.bit_space.specs.SpaceView.{SpaceView}
use Rattle.command_line.specs.declared.request.RecordList.{RecordList}
use Rattle.jobs.specs.Due.{Holds, early, whole}
use Rattle.jobs.specs.Tasks.{DueList, all_records, first_records, listing_of}
use Rattle.jobs.specs.declared.ending.Ending.TheVariants.{Run}
use Rattle.jobs.proofs.Holding.{upto_next}
use Rattle.poke_batch.specs.declared.type_run.TypeRun.{TypeRun}
use Rattle.records.specs.Written.{WritesList, one_more, output_fails, writes_all}
use Rattle.records.specs.declared.listing.Progress.{Progress}
use Rattle.run_parts.specs.Told.{AppendsUpTo}
use Rattle.run_parts.specs.declared.outcome.Outcome.{Outcome}

pub list_holds : (pickle : List ℕ) (list : RecordList) (file after : SpaceView) (run : TypeRun) (at : Progress)
    (ended : Outcome) (out out' : Option (List ℕ))
    → WritesList pickle run (listing_of list) file after out out' at ended
    → Holds (DueList pickle run list file after) out out' (Ok (Run ended))
list_holds pickle list file after run at ended out out' (writes_all listed ends appends) =
    whole (all_records listed ends) appends
list_holds pickle list file after run at _ out out'
    (output_fails {lines = lines} {more = more} {out'' = out''} listed adds due appends cut) =
    early (first_records (one_more listed adds))
    (subst (λ text. AppendsUpTo out out' text) (sym (concat-append lines more))
    (upto_next out out'' out' (concat lines) (concat more) appends cut))
