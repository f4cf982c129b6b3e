-- What standard output holds of a list inside a value.
use Rattle.std.proofs.Common.{◌≡◌, ◌≢◌, ◌∙◌, ℕ, Bool, true, false, List, [], Option, Some, None, Ok, sym, ap, subst, refl}
use Rattle.std.specs.Prelude.{option_copied, option_map, unwrap_or, not}
use Rattle.std.specs.Borrow.{Bor}
use Rattle.std.specs.List.{concat}
use Rattle.std.proofs.lemmas.List.Folds.{concat-append}
use Rattle.bit_space.specs.SpaceView.{SpaceView}
use Rattle.command_line.specs.Paths.{IsPath, PathStep, steps_of}
use Rattle.command_line.specs.declared.request.RecordList.{RecordList}
use Rattle.inner_records.specs.Elements.{EndsElements, IsElement}
use Rattle.inner_records.specs.Find.{fields_in}
use Rattle.inner_records.specs.Written.{IsElementRun, IsReached, WritesInner, begin_at, not_reached, reached}
use Rattle.inner_records.specs.declared.find.InnerList.{InnerList}
use Rattle.list_laws.specs.Meanings.{bytes_in}
use Rattle.list_laws.specs.Paths.{Path as Fields, is_last}
use Rattle.list_laws.specs.Reaches.{Listed}
use Rattle.poke_batch.specs.TypeRuns.{run_type}
use Rattle.poke_batch.specs.declared.type_run.TypeRun.{TypeRun}
use Rattle.records.specs.Written.{WritesFrom, one_more, output_fails, writes_all}
use Rattle.records.specs.declared.listing.Progress.{Progress}
use Rattle.run_parts.specs.Told.{AppendsUpTo}
use Rattle.run_parts.specs.declared.outcome.Outcome.{Outcome}
use Rattle.run_parts.specs.declared.outcome.Outcome.TheVariants as outcome
use Rattle.jobs.specs.Chosen.{list_path}
use Rattle.jobs.specs.Due.{Holds, early, whole}
use Rattle.jobs.specs.Tasks.{DueElements, LacksHeadPath, all_elements, first_elements, listing_of, no_elements, unsaid}
use Rattle.jobs.specs.declared.ending.Ending.TheVariants.{Run}
use Rattle.jobs.proofs.Holding.{no_text, upto_next}

not_said : (text : List ℕ) → None ≡ Some text → ⊥
not_said text is = cc

-- a head says no path to a list
pub no_path : (found : Option (Bor (List ℕ))) (bytes pickle : List ℕ) → ((text : Bor (List ℕ)) → found ≢ Some text)
    → option_copied found ≡ list_path bytes → bytes ≡ pickle
    → LacksHeadPath pickle outcome.ImpossiblePart
no_path None bytes pickle none is same = unsaid (λ path h. not_said h.text (is ∙ ap list_path same ∙ h.said))
no_path (Some text) bytes pickle none is same = absurd (none text refl)

-- or a text that is no path
pub odd_path : (text : Bor (List ℕ)) (found : Option (Bor (List ℕ))) (bytes pickle : List ℕ) → found ≡ Some text
    → option_copied found ≡ list_path bytes → bytes ≡ pickle → ((steps : List PathStep) → ¬ (IsPath text.now steps))
    → LacksHeadPath pickle outcome.ImpossiblePart
odd_path text found bytes pickle some is same wrong =
    unsaid (λ path h.
    let said : Some text.now ≡ Some h.text = sym (ap option_copied some) ∙ is ∙ ap list_path same ∙ h.said in
    let IsText : List ℕ → Type 0 = λ t. IsPath t (steps_of path.steps.items) in
    wrong (steps_of path.steps.items) (subst IsText (sym (ap (λ t. unwrap_or t []) said)) h.is))

module _ (run : TypeRun) (fields : Fields) (list : RecordList) (file after : SpaceView) where
  from_there : {listed : Listed} {left : ℕ} {inner : TypeRun} {at : Progress} {ended : Outcome}
      {out out' : Option (List ℕ)}
      → IsReached run fields (bytes_in file) listed left → IsElementRun run listed inner
      → WritesFrom (IsElement listed (bytes_in file))
      (EndsElements inner (listing_of list) file after listed (is_last (run_type run) fields)) inner (listing_of list)
      file (begin_at list.resume listed.start left) out out' at ended
      → Holds (DueElements run fields list file after) out out' (Ok (Run ended))
  from_there there is (writes_all lists ends appends) = whole (all_elements there is lists ends) appends
  from_there {out = out} {out' = out'} there is
      (output_fails {lines = lines} {more = more} {out'' = out''} lists adds due appends cut) =
      early (first_elements there is (one_more lists adds))
      (subst (λ text. AppendsUpTo out out' text) (sym (concat-append lines more))
      (upto_next out out'' out' (concat lines) (concat more) appends cut))

  -- the elements, or nothing before the list is reached
  pub elements_hold : (at : Progress) (ended : Outcome) (out out' : Option (List ℕ))
      → WritesInner run fields list.resume (listing_of list) file after out out' at ended
      → Holds (DueElements run fields list file after) out out' (Ok (Run ended))
  elements_hold at ended out out' (not_reached none keeps) =
      no_text (DueElements run fields list file after) (Ok (Run ended)) out out' (no_elements none) keeps
  elements_hold at ended out out' (reached there writes) = from_there there writes.is_inner writes.writes

-- what isn't so is false
pub is_false : (so : Bool) → not so ≡ true → so ≡ false
is_false true h = cc
is_false false h = refl

-- the fields that lead to a list which was found
pub found_at : (found : Option InnerList) (list : InnerList) (fields : Option Fields) → found ≡ Some list
    → option_map fields_in found ≡ fields → fields ≡ Some (fields_in list)
found_at found list fields some is = sym is ∙ ap (option_map fields_in) some
