-- The records of a list so far, and how it ends.
use Rattle.std.proofs.Common.{◌≡◌, inl, inr, ◌<◌, ◌≤◌, ◌*◌, ℕ, true, false, not, List, [], ◌++◌, Option, sym, subst, arith}
use Rattle.std.proofs.KnownBytes.{Appends-nil, Appends-trans}
use Rattle.std.proofs.lemmas.Bool.{and_parts, and_cases, ltb-true, ltb-false, not-true, not-false}
use Rattle.std.proofs.lemmas.List.Folds.{concat-append}
use Rattle.std.specs.Io.KnownBytes.{Appends}
use Rattle.std.specs.List.{concat}
use Rattle.std.specs.Prelude.{nat_lt}
use Rattle.bit_space.specs.SpaceView.{SpaceView}
use Rattle.mapping_plans.proofs.Fitting.{fits_inside}
use Rattle.pickle_meaning.specs.Values.{Value, end_of, no_values}
use Rattle.poke_batch.specs.TypeRuns.{run_type}
use Rattle.poke_batch.specs.declared.type_run.TypeRun.{TypeRun}
use Rattle.records.specs.Next.{EndsHereBy, GoesOnBy, cut_off, no_more}
use Rattle.records.specs.Records.{IsRecord, first_of, goes_on, is_counted}
use Rattle.records.specs.Written.{ListsFrom, WritesFrom, WritesList, at_end, counted, no_records, one_more, output_fails, writes_all}
use Rattle.records.specs.declared.listing.Listing.{Listing}
use Rattle.records.specs.declared.listing.Progress.{Progress}
use Rattle.run_parts.specs.declared.outcome.Outcome.{Outcome}
use Rattle.run_parts.specs.declared.outcome.Outcome.TheVariants as outcome
use Rattle.text_output.proofs.Parts.{Appends-keeps}

-- a list that goes on is in the file, and isn't counted out
pub still_on : (listing : Listing) (at : Progress) (bits : ℕ) → goes_on listing at bits ≡ true →
    (is_counted listing at.count ≡ false) × (at.place < bits)
still_on listing at bits on =
    let parts = and_parts (not (is_counted listing at.count)) (nat_lt at.place bits) on in
    (not-true (is_counted listing at.count) parts.0, ltb-true at.place bits parts.1)

module _ (IsNext : Progress → Value → (steps : ℕ) → Type 0) (run : TypeRun) (listing : Listing) (first : SpaceView)
    (begin : Progress) where
  -- so far the list is, and its texts are written
  pub record IsListed (at : Progress) (out out' : Option (List ℕ)) : Type 0 where
    pub lines : List (List ℕ)
    pub lists : ListsFrom IsNext run listing first begin at lines
    pub appends : Appends out out' (concat lines)

  pub none_listed : (at : Progress) (out : Option (List ℕ)) → at ≡ begin → IsListed at out out
  none_listed at out is = subst (λ (p : Progress). IsListed p out out) (sym is)
      (record { lines = []; lists = no_records; appends = Appends-nil out })

  -- and after one more record
  pub one_listed : (at next : Progress) (out out' out'' : Option (List ℕ)) → IsListed at out out'
      → GoesOnBy IsNext run listing first at out' out'' next → IsListed next out out''
  one_listed at next out out' out'' h g = record {
    lines = h.lines ++ g.more;
    lists = one_more h.lists g.adds;
    appends = subst (λ (text : List ℕ). Appends out out'' text) (sym (concat-append h.lines g.more))
        (Appends-trans out out' out'' (concat h.lines) (concat g.more) h.appends g.takes);
  }

  -- each record takes a bit, and ends in the file
  pub few_listed : (bits : ℕ)
      → ((at : Progress) (value : Value) (steps : ℕ) → IsNext at value steps → end_of value ≤ bits)
      → (at next : Progress) (out out' : Option (List ℕ)) → at.count ≤ at.place
      → GoesOnBy IsNext run listing first at out out' next
      → (next.count ≤ next.place) × (at.place < next.place) × (next.place ≤ bits)
  few_listed bits ends at next out out' few g =
      subst (λ (p : Progress). (p.count ≤ p.place) × (at.place < p.place) × (p.place ≤ bits))
      (sym g.adds.is_after)
      (let moves = g.adds.moves in (
        omega (arith, few, moves),
        moves,
        ends at g.adds.value g.adds.steps g.adds.mapped,
      ))

  -- it ends at the next record
  pub ends_there : (Ends : Progress → Outcome → Type 0) (at : Progress) (out out' out'' : Option (List ℕ))
      (ended : Outcome) → IsListed at out out' → EndsHereBy IsNext Ends run listing first at out' out'' ended
      → WritesFrom IsNext Ends run listing first begin out out'' at ended
  ends_there Ends at out out' out'' ended h (no_more ends keeps) =
      writes_all h.lists ends (Appends-keeps out out' out'' (concat h.lines) h.appends keeps)
  ends_there Ends at out out' out'' _ h (cut_off adds due takes) = output_fails h.lists adds due h.appends takes

module _ (run : TypeRun) (listing : Listing) (first : SpaceView) where
  -- a record ends in the file
  pub record_inside : (at : Progress) (value : Value) (steps : ℕ) → IsRecord run first at value steps →
      end_of value ≤ 8 * first.len
  record_inside at value steps mapped =
      fits_inside (8 * first.len) (run_type run) no_values at.place value mapped.fits

  -- a list ends since it doesn't go on
  pub ends_done : (pickle : List ℕ) (last : SpaceView) (at : Progress) (bits : ℕ) (out out' : Option (List ℕ))
      → bits ≡ 8 * first.len → at.place ≤ bits → goes_on listing at bits ≡ false
      → IsListed (IsRecord run first) run listing first (first_of run.ask.now) at out out'
      → WritesList pickle run listing first last out out' at outcome.Done
  ends_done pickle last at bits out out' same inside off h =
      writes_all h.lists
      (elim (and_cases (not (is_counted listing at.count)) (nat_lt at.place bits) off) [
        | inl full ↦ counted (not-false (is_counted listing at.count) full)
        | inr past ↦ at_end (let most = ltb-false at.place bits past in omega (arith, most, inside, same))
      ])
      h.appends
