-- Starts that are passed over are attempts that find nothing.
use Rattle.std.proofs.Common.{◌≡◌, ◌∙◌, ◌<◌, ◌≤◌, ◌+◌, ◌-◌, ◌*◌, ℕ, zero, suc, Bool, true, not, List, [], Option, Some, None, Result, Ok, Err, IfOk, refl, sym, ap, subst, arith}
use Rattle.std.proofs.KnownBytes.{Appends-nil}
use Rattle.std.proofs.Math.Nat.{suc-mul}
use Rattle.std.proofs.lemmas.Bool.{and_parts, lt-ltb}
use Rattle.std.specs.List.{concat}
use Rattle.std.specs.Prelude.{◌&&◌, min, nat_lt}
use Rattle.bit_space.specs.SpaceView.{IsWhole, Keeps, SpaceView}
use Rattle.first_numbers.proofs.Screened.{allowed_too}
use Rattle.first_numbers.specs.Screens.{AreMisses, IsMiss}
use Rattle.first_numbers.specs.declared.sieve.Miss.{Miss}
use Rattle.first_numbers.specs.declared.sieve.Stretch.{Stretch}
use Rattle.pickle_meaning.specs.declared.faults.MapFaultKind.TheVariants as fault
use Rattle.poke_batch.specs.TypeRuns.{run_type}
use Rattle.poke_batch.specs.declared.type_run.TypeRun.{TypeRun}
use Rattle.records.specs.declared.attempt.Stopped.{Stopped}
use Rattle.run_parts.specs.declared.outcome.Outcome.{Outcome}
use Rattle.searches.proofs.Missed.{miss_there}
use Rattle.searches.proofs.Reached.{HasMoved, IsSearched, has_moved, one_searched}
use Rattle.searches.proofs.Trials.{is_miss, on_since}
use Rattle.searches.specs.Passed.{Passes, PassesSome, after_starts, none_passed, one_passed}
use Rattle.searches.specs.Starts.{IsFew, after_stop, allowed, ask_at, goes_on, is_counted}
use Rattle.searches.specs.Trial.{Advances, GoesOn, one_tried, some_passed}
use Rattle.searches.specs.Written.{Tries, misses}
use Rattle.searches.specs.declared.search.Reach.{Reach}
use Rattle.searches.specs.declared.search.Search.{Search}
use Rattle.text_output.proofs.Parts.{Appends-keeps}

-- the run of an attempt
abbrev attempt_at : TypeRun → Search → Reach → TypeRun
attempt_at run search at = record run { ask = record run.ask { now = ask_at search at run.ask.now } }

-- a start at which the first numbers fail
module _ (run : TypeRun) (search : Search) (first before : SpaceView) (since : Keeps first before)
    (whole : IsWhole before) where
  one_start : (at : Reach) (miss : Miss) → miss.steps ≤ allowed search at.left
      → IsMiss (run_type run) before run.ask.now.order at.place search.attempt_limit miss → (next : Reach)
      → after_stop search run.terms.now.most_bytes at fault.Constraint miss.steps (8 * before.len) ≡ Some next
      → Tries run search first at next []
  one_start at miss few is next goes =
      let stop : Stopped =
      record { fault = record { kind = fault.Constraint; at = at.place + miss.distance }; steps = miss.steps } in
      let mine = attempt_at run search at in
      misses
      (is_miss run mine search first before at (record { table = refl; id = refl; terms = refl; ask = refl }) since
      before stop (miss_there mine before before miss stop whole (allowed_too few is) refl))
      (subst (λ (len : ℕ).
      after_stop search run.terms.now.most_bytes at fault.Constraint miss.steps (8 * len) ≡ Some next) since.len goes)

  -- the search goes on where a start before was in the file
  still_goes : (at : Reach) (place left : ℕ) → goes_on search at (8 * before.len) ≡ true → place < 8 * before.len →
      goes_on search (record { place = place; found = at.found; left = left; given_up = at.given_up }) (8 * first.len)
      ≡ true
  still_goes at place left on inside =
      let more = (and_parts (not (is_counted search at.found)) (nat_lt at.place (8 * before.len)) on).0 in
      let mid : Reach = record { place = place; found = at.found; left = left; given_up = at.given_up } in
      let both : goes_on search mid (8 * before.len) ≡ true =
      ap (λ (b : Bool). b && nat_lt place (8 * before.len)) more ∙ lt-ltb place (8 * before.len) inside in
      on_since search mid first before since both

  -- so many of them, one after the other
  stretch_passes : (at : Reach) (miss : Miss) (n : ℕ)
      → ((k : ℕ) → k < n → IsMiss (run_type run) before run.ask.now.order (at.place + k * search.step)
      search.attempt_limit miss)
      → n * miss.steps ≤ at.left → ((k : ℕ) → k < n → at.place + k * search.step < 8 * before.len)
      → goes_on search at (8 * before.len) ≡ true → at.place < 8 * before.len
      → Passes run search first at (after_starts search at n miss.steps (8 * before.len))
  stretch_passes at miss zero are paid inside on here =
      let same_place : at.place ≡ min (at.place + 0 * search.step) (8 * before.len) = omega (arith, here) in
      let same_left : at.left ≡ at.left - 0 * miss.steps = omega arith in
      subst (λ (place : ℕ). Passes run search first at (record {
        place = place;
        found = at.found;
        left = at.left - 0 * miss.steps;
        given_up = at.given_up;
      })) same_place
      (subst (λ (left : ℕ). Passes run search first at (record {
        place = at.place;
        found = at.found;
        left = left;
        given_up = at.given_up;
      })) same_left none_passed)
  stretch_passes at miss (suc n) are paid inside on here =
      let bits = 8 * before.len in
      let mid = after_starts search at n miss.steps bits in
      let last = inside n (omega arith) in
      let more = suc-mul n search.step in
      let cost = suc-mul n miss.steps in
      let there : at.place + n * search.step ≡ min (at.place + n * search.step) bits = omega (arith, last) in
      let is = are n (omega arith) in
      let few = is.missed.few in
      let next_place : min (min (at.place + n * search.step) bits + search.step) bits
      ≡ min (at.place + suc n * search.step) bits = omega (arith, last, more) in
      let next_left : at.left - n * miss.steps - miss.steps ≡ at.left - suc n * miss.steps =
      omega (arith, cost) in
      one_passed
      (stretch_passes at miss n (λ k lt. are k (omega (arith, lt))) (omega (arith, paid, cost))
      (λ k lt. inside k (omega (arith, lt))) on here)
      (still_goes at (min (at.place + n * search.step) bits) (at.left - n * miss.steps) on (omega (arith, last)))
      (one_start mid miss (omega (arith, few, paid, cost))
      (subst (λ (start : ℕ). IsMiss (run_type run) before run.ask.now.order start search.attempt_limit miss) there is)
      (after_starts search at (suc n) miss.steps bits)
      (ap (λ (place : ℕ). Some (record {
        place = place;
        found = at.found;
        left = at.left - n * miss.steps - miss.steps;
        given_up = at.given_up;
      })) next_place
      ∙ ap (λ (left : ℕ). Some (record {
        place = min (at.place + suc n * search.step) bits;
        found = at.found;
        left = left;
        given_up = at.given_up;
      })) next_left))

  pub stretch_passed : (at next : Reach) (stretch : Stretch) (bits : ℕ) → bits ≡ 8 * before.len
      → AreMisses (run_type run) before run.ask.now.order at.place search.step search.attempt_limit stretch
      → at.place < bits → goes_on search at (8 * before.len) ≡ true → PassesSome search at stretch bits next
      → Passes run search first at next
  stretch_passed at next stretch bits same are here on h =
      let few = h.few in
      subst (λ (next : Reach). Passes run search first at next) (sym h.is)
      (subst (λ (bits : ℕ). Passes run search first at (after_starts search at h.count stretch.miss.steps bits))
      (sym same)
      (stretch_passes at stretch.miss h.count (λ k lt. are k (omega (arith, lt, few))) h.paid
      (λ k lt. let inside = h.inside k lt in omega (arith, inside, same)) on (omega (arith, here, same))))

module _ (run : TypeRun) (search : Search) (first : SpaceView) where
  goes_past : {mid next : Reach} (out : Option (List ℕ)) → goes_on search mid (8 * first.len) ≡ true
      → Tries run search first mid next [] → GoesOn run search first mid out out next
  goes_past out on tries = record { more = []; on = on; tries = tries; takes = Appends-nil out }

  -- no line is due of these starts
  many_searched : {at next : Reach} (out out' : Option (List ℕ)) → IsSearched run search first at out out'
      → Passes run search first at next → IsSearched run search first next out out'
  many_searched out out' h none_passed = h
  many_searched out out' h (one_passed {mid} {next} so_far on tries) =
      one_searched run search first mid next out out' out' (many_searched out out' h so_far) (goes_past out' on tries)

  -- how far they lead
  pub record StaysInside (next : Reach) : Type 0 where
    pub few : IsFew next
    pub inside : next.place ≤ 8 * first.len

  passes_inside : {at next : Reach} → 0 < search.step → IsFew at → at.place ≤ 8 * first.len
      → Passes run search first at next → StaysInside next
  passes_inside some few inside none_passed = record { few = few; inside = inside }
  passes_inside some few inside (one_passed {mid} {next} so_far on tries) =
      let there = passes_inside some few inside so_far in
      let moved = has_moved run search first mid next None None some there.few (goes_past None on tries) in
      record { few = moved.few; inside = moved.inside }

  -- a search advances, and what is due is written
  pub advance_searched : (at next : Reach) (out out' out'' : Option (List ℕ)) → IsSearched run search first at out out'
      → Advances run search first at out' out'' next → IsSearched run search first next out out''
  advance_searched at next out out' out'' h (one_tried goes) =
      one_searched run search first at next out out' out'' h goes
  advance_searched at next out out' out'' h (some_passed passes further keeps) =
      let there = many_searched out out' h passes in record {
        lines = there.lines;
        searches = there.searches;
        appends = Appends-keeps out out' out'' (concat there.lines) there.appends keeps;
      }

  pub advance_moves : (at next : Reach) (out out' : Option (List ℕ)) → 0 < search.step → IsFew at
      → at.place ≤ 8 * first.len → Advances run search first at out out' next → HasMoved at (8 * first.len) next
  advance_moves at next out out' some few inside (one_tried goes) =
      has_moved run search first at next out out' some few goes
  advance_moves at next out out' some few inside (some_passed passes further keeps) =
      let there = passes_inside some few inside passes in
      record { few = there.few; moves = further; inside = there.inside }

  pub tried_later : (at : Reach) (out out' : Option (List ℕ)) (result : Result Reach Outcome)
      → IfOk result (GoesOn run search first at out out') → IfOk result (Advances run search first at out out')
  tried_later at out out' (Ok next) goes = one_tried goes
  tried_later at out out' (Err ended) goes = tt
