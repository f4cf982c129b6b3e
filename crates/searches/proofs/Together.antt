-- Starts that all types of a search are passed over at are starts without a value.
use Rattle.std.proofs.Common.{◌≡◌, ◌∙◌, ◌<◌, ◌≤◌, ◌+◌, ◌-◌, ◌*◌, ℕ, zero, suc, Bool, true, false, not, List, [], ◌++◌, Option, Some, None, Result, Ok, Err, IfOk, IfSome, length, slice_index, refl, sym, ap, subst, arith}
use Rattle.std.proofs.KnownBytes.{Appends-nil}
use Rattle.std.proofs.Math.Nat.{suc-mul}
use Rattle.std.proofs.lemmas.Bool.{and_parts, le-leb, lt-leb, lt-ltb}
use Rattle.std.specs.Io.KnownBytes.{Keeps as KeepsBytes}
use Rattle.std.specs.Prelude.{◌&&◌, min, nat_le, nat_lt}
use Rattle.bit_space.specs.SpaceView.{IsWhole, Keeps, SpaceView}
use Rattle.first_numbers.proofs.Screened.{allowed_too, miss_before}
use Rattle.first_numbers.specs.Screens.{AreMisses, IsMiss}
use Rattle.first_numbers.specs.declared.sieve.Stretch.{Stretch}
use Rattle.pickle_meaning.specs.declared.faults.MapFaultKind.TheVariants as fault
use Rattle.pickle_types.specs.TypeTable.{type_named}
use Rattle.poke_batch.specs.declared.type_run.TypeRun.{TypeRun}
use Rattle.records.proofs.Nexts.{view_kept}
use Rattle.records.specs.declared.attempt.Stopped.{Stopped}
use Rattle.run_parts.specs.declared.outcome.Outcome.{Outcome}
use Rattle.searches.proofs.Hunts.{IsHunted, one_hunted, round_moves}
use Rattle.searches.proofs.Missed.{miss_there}
use Rattle.searches.proofs.Probes.{has_miss}
use Rattle.searches.proofs.Trials.{on_since}
use Rattle.searches.specs.Passed.{PassesSome, after_starts}
use Rattle.searches.specs.Round.{GoesRound}
use Rattle.searches.specs.Rounds.{IsNth, TriesAll, TriesNext, TriesTypes, due, no_types, not_due, one_round, one_type}
use Rattle.searches.specs.Sought.{ask_in, is_due, moved, past_stop, spent, unsigned}
use Rattle.searches.specs.Starts.{allowed, goes_on, is_counted}
use Rattle.searches.specs.Stretches.{AdvancesRound, PassesList, PassesNth, PassesStarts, PassesType, PassesTypes, fails, later, none_pass, none_passed, one_passed, one_passes, one_tried, some_passed}
use Rattle.searches.specs.declared.hunt.Hunt.{Hunt}
use Rattle.searches.specs.declared.search.Reach.{Reach}
use Rattle.searches.specs.declared.search.Search.{Search}
use Rattle.searches.specs.declared.sought.Sought.{Sought}
use Rattle.text_output.proofs.Parts.{Appends-keeps}

-- ---- what is known of the types

-- fewer starts are passed over too
fewer_pass : {hunt : Hunt} {space : SpaceView} {at : Reach} {places : List ℕ} {count done steps : ℕ} (less : ℕ) →
    less ≤ count → PassesTypes hunt space at places count done steps → PassesTypes hunt space at places less done steps
fewer_pass less few none_pass = none_pass
fewer_pass less few (one_passes so_far own within) =
    one_passes (fewer_pass less few so_far) own (omega (arith, few, within))

type_before : {hunt : Hunt} {first now : SpaceView} {at : Reach} {place : ℕ} {sought : Sought} {stretch : Stretch} →
    Keeps first now → PassesType hunt now at place sought stretch → PassesType hunt first at place sought stretch
type_before keeps (later before free) = later before free
type_before keeps (fails here misses) = fails here (λ k few. miss_before keeps (misses k few))

-- what was known after other reads, with one more type
pub more_pass : {hunt : Hunt} {first now : SpaceView} {at : Reach} {places : List ℕ} {done : ℕ}
    (common own both : Stretch) → Keeps first now → both.count ≡ min common.count own.count →
    both.miss.steps ≡ common.miss.steps + own.miss.steps →
    PassesTypes hunt first at places common.count done common.miss.steps → PassesNth hunt now at places done own →
    PassesTypes hunt first at places both.count (done + 1) both.miss.steps
more_pass {hunt} {first} {now} {at} {places} {done} common own both keeps count steps so_far h =
    let here : PassesNth hunt first at places done own =
    record { sought = h.sought; nth = h.nth; passes = type_before keeps h.passes } in
    subst (λ (steps : ℕ). PassesTypes hunt first at places both.count (done + 1) steps) (sym steps)
    (one_passes (fewer_pass both.count (omega (arith, count)) so_far) here (omega (arith, count)))

pub list_passes : (hunt : Hunt) (space : SpaceView) (at : Reach) (places : List ℕ) (stretch : Stretch) (done : ℕ) →
    done ≡ length hunt.list.now → PassesTypes hunt space at places stretch.count done stretch.miss.steps →
    PassesList hunt space at places stretch
list_passes hunt space at places stretch done all h =
    subst (λ (done : ℕ). PassesTypes hunt space at places stretch.count done stretch.miss.steps) all h

-- a sieve shows where a type fails
pub fails_here : (hunt : Hunt) (space : SpaceView) (at : Reach) (place : ℕ) (sought : Sought)
    (found : Option Stretch) → place ≤ at.place →
    IfSome found (AreMisses (type_named sought.table.now sought.signature) space sought.order at.place hunt.search.step
    hunt.search.attempt_limit) →
    IfSome found (PassesType hunt space at place sought)
fails_here hunt space at place sought (Some stretch) here misses = fails here misses
fails_here hunt space at place sought None here misses = tt

pub nth_passes : (hunt : Hunt) (space : SpaceView) (at : Reach) (places : List ℕ) (k place : ℕ) (sought : Sought)
    (found : Option Stretch) → IsNth hunt.list.now k sought → slice_index places k ≡ place →
    IfSome found (PassesType hunt space at place sought) → IfSome found (PassesNth hunt space at places k)
nth_passes hunt space at places k place sought (Some stretch) nth same h = record {
  sought = sought;
  nth = nth;
  passes = subst (λ (place : ℕ). PassesType hunt space at place sought stretch) (sym same) h;
}
nth_passes hunt space at places k place sought None nth same h = tt

-- ---- one start

-- how far a search is at a start of a stretch
abbrev reach_at : Reach → (place left : ℕ) → Reach
reach_at at place left = record { place = place; found = at.found; left = left; given_up = at.given_up }

-- the run of a signature
abbrev run_at : Hunt → Reach → Sought → TypeRun
run_at hunt at sought = record {
  alloc = hunt.alloc;
  table = sought.table;
  id = sought.signature;
  ask = record hunt.ask { now = ask_in hunt.search at hunt.ask.now sought.order };
  terms = hunt.terms;
  known = sought.known.0;
}

module _ (hunt : Hunt) (first before : SpaceView) (since : Keeps first before) (whole : IsWhole before) where
  -- more values are wanted
  wanted : (at : Reach) → goes_on hunt.search at (8 * before.len) ≡ true →
      not (is_counted hunt.search at.found) ≡ true
  wanted at on = (and_parts (not (is_counted hunt.search at.found)) (nat_lt at.place (8 * before.len)) on).0

  still_goes : (at : Reach) (place left : ℕ) → goes_on hunt.search at (8 * before.len) ≡ true →
      place < 8 * before.len → goes_on hunt.search (reach_at at place left) (8 * first.len) ≡ true
  still_goes at place left on inside =
      let both : goes_on hunt.search (reach_at at place left) (8 * before.len) ≡ true =
      ap (λ (b : Bool). b && nat_lt place (8 * before.len)) (wanted at on) ∙ lt-ltb place (8 * before.len) inside in
      on_since hunt.search (reach_at at place left) first before since both

  is_now_due : (at : Reach) (place left from : ℕ) → goes_on hunt.search at (8 * before.len) ≡ true → from ≤ place →
      is_due hunt.search (reach_at at place left) from ≡ true
  is_now_due at place left from on le =
      ap (λ (b : Bool). b && nat_le from place) (wanted at on) ∙ le-leb from place le

  isnt_due : (at : Reach) (place left from : ℕ) → goes_on hunt.search at (8 * before.len) ≡ true → place < from →
      is_due hunt.search (reach_at at place left) from ≡ false
  isnt_due at place left from on lt =
      ap (λ (b : Bool). b && nat_le from place) (wanted at on) ∙ lt-leb from place lt

  -- a type is tried at a start of its stretch, or isn't due there
  module _ (at : Reach) (places : List ℕ) (k left : ℕ) (sought : Sought) (own : Stretch)
      (on : goes_on hunt.search at (8 * before.len) ≡ true) (nth : IsNth hunt.list.now k sought) where
    type_passes : (i : ℕ) → i < own.count → own.miss.steps ≤ left →
        PassesType hunt before at (slice_index places k) sought own →
        TriesNext hunt first k (reach_at at (at.place + i * hunt.search.step) left) places
        (reach_at at (at.place + i * hunt.search.step) (left - own.miss.steps)) places []
    type_passes i few paid (later ahead free) =
        let place = at.place + i * hunt.search.step in
        let same : left ≡ left - own.miss.steps = omega (arith, free) in
        subst
        (λ (left' : ℕ). TriesNext hunt first k (reach_at at place left) places (reach_at at place left') places [])
        same (not_due (isnt_due at place left (slice_index places k) on (ahead i few)))
    type_passes i few paid (fails here misses) =
        let place = at.place + i * hunt.search.step in
        let mid = reach_at at place left in
        let run = run_at hunt mid sought in
        let miss = misses i few in
        let most = miss.missed.few in
        let allowed_there : own.miss.steps ≤ allowed hunt.search left = omega (arith, most, paid) in
        let stop : Stopped =
        record {
          fault = record { kind = fault.Constraint; at = place + own.miss.distance };
          steps = own.miss.steps;
        } in
        let stopped = has_miss hunt first before mid sought sought.signature run
        (record { table = refl; same_id = refl; terms = refl; ask = refl }) since before stop (view_kept before)
        (miss_there run before before own.miss stop whole (allowed_too allowed_there miss) refl) in
        due (is_now_due at place left (slice_index places k) on (omega (arith, here))) nth
        (unsigned stopped.misses refl)

  -- all types so far are passed over at a start
  types_pass : (at : Reach) (places : List ℕ) (count done steps i left : ℕ)
      → goes_on hunt.search at (8 * before.len) ≡ true → i < count → steps ≤ left
      → PassesTypes hunt before at places count done steps
      → TriesTypes hunt first (reach_at at (at.place + i * hunt.search.step) left) places done
      (reach_at at (at.place + i * hunt.search.step) (left - steps)) places []
  types_pass at places count _ _ i left on few paid none_pass =
      let place = at.place + i * hunt.search.step in
      let same : left ≡ left - 0 = omega arith in
      subst (λ (left' : ℕ). TriesTypes hunt first (reach_at at place left) places 0 (reach_at at place left') places [])
      same no_types
  types_pass at places count _ _ i left on few paid
      (one_passes {k = k} {steps = steps} {own = own} so_far h within) =
      let place = at.place + i * hunt.search.step in
      let less : left - steps - own.miss.steps ≡ left - (steps + own.miss.steps) = omega arith in
      subst
      (λ (left' : ℕ).
      TriesTypes hunt first (reach_at at place left) places (k + 1) (reach_at at place left') places [])
      less
      (one_type (types_pass at places count k steps i left on few (omega (arith, paid)) so_far) h.nth.inside
      (type_passes at places k (left - steps) h.sought own on h.nth i (omega (arith, few, within)) (omega (arith, paid))
      h.passes))

  -- ---- all starts of a stretch

  starts_pass : (at : Reach) (places : List ℕ) (stretch : Stretch) (n : ℕ)
      → PassesList hunt before at places stretch → n ≤ stretch.count → n * stretch.miss.steps ≤ at.left
      → ((k : ℕ) → k < n → at.place + k * hunt.search.step < 8 * before.len)
      → goes_on hunt.search at (8 * before.len) ≡ true → at.place < 8 * before.len
      → PassesStarts hunt first places at (after_starts hunt.search at n stretch.miss.steps (8 * before.len))
  starts_pass at places stretch zero passes few paid inside on here =
      let same_place : at.place ≡ min (at.place + 0 * hunt.search.step) (8 * before.len) = omega (arith, here) in
      let same_left : at.left ≡ at.left - 0 * stretch.miss.steps = omega arith in
      subst
      (λ (place : ℕ). PassesStarts hunt first places at (reach_at at place (at.left - 0 * stretch.miss.steps)))
      same_place
      (subst (λ (left : ℕ). PassesStarts hunt first places at (reach_at at at.place left)) same_left none_passed)
  starts_pass at places stretch (suc n) passes few paid inside on here =
      let bits = 8 * before.len in
      let each = stretch.miss.steps in
      let step = hunt.search.step in
      let last = inside n (omega arith) in
      let more = suc-mul n step in
      let cost = suc-mul n each in
      let there : at.place + n * step ≡ min (at.place + n * step) bits = omega (arith, last) in
      let next_place : min (at.place + n * step + step) (8 * first.len) ≡ min (at.place + suc n * step) bits =
      let len = since.len in omega (arith, more, len) in
      let next_left : at.left - n * each - each ≡ at.left - suc n * each = omega (arith, cost) in
      let so_far = starts_pass at places stretch n passes (omega (arith, few)) (omega (arith, paid, cost))
      (λ k lt. inside k (omega (arith, lt))) on here in
      let mid : PassesStarts hunt first places at (reach_at at (at.place + n * step) (at.left - n * each)) =
      subst (λ (place : ℕ). PassesStarts hunt first places at (reach_at at place (at.left - n * each))) (sym there)
      so_far in
      let tries = types_pass at places stretch.count (length hunt.list.now) each n (at.left - n * each) on
      (omega (arith, few)) (omega (arith, paid, cost)) passes in
      subst (λ (place : ℕ). PassesStarts hunt first places at (reach_at at place (at.left - suc n * each))) next_place
      (subst
      (λ (left : ℕ).
      PassesStarts hunt first places at (reach_at at (min (at.place + n * step + step) (8 * first.len)) left))
      next_left
      (one_passed mid (still_goes at (at.place + n * step) (at.left - n * each) on last) tries))

  pub list_passed : (at next : Reach) (places : List ℕ) (stretch : Stretch) (bits : ℕ) → bits ≡ 8 * before.len
      → PassesList hunt before at places stretch → at.place < bits
      → goes_on hunt.search at (8 * before.len) ≡ true → PassesSome hunt.search at stretch bits next
      → PassesStarts hunt first places at next
  list_passed at next places stretch bits same passes here on h =
      let few = h.few in
      subst (λ (next : Reach). PassesStarts hunt first places at next) (sym h.is)
      (subst (λ (bits : ℕ). PassesStarts hunt first places at
      (after_starts hunt.search at h.count stretch.miss.steps bits)) (sym same)
      (starts_pass at places stretch h.count passes few h.paid
      (λ k lt. let inside = h.inside k lt in omega (arith, inside, same)) on (omega (arith, here, same))))

-- ---- the search so far

module _ (hunt : Hunt) (first : SpaceView) where
  -- no line is due of these starts
  many_hunted : (places : List ℕ) {at next : Reach} (out out' : Option (List ℕ))
      → IsHunted hunt first at places out out'
      → PassesStarts hunt first places at next → IsHunted hunt first next places out out'
  many_hunted places out out' h none_passed = h
  many_hunted places out out' h (one_passed {mid} {next} so_far on tries) =
      one_hunted hunt first mid _ places places out out' out' (many_hunted places out out' h so_far)
      (record {
        mid = next;
        more = [];
        on = on;
        tries = tries;
        is_next = refl;
        takes = Appends-nil out';
      })

  stays_inside : {places : List ℕ} {at next : Reach} → at.place < next.place → PassesStarts hunt first places at next
      → next.place ≤ 8 * first.len
  stays_inside further none_passed = absurd (omega (arith, further))
  stays_inside further (one_passed so_far on tries) = omega arith

  -- a search advances, and what is due is written
  pub advance_hunted : (at next : Reach) (places after : List ℕ) (out out' out'' : Option (List ℕ))
      → IsHunted hunt first at places out out' → AdvancesRound hunt first at places after out' out'' next
      → IsHunted hunt first next after out out''
  advance_hunted at next places after out out' out'' h (one_tried goes) =
      one_hunted hunt first at next places after out out' out'' h goes
  advance_hunted at next places after out out' out'' h (some_passed passes further same keeps) =
      let there = many_hunted places out out' h passes in
      subst (λ (after : List ℕ). IsHunted hunt first next after out out'') (sym same)
      (record {
        text = there.text;
        rounds = there.rounds;
        appends = Appends-keeps out out' out'' there.text there.appends keeps;
      })

  -- each advance moves the search on, in the file
  pub advance_moves : (at next : Reach) (places after : List ℕ) (out out' : Option (List ℕ)) → 0 < hunt.search.step
      → AdvancesRound hunt first at places after out out' next
      → (at.place < next.place) × (next.place ≤ 8 * first.len)
  advance_moves at next places after out out' some (one_tried goes) =
      round_moves hunt first at next places after out out' some goes
  advance_moves at next places after out out' some (some_passed passes further same keeps) =
      (further, stays_inside further passes)

  pub tried_later : (at : Reach) (places after : List ℕ) (out out' : Option (List ℕ)) (result : Result Reach Outcome)
      → IfOk result (GoesRound hunt first at places after out out')
      → IfOk result (AdvancesRound hunt first at places after out out')
  tried_later at places after out out' (Ok next) goes = one_tried goes
  tried_later at places after out out' (Err ended) goes = tt
