-- How far a search is after some starts, and how it ends.
use Rattle.std.proofs.Common.{◌≡◌, ◌<◌, ◌≤◌, ◌+◌, ◌-◌, ◌*◌, ℕ, Bool, true, false, not, List, [], ◌++◌, Option, Some, None, if◌then◌else◌, refl, sym, subst, arith}
use Rattle.std.proofs.KnownBytes.{Appends-nil, Appends-trans}
use Rattle.std.proofs.lemmas.Bool.{and_parts, eqb-false, ltb-true}
use Rattle.std.proofs.lemmas.Grind.{div_ceil_times}
use Rattle.std.proofs.lemmas.List.Folds.{concat-append}
use Rattle.std.proofs.lemmas.Option.{none-some, same_Some}
use Rattle.std.specs.Io.KnownBytes.{Appends}
use Rattle.std.specs.List.{concat}
use Rattle.std.specs.Prelude.{min, nat_lt, ◌==◌}
use Rattle.bit_space.specs.SpaceView.{SpaceView}
use Rattle.pickle_meaning.specs.Values.{end_of}
use Rattle.pickle_meaning.specs.declared.faults.MapFaultKind.{MapFaultKind}
use Rattle.pickle_meaning.specs.declared.faults.MapFaultKind.TheVariants as fault
use Rattle.poke_batch.specs.declared.type_run.TypeRun.{TypeRun}
use Rattle.run_parts.specs.declared.outcome.Outcome.{Outcome}
use Rattle.searches.specs.Starts.{IsFew, after_given, after_none, after_stop, first_of, given_count, given_more, goes_on, is_counted, natural_end, next_start, start_after, way_over}
use Rattle.searches.specs.Trial.{EndsHere, GoesOn, cut_off, no_more}
use Rattle.searches.specs.Written.{Searches, Tries, WritesSearch, finds, finished, misses, no_starts, one_more, output_fails, writes_all}
use Rattle.searches.specs.declared.search.GivenUp.{GivenUp}
use Rattle.searches.specs.declared.search.Reach.{Reach}
use Rattle.searches.specs.declared.search.Search.{Search}
use Rattle.text_output.proofs.Parts.{Appends-keeps}

-- a search that goes on is in the file
pub still_on : (search : Search) (at : Reach) (bits : ℕ) → goes_on search at bits ≡ true → at.place < bits
still_on search at bits on =
    ltb-true at.place bits (and_parts (not (is_counted search at.found)) (nat_lt at.place bits) on).1

-- the way to or over a distance, and over 0
over : (step distance : ℕ) → 0 < step → 0 < way_over step distance
over step distance some = by_test (distance == 0) refl
  where
    by_test : (b : Bool) → (distance == 0) ≡ b → 0 < way_over step distance
    by_test true e = rw e (omega (arith, some))
    by_test false e =
        rw e
        (let ceil = (div_ceil_times distance step some).0 in
        let far = eqb-false distance 0 e in
        omega (arith, ceil, far))

-- the next start is after this one, and in the file
pub start_moves : (search : Search) (place end bits : ℕ) → 0 < search.step → place < bits →
    (place < start_after search place end bits) × (start_after search place end bits ≤ bits)
start_moves search place end bits some inside = by_flag search.apart
  where
    by_flag : (apart : Bool) →
        (place
        < (if apart then min (place + way_over search.step (end - place)) bits else next_start search place bits))
        × ((if apart then min (place + way_over search.step (end - place)) bits else next_start search place bits)
        ≤ bits)
    by_flag true = (let way = over search.step (end - place) some in omega (arith, way, inside), omega arith)
    by_flag false = (omega (arith, some, inside), omega arith)

-- a search moved on, in a file of so many bits
pub record HasMoved (at : Reach) (bits : ℕ) (next : Reach) : Type 0 where
  pub few : IsFew next
  pub moves : at.place < next.place
  pub inside : next.place ≤ bits

module _ (search : Search) (at : Reach) (bits : ℕ) (some : 0 < search.step) (was_few : IsFew at)
    (was_inside : at.place < bits)
  where
    -- past a start without a value
    none_moves : (steps : ℕ) (given_up : Option GivenUp) (next : Reach)
        → given_count given_up ≤ given_count at.given_up + 1
        → Some (after_none search at given_up steps bits) ≡ Some next → HasMoved at bits next
    none_moves steps given_up next more is =
        subst (λ (next : Reach). HasMoved at bits next) (same_Some (after_none search at given_up steps bits) next is)
        (let found = was_few.found in let given = was_few.given_up in record {
          few = record {
            found = omega (arith, found, some, was_inside);
            given_up = omega (arith, given, more, some, was_inside);
          };
          moves = omega (arith, some, was_inside);
          inside = omega arith;
        })

    more_given : (given : Option GivenUp) (place : ℕ) →
        given_count (Some (given_more given place)) ≤ given_count given + 1
    more_given None place = omega arith
    more_given (Some given) place = omega arith

    given_moves : (steps : ℕ) (next : Reach) → Some (after_given search at steps bits) ≡ Some next →
        HasMoved at bits next
    given_moves steps next is =
        none_moves steps (Some (given_more at.given_up at.place)) next (more_given at.given_up at.place) is

    pub stop_moves : (bytes : Option ℕ) (kind : MapFaultKind) (steps : ℕ) (next : Reach)
        → after_stop search bytes at kind steps bits ≡ Some next → HasMoved at bits next
    stop_moves bytes fault.Limit steps next is = by_test (nat_lt at.left search.attempt_limit) is
      where
        by_test : (b : Bool) → (if b then None else Some (after_given search at steps bits)) ≡ Some next
            → HasMoved at bits next
        by_test true is = absurd (none-some _ is)
        by_test false is = given_moves steps next is
    stop_moves bytes fault.Device steps next is = absurd (none-some _ is)
    stop_moves None fault.Memory steps next is = absurd (none-some _ is)
    stop_moves (Some most) fault.Memory steps next is = given_moves steps next is
    stop_moves bytes fault.End steps next is = none_moves steps at.given_up next (omega arith) is
    stop_moves bytes fault.Constraint steps next is = none_moves steps at.given_up next (omega arith) is
    stop_moves bytes fault.Bounds steps next is = none_moves steps at.given_up next (omega arith) is
    stop_moves bytes fault.NoBits steps next is = none_moves steps at.given_up next (omega arith) is
    stop_moves bytes fault.Zero steps next is = none_moves steps at.given_up next (omega arith) is
    stop_moves bytes fault.Overflow steps next is = none_moves steps at.given_up next (omega arith) is
    stop_moves bytes fault.Absent steps next is = none_moves steps at.given_up next (omega arith) is
    stop_moves bytes fault.Index steps next is = none_moves steps at.given_up next (omega arith) is

module _ (run : TypeRun) (search : Search) (first : SpaceView) where
  -- so far the search is, and its lines are written
  pub record IsSearched (at : Reach) (out out' : Option (List ℕ)) : Type 0 where
    pub lines : List (List ℕ)
    pub searches : Searches run search first at lines
    pub appends : Appends out out' (concat lines)

  pub none_searched : (at : Reach) (out : Option (List ℕ)) → at ≡ first_of run.ask.now → IsSearched at out out
  none_searched at out is = subst (λ (at : Reach). IsSearched at out out) (sym is)
      (record { lines = []; searches = no_starts; appends = Appends-nil out })

  -- and after one more start
  pub one_searched : (at next : Reach) (out out' out'' : Option (List ℕ)) → IsSearched at out out'
      → GoesOn run search first at out' out'' next → IsSearched next out out''
  one_searched at next out out' out'' h g = record {
    lines = h.lines ++ g.more;
    searches = one_more h.searches g.on g.tries;
    appends = subst (λ (text : List ℕ). Appends out out'' text) (sym (concat-append h.lines g.more))
        (Appends-trans out out' out'' (concat h.lines) (concat g.more) h.appends g.takes);
  }

  -- each start moves the search on
  tries_move : (at next : Reach) (more : List (List ℕ)) → 0 < search.step → IsFew at → at.place < 8 * first.len
      → Tries run search first at next more → HasMoved at (8 * first.len) next
  tries_move at _ _ some few inside (finds {value = value} hit writes) =
      let moved = start_moves search at.place (end_of value) (8 * first.len) some inside in
      let found = few.found in
      let given_few = few.given_up in
      let after = moved.0 in record {
        few = record { found = omega (arith, found, after); given_up = omega (arith, given_few, after) };
        moves = after;
        inside = moved.1;
      }
  tries_move at next _ some few inside (misses {kind = kind} {steps = steps} miss is) =
      stop_moves search at (8 * first.len) some few inside run.terms.now.most_bytes kind steps next is

  pub has_moved : (at next : Reach) (out out' : Option (List ℕ)) → 0 < search.step → IsFew at
      → GoesOn run search first at out out' next → HasMoved at (8 * first.len) next
  has_moved at next out out' some few g =
      tries_move at next g.more some few (still_on search at (8 * first.len) g.on) g.tries

  -- it ends at the next start
  pub ends_there : (last : SpaceView) (at : Reach) (out out' out'' : Option (List ℕ)) (ended : Outcome)
      → IsSearched at out out' → EndsHere run search first last at out' out'' ended
      → WritesSearch run search first last out out'' at ended
  ends_there last at out out' out'' ended h (no_more ends keeps) =
      writes_all h.searches ends (Appends-keeps out out' out'' (concat h.lines) h.appends keeps)
  ends_there last at out out' out'' _ h (cut_off on hit line takes) =
      output_fails h.searches on hit line h.appends takes

  -- it ends since it doesn't go on
  pub ends_done : (last : SpaceView) (at : Reach) (bits : ℕ) (out out' : Option (List ℕ)) (ended : Outcome)
      → bits ≡ 8 * first.len → at.place ≤ bits → goes_on search at bits ≡ false → ended ≡ natural_end search at
      → IsSearched at out out' → WritesSearch run search first last out out' at ended
  ends_done last at bits out out' ended same inside off is h =
      subst (λ (ended : Outcome). WritesSearch run search first last out out' at ended) (sym is)
      (writes_all h.searches
      (finished (omega (arith, inside, same)) (subst (λ (bits : ℕ). goes_on search at bits ≡ false) same off))
      h.appends)
