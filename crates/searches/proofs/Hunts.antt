-- How far a search for many types is after some starts, and how it ends.
use Rattle.std.proofs.Common.{◌≡◌, ◌<◌, ◌≤◌, ◌*◌, ℕ, zero, suc, false, List, [], ◌∷◌, ◌++◌, Option, length, refl, sym, subst, arith}
use Rattle.std.proofs.KnownBytes.{Appends-nil, Appends-trans}
use Rattle.std.proofs.lemmas.List.{length-append}
use Rattle.std.specs.Io.KnownBytes.{Appends}
use Rattle.bit_space.specs.SpaceView.{SpaceView}
use Rattle.run_parts.specs.declared.outcome.Outcome.{Outcome}
use Rattle.searches.proofs.Reached.{still_on}
use Rattle.searches.specs.Round.{EndsRound, GoesRound, cut_off, no_more}
use Rattle.searches.specs.Rounds.{Rounds, WritesTypes, finished, first_places, no_rounds, one_round, output_fails, writes_all}
use Rattle.searches.specs.Starts.{first_of, goes_on, natural_end}
use Rattle.searches.specs.declared.hunt.Hunt.{Hunt}
use Rattle.searches.specs.declared.search.Reach.{Reach}
use Rattle.text_output.proofs.Parts.{Appends-keeps}

pub first_length : (count : ℕ) → length (first_places count) ≡ count
first_length zero = refl
first_length (suc count) =
    let all = length-append (first_places count) (0 ∷ []) in
    let before = first_length count in omega (arith, all, before)

module _ (hunt : Hunt) (first : SpaceView) where
  -- so far the search is, and its lines are written
  pub record IsHunted (at : Reach) (places : List ℕ) (out out' : Option (List ℕ)) : Type 0 where
    pub text : List ℕ
    pub rounds : Rounds hunt first at places text
    pub appends : Appends out out' text

  pub none_hunted : (at : Reach) (places : List ℕ) (out : Option (List ℕ)) → at ≡ first_of hunt.ask.now
      → places ≡ first_places (length hunt.list.now) → IsHunted at places out out
  none_hunted at places out is are =
      subst (λ (at : Reach). IsHunted at places out out) (sym is)
      (subst (λ (places : List ℕ). IsHunted (first_of hunt.ask.now) places out out) (sym are)
      (record { text = []; rounds = no_rounds; appends = Appends-nil out }))

  -- and after one more start
  pub one_hunted : (at next : Reach) (places after : List ℕ) (out out' out'' : Option (List ℕ))
      → IsHunted at places out out' → GoesRound hunt first at places after out' out'' next
      → IsHunted next after out out''
  one_hunted at next places after out out' out'' h g =
      subst (λ (next : Reach). IsHunted next after out out'') (sym g.is_next)
      (record {
        text = h.text ++ g.more;
        rounds = one_round h.rounds g.on g.tries;
        appends = Appends-trans out out' out'' h.text g.more h.appends g.takes;
      })

  -- each start moves the search on, in the file
  pub round_moves : (at next : Reach) (places after : List ℕ) (out out' : Option (List ℕ)) → 0 < hunt.search.step
      → GoesRound hunt first at places after out out' next
      → (at.place < next.place) × (next.place ≤ 8 * first.len)
  round_moves at next places after out out' some g =
      let inside = still_on hunt.search at (8 * first.len) g.on in
      subst (λ (next : Reach). (at.place < next.place) × (next.place ≤ 8 * first.len)) (sym g.is_next)
      (omega (arith, some, inside), omega arith)

  -- it ends at the next start
  pub hunt_ends : (last : SpaceView) (at : Reach) (places : List ℕ) (out out' out'' : Option (List ℕ))
      (ended : Outcome) → IsHunted at places out out' → EndsRound hunt first last at places out' out'' ended
      → WritesTypes hunt first last out out'' at ended
  hunt_ends last at places out out' out'' ended h (no_more ends keeps) =
      writes_all h.rounds ends (Appends-keeps out out' out'' h.text h.appends keeps)
  hunt_ends last at places out out' out'' _ h (cut_off on tries takes) =
      output_fails h.rounds on tries h.appends takes

  -- it ends since it doesn't go on
  pub hunt_done : (last : SpaceView) (at : Reach) (places : List ℕ) (bits : ℕ) (out out' : Option (List ℕ))
      (ended : Outcome) → bits ≡ 8 * first.len → at.place ≤ bits → goes_on hunt.search at bits ≡ false
      → ended ≡ natural_end hunt.search at → IsHunted at places out out'
      → WritesTypes hunt first last out out' at ended
  hunt_done last at places bits out out' ended same inside off is h =
      subst (λ (ended : Outcome). WritesTypes hunt first last out out' at ended) (sym is)
      (writes_all h.rounds
      (finished (omega (arith, inside, same)) (subst (λ (bits : ℕ). goes_on hunt.search at bits ≡ false) same off))
      h.appends)
