-- What is known of the starts of each signature.
use Rattle.std.proofs.Common.{◌≡◌, ◌∙◌, ◌<◌, ◌+◌, ℕ, Bool, true, false, List, [], ◌∷◌, ◌++◌, get_or, inl, inr, refl, sym, subst, arith, length}
use Rattle.std.proofs.lemmas.Bool.{cases_lt, eqb-false, eqb-true}
use Rattle.std.proofs.lemmas.List.{get_or-set_other, get_or-set_same, get_or_append_left, get_or_default, length-append, length-set}
use Rattle.std.proofs.Math.Seq.{get_or-append_seam}
use Rattle.std.specs.Prelude.{◌==◌, slice_set}
use Rattle.bit_space.specs.SpaceView.{Keeps, SpaceView}
use Rattle.first_numbers.proofs.Screened.{sieve_since}
use Rattle.first_numbers.specs.declared.sieve.Sieve.{Sieve}
use Rattle.pickle_types.specs.TypeTable.{type_named}
use Rattle.searches.specs.Round.{AreSieves, IsSieveOf}
use Rattle.searches.specs.declared.sought.Sought.{Sought}

-- so many of them were made
pub record AreMade (list : List Sought) (space : SpaceView) (done : ℕ) (all : List Sieve) : Type 0 where
  pub count : length all ≡ done
  pub each : (k : ℕ) (sought : Sought) (sieve : Sieve) → k < done →
      IsSieveOf (get_or list k sought) space (get_or all k sieve)

pub none_made : (list : List Sought) (space : SpaceView) → AreMade list space 0 []
none_made list space = record { count = refl; each = λ k sought sieve inside. absurd (omega (arith, inside)) }

pub one_made : (list : List Sought) (space : SpaceView) (done : ℕ) (all : List Sieve) (sought : Sought) (more : Sieve) →
    AreMade list space done all → done < length list → IsSieveOf (get_or list done sought) space more →
    AreMade list space (done + 1) (all ++ more ∷ [])
one_made list space done all sought more h inside is = record {
  count =
      let size = length-append all (more ∷ []) in
      let before = h.count in omega (arith, size, before);
  each = λ k other sieve within. elim (cases_lt k
      done) [ inl lt ↦ before k other sieve lt | inr le ↦ last k other sieve (omega (arith, within, le)) ];
}
  where
    before : (k : ℕ) (other : Sought) (sieve : Sieve) → k < done →
        IsSieveOf (get_or list k other) space (get_or (all ++ more ∷ []) k sieve)
    before k other sieve lt =
        let count = h.count in
        subst (λ (s : Sieve). IsSieveOf (get_or list k other) space s)
        (sym (get_or_append_left all (more ∷ []) sieve k (omega (arith, count, lt)))) (h.each k other sieve lt)

    last : (k : ℕ) (other : Sought) (sieve : Sieve) → k ≡ done →
        IsSieveOf (get_or list k other) space (get_or (all ++ more ∷ []) k sieve)
    last k other sieve same =
        subst (λ (k : ℕ). IsSieveOf (get_or list k other) space (get_or (all ++ more ∷ []) k sieve))
        (h.count ∙ sym same)
        (subst (λ (s : Sieve). IsSieveOf (get_or list (length all) other) space s)
        (sym (get_or-append_seam all more [] sieve))
        (subst (λ (k : ℕ). IsSieveOf (get_or list k other) space more) (sym h.count)
        (subst (λ (s : Sought). IsSieveOf s space more) (get_or_default list done sought other inside) is)))

pub all_made : (list : List Sought) (space : SpaceView) (done : ℕ) (all : List Sieve) → done ≡ length list →
    AreMade list space done all → AreSieves list space all
all_made list space done all whole h = record {
  count = h.count ∙ whole;
  each = λ k sought sieve inside. h.each k sought sieve (omega (arith, inside, whole));
}

pub sieves_since : {first now : SpaceView} (list : List Sought) (all : List Sieve) → Keeps first now →
    AreSieves list first all → AreSieves list now all
sieves_since list all keeps h = record {
  count = h.count;
  each = λ k sought sieve inside.
      sieve_since (type_named (get_or list k sought).table.now (get_or list k sought).signature)
      (get_or list k sought).order (get_or all k sieve) keeps (h.each k sought sieve inside);
}

-- one of them is another one, after other reads
pub set_sieve : {first now : SpaceView} (list : List Sought) (all : List Sieve) (k : ℕ)
    (sought : Sought) (more : Sieve) →
    Keeps first now → AreSieves list first all → k < length list → IsSieveOf (get_or list k sought) now more →
    AreSieves list now (slice_set all k more)
set_sieve {first} {now} list all k sought more keeps h inside is = record {
  count = length-set all k more ∙ h.count;
  each = λ j other sieve within. by_test j other sieve within (j == k) refl;
}
  where
    since : AreSieves list now all
    since = sieves_since list all keeps h

    here : (other : Sought) (sieve : Sieve) →
        IsSieveOf (get_or list k other) now (get_or (slice_set all k more) k sieve)
    here other sieve =
        let count = h.count in
        subst (λ (s : Sieve). IsSieveOf (get_or list k other) now s)
        (sym (get_or-set_same all k more sieve (omega (arith, count, inside))))
        (subst (λ (s : Sought). IsSieveOf s now more) (get_or_default list k sought other inside) is)

    by_test : (j : ℕ) (other : Sought) (sieve : Sieve) → j < length list → (b : Bool) → (j == k) ≡ b →
        IsSieveOf (get_or list j other) now (get_or (slice_set all k more) j sieve)
    by_test j other sieve within true e =
        subst (λ (j : ℕ). IsSieveOf (get_or list j other) now (get_or (slice_set all k more) j sieve))
        (sym (eqb-true j k e)) (here other sieve)
    by_test j other sieve within false e =
        subst (λ (s : Sieve). IsSieveOf (get_or list j other) now s)
        (sym (get_or-set_other all k j more sieve (eqb-false j k e))) (since.each j other sieve within)
