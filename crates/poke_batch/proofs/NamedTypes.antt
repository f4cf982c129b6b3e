-- What holds of each type that has a name.
use Rattle.std.proofs.Common.{◌≡◌, ℕ, inl, inr, List, [], ◌∷◌, ◌++◌, Some, subst}
use Rattle.std.specs.Str.{bytes_eq}
use Rattle.std.proofs.lemmas.Bool.{cases_Bool}
use Rattle.pickle_types.specs.Types.{PokeType}
use Rattle.pickle_types.specs.Names.{Names, find_type}

module _ (Is : PokeType → Type 0) where
  abbrev pub OfEach : Names → Type 0
  OfEach [] = Unit {0}
  OfEach (d ∷ ds) = Is d.1 × OfEach ds

  pub found_is : (word : List ℕ) (names : Names) (t : PokeType) → OfEach names → find_type word names ≡ Some t → Is t
  found_is word [] t h e = cc
  found_is word (d ∷ ds) t h e = elim (cases_Bool (bytes_eq word d.0)) [
    | inl hit ↦ (let is : Some d.1 ≡ Some t = rw hit at e in subst Is (some_same d.1 t is) h.0)
    | inr miss ↦ found_is word ds t h.1 (rw miss at e)
  ]
    where
      some_same : (x y : PokeType) → Some x ≡ Some y → x ≡ y
      some_same x y e = cc

  pub one_more_is : (names : Names) (word : List ℕ) (t : PokeType) → OfEach names → Is t →
      OfEach (names ++ (word, t) ∷ [])
  one_more_is [] word t h is = (is, tt)
  one_more_is (d ∷ ds) word t h is = (h.0, one_more_is ds word t h.1 is)
