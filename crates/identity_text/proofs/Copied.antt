-- The formats of a ranking, one after another.
use Rattle.std.proofs.Common.{◌≡◌, ℕ, ◌+◌, ◌<◌, ◌≤◌, ◌++◌, List, [], ◌∷◌, length, get_or, map, take, sym, ap, ◌∙◌}
use Rattle.std.proofs.lemmas.List.{take_all, take_more, map-append}
use Rattle.identification.specs.declared.fit.Fit.{Fit}
use Rattle.identification.specs.declared.fit.Ranked.{Ranked}
use Rattle.identity_text.specs.Identities.{fit_of}

module _ (ranked : List Ranked) (i : ℕ) where
  pub one_more : (d : Ranked) → i < length ranked → (fits next : List Fit) → fits ≡ map fit_of (take i ranked) →
      next ≡ fits ++ fit_of (get_or ranked i d) ∷ [] → next ≡ map fit_of (take (i + 1) ranked)
  one_more d lt fits next so_far made =
      made ∙ ap (λ (xs : List Fit). xs ++ fit_of (get_or ranked i d) ∷ []) so_far
      ∙ sym (ap (map fit_of) (take_more ranked i d lt)
      ∙ map-append fit_of (take i ranked) (get_or ranked i d ∷ []))

  pub all_copied : length ranked ≤ i → (fits : List Fit) → fits ≡ map fit_of (take i ranked) → fits ≡ map fit_of ranked
  all_copied all fits so_far = so_far ∙ ap (map fit_of) (take_all i ranked all)
