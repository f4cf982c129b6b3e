-- What is collected place by place.
use Rattle.std.proofs.Common.{◌≡◌, ℕ, ◌+◌, ◌<◌, inl, inr, ◌++◌, List, [], ◌∷◌, sym, subst, ◌∙◌, arith}
use Rattle.std.proofs.lemmas.List.Elements.{All-nil, All-push, All-weaker, All-get_or}
use Rattle.std.proofs.lemmas.List.Quantifiers.{Any-push, all_pairs_push}
use Rattle.identification.specs.Others.{HasBefore, HasExactly}
use Rattle.identification.proofs.Tries.{below_or_at, any_left}

module _ {X : Type 0} (place_of : X → ℕ) (IsOne : X → Type 0) (IsWanted : (place : ℕ) → Type 0) where
  pub none_yet : (xs : List X) → xs ≡ [] → HasBefore place_of IsOne IsWanted 0 xs
  none_yet xs none =
      subst (HasBefore place_of IsOne IsWanted 0) (sym none)
      (record {
        sound = All-nil _;
        complete = λ place lt wanted. absurd (omega arith);
        rising = λ i j d lt lt'. absurd (omega arith);
        early = All-nil _;
      })

  module _ (next : ℕ) (xs : List X) (so_far : HasBefore place_of IsOne IsWanted next xs) where
    -- nothing is wanted at the next place
    pub skipped : (IsWanted next → ⊥) → HasBefore place_of IsOne IsWanted (next + 1) xs
    skipped misses = record {
      sound = so_far.sound;
      complete = λ place lt wanted. elim (below_or_at place next lt) [
        | inl less ↦ so_far.complete place less wanted
        | inr same ↦ absurd (misses (subst IsWanted same wanted))
      ];
      rising = so_far.rising;
      early = All-weaker (λ x. place_of x < next) (λ x. place_of x < next + 1) (λ x lt. omega arith) xs so_far.early;
    }

    -- this is
    pub added : (x : X) → place_of x ≡ next → IsOne x → HasBefore place_of IsOne IsWanted (next + 1) (xs ++ x ∷ [])
    added x at is = record {
      sound = All-push IsOne xs x so_far.sound is;
      complete = λ place lt wanted. elim (below_or_at place next lt) [
        | inl less ↦ any_left (λ y. place_of y ≡ place) xs x (so_far.complete place less wanted)
        | inr same ↦ Any-push (λ y. place_of y ≡ place) xs x (at ∙ sym same)
      ];
      rising = all_pairs_push (λ a b. place_of a < place_of b) xs x so_far.rising
          (λ k d lt.
          let early = All-get_or (λ y. place_of y < next) xs k d lt so_far.early in
          omega arith);
      early = All-push (λ y. place_of y < next + 1) xs x
          (All-weaker (λ y. place_of y < next) (λ y. place_of y < next + 1) (λ y lt. omega arith) xs so_far.early)
          (omega arith);
    }

  -- no place is left at which something is wanted
  pub all_had : (next : ℕ) (xs : List X) → ((place : ℕ) → IsWanted place → place < next) →
      HasBefore place_of IsOne IsWanted next xs → HasExactly place_of IsOne IsWanted xs
  all_had next xs last has = record {
    sound = has.sound;
    complete = λ place wanted. has.complete place (last place wanted) wanted;
    rising = has.rising;
  }
