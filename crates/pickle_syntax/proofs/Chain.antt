-- One more operator.
use Rattle.std.proofs.Common.{◌≡◌, ℕ, zero, suc, ◌-◌, ◌<◌, ◌≤◌, true, false, List, drop, refl, arith, Ok, Err}
use Rattle.std.proofs.lemmas.Bool.{le-ltb, le-leb, lt-ltb}
use Rattle.pickle_syntax.specs.Tokens.{Token}
use Rattle.pickle_tree.specs.Tree.{Tree}
use Rattle.pickle_syntax.specs.Levels.{level_of}
use Rattle.pickle_tree.specs.Limits.{depth}
use Rattle.pickle_syntax.specs.Operators.{goes_on, own_of, left_of, next_of}
use Rattle.pickle_syntax.specs.Reading.{Fault, Deep, ◌>>=◌}
use Rattle.pickle_syntax.specs.ReadExpressions.{Reader, step_at, chain}

pub chain_more : (sub : Reader) (room n least : ℕ) (left : Tree) (toks : List Token) → 0 < n → depth left ≤ room →
    least ≤ own_of (next_of toks) → left_of (next_of toks) ≤ level_of left → chain sub room n least left toks
    ≡ (step_at sub left (drop 1 toks) (next_of toks) >>= λ x. chain sub room (n - 1) least x.0 x.1)
unfolding chain
chain_more sub room zero least left toks pos low own high = absurd (omega arith)
chain_more sub room (suc n) least left toks pos low own high =
    let e : suc n - 1 ≡ n = omega arith in
    rw (
      le-leb least (own_of (next_of toks)) own,
      le-leb (left_of (next_of toks)) (level_of left) high,
      le-ltb room (depth left) low,
      e,
    ) refl

-- the turns of the loop
module _ (sub : Reader) (room least : ℕ) (left : Tree) (toks : List Token) where
  pub chain_stops : (n : ℕ) → goes_on least left (next_of toks) ≡ false →
      chain sub room n least left toks ≡ Ok (left, toks)
  unfolding chain
  chain_stops zero h = rw h refl
  chain_stops (suc n) h = rw h refl

  pub chain_full : (n : ℕ) → n ≡ 0 → goes_on least left (next_of toks) ≡ true →
      chain sub room n least left toks ≡ Err Deep
  unfolding chain
  chain_full zero e h = rw h refl
  chain_full (suc n) e h = absurd (omega arith)

  pub chain_deep : (n : ℕ) → room < depth left → goes_on least left (next_of toks) ≡ true →
      chain sub room n least left toks ≡ Err Deep
  unfolding chain
  chain_deep zero e h = rw h refl
  chain_deep (suc n) e h = rw (h, lt-ltb room (depth left) e) refl

  pub chain_fault : (n : ℕ) (f : Fault) → 0 < n → depth left ≤ room → goes_on least left (next_of toks) ≡ true →
      step_at sub left (drop 1 toks) (next_of toks) ≡ Err f → chain sub room n least left toks ≡ Err f
  unfolding chain
  chain_fault zero f pos low h e = absurd (omega arith)
  chain_fault (suc n) f pos low h e = rw (h, le-ltb room (depth left) low, e) refl

  pub chain_next : (n : ℕ) (more : Tree) (after : List Token) → 0 < n → depth left ≤ room →
      goes_on least left (next_of toks) ≡ true → step_at sub left (drop 1 toks) (next_of toks) ≡ Ok (more, after) →
      chain sub room (n - 1) least more after ≡ chain sub room n least left toks
  unfolding chain
  chain_next zero more after pos low h e = absurd (omega arith)
  chain_next (suc n) more after pos low h e =
      let g : suc n - 1 ≡ n = omega arith in rw (h, le-ltb room (depth left) low, e, g) refl

pub ruleset chain_steps = (chain_stops, chain_full, chain_deep, chain_fault, chain_next)
