-- A relation that holds with some steps and values made.
use Rattle.std.specs.Prelude.{ℕ}

pub record Somehow (P : (steps made : ℕ) → Type 0) : Type 0 where
  pub steps : ℕ
  pub made : ℕ
  pub holds : P steps made
