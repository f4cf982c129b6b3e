-- What it is to cut by the rules.
use Rattle.std.proofs.Common.{◌≡◌, ℕ, ◌≤◌, List, ◌++◌, length, Option, Result, Ok}
use Rattle.pickle_syntax.specs.Tokens.{Token}
use Rattle.pickle_syntax.specs.Bytes.{Fault}
use Rattle.pickle_syntax.specs.Words.{Cut}
use Rattle.pickle_syntax.specs.Pieces.{IsPiece}

-- what is cut is a piece at the front
pub record Cuts (cut : Cut) (bytes : List ℕ) : Type 0 where
  pub front : List ℕ
  pub after : List ℕ
  pub whole : bytes ≡ front ++ after
  pub size : length front ≡ cut.1
  pub some : 1 ≤ cut.1
  pub is : IsPiece cut.0 front after

-- a piece at the front is cut, or a longer one
pub record Reaches (piece : Option Token) (front : List ℕ) (read : Result Cut Fault) : Type 0 where
  pub cut : Cut
  pub reads : read ≡ Ok cut
  pub far : length front ≤ cut.1
  pub same : length front ≡ cut.1 → piece ≡ cut.0
