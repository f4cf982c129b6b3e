-- Laws of the tokens and of the trees.
use Rattle.std.specs.Prelude.{◌≡◌, ◌≤◌, ◌↔◌, ℕ, List, ◌++◌, length, Option, Ok, Err}
use Rattle.pickle_syntax.specs.Tokens.{Token}
use Rattle.pickle_syntax.specs.Bytes.{Fault}
use Rattle.pickle_syntax.specs.Lexing.{piece_at}
use Rattle.pickle_syntax.specs.Pieces.{IsLongest, HasNoPiece, IsFaultAt}

-- the piece that is cut at a place is the longest one there, and each longest piece is cut
abbrev pub CutsTheLongest : Type 0
CutsTheLongest = (at : ℕ) (o : Option Token) (front after : List ℕ) →
    (piece_at at (front ++ after) ≡ Ok (o, length front)) ↔ IsLongest o front after

-- nothing is cut exactly where no front of the bytes is a piece, and the fault is the one that the rules name
abbrev pub FaultsWhereNoPiece : Type 0
FaultsWhereNoPiece = (at : ℕ) (bytes : List ℕ) (f : Fault) → 1 ≤ length bytes →
    (piece_at at bytes ≡ Err f) ↔ (HasNoPiece bytes × IsFaultAt at bytes f)

-- no two of these trees show the same tokens
abbrev pub AreShownOnce : {A : Type 0} → (A → Type 0) → (A → List Token) → Type 0
AreShownOnce {A} these show = (t u : A) → these t → these u → show t ≡ show u → t ≡ u
