-- The names of a list, each ended by a byte 0, which the last may lack.
use Rattle.std.specs.Prelude.{◌≡◌, ◌≢◌, ◌<◌, ◌≤◌, ℕ, List, [], ◌∷◌, ◌++◌, Option, Some, None, IfSome, All, length}
use Rattle.std.specs.Io.KnownBytes.{Consumes, IsAtEnd}
use Rattle.jobs.specs.declared.names.PieceEnd.{PieceEnd}
use Rattle.jobs.specs.declared.names.PieceEnd.TheVariants as piece
use Rattle.run_parts.specs.declared.outcome.Failure.{Failure}
use Rattle.run_parts.specs.declared.outcome.Failure.TheVariants as failure
use Rattle.std.specs.Io.BufRead.{first_piece, DropsThrough}

-- if the bytes of a list are known: a name is what they begin with, up to the first byte 0; the bytes after it remain
pub record IsNextName (list : Option (List ℕ)) (name : List ℕ) (rest : Option (List ℕ)) : Type 0 where
  pub some : IfSome list (λ bytes. 0 < length bytes)
  pub is : IfSome list (λ bytes. name ≡ first_piece 0 bytes)
  pub left : DropsThrough list rest 0

-- the most bytes of a name whose file is opened
abbrev pub most_name : ℕ
most_name = 4096

-- a name of no more bytes
pub record IsShortName (list : Option (List ℕ)) (name : List ℕ) (rest : Option (List ℕ)) : Type 0 where
  pub next : IsNextName list name rest
  pub within : length name ≤ most_name

-- the first bytes of a longer name are read of a list
pub record IsLongStart (list : Option (List ℕ)) (start : List ℕ) (rest : Option (List ℕ)) : Type 0 where
  pub read : Consumes list rest start
  pub within : All (λ byte. byte ≢ 0) start
  pub long : most_name < length start

-- what is read of a list with a piece of a name, by what comes after the piece
abbrev pub ReadsThrough : PieceEnd → (list list' : Option (List ℕ)) → (added : List ℕ) → Type 0
ReadsThrough piece.Zero list list' added = Consumes list list' (added ++ 0 ∷ [])
ReadsThrough piece.More list list' added = Consumes list list' added
ReadsThrough piece.List list list' added = Consumes list list' added × IsAtEnd list × (added ≡ [])

-- a piece of a name is read of a list, and added to the bytes before it; with a byte 0 after it, at most so many bytes
pub record ReadsPiece (list list' : Option (List ℕ)) (name name' : List ℕ) (most : ℕ) (end : PieceEnd) : Type 0 where
  pub added : List ℕ
  pub is : name' ≡ name ++ added
  pub fits : length added ≤ most
  pub short : end ≡ piece.Zero → length added < most
  pub within : All (λ byte. byte ≢ 0) added
  pub read : ReadsThrough end list list' added

-- these bytes of a list come before its next byte 0 or its end, and the bytes after that 0 remain
pub record IsRestOfName (list : Option (List ℕ)) (more : List ℕ) (rest : Option (List ℕ)) : Type 0 where
  pub is : IfSome list (λ bytes. more ≡ first_piece 0 bytes)
  pub left : DropsThrough list rest 0

-- these are the first of them, or all
pub record BeginsName (list : Option (List ℕ)) (part : List ℕ) : Type 0 where
  pub more : List ℕ
  pub is : IfSome list (λ bytes. first_piece 0 bytes ≡ part ++ more)

-- these names were read of a list, one after the other
pub data ReadsNames (list : Option (List ℕ)) : (rest : Option (List ℕ)) → (names : List (List ℕ)) → Type 0 where
  none_read : ReadsNames list list []
  one_read : {rest rest' : Option (List ℕ)} {names : List (List ℕ)} {name : List ℕ} → ReadsNames list rest names
      → IsNextName rest name rest'
      → ReadsNames list rest' (names ++ name ∷ [])

-- these are the first names of a list, or none
pub data AreListedFirst (IsList : Option (List ℕ) → Type 0) : (names : List (List ℕ)) → Type 0 where
  none_listed : AreListedFirst IsList []
  first_listed : {list rest : Option (List ℕ)} {names : List (List ℕ)} → IsList list → ReadsNames list rest names →
      AreListedFirst IsList names

-- these are all the names of a list
pub record AreListed (IsList : Option (List ℕ) → Type 0) (names : List (List ℕ)) : Type 0 where
  pub list : Option (List ℕ)
  pub rest : Option (List ℕ)
  pub is : IsList list
  pub read : ReadsNames list rest names
  pub end : IsAtEnd rest

-- these are the first names of a list, and then the first bytes of a name
pub record AreListedBefore (IsList : Option (List ℕ) → Type 0) (names : List (List ℕ)) (part : List ℕ) : Type 0 where
  pub list : Option (List ℕ)
  pub rest : Option (List ℕ)
  pub is : IsList list
  pub read : ReadsNames list rest names
  pub begins : BeginsName rest part

-- what may stop the names of a list: it can't be read; without a failure, the output
abbrev pub MayStop : Option Failure → Type 0
MayStop None = Unit {0}
MayStop (Some why) = why ≡ failure.Read
