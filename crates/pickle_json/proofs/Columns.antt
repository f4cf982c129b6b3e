-- How large a column can be, and members with equal columns.
use Rattle.std.proofs.Common.{◌≡◌, ℕ, ◌+◌, ◌≤◌, Bool, true, false, if◌then◌else◌, Option, List, [], ◌∷◌, length, fold, arith, subst}
use Rattle.std.specs.Prelude.{◌==◌}
use Rattle.std.specs.Io.KnownBytes.{Appends}
use Rattle.text_output.specs.Written.{AppendsPart}
use Rattle.pickle_source.specs.Places.{next_column, column_behind}
use Rattle.pickle_json.specs.Members.{number_member}

next_few : (is_feed : Bool) (column : ℕ) → (if is_feed then 1 else (column + 1)) ≤ column + 1
next_few true column = omega arith
next_few false column = omega arith

fold_few : (column : ℕ) (bytes : List ℕ) → fold next_column column bytes ≤ column + length bytes
fold_few column [] = omega arith
fold_few column (byte ∷ bytes) = omega (arith, fold_few (next_column column byte) bytes, next_few (byte == 10) column)

-- the column after some bytes is at most one more than their number
pub column_few : (before : List ℕ) → column_behind before ≤ length before + 1
column_few before = omega (arith, fold_few 1 before)

pub same_number : (a b : Option (List ℕ)) (key : List ℕ) (x y : Option ℕ) → x ≡ y → Appends a b (number_member key x) →
    Appends a b (number_member key y)
same_number a b key x y same h = subst (λ n. Appends a b (number_member key n)) same h

pub same_number_part : (a b : Option (List ℕ)) (key : List ℕ) (x y : Option ℕ) → x ≡ y →
    AppendsPart a b (number_member key x) → AppendsPart a b (number_member key y)
same_number_part a b key x y same h = subst (λ n. AppendsPart a b (number_member key n)) same h

pub same_text : (a b : Option (List ℕ)) (x y : List ℕ) → x ≡ y → Appends a b x → Appends a b y
same_text a b x y same h = subst (Appends a b) same h
