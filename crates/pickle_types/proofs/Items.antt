-- Reading a list that has one more element.
use Rattle.std.proofs.Common.{◌≡◌, ℕ, ◌<◌, ◌≤◌, List, [], ◌∷◌, ◌++◌, Some, length, sym, ap, ◌∙◌, arith}
use Rattle.std.specs.Prelude.{slice_get}
use Rattle.std.proofs.lemmas.Option.{slice_get-get_or, slice_get_within}
use Rattle.std.proofs.lemmas.List.{get_or_append_left, length-append}
use Rattle.std.proofs.Math.Seq.{get_or-append_seam}

pub get_front : {A : Type 0} (xs more : List A) (i : ℕ) → i < length xs → slice_get (xs ++ more) i ≡ slice_get xs i
get_front [] more i lt = absurd (omega arith)
get_front (x ∷ xs) more i lt =
    let longer = length-append (x ∷ xs) more in
    slice_get-get_or ((x ∷ xs) ++ more) i x (omega arith)
    ∙ ap Some (get_or_append_left (x ∷ xs) more x i lt)
    ∙ sym (slice_get-get_or (x ∷ xs) i x lt)

pub get_last : {A : Type 0} (xs : List A) (x : A) → slice_get (xs ++ x ∷ []) (length xs) ≡ Some x
get_last xs x =
    let longer = length-append xs (x ∷ []) in
    slice_get-get_or (xs ++ x ∷ []) (length xs) x (omega arith) ∙ ap Some (get_or-append_seam xs x [] x)

-- what is read past the others is the last
pub record IsLast {A : Type 0} (xs : List A) (x : A) (i : ℕ) (y : A) : Type 0 where
  pub place : i ≡ length xs
  pub item : y ≡ x

pub is_last : {A : Type 0} (xs : List A) (x : A) (i : ℕ) (y : A) → slice_get (xs ++ x ∷ []) i ≡ Some y →
    length xs ≤ i → IsLast xs x i y
is_last xs x i y at le =
    let within = slice_get_within (xs ++ x ∷ []) i y at in
    let longer = length-append xs (x ∷ []) in
    let place : i ≡ length xs = omega arith in
    record { place = place; item = let e = rw place at at in cc (get_last xs x, e) }
