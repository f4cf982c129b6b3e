-- The marks of the open values. The code has the outermost first.
use Rattle.std.proofs.Common.{◌≡◌, ◌-◌, List, [], ◌∷◌, ◌++◌, length, take, reverse, refl, ◌∙◌, ap, subst, arith}
use Rattle.std.proofs.lemmas.List.{reverse-append, reverse-reverse, length_push, take_at}
use Rattle.value_store.specs.declared.store.slots.Marks.{Marks}
use Rattle.value_store.specs.Slots.{around}

pub reverse-push : (ks : List Marks) (k : Marks) → reverse (ks ++ k ∷ []) ≡ k ∷ reverse ks
reverse-push ks k = reverse-append ks (k ∷ [])

reverse-pop-of : (ks : List Marks) → reverse (take (length (reverse ks) - 1) (reverse ks)) ≡ around ks
reverse-pop-of [] = refl
reverse-pop-of (k ∷ ks) =
    let e : reverse (k ∷ ks) ≡ reverse ks ++ k ∷ [] = reverse-append (k ∷ []) ks in
    let n : length (reverse ks) ≡ length (reverse ks ++ k ∷ []) - 1 = omega (arith, length_push (reverse ks) k) in
    ap (λ xs. reverse (take (length xs - 1) xs)) e
    ∙ ap reverse (take_at (reverse ks) (k ∷ []) (length (reverse ks ++ k ∷ []) - 1) n)
    ∙ reverse-reverse ks

pub reverse-pop : (ks : List Marks) → reverse (take (length ks - 1) ks) ≡ around (reverse ks)
reverse-pop ks = subst (λ xs. reverse (take (length xs - 1) xs) ≡ around (reverse ks)) (reverse-reverse ks)
    (reverse-pop-of (reverse ks))
