-- The items of a list that a loop has left.
use Rattle.std.proofs.Common.{◌≡◌, ◌∙◌, ℕ, ◌+◌, ◌<◌, List, ◌∷◌, length, get_or, drop, sym, ap}
use Rattle.std.proofs.lemmas.List.{drop_more}

-- the item at a place, and those after it
pub item_left : {A : Type 0} (items : List A) (i : ℕ) (item : A) → i < length items → item ≡ get_or items i item →
    drop i items ≡ item ∷ drop (i + 1) items
item_left items i item more is = drop_more items i item more ∙ ap (λ x. x ∷ drop (i + 1) items) (sym is)
