-- The least width of some parts.
use Rattle.std.proofs.Common.{◌≡◌, ℕ, List, Bool, Option}
use Rattle.std.specs.Prelude.{min, IsTrue, false}
use Rattle.pickle_tree.specs.declared.tree.ByteOrder.{ByteOrder}
use Rattle.pickle_types.specs.Bounds.{least_width, least_of_widths}
use Rattle.pickle_types.specs.Holds.{HoldsWidth, is_none}
use Rattle.pickle_types.specs.Types.{Term, Parts, PokeType, PartThen, NoParts}

-- the lesser width of a part and of those after it, if there are any
pub least_with_rest : (name : Option (List ℕ)) (order : Option ByteOrder) (c : Option Term) (type : PokeType)
    (parts : Parts) (is_empty : Bool) (mine rest result : Option ℕ)
    → is_empty ≡ is_none parts → HoldsWidth mine (least_width type) → HoldsWidth rest (least_of_widths parts)
    → ((w : ℕ) → HoldsWidth mine w → IsTrue is_empty → HoldsWidth result w)
    → ((w v : ℕ) → HoldsWidth mine w → HoldsWidth rest v → is_empty ≡ false → HoldsWidth result (min w v))
    → HoldsWidth result (least_of_widths (PartThen name order type c parts))
unfolding least_width
least_with_rest name order c type NoParts is_empty mine rest result e h g last more = last _ h e
least_with_rest name order c type (PartThen name' order' type' c' parts) is_empty mine rest result e h g last more =
    more _ _ h g e
