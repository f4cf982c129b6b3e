-- What some values take.
use Rattle.std.proofs.Common.{◌≡◌, ℕ, Bool, true, false, List, [], ◌∷◌, Some, refl}
use Rattle.pickle_meaning.specs.Values.{Value, Mapped, ArrayLabel, TextLabel, NoMembers, MemberThen, Levels}
use Rattle.value_store.specs.declared.store.slots.Shape.TheVariants.{Integers}
use Rattle.value_store.specs.Slots.{row_value}
use Rattle.value_store.specs.Takes.{NodesOf, FamiliesOf, LinksOf, PendingOf, TextsOf, BytesOf, levels_take}

abbrev taken : (packs : Bool) → Levels → List ℕ
taken packs levels =
    levels_take packs NodesOf levels ∷ levels_take packs FamiliesOf levels ∷ levels_take packs LinksOf levels
    ∷ levels_take packs PendingOf levels ∷ levels_take packs TextsOf levels ∷ levels_take packs BytesOf levels ∷ []

abbrev alone : Value → Levels
alone v = (Some v ∷ []) ∷ []

-- three bytes, packed: a node, a pending child, and a text of three bytes
bytes-packed : taken true (alone (row_value (Integers 8 false) (1 ∷ 2 ∷ 3 ∷ []) 0)) ≡ 1 ∷ 0 ∷ 0 ∷ 1 ∷ 1 ∷ 3 ∷ []
bytes-packed = refl

-- and counted: four nodes, a family and three links
bytes-counted : taken false (alone (row_value (Integers 8 false) (1 ∷ 2 ∷ 3 ∷ []) 0)) ≡ 4 ∷ 1 ∷ 3 ∷ 1 ∷ 0 ∷ 0 ∷ []
bytes-counted = refl

-- two numbers of 12 bits, packed: two bytes each
wide-packed : taken true (alone (row_value (Integers 12 false) (1 ∷ 2 ∷ []) 0)) ≡ 1 ∷ 0 ∷ 0 ∷ 1 ∷ 1 ∷ 4 ∷ []
wide-packed = refl

-- an array without members
none-packed : taken true (alone (row_value (Integers 8 false) [] 0)) ≡ 1 ∷ 1 ∷ 0 ∷ 1 ∷ 0 ∷ 0 ∷ []
none-packed = refl

-- an array of two texts, in either store
text-members : (packs : Bool) →
    taken packs (alone (Mapped ArrayLabel 0 40 (MemberThen (Mapped (TextLabel (65 ∷ 66 ∷ [])) 0 24 NoMembers)
    (MemberThen (Mapped (TextLabel (67 ∷ [])) 24 40 NoMembers) NoMembers))))
    ≡ 3 ∷ 1 ∷ 2 ∷ 1 ∷ 2 ∷ 3 ∷ []
text-members true = refl
text-members false = refl
