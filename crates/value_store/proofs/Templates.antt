-- The templates of arrays of packed structs, as a store grows.
use Rattle.std.proofs.Common.{◌≡◌, ℕ, ◌+◌, ◌≤◌, List, [], ◌∷◌, Option, Some, None, sym, ◌∙◌, ap, subst}
use Rattle.std.specs.Prelude.{slice_get}
use Rattle.std.proofs.lemmas.Option.{slice_get_within}
use Rattle.value_store.specs.declared.store.slots.Node.{Node}
use Rattle.value_store.specs.declared.store.slots.Shape.{Shape}
use Rattle.value_store.specs.declared.store.slots.Shape.TheVariants.{Integer, Offset, Text, Integers, Offsets, Records, Array, Struct, Union}
use Rattle.value_store.specs.Gathering.{AreColumns}
use Rattle.value_store.specs.Packed.{bytes_for}
use Rattle.value_store.specs.Slots.{Slots, number_bits, IsFamily, IsContent, IsNumber, IsComposite, IsColumn, IsBranch, IsTemplatePart, NumberPart, BranchPart, AreTemplateParts, NoParts, PartThen, AbsentPartThen, IsTemplate, HasTemplate}
use Rattle.value_store.proofs.FamilyRows.{Grows, slice_get-append, IsFamily-grow, family_links-grow, family_size-grow, text_bytes-grow}

pub number-composite : (shape : Shape) → IsNumber shape → IsComposite shape → ⊥
number-composite (Integer w g) h c = c
number-composite (Offset w g u) h c = c
number-composite Text h c = h
number-composite (Integers w g) h c = h
number-composite (Offsets w g u) h c = h
number-composite (Records stride size) h c = h
number-composite Array h c = h
number-composite (Struct t) h c = h
number-composite (Union t i) h c = h

-- a number is no array, struct or union
pub number_no_branch : {s : Slots} {size stride start : ℕ} {bytes : List ℕ} {j : ℕ} →
    IsColumn s size stride start bytes j → IsBranch s size start j → ⊥
number_no_branch column branch =
    let same : branch.node ≡ column.node =
    let e : Some branch.node ≡ Some column.node = sym branch.found ∙ column.found in cc in
    number-composite column.node.shape column.number (subst (λ (n : Node). IsComposite n.shape) same branch.composite)

node-grow : (s u : Slots) (i : ℕ) (n : Node) → Grows s u → slice_get s.nodes i ≡ Some n → slice_get u.nodes i ≡ Some n
node-grow s u i n g found =
    ap (λ ns. slice_get ns i) g.nodes
    ∙ slice_get-append s.nodes g.more_nodes i (slice_get_within s.nodes i n found) ∙ found

IsColumn-grow : (s u : Slots) (size stride start : ℕ) (bytes : List ℕ) (j : ℕ) → Grows s u →
    IsColumn s size stride start bytes j → IsColumn u size stride start bytes j
IsColumn-grow s u size stride start bytes j g column = record {
  node = column.node;
  found = node-grow s u j column.node g column.found;
  number = column.number;
  fits = column.fits;
  within = column.within;
  below = column.below;
}

pub AreColumns-grow : (s u : Slots) (size stride at start : ℕ) (bytes : List ℕ) (ls : List (Option ℕ)) → Grows s u →
    AreColumns s size stride at start bytes ls → AreColumns u size stride at start bytes ls
unfolding IsColumn-grow
AreColumns-grow s u size stride at start bytes [] g h = h
AreColumns-grow s u size stride at start bytes (None ∷ ls) g h = h
AreColumns-grow s u size stride at start bytes (Some j ∷ ls) g h = (
  IsColumn-grow s u size stride start bytes j g h.0,
  h.1,
  AreColumns-grow s u size stride (at + bytes_for (number_bits h.0.node.shape)) start bytes ls g h.2,
)

IsBranch-grow : (s u : Slots) (size start j : ℕ) → Grows s u → IsBranch s size start j → IsBranch u size start j
IsBranch-grow s u size start j g branch = record {
  node = branch.node;
  found = node-grow s u j branch.node g branch.found;
  composite = branch.composite;
  family = IsFamily-grow s u branch.node.content g branch.family;
  within =
      subst (λ z. branch.node.start + z ≤ start + size) (sym (family_size-grow s u branch.node.content g branch.family))
      branch.within;
}

module _ (s u : Slots) (size stride start : ℕ) (bytes : List ℕ) (g : Grows s u) where
  mutual
    unfolding IsBranch-grow

    pub part-grow : {j : ℕ} → IsTemplatePart s size stride start bytes j → IsTemplatePart u size stride start bytes j
    part-grow (NumberPart {j} column) = NumberPart (IsColumn-grow s u size stride start bytes j g column)
    part-grow (BranchPart {j} branch parts) =
        BranchPart (IsBranch-grow s u size start j g branch)
        (subst (λ ls. AreTemplateParts u size stride start bytes ls)
        (sym (family_links-grow s u branch.node.content g branch.family)) (parts-grow parts))

    pub parts-grow : {ls : List (Option ℕ)} → AreTemplateParts s size stride start bytes ls →
        AreTemplateParts u size stride start bytes ls
    parts-grow NoParts = NoParts
    parts-grow (PartThen part rest) = PartThen (part-grow part) (parts-grow rest)
    parts-grow (AbsentPartThen rest) = AbsentPartThen (parts-grow rest)

-- the family of the template is there
pub template_family : {s : Slots} {size stride start : ℕ} {bytes : List ℕ} {j : ℕ} (n : Node) (t : ℕ) →
    slice_get s.nodes j ≡ Some n → n.shape ≡ Struct t →
    IsTemplatePart s size stride start bytes j → IsFamily s n.content
template_family n t found is (NumberPart column) =
    let same : column.node ≡ n = let e : Some column.node ≡ Some n = sym column.found ∙ found in cc in
    absurd (subst IsNumber (ap (λ (m : Node). m.shape) same ∙ is) column.number)
template_family {s} n t found is (BranchPart branch parts) =
    let same : branch.node ≡ n = let e : Some branch.node ≡ Some n = sym branch.found ∙ found in cc in
    subst (λ (m : Node). IsFamily s m.content) same branch.family

pub IsTemplate-grow : (s u : Slots) (i size stride start : ℕ) (bytes : List ℕ) → Grows s u →
    IsTemplate s i size stride start bytes → IsTemplate u i size stride start bytes
IsTemplate-grow s u i size stride start bytes g t =
    record {
      some = t.some;
      node = t.node;
      found = node-grow s u _ t.node g t.found;
      type = t.type;
      shape = t.shape;
      begins = t.begins;
      sized = family_size-grow s u t.node.content g (template_family t.node t.type t.found t.shape t.part) ∙ t.sized;
      few = t.few;
      part = part-grow s u size stride start bytes g t.part;
    }

pub HasTemplate-grow : (s u : Slots) (i : ℕ) (shape : Shape) (start c : ℕ) → Grows s u → IsContent s shape start c →
    HasTemplate s i shape start c → HasTemplate u i shape start c
HasTemplate-grow s u i (Integer w x) start c g h t = tt
HasTemplate-grow s u i (Offset w x y) start c g h t = tt
HasTemplate-grow s u i Text start c g h t = tt
HasTemplate-grow s u i (Integers w x) start c g h t = tt
HasTemplate-grow s u i (Offsets w x y) start c g h t = tt
HasTemplate-grow s u i (Records stride size) start c g h t =
    subst (λ bs. IsTemplate u i size stride start bs) (sym (text_bytes-grow s u c g h.0))
    (IsTemplate-grow s u i size stride start _ g t)
HasTemplate-grow s u i Array start c g h t = tt
HasTemplate-grow s u i (Struct of) start c g h t = tt
HasTemplate-grow s u i (Union taken of) start c g h t = tt
