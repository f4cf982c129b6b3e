-- The parts of a node.
use mathlib.Core.Logic.{∥∥₁_elim, ∥∥₁_map}
use Rattle.std.proofs.Common.{◌≡◌, ℕ, ◌+◌, ◌-◌, ◌*◌, ◌<◌, ◌≤◌, ◌⊎◌, inl, inr, Bool, zero, suc, List, [], Option, Some, None, length, take, map, refl, sym, ◌∙◌, ap, subst, arith}
use Rattle.std.specs.Prelude.{slice_get, slice_index_or, unwrap_or, IfSome}
use Rattle.std.specs.Option.{option_map}
use Rattle.std.specs.Coded.{le_prop}
use Rattle.std.proofs.lemmas.List.{length-map}
use Rattle.std.proofs.lemmas.Option.{slice_get-get_or, slice_get_past, slice_get_within, slice_get-map}
use Rattle.value_store.specs.declared.store.slots.Node.{Node}
use Rattle.value_store.specs.declared.store.slots.Place.{Place}
use Rattle.value_store.specs.declared.store.slots.Place.TheVariants as place
use Rattle.value_store.specs.declared.store.slots.Shape.{Shape}
use Rattle.value_store.specs.declared.store.slots.Shape.TheVariants.{Integer, Offset, Text, Integers, Offsets, Records, Array, Struct, Union}
use Rattle.value_store.specs.Slots.{Slots, opened, family_links, links_of, parts_in, trees, value_at, row_numbers, record_count, elements, element_width, element_value, LinksBelow, IsNumber, IsComposite, IsPacked, IsContent, IsTemplatePart, NumberPart, BranchPart, AreTemplateParts, NoParts, PartThen, AbsentPartThen, IsSound, IsRead}
use Rattle.pickle_meaning.specs.Values.{Value, NoMembers, members_of, member_count, member_at, gathered}
use Rattle.value_store.specs.Names.{Names}
use Rattle.value_store.specs.Linked.{node_links, links_from}
use Rattle.value_store.specs.Records.{instance}
use Rattle.value_store.specs.Lent.{place_value, place_links, place_packed, place_rank, packed_place, linked_place, part_place, place_of_part, part_count, parts_at, part_in, row_in, record_size, numbers_of, element_in, packed_count, element_count, IsPlace}
use Rattle.value_store.proofs.Taken.{member_count-of}
use Rattle.value_store.proofs.Instances.{IsPartOf, is_part, has_part, template_of, array-count, array-part, struct-part, member-past, instance-count, instance-at}
use Rattle.value_store.proofs.Found.{node_sound, read-node, below-found, child-found, member_at-gathered}
use Rattle.value_store.proofs.Grown.{length-trees, opened-take}
use Rattle.value_store.proofs.Lent.{length-elements, elements-at}
use Rattle.value_store.proofs.Placed.{family-links}

packed-parts : (s : Slots) (ts : List Value) (shape : Shape) (start c : ℕ) → IsPacked shape →
    parts_in s ts shape start c ≡ elements shape start (row_numbers s (element_width shape) c)
packed-parts s ts (Integer w g) start c p = absurd p
packed-parts s ts (Offset w g u) start c p = absurd p
packed-parts s ts Text start c p = absurd p
packed-parts s ts (Integers w g) start c p = refl
packed-parts s ts (Offsets w g u) start c p = refl
packed-parts s ts (Records stride size) start c p = absurd p
packed-parts s ts Array start c p = absurd p
packed-parts s ts (Struct t) start c p = absurd p
packed-parts s ts (Union t i) start c p = absurd p

-- no array of packed numbers or structs
pub record HasLinks (shape : Shape) : Type 0 where
  pub not_integers : (w : ℕ) (g : Bool) → shape ≡ Integers w g → ⊥
  pub not_offsets : (w : ℕ) (g : Bool) (u : ℕ) → shape ≡ Offsets w g u → ⊥
  pub not_records : (size stride : ℕ) → shape ≡ Records stride size → ⊥

linked-parts : (s : Slots) (ts : List Value) (shape : Shape) (start c : ℕ) → HasLinks shape →
    parts_in s ts shape start c ≡ map (opened ts) (links_of s shape c)
linked-parts s ts (Integer w g) start c p = refl
linked-parts s ts (Offset w g u) start c p = refl
linked-parts s ts Text start c p = refl
linked-parts s ts (Integers w g) start c p = absurd (p.not_integers w g refl)
linked-parts s ts (Offsets w g u) start c p = absurd (p.not_offsets w g u refl)
linked-parts s ts (Records stride size) start c p = absurd (p.not_records size stride refl)
linked-parts s ts Array start c p = refl
linked-parts s ts (Struct t) start c p = refl
linked-parts s ts (Union t i) start c p = refl

-- what links say about the parts of a node
pub record AreLinks (s : Slots) (at : ℕ) (links : List (Option ℕ)) : Type 0 where
  pub count : (names : Names) → length links ≡ member_count (members_of (value_at names s at))
  pub part : (names : Names) (k : ℕ) → option_map (value_at names s) (unwrap_or (slice_get links k) None)
      ≡ member_at (members_of (value_at names s at)) k
  pub below : (k : ℕ) → IfSome (unwrap_or (slice_get links k) None) (λ j. j < at)

are_links : (s : Slots) (at : ℕ) (n : Node) → slice_get s.nodes at ≡ Some n → IsSound s → HasLinks n.shape →
    AreLinks s at (links_from s at)
are_links s at n got sound has =
    let r = read-node s at n sound got in
    let ls = links_of s n.shape n.content in
    let own : LinksBelow at ls = (node_sound s at n sound got).below in
    let within : at < length s.nodes = slice_get_within s.nodes at n got in
    let below : (k : ℕ) → IfSome (unwrap_or (slice_get ls k) None) (λ j. j < at) =
    λ k. below-found at ls k (slice_get ls k) own refl in
    let members : (names : Names) → members_of (value_at names s at) ≡ gathered (map (opened (trees names s)) ls) =
    λ names.
    r.members names
    ∙ ap gathered (linked-parts s (take at (trees names s)) n.shape n.start n.content has)
    ∙ ap gathered (opened-take at (trees names s) ls (omega (arith, within, length-trees names s)) own) in
    let are : AreLinks s at (node_links s (Some n)) = record {
      count = λ names.
          let os = map (opened (trees names s)) ls in
          sym (ap member_count (members names) ∙ member_count-of os ∙ length-map ls (opened (trees names s)));
      part = λ names k.
          let os = map (opened (trees names s)) ls in
          child-found names s at ls (slice_get ls k) (omega (arith, within)) (below k)
          ∙ sym (ap (λ ms. member_at ms k) (members names) ∙ member_at-gathered os k
          ∙ ap (λ o. unwrap_or o None) (slice_get-map (opened (trees names s)) ls k));
      below = below;
    } in
    subst (λ o. AreLinks s at (node_links s o)) (sym got) are

-- packed numbers of `width` bits each
pub record IsRowShape (s : Slots) (shape : Shape) (c w : ℕ) : Type 0 where
  pub packed : IsPacked shape
  pub width : element_width shape ≡ w
  pub count : packed_count s shape c ≡ length (row_numbers s w c)

pub row_shape : (s : Slots) (shape : Shape) (start c w : ℕ) →
    ((g : Bool) × (shape ≡ Integers w g)) ⊎ ((g : Bool) × (u : ℕ) × (shape ≡ Offsets w g u)) →
    IsContent s shape start c → IsRowShape s shape c w
row_shape s shape start c w (inl (g, e)) h =
    let own : IsContent s (Integers w g) start c = subst (λ x. IsContent s x start c) e h in
    subst (λ x. IsRowShape s x c w) (sym e) (record { packed = (own.1.some, own.1.most); width = refl; count = refl })
row_shape s shape start c w (inr (g, u, e)) h =
    let own : IsContent s (Offsets w g u) start c = subst (λ x. IsContent s x start c) e h in
    subst (λ x. IsRowShape s x c w) (sym e)
    (record { packed = (own.1.0.some, own.1.0.most, own.1.1); width = refl; count = refl })

-- an array of packed numbers has its elements as parts
module _ (names : Names) (s : Slots) (at : ℕ) (n : Node) (w : ℕ) (r : IsRead s at n)
    (is : IsRowShape s n.shape n.content w) where
  row-members : members_of (value_at names s at) ≡ gathered (elements n.shape n.start (numbers_of s n))
  row-members =
      r.members names ∙ ap gathered (packed-parts s (take at (trees names s)) n.shape n.start n.content is.packed)

  pub row-count : member_count (members_of (value_at names s at)) ≡ length (row_numbers s w n.content)
  row-count =
      ap member_count row-members ∙ member_count-of (elements n.shape n.start (numbers_of s n))
      ∙ length-elements n.shape n.start (numbers_of s n)
      ∙ ap (λ k. length (row_numbers s k n.content)) is.width

  row-at : (i : ℕ) → member_at (members_of (value_at names s at)) i
      ≡ unwrap_or (slice_get (elements n.shape n.start (numbers_of s n)) i) None
  row-at i = ap (λ ms. member_at ms i) row-members ∙ member_at-gathered (elements n.shape n.start (numbers_of s n)) i

  pub row-part : (i : ℕ) → slice_get s.nodes at ≡ Some n → i < length (row_numbers s w n.content) →
      member_at (members_of (value_at names s at)) i ≡ Some (place_value names s (place.Element at i))
  row-part i got p =
      let within : i < length (numbers_of s n) = subst (λ k. i < length (row_numbers s k n.content)) (sym is.width) p in
      row-at i
      ∙ ap (λ o. unwrap_or o None) (elements-at n.shape n.start (numbers_of s n) i within)
      ∙ ap (λ o. Some (element_in s o i)) (sym got)

  pub row-past : (i : ℕ) → length (row_numbers s w n.content) ≤ i →
      member_at (members_of (value_at names s at)) i ≡ None
  row-past i past =
      let own = elements n.shape n.start (numbers_of s n) in
      let count : length own ≡ length (row_numbers s w n.content) =
      length-elements n.shape n.start (numbers_of s n) ∙ ap (λ k. length (row_numbers s k n.content)) is.width in
      row-at i ∙ ap (λ o. unwrap_or o None) (slice_get_past own i (omega (arith, count, past)))

pub has_element : (s : Slots) (at : ℕ) (n : Node) (w i : ℕ) → slice_get s.nodes at ≡ Some n →
    IsRowShape s n.shape n.content w → i < length (row_numbers s w n.content) →
    IsPlace s (place.Element at i)
has_element s at n w i got is p = subst (λ o. i < element_count s o) (sym got) (omega (arith, p, is.count))

neither : ⊥ ⊎ ⊥ → ⊥
neither (inl h) = h
neither (inr h) = h

-- the node of a part of a template: no array of packed numbers or structs, and no text
pub record IsPartNode (s : Slots) (size start : ℕ) (n : Node) : Type 0 where
  pub has : HasLinks n.shape
  pub no_text : n.shape ≡ Text → ⊥
  pub begins : n.start ≤ start + size

IsPartNode-prop : (s : Slots) (size start : ℕ) (n : Node) → IsProp (IsPartNode s size start n)
IsPartNode-prop s size start n = hlevel le_prop

part-shape : (s : Slots) (size start : ℕ) (n : Node) → IsNumber n.shape ⊎ IsComposite n.shape → n.start ≤ start + size →
    IsPartNode s size start n
part-shape s size start n h begins = record {
  has = record {
    not_integers = λ w g e. neither (subst (λ x. IsNumber x ⊎ IsComposite x) e h);
    not_offsets = λ w g u e. neither (subst (λ x. IsNumber x ⊎ IsComposite x) e h);
    not_records = λ stride size e. neither (subst (λ x. IsNumber x ⊎ IsComposite x) e h);
  };
  no_text = λ e. neither (subst (λ x. IsNumber x ⊎ IsComposite x) e h);
  begins = begins;
}

shape_of_part : {s : Slots} {size stride start : ℕ} {bytes : List ℕ} {j : ℕ} (n : Node) → slice_get s.nodes j ≡ Some n →
    IsTemplatePart s size stride start bytes j → IsPartNode s size start n
shape_of_part {s} {size} {start = start} n found (NumberPart column) =
    let same : column.node ≡ n = let e : Some column.node ≡ Some n = sym column.found ∙ found in cc in
    subst (IsPartNode s size start) same
    (part-shape s size start column.node (inl column.number) (omega (arith, column.within)))
shape_of_part {s} {size} {start = start} n found (BranchPart branch parts) =
    let same : branch.node ≡ n = let e : Some branch.node ≡ Some n = sym branch.found ∙ found in cc in
    subst (IsPartNode s size start) same
    (part-shape s size start branch.node (inr branch.composite) (omega (arith, branch.within)))

pub part_node : {s : Slots} {size stride start : ℕ} {bytes : List ℕ} {j : ℕ} (n : Node) → slice_get s.nodes j ≡ Some n →
    ∥ IsTemplatePart s size stride start bytes j ∥₁ → IsPartNode s size start n
part_node {s} {size} {start = start} n found part =
    ∥∥₁_elim part (IsPartNode-prop s size start n) (λ t. shape_of_part n found t)

pub node_there : {s : Slots} {size stride start : ℕ} {bytes : List ℕ} {j : ℕ} →
    IsTemplatePart s size stride start bytes j → j < length s.nodes
node_there {s} (NumberPart {j} column) = slice_get_within s.nodes j column.node column.found
node_there {s} (BranchPart {j} branch parts) = slice_get_within s.nodes j branch.node branch.found

-- the node of a part is there, and so is that of its array
pub part_within : (s : Slots) (a i j : ℕ) → IsPartOf s a i j → j < length s.nodes
part_within s a i j p = ∥∥₁_elim p.part le_prop (λ t. node_there t)

number-links : (s : Slots) (shape : Shape) (c : ℕ) → IsNumber shape → links_of s shape c ≡ []
number-links s (Integer w g) c h = refl
number-links s (Offset w g u) c h = refl
number-links s Text c h = absurd h
number-links s (Integers w g) c h = absurd h
number-links s (Offsets w g u) c h = absurd h
number-links s (Records stride size) c h = absurd h
number-links s Array c h = absurd h
number-links s (Struct t) c h = absurd h
number-links s (Union t i) c h = absurd h

-- what a link of a part refers to is a part
links_child : {s : Slots} {size stride start : ℕ} {bytes : List ℕ} {ls : List (Option ℕ)} →
    AreTemplateParts s size stride start bytes ls → (k c : ℕ) → slice_get ls k ≡ Some (Some c) →
    IsTemplatePart s size stride start bytes c
links_child NoParts k c e = cc
links_child {s} {size} {stride} {start} {bytes} (PartThen {j} part rest) zero c e =
    let same : j ≡ c = cc in subst (IsTemplatePart s size stride start bytes) same part
links_child (PartThen part rest) (suc k) c e = links_child rest k c e
links_child (AbsentPartThen rest) zero c e = cc
links_child (AbsentPartThen rest) (suc k) c e = links_child rest k c e

part_child : {s : Slots} {size stride start : ℕ} {bytes : List ℕ} {j : ℕ} → IsTemplatePart s size stride start bytes j →
    (k c : ℕ) → slice_get (links_from s j) k ≡ Some (Some c) →
    IsTemplatePart s size stride start bytes c
part_child {s} (NumberPart {j} column) k c e =
    let none : links_from s j ≡ [] =
    ap (node_links s) column.found ∙ number-links s column.node.shape column.node.content column.number in
    let found : slice_get [] k ≡ Some (Some c) = sym (ap (λ ls. slice_get ls k) none) ∙ e in
    cc
part_child {s} (BranchPart {j} branch parts) k c e =
    let own : links_from s j ≡ family_links s.families s.links branch.node.content =
    ap (node_links s) branch.found ∙ family-links s branch.node.shape branch.node.content branch.composite in
    links_child parts k c (sym (ap (λ ls. slice_get ls k) own) ∙ e)

-- the parts of a value, from its links and its number of packed parts
pub record AreParts (s : Slots) (p : Place) (links : List (Option ℕ)) (packed : ℕ) : Type 0 where
  pub packed_count : (names : Names) → 0 < packed → packed ≡ member_count (members_of (place_value names s p))
  pub link_count : (names : Names) → packed ≡ 0 → length links ≡ member_count (members_of (place_value names s p))
  pub packed_part : (names : Names) (i : ℕ) → i < packed →
      Some (place_value names s (packed_place s p i)) ≡ member_at (members_of (place_value names s p)) i
  pub packed_there : (i : ℕ) → i < packed → IsPlace s (packed_place s p i)
  pub packed_below : (i : ℕ) → i < packed → place_rank (packed_place s p i) < place_rank p
  pub link_part : (names : Names) (i : ℕ) → packed ≤ i →
      option_map (λ j. place_value names s (linked_place p j)) (unwrap_or (slice_get links i) None)
      ≡ member_at (members_of (place_value names s p)) i
  pub link_there : (i : ℕ) → IfSome (unwrap_or (slice_get links i) None) (λ j. IsPlace s (linked_place p j))
  pub link_below : (i : ℕ) →
      IfSome (unwrap_or (slice_get links i) None) (λ j. place_rank (linked_place p j) < place_rank p)

weaken : (o : Option ℕ) (i k : ℕ) → i ≤ k → IfSome o (λ j. j < i) → IfSome o (λ j. j < k)
weaken None i k p h = tt
weaken (Some j) i k p h = omega (arith, p, h)

next : (o : Option ℕ) (i : ℕ) → IfSome o (λ j. j < i) → IfSome o (λ j. suc j < suc i)
next None i h = tt
next (Some j) i h = omega (arith, h)

-- an array or a struct with links
parts_by_links : (s : Slots) (at : ℕ) (n : Node) → slice_get s.nodes at ≡ Some n → IsSound s → HasLinks n.shape →
    part_count s n.shape n.content ≡ 0 →
    AreParts s (place.Node at) (links_from s at) (parts_at s (slice_get s.nodes at))
parts_by_links s at n got sound has none =
    let links = are_links s at n got sound has in
    let within : at < length s.nodes = slice_get_within s.nodes at n got in
    let zero : parts_at s (slice_get s.nodes at) ≡ 0 = ap (parts_at s) got ∙ none in
    record {
      packed_count = λ names p. absurd (omega (arith, p, zero));
      link_count = λ names e. links.count names;
      packed_part = λ names i p. absurd (omega (arith, p, zero));
      packed_there = λ i p. absurd (omega (arith, p, zero));
      packed_below = λ i p. absurd (omega (arith, p, zero));
      link_part = λ names i p. links.part names i;
      link_there = λ i. weaken _ at (length s.nodes) (omega (arith, within)) (links.below i);
      link_below = λ i. next _ at (links.below i);
    }

-- an array of packed numbers
parts_by_row : (s : Slots) (at : ℕ) (n : Node) (w : ℕ) → slice_get s.nodes at ≡ Some n → IsRead s at n →
    IsRowShape s n.shape n.content w →
    links_of s n.shape n.content ≡ [] → part_count s n.shape n.content ≡ length (row_numbers s w n.content) →
    ((i : ℕ) → part_place n.shape at i ≡ place.Element at i) →
    AreParts s (place.Node at) (links_from s at) (parts_at s (slice_get s.nodes at))
parts_by_row s at n w got r is none parts places =
    let row = length (row_numbers s w n.content) in
    let count : parts_at s (slice_get s.nodes at) ≡ row = ap (parts_at s) got ∙ parts in
    let links : links_from s at ≡ [] = ap (node_links s) got ∙ none in
    let found : (i : ℕ) → unwrap_or (slice_get (links_from s at) i) None ≡ None =
    λ i. ap (λ ls. unwrap_or (slice_get ls i) None) links in
    let there : (i : ℕ) → packed_place s (place.Node at) i ≡ place.Element at i =
    λ i. ap (λ o. place_of_part o at i) got ∙ places i in
    record {
      packed_count = λ names p. count ∙ sym (row-count names s at n w r is);
      link_count = λ names e. ap length links ∙ sym (row-count names s at n w r is ∙ sym count ∙ e);
      packed_part = λ names i p. ap (λ q. Some (place_value names s q)) (there i)
          ∙ sym (row-part names s at n w r is i got (omega (arith, p, count)));
      packed_there = λ i p. subst (IsPlace s) (sym (there i)) (has_element s at n w i got is (omega (arith, p, count)));
      packed_below = λ i p. omega (arith, ap place_rank (there i));
      link_part = λ names i p. ap (option_map (value_at names s)) (found i)
          ∙ sym (row-past names s at n w r is i (omega (arith, p, count)));
      link_there = λ i. subst (λ o. IfSome o (λ j. j < length s.nodes)) (sym (found i)) tt;
      link_below = λ i. subst (λ o. IfSome o (λ j. suc j < suc at)) (sym (found i)) tt;
    }

-- an array of packed structs
parts_by_records : (s : Slots) (at : ℕ) (n : Node) (stride size : ℕ) → slice_get s.nodes at ≡ Some n → IsSound s →
    n.shape ≡ Records stride size →
    AreParts s (place.Node at) (links_from s at) (parts_at s (slice_get s.nodes at))
parts_by_records s at n stride size got sound is =
    let all = record_count s stride n.content in
    let t = template_of s sound at n stride size got is in
    let count : parts_at s (slice_get s.nodes at) ≡ all = ap (parts_at s) got ∙ ap (λ x. part_count s x n.content) is in
    let links : links_from s at ≡ [] = ap (node_links s) got ∙ ap (λ x. links_of s x n.content) is in
    let found : (i : ℕ) → unwrap_or (slice_get (links_from s at) i) None ≡ None =
    λ i. ap (λ ls. unwrap_or (slice_get ls i) None) links in
    let there : (i : ℕ) → packed_place s (place.Node at) i ≡ place.Part at i (at - 1) =
    λ i. ap (λ o. place_of_part o at i) got ∙ ap (λ x. part_place x at i) is in
    record {
      packed_count = λ names p. count ∙ sym (array-count s sound at n stride size got is names);
      link_count = λ names e. ap length links ∙ sym (array-count s sound at n stride size got is names ∙ sym count ∙ e);
      packed_part = λ names i p. ap (λ q. Some (place_value names s q)) (there i)
          ∙ sym (array-part s sound at n stride size got is names i (omega (arith, p, count)));
      packed_there = λ i p.
          subst (IsPlace s) (sym (there i)) (struct-part s sound at n stride size got is i (omega (arith, p, count)));
      packed_below = λ i p. omega (arith, ap place_rank (there i), t.some);
      link_part = λ names i p. ap (option_map (value_at names s)) (found i)
          ∙ sym (member-past _ i (omega (arith, p, count, array-count s sound at n stride size got is names)));
      link_there = λ i. subst (λ o. IfSome o (λ j. j < length s.nodes)) (sym (found i)) tt;
      link_below = λ i. subst (λ o. IfSome o (λ j. suc j < suc at)) (sym (found i)) tt;
    }

parts_by_shape : (s : Slots) (at : ℕ) (n : Node) (shape : Shape) → n.shape ≡ shape →
    slice_get s.nodes at ≡ Some n → IsSound s →
    AreParts s (place.Node at) (links_from s at) (parts_at s (slice_get s.nodes at))
parts_by_shape s at n (Integer w g) e got sound = parts_by_links s at n got sound (subst HasLinks (sym e)
    (record { not_integers = λ v h q. cc; not_offsets = λ v h u q. cc; not_records = λ z k q. cc }))
    (ap (λ x. part_count s x n.content) e)
parts_by_shape s at n (Offset w g u) e got sound = parts_by_links s at n got sound (subst HasLinks (sym e)
    (record { not_integers = λ v h q. cc; not_offsets = λ v h u q. cc; not_records = λ z k q. cc }))
    (ap (λ x. part_count s x n.content) e)
parts_by_shape s at n Text e got sound = parts_by_links s at n got sound (subst HasLinks (sym e)
    (record { not_integers = λ v h q. cc; not_offsets = λ v h u q. cc; not_records = λ z k q. cc }))
    (ap (λ x. part_count s x n.content) e)
parts_by_shape s at n (Integers w g) e got sound =
    let r = read-node s at n sound got in
    parts_by_row s at n w got r (row_shape s n.shape n.start n.content w (inl (g, e)) r.content)
    (ap (λ x. links_of s x n.content) e) (ap (λ x. part_count s x n.content) e) (λ i. ap (λ x. part_place x at i) e)
parts_by_shape s at n (Offsets w g u) e got sound =
    let r = read-node s at n sound got in
    parts_by_row s at n w got r (row_shape s n.shape n.start n.content w (inr (g, u, e)) r.content)
    (ap (λ x. links_of s x n.content) e) (ap (λ x. part_count s x n.content) e) (λ i. ap (λ x. part_place x at i) e)
parts_by_shape s at n (Records stride size) e got sound = parts_by_records s at n stride size got sound e
parts_by_shape s at n Array e got sound = parts_by_links s at n got sound (subst HasLinks (sym e)
    (record { not_integers = λ v h q. cc; not_offsets = λ v h u q. cc; not_records = λ z k q. cc }))
    (ap (λ x. part_count s x n.content) e)
parts_by_shape s at n (Struct t) e got sound = parts_by_links s at n got sound (subst HasLinks (sym e)
    (record { not_integers = λ v h q. cc; not_offsets = λ v h u q. cc; not_records = λ z k q. cc }))
    (ap (λ x. part_count s x n.content) e)
parts_by_shape s at n (Union t i) e got sound = parts_by_links s at n got sound (subst HasLinks (sym e)
    (record { not_integers = λ v h q. cc; not_offsets = λ v h u q. cc; not_records = λ z k q. cc }))
    (ap (λ x. part_count s x n.content) e)

-- a packed number has no parts
element-members : (s : Slots) (o : Option Node) (i : ℕ) → members_of (element_in s o i) ≡ NoMembers
element-members s None i = refl
element-members s (Some n) i = number-members n.shape _ _
  where
    number-members : (shape : Shape) (start digits : ℕ) → members_of (element_value shape start digits) ≡ NoMembers
    number-members (Integer w g) start digits = refl
    number-members (Offset w g u) start digits = refl
    number-members Text start digits = refl
    number-members (Integers w g) start digits = refl
    number-members (Offsets w g u) start digits = refl
    number-members (Records stride size) start digits = refl
    number-members Array start digits = refl
    number-members (Struct t) start digits = refl
    number-members (Union t i) start digits = refl

parts_of_none : (s : Slots) (p : Place) →
    ((names : Names) → members_of (place_value names s p) ≡ NoMembers) → AreParts s p [] 0
parts_of_none s p none = record {
  packed_count = λ names h. absurd (omega (arith, h));
  link_count = λ names e. sym (ap member_count (none names));
  packed_part = λ names i h. absurd (omega (arith, h));
  packed_there = λ i h. absurd (omega (arith, h));
  packed_below = λ i h. absurd (omega (arith, h));
  link_part = λ names i h. sym (ap (λ ms. member_at ms i) (none names));
  link_there = λ i. tt;
  link_below = λ i. tt;
}

no_node : Node
no_node = record { start = 0; content = 0; shape = Array }

-- a part of a packed struct has the parts of the template's part
option_map-twice : {A B C : Type 0} (f : A → B) (g : B → C) (o : Option A) →
    option_map (λ x. g (f x)) o ≡ option_map g (option_map f o)
option_map-twice f g None = refl
option_map-twice f g (Some x) = refl

child_there : (s : Slots) (a i j k : ℕ) (o : Option (Option ℕ)) → IsPartOf s a i j → slice_get (links_from s j) k ≡ o →
    IfSome (unwrap_or o None) (λ c. c < j) →
    IfSome (unwrap_or o None) (λ c. IsPlace s (place.Part a i c))
child_there s a i j k None p e below = tt
child_there s a i j k (Some None) p e below = tt
child_there s a i j k (Some (Some c)) p e below =
    has_part s a i c (record {
      own = p.own;
      found = p.found;
      there = p.there;
      before = omega (arith, below, p.before);
      part = ∥∥₁_map p.part (λ t. part_child t k c e);
    })

parts_by_template : (s : Slots) (a i j : ℕ) → IsSound s → IsPartOf s a i j →
    AreParts s (place.Part a i j) (links_from s j) 0
parts_by_template s a i j sound p =
    let n = slice_index_or s.nodes j no_node in
    let found : slice_get s.nodes j ≡ Some n = slice_get-get_or s.nodes j no_node (part_within s a i j p) in
    let links = are_links s j n found sound (part_node n found p.part).has in
    let shift = record_size p.own.shape * i in
    let row = row_in s p.own i in
    record {
      packed_count = λ names h. absurd (omega (arith, h));
      link_count = λ names e. links.count names
          ∙ sym (ap (λ o. member_count (members_of (part_in names s o i j))) p.found
          ∙ instance-count (value_at names s j) shift row);
      packed_part = λ names k h. absurd (omega (arith, h));
      packed_there = λ k h. absurd (omega (arith, h));
      packed_below = λ k h. absurd (omega (arith, h));
      link_part = λ names k h.
          let o = unwrap_or (slice_get (links_from s j) k) None in
          ap (λ w. option_map (λ c. part_in names s w i c) o) p.found
          ∙ option_map-twice (value_at names s) (λ v. instance v shift row) o
          ∙ ap (option_map (λ v. instance v shift row)) (links.part names k)
          ∙ sym (instance-at (value_at names s j) shift row k)
          ∙ sym (ap (λ w. member_at (members_of (part_in names s w i j)) k) p.found);
      link_there = λ k. child_there s a i j k (slice_get (links_from s j) k) p refl (links.below k);
      link_below = λ k. next _ j (links.below k);
    }

parts_by_place : (s : Slots) (p : Place) → IsSound s → IsPlace s p → AreParts s p (place_links s p) (place_packed s p)
parts_by_place s (place.Node at) sound h =
    let n = slice_index_or s.nodes at no_node in
    parts_by_shape s at n n.shape refl (slice_get-get_or s.nodes at no_node h) sound
parts_by_place s (place.Element a i) sound h =
    parts_of_none s (place.Element a i) (λ names. element-members s (slice_get s.nodes a) i)
parts_by_place s (place.Part a i j) sound h = parts_by_template s a i j sound (is_part s a i j h)

pub parts_of : (s : Slots) (p : Place) (links : List (Option ℕ)) (packed : ℕ) → IsSound s → IsPlace s p →
    links ≡ place_links s p → packed ≡ place_packed s p → AreParts s p links packed
parts_of s p links packed sound h own count =
    subst (λ k. AreParts s p links k) (sym count)
    (subst (λ ls. AreParts s p ls (place_packed s p)) (sym own) (parts_by_place s p sound h))
