-- What a placed value adds to a store.
use Rattle.std.proofs.Common.{◌≡◌, ℕ, ◌+◌, ◌-◌, ◌≤◌, false, List, [], ◌∷◌, ◌++◌, Option, Some, None, length, take, drop, map, refl, sym, ◌∙◌, ap, arith, add-one}
use Rattle.std.proofs.lemmas.List.{append-nil, length-append, length-take, length-drop, length_push, take-append-le, take_at, take_all, map-append, drop-map}
use Rattle.std.proofs.Math.Seq.{get_or-append_seam}
use Rattle.value_store.specs.declared.store.room.Room.{Room}
use Rattle.value_store.specs.declared.store.slots.Node.{Node}
use Rattle.value_store.specs.declared.store.slots.Family.{Family}
use Rattle.value_store.specs.declared.store.slots.Marks.{Marks}
use Rattle.value_store.specs.declared.store.slots.Shape.{Shape}
use Rattle.value_store.specs.declared.store.slots.Shape.TheVariants.{Integer, Offset, Text, Integers, Offsets, Records, Array, Struct, Union}
use Rattle.pickle_meaning.specs.Room.{text_length}
use Rattle.pickle_meaning.specs.Values.{Label, IntegerLabel, OffsetLabel, Value, Mapped, NoMembers, gathered}
use Rattle.value_store.specs.Names.{Names}
use Rattle.value_store.specs.Takes.{Vector, NodesOf, FamiliesOf, LinksOf, PendingOf, TextsOf, BytesOf, of_vector, packed_width, families_taken, texts_taken, own_takes, value_takes, members_take, place_takes, level_takes}
use Rattle.value_store.specs.Slots.{Slots, number_in, opened, family_at, first_link, family_links, links_of, tree_of, trees, trees_from, stack, LinksBelow, IsFamily, IsContent, HasTemplate, IsSound, cut_to, marks_of, level_of, IsLevel, Adds, with_leaf, with_family, with_absent, IsComposite, composite_label, IsNumber, number_value}
use Rattle.value_store.proofs.FamilyRows.{Grows, part-all, first_link-grow}
use Rattle.value_store.proofs.Grown.{NewNode, AreNodes-grow, trees_from-grow, nodes-new, pending-new, stack-new, stack-cut, length-stack, LinksBelow-append, LinksBelow-drop}
use Rattle.value_store.proofs.Counted.{marks-cut}
use Rattle.value_store.proofs.Taken.{members_take-of, member_count-of, members_pending, kept-members, not_packed}

-- numbers

number-content : (s : Slots) (shape : Shape) (start c : ℕ) → IsNumber shape → IsContent s shape start c
number-content s (Integer w g) start c h = h
number-content s (Offset w g u) start c h = h
number-content s Text start c h = absurd h
number-content s (Integers w g) start c h = absurd h
number-content s (Offsets w g u) start c h = absurd h
number-content s (Records stride size) start c h = absurd h
number-content s Array start c h = absurd h
number-content s (Struct t) start c h = absurd h
number-content s (Union i t) start c h = absurd h

number-links : (s : Slots) (shape : Shape) (c i : ℕ) → IsNumber shape → LinksBelow i (links_of s shape c)
number-links s (Integer w g) c i h = tt
number-links s (Offset w g u) c i h = tt
number-links s Text c i h = absurd h
number-links s (Integers w g) c i h = absurd h
number-links s (Offsets w g u) c i h = absurd h
number-links s (Records stride size) c i h = absurd h
number-links s Array c i h = absurd h
number-links s (Struct t) c i h = absurd h
number-links s (Union j t) c i h = absurd h

number-tree : (names : Names) (s : Slots) (ts : List Value) (shape : Shape) (start c : ℕ) → IsNumber shape →
    tree_of names s ts (record { start = start; content = c; shape = shape }) ≡ number_value shape start c
number-tree names s ts (Integer w g) start c h = refl
number-tree names s ts (Offset w g u) start c h = refl
number-tree names s ts Text start c h = absurd h
number-tree names s ts (Integers w g) start c h = absurd h
number-tree names s ts (Offsets w g u) start c h = absurd h
number-tree names s ts (Records stride size) start c h = absurd h
number-tree names s ts Array start c h = absurd h
number-tree names s ts (Struct t) start c h = absurd h
number-tree names s ts (Union i t) start c h = absurd h

number-template : (s : Slots) (i : ℕ) (shape : Shape) (start c : ℕ) → IsNumber shape → HasTemplate s i shape start c
number-template s i (Integer w g) start c h = tt
number-template s i (Offset w g u) start c h = tt
number-template s i Text start c h = absurd h
number-template s i (Integers w g) start c h = absurd h
number-template s i (Offsets w g u) start c h = absurd h
number-template s i (Records stride size) start c h = absurd h
number-template s i Array start c h = absurd h
number-template s i (Struct t) start c h = absurd h
number-template s i (Union j t) start c h = absurd h

-- a number takes a node
abbrev leaf_takes : Vector → ℕ
leaf_takes NodesOf = 1
leaf_takes FamiliesOf = 0
leaf_takes LinksOf = 0
leaf_takes PendingOf = 0
leaf_takes TextsOf = 0
leaf_takes BytesOf = 0

leaf-own : (vector : Vector) (label : Label) → families_taken label ≡ 0 → texts_taken label ≡ 0 →
    text_length label ≡ 0 → own_takes vector label NoMembers + 0 ≡ leaf_takes vector
leaf-own NodesOf label families texts bytes = refl
leaf-own FamiliesOf label families texts bytes = omega (arith, families)
leaf-own LinksOf label families texts bytes = refl
leaf-own PendingOf label families texts bytes = refl
leaf-own TextsOf label families texts bytes = omega (arith, texts)
leaf-own BytesOf label families texts bytes = omega (arith, bytes)

number-takes : (vector : Vector) (shape : Shape) (start c : ℕ) → IsNumber shape →
    value_takes false vector (number_value shape start c) ≡ leaf_takes vector
number-takes vector (Integer w g) start c h =
    leaf-own vector (IntegerLabel (number_in g c) (record { width = w; signed = g })) refl refl refl
number-takes vector (Offset w g u) start c h =
    leaf-own vector (OffsetLabel (number_in g c) (record { width = w; signed = g }) u) refl refl refl
number-takes vector Text start c h = absurd h
number-takes vector (Integers w g) start c h = absurd h
number-takes vector (Offsets w g u) start c h = absurd h
number-takes vector (Records stride size) start c h = absurd h
number-takes vector Array start c h = absurd h
number-takes vector (Struct t) start c h = absurd h
number-takes vector (Union i t) start c h = absurd h

leaf-marks : (vector : Vector) (shape : Shape) (start c : ℕ) (s : Slots) →
    of_vector vector (marks_of (with_leaf shape start c s))
    ≡ of_vector vector (marks_of s) + (place_takes vector + leaf_takes vector)
leaf-marks NodesOf shape start c s =
    let n : Node = record { start = start; content = c; shape = shape } in length_push s.nodes n
leaf-marks FamiliesOf shape start c s = omega arith
leaf-marks LinksOf shape start c s = omega arith
leaf-marks PendingOf shape start c s = length_push s.pending (Some (length s.nodes))
leaf-marks TextsOf shape start c s = omega arith
leaf-marks BytesOf shape start c s = omega arith

-- a node after all pending ones
pub pending-last : (s : Slots) →
    s.pending ++ Some (length s.nodes) ∷ [] ≡ take (length s.pending) s.pending ++ Some (length s.nodes) ∷ []
pending-last s = ap (λ ps. ps ++ Some (length s.nodes) ∷ []) (sym (take_all (length s.pending) s.pending (omega arith)))

pub stack-last : (names : Names) (s u : Slots) (n : Node) → IsSound s → NewNode s u n →
    u.pending ≡ s.pending ++ Some (length s.nodes) ∷ [] →
    stack names u ≡ stack names s ++ Some (tree_of names u (trees names s) n) ∷ []
stack-last names s u n h g e =
    stack-new names s u n (length s.pending) h g (e ∙ pending-last s)
    ∙ ap (λ os. os ++ Some (tree_of names u (trees names s) n) ∷ [])
    (take_all (length s.pending) (stack names s) (omega (arith, length-stack names s)))

pub leaf-new : (shape : Shape) (start c : ℕ) (s : Slots) → IsNumber shape →
    NewNode s (with_leaf shape start c s) (record { start = start; content = c; shape = shape })
leaf-new shape start c s number = record {
  grows = record {
    more_nodes = record { start = start; content = c; shape = shape } ∷ [];
    more_families = [];
    more_links = [];
    more_texts = [];
    more_bytes = [];
    nodes = refl;
    families = sym (append-nil s.families);
    links = sym (append-nil s.links);
    texts = sym (append-nil s.texts);
    bytes = sym (append-nil s.bytes);
  };
  nodes = refl;
  is = record {
    content = number-content (with_leaf shape start c s) shape start c number;
    below = number-links (with_leaf shape start c s) shape c (length s.nodes) number;
    template = number-template (with_leaf shape start c s) (length s.nodes) shape start c number;
  };
}

leaf-rest : (shape : Shape) (start c : ℕ) (s : Slots) → cut_to (marks_of s) (with_leaf shape start c s) ≡ s
leaf-rest shape start c s =
    let n : Node = record { start = start; content = c; shape = shape } in
    let nodes = take_at s.nodes (n ∷ []) (length s.nodes) refl in
    let families = take_all (length s.families) s.families (omega arith) in
    let links = take_all (length s.links) s.links (omega arith) in
    let pending = take_at s.pending (Some (length s.nodes) ∷ []) (length s.pending) refl in
    let texts = take_all (length s.texts) s.texts (omega arith) in
    let bytes = take_all (length s.bytes) s.bytes (omega arith) in
    let eta : record {
      nodes = s.nodes;
      families = s.families;
      links = s.links;
      pending = s.pending;
      texts = s.texts;
      bytes = s.bytes;
    } ≡ s = refl in
    cc

-- a number adds its value
pub number-adds : (room : Room) (shape : Shape) (start c : ℕ) (s : Slots) → IsNumber shape → IsSound s →
    Adds room s (with_leaf shape start c s) (λ names. Some (number_value shape start c) ∷ [])
number-adds room shape start c s number sound =
    let u = with_leaf shape start c s in
    let n : Node = record { start = start; content = c; shape = shape } in
    let new = leaf-new shape start c s number in
    record {
      sound = record {
        nodes = nodes-new s u n sound new;
        pending = pending-new s u n (length s.pending) sound new (pending-last s);
        links = sound.links;
        bytes = sound.bytes;
      };
      rest = leaf-rest shape start c s;
      stack = λ names. stack-last names s u n sound new refl
          ∙ ap (λ t. stack names s ++ Some t ∷ []) (number-tree names u (trees names s) shape start c number);
      takes = λ none names vector.
          omega (arith, leaf-marks vector shape start c s, number-takes vector shape start c number);
      bare = λ e. absurd (omega (arith, e, length_push s.nodes n));
    }

-- arrays, structs and unions

family-content : (s : Slots) (shape : Shape) (start c : ℕ) → IsComposite shape → IsFamily s c →
    IsContent s shape start c
family-content s (Integer w g) start c h f = absurd h
family-content s (Offset w g u) start c h f = absurd h
family-content s Text start c h f = absurd h
family-content s (Integers w g) start c h f = absurd h
family-content s (Offsets w g u) start c h f = absurd h
family-content s (Records stride size) start c h f = absurd h
family-content s Array start c h f = f
family-content s (Struct t) start c h f = f
family-content s (Union i t) start c h f = f

pub family-links : (s : Slots) (shape : Shape) (c : ℕ) → IsComposite shape →
    links_of s shape c ≡ family_links s.families s.links c
family-links s (Integer w g) c h = absurd h
family-links s (Offset w g u) c h = absurd h
family-links s Text c h = absurd h
family-links s (Integers w g) c h = absurd h
family-links s (Offsets w g u) c h = absurd h
family-links s (Records stride size) c h = absurd h
family-links s Array c h = refl
family-links s (Struct t) c h = refl
family-links s (Union i t) c h = refl

family-template : (s : Slots) (i : ℕ) (shape : Shape) (start c : ℕ) → IsComposite shape → HasTemplate s i shape start c
family-template s i (Integer w g) start c h = absurd h
family-template s i (Offset w g u) start c h = absurd h
family-template s i Text start c h = absurd h
family-template s i (Integers w g) start c h = absurd h
family-template s i (Offsets w g u) start c h = absurd h
family-template s i (Records stride size) start c h = absurd h
family-template s i Array start c h = tt
family-template s i (Struct t) start c h = tt
family-template s i (Union j t) start c h = tt

family-tree : (names : Names) (s : Slots) (ts : List Value) (shape : Shape) (start c : ℕ) → IsComposite shape →
    tree_of names s ts (record { start = start; content = c; shape = shape }) ≡ Mapped (composite_label names shape)
    start (start + (family_at s.families c).size) (gathered (map (opened ts) (family_links s.families s.links c)))
family-tree names s ts (Integer w g) start c h = absurd h
family-tree names s ts (Offset w g u) start c h = absurd h
family-tree names s ts Text start c h = absurd h
family-tree names s ts (Integers w g) start c h = absurd h
family-tree names s ts (Offsets w g u) start c h = absurd h
family-tree names s ts (Records stride size) start c h = absurd h
family-tree names s ts Array start c h = refl
family-tree names s ts (Struct t) start c h = refl
family-tree names s ts (Union i t) start c h = refl

-- the label of an array, a struct or a union is one of a family
family-label : (names : Names) (shape : Shape) → (families_taken (composite_label names shape) ≡ 1)
    × ((texts_taken (composite_label names shape) ≡ 0) × (text_length (composite_label names shape) ≡ 0))
family-label names (Integer w g) = (refl, (refl, refl))
family-label names (Offset w g u) = (refl, (refl, refl))
family-label names Text = (refl, (refl, refl))
family-label names (Integers w g) = (refl, (refl, refl))
family-label names (Offsets w g u) = (refl, (refl, refl))
family-label names (Records stride size) = (refl, (refl, refl))
family-label names Array = (refl, (refl, refl))
family-label names (Struct t) = (refl, (refl, refl))
family-label names (Union i t) = (refl, (refl, refl))

-- a family takes what its members did, and also a node, the family and a link for each member
family-marks : (vector : Vector) (names : Names) (shape : Shape) (start size : ℕ) (k : Marks) (s : Slots)
    (os : List (Option Value)) → k.pending ≤ length s.pending →
    length os ≡ length s.pending - k.pending →
    of_vector vector (marks_of s) ≡ of_vector vector k + level_takes false vector os →
    of_vector vector (marks_of (with_family shape start size k.pending s)) ≡
    of_vector vector k + (place_takes vector
    + (own_takes vector (composite_label names shape) (gathered os) + members_take false vector (gathered os)))
family-marks NodesOf names shape start size k s os within count e =
    let n : Node = record { start = start; content = length s.families; shape = shape } in
    omega (arith, e, length_push s.nodes n, members_take-of false NodesOf os refl)
family-marks FamiliesOf names shape start size k s os within count e =
    let f : Family = record { end = length s.links + (length s.pending - k.pending); size = size } in
    omega (arith, e, length_push s.families f, members_take-of false FamiliesOf os refl, (family-label names shape).0)
family-marks LinksOf names shape start size k s os within count e =
    omega (
      arith,
      e,
      count,
      length-append s.links (drop k.pending s.pending),
      length-drop k.pending s.pending,
      members_take-of false LinksOf os refl,
      member_count-of os,
    )
family-marks PendingOf names shape start size k s os within count e =
    omega (
      arith,
      within,
      length_push (take k.pending s.pending) (Some (length s.nodes)),
      length-take k.pending s.pending,
      members_pending false (gathered os),
    )
family-marks TextsOf names shape start size k s os within count e =
    omega (arith, e, members_take-of false TextsOf os refl, (family-label names shape).1.0)
family-marks BytesOf names shape start size k s os within count e =
    omega (arith, e, members_take-of false BytesOf os refl, (family-label names shape).1.1)

module _ (shape : Shape) (start size mark : ℕ) (s : Slots) (composite : IsComposite shape) (sound : IsSound s)
    (within : mark ≤ length s.pending) where
  new_family : Family
  new_family = record { end = length s.links + (length s.pending - mark); size = size }

  pub family-end : family_at (with_family shape start size mark s).families (length s.families)
      ≡ record { end = length s.links + (length s.pending - mark); size = size }
  family-end =
      get_or-append_seam s.families (record { end = length s.links + (length s.pending - mark); size = size }) [] _

  family-first : first_link (with_family shape start size mark s).families (length s.families) ≡ length s.links
  family-first = first_link-grow s.families
      (record { end = length s.links + (length s.pending - mark); size = size } ∷ []) (length s.families) (omega arith)
      ∙ sound.links

  pub family-row : family_links (with_family shape start size mark s).families
      (with_family shape start size mark s).links (length s.families) ≡ drop mark s.pending
  family-row =
      let count : (length s.links + (length s.pending - mark)) - length s.links ≡ length s.pending - mark =
      omega arith in
      rw (family-first, family-end, count)
      (part-all (length s.pending - mark) s.links (drop mark s.pending) (length-drop mark s.pending))

  pub family-new : NewNode s (with_family shape start size mark s)
      (record { start = start; content = length s.families; shape = shape })
  family-new =
      let u = with_family shape start size mark s in
      record {
        grows = record {
          more_nodes = record { start = start; content = length s.families; shape = shape } ∷ [];
          nodes = refl;
          more_families = record { end = length s.links + (length s.pending - mark); size = size } ∷ [];
          more_links = drop mark s.pending;
          more_texts = [];
          more_bytes = [];
          families = refl;
          links = refl;
          texts = sym (append-nil s.texts);
          bytes = sym (append-nil s.bytes);
        };
        nodes = refl;
        is = record {
          content = family-content u shape start (length s.families) composite (
            omega (
              arith,
              length_push s.families (record { end = length s.links + (length s.pending - mark); size = size }),
            ),
            record {
              ordered = omega (arith, family-first, ap (λ (f : Family). f.end) family-end);
              within = omega (
                arith,
                ap (λ (f : Family). f.end) family-end,
                length-append s.links (drop mark s.pending),
                length-drop mark s.pending,
              );
            },
          );
          below = rw (family-links u shape (length s.families) composite, family-row)
              (LinksBelow-drop (length s.nodes) mark s.pending sound.pending);
          template = family-template u (length s.nodes) shape start (length s.families) composite;
        };
      }

  family-sound : IsSound (with_family shape start size mark s)
  family-sound =
      let u = with_family shape start size mark s in
      let n : Node = record { start = start; content = length s.families; shape = shape } in
      let f : Family = record { end = length s.links + (length s.pending - mark); size = size } in
      record {
        nodes = nodes-new s u n sound family-new;
        pending = pending-new s u n mark sound family-new refl;
        links = ap (first_link u.families) (length_push s.families f ∙ add-one (length s.families))
            ∙ ap (λ (g : Family). g.end) family-end
            ∙ omega (arith, length-append s.links (drop mark s.pending), length-drop mark s.pending);
        bytes = sound.bytes;
      }

  pub family-value : (names : Names) →
      tree_of names (with_family shape start size mark s) (trees names s)
      (record { start = start; content = length s.families; shape = shape }) ≡
      Mapped (composite_label names shape) start (start + size) (gathered (drop mark (stack names s)))
  unfolding stack
  family-value names =
      let u = with_family shape start size mark s in
      let ts = trees names s in
      family-tree names u ts shape start (length s.families) composite
      ∙ ap (λ (f : Family). Mapped (composite_label names shape) start
      (start + f.size) (gathered (map (opened ts) (family_links u.families u.links (length s.families))))) family-end
      ∙ ap (λ ls. Mapped (composite_label names shape) start (start + size) (gathered (map (opened ts) ls))) family-row
      ∙ ap (λ os. Mapped (composite_label names shape) start (start + size) (gathered os))
      (sym (drop-map (opened ts) mark s.pending))

  family-stack : (names : Names) → stack names (with_family shape start size mark s) ≡ take mark (stack names s)
      ++ Some (Mapped (composite_label names shape) start (start + size) (gathered (drop mark (stack names s)))) ∷ []
  family-stack names =
      let u = with_family shape start size mark s in
      let n : Node = record { start = start; content = length s.families; shape = shape } in
      stack-new names s u n mark sound family-new refl
      ∙ ap (λ t. take mark (stack names s) ++ Some t ∷ []) (family-value names)

-- the parts of an open value become one value, which takes their place
pub family-adds : (room : Room) (shape : Shape) (start size : ℕ) (k : Marks) (s : Slots) → IsComposite shape →
    IsSound s → IsLevel room k s → IsSound (cut_to k s) →
    Adds room (cut_to k s) (with_family shape start size k.pending s)
    (λ names. Some (Mapped (composite_label names shape) start (start + size) (gathered (level_of names k s))) ∷ [])
family-adds room shape start size k s composite sound is below =
    let u = with_family shape start size k.pending s in
    let n : Node = record { start = start; content = length s.families; shape = shape } in
    let f : Family = record { end = length s.links + (length s.pending - k.pending); size = size } in
    let w = is.within in
    let m = marks-cut k s w in
    let nodes = take-append-le k.nodes s.nodes (n ∷ []) w.nodes in
    let families = take-append-le k.families s.families (f ∷ []) w.families in
    let links = take-append-le k.links s.links (drop k.pending s.pending) w.links in
    let pending = take_at (take k.pending s.pending) (Some (length s.nodes) ∷ []) k.pending
    (omega (arith, w.pending, length-take k.pending s.pending)) in
    let left : cut_to k u ≡ cut_to k s = cc in
    record {
      sound = family-sound shape start size k.pending s composite sound w.pending;
      rest = ap (λ (j : Marks). cut_to j u) m ∙ left;
      stack = λ names. family-stack shape start size k.pending s composite sound w.pending names
          ∙ ap (λ os.
          os ++ Some (Mapped (composite_label names shape) start (start + size) (gathered (level_of names k s))) ∷ [])
          (sym (stack-cut names k s below));
      takes = λ none names vector.
          let os = level_of names k s in
          let label = composite_label names shape in
          let count : length os ≡ length s.pending - k.pending =
          omega (arith, length-drop k.pending (stack names s), length-stack names s) in
          let kept = kept-members (packed_width false label (gathered os)) vector label (gathered os)
          (members_take false vector (gathered os)) (not_packed label (gathered os)) in
          omega (
            arith,
            family-marks vector names shape start size k s os w.pending count (is.takes none names vector),
            ap (of_vector vector) m,
            kept,
          );
      bare = λ e. absurd (omega (arith, e, length_push s.nodes n, length-take k.nodes s.nodes));
    }

-- an absent field
absent-same : (s : Slots) → Grows s (with_absent s)
absent-same s = record {
  more_nodes = [];
  nodes = sym (append-nil s.nodes);
  more_families = [];
  more_links = [];
  more_texts = [];
  more_bytes = [];
  families = sym (append-nil s.families);
  links = sym (append-nil s.links);
  texts = sym (append-nil s.texts);
  bytes = sym (append-nil s.bytes);
}

absent-rest : (s : Slots) → cut_to (marks_of s) (with_absent s) ≡ s
absent-rest s =
    let nodes = take_all (length s.nodes) s.nodes (omega arith) in
    let families = take_all (length s.families) s.families (omega arith) in
    let links = take_all (length s.links) s.links (omega arith) in
    let pending = take_at s.pending (None ∷ []) (length s.pending) refl in
    let texts = take_all (length s.texts) s.texts (omega arith) in
    let bytes = take_all (length s.bytes) s.bytes (omega arith) in
    let eta : record {
      nodes = s.nodes;
      families = s.families;
      links = s.links;
      pending = s.pending;
      texts = s.texts;
      bytes = s.bytes;
    } ≡ s = refl in
    cc

absent-stack : (names : Names) (s : Slots) → IsSound s → stack names (with_absent s) ≡ stack names s ++ None ∷ []
unfolding stack trees
absent-stack names s sound =
    let e : trees_from names (with_absent s) [] s.nodes ≡ trees_from names s [] s.nodes =
    trees_from-grow names s (with_absent s) [] 0 s.nodes (absent-same s) sound.nodes in
    ap (λ ts. map (opened ts) (s.pending ++ None ∷ [])) e ∙ map-append (opened (trees names s)) s.pending (None ∷ [])

absent-marks : (vector : Vector) (s : Slots) →
    of_vector vector (marks_of (with_absent s)) ≡ of_vector vector (marks_of s) + place_takes vector
absent-marks NodesOf s = omega arith
absent-marks FamiliesOf s = omega arith
absent-marks LinksOf s = omega arith
absent-marks PendingOf s = length_push s.pending None
absent-marks TextsOf s = omega arith
absent-marks BytesOf s = omega arith

pub absent-adds : (room : Room) (s : Slots) → IsSound s → Adds room s (with_absent s) (λ names. None ∷ [])
absent-adds room s sound = record {
  sound = record {
    nodes = AreNodes-grow s (with_absent s) 0 s.nodes (absent-same s) sound.nodes;
    pending = LinksBelow-append (length s.nodes) s.pending (None ∷ []) sound.pending tt;
    links = sound.links;
    bytes = sound.bytes;
  };
  rest = absent-rest s;
  stack = λ names. absent-stack names s sound;
  takes = λ none names vector. omega (arith, absent-marks vector s);
  bare = λ e. record { families = refl; links = refl; texts = refl; bytes = refl };
}
