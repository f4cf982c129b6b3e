-- How the values of a store grow.
use Rattle.std.proofs.Common.{◌≡◌, ℕ, zero, suc, ◌+◌, ◌≤◌, List, [], ◌∷◌, ◌++◌, Option, Some, None, length, take, drop, map, refl, sym, ◌∙◌, ap, subst, arith, add-zero}
use Rattle.std.specs.Prelude.{slice_get}
use Rattle.std.proofs.lemmas.List.{append_assoc, append-nil, length_push, length-take, map-append, take-map, length-map, take_at, take-append-drop}
use Rattle.value_store.specs.declared.store.slots.Node.{Node}
use Rattle.value_store.specs.declared.store.slots.Marks.{Marks}
use Rattle.pickle_meaning.specs.Values.{Value}
use Rattle.value_store.specs.Names.{Names}
use Rattle.value_store.specs.Slots.{Slots, opened, tree_of, trees_from, trees, stack, LinksBelow, IsNodeAt, AreNodesFrom, IsSound, cut_to}
use Rattle.value_store.proofs.FamilyRows.{Grows, slice_get-append, slice_get-push, IsContent-grow, links_of-grow, parts_in-grow, label_in-grow, size_in-grow}
use Rattle.value_store.proofs.Templates.{HasTemplate-grow}

pub LinksBelow-weaker : (j k : ℕ) (ls : List (Option ℕ)) → j ≤ k → LinksBelow j ls → LinksBelow k ls
LinksBelow-weaker j k [] p h = tt
LinksBelow-weaker j k (None ∷ ls) p h = LinksBelow-weaker j k ls p h
LinksBelow-weaker j k (Some i ∷ ls) p h = (omega (arith, h.0), LinksBelow-weaker j k ls p h.1)

pub LinksBelow-append : (k : ℕ) (xs ys : List (Option ℕ)) → LinksBelow k xs → LinksBelow k ys → LinksBelow k (xs ++ ys)
LinksBelow-append k [] ys h g = g
LinksBelow-append k (None ∷ xs) ys h g = LinksBelow-append k xs ys h g
LinksBelow-append k (Some i ∷ xs) ys h g = (h.0, LinksBelow-append k xs ys h.1 g)

pub LinksBelow-take : (k n : ℕ) (xs : List (Option ℕ)) → LinksBelow k xs → LinksBelow k (take n xs)
LinksBelow-take k zero xs h = tt
LinksBelow-take k (suc n) [] h = tt
LinksBelow-take k (suc n) (None ∷ xs) h = LinksBelow-take k n xs h
LinksBelow-take k (suc n) (Some i ∷ xs) h = (h.0, LinksBelow-take k n xs h.1)

pub LinksBelow-drop : (k n : ℕ) (xs : List (Option ℕ)) → LinksBelow k xs → LinksBelow k (drop n xs)
LinksBelow-drop k zero xs h = h
LinksBelow-drop k (suc n) [] h = tt
LinksBelow-drop k (suc n) (None ∷ xs) h = LinksBelow-drop k n xs h
LinksBelow-drop k (suc n) (Some i ∷ xs) h = LinksBelow-drop k n xs h.1

pub opened-grow : (ts us : List Value) (ls : List (Option ℕ)) → LinksBelow (length ts) ls →
    map (opened (ts ++ us)) ls ≡ map (opened ts) ls
opened-grow ts us [] h = refl
opened-grow ts us (None ∷ ls) h = ap (λ os. None ∷ os) (opened-grow ts us ls h)
opened-grow ts us (Some i ∷ ls) h = let e = slice_get-append ts us i h.0 in let r = opened-grow ts us ls h.1 in cc

-- links to the first `i` values
pub opened-take : (i : ℕ) (ts : List Value) (ls : List (Option ℕ)) → i ≤ length ts → LinksBelow i ls →
    map (opened (take i ts)) ls ≡ map (opened ts) ls
opened-take i ts ls p h =
    let low : LinksBelow (length (take i ts)) ls =
    LinksBelow-weaker i (length (take i ts)) ls (omega (arith, length-take i ts)) h in
    sym (opened-grow (take i ts) (drop i ts) ls low) ∙ ap (λ us. map (opened us) ls) (take-append-drop i ts)

-- a node's value does not change as rows are added
tree_of-grow : (names : Names) (s u : Slots) (ts : List Value) (i : ℕ) (n : Node) → Grows s u → IsNodeAt s i n →
    tree_of names u ts n ≡ tree_of names s ts n
tree_of-grow names s u ts i n g h =
    let l = label_in-grow names s u n.shape n.start n.content g h.content in
    let z = size_in-grow s u n.shape n.start n.content g h.content in
    let p = parts_in-grow s u ts n.shape n.start n.content g h.content in cc

pub trees_from-grow : (names : Names) (s u : Slots) (ts : List Value) (i : ℕ) (ns : List Node) → Grows s u →
    AreNodesFrom s i ns → trees_from names u ts ns ≡ trees_from names s ts ns
trees_from-grow names s u ts i [] g h = refl
trees_from-grow names s u ts i (n ∷ ns) g h =
    ap (λ t. trees_from names u (ts ++ t ∷ []) ns) (tree_of-grow names s u ts i n g h.0)
    ∙ trees_from-grow names s u (ts ++ tree_of names s ts n ∷ []) (i + 1) ns g h.1

pub trees_from-append : (names : Names) (s : Slots) (ts : List Value) (ns ms : List Node) →
    trees_from names s ts (ns ++ ms) ≡ trees_from names s (trees_from names s ts ns) ms
trees_from-append names s ts [] ms = refl
trees_from-append names s ts (n ∷ ns) ms = trees_from-append names s (ts ++ tree_of names s ts n ∷ []) ns ms

pub length-trees_from : (names : Names) (s : Slots) (ts : List Value) (ns : List Node) →
    length (trees_from names s ts ns) ≡ length ts + length ns
length-trees_from names s ts [] = omega arith
length-trees_from names s ts (n ∷ ns) =
    let t = tree_of names s ts n in omega (arith, length-trees_from names s (ts ++ t ∷ []) ns, length_push ts t)

pub trees_from-more : (names : Names) (s : Slots) (ts : List Value) (ns : List Node) →
    (us : List Value) × (trees_from names s ts ns ≡ ts ++ us)
trees_from-more names s ts [] = ([], sym (append-nil ts))
trees_from-more names s ts (n ∷ ns) =
    let t = tree_of names s ts n in
    let r = trees_from-more names s (ts ++ t ∷ []) ns in
    (t ∷ r.0, r.1 ∙ append_assoc ts (t ∷ []) r.0)

IsNodeAt-grow : (s u : Slots) (i : ℕ) (n : Node) → Grows s u → IsNodeAt s i n → IsNodeAt u i n
IsNodeAt-grow s u i n g h = record {
  content = IsContent-grow s u n.shape n.start n.content g h.content;
  below = rw (links_of-grow s u n.shape n.start n.content g h.content) h.below;
  template = HasTemplate-grow s u i n.shape n.start n.content g h.content h.template;
}

pub AreNodes-grow : (s u : Slots) (i : ℕ) (ns : List Node) → Grows s u → AreNodesFrom s i ns → AreNodesFrom u i ns
AreNodes-grow s u i [] g h = tt
AreNodes-grow s u i (n ∷ ns) g h = (IsNodeAt-grow s u i n g h.0, AreNodes-grow s u (i + 1) ns g h.1)

pub AreNodes-push : (s : Slots) (i : ℕ) (ns : List Node) (n : Node) → AreNodesFrom s i ns →
    IsNodeAt s (i + length ns) n → AreNodesFrom s i (ns ++ n ∷ [])
AreNodes-push s i [] n h g = (rw (let e : i ≡ i + 0 = omega arith in e) g, tt)
AreNodes-push s i (m ∷ ns) n h g =
    let e : (i + 1) + length ns ≡ i + suc (length ns) = omega arith in
    (h.0, AreNodes-push s (i + 1) ns n h.1 (rw e g))

-- the value of a node, from the values of those before it
pub get-trees_from : (names : Names) (s : Slots) (ts : List Value) (ns : List Node) (k : ℕ) (n : Node) →
    slice_get ns k ≡ Some n →
    slice_get (trees_from names s ts ns) (length ts + k)
    ≡ Some (tree_of names s (take (length ts + k) (trees_from names s ts ns)) n)
get-trees_from names s ts [] k n g = cc
get-trees_from names s ts (m ∷ ns) zero n g =
    let t = tree_of names s ts m in
    let r = trees_from-more names s (ts ++ t ∷ []) ns in
    let f = trees_from names s (ts ++ t ∷ []) ns in
    let e : f ≡ ts ++ t ∷ r.0 = r.1 ∙ append_assoc ts (t ∷ []) r.0 in
    let at : slice_get f (length ts) ≡ Some t = rw e (slice_get-push ts t r.0) in
    let own : take (length ts) f ≡ ts = rw e (take_at ts (t ∷ r.0) (length ts) refl) in
    let is : m ≡ n = cc in
    rw add-zero (subst (λ x. slice_get f (length ts) ≡ Some (tree_of names s (take (length ts) f) x)) is
    (at ∙ ap (λ us. Some (tree_of names s us m)) (sym own)))
get-trees_from names s ts (m ∷ ns) (suc k) n g =
    let t = tree_of names s ts m in
    let e : length ts + suc k ≡ length (ts ++ t ∷ []) + k = omega (arith, length_push ts t) in
    rw e (get-trees_from names s (ts ++ t ∷ []) ns k n g)

pub length-trees : (names : Names) (s : Slots) → length (trees names s) ≡ length s.nodes
unfolding trees
length-trees names s = omega (arith, length-trees_from names s [] s.nodes)

pub length-stack : (names : Names) (s : Slots) → length (stack names s) ≡ length s.pending
unfolding stack
length-stack names s = length-map s.pending (opened (trees names s))

-- u is s with one more node, which may have rows of its own
pub record NewNode (s u : Slots) (n : Node) : Type 0 where
  pub grows : Grows s u
  pub nodes : u.nodes ≡ s.nodes ++ n ∷ []
  pub is : IsNodeAt u (length s.nodes) n

pub trees-new : (names : Names) (s u : Slots) (n : Node) → IsSound s → NewNode s u n →
    trees names u ≡ trees names s ++ tree_of names u (trees names s) n ∷ []
unfolding trees
trees-new names s u n h g =
    let e : trees_from names u [] s.nodes ≡ trees_from names s [] s.nodes =
    trees_from-grow names s u [] 0 s.nodes g.grows h.nodes in
    ap (trees_from names u []) g.nodes
    ∙ trees_from-append names u [] s.nodes (n ∷ [])
    ∙ ap (λ ts. ts ++ tree_of names u ts n ∷ []) e

pub nodes-new : (s u : Slots) (n : Node) → IsSound s → NewNode s u n → AreNodesFrom u 0 u.nodes
nodes-new s u n h g =
    let zero_more : 0 + length s.nodes ≡ length s.nodes = omega arith in
    subst (λ ns. AreNodesFrom u 0 ns) (sym g.nodes)
    (AreNodes-push u 0 s.nodes n (AreNodes-grow s u 0 s.nodes g.grows h.nodes) (rw zero_more g.is))

-- the new node takes the place of the pending children above a mark
pub pending-new : (s u : Slots) (n : Node) (mark : ℕ) → IsSound s → NewNode s u n →
    u.pending ≡ take mark s.pending ++ Some (length s.nodes) ∷ [] → LinksBelow (length u.nodes) u.pending
pending-new s u n mark h g e =
    let count : length u.nodes ≡ length s.nodes + 1 = ap length g.nodes ∙ length_push s.nodes n in
    rw (e, count) (LinksBelow-append (length s.nodes + 1) (take mark s.pending) (Some (length s.nodes) ∷ [])
    (LinksBelow-take (length s.nodes + 1) mark s.pending
    (LinksBelow-weaker (length s.nodes) (length s.nodes + 1) s.pending (omega arith) h.pending)) (omega arith, tt))

pub stack-new : (names : Names) (s u : Slots) (n : Node) (mark : ℕ) → IsSound s → NewNode s u n →
    u.pending ≡ take mark s.pending ++ Some (length s.nodes) ∷ [] →
    stack names u ≡ take mark (stack names s) ++ Some (tree_of names u (trees names s) n) ∷ []
unfolding stack
stack-new names s u n mark h g e =
    let ts = trees names s in
    let t = tree_of names u ts n in
    let grown : trees names u ≡ ts ++ t ∷ [] = trees-new names s u n h g in
    let len : length ts ≡ length s.nodes = length-trees names s in
    let low : LinksBelow (length ts) (take mark s.pending) = LinksBelow-weaker (length s.nodes) (length ts)
    (take mark s.pending) (omega arith) (LinksBelow-take (length s.nodes) mark s.pending h.pending) in
    ap (λ us. map (opened us) u.pending) grown
    ∙ ap (map (opened (ts ++ t ∷ []))) e
    ∙ map-append (opened (ts ++ t ∷ [])) (take mark s.pending) (Some (length s.nodes) ∷ [])
    ∙ ap (λ os. os ++ slice_get (ts ++ t ∷ []) (length s.nodes) ∷ [])
    (opened-grow ts (t ∷ []) (take mark s.pending) low ∙ sym (take-map (opened ts) mark s.pending))
    ∙ ap (λ o. take mark (map (opened ts) s.pending) ++ o ∷ [])
    (ap (slice_get (ts ++ t ∷ [])) (sym len) ∙ slice_get-push ts t [])

-- a store grew from its entries up to some marks
pub Grows-cut : (k : Marks) (s : Slots) → Grows (cut_to k s) s
Grows-cut k s = record {
  more_nodes = drop k.nodes s.nodes;
  more_families = drop k.families s.families;
  more_links = drop k.links s.links;
  more_texts = drop k.texts s.texts;
  more_bytes = drop k.bytes s.bytes;
  nodes = sym (take-append-drop k.nodes s.nodes);
  families = sym (take-append-drop k.families s.families);
  links = sym (take-append-drop k.links s.links);
  texts = sym (take-append-drop k.texts s.texts);
  bytes = sym (take-append-drop k.bytes s.bytes);
}

pub trees-cut : (names : Names) (k : Marks) (s : Slots) → IsSound (cut_to k s) →
    (us : List Value) × (trees names s ≡ trees names (cut_to k s) ++ us)
unfolding trees
trees-cut names k s h =
    let below = take k.nodes s.nodes in
    let above = drop k.nodes s.nodes in
    let e : trees_from names s [] below ≡ trees_from names (cut_to k s) [] below =
    trees_from-grow names (cut_to k s) s [] 0 below (Grows-cut k s) h.nodes in
    let r = trees_from-more names s (trees_from names s [] below) above in (
      r.0,
      ap (trees_from names s []) (sym (take-append-drop k.nodes s.nodes)) ∙ trees_from-append names s [] below above
          ∙ r.1 ∙ ap (λ ts. ts ++ r.0) e,
    )

pub stack-cut : (names : Names) (k : Marks) (s : Slots) → IsSound (cut_to k s) →
    stack names (cut_to k s) ≡ take k.pending (stack names s)
unfolding stack
stack-cut names k s h =
    let r = trees-cut names k s h in
    let ts = trees names (cut_to k s) in
    let low : LinksBelow (length ts) (take k.pending s.pending) = LinksBelow-weaker (length (take k.nodes s.nodes))
    (length ts) (take k.pending s.pending) (omega (arith, length-trees names (cut_to k s))) h.pending in
    sym (ap (λ us. take k.pending (map (opened us) s.pending)) r.1 ∙ take-map (opened (ts ++ r.0)) k.pending s.pending
    ∙ opened-grow ts r.0 (take k.pending s.pending) low)
