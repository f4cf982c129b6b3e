-- Reading a sound store.
use Rattle.std.proofs.Common.{◌≡◌, ℕ, zero, suc, ◌+◌, ◌<◌, ◌≤◌, List, [], ◌∷◌, Option, Some, None, length, take, map, refl, sym, ◌∙◌, ap, subst, arith, zero-add}
use Rattle.std.specs.Prelude.{slice_get, unwrap_or, IfSome}
use Rattle.std.specs.Option.{option_map}
use Rattle.std.proofs.lemmas.Option.{slice_get-get_or, get_or_from_slice_get, slice_get-map}
use Rattle.value_store.specs.declared.store.slots.Node.{Node}
use Rattle.pickle_meaning.specs.Values.{Value, label_of, start_of, end_of, members_of, member_at, gathered}
use Rattle.value_store.specs.Names.{Names}
use Rattle.value_store.specs.Slots.{Slots, no_value, opened, tree_of, trees, value_at, LinksBelow, IsRead, IsNodeAt, AreNodesFrom, IsSound}
use Rattle.value_store.proofs.Grown.{get-trees_from, length-trees}

-- the members that a list is gathered to
pub member_at-gathered : (os : List (Option Value)) (i : ℕ) →
    member_at (gathered os) i ≡ unwrap_or (slice_get os i) None
member_at-gathered [] i = refl
member_at-gathered (None ∷ os) zero = refl
member_at-gathered (None ∷ os) (suc i) = member_at-gathered os i
member_at-gathered (Some v ∷ os) zero = refl
member_at-gathered (Some v ∷ os) (suc i) = member_at-gathered os i

AreNodes-at : (s : Slots) (i : ℕ) (ns : List Node) (k : ℕ) (n : Node) → AreNodesFrom s i ns → slice_get ns k ≡ Some n →
    IsNodeAt s (i + k) n
AreNodes-at s i [] k n h g = cc
AreNodes-at s i (m ∷ ns) zero n h g =
    let e : m ≡ n = cc in let z : i ≡ i + 0 = omega arith in
    subst (λ j. IsNodeAt s j n) z (subst (λ x. IsNodeAt s i x) e h.0)
AreNodes-at s i (m ∷ ns) (suc k) n h g =
    let z : (i + 1) + k ≡ i + suc k = omega arith in
    subst (λ j. IsNodeAt s j n) z (AreNodes-at s (i + 1) ns k n h.1 g)

pub node_sound : (s : Slots) (i : ℕ) (n : Node) → IsSound s → slice_get s.nodes i ≡ Some n → IsNodeAt s i n
node_sound s i n h g = subst (λ j. IsNodeAt s j n) (zero-add i) (AreNodes-at s 0 s.nodes i n h.nodes g)

pub value-at : (names : Names) (s : Slots) (i : ℕ) (n : Node) → slice_get s.nodes i ≡ Some n →
    value_at names s i ≡ tree_of names s (take i (trees names s)) n
unfolding value_at trees
value-at names s i n g =
    get_or_from_slice_get (trees names s) i (tree_of names s (take i (trees names s)) n) no_value
    (subst (λ m. slice_get (trees names s) m ≡ Some (tree_of names s (take m (trees names s)) n)) (zero-add i)
    (get-trees_from names s [] s.nodes i n g))

pub LinksBelow-at : (k : ℕ) (ls : List (Option ℕ)) (i : ℕ) (l : Option ℕ) → LinksBelow k ls → slice_get ls i ≡ Some l →
    IfSome l (λ j. j < k)
LinksBelow-at k [] i l h g = cc
LinksBelow-at k (None ∷ ls) zero l h g = let e : None ≡ l = cc in subst (λ x. IfSome x (λ j. j < k)) e tt
LinksBelow-at k (Some j ∷ ls) zero l h g = let e : Some j ≡ l = cc in subst (λ x. IfSome x (λ j. j < k)) e h.0
LinksBelow-at k (None ∷ ls) (suc i) l h g = LinksBelow-at k ls i l h g
LinksBelow-at k (Some j ∷ ls) (suc i) l h g = LinksBelow-at k ls i l h.1 g

-- the value of a link to an earlier node
pub opened-value : (names : Names) (s : Slots) (l : Option ℕ) → IfSome l (λ j. j < length s.nodes) →
    opened (trees names s) l ≡ option_map (value_at names s) l
unfolding value_at
opened-value names s None h = refl
opened-value names s (Some j) h = slice_get-get_or (trees names s) j no_value (omega (arith, length-trees names s))

IfSome-weaker : (l : Option ℕ) (i k : ℕ) → i ≤ k → IfSome l (λ j. j < i) → IfSome l (λ j. j < k)
IfSome-weaker None i k p h = tt
IfSome-weaker (Some j) i k p h = omega arith

pub below-found : (k : ℕ) (ls : List (Option ℕ)) (i : ℕ) (o : Option (Option ℕ)) → LinksBelow k ls →
    slice_get ls i ≡ o → IfSome (unwrap_or o None) (λ j. j < k)
below-found k ls i None h g = tt
below-found k ls i (Some l) h g = LinksBelow-at k ls i l h g

pub read-node : (s : Slots) (i : ℕ) (n : Node) → IsSound s → slice_get s.nodes i ≡ Some n → IsRead s i n
read-node s i n h g =
    record {
      label = λ names. ap label_of (value-at names s i n g);
      start = λ names. ap start_of (value-at names s i n g);
      end = λ names. ap end_of (value-at names s i n g);
      members = λ names. ap members_of (value-at names s i n g);
      content = (node_sound s i n h g).content;
      sound = h;
    }

-- the value that a link of a node refers to
pub child-found : (names : Names) (s : Slots) (k : ℕ) (ls : List (Option ℕ)) (o : Option (Option ℕ)) →
    k ≤ length s.nodes → IfSome (unwrap_or o None) (λ j. j < k) →
    option_map (value_at names s) (unwrap_or o None) ≡ unwrap_or (option_map (opened (trees names s)) o) None
child-found names s k ls None p h = refl
child-found names s k ls (Some l) p h = sym (opened-value names s l (IfSome-weaker l k (length s.nodes) p h))

-- links to values of the store
pub links-read : (names : Names) (s : Slots) (ls : List (Option ℕ)) (i : ℕ) → LinksBelow (length s.nodes) ls →
    option_map (value_at names s) (unwrap_or (slice_get ls i) None)
    ≡ unwrap_or (slice_get (map (opened (trees names s)) ls) i) None
links-read names s ls i h =
    child-found names s (length s.nodes) ls (slice_get ls i) (omega arith)
    (below-found (length s.nodes) ls i (slice_get ls i) h refl)
    ∙ sym (ap (λ o. unwrap_or o None) (slice_get-map (opened (trees names s)) ls i))

pub links-below : (s : Slots) (ls : List (Option ℕ)) (i : ℕ) → LinksBelow (length s.nodes) ls →
    IfSome (unwrap_or (slice_get ls i) None) (λ j. j < length s.nodes)
links-below s ls i h = below-found (length s.nodes) ls i (slice_get ls i) h refl
