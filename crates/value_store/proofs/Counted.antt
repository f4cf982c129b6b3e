-- What a store's frames take, as values are added to them and open values closed.
use Rattle.std.proofs.Common.{◌≡◌, ◌+◌, ◌≤◌, false, List, [], ◌∷◌, ◌++◌, Option, length, take, drop, refl, sym, ◌∙◌, ap, subst, arith}
use Rattle.std.proofs.lemmas.List.{append-nil, length-take, drop-append-le, drop_at, take_all, take-take, take-append-drop}
use Rattle.value_store.specs.declared.store.room.Room.{Room}
use Rattle.value_store.specs.declared.store.slots.Marks.{Marks}
use Rattle.pickle_meaning.specs.Values.{Value}
use Rattle.value_store.specs.Levels.{extended}
use Rattle.value_store.specs.Names.{Names}
use Rattle.value_store.specs.Takes.{Vector, of_vector, level_takes}
use Rattle.value_store.specs.Slots.{Slots, stack, IsSound, HasNoRows, cut_to, marks_of, root_marks, IsWithin, level_of, IsLevel, AreLevels, levels_at, Adds}
use Rattle.value_store.proofs.Grown.{length-stack, stack-cut}
use Rattle.value_store.proofs.Taken.{level_takes-append}

-- cutting below what stays
pub cut-cut : (j k : Marks) (s : Slots) → IsWithin j (cut_to k s) → cut_to j (cut_to k s) ≡ cut_to j s
cut-cut j k s w =
    let nodes = take-take j.nodes k.nodes s.nodes (omega (arith, w.nodes, length-take k.nodes s.nodes)) in
    let families =
    take-take j.families k.families s.families (omega (arith, w.families, length-take k.families s.families)) in
    let links = take-take j.links k.links s.links (omega (arith, w.links, length-take k.links s.links)) in
    let pending = take-take j.pending k.pending s.pending (omega (arith, w.pending, length-take k.pending s.pending)) in
    let texts = take-take j.texts k.texts s.texts (omega (arith, w.texts, length-take k.texts s.texts)) in
    let bytes = take-take j.bytes k.bytes s.bytes (omega (arith, w.bytes, length-take k.bytes s.bytes)) in
    cc

pub cut-all : (s : Slots) → cut_to (marks_of s) s ≡ s
cut-all s =
    let nodes = take_all (length s.nodes) s.nodes (omega arith) in
    let families = take_all (length s.families) s.families (omega arith) in
    let links = take_all (length s.links) s.links (omega arith) in
    let pending = take_all (length s.pending) s.pending (omega arith) in
    let texts = take_all (length s.texts) s.texts (omega arith) in
    let bytes = take_all (length s.bytes) s.bytes (omega arith) in
    let eta : record {
      nodes = s.nodes;
      families = s.families;
      links = s.links;
      pending = s.pending;
      texts = s.texts;
      bytes = s.bytes;
    } ≡ s = refl in
    cc

pub within-length : {A : Type 0} (xs ys : List A) → take (length xs) ys ≡ xs → length xs ≤ length ys
within-length xs ys e = omega (arith, ap length e, length-take (length xs) ys)

-- what stays is within what was added to
pub Adds-within : (room : Room) (s u : Slots) (vs : Names → List (Option Value)) → Adds room s u vs →
    IsWithin (marks_of s) u
Adds-within room s u vs h = record {
  nodes = within-length s.nodes u.nodes (ap (λ (x : Slots). x.nodes) h.rest);
  families = within-length s.families u.families (ap (λ (x : Slots). x.families) h.rest);
  links = within-length s.links u.links (ap (λ (x : Slots). x.links) h.rest);
  pending = within-length s.pending u.pending (ap (λ (x : Slots). x.pending) h.rest);
  texts = within-length s.texts u.texts (ap (λ (x : Slots). x.texts) h.rest);
  bytes = within-length s.bytes u.bytes (ap (λ (x : Slots). x.bytes) h.rest);
}

within-more : (k : Marks) (s u : Slots) → IsWithin k s → IsWithin (marks_of s) u → IsWithin k u
within-more k s u h g = record {
  nodes = omega (arith, h.nodes, g.nodes);
  families = omega (arith, h.families, g.families);
  links = omega (arith, h.links, g.links);
  pending = omega (arith, h.pending, g.pending);
  texts = omega (arith, h.texts, g.texts);
  bytes = omega (arith, h.bytes, g.bytes);
}

level-more : (names : Names) (room : Room) (k : Marks) (s u : Slots) (vs : Names → List (Option Value)) → IsWithin k s →
    Adds room s u vs → level_of names k u ≡ level_of names k s ++ vs names
level-more names room k s u vs w h = ap (drop k.pending) (h.stack names)
    ∙ drop-append-le k.pending (stack names s) (vs names) (omega (arith, w.pending, length-stack names s))

more-takes : (names : Names) (vector : Vector) (room : Room) (k : Marks) (s u : Slots)
    (vs : Names → List (Option Value)) → IsWithin k s → Adds room s u vs →
    level_takes false vector (level_of names k u)
    ≡ level_takes false vector (level_of names k s) + level_takes false vector (vs names)
more-takes names vector room k s u vs w h =
    ap (level_takes false vector) (level-more names room k s u vs w h)
    ∙ level_takes-append false vector (level_of names k s) (vs names)

IsLevel-more : (room : Room) (k : Marks) (s u : Slots) (vs : Names → List (Option Value)) → IsLevel room k s →
    Adds room s u vs → IsLevel room k u
IsLevel-more room k s u vs h g = record {
  within = within-more k s u h.within (Adds-within room s u vs g);
  takes = λ none names vector. omega
      (arith, h.takes none names vector, g.takes none names vector, more-takes names vector room k s u vs h.within g);
  bare = λ e.
      let more = (Adds-within room s u vs g).nodes in
      let own = h.bare (omega (arith, e, more, h.within.nodes)) in
      let added = g.bare (omega (arith, e, more, h.within.nodes)) in
      record {
        families = added.families ∙ own.families;
        links = added.links ∙ own.links;
        texts = added.texts ∙ own.texts;
        bytes = added.bytes ∙ own.bytes;
      };
}

pub cut-more : (room : Room) (k : Marks) (s u : Slots) (vs : Names → List (Option Value)) → IsWithin k s →
    Adds room s u vs → cut_to k u ≡ cut_to k s
cut-more room k s u vs w h =
    let w' : IsWithin k (cut_to (marks_of s) u) = subst (λ x. IsWithin k x) (sym h.rest) w in
    sym (cut-cut k (marks_of s) u w') ∙ ap (cut_to k) h.rest

-- values are added to the innermost open value
pub levels-more : (room : Room) (ks : List Marks) (s u : Slots) (vs : Names → List (Option Value)) →
    AreLevels room ks s → Adds room s u vs → AreLevels room ks u
levels-more room [] s u vs h g = (g.sound, IsLevel-more room root_marks s u vs h.1 g)
levels-more room (k ∷ ks) s u vs h g = (
  g.sound,
  (
    IsLevel-more room k s u vs h.1.0 g,
    subst (λ x. AreLevels room ks x) (sym (cut-more room k s u vs h.1.0.within g)) h.1.1,
  ),
)

pub levels_at-more : (names : Names) (room : Room) (ks : List Marks) (s u : Slots) (vs : Names → List (Option Value)) →
    AreLevels room ks s → Adds room s u vs → levels_at names ks u ≡ extended (levels_at names ks s) (vs names)
levels_at-more names room [] s u vs h g = ap (λ top. top ∷ []) (level-more names room root_marks s u vs h.1.within g)
levels_at-more names room (k ∷ ks) s u vs h g =
    let e = level-more names room k s u vs h.1.0.within g in
    let r = cut-more room k s u vs h.1.0.within g in
    ap (λ top. top ∷ levels_at names ks (cut_to k u)) e
    ∙ ap (λ x. (level_of names k s ++ vs names) ∷ levels_at names ks x) r

-- a frame above all that a store holds
pub level-above : (names : Names) (room : Room) (s u : Slots) (vs : Names → List (Option Value)) → Adds room s u vs →
    level_of names (marks_of s) u ≡ vs names
level-above names room s u vs h = ap (drop (length s.pending)) (h.stack names)
    ∙ drop_at (stack names s) (vs names) (length s.pending) (length-stack names s)

pub levels-above : (room : Room) (ks : List Marks) (s u : Slots) (vs : Names → List (Option Value)) →
    AreLevels room ks s → Adds room s u vs → AreLevels room (marks_of s ∷ ks) u
levels-above room ks s u vs h g = (
  g.sound,
  (
    record {
      within = Adds-within room s u vs g;
      takes = λ none names vector.
          omega (arith, g.takes none names vector, ap (level_takes false vector) (level-above names room s u vs g));
      bare = g.bare;
    },
    subst (λ x. AreLevels room ks x) (sym g.rest) h,
  ),
)

pub levels_at-above : (names : Names) (room : Room) (ks : List Marks) (s u : Slots) (vs : Names → List (Option Value)) →
    Adds room s u vs → levels_at names (marks_of s ∷ ks) u ≡ vs names ∷ levels_at names ks s
levels_at-above names room ks s u vs g =
    ap (λ top. top ∷ levels_at names ks (cut_to (marks_of s) u)) (level-above names room s u vs g)
    ∙ ap (λ x. vs names ∷ levels_at names ks x) g.rest

pub levels-sound : (room : Room) (ks : List Marks) (s : Slots) → AreLevels room ks s → IsSound s
levels-sound room [] s h = h.0
levels-sound room (k ∷ ks) s h = h.0

-- nothing is added
pub Adds-none : (room : Room) (s : Slots) → IsSound s → Adds room s s (λ names. [])
Adds-none room s h = record {
  sound = h;
  rest = cut-all s;
  stack = λ names. sym (append-nil (stack names s));
  takes = λ none names vector. omega arith;
  bare = λ e. record { families = refl; links = refl; texts = refl; bytes = refl };
}

pub marks-cut : (k : Marks) (s : Slots) → IsWithin k s → marks_of (cut_to k s) ≡ k
marks-cut k s w =
    let nodes : length (take k.nodes s.nodes) ≡ k.nodes = omega (arith, w.nodes, length-take k.nodes s.nodes) in
    let families : length (take k.families s.families) ≡ k.families =
    omega (arith, w.families, length-take k.families s.families) in
    let links : length (take k.links s.links) ≡ k.links = omega (arith, w.links, length-take k.links s.links) in
    let pending : length (take k.pending s.pending) ≡ k.pending =
    omega (arith, w.pending, length-take k.pending s.pending) in
    let texts : length (take k.texts s.texts) ≡ k.texts = omega (arith, w.texts, length-take k.texts s.texts) in
    let bytes : length (take k.bytes s.bytes) ≡ k.bytes = omega (arith, w.bytes, length-take k.bytes s.bytes) in
    let eta : record {
      nodes = k.nodes;
      families = k.families;
      links = k.links;
      pending = k.pending;
      texts = k.texts;
      bytes = k.bytes;
    } ≡ k = refl in
    cc

-- an open value is what was added since it was opened
pub Adds-level : (room : Room) (k : Marks) (ks : List Marks) (s : Slots) → AreLevels room (k ∷ ks) s →
    Adds room (cut_to k s) s (λ names. level_of names k s)
Adds-level room k ks s h =
    let w = h.1.0.within in
    let m = marks-cut k s w in
    record {
      sound = h.0;
      rest = ap (λ (j : Marks). cut_to j s) m;
      stack = λ names.
          sym (ap (λ vs. vs ++ level_of names k s) (stack-cut names k s (levels-sound room ks (cut_to k s) h.1.1))
          ∙ take-append-drop k.pending (stack names s));
      takes = λ none names vector. omega (arith, h.1.0.takes none names vector, ap (of_vector vector) m);
      bare = subst (λ (j : Marks). length s.nodes ≡ j.nodes → HasNoRows j s) (sym m) h.1.0.bare;
    }
