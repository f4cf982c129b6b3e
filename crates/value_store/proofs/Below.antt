-- What calls leave of the slots that a store had, one after the other.
use Rattle.std.proofs.Common.{◌≡◌, ℕ, ◌+◌, ◌-◌, ◌<◌, ◌≤◌, List, [], ◌∷◌, ◌++◌, Option, length, take, refl, sym, ◌∙◌, ap, subst, arith}
use Rattle.std.proofs.lemmas.List.{append-nil, length_push, take-append-le, take-take, take_at, length-take}
use Rattle.pickle_meaning.specs.Values.{Levels}
use Rattle.value_store.specs.declared.store.slots.Marks.{Marks}
use Rattle.value_store.specs.declared.store.slots.Shape.{Shape}
use Rattle.value_store.specs.Below.{Extends, KeepsBelow}
use Rattle.value_store.specs.Gathering.{with_records, IsGathering}
use Rattle.value_store.specs.Names.{Names}
use Rattle.value_store.specs.Slots.{Slots, Held, cut_to, marks_of, innermost, IsFilling, IsWithin, AreLevels, HasSlots, Regrown, with_leaf, with_family, with_bytes, with_absent, with_more}
use Rattle.value_store.proofs.Counted.{cut-all, cut-cut, within-length}
use Rattle.value_store.proofs.Fits.{innermost-level}
use Rattle.value_store.proofs.Writing.{filling-slots}

-- what is there after others
kept : {A : Type 0} (xs ys : List A) → take (length xs) (xs ++ ys) ≡ xs
kept xs ys = take_at xs ys (length xs) refl

all-kept : {A : Type 0} (xs : List A) → take (length xs) xs ≡ xs
all-kept xs = ap (take (length xs)) (sym (append-nil xs)) ∙ kept xs []

-- slots with the same entries
same-slots : (s u : Slots) → s.nodes ≡ u.nodes → s.families ≡ u.families → s.links ≡ u.links →
    s.pending ≡ u.pending → s.texts ≡ u.texts → s.bytes ≡ u.bytes → s ≡ u
same-slots s u nodes families links pending texts bytes =
    let eta-s : record {
      nodes = s.nodes;
      families = s.families;
      links = s.links;
      pending = s.pending;
      texts = s.texts;
      bytes = s.bytes;
    } ≡ s = refl in
    let eta-u : record {
      nodes = u.nodes;
      families = u.families;
      links = u.links;
      pending = u.pending;
      texts = u.texts;
      bytes = u.bytes;
    } ≡ u = refl in
    cc

-- slots that have more
pub leaf-kept : (shape : Shape) (start c : ℕ) (s : Slots) → cut_to (marks_of s) (with_leaf shape start c s) ≡ s
leaf-kept shape start c s =
    same-slots _ _ (kept s.nodes _) (all-kept s.families) (all-kept s.links) (kept s.pending _)
    (all-kept s.texts) (all-kept s.bytes)

pub absent-kept : (s : Slots) → cut_to (marks_of s) (with_absent s) ≡ s
absent-kept s =
    same-slots _ _ (all-kept s.nodes) (all-kept s.families) (all-kept s.links) (kept s.pending _)
    (all-kept s.texts) (all-kept s.bytes)

bytes-kept : (shape : Shape) (bytes : List ℕ) (start : ℕ) (s : Slots) →
    cut_to (marks_of s) (with_bytes shape bytes start s) ≡ s
bytes-kept shape bytes start s =
    same-slots _ _ (kept s.nodes _) (all-kept s.families) (all-kept s.links) (kept s.pending _)
    (kept s.texts _) (kept s.bytes bytes)

-- what is there when a value was opened
module _ (k : Marks) (s : Slots) (w : IsWithin k s) where
  pub kept-below : (u : Slots) → cut_to (marks_of s) u ≡ s → cut_to k u ≡ cut_to k s
  kept-below u e = sym (cut-cut k (marks_of s) u (subst (IsWithin k) (sym e) w)) ∙ ap (cut_to k) e

  pub bytes-below : (shape : Shape) (bytes : List ℕ) (start : ℕ) →
      cut_to k (with_bytes shape bytes start s) ≡ cut_to k s
  bytes-below shape bytes start = kept-below (with_bytes shape bytes start s) (bytes-kept shape bytes start s)

  -- the parts of the open value are replaced by one
  replaced : (link : Option ℕ) → take k.pending (take k.pending s.pending ++ link ∷ []) ≡ take k.pending s.pending
  replaced link =
      take-append-le k.pending (take k.pending s.pending) (link ∷ [])
      (omega (arith, w.pending, length-take k.pending s.pending))
      ∙ take-take k.pending k.pending s.pending (omega arith)

  pub family-below : (shape : Shape) (start size : ℕ) →
      cut_to k (with_family shape start size k.pending s) ≡ cut_to k s
  family-below shape start size =
      same-slots _ _ (take-append-le k.nodes s.nodes _ w.nodes) (take-append-le k.families s.families _ w.families)
      (take-append-le k.links s.links _ w.links) (replaced _) refl refl

  pub records-below : (size stride : ℕ) (bytes : List ℕ) (start : ℕ) →
      cut_to k (with_records size stride bytes start k.pending s) ≡ cut_to k s
  records-below size stride bytes start =
      same-slots _ _ (take-append-le k.nodes s.nodes _ w.nodes) refl refl (replaced _)
      (take-append-le k.texts s.texts _ w.texts) (take-append-le k.bytes s.bytes bytes w.bytes)

  -- the open value has a text, which gets more bytes
  pub more-below : (more : List ℕ) → k.texts + 1 ≤ length s.texts → cut_to k (with_more more s) ≡ cut_to k s
  more-below more some =
      let last = length s.texts - 1 in
      let texts : take k.texts (take last s.texts ++ length (s.bytes ++ more) ∷ []) ≡ take k.texts s.texts =
      take-append-le k.texts (take last s.texts) _ (omega (arith, some, length-take last s.texts))
      ∙ take-take k.texts last s.texts (omega (arith, some)) in
      same-slots _ _ refl refl refl refl texts (take-append-le k.bytes s.bytes more w.bytes)

pub cut-twice : (k : Marks) (s : Slots) → cut_to k (cut_to k s) ≡ cut_to k s
cut-twice k s =
    same-slots _ _ (take-take k.nodes k.nodes s.nodes (omega arith))
    (take-take k.families k.families s.families (omega arith)) (take-take k.links k.links s.links (omega arith))
    (take-take k.pending k.pending s.pending (omega arith)) (take-take k.texts k.texts s.texts (omega arith))
    (take-take k.bytes k.bytes s.bytes (omega arith))

-- slots that are the same up to some marks
below-within : (k : Marks) (s u : Slots) → IsWithin k s → cut_to k u ≡ cut_to k s → IsWithin k u
below-within k s u w e = record {
  nodes = omega (
    arith,
    w.nodes,
    ap (λ (x : Slots). length x.nodes) e,
    length-take k.nodes u.nodes,
    length-take k.nodes s.nodes,
  );
  families = omega (
    arith,
    w.families,
    ap (λ (x : Slots). length x.families) e,
    length-take k.families u.families,
    length-take k.families s.families,
  );
  links = omega (
    arith,
    w.links,
    ap (λ (x : Slots). length x.links) e,
    length-take k.links u.links,
    length-take k.links s.links,
  );
  pending = omega (
    arith,
    w.pending,
    ap (λ (x : Slots). length x.pending) e,
    length-take k.pending u.pending,
    length-take k.pending s.pending,
  );
  texts = omega (
    arith,
    w.texts,
    ap (λ (x : Slots). length x.texts) e,
    length-take k.texts u.texts,
    length-take k.texts s.texts,
  );
  bytes = omega (
    arith,
    w.bytes,
    ap (λ (x : Slots). length x.bytes) e,
    length-take k.bytes u.bytes,
    length-take k.bytes s.bytes,
  );
}

pub extended-within : (s u : Slots) → cut_to (marks_of s) u ≡ s → IsWithin (marks_of s) u
extended-within s u e = record {
  nodes = within-length s.nodes u.nodes (ap (λ (x : Slots). x.nodes) e);
  families = within-length s.families u.families (ap (λ (x : Slots). x.families) e);
  links = within-length s.links u.links (ap (λ (x : Slots). x.links) e);
  pending = within-length s.pending u.pending (ap (λ (x : Slots). x.pending) e);
  texts = within-length s.texts u.texts (ap (λ (x : Slots). x.texts) e);
  bytes = within-length s.bytes u.bytes (ap (λ (x : Slots). x.bytes) e);
}

-- Calls one after the other. `g` is a store when a value was opened: the innermost frame of `h` has the marks of `g`,
-- and the slots of `g` are still there. So they are after each call that keeps what is below the innermost frame.

-- a call that changes no slot, or is refused
pub extends-same : (h n : Held) → n.slots ≡ h.slots → Extends h n
extends-same h n e = ap (cut_to (marks_of h.slots)) e ∙ cut-all h.slots

pub extends-then : (g h n : Held) → Extends g h → Extends h n → Extends g n
extends-then g h n e f = kept-below (marks_of g.slots) h.slots (extended-within g.slots h.slots e) n.slots f ∙ e

pub extends-below : (g h n : Held) → innermost h.frames ≡ marks_of g.slots → Extends g h → KeepsBelow h n → Extends g n
extends-below g h n frame e below =
    ap (λ (k : Marks). cut_to k n.slots) (sym frame) ∙ below ∙ ap (λ (k : Marks). cut_to k h.slots) frame ∙ e

-- the frame is cleared or dropped
pub extends-back : (g h n : Held) → innermost h.frames ≡ marks_of g.slots → Extends g h →
    n.slots ≡ cut_to (innermost h.frames) h.slots → n.slots ≡ g.slots
extends-back g h n frame e cut = cut ∙ ap (λ (k : Marks). cut_to k h.slots) frame ∙ e

pub below-same : (h n : Held) → n.slots ≡ h.slots → KeepsBelow h n
below-same h n e = ap (cut_to (innermost h.frames)) e

pub below-then : (h m n : Held) → m.frames ≡ h.frames → KeepsBelow h m → KeepsBelow m n → KeepsBelow h n
below-then h m n frames first next =
    ap (λ ks. cut_to (innermost ks) n.slots) (sym frames) ∙ next ∙ ap (λ ks. cut_to (innermost ks) m.slots) frames
    ∙ first

pub below-extends : (g h n : Held) → innermost h.frames ≡ marks_of g.slots → Extends g h → Extends h n → KeepsBelow h n
below-extends g h n frame e f =
    kept-below (innermost h.frames) h.slots
    (subst (λ k. IsWithin k h.slots) (sym frame) (extended-within g.slots h.slots e)) n.slots f

pub below-more : (h m n : Held) → KeepsBelow h m → n.slots ≡ m.slots → KeepsBelow h n
below-more h m n below e = ap (cut_to (innermost h.frames)) e ∙ below

pub below-cut : (h n : Held) → n.slots ≡ cut_to (innermost h.frames) h.slots → KeepsBelow h n
below-cut h n e = ap (cut_to (innermost h.frames)) e ∙ cut-twice (innermost h.frames) h.slots

-- the calls of a store

pub frame-within : (h : Held) → AreLevels h.room h.frames h.slots → IsWithin (innermost h.frames) h.slots
frame-within h all = (innermost-level h.room h.frames h.slots all).is.within

-- the innermost open value has a text
pub filling-text : (names : Names) (h : Held) (shape : Shape) (bytes : List ℕ) (start : ℕ) (outer : Levels)
    (w : IsFilling names h shape bytes start outer) → 0 < length bytes →
    (innermost h.frames).texts + 1 ≤ length h.slots.texts
filling-text names h shape bytes start outer w some = omega (
  arith,
  (innermost-level h.room h.frames w.before w.own).is.within.texts,
  ap (λ (x : Slots). length x.texts) (filling-slots names h shape bytes start outer w some),
  length_push w.before.texts (length w.before.bytes + length bytes),
)

pub gathering-text : (h : Held) (before : Slots) (size stride start : ℕ) (bytes : List ℕ) →
    IsGathering h before size stride start bytes → (innermost h.frames).texts + 1 ≤ length h.slots.texts
gathering-text h before size stride start bytes g = omega (
  arith,
  (innermost-level h.room h.frames before g.own).is.within.texts,
  ap (λ (x : Slots). length x.texts) g.is,
  length_push before.texts (length before.bytes + length bytes),
)

-- an array of packed structs is made after what was stored
module _ (h m n : Held) (all : AreLevels h.room h.frames h.slots) (frames : m.frames ≡ h.frames)
    (below : KeepsBelow h m) (size stride : ℕ) (bytes : List ℕ) (start : ℕ)
    (made : HasSlots m n (with_records size stride bytes start (innermost m.frames).pending m.slots)) where
  abbrev k : Marks
  k = innermost h.frames

  within : IsWithin k m.slots
  within = below-within k h.slots m.slots (frame-within h all) below

  pub array-below : KeepsBelow h n
  array-below =
      ap (λ (x : Held). cut_to k x.slots) made
      ∙ ap (λ (j : Marks). cut_to k (with_records size stride bytes start j.pending m.slots)) (ap innermost frames)
      ∙ records-below k m.slots within size stride bytes start ∙ below

  array-text : k.texts + 1 ≤ length n.slots.texts
  array-text = omega (
    arith,
    within.texts,
    ap (λ (x : Held). length x.slots.texts) made,
    length_push m.slots.texts (length m.slots.bytes + length bytes),
  )

  pub struct-below : (l : Held) (more : List ℕ) → HasSlots n l (with_more more n.slots) → KeepsBelow h l
  struct-below l more e =
      ap (λ (x : Held). cut_to k x.slots) e
      ∙ more-below k n.slots (below-within k h.slots n.slots (frame-within h all) array-below) more array-text
      ∙ array-below

pub records-opened : (h r m n : Held) → AreLevels h.room h.frames h.slots → Regrown h r → KeepsBelow r m →
    m.frames ≡ r.frames → (size stride : ℕ) (bytes : List ℕ) (start : ℕ) →
    HasSlots m n (with_records size stride bytes start (innermost m.frames).pending m.slots) → KeepsBelow h n
records-opened h r m n all grown below frames size stride bytes start made =
    let own : KeepsBelow h m =
    subst (λ (x : Held). cut_to (innermost x.frames) m.slots ≡ cut_to (innermost x.frames) x.slots) grown below in
    array-below h m n all (frames ∙ ap (λ (x : Held). x.frames) grown) own size stride bytes start made

pub first-below : (h m n l : Held) → AreLevels h.room h.frames h.slots → Extends h m → m.frames ≡ h.frames →
    (size stride : ℕ) (bytes : List ℕ) (start : ℕ) →
    HasSlots m n (with_records size stride bytes start (innermost m.frames).pending m.slots) → (more : List ℕ) →
    HasSlots n l (with_more more n.slots) → KeepsBelow h l
first-below h m n l all e frames size stride bytes start made more grown =
    struct-below h m n all frames (kept-below (innermost h.frames) h.slots (frame-within h all) m.slots e)
    size stride bytes start made l more grown

-- what was stored after an array is cut off, and the array gets a struct
pub next-below : (h n l : Held) (marks : Marks) → HasSlots h n (cut_to marks h.slots) →
    AreLevels h.room h.frames (cut_to marks h.slots) →
    (innermost h.frames).texts + 1 ≤ length (take marks.texts h.slots.texts) →
    (more : List ℕ) → HasSlots n l (with_more more n.slots) → KeepsBelow h l
next-below h n l marks cut all some more grown =
    let k = innermost h.frames in
    let within = (innermost-level h.room h.frames (cut_to marks h.slots) all).is.within in
    let is : n.slots ≡ cut_to marks h.slots = ap (λ (x : Held). x.slots) cut in
    ap (λ (x : Held). cut_to k x.slots) grown
    ∙ ap (λ s. cut_to k (with_more more s)) is
    ∙ more-below k (cut_to marks h.slots) within more some
    ∙ cut-cut k marks h.slots within
