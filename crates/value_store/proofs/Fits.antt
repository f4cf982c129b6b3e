-- What the open values take, and when they don't fit.
use Rattle.std.proofs.Common.{◌≡◌, ℕ, zero, suc, ◌<◌, ◌≤◌, Bool, true, false, List, [], ◌∷◌, Option, refl, sym, ◌∙◌, ap, subst, arith}
use Rattle.value_store.specs.declared.store.room.Growth.{Growth}
use Rattle.value_store.specs.declared.store.room.Growth.TheVariants.{Free, Never, Within}
use Rattle.value_store.specs.declared.store.room.Room.{Room}
use Rattle.value_store.specs.declared.store.slots.Marks.{Marks}
use Rattle.pickle_meaning.specs.Room.{PendingSlot, slots}
use Rattle.pickle_meaning.specs.Values.{Value, Levels, top_of, outer_of}
use Rattle.value_store.specs.Exceeding.{Exceeds}
use Rattle.value_store.specs.Keeping.{LacksRoom}
use Rattle.value_store.specs.Levels.{extended}
use Rattle.value_store.specs.Names.{Names}
use Rattle.value_store.specs.Slots.{Slots, Held, no_slots, packs_as, packs, HoldsInRoom, levels, stack, IsSound, cut_to, marks_of, root_marks, level_of, IsLevel, innermost, AreLevels, levels_at, Adds}
use Rattle.value_store.specs.Weights.{GrowsFreely}
use Rattle.value_store.specs.Takes.{Vector, NodesOf, FamiliesOf, LinksOf, PendingOf, TextsOf, BytesOf, of_vector, levels_take}
use Rattle.value_store.proofs.Counted.{marks-cut, levels-more, levels_at-more, levels-above, levels_at-above}
use Rattle.value_store.proofs.Empty.{no_slots-levels, no_slots-sound}
use Rattle.value_store.proofs.Taken.{taken-slots}

least-packed : (growth : Growth) (least : ℕ) → GrowsFreely growth → packs_as growth least ≡ true → least ≡ 0
least-packed Never least free e = cc
least-packed Free zero free e = refl
least-packed Free (suc least) free e = cc
least-packed (Within most) least free e = absurd free

-- where arrays are packed no capacity is requested in advance, so nothing fits in it
pub packs_no_more : (room : Room) (ls : Levels) → 1 ≤ slots PendingSlot ls → packs room ≡ true → Exceeds room ls
packs_no_more room ls some e = λ free. (PendingSlot, omega (arith, some, least-packed room.growth room.least free e))

-- where nothing is packed, frames take more of a vector than its capacity, which is no less than what the store was
-- made with
module _ (h : Held) (ls : Levels) (some : 1 ≤ slots PendingSlot ls) where
  exceeds-by : (vector : Vector) (packed : Bool) → packs h.room ≡ packed →
      (packs h.room ≡ false → h.room.least < levels_take false vector ls) → Exceeds h.room ls
  exceeds-by vector true e more = packs_no_more h.room ls some e
  exceeds-by vector false e more = λ free. let r = taken-slots vector ls in (r.0, omega (arith, more e, r.1))

  pub overfills : (vector : Vector) → h.room.least ≤ of_vector vector h.capacity →
      (packs h.room ≡ false → of_vector vector h.capacity < levels_take false vector ls) → Exceeds h.room ls
  overfills vector least more = exceeds-by vector (packs h.room) refl (λ none. omega (arith, least, more none))

root-none : (vector : Vector) → of_vector vector root_marks ≡ 0
root-none NodesOf = refl
root-none FamiliesOf = refl
root-none LinksOf = refl
root-none PendingOf = refl
root-none TextsOf = refl
root-none BytesOf = refl

totals_at : (names : Names) (room : Room) (ks : List Marks) (s : Slots) (vector : Vector) → packs room ≡ false →
    AreLevels room ks s →
    of_vector vector (marks_of s) ≡ levels_take false vector (levels_at names ks s)
totals_at names room [] s vector none h = omega (arith, h.1.takes none names vector, root-none vector)
totals_at names room (k ∷ ks) s vector none h =
    omega (
      arith,
      h.1.0.takes none names vector,
      totals_at names room ks (cut_to k s) vector none h.1.1,
      ap (of_vector vector) (marks-cut k s h.1.0.within),
    )

-- a store that packs nothing holds just what its frames take
pub totals : (names : Names) (h : Held) (vector : Vector) → packs h.room ≡ false → AreLevels h.room h.frames h.slots →
    of_vector vector (marks_of h.slots) ≡ levels_take false vector (levels names h)
unfolding levels
totals names h vector none all = totals_at names h.room h.frames h.slots vector none all

-- its frames take no more than the capacity of its vectors
pub held-levels : (h : Held) → packs h.room ≡ false → AreLevels h.room h.frames h.slots → HoldsInRoom h →
    (names : Names) (vector : Vector) → levels_take false vector (levels names h) ≤ of_vector vector h.capacity
held-levels h none all in_room names NodesOf = omega (arith, totals names h NodesOf none all, in_room.nodes)
held-levels h none all in_room names FamiliesOf = omega (arith, totals names h FamiliesOf none all, in_room.families)
held-levels h none all in_room names LinksOf = omega (arith, totals names h LinksOf none all, in_room.links)
held-levels h none all in_room names PendingOf = omega (arith, totals names h PendingOf none all, in_room.pending)
held-levels h none all in_room names TextsOf = omega (arith, totals names h TextsOf none all, in_room.texts)
held-levels h none all in_room names BytesOf = omega (arith, totals names h BytesOf none all, in_room.bytes)

-- they don't fit where slots with these frames lack capacity
pub overfilled : (names : Names) (h : Held) (s : Slots) (ls : Levels) → AreLevels h.room h.frames s →
    levels names (record h { slots = s }) ≡ ls → 1 ≤ slots PendingSlot ls → LacksRoom h s → Exceeds h.room ls
overfilled names h s ls all e some (vector, (least, more)) =
    overfills h ls some vector least (λ none.
    omega (arith, more, totals names (record h { slots = s }) vector none all, ap (levels_take false vector) e))

-- the parts of the innermost open value are replaced by others
pub levels-replaced : (room : Room) (ks : List Marks) (s u : Slots) (vs : Names → List (Option Value)) →
    AreLevels room ks s → Adds room (cut_to (innermost ks) s) u vs → AreLevels room ks u
levels-replaced room [] s u vs h g = levels-more room [] no_slots u vs (no_slots-levels room) g
levels-replaced room (k ∷ ks) s u vs h g = subst (λ (j : Marks). AreLevels room (j ∷ ks) u) (marks-cut k s h.1.0.within)
    (levels-above room ks (cut_to k s) u vs h.1.1 g)

empty-level : (names : Names) → levels_at names [] no_slots ≡ [] ∷ []
unfolding stack
empty-level names = refl

pub levels_at-replaced : (names : Names) (room : Room) (ks : List Marks) (s u : Slots)
    (vs : Names → List (Option Value)) → AreLevels room ks s → Adds room (cut_to (innermost ks) s) u vs →
    levels_at names ks u ≡ vs names ∷ outer_of (levels_at names ks s)
levels_at-replaced names room [] s u vs h g = levels_at-more names room [] no_slots u vs (no_slots-levels room) g
    ∙ ap (λ ls. extended ls (vs names)) (empty-level names)
levels_at-replaced names room (k ∷ ks) s u vs h g =
    ap (λ (j : Marks). levels_at names (j ∷ ks) u) (sym (marks-cut k s h.1.0.within))
    ∙ levels_at-above names room ks (cut_to k s) u vs g

-- the parts of the innermost open value
pub top-level : (names : Names) (ks : List Marks) (s : Slots) →
    top_of (levels_at names ks s) ≡ level_of names (innermost ks) s
top-level names [] s = refl
top-level names (k ∷ ks) s = refl

-- the innermost open value, and the store without it
pub record Innermost (room : Room) (k : Marks) (ks : List Marks) (s : Slots) : Type 0 where
  pub is : IsLevel room k s
  pub cut : IsSound (cut_to k s)
  pub sound : IsSound s
  pub top : (names : Names) → top_of (levels_at names ks s) ≡ level_of names k s

pub innermost-level : (room : Room) (ks : List Marks) (s : Slots) → AreLevels room ks s →
    Innermost room (innermost ks) ks s
innermost-level room [] s h = record { is = h.1; cut = no_slots-sound; sound = h.0; top = λ names. refl }
innermost-level room (k ∷ []) s h = record { is = h.1.0; cut = h.1.1.0; sound = h.0; top = λ names. refl }
innermost-level room (k ∷ j ∷ ks) s h = record { is = h.1.0; cut = h.1.1.0; sound = h.0; top = λ names. refl }
