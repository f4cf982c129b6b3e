-- What a store promises, and that its values stay the same whatever it promises.
use Rattle.std.proofs.Common.{◌≡◌, ℕ, zero, suc, ◌<◌, ◌≤◌, true, false, List, [], ◌∷◌, refl, sym, subst, ◌∙◌, arith}
use Rattle.std.specs.Prelude.{nat_le}
use Rattle.std.proofs.lemmas.Bool.{le-leb, lt-leb}
use Rattle.value_store.specs.declared.store.room.Growth.{Growth}
use Rattle.value_store.specs.declared.store.room.Growth.TheVariants.{Free, Never, Within}
use Rattle.value_store.specs.declared.store.room.Room.{Room}
use Rattle.value_store.specs.declared.store.slots.Marks.{Marks}
use Rattle.value_store.specs.Names.{Names}
use Rattle.value_store.specs.Promises.{least_capacity, promising, promised}
use Rattle.value_store.specs.Slots.{Slots, Held, packs_as, levels, emptied, cut_to, IsLevel, AreLevels, AreAll, IsStore}
use Rattle.value_store.proofs.Empty.{no_slots-levels}

-- the values are the same
pub promising-levels : (names : Names) (slots : ℕ) (h : Held) → levels names (promising slots h) ≡ levels names h
unfolding levels
promising-levels names slots h = refl

-- a store that packs with more slots packs with fewer
packs-fewer : (growth : Growth) (fewer more : ℕ) → fewer ≤ more → packs_as growth fewer ≡ false →
    packs_as growth more ≡ false
packs-fewer Never fewer more le none = refl
packs-fewer Free zero more le none = absurd cc
packs-fewer Free (suc fewer) zero le none = absurd (omega arith)
packs-fewer Free (suc fewer) (suc more) le none = refl
packs-fewer (Within most) fewer more le none = absurd cc

level-fewer : (room : Room) (slots : ℕ) (k : Marks) (s : Slots) → slots ≤ room.least → IsLevel room k s →
    IsLevel (record room { least = slots }) k s
level-fewer room slots k s le level = record {
  within = level.within;
  takes = λ none. level.takes (packs-fewer room.growth slots room.least le none);
  bare = level.bare;
}

-- the frames are as sound with fewer slots
pub levels-fewer : (room : Room) (slots : ℕ) (ks : List Marks) (s : Slots) → slots ≤ room.least →
    AreLevels room ks s → AreLevels (record room { least = slots }) ks s
levels-fewer room slots [] s le all = (all.0, level-fewer room slots _ s le all.1)
levels-fewer room slots (k ∷ ks) s le all =
    (all.0, (level-fewer room slots k s le all.1.0, levels-fewer room slots ks (cut_to k s) le all.1.1))

-- vectors of one capacity have no other as the least
pub least-of_all : (n : ℕ) (capacity : Marks) → AreAll n capacity → least_capacity capacity ≡ n
least-of_all n capacity all = grind (arith, all.nodes, all.families, all.links, all.pending, all.texts, all.bytes)

-- a store may promise fewer slots
pub fewer-holds : (slots : ℕ) (h : Held) → slots ≤ h.room.least → (h.room.growth ≡ Never → slots ≡ h.room.least) →
    IsStore h → IsStore (promising slots h)
fewer-holds slots h le fixed is = record {
  levels = levels-fewer h.room slots h.frames h.slots le is.levels;
  nodes = omega (arith, le, is.nodes);
  families = omega (arith, le, is.families);
  links = omega (arith, le, is.links);
  pending = omega (arith, le, is.pending);
  texts = omega (arith, le, is.texts);
  bytes = omega (arith, le, is.bytes);
  fixed = λ never. subst (λ n. AreAll n h.capacity) (sym (fixed never)) (is.fixed never);
}

-- an empty one may promise all that it has capacity for
pub all-holds : (slots : ℕ) (h : Held) → h ≡ emptied h → slots ≡ least_capacity h.capacity → IsStore h →
    IsStore (promising slots h)
all-holds slots h none e is = record {
  levels = let room = (promising slots h).room in
      subst (λ (g : Held). AreLevels room g.frames g.slots) (sym none) (no_slots-levels room);
  nodes = omega (arith, e);
  families = omega (arith, e);
  links = omega (arith, e);
  pending = omega (arith, e);
  texts = omega (arith, e);
  bytes = omega (arith, e);
  fixed = λ never. let all = is.fixed never in
      subst (λ n. AreAll n h.capacity) (sym (e ∙ least-of_all h.room.least h.capacity all)) all;
}

-- a store has capacity for what it promises
pub promise-held : (h : Held) → IsStore h → h.room.least ≤ least_capacity h.capacity
promise-held h is = omega (arith, is.nodes, is.families, is.links, is.pending, is.texts, is.bytes)

pub promise-fixed : (h : Held) → IsStore h → h.room.growth ≡ Never → h.room.least ≡ least_capacity h.capacity
promise-fixed h is never = sym (least-of_all h.room.least h.capacity (is.fixed never))

-- what is promised to so much
pub promised-all : (bound : ℕ) (h : Held) → bound ≤ least_capacity h.capacity →
    promised bound h ≡ least_capacity h.capacity
promised-all bound h le =
    let t : nat_le bound (least_capacity h.capacity) ≡ true = le-leb bound (least_capacity h.capacity) le in rw t refl

pub promised-made : (bound : ℕ) (h : Held) → least_capacity h.capacity < bound → promised bound h ≡ h.room.least
promised-made bound h lt =
    let t : nat_le bound (least_capacity h.capacity) ≡ false = lt-leb bound (least_capacity h.capacity) lt in rw t refl
