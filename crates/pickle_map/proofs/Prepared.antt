-- A store that promises more until a mapping ends, and what it promised before after that.
use Rattle.std.proofs.Common.{◌≡◌, ℕ, ◌*◌, ◌<◌, ◌≤◌, Bool, true, false, List, refl, ap, ◌∙◌, arith}
use Rattle.std.specs.Prelude.{min, nat_le}
use Rattle.std.proofs.lemmas.Bool.{leb-true, leb-false}
use Rattle.pickle_meaning.specs.Room.{Slot, slots}
use Rattle.bit_space.specs.SpaceView.{SpaceView}
use Rattle.pickle_types.specs.declared.node.Node.{Node}
use Rattle.pickle_types.specs.Bounds.{room as room_of}
use Rattle.pickle_types.specs.Types.{PokeType}
use Rattle.pickle_map.specs.Mapped.{prepared}
use Rattle.value_store.specs.declared.store.room.Room.{Room}
use Rattle.value_store.specs.Promises.{least_capacity, promised, promising}
use Rattle.value_store.specs.Slots.{Held, packs_as, packs, emptied, levels, HoldsInRoom, KeepsRoom}
use Rattle.value_store.specs.declared.store.slots.Marks.{Marks}
use Rattle.value_store.specs.Takes.{Vector, NodesOf, FamiliesOf, LinksOf, PendingOf, TextsOf, BytesOf, of_vector}
use Rattle.value_store.proofs.Promises.{promised-all, promised-made, promising-levels}

-- an empty store stays empty
pub promising_none : (n : ℕ) (h : Held) → h ≡ emptied h → promising n h ≡ emptied (promising n h)
promising_none n h e = ap (promising n) e

-- a store that promises too little has too little capacity
pub lacks_capacity : (bound : ℕ) (h : Held) → promised bound h < bound → least_capacity h.capacity < bound
lacks_capacity bound h lt = chosen (nat_le bound (least_capacity h.capacity)) refl
  where
    chosen : (b : Bool) → nat_le bound (least_capacity h.capacity) ≡ b → least_capacity h.capacity < bound
    chosen true e =
        let all = promised-all bound h (leb-true bound (least_capacity h.capacity) e) in omega (arith, all, lt)
    chosen false e = leb-false bound (least_capacity h.capacity) e

-- what a store that promised more holds, it holds after that
pub holds_back : (n : ℕ) (h : Held) → HoldsInRoom h → HoldsInRoom (promising n h)
holds_back n h holds = record {
  nodes = holds.nodes;
  families = holds.families;
  links = holds.links;
  pending = holds.pending;
  texts = holds.texts;
  bytes = holds.bytes;
}

-- it promises what it promised before, and kept its capacity
pub keeps_back : (store last : Held) (n before : ℕ) → before ≡ store.room.least → KeepsRoom (promising n store) last →
    KeepsRoom store (promising before last)
keeps_back store last n before e keeps = record {
  room = ap (λ (r : Room). record r { least = before }) keeps.room
      ∙ ap (λ k. record store.room { least = k }) e;
  nodes = keeps.nodes;
  families = keeps.families;
  links = keeps.links;
  pending = keeps.pending;
  texts = keeps.texts;
  bytes = keeps.bytes;
}

-- a store that never grows promised the same all the time
pub most_back : (nodes : List Node) (last : Held) (n before least : ℕ) (kind : Slot) → n ≡ before → before ≡ least →
    slots kind (levels nodes last) ≤ n → slots kind (levels nodes (promising before last)) ≤ least
most_back nodes last n before least kind e f le =
    let same = ap (slots kind) (promising-levels nodes before last) in omega (arith, same, e, f, le)

-- ---- stores that have too little capacity for the bound

-- such a store packs what it packed before
pub packs_made : (type : PokeType) (space : SpaceView) (store : Held) →
    least_capacity store.capacity < room_of type (8 * space.len) →
    packs (prepared type space store).room ≡ packs store.room
packs_made type space store lt =
    ap (packs_as store.room.growth) (promised-made (room_of type (8 * space.len)) store lt)

min_more : (a b c d : ℕ) → a ≤ c → b ≤ d → min a b ≤ min c d
min_more a b c d le more = omega arith

-- the least capacity of more in each vector
pub least_more : (less more : Marks) → ((vector : Vector) → of_vector vector less ≤ of_vector vector more) →
    least_capacity less ≤ least_capacity more
least_more less more each =
    min_more _ _ _ _ (min_more _ _ _ _ (min_more _ _ _ _ (min_more _ _ _ _
    (min_more less.nodes less.families more.nodes more.families (each NodesOf) (each FamiliesOf))
    (each LinksOf)) (each PendingOf)) (each TextsOf)) (each BytesOf)

-- capacity that was kept
pub kept_more : (store store' : Held) {n : ℕ} (vector : Vector) → KeepsRoom store store' →
    of_vector vector store'.capacity ≤ n → of_vector vector store.capacity ≤ n
kept_more store store' NodesOf keeps le = omega (arith, keeps.nodes, le)
kept_more store store' FamiliesOf keeps le = omega (arith, keeps.families, le)
kept_more store store' LinksOf keeps le = omega (arith, keeps.links, le)
kept_more store store' PendingOf keeps le = omega (arith, keeps.pending, le)
kept_more store store' TextsOf keeps le = omega (arith, keeps.texts, le)
kept_more store store' BytesOf keeps le = omega (arith, keeps.bytes, le)
