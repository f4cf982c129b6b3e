-- An empty store.
use Rattle.std.proofs.Common.{◌≡◌, ◌+◌, false, List, [], reverse, refl, subst, arith, sym}
use Rattle.value_store.specs.declared.store.room.Room.{Room}
use Rattle.value_store.specs.declared.store.slots.Marks.{Marks}
use Rattle.value_store.specs.Names.{Names}
use Rattle.value_store.specs.Takes.{Vector, NodesOf, FamiliesOf, LinksOf, PendingOf, TextsOf, BytesOf, of_vector, level_takes}
use Rattle.value_store.specs.Slots.{Slots, no_slots, stack, trees, IsSound, IsLevel, marks_of, root_marks, level_of, AreLevels}

pub no_slots-sound : IsSound no_slots
no_slots-sound = record { nodes = tt; pending = tt; links = refl; bytes = refl }

none-taken : (names : Names) (vector : Vector) → of_vector vector (marks_of no_slots)
    ≡ of_vector vector root_marks + level_takes false vector (level_of names root_marks no_slots)
unfolding stack trees
none-taken names NodesOf = refl
none-taken names FamiliesOf = refl
none-taken names LinksOf = refl
none-taken names PendingOf = refl
none-taken names TextsOf = refl
none-taken names BytesOf = refl

no_slots-level : (room : Room) → IsLevel room root_marks no_slots
unfolding stack trees
no_slots-level room = record {
  within = record {
    nodes = omega arith;
    families = omega arith;
    links = omega arith;
    pending = omega arith;
    texts = omega arith;
    bytes = omega arith;
  };
  takes = λ none names vector. none-taken names vector;
  bare = λ e. record { families = refl; links = refl; texts = refl; bytes = refl };
}

pub no_slots-levels : (room : Room) → AreLevels room [] no_slots
no_slots-levels room = (no_slots-sound, no_slots-level room)

-- where all vectors are empty
pub empty-levels : (room : Room) (frames : List Marks) (s : Slots) → frames ≡ [] → s.nodes ≡ [] → s.families ≡ [] →
    s.links ≡ [] → s.pending ≡ [] → s.texts ≡ [] → s.bytes ≡ [] → AreLevels room (reverse frames) s
empty-levels room frames s e nodes families links pending texts bytes =
    let eta : record {
      nodes = s.nodes;
      families = s.families;
      links = s.links;
      pending = s.pending;
      texts = s.texts;
      bytes = s.bytes;
    } ≡ s = refl in
    let is : no_slots ≡ s = cc in
    subst (λ fs. AreLevels room (reverse fs) s) (sym e) (subst (λ x. AreLevels room [] x) is (no_slots-levels room))
