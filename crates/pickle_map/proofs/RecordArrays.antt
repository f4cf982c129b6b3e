-- An array of packed structs that is closed.
use Rattle.std.proofs.Common.{◌≡◌, ℕ, ◌+◌, ◌*◌, ◌<◌, ◌≤◌, true, List, [], ◌∷◌, Option, Some, length, inl, inr, refl, sym, ap, subst, ◌∙◌, arith}
use Rattle.std.proofs.lemmas.Bool.{eq-eqb, ne_eqb}
use Rattle.std.proofs.Math.Nat.{mul-suc}
use Rattle.pickle_types.specs.declared.node.Node.{Node}
use Rattle.pickle_meaning.specs.Means.{array_value}
use Rattle.pickle_meaning.specs.Values.{ArrayLabel, Mapped, Levels, gathered, pushed}
use Rattle.value_store.specs.declared.store.slots.Marks.{Marks}
use Rattle.value_store.specs.declared.store.slots.Shape.{Shape}
use Rattle.value_store.specs.Closed.{closed}
use Rattle.value_store.specs.Exceeding.{Exceeds}
use Rattle.value_store.specs.Keeping.{IsClosed}
use Rattle.value_store.specs.Moves.{Closes, ClosesRecords, ClosesRow, Moves, Refuses, State, moved, state_of}
use Rattle.value_store.specs.PackedStructs.{ClosesStructs, IsPackingStructs, struct_bits, structs_of}
use Rattle.value_store.specs.Slots.{Held, HasNoNode, HoldsInRoom, KeepsRoom, innermost, levels, packs}
use Rattle.value_store.specs.Takes.{of_vector}
use Rattle.pickle_map.specs.Follows.{MovesTo, LacksRoom}
use Rattle.pickle_map.specs.Framed.{world_between}
use Rattle.pickle_map.specs.Records.{IsOpened, HasStructs, no_structs, some_structs}
use Rattle.value_store.specs.Weights.{weight, RejectsWeight, IsLight}
use Rattle.pickle_map.proofs.Worlds.{light_in, room_then, comes_by, lacks_these, same_room}

-- ---- its structs

-- an array that ends where it begins has none
pub none_mapped : (size start end : ℕ) (rows : List (List ℕ)) → 1 ≤ size → end ≡ start + size * length rows →
    end ≡ start → rows ≡ []
none_mapped size start end [] some ends same = refl
none_mapped size start end (r ∷ rows) some ends same =
    absurd (omega (arith, some, ends, same, mul-suc size (length rows)))

module _ (nodes : List Node) (h : Held) (at : ℕ) (cs : List Shape) (start : ℕ) (outer : Levels) where
  -- there are no structs
  pub record HasNone : Type 0 where
    pub levels : levels nodes h ≡ [] ∷ outer
    pub opened : IsOpened h

  pub has_none : (rows : List (List ℕ)) → HasStructs nodes h at cs start outer rows → rows ≡ [] → HasNone
  has_none _ (no_structs is opened) e = record { levels = is; opened = opened }
  has_none rows (some_structs some w) e = absurd (omega (arith, some, ap length e))

  pub has_some : (rows : List (List ℕ)) → HasStructs nodes h at cs start outer rows → (rows ≡ [] → ⊥) →
      IsPackingStructs nodes h at cs start rows outer
  has_some _ (no_structs is opened) other = absurd (other refl)
  has_some rows (some_structs some w) other = w

  module _ (n : Held) (end : ℕ) (rows : List (List ℕ)) where
    pub none_closed : rows ≡ [] → HasNone → IsClosed h n (λ names. ArrayLabel) start end →
        levels nodes n ≡ pushed outer (Some (array_value start end (structs_of nodes at cs start rows ∷ outer)))
    none_closed e none is = is nodes ∙ ap (closed ArrayLabel start end) none.levels
        ∙ ap (λ rs. pushed outer (Some (array_value start end (structs_of nodes at cs start rs ∷ outer)))) (sym e)

    pub some_closed : IsPackingStructs nodes h at cs start rows outer → ClosesStructs h n →
        end ≡ start + struct_bits cs * length rows →
        levels nodes n ≡ pushed outer (Some (array_value start end (structs_of nodes at cs start rows ∷ outer)))
    some_closed w closes ends = closes nodes at cs start rows outer w
        ∙ ap (λ e. pushed outer (Some (Mapped ArrayLabel start e (gathered (structs_of nodes at cs start rows)))))
        (sym ends)

-- ---- its move

-- without structs it is closed as other frames are
none_moved : (h : Held) → IsOpened h → moved true Closes (state_of h) ≡ moved true ClosesRow (state_of h)
none_moved h opened =
    let same : length h.slots.nodes ≡ (innermost h.frames).nodes = sym (ap (λ (k : Marks). k.nodes) opened) in
    rw (eq-eqb (length h.slots.nodes) (innermost h.frames).nodes same) refl

some_moved : (h : Held) → (HasNoNode h → ⊥) → moved true ClosesRecords (state_of h) ≡ moved true ClosesRow (state_of h)
some_moved h other = rw (ne_eqb (length h.slots.nodes) (innermost h.frames).nodes other) refl

module _ {first h : Held} (k : KeepsRoom first h) (packing : packs first.room ≡ true) where
  packing_too : packs h.room ≡ true
  packing_too = ap packs k.room ∙ packing

  pub none_moves : {known : Option (List ℕ)} {n : Held} → KeepsRoom h n → IsOpened h → HoldsInRoom n → IsLight n →
      Moves h n Closes →
      MovesTo (world_between known first n) ClosesRow (state_of h) (state_of n)
  none_moves {n} keeps opened holds light moves = comes_by first {move = ClosesRow} (same_room n) holds
      (moves ∙ none_moved h opened ∙ ap (λ b. moved b ClosesRow (state_of h)) (sym packing)) tt
      (λ adds. light_in (room_then k keeps) light)

  pub some_moves : {known : Option (List ℕ)} {n : Held} → (HasNoNode h → ⊥) → HoldsInRoom n → Moves h n ClosesRecords →
      MovesTo (world_between known first n) ClosesRow (state_of h) (state_of n)
  some_moves {n} other holds moves = comes_by first {move = ClosesRow} (same_room n) holds
      (moves ∙ some_moved h other ∙ ap (λ b. moved b ClosesRow (state_of h)) (sym packing)) tt
      (λ adds.
      let same = ap (λ (s : State). weight s.now) moves in let more = adds.1 in absurd (omega (arith, same, more)))

  pub none_lacks : {known : Option (List ℕ)} (n : Held) {these : Levels} → IsOpened h → Exceeds h.room these →
      Refuses h Closes → LacksRoom (world_between known first n) (state_of h) ClosesRow these
  none_lacks n opened least refuses = lacks_these k tt least (refused refuses)
    where
      same : moved true Closes (state_of h) ≡ moved (packs h.room) ClosesRow (state_of h)
      same = none_moved h opened ∙ ap (λ b. moved b ClosesRow (state_of h)) (sym packing_too)

      refused : Refuses h Closes → Refuses h ClosesRow
      refused (inl cannot) =
          inl (cannot.0, subst (λ (s : State). of_vector cannot.0 h.capacity < of_vector cannot.0 s.now) same cannot.1)
      refused (inr heavy) = inr (subst (λ (s : State). RejectsWeight h.room (weight s.now)) same heavy)
