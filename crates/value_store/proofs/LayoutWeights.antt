-- What arrays of packed structs of fixed layout weigh.
use Rattle.std.proofs.Common.{◌≡◌, ℕ, ◌+◌, List, [], ◌∷◌, Some, true, false, inl, inr, length, sym, ap, subst, ◌∙◌, arith}
use Rattle.pickle_meaning.specs.Values.{Value, Levels}
use Rattle.pickle_meaning.specs.Values.{value_at as part_value}
use Rattle.value_store.specs.declared.store.room.Room.{Room}
use Rattle.value_store.specs.declared.store.slots.Place.{Place}
use Rattle.value_store.specs.declared.store.slots.Place.TheVariants as place
use Rattle.value_store.specs.LayoutArrays.{RefusesArray, RefusesFirst, MovesFirst, PlacesTemplate, TakesFirst, IsRowAt}
use Rattle.value_store.specs.Layouts.{row_length, template_of, value_size, template_size, packs_value, IsFixed}
use Rattle.value_store.specs.Lent.{place_value}
use Rattle.value_store.specs.Moves.{State, state_of, moved, with_first_value}
use Rattle.value_store.specs.Names.{Names}
use Rattle.value_store.specs.Slots.{Held, packs, levels, marks_of, value_at}
use Rattle.value_store.specs.Takes.{NodesOf, FamiliesOf, LinksOf, PendingOf, TextsOf, BytesOf}
use Rattle.value_store.specs.Weights.{weight, TakesWeight, RejectsWeight, IsLight}
use Rattle.value_store.proofs.LayoutFirst.{part-is, no-texts, one-part, first-lacks, first-stride}
use Rattle.value_store.proofs.LayoutSizes.{template-takes, first-size, first-moved}
use Rattle.value_store.proofs.Taken.{value_pending}

-- a template was placed: its array has a node, an end and bytes too, and takes its place
module _ (h m : Held) (place : Place) (end count : ℕ) (t : PlacesTemplate h m place 0 end) where
  pub array-weighs : (names : Names) → IsFixed (place_value names h.slots place) →
      weight (with_first_value (template_size (place_value names h.slots place)) count (marks_of h.slots))
      ≡ weight (marks_of m.slots) + (24 + count)
  array-weighs names fixed =
      let v = place_value names h.slots place in
      let none = no-texts v 0 fixed in
      omega (
        arith,
        t.takes names NodesOf,
        t.takes names FamiliesOf,
        t.takes names LinksOf,
        t.takes names PendingOf,
        t.takes names TextsOf,
        t.takes names BytesOf,
        template-takes NodesOf v 0,
        template-takes FamiliesOf v 0,
        template-takes LinksOf v 0,
        value_pending false (template_of v 0),
        none.0,
        none.1,
      )

  pub array-heavy : m.room ≡ h.room → RejectsWeight m.room (weight (marks_of m.slots) + (24 + count)) →
      (names : Names) → IsFixed (place_value names h.slots place) → RejectsWeight h.room
      (weight (with_first_value (template_size (place_value names h.slots place)) count (marks_of h.slots)))
  array-heavy same heavy names fixed =
      subst (RejectsWeight h.room) (sym (array-weighs names fixed))
      (subst (λ (room : Room). RejectsWeight room (weight (marks_of m.slots) + (24 + count))) same heavy)

-- the first struct of an array
module _ (h : Held) (root count : ℕ) (row : List ℕ) (packed : packs h.room ≡ true)
    (part : (names : Names) → Some (value_at names h.slots root) ≡ part_value (levels names h) 0 0)
    (rows : IsRowAt h 0 row) (counted : count ≡ length row) where
  -- its move weighs as much
  first-weighs : (names : Names) (value : Value) (outer : Levels) → levels names h ≡ (Some value ∷ []) ∷ outer →
      weight (with_first_value (template_size (value_at names h.slots root)) count (marks_of h.slots))
      ≡ weight (moved (packs h.room) (packs_value value) (state_of h)).now
  first-weighs names value outer e =
      let is = part-is (levels names h) (value_at names h.slots root) value outer (part names) e in
      let stride = first-stride h count row rows counted names value outer e in
      ap (λ v. weight (with_first_value (template_size v) count (marks_of h.slots))) is
      ∙ ap (λ n. weight (with_first_value (template_size value) n (marks_of h.slots))) stride
      ∙ ap (λ (s : State). weight s.now) (sym (first-moved (packs h.room) (state_of h) (value_size value)
      (template_size value) (row_length value) packed (one-part names h value outer e)))

  pub first-refuses : RefusesArray h (place.Node root) count → RefusesFirst h
  first-refuses (inl lacks) = λ names value outer e fixed.
      inl (first-lacks h root count row packed part rows counted lacks names value outer e fixed)
  first-refuses (inr heavy) = λ names value outer e fixed.
      let is = part-is (levels names h) (value_at names h.slots root) value outer (part names) e in
      inr (subst (RejectsWeight h.room) (first-weighs names value outer e)
      (heavy names (subst IsFixed (sym is) fixed)))

  -- it was packed, and the store takes what it weighs
  pub first-light : (m l : Held) (end : ℕ) → PlacesTemplate h m (place.Node root) 0 end → l.room ≡ h.room →
      MovesFirst h l → TakesFirst h → TakesWeight h.room (weight (marks_of m.slots) + (24 + count)) → IsLight l
  first-light m l end t same moves takes light =
      let names = takes.names in
      let is = part-is (levels names h) (value_at names h.slots root) takes.value takes.outer (part names) takes.is in
      let stride = first-stride h count row rows counted names takes.value takes.outer takes.is in
      let w = array-weighs h m (place.Node root) end count t names (subst IsFixed (sym is) takes.fixed) in
      let after : weight (marks_of l.slots)
      ≡ weight (with_first_value (template_size (value_at names h.slots root)) count (marks_of h.slots)) =
      ap (λ (s : State). weight s.now) (moves names takes.value takes.outer takes.is takes.fixed)
      ∙ ap weight (first-size takes.value (row_length takes.value) (marks_of h.slots))
      ∙ sym (ap (λ v. weight (with_first_value (template_size v) count (marks_of h.slots))) is
      ∙ ap (λ n. weight (with_first_value (template_size takes.value) n (marks_of h.slots))) stride) in
      subst (λ (room : Room). TakesWeight room (weight (marks_of l.slots))) (sym same)
      (subst (TakesWeight h.room) (sym (after ∙ w)) light)
