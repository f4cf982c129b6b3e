-- Steps of a path through parts that were mapped.
use Rattle.std.proofs.Common.{◌≡◌, ℕ, ◌+◌, ◌-◌, ◌≤◌, length, length-drop, take, drop, get_or, [], ◌∷◌, subst, arith, Bool, true, false, List, None, Ok, Err, sym, ap, ◌∙◌}
use Rattle.std.proofs.lemmas.List.{take_all, drop_more, drop_all}
use Rattle.bit_space.specs.declared.order.Order.{Order}
use Rattle.pickle_types.specs.declared.node.Field.{Field}
use Rattle.pickle_types.specs.declared.node.Node.{Node}
use Rattle.pickle_types.specs.Types.{PokeType, StructOf, UnionOf, Fields, Parts}
use Rattle.pickle_types.specs.Table.{optional_term}
use Rattle.pickle_meaning.specs.declared.faults.MapFault.{MapFault}
use Rattle.pickle_meaning.specs.Values.{Naming, Levels, pushed, opened}
use Rattle.pickle_meaning.specs.Clauses.{FaultAt, condition, field_start}
use Rattle.pickle_map.specs.declared.mapper.stop.Stop.{Stop}
use Rattle.fault_parts.specs.Arises.{Arises, in_struct, in_union, FieldsArise, AlternativesArise, absent_before, condition_of_field, label_of_field}
use Rattle.fault_location.specs.declared.part.Entered.{Entered}
use Rattle.fault_location.specs.declared.part.Entered.TheVariants as entered
use Rattle.fault_location.specs.Ways.{Enters, Settled, PassesField, EntersField, IsThere, fault_of}

-- ---- fields

module _ (bits : List ℕ) (nodes : List Node) (pinned : Bool) (s : ℕ) (order : Order) (f : Field)
    (levels : Levels) (behind : ℕ) where
  pub absent_passes : (levels' : Levels) → condition (optional_term f.condition) levels s ≡ Ok false →
      levels' ≡ pushed levels None → PassesField bits nodes pinned s order f levels levels' behind behind
  absent_passes levels' c e = λ fields rest first i before. rw e (absent_before before c)

module _ (nodes : List Node) (pinned : Bool) (s : ℕ) (order : Order) (f : Field) (levels : Levels) (behind : ℕ)
    (fault : MapFault) where
  pub condition_enters : (stop : Stop) (e : Entered) →
      Settled {A = Bool} (Err stop) (condition (optional_term f.condition) levels s) → IsThere stop fault e →
      EntersField nodes pinned s order f levels behind (fault_of fault) e
  condition_enters stop (entered.Part next) c there = absurd there
  condition_enters stop entered.There c there =
      λ bits fields rest first i before. condition_of_field before (rw there at c)
  condition_enters stop entered.Nowhere c there = λ bits fields rest first i before. tt

  pub label_enters : (stop : Stop) (e : Entered) → condition (optional_term f.condition) levels s ≡ Ok true →
      Settled {A = ℕ} (Err stop) (field_start pinned (optional_term f.label) levels s behind) → IsThere stop fault e →
      EntersField nodes pinned s order f levels behind (fault_of fault) e
  label_enters stop (entered.Part next) c st there = absurd there
  label_enters stop entered.There c st there =
      λ bits fields rest first i before. label_of_field before c (rw there at st)
  label_enters stop entered.Nowhere c st there = λ bits fields rest first i before. tt

-- ---- types

-- a struct is entered through its fields, and a union through its alternatives
module _ (bits : List ℕ) (nodes : List Node) (order : Order) (s : ℕ) (levels inside : Levels) (n : ℕ) (f : FaultAt)
    (here : s ≤ length bits) where
  pub enters_struct : (name : Naming) (pinned : Bool) (all : Fields) (result : Entered) →
      Enters bits nodes inside n f (FieldsArise bits pinned s order all (opened levels) f) result →
      Enters bits nodes inside n f (Arises bits (StructOf name pinned all) order levels s f) result
  enters_struct name pinned all (entered.Part next) h = λ path arises. in_struct here (h path arises)
  enters_struct name pinned all entered.There h = in_struct here h
  enters_struct name pinned all entered.Nowhere h = tt

  pub enters_union : (name : Naming) (alternatives : Parts) (result : Entered) →
      Enters bits nodes inside n f (AlternativesArise bits order alternatives (opened levels) s f) result →
      Enters bits nodes inside n f (Arises bits (UnionOf name alternatives) order levels s f) result
  enters_union name alternatives (entered.Part next) h = λ path arises. in_union here (h path arises)
  enters_union name alternatives entered.There h = in_union here h
  enters_union name alternatives entered.Nowhere h = tt

-- a type is entered as one that is the same
pub enters_as : (bits : List ℕ) (nodes : List Node) (order : Order) (s : ℕ) (levels inside : Levels) (n : ℕ)
    (f : FaultAt) (ty ty' : PokeType) →
    ty ≡ ty' → (result : Entered) → Enters bits nodes inside n f (Arises bits ty' order levels s f) result →
    Enters bits nodes inside n f (Arises bits ty order levels s f) result
enters_as bits nodes order s levels inside n f ty ty' e result h =
    subst (λ (t : PokeType). Enters bits nodes inside n f (Arises bits t order levels s f) result) (sym e) h

-- ---- paths

-- a path from a place on, as a slice
pub path_from : (path : List ℕ) (i : ℕ) → take (length path - i) (drop i path) ≡ drop i path
path_from path i = take_all (length path - i) (drop i path) (rw length-drop (omega arith))

-- at its last place
pub path_last : (path : List ℕ) (i : ℕ) → i + 1 ≡ length path → drop i path ≡ get_or path i 0 ∷ []
path_last path i e =
    let next = drop_more path i 0 (omega (arith, e)) in
    next ∙ ap (λ (r : List ℕ). get_or path i 0 ∷ r) (drop_all (i + 1) path (omega (arith, e)))
