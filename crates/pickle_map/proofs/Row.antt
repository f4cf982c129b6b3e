-- Calls that follow the plan of an array whose elements are packed.
use Rattle.std.proofs.Common.{◌≡◌, ℕ, zero, suc, ◌+◌, ◌*◌, ◌<◌, ◌≤◌, Bool, true, false, List, [], ◌∷◌, ◌++◌, length, Some, Result, Ok, Err, refl, sym, ap, ◌∙◌, arith}
use Rattle.std.specs.Prelude.{IsTrue, nat_eq, nat_le, if◌then◌else◌, ◌↔◌}
use Rattle.std.proofs.lemmas.Bool.{false≢true, ne_eqb}
use Rattle.bit_space.specs.declared.order.Order.{Order}
use Rattle.bit_space.specs.Reading.{MayRead}
use Rattle.bit_space.specs.SpaceView.{SpaceView}
use Rattle.pickle_types.specs.declared.node.Node.{Node}
use Rattle.pickle_types.specs.Types.{PokeType}
use Rattle.pickle_types.specs.Bounds.{least_width}
use Rattle.value_store.specs.declared.store.slots.Shape.{Shape}
use Rattle.value_store.specs.declared.store.slots.Shape.TheVariants.{Integer, Offset, Text, Integers, Offsets, Records, Array, Struct, Union}
use Rattle.pickle_map.specs.declared.mapper.stop.Stop.{Stop}
use Rattle.pickle_meaning.specs.declared.faults.MapFaultKind.TheVariants.{End}
use Rattle.pickle_meaning.specs.Clauses.{FaultAt}
use Rattle.value_store.specs.Moves.{Packs, ClosesRow, State}
use Rattle.mapping_plans.specs.Plan.{Plan, Ended, Tick, Made, Read, as_row}
use Rattle.pickle_map.specs.Follows.{World, MovesTo, LacksRoom, Done, NoRoom, Follows}
use Rattle.pickle_map.specs.Framed.{ReadStops}
use Rattle.pickle_map.specs.Stops.{stop_finish}
use Rattle.pickle_meaning.specs.Means.{array_value}
use Rattle.mapping_plans.specs.Mapping.{plan, read_plan, number_plan, array_move, element_plan}
use Rattle.mapping_plans.specs.Rows.{Row, Numbers, row_of}
use Rattle.pickle_map.specs.Row.{IsArrayOf, row_levels}
use Rattle.value_store.specs.Slots.{Held, HasNoNode, IsPacked, IsPacking, element_width, element_value, elements, row_value}
use Rattle.pickle_meaning.specs.Values.{Value, Mapped, ArrayLabel, Levels, end_of, pushed, gathered}
use Rattle.pickle_map.proofs.Mapping.{number_is}
use Rattle.value_store.proofs.PackedRows.{packing-fresh, packing-stale}
use Rattle.pickle_map.proofs.Placing.{reading, read_stops, read_goes}
use Rattle.pickle_map.proofs.Walks.{follow_done, follow_made, follow_no_room}

-- packed numbers have at least one bit
pub some_bits : (shape : Shape) → IsPacked shape → (1 ≤ element_width shape) × (element_width shape ≤ 64)
some_bits (Integer w g) h = absurd h
some_bits (Offset w g u) h = absurd h
some_bits Text h = absurd h
some_bits (Integers w g) h = h
some_bits (Offsets w g u) h = (h.0, h.1)
some_bits (Records stride size) h = absurd h
some_bits Array h = absurd h
some_bits (Struct t) h = absurd h
some_bits (Union t i) h = absurd h

-- their type is as wide
pub least_is : (shape : Shape) (ty : PokeType) → IsArrayOf shape ty → least_width ty ≡ element_width shape
unfolding least_width
least_is (Integer w g) ty h = absurd h
least_is (Offset w g u) ty h = absurd h
least_is Text ty h = absurd h
least_is (Integers w g) ty h = ap least_width h
least_is (Offsets w g u) ty h = ap least_width h
least_is (Records stride size) ty h = absurd h
least_is Array ty h = absurd h
least_is (Struct t) ty h = absurd h
least_is (Union t i) ty h = absurd h

-- their numbers have that width
pub width_is : (shape : Shape) (ty : PokeType) → IsArrayOf shape ty → row_of ty ≡ Numbers (element_width shape)
width_is (Integer w g) ty h = absurd h
width_is (Offset w g u) ty h = absurd h
width_is Text ty h = absurd h
width_is (Integers w g) ty h = ap row_of h
width_is (Offsets w g u) ty h = ap row_of h
width_is (Records stride size) ty h = absurd h
width_is Array ty h = absurd h
width_is (Struct t) ty h = absurd h
width_is (Union t i) ty h = absurd h

-- their array is closed as such a row
pub row_move : (shape : Shape) (ty : PokeType) → IsArrayOf shape ty → array_move (row_of ty) ≡ ClosesRow
row_move shape ty h = ap array_move (width_is shape ty h)

-- a read, as that of an element of an array of numbers
read_in_row : {A : Type 0} (row : Row) (inside : Bool) (place width : ℕ) (order : Order)
    (rest : ℕ → Plan (Result A FaultAt)) (s : ℕ) →
    as_row row (if inside then Read place width order rest else Ended (Err (End, s)))
    ≡ (if inside then Read place width order (λ n. as_row row (rest n)) else Ended (Err (End, s)))
read_in_row row true place width order rest s = refl
read_in_row row false place width order rest s = refl

-- the plan of an element: a read, and the number's value in the row
abbrev pub goes_in_row : (width : ℕ) → Levels → Value → Plan (Result Value FaultAt)
goes_in_row width levels v = Made 1 (Packs width) (pushed levels (Some v)) (Ended (Ok v))

pub element_is : (shape : Shape) (m : ℕ) (ty : PokeType) (order : Order) (levels : Levels) (s : ℕ) →
    IsArrayOf shape ty → s ≤ m →
    element_plan ty (plan m ty order) levels s ≡ reading m s s (element_width shape) order
    (λ n. goes_in_row (element_width shape) levels (element_value shape s n))
unfolding read_plan number_plan
element_is (Integer w g) m ty order levels s h inside = absurd h
element_is (Offset w g u) m ty order levels s h inside = absurd h
element_is Text m ty order levels s h inside = absurd h
element_is (Integers w g) m ty order levels s h inside =
    ap (λ t. element_plan t (plan m t order) levels s) h
    ∙ ap (as_row (Numbers w)) (number_is m _ _ order levels s refl inside)
    ∙ ap Tick (read_in_row (Numbers w) (nat_le (s + w) m) s w order _ s)
element_is (Offsets w g u) m ty order levels s h inside =
    ap (λ t. element_plan t (plan m t order) levels s) h
    ∙ ap (as_row (Numbers w)) (number_is m _ _ order levels s refl inside)
    ∙ ap Tick (read_in_row (Numbers w) (nat_le (s + w) m) s w order _ s)
element_is (Records stride size) m ty order levels s h inside = absurd h
element_is Array m ty order levels s h inside = absurd h
element_is (Struct t) m ty order levels s h inside = absurd h
element_is (Union t i) m ty order levels s h inside = absurd h

-- the end of an element
pub element_end : (shape : Shape) (s n : ℕ) → IsPacked shape →
    end_of (element_value shape s n) ≡ s + element_width shape
element_end (Integer w g) s n h = absurd h
element_end (Offset w g u) s n h = absurd h
element_end Text s n h = absurd h
element_end (Integers w g) s n h = refl
element_end (Offsets w g u) s n h = refl
element_end (Records stride size) s n h = absurd h
element_end Array s n h = absurd h
element_end (Struct t) s n h = absurd h
element_end (Union t i) s n h = absurd h

-- one more element
elements_more : (shape : Shape) (s : ℕ) (ns : List ℕ) (n place : ℕ) → place ≡ s + element_width shape * length ns →
    elements shape s (ns ++ n ∷ []) ≡ elements shape s ns ++ Some (element_value shape place n) ∷ []
elements_more shape s [] n place e = let same : place ≡ s = omega (arith, e) in rw same refl
elements_more shape s (x ∷ ns) n place e =
    ap (λ r. Some (element_value shape s x) ∷ r)
    (elements_more shape (s + element_width shape) ns n place (omega (arith, e)))

pub row_more : (shape : Shape) (ns : List ℕ) (n start place : ℕ) (outer : Levels) →
    place ≡ start + element_width shape * length ns →
    row_levels shape (ns ++ n ∷ []) start outer
    ≡ pushed (row_levels shape ns start outer) (Some (element_value shape place n))
row_more shape ns n start place outer e = ap (λ r. r ∷ outer) (elements_more shape start ns n place e)

-- the array of them
pub row_closed : (shape : Shape) (ns : List ℕ) (start end : ℕ) (outer : Levels) →
    end ≡ start + element_width shape * length ns →
    row_value shape ns start ≡ array_value start end (row_levels shape ns start outer)
row_closed shape ns start end outer e = ap (λ x. Mapped ArrayLabel start x (gathered (elements shape start ns))) (sym e)

-- an element that is read and stored, or not
module _ {world : World} {limit : ℕ} (shape : Shape) (m : ℕ) (ty : PokeType) (order : Order) (levels : Levels) (s : ℕ)
    (are : IsArrayOf shape ty) (inside : s ≤ m) {k j k1 j1 : ℕ} {state : State} where
  pub element_stops : (before after : SpaceView) {limit' : ℕ} (stop : Stop) → limit' ≡ limit → m ≡ 8 * before.len →
      ReadStops stop s (s + element_width shape) before after limit' k k1 → j1 ≡ j →
      Follows world limit (element_plan ty (plan m ty order) levels s) k j state k1 j1 state (stop_finish stop)
  element_stops before after stop el em h ej =
      rw (element_is shape m ty order levels s are inside)
      (read_stops m s s (element_width shape) order _ before after stop el em h ej)

  module _ {limit1 : ℕ} (n : ℕ) (el : limit1 ≡ limit) (ek : k1 ≡ k + 1) (ej : j1 ≡ j)
      (fits : s + element_width shape ≤ m) (may : MayRead world.known order s (element_width shape) n) where
    pub element_no_room : {state' : State} →
        LacksRoom world state (Packs (element_width shape)) (pushed levels (Some (element_value shape s n))) →
        Follows world limit (element_plan ty (plan m ty order) levels s) k j state k1 j1 state' NoRoom
    element_no_room lacks =
        rw (element_is shape m ty order levels s are inside)
        (read_goes m s s (element_width shape) order _ n el ek ej fits may (follow_no_room lacks))

    pub element_goes : {k2 j2 : ℕ} {state' : State} → MovesTo world (Packs (element_width shape)) state state' →
        k2 ≡ k1 → j2 ≡ j1 + 1 →
        Follows world limit (element_plan ty (plan m ty order) levels s) k j state k2 j2 state'
        (Done (Ok (element_value shape s n)))
    element_goes moves ek2 ej2 =
        rw (element_is shape m ty order levels s are inside)
        (read_goes m s s (element_width shape) order _ n el ek ej fits may
        (follow_made {limit' = limit1} moves refl ek2 ej2 follow_done))

-- the first number is placed where there is no node
pub first_is : (nodes : List Node) (h : Held) (shape : Shape) (numbers : List ℕ) (start : ℕ) (outer : Levels)
    (count : ℕ) → IsPacking nodes h shape numbers start outer → IsPacked shape → count ≡ length numbers →
    IsTrue (nat_eq count 0) ↔ HasNoNode h
first_is nodes h shape [] start outer count w are e =
    (λ t. packing-stale nodes h shape [] start outer w refl, λ none. none_is count e)
  where
    none_is : (count : ℕ) → count ≡ 0 → IsTrue (nat_eq count 0)
    none_is zero e = refl
    none_is (suc count) e = absurd (omega (arith, e))
first_is nodes h shape (x ∷ numbers) start outer count w are e = (
  λ t. absurd (some_are count (omega (arith, e)) t),
  λ none. absurd (omega (arith, ap length (packing-fresh nodes h shape (x ∷ numbers) start outer w none are))),
)
  where
    some_are : (count : ℕ) → 0 < count → IsTrue (nat_eq count 0) → ⊥
    some_are count lt t = false≢true (sym (ne_eqb count 0 (λ e. omega (arith, lt, e))) ∙ t)
