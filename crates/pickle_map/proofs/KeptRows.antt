-- What a mapping stores, computed by the definitions: an array of two bytes, in a store that packs it and in one that
-- doesn't.
use Rattle.std.proofs.Common.{ℕ, ◌≤◌, Bool, true, false, [], ◌∷◌, arith}
use Rattle.bit_space.specs.declared.order.Order.TheVariants.{Big}
use Rattle.bit_space.specs.Bits.{bits_of, binary, number, digits, numeral_onto, groups_from}
use Rattle.pickle_types.specs.Types.{IntegerOf, ArrayOf, Unbounded}
use Rattle.pickle_types.specs.Bounds.{least_width}
use Rattle.pickle_meaning.specs.Arithmetic.{unsigned_type, modulo, with_sign}
use Rattle.pickle_meaning.specs.Clauses.{extent_of}
use Rattle.pickle_meaning.specs.Values.{no_values}
use Rattle.mapping_plans.specs.Plan.{then_ok, framed}
use Rattle.mapping_plans.specs.Mapping.{from_inside, number_plan, read_plan, after_element, elements_plan, plan}
use Rattle.mapping_plans.specs.Kept.{KeepsBy}
use Rattle.value_store.specs.declared.store.slots.Marks.{Marks}
use Rattle.value_store.specs.Moves.{IsWithin, no_state}
use Rattle.value_store.specs.Takes.{Vector, NodesOf, FamiliesOf, LinksOf, PendingOf, TextsOf, BytesOf}

abbrev room_for : (nodes families links pending texts bytes : ℕ) → Marks
room_for nodes families links pending texts bytes =
    record { nodes = nodes; families = families; links = links; pending = pending; texts = texts; bytes = bytes }

-- vectors of this capacity hold all that is stored of the two bytes
abbrev HaveRoom : (packing : Bool) → Marks → Type 0
HaveRoom packing capacity = KeepsBy (λ state. IsWithin state capacity) packing (bits_of (1 ∷ 2 ∷ []))
    (plan 16 (ArrayOf (IntegerOf (unsigned_type 8)) Unbounded) Big no_values 0) 100 no_state

by_vector : (P : Vector → Type 0) → P NodesOf → P FamiliesOf → P LinksOf → P PendingOf → P TextsOf → P BytesOf →
    (vector : Vector) → P vector
by_vector P n f l p t b NodesOf = n
by_vector P n f l p t b FamiliesOf = f
by_vector P n f l p t b LinksOf = l
by_vector P n f l p t b PendingOf = p
by_vector P n f l p t b TextsOf = t
by_vector P n f l p t b BytesOf = b

-- packed: a node, a pending child and a text of two bytes, and no less
packed_room : HaveRoom true (room_for 1 0 0 1 1 2)
unfolding bits_of binary number digits numeral_onto groups_from modulo with_sign extent_of then_ok framed from_inside
    number_plan read_plan after_element elements_plan plan least_width
packed_room = (
  by_vector _ (omega arith) (omega arith) (omega arith) (omega arith) (omega arith) (omega arith),
  (
    by_vector _ (omega arith) (omega arith) (omega arith) (omega arith) (omega arith) (omega arith),
    (
      by_vector _ (omega arith) (omega arith) (omega arith) (omega arith) (omega arith) (omega arith),
      (by_vector _ (omega arith) (omega arith) (omega arith) (omega arith) (omega arith) (omega arith), tt),
    ),
  ),
)

packed_bytes : HaveRoom true (room_for 9 9 9 9 9 1) → ⊥
unfolding bits_of binary number digits numeral_onto groups_from modulo with_sign extent_of then_ok framed from_inside
    number_plan read_plan after_element elements_plan plan least_width
packed_bytes h = let less : 2 ≤ 1 = h.1.1.0 BytesOf in omega arith

-- not packed: three nodes, a family with its two links, and two pending children while they are mapped
counted_room : HaveRoom false (room_for 3 1 2 2 0 0)
unfolding bits_of binary number digits numeral_onto groups_from modulo with_sign extent_of then_ok framed from_inside
    number_plan read_plan after_element elements_plan plan least_width
counted_room = (
  by_vector _ (omega arith) (omega arith) (omega arith) (omega arith) (omega arith) (omega arith),
  (
    by_vector _ (omega arith) (omega arith) (omega arith) (omega arith) (omega arith) (omega arith),
    (
      by_vector _ (omega arith) (omega arith) (omega arith) (omega arith) (omega arith) (omega arith),
      (by_vector _ (omega arith) (omega arith) (omega arith) (omega arith) (omega arith) (omega arith), tt),
    ),
  ),
)

counted_pending : HaveRoom false (room_for 9 9 9 1 9 9) → ⊥
unfolding bits_of binary number digits numeral_onto groups_from modulo with_sign extent_of then_ok framed from_inside
    number_plan read_plan after_element elements_plan plan least_width
counted_pending h = let less : 2 ≤ 1 = h.1.1.0 PendingOf in omega arith
