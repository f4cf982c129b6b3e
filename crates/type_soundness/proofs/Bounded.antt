-- What a value that a type means takes of each vector, and what slots it fills.
use Rattle.std.proofs.Common.{ℕ, ◌≤◌, length, false, List, [], ◌∷◌, Some, Ok, sym, subst, arith}
use Rattle.bit_space.specs.declared.order.Order.{Order}
use Rattle.pickle_types.specs.Types.{PokeType}
use Rattle.pickle_meaning.specs.Values.{Value, Levels}
use Rattle.pickle_meaning.specs.Means.{Means}
use Rattle.mapping_plans.specs.Mapping.{plan}
use Rattle.mapping_plans.proofs.Always.{OfValue}
use Rattle.mapping_plans.proofs.Exists.{plan_means}
use Rattle.mapping_plans.proofs.Planned.{means_one}
use Rattle.value_store.specs.Takes.{Vector, member_takes}
use Rattle.value_store.proofs.Taken.{vector_of, slots-taken}
use Rattle.type_soundness.specs.Capacity.{capacity_bound}
use Rattle.type_soundness.specs.CapacityLaws.{ValuesTakeBound, ValuesFillRoom}
use Rattle.type_soundness.proofs.Yields.{yields_on}
use Rattle.type_soundness.proofs.Capacity.{capacity_enough}
use Rattle.type_soundness.proofs.InSlots.{unpacked_slots}

-- as a member of a frame
member_bound : (bits : List ℕ) (ty : PokeType) (order : Order) (levels : Levels) (s : ℕ) (v : Value) {k j : ℕ} →
    Means bits ty order levels s (Ok v) k j → (vector : Vector) →
    member_takes false vector (Some v) ≤ capacity_bound false vector ty (length bits)
member_bound bits ty order levels s v h vector =
    let one = means_one h (plan_means bits ty order levels s) in
    subst (OfValue (λ u. member_takes false vector (Some u) ≤ capacity_bound false vector ty (length bits))) (sym one.0)
    (yields_on bits (plan (length bits) ty order levels s) (capacity_enough vector (length bits) ty order levels s))

pub values_take : ValuesTakeBound
values_take bits ty order levels s v k j h vector =
    let m = member_bound bits ty order levels s v h vector in omega arith

pub values_fill : ValuesFillRoom
values_fill bits ty order levels s v k j h kind =
    let m = member_bound bits ty order levels s v h (vector_of kind) in
    let t = slots-taken kind ((Some v ∷ []) ∷ []) in
    let r = unpacked_slots (vector_of kind) ty (length bits) in
    omega arith
