use Rattle.std.proofs.Common.{ℕ, false, true, refl, sym, subst}
use Rattle.mapping_plans.specs.Rows.{Layout, Row, layout_of}
use Rattle.pickle_types.specs.Bounds.{IsBound}
use Rattle.pickle_types.specs.Types.{PokeType}
use Rattle.type_soundness.specs.Capacity.{array_bound, array_bytes, capacity_bound, fit_bytes}
use Rattle.memory_bounds.specs.declared.lengths.Lengths.{Lengths}
use Rattle.memory_bounds.specs.Held.{AreLengths}
use Rattle.memory_bounds.proofs.Laid.{laid_element}
use Rattle.memory_bounds.proofs.types.packed_array.Goals as goal

-- so much of each vector is what an array takes whose elements are kept so
abbrev TakesAs : Lengths → (count : ℕ) → PokeType → (m : ℕ) → Row → Type 0
TakesAs l count type m row =
    AreLengths l (λ vector. array_bound row vector count (capacity_bound false vector type m)
    (capacity_bound true vector type m) (fit_bytes (layout_of 0 type) (array_bytes type) m))

pub returns-in-Apart : goal.returns-in-Apart
returns-in-Apart c type kept h =
    let is = rw c.in-Apart.is at kept in
    subst (TakesAs c.of_elements.result c.args.count type c.args.bits) (sym is) (c.of_elements.ensures _ h.packed)

pub returns-in-Values : goal.returns-in-Values
returns-in-Values c type kept h =
    let is = rw c.in-Values.is at kept in
    let own : Layout = record { bits = c.in-Values.width; bytes = c.in-Values.bytes } in
    let fit = subst (λ o. IsBound c.fit_bytes.result (fit_bytes o (array_bytes type) c.args.bits))
    (sym (laid_element type own is.1)) (c.fit_bytes.ensures own _ refl refl h.arrays) in
    subst (TakesAs c.of_values.result c.args.count type c.args.bits) (sym is.0)
    (c.of_values.ensures _ _ _ h.apart h.packed fit)
