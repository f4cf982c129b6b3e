use Rattle.std.proofs.Common.{◌+◌, ◌*◌, false, refl, subst}
use Rattle.mapping_plans.specs.Rows.{array_layout, literal_count, scalar_width}
use Rattle.pickle_types.specs.Bounds.{least_width}
use Rattle.type_soundness.specs.Capacity.{capacity_bound, family_bound, link_bound}
use Rattle.memory_bounds.specs.Held.{AreArrayLengths, AreLengths}
use Rattle.memory_bounds.proofs.types.array_capacity.Goals as goal

pub returns : goal.returns
unfolding capacity_bound least_width
returns c type bound kept size h =
    let m = c.args.bits in
    let count = c.elements-count.ensures.count _ h.least in
    record {
      least = refl;
      apart = subst (λ n. AreLengths c.of_elements.result
          (λ vector. family_bound vector + n * (link_bound vector + capacity_bound false vector type m))) count
          (c.of_elements.ensures _ h.apart);
      packed = subst (λ n. AreArrayLengths c.packed_array.result n type m) count
          (c.packed_array.ensures type kept h);
      arrays = c.bytes_in.ensures (array_layout (scalar_width type) (literal_count bound)) size;
    }
