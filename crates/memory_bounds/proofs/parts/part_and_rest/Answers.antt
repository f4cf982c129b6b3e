use Rattle.std.proofs.Common.{refl}
use Rattle.pickle_types.specs.Bounds.{least_width}
use Rattle.pickle_types.specs.Table.{name_of, optional_term}
use Rattle.type_soundness.specs.Capacity.{capacity_bound}
use Rattle.memory_bounds.proofs.Least.{least_with_rest}
use Rattle.memory_bounds.proofs.parts.part_and_rest.Goals as goal

pub returns : goal.returns
unfolding capacity_bound least_width
returns c type parts h g =
    let apart = c.linked-apart.ensures _ h.apart in
    let packed = c.linked-packed.ensures _ h.packed in
    record {
      empty = refl;
      least = least_with_rest (name_of c.args.part.now.name) c.args.part.now.order
          (optional_term c.args.part.now.constraint) type parts c.args.rest.is_empty c.args.own.least c.args.rest.least
          c.least_before.result g.empty h.least g.least c.least_before.ensures.last c.least_before.ensures.more;
      apart = c.both.ensures _ _ apart g.apart;
      packed = c.both-2.ensures _ _ packed g.packed;
      greatest_apart = c.either.ensures _ _ apart g.greatest_apart;
      greatest_packed = c.either-2.ensures _ _ packed g.greatest_packed;
      arrays = c.sum_of.ensures _ _ h.arrays g.arrays;
    }
