use Rattle.std.proofs.Common.{rules, ◌-◌, ◌<◌, length, sym, ◌∙◌, arith}
use Rattle.pickle_types.specs.Table.{type_of}
use Rattle.pickle_map.specs.Layouts.{HasPartPlace, HasPlace}
use Rattle.pickle_map.proofs.Shapes.{opened_as, below_as, fields_bounded, parts_bounded, field_bounded, part_bounded, of_one}
use Rattle.pickle_map.proofs.Sizes.{field_beyond, field_not_plain, field_unsized, fields_places, part_beyond, part_not_plain, part_unsized, parts_places, whole_is, whole_not, whole_none}
use Rattle.pickle_map.proofs.mapper.layouts.+sizes.Goals as goal

pub size_at-returns-in-Integer-clause-size : goal.size_at-returns-in-Integer-clause-size
size_at-returns-in-Integer-clause-size t c = rw (opened_as c.args.nodes.now c.requires.table c.args.at
    (omega (arith, c.requires.at)) c.index-nodes-at.result _ c.in-Integer.is) c.number_size.ensures.size

pub size_at-returns-in-Offset-clause-size : goal.size_at-returns-in-Offset-clause-size
size_at-returns-in-Offset-clause-size t c = rw (opened_as c.args.nodes.now c.requires.table c.args.at
    (omega (arith, c.requires.at)) c.index-nodes-at.result _ c.in-Offset.is) c.number_size-in-Offset.ensures.size

pub size_at-returns-then-pinned-clause-size : goal.size_at-returns-then-pinned-clause-size
size_at-returns-then-pinned-clause-size t c = rw (
  opened_as c.args.nodes.now c.requires.table c.args.at (omega (arith, c.requires.at))
      c.index-nodes-at.result _ c.in-Struct.is,
  c.if-pinned.true,
) tt

pub size_at-fields_size-requires : goal.size_at-fields_size-requires
size_at-fields_size-requires t c =
    let below = below_as c.args.nodes.now c.requires.table c.args.at (omega (arith, c.requires.at))
    c.index-nodes-at.result _ c.in-Struct.is in
    let bounded = fields_bounded c.args.at c.in-Struct.fields.items below in
    let fields = fields_places c.args.nodes.now c.args.level c.args.at c.requires.at c.in-Struct.fields.items below in
    rw c.deref.ensures.value (search rules)

pub size_at-returns-else-pinned-clause-size : goal.size_at-returns-else-pinned-clause-size
size_at-returns-else-pinned-clause-size t c = rw (
  opened_as c.args.nodes.now c.requires.table c.args.at (omega (arith, c.requires.at))
      c.index-nodes-at.result _ c.in-Struct.is,
  c.if-pinned.false,
  ← c.deref.ensures.value,
) c.fields_size.ensures.size

pub size_at-parts_size-requires : goal.size_at-parts_size-requires
size_at-parts_size-requires t c =
    let below = below_as c.args.nodes.now c.requires.table c.args.at (omega (arith, c.requires.at))
    c.index-nodes-at.result _ c.in-Integral.is in
    let bounded = parts_bounded c.args.at c.in-Integral.fields.items below.1 in
    let parts = parts_places c.args.nodes.now c.args.level c.args.at c.requires.at c.in-Integral.fields.items below.1 in
    rw c.deref-in-Integral.ensures.value (search rules)

pub size_at-returns-then-own-from-clause-size : goal.size_at-returns-then-own-from-clause-size
size_at-returns-then-own-from-clause-size t c = rw (
  opened_as c.args.nodes.now c.requires.table c.args.at (omega (arith, c.requires.at))
      c.index-nodes-at.result _ c.in-Integral.is,
  ← c.deref-in-Integral.ensures.value,
) (whole_is _ _ _ c.in-Some.ensures.size (omega (arith, c.if-own-from.true, c.from.ensures)))

pub size_at-returns-else-own-from-clause-size : goal.size_at-returns-else-own-from-clause-size
size_at-returns-else-own-from-clause-size t c = rw (
  opened_as c.args.nodes.now c.requires.table c.args.at (omega (arith, c.requires.at))
      c.index-nodes-at.result _ c.in-Integral.is,
  ← c.deref-in-Integral.ensures.value,
) (whole_not _ _ _ c.in-Some.ensures.size (λ same. c.if-own-from.false (omega (arith, same, c.from.ensures))))

pub size_at-returns-in-None-clause-size : goal.size_at-returns-in-None-clause-size
size_at-returns-in-None-clause-size t c = rw (
  opened_as c.args.nodes.now c.requires.table c.args.at (omega (arith, c.requires.at))
      c.index-nodes-at.result _ c.in-Integral.is,
  ← c.deref-in-Integral.ensures.value,
) (whole_none _ _ c.in-None.ensures.size)

pub size_at-returns-in-String-clause-size : goal.size_at-returns-in-String-clause-size
size_at-returns-in-String-clause-size t c = rw (opened_as c.args.nodes.now c.requires.table c.args.at
    (omega (arith, c.requires.at)) c.index-nodes-at.result _ c.in-String.is) tt

pub size_at-returns-in-Array-clause-size : goal.size_at-returns-in-Array-clause-size
size_at-returns-in-Array-clause-size t c = rw (opened_as c.args.nodes.now c.requires.table c.args.at
    (omega (arith, c.requires.at)) c.index-nodes-at.result _ c.in-Array.is) c.numbers_size.ensures.size

pub size_at-returns-in-Union-clause-size : goal.size_at-returns-in-Union-clause-size
size_at-returns-in-Union-clause-size t c = rw (opened_as c.args.nodes.now c.requires.table c.args.at
    (omega (arith, c.requires.at)) c.index-nodes-at.result _ c.in-Union.is) tt

pub fields_size-returns-then-not-is_plain-clause-size : goal.fields_size-returns-then-not-is_plain-clause-size
fields_size-returns-then-not-is_plain-clause-size t c =
    field_not_plain (type_of c.args.nodes.now) c.args.level c.args.fields.now (c.loop-at.at - 1) c.loop-at.at
    c.index-fields-at.result (omega arith) (omega arith) c.index-fields-at.is
    c.is_plain.result c.is_plain.ensures c.if-not-is_plain.true

pub fields_size-size_at-requires : goal.fields_size-size_at-requires
fields_size-size_at-requires t c =
    let inside : c.loop-at.at - 1 < length c.args.fields.now = omega arith in
    let below =
    field_bounded c.args.fields.now (c.loop-at.at - 1) c.index-fields-at.result inside c.index-fields-at.is in
    let place =
    of_one (HasPlace c.args.nodes.now c.args.level) c.args.fields.now (c.loop-at.at - 1) c.index-fields-at.result
    c.requires.fields inside c.index-fields-at.is in
    search rules

pub fields_size-returns-in-None-clause-size : goal.fields_size-returns-in-None-clause-size
fields_size-returns-in-None-clause-size t c =
    field_unsized (type_of c.args.nodes.now) c.args.level c.args.fields.now (c.loop-at.at - 1) c.loop-at.at
    c.index-fields-at.result (omega arith) (omega arith) c.index-fields-at.is c.in-None.ensures.size

pub fields_size-returns-then-all-gt-MOST_BYTES-clause-size : goal.fields_size-returns-then-all-gt-MOST_BYTES-clause-size
fields_size-returns-then-all-gt-MOST_BYTES-clause-size t c =
    field_beyond (type_of c.args.nodes.now) c.args.level c.args.fields.now (c.loop-at.at - 1) c.loop-at.at
    c.index-fields-at.result (omega arith) (omega arith) c.index-fields-at.is
    c.is_plain.result c.is_plain.ensures c.if-not-is_plain.false c.in-Some.own c.loop-at.all
    c.in-Some.ensures.size c.loop-at.invariant.so_far c.if-all-gt-MOST_BYTES.true

pub parts_size-returns-then-not-clause_avoids-clause-size : goal.parts_size-returns-then-not-clause_avoids-clause-size
parts_size-returns-then-not-clause_avoids-clause-size t c =
    part_not_plain (type_of c.args.nodes.now) c.args.level c.args.parts.now (c.loop-at.at - 1) c.loop-at.at
    c.index-parts-at.result (omega arith) (omega arith) c.index-parts-at.is
    (sym c.clause_avoids.ensures ∙ c.if-not-clause_avoids.true)

pub parts_size-size_at-requires : goal.parts_size-size_at-requires
parts_size-size_at-requires t c =
    let inside : c.loop-at.at - 1 < length c.args.parts.now = omega arith in
    let below =
    part_bounded c.args.parts.now (c.loop-at.at - 1) c.index-parts-at.result inside c.index-parts-at.is in
    let place =
    of_one (HasPartPlace c.args.nodes.now c.args.level) c.args.parts.now (c.loop-at.at - 1) c.index-parts-at.result
    c.requires.parts inside c.index-parts-at.is in
    search rules

pub parts_size-returns-in-None-clause-size : goal.parts_size-returns-in-None-clause-size
parts_size-returns-in-None-clause-size t c =
    part_unsized (type_of c.args.nodes.now) c.args.level c.args.parts.now (c.loop-at.at - 1) c.loop-at.at
    c.index-parts-at.result (omega arith) (omega arith) c.index-parts-at.is c.in-None.ensures.size

pub parts_size-returns-then-all-gt-MOST_BYTES-clause-size : goal.parts_size-returns-then-all-gt-MOST_BYTES-clause-size
parts_size-returns-then-all-gt-MOST_BYTES-clause-size t c =
    part_beyond (type_of c.args.nodes.now) c.args.level c.args.parts.now (c.loop-at.at - 1) c.loop-at.at
    c.index-parts-at.result (omega arith) (omega arith) c.index-parts-at.is
    (sym c.clause_avoids.ensures ∙ c.if-not-clause_avoids.false) c.in-Some.own c.loop-at.all
    c.in-Some.ensures.size c.loop-at.invariant.so_far c.if-all-gt-MOST_BYTES.true
