use Rattle.std.proofs.Common.{rules, ◌≡◌, ℕ, ◌+◌, ◌-◌, ◌<◌, ◌≤◌, length, Some, refl, sym, ap, subst, ◌∙◌, arith}
use Rattle.std.proofs.lemmas.Option.{slice_get-get_or}
use Rattle.pickle_types.specs.Table.{type_of, open_fields, open_parts}
use Rattle.pickle_types.specs.Holds.{AreFieldBounds, ArePartBounds}
use Rattle.pickle_types.proofs.Bounded.{bounded, no_fields_left, one_field_more, no_parts_left, one_part_more}
use Rattle.pickle_types.proofs.bounds.+bounds.Goals as goal

pub fields_bounds-loop-at-init : goal.fields_bounds-loop-at-init
fields_bounds-loop-at-init t c = record {
  within = omega arith;
  so_far =
      no_fields_left (type_of c.args.nodes.now) c.args.bits c.args.fields.now _ (c.no_fields-all.ensures c.args.bits);
}

pub fields_bounds-loop-at-preserved : goal.fields_bounds-loop-at-preserved
fields_bounds-loop-at-preserved t c =
    let at : c.loop-at.at - 1 + 1 ≡ c.loop-at.at = omega arith in
    let rest = subst (λ i. AreFieldBounds c.loop-at.all
    (open_fields (type_of c.args.nodes.now) (Rattle.std.proofs.Common.drop i c.args.fields.now)) c.args.bits)
    (sym at) c.loop-at.invariant.so_far in
    record {
      within = omega arith;
      so_far = one_field_more (type_of c.args.nodes.now) c.args.bits c.args.fields.now
          (c.loop-at.at - 1) c.index-fields-at.result (omega arith) c.index-fields-at.is _
          (c.field_before-all.ensures _ _ _ c.node_bounds-own.ensures rest);
    }

pub node_bounds-returns-then-roots-slot : goal.node_bounds-returns-then-roots-slot
node_bounds-returns-then-roots-slot t c =
    let here : Rattle.std.specs.Prelude.slice_get c.args.roots.now c.from-slot.result ≡ Some c.args.at =
    slice_get-get_or c.args.roots.now c.from-slot.result 0 (omega arith) ∙ ap Some c.if-roots-slot.true in
    c.requires.known.each c.from-slot.result c.args.at _ here
    (slice_get-get_or c.args.known.now c.from-slot.result _ (omega arith))

pub parts_bounds-loop-at-init : goal.parts_bounds-loop-at-init
parts_bounds-loop-at-init t c = record {
  within = omega arith;
  so_far = no_parts_left (type_of c.args.nodes.now) c.args.bits c.args.parts.now _ (c.no_parts-all.ensures c.args.bits);
}

pub parts_bounds-loop-at-preserved : goal.parts_bounds-loop-at-preserved
parts_bounds-loop-at-preserved t c =
    let at : c.loop-at.at - 1 + 1 ≡ c.loop-at.at = omega arith in
    let rest = subst (λ i. ArePartBounds c.loop-at.all
    (open_parts (type_of c.args.nodes.now) (Rattle.std.proofs.Common.drop i c.args.parts.now)) c.args.bits)
    (sym at) c.loop-at.invariant.so_far in
    record {
      within = omega arith;
      so_far = one_part_more (type_of c.args.nodes.now) c.args.bits c.args.parts.now
          (c.loop-at.at - 1) c.index-parts-at.result (omega arith) c.index-parts-at.is _
          (c.part_before-all.ensures _ _ _ c.node_bounds-own.ensures rest);
    }

pub shape_bounds-returns-in-Integer : goal.shape_bounds-returns-in-Integer
shape_bounds-returns-in-Integer t c =
    bounded c.args.nodes.now c.requires.table c.args.at c.index-nodes-at.result c.requires.at c.index-nodes-at.is _
    c.in-Integer.is _ _ (c.scalar_bounds.ensures.integer _ _ refl)

pub shape_bounds-returns-in-Offset : goal.shape_bounds-returns-in-Offset
shape_bounds-returns-in-Offset t c =
    bounded c.args.nodes.now c.requires.table c.args.at c.index-nodes-at.result c.requires.at c.index-nodes-at.is _
    c.in-Offset.is _ _ (c.scalar_bounds-in-Offset.ensures.offset _ _ _ refl)

pub shape_bounds-returns-in-String : goal.shape_bounds-returns-in-String
shape_bounds-returns-in-String t c =
    bounded c.args.nodes.now c.requires.table c.args.at c.index-nodes-at.result c.requires.at c.index-nodes-at.is _
    c.in-String.is _ _ c.string_bounds.ensures

pub shape_bounds-returns-in-Array : goal.shape_bounds-returns-in-Array
shape_bounds-returns-in-Array t c =
    bounded c.args.nodes.now c.requires.table c.args.at c.index-nodes-at.result c.requires.at c.index-nodes-at.is _
    c.in-Array.is _ _ (c.array_bounds.ensures _ c.node_bounds-element.ensures)

pub shape_bounds-returns-in-Struct : goal.shape_bounds-returns-in-Struct
shape_bounds-returns-in-Struct t c =
    let all =
    subst (λ fs. AreFieldBounds c.fields_bounds.result (open_fields (type_of c.args.nodes.now) fs) c.args.bits)
    c.deref.ensures.value c.fields_bounds.ensures in
    bounded c.args.nodes.now c.requires.table c.args.at c.index-nodes-at.result c.requires.at c.index-nodes-at.is _
    c.in-Struct.is _ _ (c.struct_bounds.ensures _ _ _ all)

pub shape_bounds-returns-in-Integral : goal.shape_bounds-returns-in-Integral
shape_bounds-returns-in-Integral t c =
    let all = subst (λ ps. ArePartBounds c.parts_bounds.result (open_parts (type_of c.args.nodes.now) ps) c.args.bits)
    c.deref-in-Integral.ensures.value c.parts_bounds.ensures in
    bounded c.args.nodes.now c.requires.table c.args.at c.index-nodes-at.result c.requires.at c.index-nodes-at.is _
    c.in-Integral.is _ _ (c.integral_bounds.ensures _ _ refl _ _ all)

pub shape_bounds-returns-in-Union : goal.shape_bounds-returns-in-Union
shape_bounds-returns-in-Union t c =
    let all =
    subst (λ ps. ArePartBounds c.parts_bounds-in-Union.result (open_parts (type_of c.args.nodes.now) ps) c.args.bits)
    c.deref-in-Union.ensures.value c.parts_bounds-in-Union.ensures in
    bounded c.args.nodes.now c.requires.table c.args.at c.index-nodes-at.result c.requires.at c.index-nodes-at.is _
    c.in-Union.is _ _ (c.union_bounds.ensures _ _ _ all)
