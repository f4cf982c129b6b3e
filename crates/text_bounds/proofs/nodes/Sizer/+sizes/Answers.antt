use Rattle.std.proofs.Common.{rules, ◌≡◌, ℕ, ◌+◌, ◌-◌, ◌<◌, ◌≤◌, length, Some, refl, sym, ap, subst, ◌∙◌, arith}
use Rattle.std.proofs.lemmas.Option.{slice_get-get_or}
use Rattle.pickle_types.specs.Table.{type_of, open_fields, open_parts}
use Rattle.text_bounds.specs.TextHeld.{AreFieldSizes, ArePartSizes}
use Rattle.text_bounds.proofs.TextNodes.{sized, integer_width, offset_width, no_fields_left, one_field_more, no_parts_left, one_part_more}
use Rattle.text_bounds.proofs.nodes.Sizer.+sizes.Goals as goal

pub fields_sizes-loop-at-init : goal.fields_sizes-loop-at-init
fields_sizes-loop-at-init t c =
    let s = c.args.self.now in
    record {
      within = omega arith;
      so_far = no_fields_left s.form (type_of s.nodes.now) s.bits c.args.fields.now _
          (c.no_fields-all.ensures s.form _ s.bits);
    }

pub fields_sizes-loop-at-preserved : goal.fields_sizes-loop-at-preserved
fields_sizes-loop-at-preserved t c =
    let s = c.args.self.now in
    let at : c.loop-at.at - 1 + 1 ≡ c.loop-at.at = omega arith in
    let rest = subst (λ i. AreFieldSizes c.loop-at.all s.form i
    (open_fields (type_of s.nodes.now) (Rattle.std.proofs.Common.drop i c.args.fields.now)) s.bits)
    (sym at) c.loop-at.invariant.so_far in
    record {
      within = omega arith;
      so_far = one_field_more s.form (type_of s.nodes.now) s.bits c.args.fields.now
          (c.loop-at.at - 1) c.index-fields-at.result (omega arith) c.index-fields-at.is _
          (c.field_and_rest-all.ensures _ _ _ c.node_size-own.ensures rest);
    }

pub node_size-returns-then-self-slot : goal.node_size-returns-then-self-slot
node_size-returns-then-self-slot t c =
    let s = c.args.self.now in
    let here : Rattle.std.specs.Prelude.slice_get s.roots.now c.from-slot.result ≡ Some c.args.at =
    slice_get-get_or s.roots.now c.from-slot.result 0 (omega arith) ∙ ap Some c.if-self-slot.true in
    s.sized.each c.from-slot.result c.args.at _ here (slice_get-get_or s.known.now c.from-slot.result _ (omega arith))

pub parts_sizes-loop-at-init : goal.parts_sizes-loop-at-init
parts_sizes-loop-at-init t c =
    let s = c.args.self.now in
    record {
      within = omega arith;
      so_far =
          no_parts_left s.form (type_of s.nodes.now) s.bits c.args.parts.now _ (c.no_parts-all.ensures s.form _ s.bits);
    }

pub parts_sizes-loop-at-preserved : goal.parts_sizes-loop-at-preserved
parts_sizes-loop-at-preserved t c =
    let s = c.args.self.now in
    let at : c.loop-at.at - 1 + 1 ≡ c.loop-at.at = omega arith in
    let rest = subst (λ i. ArePartSizes c.loop-at.all s.form i
    (open_parts (type_of s.nodes.now) (Rattle.std.proofs.Common.drop i c.args.parts.now)) s.bits)
    (sym at) c.loop-at.invariant.so_far in
    record {
      within = omega arith;
      so_far = one_part_more s.form (type_of s.nodes.now) s.bits c.args.parts.now
          (c.loop-at.at - 1) c.index-parts-at.result (omega arith) c.index-parts-at.is _
          (c.part_and_rest-all.ensures _ _ _ c.node_size-own.ensures rest);
    }

pub shape_size-returns-in-Integer : goal.shape_size-returns-in-Integer
shape_size-returns-in-Integer t c =
    let s = c.args.self.now in
    sized s.form s.nodes.now s.table c.args.at c.index-self-at.result c.requires.at c.index-self-at.is _ c.in-Integer.is
    _ _ c.integer_size.ensures

pub shape_size-returns-in-Offset : goal.shape_size-returns-in-Offset
shape_size-returns-in-Offset t c =
    let s = c.args.self.now in
    sized s.form s.nodes.now s.table c.args.at c.index-self-at.result c.requires.at c.index-self-at.is _ c.in-Offset.is
    _ _ c.offset_size.ensures

pub shape_size-returns-in-String : goal.shape_size-returns-in-String
shape_size-returns-in-String t c =
    let s = c.args.self.now in
    sized s.form s.nodes.now s.table c.args.at c.index-self-at.result c.requires.at c.index-self-at.is _ c.in-String.is
    _ _ c.string_size.ensures

pub shape_size-returns-in-Array : goal.shape_size-returns-in-Array
shape_size-returns-in-Array t c =
    let s = c.args.self.now in
    sized s.form s.nodes.now s.table c.args.at c.index-self-at.result c.requires.at c.index-self-at.is _ c.in-Array.is _
    _ (c.array_size.ensures _ _ c.node_size.ensures)

pub shape_size-returns-in-Struct : goal.shape_size-returns-in-Struct
shape_size-returns-in-Struct t c =
    let s = c.args.self.now in
    let all = subst (λ fs. AreFieldSizes c.fields_sizes.result s.form 0 (open_fields (type_of s.nodes.now) fs) s.bits)
    c.deref.ensures.value c.fields_sizes.ensures in
    sized s.form s.nodes.now s.table c.args.at c.index-self-at.result c.requires.at c.index-self-at.is _ c.in-Struct.is
    _ _ (c.struct_size.ensures _ all)

pub shape_size-returns-in-Integral : goal.shape_size-returns-in-Integral
shape_size-returns-in-Integral t c =
    let s = c.args.self.now in
    let all = subst (λ ps. ArePartSizes c.parts_sizes.result s.form 0 (open_parts (type_of s.nodes.now) ps) s.bits)
    c.deref-in-Integral.ensures.value c.parts_sizes.ensures in
    sized s.form s.nodes.now s.table c.args.at c.index-self-at.result c.requires.at c.index-self-at.is _
    c.in-Integral.is _ _ (c.integral_size.ensures _ all)

pub shape_size-returns-in-Union : goal.shape_size-returns-in-Union
shape_size-returns-in-Union t c =
    let s = c.args.self.now in
    let all =
    subst (λ ps. ArePartSizes c.parts_sizes-in-Union.result s.form 0 (open_parts (type_of s.nodes.now) ps) s.bits)
    c.deref-in-Union.ensures.value c.parts_sizes-in-Union.ensures in
    sized s.form s.nodes.now s.table c.args.at c.index-self-at.result c.requires.at c.index-self-at.is _ c.in-Union.is _
    _ (c.union_size.ensures _ all)

pub shape_size-integer_size-requires : goal.shape_size-integer_size-requires
shape_size-integer_size-requires t c =
    let s = c.args.self.now in
    record {
      width = integer_width s.nodes.now s.table c.args.at c.index-self-at.result c.requires.at
          c.index-self-at.is _ c.in-Integer.is;
    }

pub shape_size-offset_size-requires : goal.shape_size-offset_size-requires
shape_size-offset_size-requires t c =
    let s = c.args.self.now in
    record {
      width = offset_width s.nodes.now s.table c.args.at c.index-self-at.result c.requires.at
          c.index-self-at.is _ _ c.in-Offset.is;
    }
