use Rattle.std.proofs.Common.{ℕ, ◌+◌, Some, None, sym, ap, ◌∙◌, arith}
use Rattle.std.specs.Option.{option_map}
use Rattle.pickle_types.specs.Table.{type_of, open_parts}
use Rattle.pickle_meaning.specs.Values.{members_of, member_count}
use Rattle.value_store.specs.Owners.{owner_of}
use Rattle.value_store.specs.Refs.{value_shown}
use Rattle.identification.specs.Constrained.{capped, bits_inside, taken_bits}
use Rattle.identification.proofs.Sums.{more_bits, all_bits, by_shape, fields_more, fields_none, digits_more, digits_none, found_bits, taken_found, taken_none, elements_more, elements_none, number_counts, scalar_counts}
use Rattle.identification.proofs.constrained.+constrained.Goals as goal

pub alternative_bits-returns-in_default : goal.alternative_bits-returns-in_default
alternative_bits-returns-in_default t c =
    let types = type_of c.args.nodes.now in
    let value = option_map value_shown c.args.value in
    let parts = c.args.alternatives.now in
    ap capped (sym (ap (λ taken. taken_bits (open_parts types parts) taken value) c.in_default.is
    ∙ taken_none types parts value))

pub alternative_bits-returns-in-Some-alternative_at : goal.alternative_bits-returns-in-Some-alternative_at
alternative_bits-returns-in-Some-alternative_at t c =
    let types = type_of c.args.nodes.now in
    let value = option_map value_shown c.args.value in
    let parts = c.args.alternatives.now in
    c.member_bits.ensures
    ∙ ap capped (sym (ap (λ taken. taken_bits (open_parts types parts) taken value) c.in-Some.is
    ∙ taken_found types parts c.in-Some.taken value
    ∙ ap (λ o. found_bits types o value) (sym c.in-Some-alternative_at.ensures)))

pub alternative_bits-returns-in-None : goal.alternative_bits-returns-in-None
alternative_bits-returns-in-None t c =
    let types = type_of c.args.nodes.now in
    let value = option_map value_shown c.args.value in
    let parts = c.args.alternatives.now in
    ap capped (sym (ap (λ taken. taken_bits (open_parts types parts) taken value) c.in-Some.is
    ∙ taken_found types parts c.in-Some.taken value
    ∙ ap (λ o. found_bits types o value) (sym c.in-None.ensures)))

pub bits_inside-returns-in-Array : goal.bits_inside-returns-in-Array
unfolding bits_inside
bits_inside-returns-in-Array t c =
    by_shape c.args.nodes.now c.requires.table c.args.at c.index-nodes-at.result c.requires.at c.index-nodes-at.is _
    c.in-Array.is _ _ (rw c.members.ensures at c.elements_bits.ensures)

pub bits_inside-returns-in-Struct : goal.bits_inside-returns-in-Struct
unfolding bits_inside
bits_inside-returns-in-Struct t c =
    by_shape c.args.nodes.now c.requires.table c.args.at c.index-nodes-at.result c.requires.at c.index-nodes-at.is _
    c.in-Struct.is _ _ (rw (c.deref.ensures.value, c.members-in-Struct.ensures) at c.field_bits.ensures)

pub bits_inside-returns-in-Integral : goal.bits_inside-returns-in-Integral
unfolding bits_inside
bits_inside-returns-in-Integral t c =
    by_shape c.args.nodes.now c.requires.table c.args.at c.index-nodes-at.result c.requires.at c.index-nodes-at.is _
    c.in-Integral.is _ _
    (rw (c.deref-in-Integral.ensures.value, c.members-in-Integral.ensures) at c.digit_bits.ensures)

pub bits_inside-returns-in-Union : goal.bits_inside-returns-in-Union
unfolding bits_inside
bits_inside-returns-in-Union t c =
    by_shape c.args.nodes.now c.requires.table c.args.at c.index-nodes-at.result c.requires.at c.index-nodes-at.is _
    c.in-Union.is _ _
    (rw (c.deref-in-Union.ensures.value, c.taken.ensures, c.child.ensures.member) at c.alternative_bits.ensures)

pub bits_inside-returns-in-Integer : goal.bits_inside-returns-in-Integer
bits_inside-returns-in-Integer t c =
    scalar_counts c.args.nodes.now c.requires.table c.args.at c.index-nodes-at.result c.requires.at c.index-nodes-at.is
    c.in-Integer.is (value_shown c.args.value)

pub bits_inside-returns-in-Integer-2 : goal.bits_inside-returns-in-Integer-2
bits_inside-returns-in-Integer-2 t c =
    scalar_counts c.args.nodes.now c.requires.table c.args.at c.index-nodes-at.result c.requires.at c.index-nodes-at.is
    c.in-Integer.is (value_shown c.args.value)

pub bits_inside-returns-in-Integer-3 : goal.bits_inside-returns-in-Integer-3
bits_inside-returns-in-Integer-3 t c =
    scalar_counts c.args.nodes.now c.requires.table c.args.at c.index-nodes-at.result c.requires.at c.index-nodes-at.is
    c.in-Integer.is (value_shown c.args.value)

pub digit_bits-loop-place-preserved : goal.digit_bits-loop-place-preserved
digit_bits-loop-place-preserved t c =
    let inside = members_of (value_shown (owner_of c.args.members)) in
    let bits = c.loop-place.bits in
    record {
      small = omega (arith, c.saturating_add-bits.ensures);
      so_far = more_bits _ bits _ _ c.member_bits.result c.saturating_add-bits.result
          (c.loop-place.invariant.so_far
          ∙ ap (λ (n : ℕ). capped (bits + n)) (digits_more (type_of c.args.nodes.now) inside c.args.parts.now
          c.loop-place.place c.index-parts-place.result c.loop-place-test.true c.index-parts-place.is))
          (rw c.get-member.ensures.member at c.member_bits.ensures) c.saturating_add-bits.ensures;
    }

pub digit_bits-returns : goal.digit_bits-returns
digit_bits-returns t c =
    all_bits _ c.loop-place.bits _ c.loop-place.invariant.small c.loop-place.invariant.so_far
    (digits_none (type_of c.args.nodes.now) (members_of (value_shown (owner_of c.args.members))) c.args.parts.now
    c.loop-place.place c.loop-place-test.false)

pub field_bits-loop-place-preserved : goal.field_bits-loop-place-preserved
field_bits-loop-place-preserved t c =
    let inside = members_of (value_shown (owner_of c.args.members)) in
    let bits = c.loop-place.bits in
    record {
      small = omega (arith, c.saturating_add-bits.ensures);
      so_far = more_bits _ bits _ _ c.member_bits.result c.saturating_add-bits.result
          (c.loop-place.invariant.so_far
          ∙ ap (λ (n : ℕ). capped (bits + n)) (fields_more (type_of c.args.nodes.now) inside c.args.fields.now
          c.loop-place.place c.index-fields-place.result c.loop-place-test.true c.index-fields-place.is))
          (rw c.get-member.ensures.member at c.member_bits.ensures) c.saturating_add-bits.ensures;
    }

pub field_bits-returns : goal.field_bits-returns
field_bits-returns t c =
    all_bits _ c.loop-place.bits _ c.loop-place.invariant.small c.loop-place.invariant.so_far
    (fields_none (type_of c.args.nodes.now) (members_of (value_shown (owner_of c.args.members))) c.args.fields.now
    c.loop-place.place c.loop-place-test.false)

pub elements_bits-loop-place-preserved : goal.elements_bits-loop-place-preserved
elements_bits-loop-place-preserved t c =
    let inside = members_of (value_shown (owner_of c.args.members)) in
    let each = bits_inside (type_of c.args.nodes.now c.args.element) in
    let bits = c.loop-place.bits in
    record {
      small = omega (arith, c.saturating_add-bits.ensures);
      so_far = more_bits _ bits _ _ c.element_bits.result c.saturating_add-bits.result
          (c.loop-place.invariant.so_far
          ∙ ap (λ (n : ℕ). capped (bits + n)) (elements_more each inside (member_count inside) c.loop-place.place
          (rw c.len-place-end.ensures at c.loop-place-test.true)))
          (rw c.get.ensures.member at c.element_bits.ensures) c.saturating_add-bits.ensures;
    }

pub elements_bits-returns : goal.elements_bits-returns
elements_bits-returns t c =
    let inside = members_of (value_shown (owner_of c.args.members)) in
    all_bits _ c.loop-place.bits _ c.loop-place.invariant.small c.loop-place.invariant.so_far
    (elements_none (bits_inside (type_of c.args.nodes.now c.args.element)) inside (member_count inside)
    c.loop-place.place (rw c.len-place-end.ensures at c.loop-place-test.false))

pub part_bits-returns-in-None : goal.part_bits-returns-in-None
part_bits-returns-in-None t c = rw c.in-None.is c.bits_inside.ensures

pub part_bits-returns-in-Some : goal.part_bits-returns-in-Some
part_bits-returns-in-Some t c = rw c.in-Some.is c.number_bits.ensures

pub number_bits-returns-in-Some : goal.number_bits-returns-in-Some
number_bits-returns-in-Some t c =
    number_counts c.args.nodes.now c.requires.table c.args.at c.index-nodes-at.result c.requires.at
    c.index-nodes-at.is (Some c.in-Some.number) _ _ (c.in-Some.ensures (type_of c.args.nodes.now)) (omega arith)

pub number_bits-returns-in-None : goal.number_bits-returns-in-None
number_bits-returns-in-None t c =
    number_counts c.args.nodes.now c.requires.table c.args.at c.index-nodes-at.result c.requires.at
    c.index-nodes-at.is None _ _ (c.in-None.ensures (type_of c.args.nodes.now)) c.bits_inside.ensures
