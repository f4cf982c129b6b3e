use Rattle.std.proofs.Common.{refl, subst, sym}
use Rattle.pickle_types.specs.Table.{type_of, open_shape, open_fields, open_parts}
use Rattle.memory_bounds.specs.Held.{AreCapacities, AreFieldCapacities, ArePartCapacities}
use Rattle.memory_bounds.proofs.nodes.shape_capacity.Goals as goal

pub returns-in-Integer : goal.returns-in-Integer
returns-in-Integer c =
    subst (λ s. AreCapacities c.scalar_capacity.result (open_shape (type_of c.args.nodes.now) s) c.args.bits)
    (sym c.in-Integer.is) (c.scalar_capacity.ensures.integer _ c.args.bits refl)

pub returns-in-Offset : goal.returns-in-Offset
returns-in-Offset c =
    subst (λ s. AreCapacities c.scalar_capacity-in-Offset.result (open_shape (type_of c.args.nodes.now) s) c.args.bits)
    (sym c.in-Offset.is) (c.scalar_capacity-in-Offset.ensures.offset _ _ c.args.bits refl)

pub returns-in-String : goal.returns-in-String
returns-in-String c =
    subst (λ s. AreCapacities c.string_capacity.result (open_shape (type_of c.args.nodes.now) s) c.args.bits)
    (sym c.in-String.is) c.string_capacity.ensures

pub returns-in-Struct : goal.returns-in-Struct
returns-in-Struct c =
    let types = type_of c.args.nodes.now in
    let m = c.args.bits in
    let all = subst (λ fs. AreFieldCapacities c.fields_capacity.result (open_fields types fs) m) c.deref.ensures.value
    c.fields_capacity.ensures in
    subst (λ s. AreCapacities c.struct_capacity.result (open_shape types s) m) (sym c.in-Struct.is)
    (c.struct_capacity.ensures _ _ _ all)

pub returns-in-Integral : goal.returns-in-Integral
returns-in-Integral c =
    let types = type_of c.args.nodes.now in
    let m = c.args.bits in
    let all = subst (λ ps. ArePartCapacities c.parts_capacity.result (open_parts types ps) m)
    c.deref-in-Integral.ensures.value c.parts_capacity.ensures in
    subst (λ s. AreCapacities c.integral_capacity.result (open_shape types s) m) (sym c.in-Integral.is)
    (c.integral_capacity.ensures _ _ _ _ refl all)

pub returns-in-Union : goal.returns-in-Union
returns-in-Union c =
    let types = type_of c.args.nodes.now in
    let m = c.args.bits in
    let all = subst (λ ps. ArePartCapacities c.parts_capacity-in-Union.result (open_parts types ps) m)
    c.deref-in-Union.ensures.value c.parts_capacity-in-Union.ensures in
    subst (λ s. AreCapacities c.union_capacity.result (open_shape types s) m) (sym c.in-Union.is)
    (c.union_capacity.ensures _ _ _ all)
