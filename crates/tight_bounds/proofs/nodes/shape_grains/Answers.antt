use Rattle.std.proofs.Common.{length, refl, subst, sym}
use Rattle.pickle_types.specs.Table.{type_of, open_shape, open_fields, open_parts, NamesBelow}
use Rattle.tight_bounds.specs.Held.{AreGrains, AreFieldGrains, ArePartGrains}
use Rattle.tight_bounds.proofs.Known.{known_at}
use Rattle.tight_bounds.proofs.nodes.shape_grains.Goals as goal

pub returns-in-Integer : goal.returns-in-Integer
returns-in-Integer c nodes are =
    subst (λ s. AreGrains c.scalar_grains.result (open_shape (type_of nodes) s) c.args.bits)
    (sym c.in-Integer.is) (c.scalar_grains.ensures.integer _ c.args.bits refl)

pub returns-in-Offset : goal.returns-in-Offset
returns-in-Offset c nodes are =
    subst (λ s. AreGrains c.scalar_grains-in-Offset.result (open_shape (type_of nodes) s) c.args.bits)
    (sym c.in-Offset.is) (c.scalar_grains-in-Offset.ensures.offset _ _ c.args.bits refl)

pub returns-in-String : goal.returns-in-String
returns-in-String c nodes are = subst (λ s. AreGrains c.string_grains.result (open_shape (type_of nodes) s) c.args.bits)
    (sym c.in-String.is) (c.string_grains.ensures c.args.bits)

pub returns-in-Array : goal.returns-in-Array
returns-in-Array c nodes are = subst (λ s. AreGrains c.array_grains.result (open_shape (type_of nodes) s) c.args.bits)
    (sym c.in-Array.is)
    (c.array_grains.ensures _ (known_at nodes c.args.known.now c.args.bits c.in-Array.element _ are
    (subst (NamesBelow (length c.args.known.now)) c.in-Array.is c.requires)))

pub returns-in-Struct : goal.returns-in-Struct
returns-in-Struct c nodes are =
    let all = subst (λ fs. AreFieldGrains c.fields_grains.result (open_fields (type_of nodes) fs) c.args.bits)
    c.deref.ensures.value (c.fields_grains.ensures nodes are) in
    subst (λ s. AreGrains c.struct_grains.result (open_shape (type_of nodes) s) c.args.bits) (sym c.in-Struct.is)
    (c.struct_grains.ensures _ _ _ all)

pub returns-in-Integral : goal.returns-in-Integral
returns-in-Integral c nodes are =
    let all = subst (λ ps. ArePartGrains c.parts_grains.result (open_parts (type_of nodes) ps) c.args.bits)
    c.deref-in-Integral.ensures.value (c.parts_grains.ensures nodes are) in
    subst (λ s. AreGrains c.integral_grains.result (open_shape (type_of nodes) s) c.args.bits) (sym c.in-Integral.is)
    (c.integral_grains.ensures _ _ _ _ refl all)

pub returns-in-Union : goal.returns-in-Union
returns-in-Union c nodes are =
    let all = subst (λ ps. ArePartGrains c.parts_grains-in-Union.result (open_parts (type_of nodes) ps) c.args.bits)
    c.deref-in-Union.ensures.value (c.parts_grains-in-Union.ensures nodes are) in
    subst (λ s. AreGrains c.union_grains.result (open_shape (type_of nodes) s) c.args.bits) (sym c.in-Union.is)
    (c.union_grains.ensures _ _ _ all)
