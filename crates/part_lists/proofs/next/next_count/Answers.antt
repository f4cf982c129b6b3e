use Rattle.std.proofs.Common.{◌∙◌, sym, ap, length}
use Rattle.type_parts.specs.Members.{field_member, part_member}
use Rattle.type_parts.specs.declared.member.Standing.TheVariants.{Apart, Together}
use Rattle.part_lists.proofs.Lines.{member_count}
use Rattle.part_lists.proofs.next.next_count.Goals as goal

pub returns-in-Struct : goal.returns-in-Struct
returns-in-Struct c =
    rw c.in-Struct.is
    (ap length c.as_slice.ensures.value ∙ sym (member_count field_member Apart c.in-Struct.fields.items 0))

pub returns-in-Integral : goal.returns-in-Integral
returns-in-Integral c =
    rw c.in-Integral.is (ap length c.as_slice-in-Integral.ensures.value
    ∙ sym (member_count part_member Apart c.in-Integral.fields.items 0))

pub returns-in-Union : goal.returns-in-Union
returns-in-Union c =
    rw c.in-Union.is (ap length c.as_slice-in-Union.ensures.value
    ∙ sym (member_count part_member Together c.in-Union.alternatives.items 0))
