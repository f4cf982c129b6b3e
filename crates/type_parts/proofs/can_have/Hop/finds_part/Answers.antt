use Rattle.std.proofs.Common.{sym, ◌∙◌, length}
use Rattle.type_parts.specs.CanHave.{of_hop}
use Rattle.type_parts.specs.declared.member.Standing.TheVariants.{Apart, Together}
use Rattle.type_parts.proofs.Known.{element_known, fields_below, parts_below, fields_known, parts_known}
use Rattle.type_parts.proofs.can_have.Hop.finds_part.Goals as goal

pub finds_member-requires : goal.finds_member-requires
finds_member-requires c =
    rw c.as_slice.ensures.value
    (fields_below (length c.args.known.now) c.in-Struct.fields.items (rw c.in-Struct.is at c.requires))

pub finds_member-requires-in-Integral : goal.finds_member-requires-in-Integral
finds_member-requires-in-Integral c =
    rw c.as_slice-in-Integral.ensures.value
    (parts_below (length c.args.known.now) c.in-Integral.fields.items (rw c.in-Integral.is at c.requires).1)

pub finds_member-requires-in-Union : goal.finds_member-requires-in-Union
finds_member-requires-in-Union c =
    rw c.as_slice-in-Union.ensures.value
    (parts_below (length c.args.known.now) c.in-Union.alternatives.items (rw c.in-Union.is at c.requires))

pub returns-in-Struct : goal.returns-in-Struct
returns-in-Struct c = λ nodes goal table are.
    rw c.in-Struct.is ((rw c.as_slice.ensures.value at c.finds_member.ensures)
    ∙ fields_known (of_hop c.args.self) Apart nodes c.args.known.now goal table are c.in-Struct.fields.items 0
    (rw c.in-Struct.is at c.requires))

pub returns-in-Integral : goal.returns-in-Integral
returns-in-Integral c = λ nodes goal table are.
    rw c.in-Integral.is ((rw c.as_slice-in-Integral.ensures.value at c.finds_member-in-Integral.ensures)
    ∙ parts_known (of_hop c.args.self) Apart nodes c.args.known.now goal table are c.in-Integral.fields.items 0
    (rw c.in-Integral.is at c.requires).1)

pub returns-in-Union : goal.returns-in-Union
returns-in-Union c = λ nodes goal table are.
    rw c.in-Union.is ((rw c.as_slice-in-Union.ensures.value at c.finds_member-in-Union.ensures)
    ∙ parts_known (of_hop c.args.self) Together nodes c.args.known.now goal table are c.in-Union.alternatives.items 0
    (rw c.in-Union.is at c.requires))

pub returns-then-leads_to_element : goal.returns-then-leads_to_element
returns-then-leads_to_element c = λ nodes goal table are.
    rw c.in-Array.is (element_known (of_hop c.args.self).element nodes c.args.known.now goal table are
    c.in-Array.element (rw c.in-Array.is at c.requires) (sym c.leads_to_element.ensures ∙ c.if-leads_to_element.true))
