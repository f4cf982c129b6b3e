use Rattle.std.proofs.Common.{false, length, sym, ◌∙◌}
use Rattle.type_parts.specs.CanHave.{of_hop}
use Rattle.type_parts.specs.declared.member.Standing.TheVariants.{Together}
use Rattle.type_parts.proofs.Known.{known_at, fields_below, parts_below, parts_known}
use Rattle.type_parts.proofs.TwoMembers.{fields_two, parts_two}
use Rattle.type_parts.proofs.twice.finds_two_parts.Goals as goal

pub finds_two-requires-clause-known : goal.finds_two-requires-clause-known
finds_two-requires-clause-known c =
    rw c.as_slice.ensures.value
    (fields_below (length c.args.known.now) c.in-Struct.fields.items (rw c.in-Struct.is at c.requires.known))

pub finds_two-requires-clause-twice : goal.finds_two-requires-clause-twice
finds_two-requires-clause-twice c =
    rw c.as_slice.ensures.value
    (fields_below (length c.args.twice.now) c.in-Struct.fields.items (rw c.in-Struct.is at c.requires.twice))

pub finds_two-requires-in-Integral-clause-known : goal.finds_two-requires-in-Integral-clause-known
finds_two-requires-in-Integral-clause-known c =
    rw c.as_slice-in-Integral.ensures.value
    (parts_below (length c.args.known.now) c.in-Integral.fields.items (rw c.in-Integral.is at c.requires.known).1)

pub finds_two-requires-in-Integral-clause-twice : goal.finds_two-requires-in-Integral-clause-twice
finds_two-requires-in-Integral-clause-twice c =
    rw c.as_slice-in-Integral.ensures.value
    (parts_below (length c.args.twice.now) c.in-Integral.fields.items (rw c.in-Integral.is at c.requires.twice).1)

pub finds_member-requires : goal.finds_member-requires
finds_member-requires c =
    rw c.as_slice-in-Union.ensures.value
    (parts_below (length c.args.twice.now) c.in-Union.alternatives.items (rw c.in-Union.is at c.requires.twice))

pub returns-then-twice-element : goal.returns-then-twice-element
returns-then-twice-element c = λ nodes goal two table are twos.
    let lt = rw c.in-Array.is at c.requires.twice in
    let led = rw c.of-hop.ensures at (sym c.leads_to_element.ensures ∙ c.if-leads_to_element.true) in
    let twice = known_at nodes c.args.twice.now two table twos c.in-Array.element false lt in
    rw (c.in-Array.is, led, sym twice ∙ c.if-twice-element.true) c.if-twice-element.true

pub returns-then-leads_to_many : goal.returns-then-leads_to_many
returns-then-leads_to_many c = λ nodes goal two table are twos.
    let lt = rw c.in-Array.is at c.requires.twice in
    let led = rw c.of-hop.ensures at (sym c.leads_to_element.ensures ∙ c.if-leads_to_element.true) in
    let twice = known_at nodes c.args.twice.now two table twos c.in-Array.element false lt in
    rw (c.in-Array.is, led, sym twice ∙ c.if-twice-element.false, sym c.leads_to_many.ensures ∙ c.if-leads_to_many.true)
    (known_at nodes c.args.known.now goal table are c.in-Array.element false (rw c.in-Array.is at c.requires.known))

pub returns-else-leads_to_many : goal.returns-else-leads_to_many
returns-else-leads_to_many c = λ nodes goal two table are twos.
    let lt = rw c.in-Array.is at c.requires.twice in
    let led = rw c.of-hop.ensures at (sym c.leads_to_element.ensures ∙ c.if-leads_to_element.true) in
    let twice = known_at nodes c.args.twice.now two table twos c.in-Array.element false lt in
    rw
    (c.in-Array.is, led, sym twice ∙ c.if-twice-element.false, sym c.leads_to_many.ensures ∙ c.if-leads_to_many.false)
    c.if-leads_to_many.false

pub returns-in-Struct : goal.returns-in-Struct
returns-in-Struct c = λ nodes goal two table are twos.
    rw (c.in-Struct.is, ← c.of-hop.ensures) ((rw c.as_slice.ensures.value at c.finds_two.ensures)
    ∙ fields_two (of_hop c.of-hop.result) nodes c.args.known.now c.args.twice.now goal two table are twos
    c.in-Struct.fields.items 0 (rw c.in-Struct.is at c.requires.known) (rw c.in-Struct.is at c.requires.twice))

pub returns-in-Integral : goal.returns-in-Integral
returns-in-Integral c = λ nodes goal two table are twos.
    rw (c.in-Integral.is, ← c.of-hop.ensures)
    ((rw c.as_slice-in-Integral.ensures.value at c.finds_two-in-Integral.ensures)
    ∙ parts_two (of_hop c.of-hop.result) nodes c.args.known.now c.args.twice.now goal two table are twos
    c.in-Integral.fields.items 0
    (rw c.in-Integral.is at c.requires.known).1 (rw c.in-Integral.is at c.requires.twice).1)

pub returns-in-Union : goal.returns-in-Union
returns-in-Union c = λ nodes goal two table are twos.
    rw (c.in-Union.is, ← c.of-hop.ensures) ((rw c.as_slice-in-Union.ensures.value at c.finds_member.ensures)
    ∙ parts_known (of_hop c.of-hop.result) Together nodes c.args.twice.now two table twos
    c.in-Union.alternatives.items 0
    (rw c.in-Union.is at c.requires.twice))
