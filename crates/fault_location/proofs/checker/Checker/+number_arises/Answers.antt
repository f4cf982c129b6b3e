use Rattle.std.proofs.Common.{rules, ◌≡◌, ◌+◌, ◌-◌, ◌<◌, length, get_or, take, drop, sym, ◌∙◌, arith, length-drop}
use Rattle.std.proofs.lemmas.List.{drop_more, length-take}
use Rattle.pickle_meaning.specs.Values.{opened}
use Rattle.pickle_map.specs.Mappable.{IsPartOf}
use Rattle.pickle_map.proofs.Shapes.{of_one}
use Rattle.value_store.specs.Slots.{level_count}
use Rattle.fault_parts.specs.Arises.{in_digits}
use Rattle.fault_location.specs.Ways.{fault_of}
use Rattle.fault_location.proofs.Nodes.{integral_node}
use Rattle.fault_location.proofs.IntegralFields.{digits_refused_there, digits_arise_inside, path_is, path_ends}
use Rattle.fault_location.specs.Frames.{frames_after, frames_of}
use Rattle.fault_location.proofs.checker.Checker.+number_arises.Goals as goal

pub open_level-requires : goal.open_level-requires
open_level-requires t c =
    let n = integral_node c.args.self.now.nodes.now c.args.self.now.table c.args.whole.node c.requires.part.inside
    (level_count c.args.self.now.store.now) c.requires.part.deep c.index-nodes-whole.result _ _ _ c.in-Integral.is in
    n.few

pub reach_field-requires-clause-fields : goal.reach_field-requires-clause-fields
reach_field-requires-clause-fields t c =
    let n = integral_node c.args.self.now.nodes.now c.args.self.now.table c.args.whole.node c.requires.part.inside
    (level_count c.args.self.now.store.now) c.requires.part.deep c.index-nodes-whole.result _ _ _ c.in-Integral.is in
    rw (c.deref.ensures.value, c.open_level.ensures.depth) n.fields_are

pub reach_field-requires-clause-width : goal.reach_field-requires-clause-width
reach_field-requires-clause-width t c =
    let n = integral_node c.args.self.now.nodes.now c.args.self.now.table c.args.whole.node c.requires.part.inside
    (level_count c.args.self.now.store.now) c.requires.part.deep c.index-nodes-whole.result _ _ _ c.in-Integral.is in
    n.width.most

pub width_at-requires-clause-at : goal.width_at-requires-clause-at
width_at-requires-clause-at t c =
    let n = integral_node c.args.self.now.nodes.now c.args.self.now.table c.args.whole.node c.requires.part.inside
    (level_count c.args.self.now.store.now) c.requires.part.deep c.index-nodes-whole.result _ _ _ c.in-Integral.is in
    let inside = rw c.deref.ensures.value at c.in-Some.ensures.is.inside in
    let field =
    of_one (IsPartOf c.args.self.now.nodes.now (level_count c.args.self.now.store.now + 1)) c.in-Integral.fields.items
    (get_or c.args.path.now 0 0) c.index-field.result.now n.fields_are inside c.index-field.ensures in
    field.inside

pub try_digits-requires-clause-field : goal.try_digits-requires-clause-field
try_digits-requires-clause-field t c =
    let n = integral_node c.args.self.now.nodes.now c.args.self.now.table c.args.whole.node c.requires.part.inside
    (level_count c.args.self.now.store.now) c.requires.part.deep c.index-nodes-whole.result _ _ _ c.in-Integral.is in
    let inside = rw c.deref.ensures.value at c.in-Some.ensures.is.inside in
    let field =
    of_one (IsPartOf c.args.self.now.nodes.now (level_count c.args.self.now.store.now + 1)) c.in-Integral.fields.items
    (get_or c.args.path.now 0 0) c.index-field.result.now n.fields_are inside c.index-field.ensures in
    rw (c.in-Some.ensures.frame.lent.nodes, c.in-Some.ensures.depth, c.open_level.ensures.depth) field

pub number_arises-requires : goal.number_arises-requires
number_arises-requires t c =
    let n = integral_node c.args.self.now.nodes.now c.args.self.now.table c.args.whole.node c.requires.part.inside
    (level_count c.args.self.now.store.now) c.requires.part.deep c.index-nodes-whole.result _ _ _ c.in-Integral.is in
    let inside = rw c.deref.ensures.value at c.in-Some.ensures.is.inside in
    let field =
    of_one (IsPartOf c.args.self.now.nodes.now (level_count c.args.self.now.store.now + 1)) c.in-Integral.fields.items
    (get_or c.args.path.now 0 0) c.index-field.result.now n.fields_are inside c.index-field.ensures in
    let field = rw (← c.open_level.ensures.depth, ← c.in-Some.ensures.depth) at field in
    let there = field.inside in
    let deep = field.deep in
    let some = c.in-len1-up.len_at_least in
    let shorter : length (take (length c.args.path.now - 1) (drop 1 c.args.path.now)) < length c.args.path.now =
    simp (length-take, length-drop) (omega (arith, some)) in
    search rules

pub returns-in-Ok-Beside-clause-is : goal.returns-in-Ok-Beside-clause-is
returns-in-Ok-Beside-clause-is t c =
    λ yes.
    let n = integral_node c.args.self.now.nodes.now c.args.self.now.table c.args.whole.node c.requires.part.inside
    (level_count c.args.self.now.store.now) c.requires.part.deep c.index-nodes-whole.result _ _ _ c.in-Integral.is in
    let inside = rw c.deref.ensures.value at c.in-Some.ensures.is.inside in
    let next = drop_more c.in-Integral.fields.items (get_or c.args.path.now 0 0) c.index-field.result.now inside in
    let next = rw (← c.index-field.ensures) at next in
    let opens = c.open_level.ensures.levels c.args.self.now.nodes.now in
    let before = rw (c.deref.ensures.value, opens) at c.in-Some.ensures.is.before in
    let same : fault_of c.in-Ok-Beside.told ≡ fault_of c.args.fault = (let h = c.eq.ensures in search rules) in
    let refused =
    rw (c.in-Some.ensures.frame.lent.nodes, c.in-Ok-Beside.field-0-is, same) at c.in-Ok-Beside.ensures.is in
    let arises =
    digits_refused_there c.args.self.now.nodes.now c.in-Integral.fields.items c.args.whole.digits c.args.whole.start
    c.in-Integral.number.width (get_or c.args.path.now 0 0) c.in-Some.left c.first_digits.result c.width_at.result
    (opened (frames_of c.args.self.now)) (frames_after c.args.self.now c.reach_field.new.self) (fault_of c.args.fault)
    c.index-field.result.now next c.width_at.ensures.is c.first_digits.ensures.is before refused in
    rw
    (n.type_is, path_ends c.args.path.now c.in-len1-up.len_at_least (sym c.is_empty.ensures ∙ c.if-not-is_empty.false))
    (in_digits arises)

pub returns-then-not-is_empty-clause-is : goal.returns-then-not-is_empty-clause-is
returns-then-not-is_empty-clause-is t c =
    λ yes.
    let n = integral_node c.args.self.now.nodes.now c.args.self.now.table c.args.whole.node c.requires.part.inside
    (level_count c.args.self.now.store.now) c.requires.part.deep c.index-nodes-whole.result _ _ _ c.in-Integral.is in
    let inside = rw c.deref.ensures.value at c.in-Some.ensures.is.inside in
    let next = drop_more c.in-Integral.fields.items (get_or c.args.path.now 0 0) c.index-field.result.now inside in
    let next = rw (← c.index-field.ensures) at next in
    let opens = c.open_level.ensures.levels c.args.self.now.nodes.now in
    let before = rw (c.deref.ensures.value, opens) at c.in-Some.ensures.is.before in
    let arises =
    digits_arise_inside c.args.self.now.nodes.now c.in-Integral.fields.items c.args.whole.digits c.args.whole.start
    c.in-Integral.number.width (get_or c.args.path.now 0 0) c.in-Some.left c.first_digits.result c.width_at.result
    (opened (frames_of c.args.self.now)) (frames_after c.args.self.now c.reach_field.new.self) (fault_of c.args.fault)
    c.index-field.result.now next c.width_at.ensures.is c.first_digits.ensures.is before _
    (rw c.in-Some.ensures.frame.lent.nodes at (c.number_arises.ensures.is yes)) in
    rw (n.type_is, path_is c.args.path.now c.in-len1-up.len_at_least) (in_digits arises)
