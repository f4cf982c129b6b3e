use Rattle.std.proofs.Common.{Some, None, length}
use Rattle.std.specs.Vec.{with_item}
use Rattle.pickle_types.specs.Table.{type_of}
use Rattle.mapping_plans.specs.Rows.{row_of}
use Rattle.pickle_map.proofs.KeptKinds.{are_kept, made_right, set_right}
use Rattle.pickle_map.proofs.mapper.packings.Packings.keep.Goals as goal

pub returns-then-is_none : goal.returns-then-is_none
returns-then-is_none c =
    are_kept c.args.nodes.now
    (record { first = Some (record { at = c.args.at; kind = c.args.kind }); others = c.args.self.now.others })
    c.requires.right (λ at. c.requires.kept (Some at))

pub returns-then-at-len : goal.returns-then-at-len
returns-then-at-len c =
    are_kept c.args.nodes.now (record {
      first = c.args.self.now.first;
      others = Some (with_item c.in-Some.kinds c.args.at (Some c.args.kind));
    }) (c.requires.kept None)
    (set_right (λ i. row_of (type_of c.args.nodes.now i)) c.in-Some.kinds.items c.args.at c.args.kind c.requires.right
    (λ i. rw c.in-Some.is at (c.requires.kept (Some i))))

pub returns-else-at-len : goal.returns-else-at-len
returns-else-at-len c = rw c.in-Some.is at c.requires.kept

pub returns-then-is_ok : goal.returns-then-is_ok
returns-then-is_ok c =
    let nodes = c.args.nodes.now in
    let items = rw (← c.if-is_ok.ensures.value, c.new-kinds.ensures.items) at c.resize.ensures.items in
    are_kept nodes (record {
      first = c.args.self.now.first;
      others = Some (with_item c.resize.new.self c.args.at (Some c.args.kind));
    }) (c.requires.kept None)
    (set_right (λ i. row_of (type_of nodes i)) c.resize.new.self.items c.args.at c.args.kind c.requires.right
    (rw items (made_right (λ i. row_of (type_of nodes i)) (length nodes) _)))
