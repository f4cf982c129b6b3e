-- `form_of`: what is known of the array at the end of a path is known from each struct on it.
use Rattle.std.proofs.Common.{◌∙◌, Bool, ◌+◌, ◌&&◌, get_or, drop, sym, ap, arith}
use Rattle.std.proofs.lemmas.List.{drop_more, drop_all}
use Rattle.list_laws.specs.Paths.{Path, is_last, is_open}
use Rattle.pickle_map.proofs.Shapes.{below_as}
use Rattle.pickle_types.specs.Table.{type_of}
use Rattle.inner_lists.proofs.Fields.{field_there}
use Rattle.inner_lists.proofs.Shapes.{and_all, and_last, end_is_last, last_in, list_is_struct, open_in, struct_in}
use Rattle.inner_lists.proofs.form.form_of.Goals as goal

pub step_to-step-requires : goal.step_to-step-requires
step_to-step-requires c =
    let i = c.loop-place.invariant in
    let path = c.args.path.now in
    let next = drop_more path c.loop-place.place-index 0 c.loop-place-test.true in
    let list = rw next at i.list in
    let inside = struct_in c.args.nodes.now c.requires.table c.loop-place.at i.inside c.index-nodes-at.result _ _ _
    (get_or path c.loop-place.place-index 0) (drop (c.loop-place.place-index + 1) path) c.in-Struct.is list in
    rw c.deref.ensures.value (field_there (type_of c.args.nodes.now) c.in-Struct.fields.items
    (get_or path c.loop-place.place-index 0) (drop (c.loop-place.place-index + 1) path) inside)

pub unreachable-requires : goal.unreachable-requires
unreachable-requires c =
    let i = c.loop-place.invariant in
    let path = c.args.path.now in
    let next = drop_more path c.loop-place.place-index 0 c.loop-place-test.true in
    let list = rw next at i.list in
    list_is_struct c.args.nodes.now c.requires.table c.loop-place.at i.inside c.index-nodes-at.result
    (get_or path c.loop-place.place-index 0) (drop (c.loop-place.place-index + 1) path) list c.in_default.not-Struct

pub loop-place-preserved : goal.loop-place-preserved
loop-place-preserved c =
    let i = c.loop-place.invariant in
    let nodes = c.args.nodes.now in
    let path = c.args.path.now in
    let index = c.loop-place.place-index in
    let place = get_or path index 0 in
    let rest = drop (index + 1) path in
    let next = drop_more path index 0 c.loop-place-test.true in
    let list = rw next at i.list in
    let step = rw c.deref.ensures.value at c.step_to-step.ensures in
    let below = below_as nodes c.requires.table c.loop-place.at i.inside c.index-nodes-at.result _ c.in-Struct.is in
    let low = step.inside c.loop-place.at below in
    let inside = i.inside in
    record {
      inside = omega (arith, low, inside);
      list = step.list (type_of nodes) rest
          (struct_in nodes c.requires.table c.loop-place.at i.inside c.index-nodes-at.result _ _ _ place rest
          c.in-Struct.is list);
      unbounded = i.unbounded ∙ ap (λ (p : Path). is_open (type_of nodes c.loop-place.at) p) next
          ∙ open_in nodes c.requires.table c.loop-place.at i.inside c.index-nodes-at.result _ _ _ place rest
          c.in-Struct.is
          ∙ step.open (type_of nodes) rest;
      last = i.last
          ∙ ap (λ (p : Path). c.loop-place.last && is_last (type_of nodes c.loop-place.at) p) next
          ∙ ap (λ (b : Bool). c.loop-place.last && b)
          (last_in nodes c.requires.table c.loop-place.at i.inside c.index-nodes-at.result _ _ _ place rest
          c.in-Struct.is ∙ step.last (type_of nodes) rest)
          ∙ and_all c.loop-place.last c.step_to-step.result.last _
          ∙ ap (λ (b : Bool). b && is_last (type_of nodes c.step_to-step.result.node) rest) (sym c.both-last.ensures);
    }

pub returns-clause-last : goal.returns-clause-last
returns-clause-last c =
    let i = c.loop-place.invariant in
    let nodes = c.args.nodes.now in
    let path = c.args.path.now in
    let all = drop_all c.loop-place.place-index path (omega arith) in
    sym (i.last ∙ ap (λ (p : Path). c.loop-place.last && is_last (type_of nodes c.loop-place.at) p) all
    ∙ ap (λ (b : Bool). c.loop-place.last && b)
    (end_is_last (type_of nodes c.loop-place.at))
    ∙ and_last c.loop-place.last)
