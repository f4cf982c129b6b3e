-- `enter`: a struct is entered through its fields.
use Rattle.std.proofs.Common.{◌∙◌, ◌*◌, ◌∷◌, refl, sym, arith}
use Rattle.std.proofs.lemmas.Result.{err_from_is_err_and}
use Rattle.fault_location.proofs.Nodes.{struct_node}
use Rattle.bit_space.specs.SpaceView.{HasRisen}
use Rattle.list_laws.specs.Meanings.{bytes_in}
use Rattle.list_laws.specs.Paths.{is_list, is_list_in}
use Rattle.list_laws.specs.Reaches.{ReachesIn}
use Rattle.inner_lists.specs.Calls.{frames_of, reaches_from}
use Rattle.value_store.specs.Names.{title_at}
use Rattle.pickle_types.specs.Table.{open_fields, type_of}
use Rattle.inner_lists.proofs.Entering.{enters_later, goes_on_too, past_comes, struct_leads, struct_tick}
use Rattle.inner_lists.proofs.Shapes.{list_is_struct, struct_in}
use Rattle.value_store.specs.Slots.{level_count, levels}
use Rattle.inner_lists.proofs.reach.enter.Goals as goal

pub returns-then-from-stage-clause-is : goal.returns-then-from-stage-clause-is
returns-then-from-stage-clause-is g c = λ path is.
    past_comes _ _ _ _ _ _ _ _ (omega (arith, c.if-from-stage.true, c.from.ensures, c.len.ensures))

pub returns-in_err-tick-in-Struct-clause-is : goal.returns-in_err-tick-in-Struct-clause-is
returns-in_err-tick-in-Struct-clause-is g c =
    let n = struct_node c.args.mapper.now.nodes.now c.args.mapper.now.table c.args.stage.node c.requires.stage.inside
    (level_count c.args.mapper.now.store.now) c.requires.stage.deep c.index-nodes-stage.result _ _ _ c.in-Struct.is in
    let p = err_from_is_err_and c.from_residual.result c.from_residual.ensures.1 in
    let none = c.in_err-tick-in-Struct.ensures.refused.0 refl in
    let still = c.in_err-tick-in-Struct.ensures.err in
    rw (p.1, p.2)
    (λ path is. struct_tick _ _ _ _ _ _ _ _ _ _ _ _
    (omega (arith, c.if-from-stage.false, c.from.ensures, c.len.ensures)) n.type_is _ _ is (still ∙ none) none)

pub open_level-requires : goal.open_level-requires
open_level-requires g c =
    let n = struct_node c.args.mapper.now.nodes.now c.args.mapper.now.table c.args.stage.node c.requires.stage.inside
    (level_count c.args.mapper.now.store.now) c.requires.stage.deep c.index-nodes-stage.result _ _ _ c.in-Struct.is in
    n.few

pub enter_fields-requires-clause-fields : goal.enter_fields-requires-clause-fields
enter_fields-requires-clause-fields g c =
    let n = struct_node c.args.mapper.now.nodes.now c.args.mapper.now.table c.args.stage.node c.requires.stage.inside
    (level_count c.args.mapper.now.store.now) c.requires.stage.deep c.index-nodes-stage.result _ _ _ c.in-Struct.is in
    rw (c.deref.ensures.value, c.open_level.ensures.depth) n.fields_are

pub enter_fields-requires-clause-list : goal.enter_fields-requires-clause-list
enter_fields-requires-clause-list g c =
    let list = c.requires.list in
    rw c.deref.ensures.value
    (record {
      path = list.path;
      list = struct_in c.args.mapper.now.nodes.now c.args.mapper.now.table c.args.stage.node c.requires.stage.inside
          c.index-nodes-stage.result _ _ _ c.args.place list.path c.in-Struct.is list.list;
    })

pub unreachable-requires : goal.unreachable-requires
unreachable-requires g c =
    let list = c.requires.list in
    list_is_struct c.args.mapper.now.nodes.now c.args.mapper.now.table c.args.stage.node c.requires.stage.inside
    c.index-nodes-stage.result c.args.place list.path list.list c.in_default.not-Struct

pub returns-clause-goes_on : goal.returns-clause-goes_on
returns-clause-goes_on g c =
    goes_on_too (g.S.Space.view c.args.space.now) c.enter_fields.new.mapper
    (is_list_in (open_fields (type_of c.args.mapper.now.nodes.now) c.in-Struct.fields.items) c.args.place)
    (λ path. is_list (type_of c.args.mapper.now.nodes.now c.args.stage.node) (c.args.place ∷ path))
    c.enter_fields.result
    (λ path is. struct_in c.args.mapper.now.nodes.now c.args.mapper.now.table c.args.stage.node c.requires.stage.inside
    c.index-nodes-stage.result _ _ _ c.args.place path c.in-Struct.is is)
    (rw c.deref.ensures.value at c.enter_fields.ensures.goes_on)

pub returns-clause-is : goal.returns-clause-is
returns-clause-is g c =
    let n = struct_node c.args.mapper.now.nodes.now c.args.mapper.now.table c.args.stage.node c.requires.stage.inside
    (level_count c.args.mapper.now.store.now) c.requires.stage.deep c.index-nodes-stage.result _ _ _ c.in-Struct.is in
    let entered = rw c.deref.ensures.value at c.enter_fields.ensures.is in
    let space = g.S.Space.view c.args.space.now in
    let nodes = c.args.mapper.now.nodes.now in
    let fields = open_fields (type_of nodes) c.in-Struct.fields.items in
    let stage = c.args.stage in
    enters_later (bytes_in space) (HasRisen space.failures (g.S.Space.view c.enter_fields.new.space).failures)
    (HasRisen space.failures (g.S.Space.view c.enter_fields.new.space).failures)
    c.tick.new.self.limit c.args.mapper.now.meter.now.limit c.args.mapper.now.meter.now.steps c.tick.new.self.steps
    c.enter_fields.new.mapper (is_list_in fields c.args.place)
    (λ path. is_list (type_of nodes stage.node) (c.args.place ∷ path))
    (λ path M r k. ReachesIn (8 * space.len) M c.in-Struct.pinned stage.start fields c.args.place path stage.order
    (levels nodes c.open_level.new.self) stage.start c.max.result r k)
    (λ path. reaches_from (bytes_in space) c.args.mapper.now stage (c.args.place ∷ path))
    c.enter_fields.result (λ d. d) (sym c.in_ok-tick-in-Struct.ensures.limit)
    (λ path is. struct_in nodes c.args.mapper.now.table stage.node c.requires.stage.inside
    c.index-nodes-stage.result _ _ _ c.args.place path c.in-Struct.is is)
    (λ path. struct_leads (bytes_in space) (type_of nodes stage.node) (title_at nodes stage.node) c.in-Struct.pinned
    fields c.args.place path stage.order (frames_of c.args.mapper.now) stage.start stage.top
    c.args.mapper.now.meter.now.steps
    (omega (arith, c.if-from-stage.false, c.from.ensures, c.len.ensures)) n.type_is c.tick.new.self.steps c.max.result
    (levels nodes c.open_level.new.self)
    (c.open_level.ensures.levels nodes) c.in_ok-tick-in-Struct.ensures.ok c.max.ensures)
    entered
