use Rattle.std.proofs.Common.{rules, refl, arith}
use Rattle.std.proofs.lemmas.Result.{err_from_is_err_and}
use Rattle.value_store.specs.Slots.{level_count}
use Rattle.fault_location.specs.Sites.{path_cut}
use Rattle.fault_location.proofs.Nodes.{integral_node}
use Rattle.fault_location.proofs.Located.{grown_none, grown_one, grown_more, no_fields, of_each}
use Rattle.fault_location.proofs.Searching.{kept_ends, in_number}
use Rattle.fault_location.specs.Frames.{frames_after, frames_of}
use Rattle.fault_location.proofs.checker.Checker.+locate_in_number.Goals as goal

pub returns-in_default : goal.returns-in_default
returns-in_default t c = record {
  frame = search rules;
  spends = omega arith;
  is = grown_none c.args.path.now.items (path_cut c.args.self.now.nodes.now (frames_of c.args.self.now) c.args.number)
      (no_fields c.args.self.now.nodes.now c.args.self.now.table c.args.number.node c.requires.part.inside
      c.index-nodes-number.result _ refl c.in_default.not-Integral c.args.number.digits c.args.number.start
      (frames_of c.args.self.now));
}

pub open_level-requires : goal.open_level-requires
open_level-requires t c =
    let n = integral_node c.args.self.now.nodes.now c.args.self.now.table c.args.number.node c.requires.part.inside
    (level_count c.args.self.now.store.now) c.requires.part.deep c.index-nodes-number.result _ _ _ c.in-Integral.is in
    n.few

pub find_digits-requires-clause-fields : goal.find_digits-requires-clause-fields
find_digits-requires-clause-fields t c =
    let n = integral_node c.args.self.now.nodes.now c.args.self.now.table c.args.number.node c.requires.part.inside
    (level_count c.args.self.now.store.now) c.requires.part.deep c.index-nodes-number.result _ _ _ c.in-Integral.is in
    rw (c.deref.ensures.value, c.open_level.ensures.depth) n.fields_are

pub find_digits-requires-clause-width : goal.find_digits-requires-clause-width
find_digits-requires-clause-width t c =
    let n = integral_node c.args.self.now.nodes.now c.args.self.now.table c.args.number.node c.requires.part.inside
    (level_count c.args.self.now.store.now) c.requires.part.deep c.index-nodes-number.result _ _ _ c.in-Integral.is in
    n.width.most

pub returns-in-Itself-clause-is : goal.returns-in-Itself-clause-is
returns-in-Itself-clause-is t c =
    let n = integral_node c.args.self.now.nodes.now c.args.self.now.table c.args.number.node c.requires.part.inside
    (level_count c.args.self.now.store.now) c.requires.part.deep c.index-nodes-number.result _ _ _ c.in-Integral.is in
    let found = rw (c.in-Itself.is, c.open_level.ensures.levels c.args.self.now.nodes.now, c.deref.ensures.value)
    at c.in_ok-find_digits.ensures.is in
    grown_none c.args.path.now.items (path_cut c.args.self.now.nodes.now (frames_of c.args.self.now) c.args.number)
    (rw n.type_is found)

pub returns-in-Beside-clause-is : goal.returns-in-Beside-clause-is
returns-in-Beside-clause-is t c =
    let n = integral_node c.args.self.now.nodes.now c.args.self.now.table c.args.number.node c.requires.part.inside
    (level_count c.args.self.now.store.now) c.requires.part.deep c.index-nodes-number.result _ _ _ c.in-Integral.is in
    let found = rw (c.in-Beside.is, c.open_level.ensures.levels c.args.self.now.nodes.now, c.deref.ensures.value)
    at c.in_ok-find_digits.ensures.is in
    of_each c.keep.result c.keep.ensures.is (λ _ grown. grown_one c.args.path.now.items c.keep.new.path.items
    (path_cut c.args.self.now.nodes.now (frames_of c.args.self.now) c.args.number) c.in-Beside.place grown
    (rw n.type_is found))

pub returns-in_ok-keep-in-Inside-clause-is : goal.returns-in_ok-keep-in-Inside-clause-is
returns-in_ok-keep-in-Inside-clause-is t c =
    let n = integral_node c.args.self.now.nodes.now c.args.self.now.table c.args.number.node c.requires.part.inside
    (level_count c.args.self.now.store.now) c.requires.part.deep c.index-nodes-number.result _ _ _ c.in-Integral.is in
    let found = rw (c.in-Inside.is, c.open_level.ensures.levels c.args.self.now.nodes.now, c.deref.ensures.value)
    at c.in_ok-find_digits.ensures.is in
    of_each c.locate_in_number.result (rw c.in_ok-find_digits.ensures.frame.lent.nodes at c.locate_in_number.ensures.is)
    (λ _ more. grown_more c.args.path.now.items _ c.locate_in_number.new.path.items
    (path_cut c.args.self.now.nodes.now (frames_of c.args.self.now) c.args.number)
    (path_cut c.args.self.now.nodes.now (frames_after c.args.self.now c.find_digits.new.self) c.in-Inside.next)
    c.in-Inside.place c.in_ok-keep-in-Inside.ensures.is more (rw n.type_is found))

pub returns-in_err-find_digits-clause-spends : goal.returns-in_err-find_digits-clause-spends
returns-in_err-find_digits-clause-spends t c =
    let n = integral_node c.args.self.now.nodes.now c.args.self.now.table c.args.number.node c.requires.part.inside
    (level_count c.args.self.now.store.now) c.requires.part.deep c.index-nodes-number.result _ _ _ c.in-Integral.is in
    let p = err_from_is_err_and c.from_residual.result c.from_residual.ensures.1 in
    let found = rw (c.open_level.ensures.levels c.args.self.now.nodes.now, c.deref.ensures.value)
    at c.in_err-find_digits.ensures.spends in
    rw (p.1, p.2, n.type_is) found

pub returns-in-Itself-clause-spends : goal.returns-in-Itself-clause-spends
returns-in-Itself-clause-spends t c =
    let n = integral_node c.args.self.now.nodes.now c.args.self.now.table c.args.number.node c.requires.part.inside
    (level_count c.args.self.now.store.now) c.requires.part.deep c.index-nodes-number.result _ _ _ c.in-Integral.is in
    let found = rw (c.in-Itself.is, c.open_level.ensures.levels c.args.self.now.nodes.now, c.deref.ensures.value)
    at c.in_ok-find_digits.ensures.spends in
    rw n.type_is found

pub returns-in-Beside-clause-spends : goal.returns-in-Beside-clause-spends
returns-in-Beside-clause-spends t c =
    let n = integral_node c.args.self.now.nodes.now c.args.self.now.table c.args.number.node c.requires.part.inside
    (level_count c.args.self.now.store.now) c.requires.part.deep c.index-nodes-number.result _ _ _ c.in-Integral.is in
    let found = rw (c.in-Beside.is, c.open_level.ensures.levels c.args.self.now.nodes.now, c.deref.ensures.value)
    at c.in_ok-find_digits.ensures.spends in
    kept_ends ⊥ c.args.self.now.meter.now.limit c.args.self.now.meter.now.steps c.find_digits.new.self.meter.now.steps _
    c.keep.result c.keep.ensures.memory (rw n.type_is found)

pub returns-in_ok-keep-in-Inside-clause-spends : goal.returns-in_ok-keep-in-Inside-clause-spends
returns-in_ok-keep-in-Inside-clause-spends t c =
    let n = integral_node c.args.self.now.nodes.now c.args.self.now.table c.args.number.node c.requires.part.inside
    (level_count c.args.self.now.store.now) c.requires.part.deep c.index-nodes-number.result _ _ _ c.in-Integral.is in
    let found = rw (c.in-Inside.is, c.open_level.ensures.levels c.args.self.now.nodes.now, c.deref.ensures.value)
    at c.in_ok-find_digits.ensures.spends in
    in_number ⊥ c.args.self.now.meter.now.limit c.find_digits.new.self.meter.now.limit c.args.self.now.meter.now.steps
    c.find_digits.new.self.meter.now.steps c.locate_in_number.new.self.meter.now.steps _ _ c.locate_in_number.result
    c.in_ok-find_digits.ensures.frame.limit (rw n.type_is found)
    (rw c.in_ok-find_digits.ensures.frame.lent.nodes at c.locate_in_number.ensures.spends)
