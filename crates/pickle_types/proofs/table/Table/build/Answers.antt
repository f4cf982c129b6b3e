use Rattle.std.proofs.Common.{◌≡◌, ◌∙◌}
use Rattle.std.proofs.lemmas.Result.{err_from_is_err_and}
use Rattle.pickle_tree.specs.Pickle.{pickle_tree}
use Rattle.pickle_types.specs.Names.{predeclared}
use Rattle.pickle_types.specs.Built.{types_in}
use Rattle.pickle_types.specs.Building.{known_types}
use Rattle.pickle_types.proofs.Meanings.{rules_sound}
use Rattle.pickle_types.proofs.IllTyped.{ill_typed}
use Rattle.pickle_types.proofs.BuiltNodes.{predeclared_nodes, table_nodes}
use Rattle.pickle_types.proofs.table.Table.build.Goals as goal

pub returns-in_err-roots-clause-wrong : goal.returns-in_err-roots-clause-wrong
returns-in_err-roots-clause-wrong c =
    let p = err_from_is_err_and c.from_residual-in_err-roots.result c.from_residual-in_err-roots.ensures.1 in
    let k : known_types c.predeclare.new.self ≡ predeclared =
    rw c.new-builder.ensures.none at c.in_ok-predeclare.ensures.known in
    let h = rw (k, c.deref.ensures.value) at c.in_err-roots.ensures.err in
    rw (p.1, p.2) (ill_typed _ _ h)

pub returns-in_err-roots-clause-kind : goal.returns-in_err-roots-clause-kind
returns-in_err-roots-clause-kind c =
    let p = err_from_is_err_and c.from_residual-in_err-roots.result c.from_residual-in_err-roots.ensures.1 in
    let k : known_types c.predeclare.new.self ≡ predeclared =
    rw c.new-builder.ensures.none at c.in_ok-predeclare.ensures.known in
    let h = rw (k, c.deref.ensures.value) at c.in_err-roots.ensures.err in
    rw (p.1, p.2) h

pub returns-in_err-roots-clause-place : goal.returns-in_err-roots-clause-place
returns-in_err-roots-clause-place c =
    let p = err_from_is_err_and c.from_residual-in_err-roots.result c.from_residual-in_err-roots.ensures.1 in
    let k : known_types c.predeclare.new.self ≡ predeclared =
    rw c.new-builder.ensures.none at c.in_ok-predeclare.ensures.known in
    let h = rw (k, c.deref.ensures.value) at c.in_err-roots.ensures.place in
    rw (p.1, p.2) h

pub returns-clause-ok : goal.returns-clause-ok
returns-clause-ok c =
    let k : known_types c.predeclare.new.self ≡ predeclared =
    rw c.new-builder.ensures.none at c.in_ok-predeclare.ensures.known in
    let h = rw (k, c.deref.ensures.value) at c.in_ok-roots.ensures.ok in
    rw (c.in_ok-new.ensures.ok, c.in_ok-list.ensures.ok, c.into_nodes.ensures)
    (rules_sound (pickle_tree c.args.pickle.now) predeclared _ h)

pub invariant_of-result-clause-sound : goal.invariant_of-result-clause-sound
invariant_of-result-clause-sound c = rw c.into_nodes.ensures c.declare_all.new.self.table

pub invariant_of-result-clause-named : goal.invariant_of-result-clause-named
invariant_of-result-clause-named c =
    rw (c.in_ok-new.ensures.ok, c.in_ok-list.ensures.ok, c.into_nodes.ensures) c.declare_all.new.self.named

pub returns-clause-nodes : goal.returns-clause-nodes
returns-clause-nodes c =
    let k : known_types c.predeclare.new.self ≡ predeclared =
    rw c.new-builder.ensures.none at c.in_ok-predeclare.ensures.known in
    let step = c.in_ok-predeclare.ensures.order c.new-builder.ensures.order in
    let nodes = rw c.deref.ensures.value at c.in_ok-roots.ensures.nodes in
    table_nodes _ c.declare_all.new.self.nodes (types_in c.declare_all.new.self.names) (pickle_tree c.args.pickle.now)
    c.into_nodes.ensures (c.in_ok-new.ensures.ok ∙ c.in_ok-list.ensures.ok)
    (predeclared_nodes c.predeclare.new.self c.declare_all.new.self (pickle_tree c.args.pickle.now) k step nodes)
    nodes.declared
