use Rattle.std.proofs.Common.{◌≡◌, None, sym, ◌∙◌}
use Rattle.std.proofs.lemmas.Result.{err_from_is_err_and}
use Rattle.pickle_tree.specs.Tree.{declaration_tree}
use Rattle.pickle_types.specs.Built.{types_in, declared_as}
use Rattle.pickle_types.specs.Building.{known_types}
use Rattle.pickle_types.proofs.BuiltNodes.{declares}
use Rattle.pickle_types.proofs.Declarations.{declared_twice, declared_once, is_absent, duplicate, new_type}
use Rattle.pickle_types.proofs.check.builder.Builder.declare.Goals as goal

pub returns-then-is_some-clause-adds : goal.returns-then-is_some-clause-adds
returns-then-is_some-clause-adds c =
    let b = c.args.self.now in
    let twice =
    declared_twice b.nodes c.find_name.result _ (c.find_name.ensures.found b.nodes) (sym c.if-is_some.ensures) in
    duplicate (known_types b) (declaration_tree c.args.declaration.now) twice

pub returns-in_err-found-clause-adds : goal.returns-in_err-found-clause-adds
returns-in_err-found-clause-adds c =
    let b = c.args.self.now in
    let p = err_from_is_err_and c.from_residual.result c.from_residual.ensures.1 in
    let once =
    declared_once b.nodes c.find_name.result _ (c.find_name.ensures.found b.nodes) (sym c.if-is_some.ensures) in
    let n = new_type (known_types b) (declaration_tree c.args.declaration.now) once in
    let h = rw c.requires.ready at c.in_err-found.ensures.builds in
    rw (p.1, p.2, n) h

pub returns-clause-adds : goal.returns-clause-adds
returns-clause-adds c =
    let b = c.args.self.now in
    let once =
    declared_once b.nodes c.find_name.result _ (c.find_name.ensures.found b.nodes) (sym c.if-is_some.ensures) in
    let n = new_type (known_types b) (declaration_tree c.args.declaration.now) once in
    let e = c.in_ok-found.ensures.builds in
    let given = rw c.requires.ready at e.1 in
    let known = rw (e.2.keeps.known, e.2.type) at c.in_ok-add.ensures.known in
    (e.0, n ∙ given, known, c.in_ok-add.ensures.ready)

pub returns-clause-node : goal.returns-clause-node
returns-clause-node c =
    let mid = c.type_at.new.self in
    let keeps = c.in_ok-found.ensures.builds.2.keeps in
    let none : declared_as c.args.declaration.now.name.now (types_in c.args.self.now.names) ≡ None =
    sym c.find_name.ensures.is ∙ is_absent c.find_name.result (sym c.if-is_some.ensures) in
    declares c.args.self.now mid c.add.new.self (declaration_tree c.args.declaration.now) c.in_ok-found.found.node keeps
    c.in_ok-found.ensures.node (rw keeps.types none) c.in_ok-add.ensures.named c.add.ensures.nodes
