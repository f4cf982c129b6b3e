use Rattle.std.proofs.Common.{◌≡◌, length, Some, sym, ◌∙◌, arith}
use Rattle.std.proofs.lemmas.Result.{err_from_is_err_and}
use Rattle.pickle_types.proofs.Scattered.{place_updated, place_changed, place_same, place_there}
use Rattle.pickle_types.proofs.places_by_name.PlacesByName.put.Goals as goal

pub returns-in_err-open-clause-absent : goal.returns-in_err-open-clause-absent
returns-in_err-open-clause-absent c =
    let p = err_from_is_err_and c.from_residual.result c.from_residual.ensures.1 in
    rw p.1 (c.in_err-open.ensures.none c.args.name.now)

pub returns-in_err-insert-clause-err : goal.returns-in_err-insert-clause-err
returns-in_err-insert-clause-err c =
    let n : c.len.result ≡ length c.open.new.self.trees.items = omega arith in
    let is = rw n at c.bucket_of-tree.ensures.tree in
    let lt = rw n at c.bucket_of-tree.ensures.inside in
    let same = place_same c.open.new.self.trees.items c.args.name.now c.bucket_of-tree.result is lt
    c.index_mut.result.now c.insert.new.self c.index_mut.ensures.value c.in_err-insert.ensures.err in
    let p = err_from_is_err_and c.from_residual-in_err-insert.result c.from_residual-in_err-insert.ensures.1 in
    rw p.1 (λ word. same word ∙ c.open.ensures.same word)

pub returns-in_err-insert-clause-absent : goal.returns-in_err-insert-clause-absent
returns-in_err-insert-clause-absent c =
    let n : c.len.result ≡ length c.open.new.self.trees.items = omega arith in
    let is = rw n at c.bucket_of-tree.ensures.tree in
    let lt = rw n at c.bucket_of-tree.ensures.inside in
    let there = place_there c.open.new.self.trees.items c.args.name.now c.bucket_of-tree.result is lt
    c.index_mut.result.now c.index_mut.result.now c.index_mut.ensures.value in
    let p = err_from_is_err_and c.from_residual-in_err-insert.result c.from_residual-in_err-insert.ensures.1 in
    rw p.1 (sym (c.open.ensures.same c.args.name.now) ∙ there ∙ c.in_err-insert.ensures.absent)

pub returns-clause-put : goal.returns-clause-put
returns-clause-put c word =
    let n : c.len.result ≡ length c.open.new.self.trees.items = omega arith in
    let is = rw n at c.bucket_of-tree.ensures.tree in
    let lt = rw n at c.bucket_of-tree.ensures.inside in
    let old = c.index_mut.result.now in
    let name = c.args.name.now in
    let updated = place_updated old c.insert.new.self name (Some c.args.place) c.in_ok-insert.ensures.updates.0 in
    rw (← c.open.ensures.same word) (place_changed c.open.new.self.trees.items name c.bucket_of-tree.result is lt old
    c.insert.new.self c.index_mut.ensures.value (Some c.args.place) updated word)

pub returns-clause-had : goal.returns-clause-had
returns-clause-had c =
    let n : c.len.result ≡ length c.open.new.self.trees.items = omega arith in
    let is = rw n at c.bucket_of-tree.ensures.tree in
    let lt = rw n at c.bucket_of-tree.ensures.inside in
    let old = c.index_mut.result.now in
    let there = place_there c.open.new.self.trees.items c.args.name.now c.bucket_of-tree.result is lt old old
    c.index_mut.ensures.value in
    c.in_ok-insert.ensures.old ∙ sym there ∙ c.open.ensures.same c.args.name.now
