use Rattle.std.proofs.Common.{◌≡◌, length, None, arith}
use Rattle.pickle_types.proofs.Scattered.{place_updated, place_changed}
use Rattle.pickle_types.proofs.places_by_name.PlacesByName.remove.Goals as goal

pub returns-then-count-gt0 : goal.returns-then-count-gt0
returns-then-count-gt0 c =
    let n : c.len-count.result ≡ length c.args.self.now.trees.items = omega arith in
    let is = rw n at c.bucket_of-tree.ensures.tree in
    let lt = rw n at c.bucket_of-tree.ensures.inside in
    let old = c.index_mut.result.now in
    let updated = place_updated old c.remove.new.self c.args.name.now None c.remove.ensures.updates.0 in
    place_changed c.args.self.now.trees.items c.args.name.now c.bucket_of-tree.result is lt old c.remove.new.self
    c.index_mut.ensures.value None updated
