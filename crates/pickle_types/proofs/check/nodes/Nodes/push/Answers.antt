use Rattle.std.proofs.Common.{◌≡◌, length, arith}
use Rattle.std.proofs.Math.Seq.{take-append_seam}
use Rattle.pickle_types.proofs.Indexed.{indexed_plain, indexed_named}
use Rattle.pickle_types.proofs.check.nodes.Nodes.push.Goals as goal

pub invariant_of-self-in_default : goal.invariant_of-self-in_default
invariant_of-self-in_default c =
    let old = c.self.inside.places.entries in
    rw c.in_ok-push.ensures.items (indexed_plain c.self.inside.nodes.items c.args.node old old c.self.invariant)

pub invariant_of-self-in-Ok : goal.invariant_of-self-in-Ok
invariant_of-self-in-Ok c =
    let n : c.len-place.result ≡ length c.self.inside.nodes.items = omega arith in
    rw c.in_ok-push.ensures.items (indexed_named c.self.inside.nodes.items c.args.node c.self.inside.places.entries
    c.insert.new.self.entries c.self.invariant c.in-Some.places (rw c.in-Some.is at c.requires)
    (λ i. rw (← n) (c.in-Ok.ensures.updates.0 i)))

pub invariant_of-self-in-Err : goal.invariant_of-self-in-Err
invariant_of-self-in-Err c =
    let n : c.len-place.result ≡ length c.self.inside.nodes.items = omega arith in
    rw (c.truncate.ensures.items, c.in_ok-push.ensures.items, n, take-append_seam, c.in-Err.ensures.err)
    c.self.invariant
