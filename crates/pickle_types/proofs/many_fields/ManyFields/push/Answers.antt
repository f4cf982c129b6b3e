use Rattle.std.proofs.Common.{◌≡◌, length, arith}
use Rattle.pickle_types.specs.declared.many_fields.Entry.{Entry}
use Rattle.pickle_types.proofs.Places.{indexed_more}
use Rattle.pickle_types.proofs.many_fields.ManyFields.push.Goals as goal

pub invariant_of-self-2 : goal.invariant_of-self-2
invariant_of-self-2 c =
    let e : Entry = record { field = c.args.field; hidden = c.in_ok-hidden.hidden } in
    let n : c.len-place.result ≡ length c.self.inside.entries.items = rw (← c.reserve.ensures.items) (omega arith) in
    rw (c.push_reserved.ensures.items, c.reserve.ensures.items)
    (indexed_more c.self.inside.entries.items e c.self.inside.places c.add.new.self c.self.invariant
    c.in_ok-hidden.ensures.had (λ word. rw (← n) (c.in_ok-hidden.ensures.put word)))
