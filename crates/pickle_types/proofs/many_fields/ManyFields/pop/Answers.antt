use Rattle.pickle_types.proofs.Places.{indexed_less, last_kept}
use Rattle.pickle_types.proofs.many_fields.ManyFields.pop.Goals as goal

pub restore-requires : goal.restore-requires
restore-requires c = record {
  there = last_kept c.pop.new.self.items c.in-Some.last c.self.inside.places
      (rw c.in-Some.ensures.items at c.self.invariant);
}

pub invariant_of-self : goal.invariant_of-self
invariant_of-self c =
    let h = rw c.in-Some.ensures.items at c.self.invariant in
    indexed_less c.pop.new.self.items c.in-Some.last c.self.inside.places c.restore.new.self h c.restore.ensures
