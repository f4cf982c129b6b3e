use Rattle.value_store.proofs.value.ValueRef.child.Goals as goal

pub returns-in-Some-clause-member : goal.returns-in-Some-clause-member
returns-in-Some-clause-member c = c.in-Some.ensures.part c.args.self.now.nodes.now

pub returns-in-None-clause-member : goal.returns-in-None-clause-member
returns-in-None-clause-member c = c.in-None.ensures.part c.args.self.now.nodes.now
