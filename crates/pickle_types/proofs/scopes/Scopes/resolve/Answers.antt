use Rattle.pickle_types.proofs.Places.{seen_behind, seen_before, below_before, below_behind}
use Rattle.pickle_types.proofs.scopes.Scopes.resolve.Goals as goal

pub returns-in-Some-clause-found : goal.returns-in-Some-clause-found
returns-in-Some-clause-found c nodes =
    rw (← c.self.view_is) (seen_behind nodes c.args.word.now c.self.inside.few.items c.self.inside.many c.in-Some.field
    (c.in-Some.ensures.found nodes))

pub returns-in-Some-clause-inside : goal.returns-in-Some-clause-inside
returns-in-Some-clause-inside c n levels below =
    c.in-Some.ensures.inside n levels
    (below_behind n levels c.self.inside.few.items c.self.inside.many (rw (← c.self.view_is) at below))

pub returns-in-None-clause-found : goal.returns-in-None-clause-found
returns-in-None-clause-found c nodes =
    let before =
    seen_before nodes c.args.word.now c.self.inside.few.items c.self.inside.many (c.in-None.ensures.found nodes) in
    let found = rw c.deref.ensures.value at c.last_named.ensures.found nodes in
    rw (← c.self.view_is, before) found

pub returns-in-None-clause-inside : goal.returns-in-None-clause-inside
returns-in-None-clause-inside c n levels below =
    let few = below_before n levels c.self.inside.few.items c.self.inside.many (rw (← c.self.view_is) at below) in
    c.last_named.ensures.inside n levels (rw c.deref.ensures.value few)
