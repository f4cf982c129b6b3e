use Rattle.std.proofs.Common.{◌≡◌}
use Rattle.pickle_tree.specs.Pickle.{pickle_tree}
use Rattle.pickle_types.specs.Names.{predeclared}
use Rattle.pickle_types.specs.Building.{known_types}
use Rattle.pickle_types.proofs.Meanings.{rules_sound}
use Rattle.pickle_types.proofs.refused.Refused.find.Goals as goal

pub returns-in-Ok-clause-none : goal.returns-in-Ok-clause-none
returns-in-Ok-clause-none c =
    let k : known_types c.predeclare.new.self ≡ predeclared =
    rw c.new-builder.ensures.none at c.in_default.ensures.known in
    let h = rw (k, c.deref.ensures.value) at c.in-Ok.ensures.ok in
    λ none. (_, rules_sound (pickle_tree c.args.pickle.now) predeclared _ h)

pub returns-clause-kind : goal.returns-clause-kind
returns-clause-kind c =
    let k : known_types c.predeclare.new.self ≡ predeclared =
    rw c.new-builder.ensures.none at c.in_default.ensures.known in
    rw (k, c.deref.ensures.value) at c.in-Err-declare_all.ensures.err
