use Rattle.std.proofs.Common.{◌∙◌, ap}
use Rattle.value_store.specs.Scalars.{scalar_if}
use Rattle.value_store.proofs.value.members.Members.scalar.Goals as goal

pub returns-in-Some : goal.returns-in-Some
returns-in-Some c =
    let names = c.args.self.now.value.nodes.now in
    c.scalar.ensures.is names ∙ ap scalar_if (c.in-Some.ensures.part names)

pub returns-in-None : goal.returns-in-None
returns-in-None c = ap scalar_if (c.in-None.ensures.part c.args.self.now.value.nodes.now)
