use Rattle.std.proofs.Common.{◌≡◌, Some, ◌∙◌, ap}
use Rattle.value_store.specs.Refs.{value_of, value_shown}
use Rattle.value_store.proofs.store.Store.root.Goals as goal

pub returns-in-Some : goal.returns-in-Some
returns-in-Some c =
    let is : value_shown c.new.result ≡ value_of c.args.table.now.nodes.items c.in-Some.stored =
    c.new.ensures ∙ ap (λ ns. value_of ns c.in-Some.stored) c.nodes.ensures in
    ap Some is ∙ c.in-Some.ensures c.args.table.now.nodes.items

pub returns-in-None : goal.returns-in-None
returns-in-None c = c.in-None.ensures c.args.table.now.nodes.items
