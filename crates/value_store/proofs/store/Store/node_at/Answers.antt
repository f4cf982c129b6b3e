use Rattle.std.proofs.Common.{rules, ◌≡◌, Some, ap, sym, ◌∙◌}
use Rattle.std.specs.Prelude.{slice_get}
use Rattle.std.proofs.lemmas.Option.{slice_get-get_or}
use Rattle.value_store.specs.contracts.store.Store.{the_view}
use Rattle.value_store.proofs.Counted.{levels-sound}
use Rattle.value_store.proofs.Found.{read-node}
use Rattle.value_store.proofs.store.Store.node_at.Goals as goal

pub returns : goal.returns
returns c =
    let h = the_view c.self.inside in
    let n = c.index.result.now in
    let got : slice_get h.slots.nodes c.args.at ≡ Some n =
    slice_get-get_or h.slots.nodes c.args.at n (search rules) ∙ ap Some (sym c.index.ensures) in
    rw (← c.self.view_is) (record {
      is = got;
      read = read-node h.slots c.args.at n (levels-sound h.room h.frames h.slots c.self.invariant.levels) got;
    })
