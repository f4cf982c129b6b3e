-- `start_list`: how the run ends where no list was reached.
use Rattle.std.proofs.Common.{◌≡◌, ◌∙◌, ◌≤◌, ℕ, List, ap, subst, arith}
use Rattle.bit_space.specs.declared.meter.Meter.{Meter}
use Rattle.pickle_meaning.specs.Values.{no_values}
use Rattle.pickle_types.specs.TypeTable.{nodes_of}
use Rattle.pickle_types.specs.declared.node.Node.{Node}
use Rattle.value_store.specs.Slots.{Held, levels}
use Rattle.inner_lists.specs.Calls.{Reaching, frames_of}
use Rattle.inner_records.proofs.Reaching.{none_there, stops_there}
use Rattle.inner_records.proofs.reach.start_list.Goals as goal

pub returns-in-Ok-None-clause-err : goal.returns-in-Ok-None-clause-err
returns-in-Ok-None-clause-err g c =
    let e = c.new-mapper.ensures in
    let run = c.args.run.now in
    let first = c.new-mapper.result in
    let meter : first.meter.now ≡ c.new-meter.result = ap (λ meter. meter.now) e.meter in
    let store : first.store.now ≡ c.clear.new.self = ap (λ store. store.now) e.store in
    let nodes : first.nodes.now ≡ nodes_of run.table.now = ap (λ nodes. nodes.now) e.nodes ∙ c.nodes.ensures in
    let none : frames_of first ≡ no_values =
    ap (λ (nodes : List Node). levels nodes first.store.now) nodes
    ∙ ap (λ (store : Held). levels (nodes_of run.table.now) store) store
    ∙ c.clear.ensures.levels (nodes_of run.table.now) in
    let limit : first.meter.now.limit ≡ run.ask.now.limit =
    ap (λ (meter : Meter). meter.limit) meter ∙ c.new-meter.ensures.limit in
    let fresh : first.meter.now.steps ≡ 0 =
    ap (λ (meter : Meter). meter.steps) meter ∙ c.new-meter.ensures.steps in
    let left = c.in-Ok-None.ensures.frame.left.limit in
    let within = c.reach.new.mapper.meter.now.within in
    let few : c.reach.new.mapper.meter.now.steps ≤ run.ask.now.limit = omega (arith, within, left, limit) in
    let is = rw c.in-Ok-None.field-0-is at c.in-Ok-None.ensures.is in
    rw⁻¹ c.deref.ensures.value
    (none_there run c.deref.result.now first c.node.result c.from.result c.node.ensures c.from.ensures nodes none
    (g.S.Space.view c.args.space.now) (g.S.Space.view c.reach.new.space) first.meter.now.steps
    c.reach.new.mapper.meter.now.steps fresh few is)

pub returns-in-Err-clause-err : goal.returns-in-Err-clause-err
returns-in-Err-clause-err g c =
    let e = c.new-mapper.ensures in
    let run = c.args.run.now in
    let first = c.new-mapper.result in
    let meter : first.meter.now ≡ c.new-meter.result = ap (λ meter. meter.now) e.meter in
    let store : first.store.now ≡ c.clear.new.self = ap (λ store. store.now) e.store in
    let nodes : first.nodes.now ≡ nodes_of run.table.now = ap (λ nodes. nodes.now) e.nodes ∙ c.nodes.ensures in
    let none : frames_of first ≡ no_values =
    ap (λ (nodes : List Node). levels nodes first.store.now) nodes
    ∙ ap (λ (store : Held). levels (nodes_of run.table.now) store) store
    ∙ c.clear.ensures.levels (nodes_of run.table.now) in
    let limit : first.meter.now.limit ≡ run.ask.now.limit =
    ap (λ (meter : Meter). meter.limit) meter ∙ c.new-meter.ensures.limit in
    let fresh : first.meter.now.steps ≡ 0 =
    ap (λ (meter : Meter). meter.steps) meter ∙ c.new-meter.ensures.steps in
    let left = c.in-Err.ensures.frame.left.limit in
    let within = c.reach.new.mapper.meter.now.within in
    let few : c.reach.new.mapper.meter.now.steps ≤ run.ask.now.limit = omega (arith, within, left, limit) in
    rw⁻¹ c.deref.ensures.value
    (stops_there run c.deref.result.now first c.node.result c.from.result c.node.ensures c.from.ensures nodes none
    (g.S.Space.view c.args.space.now) (g.S.Space.view c.reach.new.space) first.meter.now.steps
    c.reach.new.mapper.meter.now.steps fresh few first.meter.now.limit c.in-Err.stop c.end_under.result limit
    c.in-Err.ensures.is (rw c.fault_of.ensures at c.end_under.ensures))
