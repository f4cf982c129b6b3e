use Rattle.std.proofs.Common.{length, ap, ◌∙◌, arith}
use Rattle.pickle_types.specs.Built.{named_of}
use Rattle.pickle_types.specs.DeclaredTypes.{told_of, told_as}
use Rattle.pickle_types.proofs.DeclaredTypes.{named_inside, all_told, told_behind}
use Rattle.pickle_types.proofs.table.Table.declared_types.Goals as goal

pub tell-requires-clause-inside : goal.tell-requires-clause-inside
tell-requires-clause-inside c =
    let names = c.args.self.now.names in
    let same = ap length c.as_slice-list.ensures in
    rw c.deref-in-loop-place.ensures.value (named_inside c.args.self.now.nodes.items names c.loop-place.place
    c.index-list-place.result c.args.self.now.named (omega arith) (rw c.as_slice-list.ensures at c.index-list-place.is))

pub returns : goal.returns
returns c =
    let at = named_of c.args.self.now.nodes.items in
    let names = c.args.self.now.names in
    let same = ap length c.as_slice-list.ensures in
    all_told told_of (λ named. told_as (at named)) c.loop-place.told.items names c.loop-place.place _ (omega arith)
    c.loop-place.invariant
    ∙ told_behind told_as at 18 names
