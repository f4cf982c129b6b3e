use Rattle.std.proofs.Common.{refl, arith}
use Rattle.pickle_types.specs.declared.node.Node.{Node}
use Rattle.pickle_types.specs.Built.{types_in}
use Rattle.pickle_types.proofs.Buildings.{pushed, table_after, named_after}
use Rattle.pickle_types.proofs.check.builder.Builder.push.Goals as goal

pub invariant_of-self-clause-table : goal.invariant_of-self-clause-table
invariant_of-self-clause-table c =
    let b = c.args.self.now in
    let node : Node = record { shape = c.args.shape; slot = c.args.slot } in
    let low = c.requires.low in
    let depth = c.requires.depth in
    table_after b.nodes b.table c.push.new.self node c.push.result c.push.ensures.ok c.push.ensures.err c.requires.below
    c.requires.sound (omega arith) (omega arith)

pub invariant_of-self-clause-named : goal.invariant_of-self-clause-named
invariant_of-self-clause-named c =
    let b = c.args.self.now in
    let node : Node = record { shape = c.args.shape; slot = c.args.slot } in
    named_after b.nodes b.table c.push.new.self node (types_in b.names) c.push.result
    c.push.ensures.ok c.push.ensures.err
    b.named

pub returns-clause-builds : goal.returns-clause-builds
returns-clause-builds c = (
  _,
  refl,
  pushed c.args.self.now _ (record { shape = c.args.shape; slot = c.args.slot }) c.requires.below
      c.in_ok-push.ensures.ok refl refl c.args.depth _ c.requires.depth (omega arith),
)

pub returns-clause-node : goal.returns-clause-node
returns-clause-node c = record {
  place = c.len-node.ensures;
  node = record { shape = c.args.shape; slot = c.args.slot };
  shaped = refl;
  is = c.in_ok-push.ensures.ok;
}
