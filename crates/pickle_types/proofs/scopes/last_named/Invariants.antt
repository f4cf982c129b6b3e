use Rattle.std.proofs.Common.{◌≡◌, ◌≤◌, take, List, length}
use Rattle.pickle_types.specs.declared.node.Node.{Node}
use Rattle.pickle_types.specs.Scopes.{resolve}
use Rattle.pickle_types.specs.Built.{views_of}
use Rattle.pickle_types.proofs.scopes.last_named.Given as goal

abbrev pub decreases-loop-left : goal.decreases-loop-left
decreases-loop-left l = l.left

abbrev pub invariant-loop-left : goal.invariant-loop-left
invariant-loop-left l = record {
  within : l.left ≤ length l.fields;
  rest : (nodes : List Node) →
      resolve l.word (views_of nodes (take l.left l.fields)) ≡ resolve l.word (views_of nodes l.fields);
}
