use Rattle.std.proofs.Common.{sym, ap}
use Rattle.pickle_meaning.specs.Means.{number_type, width_in}
use Rattle.pickle_map.proofs.Shapes.{opened_as, below_as}
use Rattle.pickle_map.proofs.mapper.number.width_at.Goals as goal

pub returns-in-Integer-clause-is : goal.returns-in-Integer-clause-is
returns-in-Integer-clause-is c = sym (ap (λ t. width_in (number_type t))
    (opened_as c.args.nodes.now c.requires.table c.args.at c.requires.at c.index-nodes-at.result _ c.in-Integer.is))

pub returns-in-Integer-clause-most : goal.returns-in-Integer-clause-most
returns-in-Integer-clause-most c =
    (below_as c.args.nodes.now c.requires.table c.args.at c.requires.at c.index-nodes-at.result _ c.in-Integer.is).most

pub returns-in-Offset-clause-is : goal.returns-in-Offset-clause-is
returns-in-Offset-clause-is c = sym (ap (λ t. width_in (number_type t))
    (opened_as c.args.nodes.now c.requires.table c.args.at c.requires.at c.index-nodes-at.result _ c.in-Offset.is))

pub returns-in-Offset-clause-most : goal.returns-in-Offset-clause-most
returns-in-Offset-clause-most c =
    (below_as c.args.nodes.now c.requires.table c.args.at c.requires.at c.index-nodes-at.result _ c.in-Offset.is).0.most

pub returns-in-Integral-clause-is : goal.returns-in-Integral-clause-is
returns-in-Integral-clause-is c = sym (ap (λ t. width_in (number_type t))
    (opened_as c.args.nodes.now c.requires.table c.args.at c.requires.at c.index-nodes-at.result _ c.in-Integral.is))

pub returns-in-Integral-clause-most : goal.returns-in-Integral-clause-most
returns-in-Integral-clause-most c = (below_as c.args.nodes.now c.requires.table c.args.at c.requires.at
    c.index-nodes-at.result _ c.in-Integral.is).0.most

pub returns-in-String-clause-is : goal.returns-in-String-clause-is
returns-in-String-clause-is c = sym (ap (λ t. width_in (number_type t))
    (opened_as c.args.nodes.now c.requires.table c.args.at c.requires.at c.index-nodes-at.result _ c.in-String.is))

pub returns-in-Array-clause-is : goal.returns-in-Array-clause-is
returns-in-Array-clause-is c = sym (ap (λ t. width_in (number_type t))
    (opened_as c.args.nodes.now c.requires.table c.args.at c.requires.at c.index-nodes-at.result _ c.in-Array.is))

pub returns-in-Struct-clause-is : goal.returns-in-Struct-clause-is
returns-in-Struct-clause-is c = sym (ap (λ t. width_in (number_type t))
    (opened_as c.args.nodes.now c.requires.table c.args.at c.requires.at c.index-nodes-at.result _ c.in-Struct.is))

pub returns-in-Union-clause-is : goal.returns-in-Union-clause-is
returns-in-Union-clause-is c = sym (ap (λ t. width_in (number_type t))
    (opened_as c.args.nodes.now c.requires.table c.args.at c.requires.at c.index-nodes-at.result _ c.in-Union.is))
