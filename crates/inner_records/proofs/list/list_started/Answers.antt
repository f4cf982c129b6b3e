-- `list_started`: the run of the elements' type goes on in the list.
use Rattle.std.proofs.Common.{refl, ap, ℕ}
use Rattle.inner_records.specs.Stored.{listed_of}
use Rattle.pickle_types.specs.Table.{type_of}
use Rattle.pickle_types.specs.TypeTable.{nodes_of}
use Rattle.inner_records.proofs.Listing.{begins_at}
use Rattle.inner_records.proofs.Started.{writes_by}
use Rattle.inner_records.proofs.list.list_started.Goals as goal

pub returns-clause-writes : goal.returns-clause-writes
returns-clause-writes g c = λ first since.
    writes_by c.args.run.now _ (listed_of c.args.run.now c.args.started.list c.args.stored.now) c.args.started.left
    c.args.last c.args.resume c.args.listing first _ _ _ _ _ _
    (record {
      table = refl;
      type = ap (λ (node : ℕ). type_of (nodes_of c.args.run.now.table.now) node) c.in-Some.ensures.node;
      terms = refl;
      ask = refl;
    })
    (begins_at c.args.resume c.args.started.list.start c.args.started.left c.unwrap_or.result c.unwrap_or.ensures)
    (c.list_elements.ensures.writes first since)
