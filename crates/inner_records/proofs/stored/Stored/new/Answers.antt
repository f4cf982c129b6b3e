-- `Stored::new`: the store was made under the run's terms.
use Rattle.inner_records.proofs.Made.{made_under}
use Rattle.pickle_types.specs.TypeTable.{nodes_of}
use Rattle.inner_records.proofs.stored.Stored.new.Goals as goal

pub returns : goal.returns
returns c = record {
  store = made_under c.args.run.now.terms.now.most_slots c.args.run.now.terms.now.most_bytes _
      c.in_ok-store_under.ensures;
  kept = c.new.ensures (nodes_of c.args.run.now.table.now);
}
