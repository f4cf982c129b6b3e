use Rattle.value_store.proofs.value.members.Members.byte_row.Goals as goal

pub returns : goal.returns
returns c = c.byte_row.ensures c.args.self.now.value.nodes.now
