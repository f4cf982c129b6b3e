use Rattle.value_store.proofs.value.members.Members.row_type.Goals as goal

pub returns : goal.returns
returns c = c.row_type.ensures c.args.self.now.value.nodes.now
