use Rattle.value_store.proofs.Writing.{opened-writing}
use Rattle.value_store.proofs.store.Store.open_text.Goals as goal

pub returns-clause-writes : goal.returns-clause-writes
returns-clause-writes c = λ names start.
    opened-writing names c.args.self.now c.open_level.new.self start c.open_level.ensures.fresh
    c.open_level.ensures.sound (c.open_level.ensures.levels names)
