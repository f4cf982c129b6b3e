use Rattle.bit_space.proofs.number.read_number.Goals as goal

pub returns-then-width-eq8-clause-ok : goal.returns-then-width-eq8-clause-ok
returns-then-width-eq8-clause-ok g c = rw c.if-width-eq8.true (c.in_ok-read_byte.ensures.ok c.args.order)
