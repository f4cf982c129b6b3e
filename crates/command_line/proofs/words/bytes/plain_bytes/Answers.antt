use Rattle.command_line.proofs.words.bytes.plain_bytes.Goals as goal

pub returns-in-None-clause-refused : goal.returns-in-None-clause-refused
returns-in-None-clause-refused c = rw c.as_bytes.ensures.value at c.in-None.ensures.none
