use Rattle.std.proofs.Common.{sym}
use Rattle.pickle_syntax.specs.Tokens.{tokens_of}
use Rattle.pickle_syntax.proofs.Telling.{tells}
use Rattle.pickle_syntax.proofs.Parsed.{is_found, is_refused, is_deep, is_many}
use Rattle.pickle_syntax.proofs.parser.parse.Goals as goal

pub returns-in-Ok-clause-found : goal.returns-in-Ok-clause-found
returns-in-Ok-clause-found c =
    rw (sym c.kinds-kinds.ensures) (is_found (tokens_of c.kinds-kinds.result.now) c.in-Ok.pickle c.in-Ok.ensures)

pub returns-in-Err-clause-refused : goal.returns-in-Err-clause-refused
returns-in-Err-clause-refused c = rw (c.fault_of.ensures, sym c.kinds-kinds.ensures)
    (is_refused (tokens_of c.kinds-kinds.result.now) c.in-Err.stop _ c.in-Err.ensures)

pub returns-in-Err-clause-deep : goal.returns-in-Err-clause-deep
returns-in-Err-clause-deep c = rw (c.fault_of.ensures, sym c.kinds-kinds.ensures)
    (is_deep c.kinds-kinds.result.now c.in-Err.stop _ c.in-Err.ensures)

pub returns-in-Err-clause-many : goal.returns-in-Err-clause-many
returns-in-Err-clause-many c = rw (c.fault_of.ensures, sym c.kinds-kinds.ensures)
    (is_many (tokens_of c.kinds-kinds.result.now) c.in-Err.stop _ c.in-Err.ensures)

pub returns-in-Err-clause-told : goal.returns-in-Err-clause-told
returns-in-Err-clause-told c =
    rw (c.fault_of.ensures, sym c.kinds-kinds.ensures) (tells c.in-Err.stop c.kinds-kinds.result.now c.in-Err.ensures)
