use Rattle.pickle_syntax.proofs.LexedLaws.{pieces_are, none_are}
use Rattle.pickle_syntax.proofs.lexer.laws.cuts_the_longest.Goals as goal

pub returns-clause-piece : goal.returns-clause-piece
returns-clause-piece c = pieces_are

pub returns-clause-fault : goal.returns-clause-fault
returns-clause-fault c = none_are
