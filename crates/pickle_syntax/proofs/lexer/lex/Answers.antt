use Rattle.pickle_syntax.proofs.LexedLaws.{tokens_lexed, spans_ordered, fault_told, memory_at}
use Rattle.pickle_syntax.proofs.lexer.lex.Goals as goal

pub returns-clause-tokens : goal.returns-clause-tokens
returns-clause-tokens c = tokens_lexed _ _ c.tokenize.ensures

pub returns-clause-order : goal.returns-clause-order
returns-clause-order c = spans_ordered _ _ c.tokenize.ensures

pub returns-clause-fault : goal.returns-clause-fault
returns-clause-fault c = fault_told _ _ c.tokenize.ensures

pub returns-clause-memory : goal.returns-clause-memory
returns-clause-memory c = memory_at _ _ c.tokenize.ensures
