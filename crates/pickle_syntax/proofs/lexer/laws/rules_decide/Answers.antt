use Rattle.pickle_syntax.proofs.LexedLaws.{tokens_are, faults_are}
use Rattle.pickle_syntax.proofs.lexer.laws.rules_decide.Goals as goal

pub returns-clause-tokens : goal.returns-clause-tokens
returns-clause-tokens c = tokens_are

pub returns-clause-fault : goal.returns-clause-fault
returns-clause-fault c = faults_are
