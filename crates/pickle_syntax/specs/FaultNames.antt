-- The names of the faults of tokens and of their grammar, as messages print them.
use Rattle.std.specs.Prelude.{ℕ, List, codes}
use Rattle.pickle_syntax.specs.declared.lexer.fault.LexFaultKind.{LexFaultKind}
use Rattle.pickle_syntax.specs.declared.lexer.fault.LexFaultKind.TheVariants as lex
use Rattle.pickle_syntax.specs.declared.parser.fault.ParseFault.{ParseFault}
use Rattle.pickle_syntax.specs.declared.parser.fault.ParseFault.TheVariants as parse

-- the name of a fault of tokens
abbrev pub lex_kind : LexFaultKind → List ℕ
lex_kind lex.BadByte = codes "BadByte"
lex_kind lex.Unclosed = codes "Unclosed"
lex_kind lex.BadNumber = codes "BadNumber"
lex_kind lex.TooLong = codes "TooLong"
lex_kind lex.Memory = codes "Memory"

-- the name of a fault of the grammar
abbrev pub parse_kind : ParseFault → List ℕ
parse_kind (parse.Syntax token) = codes "Syntax"
parse_kind parse.TooDeep = codes "TooDeep"
parse_kind parse.TooMany = codes "TooMany"
parse_kind parse.Memory = codes "Memory"
