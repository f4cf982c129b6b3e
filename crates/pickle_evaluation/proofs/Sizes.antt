-- The number of nodes of an expression.
use Rattle.std.proofs.Common.{ℕ, ◌+◌}
use Rattle.pickle_types.specs.Types.{Term, Number, Text, Name, Bracket, Before, Between, Choice, Index, Select, AttributeOf, ToInteger, ToOffset, InUnit}

abbrev pub term_size : Term → ℕ
term_size (Number type value) = 1
term_size (Text bytes) = 1
term_size (Name level place) = 1
term_size (Bracket e) = 1 + term_size e
term_size (Before op e) = 1 + term_size e
term_size (Between op a b) = 1 + (term_size a + term_size b)
term_size (Choice common c x y) = 1 + (term_size c + (term_size x + term_size y))
term_size (Index e i) = 1 + (term_size e + term_size i)
term_size (Select e place) = 1 + term_size e
term_size (AttributeOf attribute e) = 1 + term_size e
term_size (ToInteger type e) = 1 + term_size e
term_size (ToOffset type unit e) = 1 + term_size e
term_size (InUnit unit e) = 1 + term_size e
