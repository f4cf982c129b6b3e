-- The result of the lexer.
use Rattle.std.specs.Prelude.{◌≤◌, ◌<◌, ℕ, zero, suc, ◌+◌, ◌-◌, if◌then◌else◌, nat_lt, List, [], ◌∷◌, ◌++◌, length, Option, Some, None, Result, Ok, Err}
use Rattle.pickle_syntax.specs.declared.lexer.bytes.Start.{Start}
use Rattle.pickle_syntax.specs.declared.lexer.bytes.Start.TheVariants as start
use Rattle.pickle_syntax.specs.declared.lexer.fault.LexFaultKind.TheVariants.{BadByte, TooLong}
use Rattle.pickle_syntax.specs.Tokens.{Token, Numeral}
use Rattle.pickle_syntax.specs.Tokens as token
use Rattle.pickle_syntax.specs.Bytes.{Fault, ◌>>=◌, starts}
use Rattle.pickle_syntax.specs.Words.{Cut, word_piece}
use Rattle.pickle_syntax.specs.Signs.{sign_piece}
use Rattle.pickle_syntax.specs.Blanks.{slash_piece}
use Rattle.pickle_syntax.specs.Texts.{text_from, apostrophe_piece}
use Rattle.pickle_syntax.specs.Numbers.{number_at}

-- the piece that begins with a byte, by the class of the byte
abbrev pub piece_from : Start → ℕ → ℕ → List ℕ → Result Cut Fault
piece_from start.Blank at b rest = Ok (None, 1)
piece_from start.Word at b rest = Ok (word_piece (b ∷ rest))
piece_from start.Number at b rest = number_at at (b ∷ rest) >>= λ n. Ok (Some (Numeral n.0), n.1)
piece_from start.Text at b rest = text_from at 0 (at + 1) rest >>= λ t. Ok (Some (token.Text t.0), t.1 - at)
piece_from start.Apostrophe at b rest = apostrophe_piece at rest
piece_from start.Slash at b rest = slash_piece at rest
piece_from start.Sign at b rest = sign_piece at b rest

-- The piece at the front, whose place is `at`; or the fault there.
unfoldable pub piece_at : ℕ → List ℕ → Result Cut Fault
piece_at at [] = Err (BadByte, at)
piece_at at (b ∷ rest) = piece_from (starts b) at b rest

-- the place of a token's first byte, and the place after its last
abbrev pub Span : Type 0
Span = ℕ × ℕ

-- the tokens, and for each its span
abbrev pub Lexed : Type 0
Lexed = Result (List Token × List Span) Fault

-- the token of a piece, and its span
abbrev pub token_list : Option Token → List Token
token_list None = []
token_list (Some t) = t ∷ []

abbrev pub span_list : Option Token → ℕ → ℕ → List Span
span_list None at len = []
span_list (Some t) at len = (at, at + len) ∷ []

abbrev pub with_piece : ℕ → Cut → Lexed → Lexed
with_piece at p (Err f) = Err f
with_piece at p (Ok x) = Ok (token_list p.0 ++ x.0, span_list p.0 at p.1 ++ x.1)

-- The tokens of the bytes from `at` on. The first `left` bytes belong to a piece that was read already.
unfoldable pub lexed_from : ℕ → ℕ → List ℕ → Lexed
lexed_from left at [] = Ok ([], [])
lexed_from (suc left) at (b ∷ rest) = lexed_from left (at + 1) rest
lexed_from zero at (b ∷ rest) = piece_at at (b ∷ rest) >>= λ p. with_piece at p (lexed_from (p.1 - 1) (at + 1) rest)

-- the tokens of a pickle, or its first fault
unfoldable pub lexed : List ℕ → Lexed
lexed bytes = if nat_lt 1048576 (length bytes) then Err (TooLong, 1048576) else lexed_from 0 0 bytes

-- each span begins where the one before it ended, or later, and has at least one byte
abbrev pub InOrder : ℕ → List Span → Type 0
InOrder from [] = Unit {0}
InOrder from (s ∷ spans) = (from ≤ s.0) × (s.0 < s.1) × InOrder s.1 spans
