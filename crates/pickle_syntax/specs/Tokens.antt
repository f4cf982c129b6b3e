-- Tokens, without their places in memory.
use Rattle.std.specs.Prelude.{ℕ, List, map}
use Rattle.pickle_syntax.specs.declared.token.Word.{Word}
use Rattle.pickle_syntax.specs.declared.token.Opener.{Opener}
use Rattle.pickle_tree.specs.declared.tree.Attribute.{Attribute}
use Rattle.pickle_syntax.specs.declared.token.Sign.{Sign}
use Rattle.pickle_tree.specs.declared.tree.Number.{Number}
use Rattle.pickle_syntax.specs.declared.token.Kind.{Kind}
use Rattle.pickle_syntax.specs.declared.token.Kind.TheVariants as kind

-- a token without its place
pub data Token : Type 0 where
  Reserved : (word : Word) → Token
  Named : (name : List ℕ) → Token
  Opens : (opener : Opener) → Token
  Numeral : (number : Number) → Token
  Character : (byte : ℕ) → Token
  Text : (bytes : List ℕ) → Token
  AttributeOf : (attribute : Attribute) → Token
  Mark : (sign : Sign) → Token

-- the token of a lexer's kind
abbrev pub token_of : Kind → Token
token_of (kind.Word w) = Reserved w
token_of (kind.Name n) = Named n.now
token_of (kind.Opener o) = Opens o
token_of (kind.Number n) = Numeral n
token_of (kind.Character b) = Character b
token_of (kind.Text t) = Text t.value.items
token_of (kind.Attribute a) = AttributeOf a
token_of (kind.Sign s) = Mark s

abbrev pub tokens_of : List Kind → List Token
tokens_of = map token_of
