-- The rules of the tokens: which bytes are a blank, a comment or a token, and how a pickle is cut into them.
use Rattle.std.specs.Prelude.{◌≡◌, ◌≢◌, ◌≤◌, ◌<◌, ℕ, ◌+◌, ◌*◌, Bool, true, false, if◌then◌else◌, ◌⊎◌, List, [], ◌∷◌, ◌++◌, length, codes, Option, Some, None}
use Rattle.pickle_syntax.specs.declared.lexer.bytes.Class.{Class}
use Rattle.pickle_syntax.specs.declared.lexer.bytes.Class.TheVariants as class
use Rattle.pickle_syntax.specs.declared.lexer.fault.LexFaultKind.TheVariants.{BadByte, Unclosed, BadNumber, TooLong}
use Rattle.pickle_syntax.specs.declared.token.Word.{Word}
use Rattle.pickle_syntax.specs.declared.token.Word.TheVariants as word
use Rattle.pickle_syntax.specs.declared.token.Opener.{Opener}
use Rattle.pickle_syntax.specs.declared.token.Opener.TheVariants as opener
use Rattle.pickle_tree.specs.declared.tree.Attribute.{Attribute}
use Rattle.pickle_tree.specs.declared.tree.Attribute.TheVariants as attribute
use Rattle.pickle_syntax.specs.declared.token.Sign.{Sign}
use Rattle.pickle_syntax.specs.declared.token.Sign.TheVariants as sign
use Rattle.pickle_tree.specs.declared.tree.Number.{Number}
use Rattle.pickle_syntax.specs.Tokens.{Token, Reserved, Named, Opens, Numeral, Mark}
use Rattle.pickle_syntax.specs.Tokens as token
use Rattle.pickle_syntax.specs.Bytes.{digit_of, is_in, Fault}
use Rattle.pickle_syntax.specs.Numbers.{value_after, width_of, is_sign, has_value}
use Rattle.pickle_syntax.specs.Lexing.{Span, token_list, span_list}

-- each byte is of the class
abbrev pub AllIn : Class → List ℕ → Type 0
AllIn c [] = Unit {0}
AllIn c (b ∷ bytes) = (is_in c b ≡ true) × AllIn c bytes

-- whether the first byte is of the class
abbrev pub begins : Class → List ℕ → Bool
begins c [] = false
begins c (b ∷ bytes) = is_in c b

-- a space, a tab, a line feed, a form feed or a carriage return
abbrev pub IsBlank : List ℕ → Type 0
IsBlank bytes = (b : ℕ) × (bytes ≡ b ∷ []) × (is_in class.Blank b ≡ true)

-- `//` and the bytes after it on its line
abbrev pub IsLineComment : List ℕ → Type 0
IsLineComment bytes = (line : List ℕ) × (bytes ≡ codes "//" ++ line) × AllIn class.Line line

-- `/*` and the bytes after it up to the first `*/`
abbrev pub IsBlockComment : List ℕ → Type 0
IsBlockComment bytes = (inner : List ℕ) × (bytes ≡ codes "/*" ++ inner ++ codes "*/")
    × ((before after : List ℕ) → inner ++ codes "*/" ≡ before ++ codes "*/" ++ after → after ≡ [])

-- a letter or `_`, and then letters, digits and `_`
abbrev pub IsWord : List ℕ → Type 0
IsWord bytes = (b : ℕ) × (more : List ℕ) × (bytes ≡ b ∷ more) × (is_in class.Letter b ≡ true) × AllIn class.Word more

abbrev pub word_spelling : Word → List ℕ
word_spelling word.«Type» = codes "type"
word_spelling word.Struct = codes "struct"
word_spelling word.Union = codes "union"
word_spelling word.Pinned = codes "pinned"
word_spelling word.Big = codes "big"
word_spelling word.Little = codes "little"
word_spelling word.If = codes "if"
word_spelling word.As = codes "as"
word_spelling word.String = codes "string"

abbrev pub opener_spelling : Opener → List ℕ
opener_spelling opener.Int = codes "int<"
opener_spelling opener.Uint = codes "uint<"
opener_spelling opener.Offset = codes "offset<"

abbrev pub attribute_spelling : Attribute → List ℕ
attribute_spelling attribute.Length = codes "'length"
attribute_spelling attribute.Size = codes "'size"

abbrev pub sign_spelling : Sign → List ℕ
sign_spelling sign.OpenBrace = codes "{"
sign_spelling sign.CloseBrace = codes "}"
sign_spelling sign.OpenParen = codes "("
sign_spelling sign.CloseParen = codes ")"
sign_spelling sign.OpenBracket = codes "["
sign_spelling sign.CloseBracket = codes "]"
sign_spelling sign.Semicolon = codes ";"
sign_spelling sign.Comma = codes ","
sign_spelling sign.Dot = codes "."
sign_spelling sign.Colon = codes ":"
sign_spelling sign.Question = codes "?"
sign_spelling sign.At = codes "@"
sign_spelling sign.Hash = codes "#"
sign_spelling sign.Assign = codes "="
sign_spelling sign.Plus = codes "+"
sign_spelling sign.Minus = codes "-"
sign_spelling sign.Star = codes "*"
sign_spelling sign.Slash = codes "/"
sign_spelling sign.Percent = codes "%"
sign_spelling sign.Tilde = codes "~"
sign_spelling sign.Bang = codes "!"
sign_spelling sign.And = codes "&"
sign_spelling sign.Or = codes "|"
sign_spelling sign.Caret = codes "^"
sign_spelling sign.Less = codes "<"
sign_spelling sign.Greater = codes ">"
sign_spelling sign.EqualEqual = codes "=="
sign_spelling sign.BangEqual = codes "!="
sign_spelling sign.LessEqual = codes "<="
sign_spelling sign.GreaterEqual = codes ">="
sign_spelling sign.ShiftLeft = codes "<<"
sign_spelling sign.ShiftRight = codes ">>"
sign_spelling sign.AndAnd = codes "&&"
sign_spelling sign.OrOr = codes "||"

-- the suffix of a number: nothing, a sign letter, a width letter, or one of each in either order
pub data Suffix : Type 0 where
  NoSuffix : Suffix
  SignLetter : (u : ℕ) → Suffix
  WidthLetter : (w : ℕ) → Suffix
  SignAndWidth : (u w : ℕ) → Suffix
  WidthAndSign : (w u : ℕ) → Suffix

abbrev pub suffix_bytes : Suffix → List ℕ
suffix_bytes NoSuffix = []
suffix_bytes (SignLetter u) = u ∷ []
suffix_bytes (WidthLetter w) = w ∷ []
suffix_bytes (SignAndWidth u w) = u ∷ w ∷ []
suffix_bytes (WidthAndSign w u) = w ∷ u ∷ []

-- `U` or `u`
abbrev pub IsSignLetter : ℕ → Type 0
IsSignLetter u = is_sign u ≡ true

-- a letter of a width: `B` of 8 bits, `H` of 16, `L` of 64, `N` of 4
abbrev pub IsWidthLetter : ℕ → Type 0
IsWidthLetter w = 0 < width_of w

abbrev pub IsSuffix : Suffix → Type 0
IsSuffix NoSuffix = Unit {0}
IsSuffix (SignLetter u) = IsSignLetter u
IsSuffix (WidthLetter w) = IsWidthLetter w
IsSuffix (SignAndWidth u w) = IsSignLetter u × IsWidthLetter w
IsSuffix (WidthAndSign w u) = IsWidthLetter w × IsSignLetter u

abbrev pub suffix_signed : Suffix → Bool
suffix_signed NoSuffix = true
suffix_signed (SignLetter u) = false
suffix_signed (WidthLetter w) = true
suffix_signed (SignAndWidth u w) = false
suffix_signed (WidthAndSign w u) = false

-- the width that a suffix names
abbrev pub suffix_width : Suffix → Option ℕ
suffix_width NoSuffix = None
suffix_width (SignLetter u) = None
suffix_width (WidthLetter w) = Some (width_of w)
suffix_width (SignAndWidth u w) = Some (width_of w)
suffix_width (WidthAndSign w u) = Some (width_of w)

-- without a width in its suffix a number has 32 bits if they hold it, otherwise 64
abbrev pub width_for : Option ℕ → Bool → ℕ → ℕ
width_for (Some width) signed value = width
width_for None signed value = if has_value signed 32 value then 32 else 64

-- the prefix of a base: none for decimal, or `0` and a letter in either case
pub data IsPrefix (base : ℕ) (bytes : List ℕ) : Type 0 where
  Decimal : base ≡ 10 → bytes ≡ [] → IsPrefix base bytes
  Hexadecimal : base ≡ 16 → (bytes ≡ codes "0x") ⊎ (bytes ≡ codes "0X") → IsPrefix base bytes
  Octal : base ≡ 8 → (bytes ≡ codes "0o") ⊎ (bytes ≡ codes "0O") → IsPrefix base bytes
  Binary : base ≡ 2 → (bytes ≡ codes "0b") ⊎ (bytes ≡ codes "0B") → IsPrefix base bytes

-- A number: a prefix, a digit of its base, then digits and `_`, and a suffix. A letter that is a digit of the base
-- is a digit, so the suffix doesn't begin with one. The type that the suffix names holds the value.
pub record IsNumber (n : Number) (bytes : List ℕ) : Type 0 where
  pub base : ℕ
  pub prefix : List ℕ
  pub first : ℕ
  pub digits : List ℕ
  pub suffix : Suffix
  pub written : bytes ≡ prefix ++ first ∷ digits ++ suffix_bytes suffix
  pub prefixed : IsPrefix base prefix
  pub digit : digit_of first < base
  pub more : AllIn (class.Digit base) digits
  pub ends : begins (class.Digit base) (suffix_bytes suffix) ≡ false
  pub suffixed : IsSuffix suffix
  pub value : n.value ≡ value_after base 0 (first ∷ digits)
  pub signed : n.signed ≡ suffix_signed suffix
  pub width : n.width ≡ width_for (suffix_width suffix) n.signed n.value
  pub held : has_value n.signed n.width n.value ≡ true

-- an escape, and the byte that it means
pub data IsEscape (value : ℕ) (bytes : List ℕ) : Type 0 where
  Itself : (value ≡ 92) ⊎ ((value ≡ 39) ⊎ (value ≡ 34)) → bytes ≡ 92 ∷ value ∷ [] → IsEscape value bytes
  LineFeed : value ≡ 10 → bytes ≡ codes "\\n" → IsEscape value bytes
  Tab : value ≡ 9 → bytes ≡ codes "\\t" → IsEscape value bytes
  HexadecimalByte : (high low : ℕ) → digit_of high < 16 → digit_of low < 16 →
      value ≡ digit_of high * 16 + digit_of low → bytes ≡ 92 ∷ 120 ∷ high ∷ low ∷ [] → IsEscape value bytes

-- a byte between two quotes: a plain one, or an escape
pub data IsPart (quote value : ℕ) (bytes : List ℕ) : Type 0 where
  Plain : 32 ≤ value → value ≤ 126 → value ≢ 92 → value ≢ quote → bytes ≡ value ∷ [] → IsPart quote value bytes
  Escaped : IsEscape value bytes → IsPart quote value bytes

-- the bytes of a text, one part after the other
abbrev pub AreParts : List ℕ → List ℕ → Type 0
AreParts [] bytes = bytes ≡ []
AreParts (v ∷ values) bytes =
    (part : List ℕ) × (rest : List ℕ) × (bytes ≡ part ++ rest) × IsPart 34 v part × AreParts values rest

abbrev pub IsCharacter : ℕ → List ℕ → Type 0
IsCharacter value bytes = (part : List ℕ) × (bytes ≡ 39 ∷ part ++ 39 ∷ []) × IsPart 39 value part

abbrev pub IsText : List ℕ → List ℕ → Type 0
IsText values bytes = (parts : List ℕ) × (bytes ≡ 34 ∷ parts ++ 34 ∷ []) × AreParts values parts

-- the bytes are the token
abbrev pub Spells : Token → List ℕ → Type 0
Spells (Reserved w) bytes = bytes ≡ word_spelling w
Spells (Named n) bytes = (n ≡ bytes) × IsWord bytes × ((w : Word) → bytes ≢ word_spelling w)
Spells (Opens o) bytes = bytes ≡ opener_spelling o
Spells (Numeral n) bytes = IsNumber n bytes
Spells (token.Character b) bytes = IsCharacter b bytes
Spells (token.Text values) bytes = IsText values bytes
Spells (token.AttributeOf a) bytes = bytes ≡ attribute_spelling a
Spells (Mark s) bytes = bytes ≡ sign_spelling s

-- a number isn't followed directly by a letter, a digit or `_`, nor a `/` by a `*`: `/*` always begins a comment
abbrev pub MayPrecede : Token → List ℕ → Type 0
MayPrecede (Numeral n) rest = begins class.Word rest ≡ false
MayPrecede (Mark sign.Slash) rest = (more : List ℕ) → rest ≢ 42 ∷ more
MayPrecede _ rest = Unit {0}

-- the bytes are a blank or a comment, or the token; and they may be before the rest
abbrev pub IsPiece : Option Token → List ℕ → List ℕ → Type 0
IsPiece None bytes rest = IsBlank bytes ⊎ (IsLineComment bytes ⊎ IsBlockComment bytes)
IsPiece (Some t) bytes rest = Spells t bytes × MayPrecede t rest

-- the longest piece at the front: no piece there is longer, and no other is as long
pub record IsLongest (piece : Option Token) (bytes rest : List ℕ) : Type 0 where
  pub is : IsPiece piece bytes rest
  pub longest : (other : Option Token) (front after : List ℕ) → front ++ after ≡ bytes ++ rest →
      IsPiece other front after → length front ≤ length bytes
  pub only : (other : Option Token) → IsPiece other bytes rest → other ≡ piece

-- no front of the bytes is a piece
abbrev pub HasNoPiece : List ℕ → Type 0
HasNoPiece bytes = (piece : Option Token) (front after : List ℕ) → front ++ after ≡ bytes →
    IsPiece piece front after → ⊥

-- Read on from the opening quote: the next thing after the last part is a line feed, the end of the pickle, or a byte
-- that begins no part, such as a backslash that begins no whole escape.
abbrev pub EndsBadly : ℕ → ℕ → List ℕ → Fault → Type 0
EndsBadly quote at [] fault = fault ≡ (Unclosed, quote)
EndsBadly quote at (b ∷ rest) fault =
    ((b ≡ 10) × (fault ≡ (Unclosed, quote)))
    ⊎ ((b ≢ 10) × (b ≢ 34) × (fault ≡ (BadByte, at))
    × ((value : ℕ) (front after : List ℕ) → front ++ after ≡ b ∷ rest → IsPart 34 value front → ⊥))

-- the fault of bytes that begin with no piece; their place is `at`
pub data IsFaultAt (at : ℕ) (bytes : List ℕ) (fault : Fault) : Type 0 where
  InNumber : (b : ℕ) (rest : List ℕ) → bytes ≡ b ∷ rest → digit_of b < 10 → fault ≡ (BadNumber, at) →
      IsFaultAt at bytes fault
  InComment : (rest : List ℕ) → bytes ≡ codes "/*" ++ rest → fault ≡ (Unclosed, at) → IsFaultAt at bytes fault
  InText : (values parts rest : List ℕ) → bytes ≡ 34 ∷ parts ++ rest → AreParts values parts →
      EndsBadly at (at + 1 + length parts) rest fault → IsFaultAt at bytes fault
  Elsewhere : (b : ℕ) (rest : List ℕ) → bytes ≡ b ∷ rest → 10 ≤ digit_of b → b ≢ 34 →
      ((more : List ℕ) → bytes ≢ codes "/*" ++ more) → fault ≡ (BadByte, at) → IsFaultAt at bytes fault

-- a piece with its bytes
pub record Piece : Type 0 where
  pub token : Option Token
  pub bytes : List ℕ

-- the pieces follow one another from the front, each the longest at its place, and leave the rest
abbrev pub pieces : List Piece → List ℕ → List ℕ → Type 0
pieces [] bytes rest = bytes ≡ rest
pieces (p ∷ ps) bytes rest =
    (after : List ℕ) × (bytes ≡ p.bytes ++ after) × IsLongest p.token p.bytes after × pieces ps after rest

abbrev pub tokens_in : List Piece → List Token
tokens_in [] = []
tokens_in (p ∷ ps) = token_list p.token ++ tokens_in ps

-- the spans of the tokens; the place of the first piece is `at`
abbrev pub spans_in : ℕ → List Piece → List Span
spans_in at [] = []
spans_in at (p ∷ ps) = span_list p.token at (length p.bytes) ++ spans_in (at + length p.bytes) ps

-- the place after the pieces
abbrev pub place_after : ℕ → List Piece → ℕ
place_after at [] = at
place_after at (p ∷ ps) = place_after (at + length p.bytes) ps

-- these are all tokens of the bytes, and their spans
abbrev pub AreTokens : ℕ → List ℕ → List Token × List Span → Type 0
AreTokens at bytes x = (ps : List Piece) × pieces ps bytes [] × (x.0 ≡ tokens_in ps) × (x.1 ≡ spans_in at ps)

-- the fault is the first one of the bytes
abbrev pub IsFirstFault : ℕ → List ℕ → Fault → Type 0
IsFirstFault at bytes fault = (ps : List Piece) × (rest : List ℕ) × pieces ps bytes rest × HasNoPiece rest
    × IsFaultAt (place_after at ps) rest fault

-- the tokens of a pickle, which has no fault
abbrev pub IsLexed : List ℕ → List Token × List Span → Type 0
IsLexed bytes x = (length bytes ≤ 1048576) × AreTokens 0 bytes x

-- the fault of a pickle: it is too long, or has the fault of the first place without a piece
abbrev pub IsLexFault : List ℕ → Fault → Type 0
IsLexFault bytes fault =
    ((1048576 < length bytes) × (fault ≡ (TooLong, 1048576))) ⊎ ((length bytes ≤ 1048576) × IsFirstFault 0 bytes fault)
