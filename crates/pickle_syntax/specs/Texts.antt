-- Texts in quotes, characters and attributes.
use Rattle.std.specs.Prelude.{◌≤◌, ℕ, zero, suc, ◌+◌, ◌*◌, ◌-◌, ◌&&◌, ◌||◌, if◌then◌else◌, ◌==◌, nat_lt, nat_le, List, [], ◌∷◌, slice_index, Option, Some, None, Result, Ok, Err}
use Rattle.pickle_syntax.specs.Bytes.{digit_of, Fault}
use Rattle.pickle_syntax.specs.Words.{Cut, attribute_at}
use Rattle.pickle_syntax.specs.Tokens.{Token, AttributeOf}
use Rattle.pickle_syntax.specs.Tokens as token
use Rattle.pickle_syntax.specs.declared.lexer.fault.LexFaultKind.TheVariants.{BadByte, Unclosed}
use Rattle.pickle_syntax.specs.declared.lexer.texts.Part.{Part}
use Rattle.pickle_syntax.specs.declared.lexer.texts.Part.TheVariants.{Closes, Byte, Bad, Breaks}
use Rattle.pickle_tree.specs.declared.tree.Attribute.{Attribute}

-- the byte that two hexadecimal digits are
abbrev pub hex_pair : List ℕ → Part
hex_pair [] = Bad
hex_pair (h ∷ []) = Bad
hex_pair (h ∷ l ∷ rest) =
    if nat_lt (digit_of h) 16 && nat_lt (digit_of l) 16 then Byte (digit_of h * 16 + digit_of l) 4 else Bad

-- the escape after a backslash: the byte that it means, and its length with the backslash
abbrev pub escape : List ℕ → Part
escape [] = Bad
escape (c ∷ rest) =
    if c == 92 || c == 39 || c == 34 then Byte c 2
    else if c == 110 then Byte 10 2
    else if c == 116 then Byte 9 2
    else if c == 120 then hex_pair rest
    else Bad

-- the part at a place between two quotes
unfoldable pub part_at : ℕ → List ℕ → Part
part_at quote [] = Breaks
part_at quote (b ∷ rest) =
    if b == quote then Closes
    else if b == 10 then Breaks
    else if b == 92 then escape rest
    else if nat_le 32 b && nat_le b 126 then Byte b 1
    else Bad

-- the bytes of a text, and the place after its closing quote
abbrev pub Read : Type 0
Read = List ℕ × ℕ

abbrev pub with_byte : ℕ → Result Read Fault → Result Read Fault
with_byte b (Ok x) = Ok (b ∷ x.0, x.1)
with_byte b (Err f) = Err f

abbrev pub text_part : ℕ → ℕ → Part → (ℕ → Result Read Fault) → Result Read Fault
text_part quote at Closes more = Ok ([], at + 1)
text_part quote at (Byte b n) more = with_byte b (more (n - 1))
text_part quote at Bad more = Err (BadByte, at)
text_part quote at Breaks more = Err (Unclosed, quote)

-- The bytes of a text and the place after its closing quote. `at` is the place of the first byte, `quote` that of the
-- opening quote, and the first `left` bytes belong to a part that was read already.
unfoldable pub text_from : ℕ → ℕ → ℕ → List ℕ → Result Read Fault
text_from quote left at [] = Err (Unclosed, quote)
text_from quote (suc left) at (b ∷ rest) = text_from quote left (at + 1) rest
text_from quote zero at (b ∷ rest) =
    text_part quote at (part_at 34 (b ∷ rest)) (λ left. text_from quote left (at + 1) rest)

-- a part is within the k bytes that are left
abbrev pub FitsPart : Part → ℕ → Type 0
FitsPart (Byte b n) k = (1 ≤ n) × (n ≤ k)
FitsPart Closes k = 1 ≤ k
FitsPart Bad k = Unit {0}
FitsPart Breaks k = Unit {0}

-- the byte of a character and its length, if the closing apostrophe comes next
abbrev pub character_of : Part → List ℕ → Option (ℕ × ℕ)
character_of (Byte b n) bytes = if slice_index bytes n == 39 then Some (b, n + 1) else None
character_of Closes bytes = None
character_of Bad bytes = None
character_of Breaks bytes = None

abbrev pub apostrophe_cut : ℕ → Option (ℕ × ℕ) → Option (Attribute × ℕ) → Result Cut Fault
apostrophe_cut at (Some c) attribute = Ok (Some (token.Character c.0), 1 + c.1)
apostrophe_cut at None (Some a) = Ok (Some (AttributeOf a.0), 1 + a.1)
apostrophe_cut at None None = Err (BadByte, at)

-- the character or the attribute that begins with an apostrophe at `at`
unfoldable pub apostrophe_piece : ℕ → List ℕ → Result Cut Fault
apostrophe_piece at rest = apostrophe_cut at (character_of (part_at 39 rest) rest) (attribute_at rest)
