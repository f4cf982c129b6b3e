-- Words, and the openers and attributes that have a fixed spelling.
use Rattle.std.specs.Prelude.{ℕ, if◌then◌else◌, ◌==◌, List, codes, Option, Some, None, option_map}
use Rattle.std.specs.List.{prefix_len, take_while, starts_with}
use Rattle.std.specs.Str.{bytes_eq}
use Rattle.pickle_syntax.specs.declared.lexer.bytes.Class.TheVariants as class
use Rattle.pickle_syntax.specs.declared.lexer.pieces.Piece.{Piece}
use Rattle.pickle_syntax.specs.declared.token.Word.{Word}
use Rattle.pickle_syntax.specs.declared.token.Word.TheVariants as word
use Rattle.pickle_syntax.specs.declared.token.Opener.{Opener}
use Rattle.pickle_syntax.specs.declared.token.Opener.TheVariants as opener
use Rattle.pickle_tree.specs.declared.tree.Attribute.{Attribute}
use Rattle.pickle_tree.specs.declared.tree.Attribute.TheVariants as attribute
use Rattle.pickle_syntax.specs.Tokens.{Token, Reserved, Named, Opens, token_of}
use Rattle.pickle_syntax.specs.Bytes.{is_in}

-- a token, or none for a blank or a comment; and the length
abbrev pub Cut : Type 0
Cut = Option Token × ℕ

-- the piece that the code cut
abbrev pub seen : Piece → Cut
seen p = (option_map token_of p.kind, p.len)

unfoldable pub reserved_word : List ℕ → Option Word
reserved_word w =
    if bytes_eq w (codes "type") then Some word.«Type»
    else if bytes_eq w (codes "struct") then Some word.Struct
    else if bytes_eq w (codes "union") then Some word.Union
    else if bytes_eq w (codes "pinned") then Some word.Pinned
    else if bytes_eq w (codes "big") then Some word.Big
    else if bytes_eq w (codes "little") then Some word.Little
    else if bytes_eq w (codes "if") then Some word.If
    else if bytes_eq w (codes "as") then Some word.As
    else if bytes_eq w (codes "string") then Some word.String
    else None

-- the opener at the front, and its length
unfoldable pub opener_at : List ℕ → Option (Opener × ℕ)
opener_at bytes =
    if starts_with ◌==◌ bytes (codes "int<") then Some (opener.Int, 4)
    else if starts_with ◌==◌ bytes (codes "uint<") then Some (opener.Uint, 5)
    else if starts_with ◌==◌ bytes (codes "offset<") then Some (opener.Offset, 7)
    else None

-- the attribute after an apostrophe, and the length of its name
unfoldable pub attribute_at : List ℕ → Option (Attribute × ℕ)
attribute_at bytes =
    if starts_with ◌==◌ bytes (codes "length") then Some (attribute.Length, 6)
    else if starts_with ◌==◌ bytes (codes "size") then Some (attribute.Size, 4)
    else None

abbrev pub word_token : Option Word → List ℕ → Token
word_token (Some r) w = Reserved r
word_token None w = Named w

abbrev pub opened_or : Option (Opener × ℕ) → List ℕ → Cut
opened_or (Some o) bytes = (Some (Opens o.0), o.1)
opened_or None bytes =
    let w = take_while (is_in class.Word) bytes in
    (Some (word_token (reserved_word w) w), prefix_len (is_in class.Word) bytes)

-- the opener at the front, or the longest word there
unfoldable pub word_piece : List ℕ → Cut
word_piece bytes = opened_or (opener_at bytes) bytes
