-- Comments.
use Rattle.std.specs.Prelude.{ℕ, suc, ◌+◌, Bool, ◌&&◌, if◌then◌else◌, ◌==◌, List, [], ◌∷◌, drop, slice_index, Option, Some, None, option_map, Result, Ok, Err}
use Rattle.std.specs.List.{prefix_len}
use Rattle.pickle_syntax.specs.declared.lexer.bytes.Class.TheVariants as class
use Rattle.pickle_syntax.specs.declared.lexer.fault.LexFaultKind.TheVariants.{Unclosed}
use Rattle.pickle_syntax.specs.Bytes.{is_in, Fault}
use Rattle.pickle_syntax.specs.Words.{Cut}
use Rattle.pickle_syntax.specs.Signs.{sign_piece}

-- whether `*/` is at a place
abbrev pub ends_block : List ℕ → ℕ → Bool
ends_block bytes at = slice_index bytes at == 42 && slice_index bytes (at + 1) == 47

-- the number of bytes up to the first `*/`, with it
unfoldable pub block_len : List ℕ → Option ℕ
block_len [] = None
block_len (b ∷ rest) = if ends_block (b ∷ rest) 0 then Some 2 else option_map suc (block_len rest)

abbrev pub block_piece : ℕ → Option ℕ → Result Cut Fault
block_piece at None = Err (Unclosed, at)
block_piece at (Some len) = Ok (None, 2 + len)

-- the piece that a slash begins: a comment to the line's end, one to its first `*/`, or the sign
unfoldable pub slash_piece : ℕ → List ℕ → Result Cut Fault
slash_piece at rest =
    if slice_index rest 0 == 47 then Ok (None, 2 + prefix_len (is_in class.Line) (drop 1 rest))
    else if slice_index rest 0 == 42 then block_piece at (block_len (drop 1 rest))
    else sign_piece at 47 rest
