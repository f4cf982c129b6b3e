-- Signs.
use Rattle.std.specs.Prelude.{ℕ, ◌&&◌, if◌then◌else◌, ◌==◌, List, slice_index, Option, Some, None, Result, Ok, Err}
use Rattle.pickle_syntax.specs.declared.lexer.fault.LexFaultKind.TheVariants.{BadByte}
use Rattle.pickle_syntax.specs.declared.token.Sign.{Sign}
use Rattle.pickle_syntax.specs.declared.token.Sign.TheVariants as sign
use Rattle.pickle_syntax.specs.Tokens.{Mark}
use Rattle.pickle_syntax.specs.Bytes.{Fault}
use Rattle.pickle_syntax.specs.Words.{Cut}

-- the sign of two bytes
unfoldable pub double_sign : ℕ → ℕ → Option Sign
double_sign b next =
    if b == 61 && next == 61 then Some sign.EqualEqual
    else if b == 33 && next == 61 then Some sign.BangEqual
    else if b == 60 && next == 61 then Some sign.LessEqual
    else if b == 62 && next == 61 then Some sign.GreaterEqual
    else if b == 60 && next == 60 then Some sign.ShiftLeft
    else if b == 62 && next == 62 then Some sign.ShiftRight
    else if b == 38 && next == 38 then Some sign.AndAnd
    else if b == 124 && next == 124 then Some sign.OrOr
    else None

-- the sign of one byte
unfoldable pub single_sign : ℕ → Option Sign
single_sign b =
    if b == 123 then Some sign.OpenBrace
    else if b == 125 then Some sign.CloseBrace
    else if b == 40 then Some sign.OpenParen
    else if b == 41 then Some sign.CloseParen
    else if b == 91 then Some sign.OpenBracket
    else if b == 93 then Some sign.CloseBracket
    else if b == 59 then Some sign.Semicolon
    else if b == 44 then Some sign.Comma
    else if b == 46 then Some sign.Dot
    else if b == 58 then Some sign.Colon
    else if b == 63 then Some sign.Question
    else if b == 64 then Some sign.At
    else if b == 35 then Some sign.Hash
    else if b == 61 then Some sign.Assign
    else if b == 43 then Some sign.Plus
    else if b == 45 then Some sign.Minus
    else if b == 42 then Some sign.Star
    else if b == 47 then Some sign.Slash
    else if b == 37 then Some sign.Percent
    else if b == 126 then Some sign.Tilde
    else if b == 33 then Some sign.Bang
    else if b == 38 then Some sign.And
    else if b == 124 then Some sign.Or
    else if b == 94 then Some sign.Caret
    else if b == 60 then Some sign.Less
    else if b == 62 then Some sign.Greater
    else None

-- the longer sign, or the shorter one; or the fault at a byte that begins none
abbrev pub sign_cut : ℕ → Option Sign → Option Sign → Result Cut Fault
sign_cut at (Some s) single = Ok (Some (Mark s), 2)
sign_cut at None (Some s) = Ok (Some (Mark s), 1)
sign_cut at None None = Err (BadByte, at)

-- the longest sign at the front, whose first byte is at the place `at`
unfoldable pub sign_piece : ℕ → ℕ → List ℕ → Result Cut Fault
sign_piece at b rest = sign_cut at (double_sign b (slice_index rest 0)) (single_sign b)
