-- Classes of bytes, and results of the lexer.
use Rattle.std.specs.Prelude.{◌≡◌, ℕ, ◌-◌, Bool, not, ◌&&◌, ◌||◌, if◌then◌else◌, ◌==◌, nat_lt, nat_le, Result, Ok, Err}
use Rattle.std.specs.Char.{is_ascii_alphabetic, is_ascii_alphanumeric}
use Rattle.pickle_syntax.specs.declared.lexer.bytes.Class.{Class}
use Rattle.pickle_syntax.specs.declared.lexer.bytes.Class.TheVariants as class
use Rattle.pickle_syntax.specs.declared.lexer.bytes.Start.{Start}
use Rattle.pickle_syntax.specs.declared.lexer.bytes.Start.TheVariants as start
use Rattle.pickle_syntax.specs.declared.lexer.fault.LexFaultKind.{LexFaultKind}
use Rattle.pickle_syntax.specs.declared.lexer.fault.LexFaultKind.TheVariants.{BadByte, Unclosed, BadNumber, TooLong, Memory}
use Rattle.pickle_syntax.specs.declared.lexer.fault.LexFault.{LexFault}

-- the digit that a byte is, or 99
abbrev pub digit_of : ℕ → ℕ
digit_of b =
    if nat_le 48 b && nat_le b 57 then b - 48
    else if nat_le 97 b && nat_le b 102 then b - 87
    else if nat_le 65 b && nat_le b 70 then b - 55
    else 99

abbrev pub is_in : Class → ℕ → Bool
is_in class.Blank b = b == 32 || b == 9 || b == 10 || b == 12 || b == 13
is_in class.Letter b = is_ascii_alphabetic b || b == 95
is_in class.Word b = is_ascii_alphanumeric b || b == 95
is_in (class.Digit base) b = nat_lt (digit_of b) base || b == 95
is_in class.Line b = not (b == 10)

-- the class of token that a byte begins
abbrev pub starts : ℕ → Start
starts b =
    if is_in class.Blank b then start.Blank
    else if is_in class.Letter b then start.Word
    else if nat_lt (digit_of b) 10 then start.Number
    else if b == 34 then start.Text
    else if b == 39 then start.Apostrophe
    else if b == 47 then start.Slash
    else start.Sign

-- a kind of fault, and its place
abbrev pub Fault : Type 0
Fault = LexFaultKind × ℕ

infixl 10 ◌>>=◌
abbrev pub ◌>>=◌ : {A B : Type 0} → Result A Fault → (A → Result B Fault) → Result B Fault
(Ok x) >>= f = f x
(Err e) >>= f = Err e

-- an allocation failure has place 0, whatever was to be read; any other fault is the definition's
abbrev pub Fails : {Y : Type 0} → LexFaultKind → ℕ → Result Y Fault → Type 0
Fails Memory at read = at ≡ 0
Fails BadByte at read = read ≡ Err (BadByte, at)
Fails Unclosed at read = read ≡ Err (Unclosed, at)
Fails BadNumber at read = read ≡ Err (BadNumber, at)
Fails TooLong at read = read ≡ Err (TooLong, at)

-- the result of a function, seen by view, is what the definition gives, unless memory ran out
abbrev pub Gives : {X Y : Type 0} → (X → Y) → Result X LexFault → Result Y Fault → Type 0
Gives view (Ok x) read = read ≡ Ok (view x)
Gives view (Err e) read = Fails e.kind e.at read
