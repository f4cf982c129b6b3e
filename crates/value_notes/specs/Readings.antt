-- Results of reading: what was read and the text after it, or the text from the first piece on that can't be there.
use Rattle.std.specs.Prelude.{◌≡◌, ℕ, List, Option, Some, None, Result, Ok, Err}
use Rattle.value_notes.specs.declared.fault.Stop.{Stop}
use Rattle.value_notes.specs.Blanks.{skip}
use Rattle.value_notes.specs.Lexemes.{Piece, lexeme_at}

infixl 10 ◌>>=◌
abbrev pub ◌>>=◌ : {A B : Type 0} → Result A (List ℕ) → (A → Result B (List ℕ)) → Result B (List ℕ)
(Ok x) >>= f = f x
(Err rest) >>= f = Err rest

-- what a function returned, seen by view, is what the definition gives
abbrev pub Reads : {X Y : Type 0} → (X → Y) → Result X Stop → Result Y (List ℕ) → Type 0
Reads view (Ok x) read = read ≡ Ok (view x)
Reads view (Err stop) read = read ≡ Err stop.rest.now

abbrev pub chosen : {X : Type 0} → (text rest : List ℕ) → Option X → Result (X × List ℕ) (List ℕ)
chosen text rest (Some x) = Ok (x, rest)
chosen text rest None = Err text

abbrev pub taken_from : {X : Type 0} → (Piece → Option X) → List ℕ → Option (Piece × List ℕ) →
    Result (X × List ℕ) (List ℕ)
taken_from of text None = Err text
taken_from of text (Some found) = chosen text found.1 (of found.0)

-- what the first piece of a text is, by `of`, and the text after it
abbrev pub taken : {X : Type 0} → (Piece → Option X) → List ℕ → Result (X × List ℕ) (List ℕ)
taken of text = taken_from of (skip text) (lexeme_at (skip text))
