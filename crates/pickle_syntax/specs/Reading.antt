-- Reading from the front of the tokens, as functions on lists.
use Rattle.std.specs.Prelude.{ℕ, ◌+◌, ◌≡◌, ◌==◌, ⊤, Bool, true, false, if◌then◌else◌, Option, Some, None, List, [], ◌∷◌, length, Result, Ok, Err}
use denote.Bor.{Bor}
use denote.Enum.Bare.{sameb}
use Rattle.pickle_syntax.specs.contracts.token.Sign as sign_contract
use Rattle.pickle_syntax.specs.contracts.token.Word as word_contract
use Rattle.pickle_syntax.specs.declared.token.Word.{Word}
use Rattle.pickle_syntax.specs.declared.token.Opener.{Opener}
use Rattle.pickle_syntax.specs.declared.token.Opener.TheVariants as opener
use Rattle.pickle_syntax.specs.declared.token.Sign.{Sign}
use Rattle.pickle_syntax.specs.declared.token.Sign.TheVariants as sign
use Rattle.pickle_tree.specs.declared.tree.Number.{Number}
use Rattle.pickle_syntax.specs.declared.token.Kind.{Kind}
use Rattle.pickle_tree.specs.declared.tree.Unit.{Unit}
use Rattle.pickle_tree.specs.declared.tree.Unit.TheVariants as unit
use Rattle.pickle_syntax.specs.declared.parser.fault.Stop.{Stop}
use Rattle.pickle_syntax.specs.declared.parser.fault.Stop.TheVariants as stop
use Rattle.pickle_syntax.specs.Tokens.{Token, Reserved, Named, Opens, Numeral, Mark, tokens_of}
use Rattle.pickle_tree.specs.Tree.{TreeReference, Int, Uint, Called, TreeTarget, ToReference, ToOffset}

-- Why nothing is read: no tree continues with the next token, where so many tokens are left (0: the tokens end too
-- early); a tree is too deep; or it has too many parts.
pub data Fault : Type 0 where
  Wrong : (left : ℕ) → Fault
  Deep : Fault
  Many : Fault

infixl 10 ◌>>=◌
abbrev pub ◌>>=◌ : {A B : Type 0} → Result A Fault → (A → Result B Fault) → Result B Fault
(Ok x) >>= f = f x
(Err e) >>= f = Err e

-- the result of reading, and the tokens after it
abbrev pub Read : Type 0 → Type 0
Read A = Result (A × List Token) Fault

abbrev pub Fails : {Y : Type 0} → Stop → Result Y Fault → Type 0
Fails stop.Memory read = ⊤
Fails (stop.Syntax left) read = read ≡ Err (Wrong left)
Fails stop.TooDeep read = read ≡ Err Deep
Fails stop.TooMany read = read ≡ Err Many

-- the result of a function, seen by view, is what the reading gives, unless memory ran out
abbrev pub Gives : {X Y : Type 0} → (X → Y) → Result X Stop → Result Y Fault → Type 0
Gives view (Ok x) read = read ≡ Ok (view x)
Gives view (Err e) read = Fails e read

-- the result of a function, seen by view, and the tokens that it left are what the reading gives, unless memory ran out
abbrev pub Reads : {X Y : Type 0} → (X → Y) → Result (X × Bor (List Kind)) Stop → Read Y → Type 0
Reads view result read = Gives (λ x. (view x.0, tokens_of x.1.now)) result read

-- the tokens that a function returns are these
abbrev pub IsRest : Option (Bor (List Kind)) → Option (List Token) → Type 0
IsRest None rest = rest ≡ None
IsRest (Some lent) rest = rest ≡ Some (tokens_of lent.now)

abbrev pub rest_if : Bool → List Token → Option (List Token)
rest_if true rest = Some rest
rest_if false rest = None

-- the tokens after this sign, if they begin with it
unfoldable pub after_sign : Sign → List Token → Option (List Token)
after_sign s (Mark t ∷ rest) = rest_if (sameb sign_contract.the_type t s) rest
after_sign s _ = None

unfoldable pub after_word : Word → List Token → Option (List Token)
after_word w (Reserved v ∷ rest) = rest_if (sameb word_contract.the_type v w) rest
after_word w _ = None

-- what comes after, if these tokens begin as they have to
abbrev pub needed : Option (List Token) → List Token → Result (List Token) Fault
needed None tokens = Err (Wrong (length tokens))
needed (Some rest) tokens = Ok rest

unfoldable pub expect : Sign → List Token → Result (List Token) Fault
expect s tokens = needed (after_sign s tokens) tokens

unfoldable pub name_at : List Token → Read (List ℕ)
name_at (Named n ∷ rest) = Ok (n, rest)
name_at tokens = Err (Wrong (length tokens))

-- a number and `>`
unfoldable pub width_at : List Token → Read Number
width_at (Numeral n ∷ rest) = expect sign.Greater rest >>= λ after. Ok (n, after)
width_at tokens = Err (Wrong (length tokens))

abbrev pub sized_at : Opener → List Token → Read TreeReference
sized_at opener.Int rest = width_at rest >>= λ n. Ok (Int n.0, n.1)
sized_at opener.Uint rest = width_at rest >>= λ n. Ok (Uint n.0, n.1)
sized_at opener.Offset rest = Err (Wrong (length rest + 1))

unfoldable pub reference_at : List Token → Read TreeReference
reference_at (Named n ∷ rest) = Ok (Called n, rest)
reference_at (Opens o ∷ rest) = sized_at o rest
reference_at tokens = Err (Wrong (length tokens))

-- the units `b` and `B`
abbrev pub unit_named : List ℕ → Option Unit
unit_named (c ∷ []) = if c == 98 then Some unit.Bit else if c == 66 then Some unit.Byte else None
unit_named _ = None

abbrev pub named_unit : Option Unit → List Token → Read Unit
named_unit None rest = Err (Wrong (length rest + 1))
named_unit (Some u) rest = Ok (u, rest)

unfoldable pub unit_at : List Token → Read Unit
unit_at (Named n ∷ rest) = named_unit (unit_named n) rest
unit_at (Numeral n ∷ rest) = Ok (unit.Bits n, rest)
unit_at tokens = Err (Wrong (length tokens))

-- what comes after `offset<`
unfoldable pub offset_at : List Token → Read TreeTarget
offset_at tokens = do
  r ← reference_at tokens
  comma ← expect sign.Comma r.1
  u ← unit_at comma
  after ← expect sign.Greater u.1
  Ok (ToOffset r.0 u.0, after)

unfoldable pub target_at : List Token → Read TreeTarget
target_at (Opens opener.Offset ∷ rest) = offset_at rest
target_at tokens = reference_at tokens >>= λ r. Ok (ToReference r.0, r.1)
