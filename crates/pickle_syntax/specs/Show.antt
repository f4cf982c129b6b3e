-- The tokens that a tree shows.
use Rattle.std.specs.Prelude.{ℕ, Bool, true, false, Option, Some, None, List, [], ◌∷◌, ◌++◌}
use Rattle.pickle_syntax.specs.declared.token.Word.TheVariants as word
use Rattle.pickle_syntax.specs.declared.token.Opener.TheVariants as opener
use Rattle.pickle_syntax.specs.declared.token.Sign.{Sign}
use Rattle.pickle_syntax.specs.declared.token.Sign.TheVariants as sign
use Rattle.pickle_tree.specs.declared.tree.Prefix.{Prefix}
use Rattle.pickle_tree.specs.declared.tree.Prefix.TheVariants as prefix
use Rattle.pickle_tree.specs.declared.tree.Infix.{Infix}
use Rattle.pickle_tree.specs.declared.tree.Infix.TheVariants as infix_op
use Rattle.pickle_tree.specs.declared.tree.Unit.{Unit}
use Rattle.pickle_tree.specs.declared.tree.Unit.TheVariants as unit
use Rattle.pickle_tree.specs.declared.tree.ByteOrder.{ByteOrder}
use Rattle.pickle_tree.specs.declared.tree.ByteOrder.TheVariants as order
use Rattle.pickle_syntax.specs.Tokens.{Token, Reserved, Named, Opens, Numeral, Mark}
use Rattle.pickle_syntax.specs.Tokens as token
use Rattle.pickle_tree.specs.Tree.{TreeReference, Int, Uint, Called, TreeTarget, ToReference, ToOffset, TreeSuffix, Select, InUnit, Convert, Tree, Literal, Name, Bracket, Before, Between, Choice, Index, After, FormTree, Plain, StringForm, OffsetForm, ArrayForm, StructForm, IntegralForm, UnionForm, FieldTrees, NoFields, FieldThen, FieldParts, DeclarationTree}
use Rattle.pickle_tree.specs.Tree as tree

-- ---- expressions

abbrev pub prefix_sign : Prefix → Sign
prefix_sign prefix.Plus = sign.Plus
prefix_sign prefix.Minus = sign.Minus
prefix_sign prefix.Complement = sign.Tilde
prefix_sign prefix.Not = sign.Bang

abbrev pub infix_sign : Infix → Sign
infix_sign infix_op.LogicalOr = sign.OrOr
infix_sign infix_op.LogicalAnd = sign.AndAnd
infix_sign infix_op.BitOr = sign.Or
infix_sign infix_op.BitXor = sign.Caret
infix_sign infix_op.BitAnd = sign.And
infix_sign infix_op.Equal = sign.EqualEqual
infix_sign infix_op.NotEqual = sign.BangEqual
infix_sign infix_op.Less = sign.Less
infix_sign infix_op.LessEqual = sign.LessEqual
infix_sign infix_op.Greater = sign.Greater
infix_sign infix_op.GreaterEqual = sign.GreaterEqual
infix_sign infix_op.ShiftLeft = sign.ShiftLeft
infix_sign infix_op.ShiftRight = sign.ShiftRight
infix_sign infix_op.Add = sign.Plus
infix_sign infix_op.Subtract = sign.Minus
infix_sign infix_op.Multiply = sign.Star
infix_sign infix_op.Divide = sign.Slash
infix_sign infix_op.Remainder = sign.Percent

abbrev pub show_reference : TreeReference → List Token
show_reference (Int n) = Opens opener.Int ∷ Numeral n ∷ Mark sign.Greater ∷ []
show_reference (Uint n) = Opens opener.Uint ∷ Numeral n ∷ Mark sign.Greater ∷ []
show_reference (Called n) = Named n ∷ []

-- the names `b` and `B`, or a number of bits
abbrev pub show_unit : Unit → Token
show_unit unit.Bit = Named (98 ∷ [])
show_unit unit.Byte = Named (66 ∷ [])
show_unit (unit.Bits n) = Numeral n

abbrev pub show_target : TreeTarget → List Token
show_target (ToReference r) = show_reference r
show_target (ToOffset r u) =
    Opens opener.Offset ∷ show_reference r ++ Mark sign.Comma ∷ show_unit u ∷ Mark sign.Greater ∷ []

abbrev pub show_suffix : TreeSuffix → List Token
show_suffix (Select n) = Mark sign.Dot ∷ Named n ∷ []
show_suffix (tree.AttributeOf a) = token.AttributeOf a ∷ []
show_suffix (InUnit u) = Mark sign.Hash ∷ show_unit u ∷ []
show_suffix (Convert t) = Reserved word.As ∷ show_target t

abbrev pub show : Tree → List Token
show (Literal n) = Numeral n ∷ []
show (tree.Character b) = token.Character b ∷ []
show (tree.Text bytes) = token.Text bytes ∷ []
show (Name n) = Named n ∷ []
show (Bracket e) = Mark sign.OpenParen ∷ show e ++ Mark sign.CloseParen ∷ []
show (Before op e) = Mark (prefix_sign op) ∷ show e
show (Between op a b) = show a ++ Mark (infix_sign op) ∷ show b
show (Choice c x y) = show c ++ Mark sign.Question ∷ show x ++ Mark sign.Colon ∷ show y
show (Index e i) = show e ++ Mark sign.OpenBracket ∷ show i ++ Mark sign.CloseBracket ∷ []
show (After e s) = show e ++ show_suffix s

-- ---- types and fields

-- an expression that may be absent
abbrev pub show_optional : Option Tree → List Token
show_optional None = []
show_optional (Some e) = show e

-- an expression after a token, or neither
abbrev pub show_part : Token → Option Tree → List Token
show_part lead None = []
show_part lead (Some e) = lead ∷ show e

abbrev pub show_name : Option (List ℕ) → List Token
show_name None = []
show_name (Some n) = Named n ∷ []

abbrev pub show_order : Option ByteOrder → List Token
show_order None = []
show_order (Some order.Big) = Reserved word.Big ∷ []
show_order (Some order.Little) = Reserved word.Little ∷ []

abbrev pub show_pinned : Bool → List Token
show_pinned true = Reserved word.Pinned ∷ []
show_pinned false = []

-- the name and the clauses after the type of a field, and the `;` at its end
abbrev pub show_parts : FieldParts → List Token
show_parts p = show_name p.name ++ show_part (Mark sign.Colon) p.constraint ++ show_part (Mark sign.At) p.label
    ++ show_part (Reserved word.If) p.condition ++ Mark sign.Semicolon ∷ []

abbrev mutual
  pub show_form : FormTree → List Token
  show_form (Plain r) = show_reference r
  show_form StringForm = Reserved word.String ∷ []
  show_form (OffsetForm r u) = show_target (ToOffset r u)
  show_form (ArrayForm e b) = show_form e ++ Mark sign.OpenBracket ∷ show_optional b ++ Mark sign.CloseBracket ∷ []
  show_form (StructForm p fs) =
      show_pinned p ++ Reserved word.Struct ∷ Mark sign.OpenBrace ∷ show_fields fs ++ Mark sign.CloseBrace ∷ []
  show_form (IntegralForm r fs) =
      Reserved word.Struct ∷ show_reference r ++ Mark sign.OpenBrace ∷ show_fields fs ++ Mark sign.CloseBrace ∷ []
  show_form (UnionForm fs) = Reserved word.Union ∷ Mark sign.OpenBrace ∷ show_fields fs ++ Mark sign.CloseBrace ∷ []

  pub show_fields : FieldTrees → List Token
  show_fields NoFields = []
  show_fields (FieldThen f p rest) = show_order p.order ++ show_form f ++ show_parts p ++ show_fields rest

-- ---- pickles

abbrev pub show_declaration : DeclarationTree → List Token
show_declaration d = Reserved word.Type ∷ Named d.name ∷ Mark sign.Assign ∷ show_form d.form ++ Mark sign.Semicolon ∷ []

abbrev pub show_pickle : List DeclarationTree → List Token
show_pickle [] = []
show_pickle (d ∷ ds) = show_declaration d ++ show_pickle ds
