-- What is told of an expression that is refused.
use Rattle.std.specs.Prelude.{◌≡◌, ℕ, List, [], ◌∷◌, slice_get, Option, Some, IfSome, Ok}
use Rattle.std.specs.Option.{option_and_then}
use Rattle.pickle_tree.specs.Tree.{Tree, Literal, Character, Text, Name, Bracket, Before, Between, Choice, Index, After}
use Rattle.pickle_types.specs.declared.node.Node.{Node}
use Rattle.pickle_types.specs.declared.check.context.Context.{Context}
use Rattle.pickle_types.specs.declared.check.site.OperandType.{OperandType}
use Rattle.pickle_types.specs.declared.check.site.OperandType.TheVariants as told
use Rattle.pickle_types.specs.declared.check.site.OperandTypes.{OperandTypes}
use Rattle.pickle_types.specs.declared.check.site.RefusedExpression.{RefusedExpression}
use Rattle.pickle_types.specs.declared.check.site.RefusedExpression.TheVariants as refused
use Rattle.pickle_types.specs.Types.{PokeType, Bound, IntegerOf, OffsetOf, StringOf, ArrayOf}
use Rattle.pickle_types.specs.Table.{type_of}
use Rattle.pickle_types.specs.Expressions.{Sort, TextLiteral, Typed, Meant}
use Rattle.pickle_types.specs.Calls.{typed_in}

-- the operands of an expression, in order
abbrev pub operands : Tree → List Tree
operands (Literal n) = []
operands (Character b) = []
operands (Text t) = []
operands (Name n) = []
operands (Bracket e) = e ∷ []
operands (Before op e) = e ∷ []
operands (Between op a b) = a ∷ b ∷ []
operands (Choice c x y) = c ∷ x ∷ y ∷ []
operands (Index e i) = e ∷ i ∷ []
operands (After e s) = e ∷ []

-- the operand to which the numbers of operands lead, the outermost first
abbrev pub operand_along : List ℕ → Tree → Option Tree
operand_along [] e = Some e
operand_along (n ∷ ns) e = option_and_then (operand_along ns) (slice_get (operands e) n)

-- the type of a sort; an array's element and bound aren't told
abbrev pub TellsSort : List Node → OperandType → Sort → Type 0
TellsSort nodes (told.Integer t) s = s ≡ Typed (IntegerOf t)
TellsSort nodes (told.Offset t unit) s = s ≡ Typed (OffsetOf t unit)
TellsSort nodes told.String s = s ≡ Typed StringOf
TellsSort nodes told.Text s = s ≡ TextLiteral
TellsSort nodes told.Array s = (element : PokeType) × (bound : Bound) × (s ≡ Typed (ArrayOf element bound))
TellsSort nodes (told.Struct i) s = s ≡ Typed (type_of nodes i)

module _ (c : Context) where
  -- the type that an expression has, if one is told
  abbrev pub TellsType : Tree → Option OperandType → Type 0
  TellsType e told = IfSome told (λ t. (x : Meant) × (typed_in c e ≡ Ok x) × TellsSort c.nodes.now t x.1)

  -- the type that the operand of a number has, if one is told
  abbrev pub TellsOperand : Tree → ℕ → Option OperandType → Type 0
  TellsOperand e n told =
      IfSome told (λ t. (operand : Tree) × (slice_get (operands e) n ≡ Some operand) × TellsType operand told)

  pub record TellsOperands (e : Tree) (types : OperandTypes) : Type 0 where
    pub first : TellsOperand e 0 types.first
    pub second : TellsOperand e 1 types.second
    pub third : TellsOperand e 2 types.third

  -- the type of the whole expression, or those of the operands of one of its operands
  abbrev pub TellsRefused : Tree → RefusedExpression → Type 0
  TellsRefused e refused.None = Unit {0}
  TellsRefused e (refused.Whole t) = TellsType e (Some t)
  TellsRefused e (refused.Operand trail types) =
      (at : Tree) × (operand_along trail.numbers.items e ≡ Some at) × TellsOperands at types
