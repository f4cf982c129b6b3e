-- How tightly each operator binds, and the trees in which each operand binds as tightly as its place requires.
use Rattle.std.specs.Prelude.{ℕ, ◌+◌, ◌≤◌, ⊤, Option, Some, None, List, [], ◌∷◌}
use Rattle.pickle_tree.specs.declared.tree.Infix.{Infix}
use Rattle.pickle_tree.specs.declared.tree.Infix.TheVariants as infix_op
use Rattle.pickle_tree.specs.Tree.{TreeSuffix, Select, InUnit, Convert, Tree, Literal, Name, Bracket, Before, Between, Choice, Index, After, FormTree, Plain, StringForm, OffsetForm, ArrayForm, StructForm, IntegralForm, UnionForm, FieldTrees, NoFields, FieldThen, FieldParts, DeclarationTree}
use Rattle.pickle_tree.specs.Tree as tree

-- an operator between two operands; all of these group to the left
abbrev pub level : Infix → ℕ
level infix_op.LogicalOr = 2
level infix_op.LogicalAnd = 3
level infix_op.BitOr = 4
level infix_op.BitXor = 5
level infix_op.BitAnd = 6
level infix_op.Equal = 7
level infix_op.NotEqual = 7
level infix_op.Less = 8
level infix_op.LessEqual = 8
level infix_op.Greater = 8
level infix_op.GreaterEqual = 8
level infix_op.ShiftLeft = 9
level infix_op.ShiftRight = 9
level infix_op.Add = 10
level infix_op.Subtract = 10
level infix_op.Multiply = 11
level infix_op.Divide = 11
level infix_op.Remainder = 11

abbrev pub level_of_suffix : TreeSuffix → ℕ
level_of_suffix (Select n) = 14
level_of_suffix (tree.AttributeOf a) = 14
level_of_suffix (InUnit u) = 14
level_of_suffix (Convert t) = 12

abbrev pub level_of : Tree → ℕ
level_of (Literal n) = 15
level_of (tree.Character b) = 15
level_of (tree.Text bytes) = 15
level_of (Name n) = 15
level_of (Bracket e) = 15
level_of (Before op e) = 13
level_of (Between op a b) = level op
level_of (Choice c x y) = 1
level_of (Index e i) = 14
level_of (After e s) = level_of_suffix s

-- each operand has at least the level that its place requires
abbrev pub IsWellBracketed : Tree → Type 0
IsWellBracketed (Literal n) = ⊤
IsWellBracketed (tree.Character b) = ⊤
IsWellBracketed (tree.Text bytes) = ⊤
IsWellBracketed (Name n) = ⊤
IsWellBracketed (Bracket e) = IsWellBracketed e
IsWellBracketed (Before op e) = IsWellBracketed e × (13 ≤ level_of e)
IsWellBracketed (Between op a b) =
    IsWellBracketed a × IsWellBracketed b × (level op ≤ level_of a) × (level op + 1 ≤ level_of b)
IsWellBracketed (Choice c x y) = IsWellBracketed c × IsWellBracketed x × IsWellBracketed y × (2 ≤ level_of c)
IsWellBracketed (Index e i) = IsWellBracketed e × IsWellBracketed i × (14 ≤ level_of e)
IsWellBracketed (After e s) = IsWellBracketed e × (level_of_suffix s ≤ level_of e)

abbrev pub IsOptionalWellBracketed : Option Tree → Type 0
IsOptionalWellBracketed None = ⊤
IsOptionalWellBracketed (Some e) = IsWellBracketed e

abbrev pub ArePartsWellBracketed : FieldParts → Type 0
ArePartsWellBracketed p =
    IsOptionalWellBracketed p.constraint × IsOptionalWellBracketed p.label × IsOptionalWellBracketed p.condition

-- a type without an array suffix
abbrev pub IsBase : FormTree → Type 0
IsBase (Plain r) = ⊤
IsBase StringForm = ⊤
IsBase (OffsetForm r u) = ⊤
IsBase (ArrayForm e b) = ⊥
IsBase (StructForm p fs) = ⊤
IsBase (IntegralForm r fs) = ⊤
IsBase (UnionForm fs) = ⊤

-- a type has one array suffix at most, and all of its expressions are well bracketed
abbrev mutual
  pub IsFormWellBracketed : FormTree → Type 0
  IsFormWellBracketed (Plain r) = ⊤
  IsFormWellBracketed StringForm = ⊤
  IsFormWellBracketed (OffsetForm r u) = ⊤
  IsFormWellBracketed (ArrayForm e b) = IsBase e × IsFormWellBracketed e × IsOptionalWellBracketed b
  IsFormWellBracketed (StructForm p fs) = AreFieldsWellBracketed fs
  IsFormWellBracketed (IntegralForm r fs) = AreFieldsWellBracketed fs
  IsFormWellBracketed (UnionForm fs) = AreFieldsWellBracketed fs

  pub AreFieldsWellBracketed : FieldTrees → Type 0
  AreFieldsWellBracketed NoFields = ⊤
  AreFieldsWellBracketed (FieldThen f p rest) =
      IsFormWellBracketed f × ArePartsWellBracketed p × AreFieldsWellBracketed rest

abbrev pub IsPickleWellBracketed : List DeclarationTree → Type 0
IsPickleWellBracketed [] = ⊤
IsPickleWellBracketed (d ∷ ds) = IsFormWellBracketed d.form × IsPickleWellBracketed ds
