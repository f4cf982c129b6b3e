-- The fact that a pickle is within the limits has one proof at most.
use Rattle.std.specs.Prelude.{ℕ, Option, Some, None, List, [], ◌∷◌}
use Rattle.std.specs.Coded.{Unit-prop, ×_prop, le_prop}
use Rattle.pickle_tree.specs.Tree.{Tree, FormTree, Plain, StringForm, OffsetForm, ArrayForm, StructForm, IntegralForm, UnionForm, FieldTrees, NoFields, FieldThen, FieldParts, DeclarationTree}
use Rattle.pickle_tree.specs.Limits.{Limits, IsOptionalWithin, ArePartsWithin, IsFormWithin, AreFieldsWithin, AreDeclarationsWithin, IsPickleWithin}

IsOptionalWithin-prop : (most : ℕ) (e : Option Tree) → IsProp (IsOptionalWithin most e)
IsOptionalWithin-prop most None = Unit-prop
IsOptionalWithin-prop most (Some e) = le_prop

ArePartsWithin-prop : (most : ℕ) (p : FieldParts) → IsProp (ArePartsWithin most p)
ArePartsWithin-prop most p x y = λ i. (
  IsOptionalWithin-prop most p.constraint x.0 y.0 i,
  IsOptionalWithin-prop most p.label x.1 y.1 i,
  IsOptionalWithin-prop most p.condition x.2 y.2 i,
)

mutual
  IsFormWithin-prop : (limits : Limits) (f : FormTree) → IsProp (IsFormWithin limits f)
  IsFormWithin-prop limits (Plain r) = Unit-prop
  IsFormWithin-prop limits StringForm = Unit-prop
  IsFormWithin-prop limits (OffsetForm r u) = Unit-prop
  IsFormWithin-prop limits (ArrayForm e b) =
      ×_prop (IsFormWithin-prop limits e) (IsOptionalWithin-prop limits.expression_depth b)
  IsFormWithin-prop limits (StructForm p fs) = ×_prop le_prop (AreFieldsWithin-prop limits fs)
  IsFormWithin-prop limits (IntegralForm r fs) = ×_prop le_prop (AreFieldsWithin-prop limits fs)
  IsFormWithin-prop limits (UnionForm fs) = ×_prop le_prop (AreFieldsWithin-prop limits fs)

  AreFieldsWithin-prop : (limits : Limits) (fs : FieldTrees) → IsProp (AreFieldsWithin limits fs)
  AreFieldsWithin-prop limits NoFields = Unit-prop
  AreFieldsWithin-prop limits (FieldThen f p rest) = λ x y i. (
    IsFormWithin-prop limits f x.0 y.0 i,
    ArePartsWithin-prop limits.expression_depth p x.1 y.1 i,
    AreFieldsWithin-prop limits rest x.2 y.2 i,
  )

AreDeclarationsWithin-prop : (limits : Limits) (ds : List DeclarationTree) → IsProp (AreDeclarationsWithin limits ds)
AreDeclarationsWithin-prop limits [] = Unit-prop
AreDeclarationsWithin-prop limits (d ∷ ds) = λ x y i.
    (IsFormWithin-prop limits d.form x.0 y.0 i, le_prop x.1 y.1 i, AreDeclarationsWithin-prop limits ds x.2 y.2 i)

pub IsPickleWithin-prop : (limits : Limits) (ds : List DeclarationTree) → IsProp (IsPickleWithin limits ds)
IsPickleWithin-prop limits ds = ×_prop le_prop (AreDeclarationsWithin-prop limits ds)
