-- What a table, its builder and what an expression sees prove of themselves has one proof at most.
use Rattle.std.specs.Prelude.{ℕ, List, Bool, true, false, ℤ, pos, negsuc, Option, Some, None}
use Rattle.std.specs.Coded.{Unit-prop, ×_prop, Π_prop, le_prop, Coded-set, coded_ℕ}
use Rattle.pickle_types.specs.declared.integer.IntegerType.{IntegerType}
use Rattle.pickle_types.specs.declared.names.Declared.{Declared}
use Rattle.pickle_types.specs.declared.names.Named.{Named}
use Rattle.pickle_types.specs.declared.node.Field.{Field}
use Rattle.pickle_types.specs.declared.node.Part.{Part}
use Rattle.pickle_types.specs.declared.node.Shape.{Shape}
use Rattle.pickle_types.specs.declared.node.Shape.TheVariants as shape
use Rattle.pickle_types.specs.declared.node.Node.{Node}
use Rattle.pickle_types.specs.Types.{Term, Number, Text, Name, Bracket, Before, Between, Choice, Index, Select, AttributeOf, ToInteger, ToOffset, InUnit, Bound, Unbounded, ByCount, BySize}
use Rattle.pickle_types.specs.Sound.{IsWidth, IsOptionalWidth, IsSmall, IsSoundTerm, IsSoundClause, IsSoundBound}
use Rattle.pickle_types.specs.Table.{optional_term, bound_of, FieldsBelow, PartsBelow, NamesBelow, IsSoundField, IsSoundPart, IsSoundShape, IsTable}
use Rattle.pickle_types.specs.declared.scopes.Seen.{Seen}
use Rattle.pickle_types.specs.Built.{IsNamed, AreListed, IsInLevel, AreBelow}

IsWidth-prop : (type : IntegerType) → IsProp (IsWidth type)
IsWidth-prop type x y = λ i. record {
  some = le_prop x.some y.some i;
  most = le_prop x.most y.most i;
}

IsOptionalWidth-prop : (type : Option IntegerType) → IsProp (IsOptionalWidth type)
IsOptionalWidth-prop None = Unit-prop
IsOptionalWidth-prop (Some type) = IsWidth-prop type

IsSmall-prop : (signed : Bool) (value : ℤ) → IsProp (IsSmall signed value)
IsSmall-prop true (pos n) = le_prop
IsSmall-prop true (negsuc n) = le_prop
IsSmall-prop false (pos n) = le_prop
IsSmall-prop false (negsuc n) = λ x y. absurd x

IsSoundTerm-prop : (e : Term) → IsProp (IsSoundTerm e)
IsSoundTerm-prop (Number type value) = ×_prop (IsWidth-prop type) (IsSmall-prop type.signed (pos value))
IsSoundTerm-prop (Text bytes) = Unit-prop
IsSoundTerm-prop (Name level place) = Unit-prop
IsSoundTerm-prop (Bracket e) = IsSoundTerm-prop e
IsSoundTerm-prop (Before op e) = IsSoundTerm-prop e
IsSoundTerm-prop (Between op a b) = ×_prop (IsSoundTerm-prop a) (IsSoundTerm-prop b)
IsSoundTerm-prop (Choice common c x y) = λ p q i. (
  IsOptionalWidth-prop common p.0 q.0 i,
  IsSoundTerm-prop c p.1 q.1 i,
  IsSoundTerm-prop x p.2 q.2 i,
  IsSoundTerm-prop y p.3 q.3 i,
)
IsSoundTerm-prop (Index e i) = ×_prop (IsSoundTerm-prop e) (IsSoundTerm-prop i)
IsSoundTerm-prop (Select e place) = IsSoundTerm-prop e
IsSoundTerm-prop (AttributeOf attribute e) = IsSoundTerm-prop e
IsSoundTerm-prop (ToInteger type e) = ×_prop (IsWidth-prop type) (IsSoundTerm-prop e)
IsSoundTerm-prop (ToOffset type unit e) = λ p q i.
    (IsWidth-prop type p.0 q.0 i, le_prop p.1 q.1 i, IsSoundTerm-prop e p.2 q.2 i)
IsSoundTerm-prop (InUnit unit e) = ×_prop le_prop (IsSoundTerm-prop e)

IsSoundClause-prop : (e : Option Term) → IsProp (IsSoundClause e)
IsSoundClause-prop None = Unit-prop
IsSoundClause-prop (Some e) = IsSoundTerm-prop e

IsSoundBound-prop : (bound : Bound) → IsProp (IsSoundBound bound)
IsSoundBound-prop Unbounded = Unit-prop
IsSoundBound-prop (ByCount e) = IsSoundTerm-prop e
IsSoundBound-prop (BySize e) = IsSoundTerm-prop e

IsSoundField-prop : (f : Field) → IsProp (IsSoundField f)
IsSoundField-prop f x y = λ i. record {
  constraint = IsSoundClause-prop (optional_term f.constraint) x.constraint y.constraint i;
  label = IsSoundClause-prop (optional_term f.label) x.label y.label i;
  condition = IsSoundClause-prop (optional_term f.condition) x.condition y.condition i;
}

IsSoundPart-prop : (p : Part) → IsProp (IsSoundPart p)
IsSoundPart-prop p x y = λ i. record {
  constraint = IsSoundClause-prop (optional_term p.constraint) x.constraint y.constraint i;
}

FieldsBelow-prop : (i : ℕ) (fields : List Field) → IsProp (FieldsBelow i fields)
FieldsBelow-prop i fields = Π_prop λ k. Π_prop λ d. Π_prop λ h. le_prop

PartsBelow-prop : (i : ℕ) (parts : List Part) → IsProp (PartsBelow i parts)
PartsBelow-prop i parts = Π_prop λ k. Π_prop λ d. Π_prop λ h. le_prop

NamesBelow-prop : (i : ℕ) (s : Shape) → IsProp (NamesBelow i s)
NamesBelow-prop i (shape.Integer type) = IsWidth-prop type
NamesBelow-prop i (shape.Offset type unit) = ×_prop (IsWidth-prop type) le_prop
NamesBelow-prop i shape.String = Unit-prop
NamesBelow-prop i (shape.Array element bound) = le_prop
NamesBelow-prop i (shape.Struct name pinned fields) = FieldsBelow-prop i fields.items
NamesBelow-prop i (shape.Integral name number fields) = ×_prop (IsWidth-prop number) (PartsBelow-prop i fields.items)
NamesBelow-prop i (shape.Union name alternatives) = PartsBelow-prop i alternatives.items

IsSoundShape-prop : (s : Shape) → IsProp (IsSoundShape s)
IsSoundShape-prop (shape.Integer type) = Unit-prop
IsSoundShape-prop (shape.Offset type unit) = Unit-prop
IsSoundShape-prop shape.String = Unit-prop
IsSoundShape-prop (shape.Array element bound) = IsSoundBound-prop (bound_of bound)
IsSoundShape-prop (shape.Struct name pinned fields) = Π_prop λ k. Π_prop λ d. Π_prop λ h. IsSoundField-prop _
IsSoundShape-prop (shape.Integral name number fields) = Π_prop λ k. Π_prop λ d. Π_prop λ h. IsSoundPart-prop _
IsSoundShape-prop (shape.Union name alternatives) =
    ×_prop (Π_prop λ k. Π_prop λ d. Π_prop λ h. IsSoundPart-prop _) le_prop

pub IsTable-prop : (nodes : List Node) → IsProp (IsTable nodes)
IsTable-prop nodes x y = λ i. record {
  below = λ k node h. NamesBelow-prop k node.shape (x.below k node h) (y.below k node h) i;
  sound = λ k node h. IsSoundShape-prop node.shape (x.sound k node h) (y.sound k node h) i;
  deep = λ k h. le_prop (x.deep k h) (y.deep k h) i;
  few = le_prop x.few y.few i;
}

IsNamed-prop : (nodes : List Node) (d : Declared) → IsProp (IsNamed nodes d)
IsNamed-prop nodes d x y = λ i. record {
  inside = le_prop x.inside y.inside i;
  deep = Coded-set coded_ℕ _ _ x.deep y.deep i;
}

pub AreListed-prop : (nodes : List Node) (names : List Named) → IsProp (AreListed nodes names)
AreListed-prop nodes names = Π_prop λ k. Π_prop λ d. Π_prop λ h. IsNamed-prop nodes _

IsInLevel-prop : (n levels : ℕ) (s : Seen) → IsProp (IsInLevel n levels s)
IsInLevel-prop n levels s x y = λ i. record {
  node = le_prop x.node y.node i;
  level = le_prop x.level y.level i;
}

pub AreBelow-prop : (n levels : ℕ) (seen : List Seen) → IsProp (AreBelow n levels seen)
AreBelow-prop n levels seen = Π_prop λ k. Π_prop λ d. Π_prop λ h. IsInLevel-prop n levels _
