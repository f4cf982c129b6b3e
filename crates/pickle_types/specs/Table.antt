-- The types that the nodes of a table mean.
use Rattle.std.specs.Prelude.{◌≡◌, ℕ, zero, suc, ◌<◌, ◌≤◌, ◌^◌, length, false, List, [], ◌∷◌, ◌++◌, Option, Some, None, Box, slice_get, All}
use Rattle.std.specs.declared.alloc.Global.{Global}
use Rattle.pickle_types.specs.declared.name.Name.{Name as RustName}
use Rattle.pickle_types.specs.declared.name.Name.TheVariants as letters
use Rattle.pickle_types.specs.declared.node.Resolved.{Resolved}
use Rattle.pickle_types.specs.declared.node.Resolved.TheVariants as resolved
use Rattle.pickle_types.specs.declared.node.Extent.{Extent}
use Rattle.pickle_types.specs.declared.node.Extent.TheVariants as extent
use Rattle.pickle_types.specs.declared.node.Field.{Field}
use Rattle.pickle_types.specs.declared.node.Part.{Part}
use Rattle.pickle_types.specs.declared.node.Shape.{Shape}
use Rattle.pickle_types.specs.declared.node.Shape.TheVariants as shape
use Rattle.pickle_types.specs.declared.node.Node.{Node}
use Rattle.pickle_types.specs.Types.{Term, Number, Text, Name, Bracket, Before, Between, Choice, Index, Select, AttributeOf, ToInteger, ToOffset, InUnit, Bound, Unbounded, ByCount, BySize, PokeType, IntegerOf, OffsetOf, StringOf, ArrayOf, StructOf, IntegralOf, UnionOf, Fields, NoFields, FieldThen, Parts, NoParts, PartThen, depth}
pub use Rattle.pickle_types.specs.Sound.{IsWidth}
use Rattle.pickle_types.specs.Sound.{IsSoundClause, IsSoundBound}

-- the expression that a resolved one means, without its place in memory
abbrev pub term_of : Resolved → Term
term_of (resolved.Number type value) = Number type value
term_of (resolved.Text t) = Text t.items
term_of (resolved.Name level place) = Name level place
term_of (resolved.Bracket' p e) = Bracket (term_of e)
term_of (resolved.Prefix' op p e) = Before op (term_of e)
term_of (resolved.Infix' op p a q b) = Between op (term_of a) (term_of b)
term_of (resolved.Choice' common p c q x r y) = Choice common (term_of c) (term_of x) (term_of y)
term_of (resolved.Index' p e q i) = Index (term_of e) (term_of i)
term_of (resolved.Select' p e place) = Select (term_of e) place
term_of (resolved.Attribute' attribute p e) = AttributeOf attribute (term_of e)
term_of (resolved.ToInteger' type p e) = ToInteger type (term_of e)
term_of (resolved.ToOffset' type unit p e) = ToOffset type unit (term_of e)
term_of (resolved.InUnit' unit p e) = InUnit unit (term_of e)

abbrev pub optional_term : Option (Box Resolved Global) → Option Term
optional_term None = None
optional_term (Some e) = Some (term_of e.value)

abbrev pub bound_of : Extent → Bound
bound_of extent.Unbounded = Unbounded
bound_of (extent.Count e) = ByCount (term_of e.value)
bound_of (extent.Size e) = BySize (term_of e.value)

abbrev pub letters_of : RustName → List ℕ
letters_of (letters.Short word) = word.items
letters_of (letters.Long word) = word.items

abbrev pub name_of : Option RustName → Option (List ℕ)
name_of None = None
name_of (Some n) = Some (letters_of n)

-- these fields, and then others
abbrev pub fields_onto : (ℕ → PokeType) → List Field → Fields → Fields
fields_onto at [] rest = rest
fields_onto at (f ∷ fs) rest =
    FieldThen (name_of f.name) f.order (at f.node) (optional_term f.constraint) (optional_term f.label)
    (optional_term f.condition) (fields_onto at fs rest)

abbrev pub open_fields : (ℕ → PokeType) → List Field → Fields
open_fields at fs = fields_onto at fs NoFields

abbrev pub parts_onto : (ℕ → PokeType) → List Part → Parts → Parts
parts_onto at [] rest = rest
parts_onto at (p ∷ ps) rest =
    PartThen (name_of p.name) p.order (at p.node) (optional_term p.constraint) (parts_onto at ps rest)

abbrev pub open_parts : (ℕ → PokeType) → List Part → Parts
open_parts at ps = parts_onto at ps NoParts

-- the type of a shape, where the nodes that it names have these types
abbrev pub open_shape : (ℕ → PokeType) → Shape → PokeType
open_shape at (shape.Integer type) = IntegerOf type
open_shape at (shape.Offset type unit) = OffsetOf type unit
open_shape at shape.String = StringOf
open_shape at (shape.Array element bound) = ArrayOf (at element) (bound_of bound)
open_shape at (shape.Struct name pinned fields) = StructOf (name_of name) pinned (open_fields at fields.items)
open_shape at (shape.Integral name number fields) = IntegralOf (name_of name) number (open_parts at fields.items)
open_shape at (shape.Union name alternatives) = UnionOf (name_of name) (open_parts at alternatives.items)

abbrev pub open_found : (ℕ → PokeType) → Option Node → PokeType
open_found at None = StructOf None false NoFields
open_found at (Some node) = open_shape at node.shape

-- the type of the node at i, with at most d names opened inside one another
unfoldable pub type_at : List Node → ℕ → ℕ → PokeType
type_at nodes zero i = StructOf None false NoFields
type_at nodes (suc d) i = open_found (type_at nodes d) (slice_get nodes i)

-- the type of the node at i
unfoldable pub type_of : List Node → ℕ → PokeType
type_of nodes i = type_at nodes (suc i) i

abbrev pub FieldsBelow : ℕ → List Field → Type 0
FieldsBelow i fields = All (λ (f : Field). f.node < i) fields

abbrev pub PartsBelow : ℕ → List Part → Type 0
PartsBelow i parts = All (λ (p : Part). p.node < i) parts

-- a shape names only nodes below a place, and its widths and units are in their ranges
abbrev pub NamesBelow : ℕ → Shape → Type 0
NamesBelow i (shape.Integer type) = IsWidth type
NamesBelow i (shape.Offset type unit) = IsWidth type × (1 ≤ unit)
NamesBelow i shape.String = Unit {0}
NamesBelow i (shape.Array element bound) = element < i
NamesBelow i (shape.Struct name pinned fields) = FieldsBelow i fields.items
NamesBelow i (shape.Integral name number fields) = IsWidth number × PartsBelow i fields.items
NamesBelow i (shape.Union name alternatives) = PartsBelow i alternatives.items

-- the expressions of a field are sound
pub record IsSoundField (f : Field) : Type 0 where
  pub constraint : IsSoundClause (optional_term f.constraint)
  pub label : IsSoundClause (optional_term f.label)
  pub condition : IsSoundClause (optional_term f.condition)

pub record IsSoundPart (p : Part) : Type 0 where
  pub constraint : IsSoundClause (optional_term p.constraint)

-- the expressions of a shape are sound, and a union's alternatives no more than 2^16
abbrev pub IsSoundShape : Shape → Type 0
IsSoundShape (shape.Integer type) = Unit {0}
IsSoundShape (shape.Offset type unit) = Unit {0}
IsSoundShape shape.String = Unit {0}
IsSoundShape (shape.Array element bound) = IsSoundBound (bound_of bound)
IsSoundShape (shape.Struct name pinned fields) = All IsSoundField fields.items
IsSoundShape (shape.Integral name number fields) = All IsSoundPart fields.items
IsSoundShape (shape.Union name alternatives) = All IsSoundPart alternatives.items × (length alternatives.items ≤ 2 ^ 16)

-- each node names only nodes before it, its expressions are sound, and its type is no deeper than 64; there are at most
-- 2^32 nodes
pub record IsTable (nodes : List Node) : Type 0 where
  pub below : (i : ℕ) (node : Node) → slice_get nodes i ≡ Some node → NamesBelow i node.shape
  pub sound : (i : ℕ) (node : Node) → slice_get nodes i ≡ Some node → IsSoundShape node.shape
  pub deep : (i : ℕ) → i < length nodes → depth (type_of nodes i) ≤ 64
  pub few : length nodes ≤ 2 ^ 32

-- the nodes of the older table come first
pub record Grows (old new : List Node) : Type 0 where
  pub more : List Node
  pub is : new ≡ old ++ more
