-- What the builder of a table has built.
use Rattle.std.specs.Prelude.{◌≡◌, ℕ, ◌+◌, ◌^◌, ◌<◌, ◌≤◌, length, List, [], ◌∷◌, ◌++◌, take, Option, Some, None, Result, Ok, Err, Bool, true, false, ◌&&◌, nat_le, All}
use denote.Bor.{Bor}
use Rattle.pickle_tree.specs.Tree.{FieldParts, FormTree, FieldTrees, DeclarationTree}
use Rattle.pickle_types.specs.declared.integer.IntegerType.{IntegerType}
use Rattle.pickle_types.specs.declared.fault.FaultKind.{FaultKind}
use Rattle.pickle_types.specs.declared.names.Declared.{Declared}
use Rattle.pickle_types.specs.declared.node.Field.{Field}
use Rattle.pickle_types.specs.declared.node.Node.{Node}
use Rattle.pickle_types.specs.declared.node.Shape.{Shape}
use Rattle.pickle_types.specs.declared.scopes.Seen.{Seen}
use Rattle.pickle_types.specs.declared.check.enclosing.Enclosing.{Enclosing}
use Rattle.pickle_types.specs.declared.check.enclosing.Enclosing.TheVariants as enclosing
use Rattle.pickle_types.specs.declared.check.field_list.FieldList.{FieldList}
use Rattle.pickle_types.specs.declared.check.builder.Builder.{Builder}
use Rattle.pickle_types.specs.declared.check.builder.Found.{Found}
use Rattle.pickle_types.specs.Types.{PokeType, IntegerOf, Fields, depth, fields_depth}
use Rattle.pickle_types.specs.Table.{name_of, type_of, fields_onto, open_fields, FieldsBelow, Grows}
use Rattle.pickle_types.specs.Scopes.{Visible}
use Rattle.pickle_types.specs.Names.{Names, find_type}
use Rattle.pickle_types.specs.Meaning.{after_field, with_itself, FieldMeaning, field_then}
use Rattle.pickle_types.specs.Built.{Fails, names_of, types_in, words_in, views_of, AreBelow, AddsName}
use Rattle.pickle_types.specs.Numbers.{Extends}
use Rattle.pickle_types.specs.DeclaredNodes.{field_nodes, IsFormNode, AreFormNodes, IsDeclaredNode, AreAtPlaces, HasMore}

-- the named types
abbrev pub known_types : Builder → Names
known_types b = names_of b.nodes b.names

-- the visible fields
abbrev pub visible_in : Builder → List Visible
visible_in b = views_of b.nodes b.seen

-- what comes after a field sees the field too, except in a union
abbrev pub after_itself : Enclosing → List Seen → Seen → List Seen
after_itself enclosing.Struct seen itself = seen ++ itself ∷ []
after_itself enclosing.Pinned seen itself = seen ++ itself ∷ []
after_itself enclosing.Integral seen itself = seen ++ itself ∷ []
after_itself enclosing.Union seen itself = seen

-- the table has capacity for `count` more nodes
abbrev pub HasRoom : Builder → ℕ → Type 0
HasRoom b count = length b.nodes + count ≤ 2 ^ 32

-- the table has at most `count` more nodes than it had
abbrev pub AddsAtMost : Builder → Builder → ℕ → Type 0
AddsAtMost old new count = length new.nodes ≤ length old.nodes + count

-- the table of a builder grew, and the builder knows the same types by their names
pub record Keeps (old new : Builder) : Type 0 where
  pub grows : Grows old.nodes new.nodes
  pub known : known_types new ≡ known_types old
  pub types : types_in new.names ≡ types_in old.names
  pub numbers : Extends (words_in old.names) (words_in new.names)

-- a node of a table that grew has a type
pub record IsBuilt (old new : Builder) (found : Found) (t : PokeType) : Type 0 where
  pub keeps : Keeps old new
  pub seen : new.seen ≡ old.seen
  pub inside : found.node < length new.nodes
  pub type : type_of new.nodes found.node ≡ t
  pub deep : found.depth ≡ depth t

-- a function built what the definition gives, unless memory ran out
abbrev pub Builds : Builder → Builder → Result Found FaultKind → Result PokeType FaultKind → Type 0
Builds old new (Ok found) given = (t : PokeType) × (given ≡ Ok t) × IsBuilt old new found t
Builds old new (Err e) given = Fails e given

-- one field is built, after others; what comes after it sees it, except in a union
pub record IsFieldBuilt (old new : Builder) (place : Enclosing) (levels index : ℕ) (parts : FieldParts) (field : Field)
    (f : FieldMeaning) : Type 0 where
  pub keeps : Keeps old new
  pub inside : field.node < length new.nodes
  pub name : name_of field.name ≡ parts.name
  pub type : type_of new.nodes field.node ≡ f.type
  pub opened : (rest : Fields) → fields_onto (type_of new.nodes) (field ∷ []) rest ≡ field_then parts f rest
  pub below : AreBelow (length new.nodes) (levels + 1) new.seen
  pub kept : take (length old.seen) new.seen ≡ old.seen
  pub seen : visible_in new
      ≡ after_field place (visible_in old) (with_itself place (visible_in old) levels index parts f.type)

abbrev pub FieldGives : Builder → Builder → Enclosing → ℕ → ℕ → FieldParts → Result Field FaultKind →
    Result FieldMeaning FaultKind → Type 0
FieldGives old new place levels index parts (Ok field) given =
    (f : FieldMeaning) × (given ≡ Ok f) × IsFieldBuilt old new place levels index parts field f
FieldGives old new place levels index parts (Err e) given = Fails e given

-- a field and the depth of its type
abbrev pub FieldBuilds : Builder → Builder → Enclosing → ℕ → ℕ → FieldParts → Result (Field × ℕ) FaultKind →
    Result FieldMeaning FaultKind → Type 0
FieldBuilds old new place levels index parts (Ok x) given =
    (f : FieldMeaning) × (given ≡ Ok f) × IsFieldBuilt old new place levels index parts x.0 f × (x.1 ≡ depth f.type)
FieldBuilds old new place levels index parts (Err e) given = Fails e given

pub record AreBuilt (old new : Builder) (fields : List Field) (deepest : ℕ) (fs : Fields) : Type 0 where
  pub keeps : Keeps old new
  pub seen : new.seen ≡ old.seen
  pub below : FieldsBelow (length new.nodes) fields
  pub opened : open_fields (type_of new.nodes) fields ≡ fs
  pub deep : deepest ≡ fields_depth fs

abbrev pub FieldsBuild : Builder → Builder → Result (FieldList × ℕ) FaultKind → Result Fields FaultKind → Type 0
FieldsBuild old new (Ok x) given = (fs : Fields) × (given ≡ Ok fs) × AreBuilt old new x.0.fields.items x.1 fs
FieldsBuild old new (Err e) given = Fails e given

abbrev pub with_front : (Fields → Fields) → Result Fields FaultKind → Result Fields FaultKind
with_front f (Ok fs) = Ok (f fs)
with_front f (Err e) = Err e

-- some fields are built; the definition gives the others as `rest`
pub record FieldsSoFar (old new : Builder) (fields : List Field) (deepest : ℕ)
    (whole rest : Result Fields FaultKind) : Type 0 where
  pub keeps : Keeps old new
  pub below : FieldsBelow (length new.nodes) fields
  pub given : whole ≡ with_front (fields_onto (type_of new.nodes) fields) rest
  pub deep : deepest ≡ fields_depth (open_fields (type_of new.nodes) fields)

-- the type and the name that a declaration added
abbrev pub AddsType : Builder → Builder → List ℕ → Result ℕ FaultKind → Result PokeType FaultKind → Type 0
AddsType old new name (Ok node) given =
    (t : PokeType) × (given ≡ Ok t) × (known_types new ≡ known_types old ++ (name, t) ∷ []) × (new.seen ≡ [])
AddsType old new name (Err e) given = Fails e given

-- integer types with their names
abbrev pub named_types : List (Bor (List ℕ) × IntegerType) → Names
named_types [] = []
named_types (p ∷ ps) = (p.0.now, IntegerOf p.1) ∷ named_types ps

abbrev pub is_unknown : Option PokeType → Bool
is_unknown None = true
is_unknown (Some t) = false

-- whether these names are new, each after those before it, with widths from 1 to 64
abbrev pub may_add : Names → List (Bor (List ℕ) × IntegerType) → Bool
may_add names [] = true
may_add names (p ∷ ps) = is_unknown (find_type p.0.now names) && nat_le 1 p.1.width && nat_le p.1.width 64
    && may_add (names ++ (p.0.now, IntegerOf p.1) ∷ []) ps

-- ---- the nodes of declared types

-- as many types have names as there are nodes, and each has the node of its place
pub record IsInStep (b : Builder) : Type 0 where
  pub count : length (types_in b.names) ≡ length b.nodes
  pub order : AreAtPlaces (types_in b.names)

-- a node of this shape came last
pub record IsLastNode (old new : List Node) (i : ℕ) (shape : Shape) : Type 0 where
  pub place : i ≡ length old
  pub node : Node
  pub shaped : node.shape ≡ shape
  pub is : new ≡ old ++ node ∷ []

-- the node is that of a type as it is written
abbrev pub HasFormNode : Builder → FormTree → ℕ → Type 0
HasFormNode b form i = IsFormNode b.nodes (types_in b.names) form i

abbrev pub HaveFormNodes : Builder → FieldTrees → List Field → Type 0
HaveFormNodes b written fields = AreFormNodes b.nodes (types_in b.names) written (field_nodes fields)

-- one more name, of that node
abbrev pub NamesNode : Builder → Builder → List ℕ → ℕ → Type 0
NamesNode old new word i = (d : Declared) × (d.node ≡ i) × AddsName (types_in old.names) (types_in new.names) word d

-- the table grew, and more types have names
pub record Continues (old new : Builder) : Type 0 where
  pub nodes : Grows old.nodes new.nodes
  pub types : HasMore (types_in old.names) (types_in new.names)

-- the declared name has the node of its declaration
pub record DeclaresNode (old new : Builder) (d : DeclarationTree) : Type 0 where
  pub on : Continues old new
  pub declared : IsDeclaredNode new.nodes (types_in new.names) d

pub record DeclaresNodes (old new : Builder) (ds : List DeclarationTree) : Type 0 where
  pub on : Continues old new
  pub declared : All (IsDeclaredNode new.nodes (types_in new.names)) ds
