-- Which node each part of a declared type has: a part that is written as a name has the node of that name. So the chars
-- are the parts that are written as `char`, or as a name that is declared as `char`.
use Rattle.std.specs.Prelude.{◌≡◌, ℕ, ◌<◌, length, List, [], ◌∷◌, ◌++◌, map, Option, Some, None, slice_get}
use Rattle.std.specs.Option.{option_map}
use Rattle.pickle_tree.specs.Tree.{TreeReference, Int, Uint, Called, FormTree, Plain, StringForm, OffsetForm, ArrayForm, StructForm, IntegralForm, UnionForm, FieldTrees, NoFields, FieldThen, DeclarationTree}
use Rattle.pickle_types.specs.declared.names.Declared.{Declared}
use Rattle.pickle_types.specs.declared.names.Named.{Named}
use Rattle.pickle_types.specs.declared.node.Field.{Field}
use Rattle.pickle_types.specs.declared.node.Part.{Part}
use Rattle.pickle_types.specs.declared.node.Node.{Node}
use Rattle.pickle_types.specs.declared.node.Shape.{Shape}
use Rattle.pickle_types.specs.declared.node.Shape.TheVariants as shape
use Rattle.pickle_types.specs.Table.{type_of}
use Rattle.pickle_types.specs.Built.{declared_as}

-- the node of the type of that name
abbrev pub node_called : List Named → List ℕ → Option ℕ
node_called types word = option_map (λ (d : Declared). d.node) (declared_as word types)

-- the nodes of the fields of a struct
abbrev pub field_nodes : List Field → List ℕ
field_nodes fields = map (λ (f : Field). f.node) fields

abbrev pub alternative_nodes : List Part → List ℕ
alternative_nodes parts = map (λ (p : Part). p.node) parts

-- the nodes of the parts of a type, in order
abbrev pub part_nodes : Shape → List ℕ
part_nodes (shape.Integer type) = []
part_nodes (shape.Offset type unit) = []
part_nodes shape.String = []
part_nodes (shape.Array element bound) = element ∷ []
part_nodes (shape.Struct name pinned fields) = field_nodes fields.items
part_nodes (shape.Integral name type fields) = alternative_nodes fields.items
part_nodes (shape.Union name alternatives) = alternative_nodes alternatives.items

-- there is a node, and the nodes of its parts are as P says
abbrev pub HasParts : Option Node → (List ℕ → Type 0) → Type 0
HasParts None P = ⊥
HasParts (Some node) P = P (part_nodes node.shape)

abbrev pub IsOnly : (ℕ → Type 0) → List ℕ → Type 0
IsOnly P [] = ⊥
IsOnly P (i ∷ []) = P i
IsOnly P (i ∷ j ∷ is) = ⊥

-- the node of a type that is written `int<N>` or `uint<N>`: of the nodes of the 18 predeclared types, which are the
-- first, it can only be the first of that type; `char` is after `byte`, so it is never that of `char`
pub record IsWritten (nodes : List Node) (i : ℕ) : Type 0 where
  pub inside : i < length nodes
  pub first : (j : ℕ) → j < i → i < 18 → type_of nodes j ≡ type_of nodes i → ⊥

module _ (nodes : List Node) (types : List Named) where
  abbrev pub IsReferred : TreeReference → ℕ → Type 0
  IsReferred (Int width) i = IsWritten nodes i
  IsReferred (Uint width) i = IsWritten nodes i
  IsReferred (Called word) i = node_called types word ≡ Some i

  abbrev mutual
    -- the node is that of a type as it is written
    pub IsFormNode : FormTree → ℕ → Type 0
    IsFormNode (Plain r) i = IsReferred r i
    IsFormNode StringForm i = Unit {0}
    IsFormNode (OffsetForm r unit) i = Unit {0}
    IsFormNode (ArrayForm element bound) i = HasParts (slice_get nodes i) (IsOnly (λ e. IsFormNode element e))
    IsFormNode (StructForm pinned fields) i = HasParts (slice_get nodes i) (λ is. AreFormNodes fields is)
    IsFormNode (IntegralForm r fields) i = HasParts (slice_get nodes i) (λ is. AreFormNodes fields is)
    IsFormNode (UnionForm fields) i = HasParts (slice_get nodes i) (λ is. AreFormNodes fields is)

    -- the nodes are those of fields as they are written
    pub AreFormNodes : FieldTrees → List ℕ → Type 0
    AreFormNodes NoFields [] = Unit {0}
    AreFormNodes NoFields (i ∷ is) = ⊥
    AreFormNodes (FieldThen form parts rest) [] = ⊥
    AreFormNodes (FieldThen form parts rest) (i ∷ is) = IsFormNode form i × AreFormNodes rest is

  -- a declared name has the node of its declaration
  pub record IsDeclaredNode (d : DeclarationTree) : Type 0 where
    pub node : ℕ
    pub called : node_called types d.name ≡ Some node
    pub form : IsFormNode d.form node

-- each name has the node of its place
abbrev pub AreAtPlaces : List Named → Type 0
AreAtPlaces types = (k : ℕ) (named : Named) → slice_get types k ≡ Some named → named.declared.node ≡ k

-- more types have names, after the others
pub record HasMore (old new : List Named) : Type 0 where
  pub more : List Named
  pub is : new ≡ old ++ more
