-- Types as finite trees. Named types are opened, and each name in an expression is replaced by what it means.
use Rattle.std.specs.Prelude.{ℕ, ◌+◌, max, length, Bool, List, Option, Some, None}
use Rattle.pickle_tree.specs.declared.tree.Attribute.{Attribute}
use Rattle.pickle_tree.specs.declared.tree.Prefix.{Prefix}
use Rattle.pickle_tree.specs.declared.tree.Infix.{Infix}
use Rattle.pickle_tree.specs.declared.tree.ByteOrder.{ByteOrder}
use Rattle.pickle_types.specs.declared.integer.IntegerType.{IntegerType}

-- An expression with its names resolved. A name is a frame, counted from the innermost, and a place in it. Each array,
-- struct, integral struct or union that is being mapped has one frame.
pub data Term : Type 0 where
  -- a number or character, and its type
  Number : (type : IntegerType) (value : ℕ) → Term
  Text : (bytes : List ℕ) → Term
  Name : (level place : ℕ) → Term
  Bracket : (e : Term) → Term
  Before : (op : Prefix) (e : Term) → Term
  Between : (op : Infix) (a b : Term) → Term
  -- the type that both sides are converted to, where the choice is between integers
  Choice : (common : Option IntegerType) (c x y : Term) → Term
  Index : (e i : Term) → Term
  Select : (e : Term) (place : ℕ) → Term
  AttributeOf : (attribute : Attribute) (e : Term) → Term
  ToInteger : (type : IntegerType) (e : Term) → Term
  ToOffset : (type : IntegerType) (unit : ℕ) (e : Term) → Term
  InUnit : (unit : ℕ) (e : Term) → Term

-- how many elements an array has: no bound, a count, or a size
pub data Bound : Type 0 where
  Unbounded : Bound
  ByCount : (e : Term) → Bound
  BySize : (e : Term) → Bound

mutual
  -- a type, with the types that it names opened
  pub data PokeType : Type 0 where
    IntegerOf : (type : IntegerType) → PokeType
    -- an offset: its magnitude's type, and its unit in bits
    OffsetOf : (type : IntegerType) (unit : ℕ) → PokeType
    StringOf : PokeType
    ArrayOf : (element : PokeType) (bound : Bound) → PokeType
    -- the name is the one that it is printed with
    StructOf : (name : Option (List ℕ)) (pinned : Bool) (fields : Fields) → PokeType
    -- a struct that is read as one integer
    IntegralOf : (name : Option (List ℕ)) (type : IntegerType) (fields : Parts) → PokeType
    UnionOf : (name : Option (List ℕ)) (alternatives : Parts) → PokeType

  -- the fields of a struct
  pub data Fields : Type 0 where
    NoFields : Fields
    FieldThen : (name : Option (List ℕ)) (order : Option ByteOrder) (type : PokeType)
        (constraint label condition : Option Term) (rest : Fields) → Fields

  -- the alternatives of a union, or the fields of an integral struct
  pub data Parts : Type 0 where
    NoParts : Parts
    PartThen : (name : Option (List ℕ)) (order : Option ByteOrder) (type : PokeType) (constraint : Option Term)
        (rest : Parts) → Parts

unfoldable mutual
  -- the depth of a type: 1 for a scalar or a struct of no fields, else one more than its deepest part
  pub depth : PokeType → ℕ
  depth (IntegerOf type) = 1
  depth (OffsetOf type unit) = 1
  depth StringOf = 1
  depth (ArrayOf element bound) = 1 + depth element
  depth (StructOf name pinned fields) = 1 + fields_depth fields
  depth (IntegralOf name type fields) = 1 + parts_depth fields
  depth (UnionOf name alternatives) = 1 + parts_depth alternatives

  pub fields_depth : Fields → ℕ
  fields_depth NoFields = 0
  fields_depth (FieldThen name order type constraint label condition rest) = max (depth type) (fields_depth rest)

  pub parts_depth : Parts → ℕ
  parts_depth NoParts = 0
  parts_depth (PartThen name order type constraint rest) = max (depth type) (parts_depth rest)

-- the weight of an expression: how many syntax nodes it has, and the bytes of the texts in it
abbrev pub weight : Term → ℕ
weight (Number type value) = 1
weight (Text bytes) = 1 + length bytes
weight (Name level place) = 1
weight (Bracket e) = 1 + weight e
weight (Before op e) = 1 + weight e
weight (Between op a b) = 1 + (weight a + weight b)
weight (Choice common c x y) = 1 + (weight c + (weight x + weight y))
weight (Index e i) = 1 + (weight e + weight i)
weight (Select e place) = 1 + weight e
weight (AttributeOf attribute e) = 1 + weight e
weight (ToInteger type e) = 1 + weight e
weight (ToOffset type unit e) = 1 + weight e
weight (InUnit unit e) = 1 + weight e

abbrev pub optional_weight : Option Term → ℕ
optional_weight None = 0
optional_weight (Some e) = weight e

abbrev pub bound_weight : Bound → ℕ
bound_weight Unbounded = 0
bound_weight (ByCount e) = weight e
bound_weight (BySize e) = weight e
