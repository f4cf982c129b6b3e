-- The type that a form means, and the types that a pickle declares; or the rule that they break.
use Rattle.std.specs.Prelude.{ℕ, zero, suc, ◌+◌, length, List, [], ◌∷◌, ◌++◌, Option, Some, None, Result, Ok, Err, Bool, true, false, ◌&&◌, ◌||◌, nat_le, nat_eq, if◌then◌else◌}
use Rattle.pickle_tree.specs.declared.tree.Unit.{Unit as PokeUnit}
use Rattle.pickle_tree.specs.Tree.{Tree, TreeReference, Int, Uint, Called, FieldParts, FormTree, Plain, StringForm, OffsetForm, ArrayForm, StructForm, IntegralForm, UnionForm, FieldTrees, DeclarationTree}
use Rattle.pickle_tree.specs.Tree as tree
use Rattle.pickle_types.specs.declared.integer.IntegerType.{IntegerType}
use Rattle.pickle_types.specs.declared.fault.FaultKind.{FaultKind}
use Rattle.pickle_types.specs.declared.fault.FaultKind.TheVariants.{UnknownType, DuplicateType, DuplicateField, Mismatch, IntegralWidths, NotHere, TooDeep}
use Rattle.pickle_types.specs.declared.check.operators.Scalar.{Scalar}
use Rattle.pickle_types.specs.declared.check.operators.Scalar.TheVariants.{Integer, Offset}
use Rattle.pickle_types.specs.declared.check.enclosing.Enclosing.{Enclosing}
use Rattle.pickle_types.specs.declared.check.enclosing.Enclosing.TheVariants as enclosing
use Rattle.pickle_types.specs.Types.{Term, Bound, Unbounded, ByCount, BySize, PokeType, IntegerOf, OffsetOf, StringOf, ArrayOf, StructOf, IntegralOf, UnionOf, Fields, NoFields, FieldThen, Parts, NoParts, PartThen, depth}
use Rattle.pickle_types.specs.Scopes.{Visible, is_named, sees}
use Rattle.pickle_types.specs.Names.{Names, find_type}
use Rattle.pickle_types.specs.Operators.{number_in}
use Rattle.pickle_types.specs.Expressions.{◌>>=◌, or_wrong, scalar_type, operand_of, integer_or_wrong, in_range, integer_referred, offset_referred, typed}

-- a type that is no deeper than a number
abbrev pub limited : ℕ → PokeType → Result PokeType FaultKind
limited room t = if nat_le (depth t) room then Ok t else Err TooDeep

abbrev pub integer_type : Bool → ℕ → Result PokeType FaultKind
integer_type signed n = in_range signed n >>= λ t. Ok (IntegerOf t)

-- the type of a name, no deeper than a number
abbrev pub called : ℕ → List ℕ → Names → Result PokeType FaultKind
called room word names = or_wrong UnknownType (find_type word names) >>= limited room

-- the type that a reference names, no deeper than a number
abbrev pub plain : ℕ → Names → TreeReference → Result PokeType FaultKind
plain room names (Int n) = integer_type true n.value
plain room names (Uint n) = integer_type false n.value
plain room names (Called word) = called room word names

-- an expression that has to be an integer, if there is one
unfoldable pub integer_expression : Names → List Visible → ℕ → Option Tree → Result (Option Term) FaultKind
integer_expression names seen levels None = Ok None
integer_expression names seen levels (Some e) = do
  x ← typed names seen levels e
  w ← integer_or_wrong x.1
  Ok (Some x.0)

abbrev pub offset_in : Scalar → Result (Unit {0}) FaultKind
offset_in (Integer t) = Err Mismatch
offset_in (Offset t u) = Ok tt

-- an expression that has to be an offset, if there is one
unfoldable pub offset_expression : Names → List Visible → ℕ → Option Tree → Result (Option Term) FaultKind
offset_expression names seen levels None = Ok None
offset_expression names seen levels (Some e) = do
  x ← typed names seen levels e
  s ← or_wrong Mismatch (number_in (operand_of x.1))
  u ← offset_in s
  Ok (Some x.0)

abbrev pub bound_by : Scalar → Term → Bound
bound_by (Integer t) x = ByCount x
bound_by (Offset t u) x = BySize x

-- the bound of an array: a count or a size, if there is one
unfoldable pub bound_expression : Names → List Visible → ℕ → Option Tree → Result Bound FaultKind
bound_expression names seen levels None = Ok Unbounded
bound_expression names seen levels (Some e) = do
  x ← typed names seen levels e
  s ← or_wrong Mismatch (number_in (operand_of x.1))
  Ok (bound_by s x.0)

abbrev pub unless_found : Bool → Result (Unit {0}) FaultKind
unless_found false = Ok tt
unless_found true = Err DuplicateField

-- whether one of these names is that name
abbrev pub has_name : List ℕ → List (Option (List ℕ)) → Bool
has_name word [] = false
has_name word (n ∷ ns) = is_named n word || has_name word ns

-- no earlier field has this name
unfoldable pub fresh : Option (List ℕ) → List (Option (List ℕ)) → Result (Unit {0}) FaultKind
fresh None names = Ok tt
fresh (Some word) names = unless_found (has_name word names)

-- the width in bits of a type that an integral struct may have as a field, and that a prefix may come before
abbrev pub bit_width : PokeType → Option ℕ
bit_width (IntegerOf t) = Some t.width
bit_width (OffsetOf t u) = Some t.width
bit_width StringOf = None
bit_width (ArrayOf element bound) = None
bit_width (StructOf _ _ _) = None
bit_width (IntegralOf _ t _) = Some t.width
bit_width (UnionOf name alternatives) = None

abbrev pub has_some : {A : Type 0} → Option A → Bool
has_some None = false
has_some (Some x) = true

abbrev pub has_none : {A : Type 0} → Option A → Bool
has_none None = true
has_none (Some x) = false

-- whether a place allows a field with these parts, whose type has a width in bits or not
abbrev pub may_stand : Enclosing → Bool → FieldParts → Bool
may_stand enclosing.Struct bits parts = has_none parts.order || bits
may_stand enclosing.Pinned bits parts = (has_none parts.order || bits) && has_none parts.label
may_stand enclosing.Integral bits parts =
    bits && has_none parts.order && has_none parts.label && has_none parts.condition
may_stand enclosing.Union bits parts =
    (has_none parts.order || bits) && has_some parts.name && has_none parts.label && has_none parts.condition

abbrev pub if_here : Bool → Result (Unit {0}) FaultKind
if_here true = Ok tt
if_here false = Err NotHere

-- what comes after a field sees the field too, except in a union
abbrev pub after_field : Enclosing → List Visible → List Visible → List Visible
after_field enclosing.Struct before after = after
after_field enclosing.Pinned before after = after
after_field enclosing.Integral before after = after
after_field enclosing.Union before after = before

-- the place of a field in its frame; an alternative is alone in its frame
abbrev pub place_in : Enclosing → ℕ → ℕ
place_in enclosing.Struct n = n
place_in enclosing.Pinned n = n
place_in enclosing.Integral n = n
place_in enclosing.Union n = 0

-- what a field's constraint sees: also the field itself
abbrev pub with_itself : Enclosing → List Visible → ℕ → ℕ → FieldParts → PokeType → List Visible
with_itself place seen levels n parts t = sees seen levels (place_in place n) parts.name t

-- a field: its type, and what its parts mean
pub record FieldMeaning : Type 0 where
  pub type : PokeType
  pub constraint : Option Term
  pub label : Option Term
  pub condition : Option Term

-- a field of a type, after fields of these names
abbrev pub field_meaning : Names → Enclosing → List Visible → ℕ → List (Option (List ℕ)) → FieldParts →
    Result PokeType FaultKind → Result FieldMeaning FaultKind
field_meaning names place seen levels before parts type = do
  t ← type
  u ← if_here (may_stand place (has_some (bit_width t)) parts)
  v ← fresh parts.name before
  l ← offset_expression names seen (levels + 1) parts.label
  d ← integer_expression names seen (levels + 1) parts.condition
  c ← integer_expression names (with_itself place seen levels (length before) parts t) (levels + 1) parts.constraint
  Ok (record { type = t; constraint = c; label = l; condition = d })

abbrev pub field_then : FieldParts → FieldMeaning → Fields → Fields
field_then parts f fs = FieldThen parts.name parts.order f.type f.constraint f.label f.condition fs

-- the parts of fields that have neither labels nor conditions
abbrev pub parts_of : Fields → Parts
parts_of NoFields = NoParts
parts_of (FieldThen name order type constraint label condition rest) =
    PartThen name order type constraint (parts_of rest)

abbrev pub width_or_none : Option ℕ → ℕ
width_or_none None = 0
width_or_none (Some w) = w

abbrev pub total_width : Fields → ℕ
total_width NoFields = 0
total_width (FieldThen name order type constraint label condition rest) =
    width_or_none (bit_width type) + total_width rest

abbrev pub integral_type : Option (List ℕ) → IntegerType → Fields → Result PokeType FaultKind
integral_type title t fs =
    if nat_eq (total_width fs) t.width then Ok (IntegralOf title t (parts_of fs)) else Err IntegralWidths

abbrev pub if_some_alternative : FieldTrees → Result (Unit {0}) FaultKind
if_some_alternative tree.NoFields = Err NotHere
if_some_alternative (tree.FieldThen form parts rest) = Ok tt

abbrev pub struct_place : Bool → Enclosing
struct_place true = enclosing.Pinned
struct_place false = enclosing.Struct

abbrev pub offset_type : Names → TreeReference → PokeUnit → Result PokeType FaultKind
offset_type names r u = offset_referred names r u >>= λ s. Ok (scalar_type s)

unfoldable mutual
  -- the type that a form means, printed with a title and no deeper than a number
  pub meaning : Names → List Visible → ℕ → Option (List ℕ) → ℕ → FormTree → Result PokeType FaultKind
  meaning names seen levels title zero form = Err TooDeep
  meaning names seen levels title (suc room) (Plain r) = plain (suc room) names r
  meaning names seen levels title (suc room) StringForm = Ok StringOf
  meaning names seen levels title (suc room) (OffsetForm r u) = offset_type names r u
  meaning names seen levels title (suc room) (ArrayForm element bound) =
      meaning names seen (levels + 1) None room element >>= λ t.
      bound_expression names seen levels bound >>= λ b. Ok (ArrayOf t b)
  meaning names seen levels title (suc room) (StructForm pinned fields) =
      fields_meaning names (struct_place pinned) seen levels room [] fields >>= λ fs. Ok (StructOf title pinned fs)
  meaning names seen levels title (suc room) (IntegralForm r fields) =
      integer_referred names r >>= λ t.
      fields_meaning names enclosing.Integral seen levels room [] fields >>= integral_type title t
  meaning names seen levels title (suc room) (UnionForm alternatives) =
      if_some_alternative alternatives >>= λ u.
      fields_meaning names enclosing.Union seen levels room [] alternatives >>= λ fs. Ok (UnionOf title (parts_of fs))

  -- fields, after fields of these names
  pub fields_meaning : Names → Enclosing → List Visible → ℕ → ℕ → List (Option (List ℕ)) → FieldTrees →
      Result Fields FaultKind
  fields_meaning names place seen levels room before tree.NoFields = Ok NoFields
  fields_meaning names place seen levels room before (tree.FieldThen form parts rest) =
      field_meaning names place seen levels before parts (meaning names seen (levels + 1) None room form) >>= λ f.
      fields_meaning names place (after_field place seen (with_itself place seen levels (length before) parts f.type))
      levels room (before ++ parts.name ∷ []) rest >>= λ fs.
      Ok (field_then parts f fs)

abbrev pub unless_declared : Option PokeType → Result (Unit {0}) FaultKind
unless_declared None = Ok tt
unless_declared (Some t) = Err DuplicateType

-- the type that a declaration gives its name, after others
unfoldable pub declared_type : Names → DeclarationTree → Result PokeType FaultKind
declared_type names d = unless_declared (find_type d.name names) >>= λ u. meaning names [] 0 (Some d.name) 64 d.form

-- these names, and those of the declarations
unfoldable pub declared : Names → List DeclarationTree → Result Names FaultKind
declared names [] = Ok names
declared names (d ∷ ds) = declared_type names d >>= λ t. declared (names ++ (d.name, t) ∷ []) ds
