-- The type of an expression, with its names resolved; or the rule that it breaks.
use Rattle.std.specs.Prelude.{ℕ, ◌+◌, ◌-◌, ◌^◌, List, Option, Some, None, Result, Ok, Err, Bool, true, false, ◌&&◌, nat_le, nat_lt, if◌then◌else◌}
use Rattle.pickle_tree.specs.declared.tree.Number.{Number as Numeral}
use Rattle.pickle_tree.specs.declared.tree.Attribute.TheVariants.{Length, Size}
use Rattle.pickle_tree.specs.declared.tree.Prefix.{Prefix}
use Rattle.pickle_tree.specs.declared.tree.Infix.{Infix}
use Rattle.pickle_tree.specs.declared.tree.Unit.{Unit as PokeUnit}
use Rattle.pickle_tree.specs.declared.tree.Unit.TheVariants as unit
use Rattle.pickle_tree.specs.Tree.{Tree, TreeReference, Int, Uint, Called, TreeTarget, ToReference, TreeSuffix}
use Rattle.pickle_tree.specs.Tree as tree
use Rattle.pickle_types.specs.declared.integer.IntegerType.{IntegerType}
use Rattle.pickle_types.specs.declared.fault.FaultKind.{FaultKind}
use Rattle.pickle_types.specs.declared.fault.FaultKind.TheVariants.{UnknownType, UnknownName, Mismatch, Width}
use Rattle.pickle_types.specs.declared.check.operators.Scalar.{Scalar}
use Rattle.pickle_types.specs.declared.check.operators.Scalar.TheVariants.{Integer, Offset}
use Rattle.pickle_types.specs.declared.check.operators.Operand.{Operand}
use Rattle.pickle_types.specs.declared.check.operators.Operand.TheVariants as operand
use Rattle.pickle_types.specs.Types.{Term, PokeType, IntegerOf, OffsetOf, StringOf, ArrayOf, StructOf, IntegralOf, UnionOf, Fields, NoFields, FieldThen, Parts, NoParts, PartThen}
use Rattle.pickle_types.specs.Types as types
use Rattle.pickle_types.specs.Scopes.{Visible, is_named, resolve}
use Rattle.pickle_types.specs.Names.{Names, find_type}
use Rattle.pickle_types.specs.Operators.{whole, before, between, choice, integer_operand, number_in}

infixl 10 ◌>>=◌
abbrev pub ◌>>=◌ : {A B : Type 0} → Result A FaultKind → (A → Result B FaultKind) → Result B FaultKind
(Ok x) >>= f = f x
(Err e) >>= f = Err e

abbrev pub or_wrong : {A : Type 0} → FaultKind → Option A → Result A FaultKind
or_wrong kind None = Err kind
or_wrong kind (Some x) = Ok x

-- the sort of an expression: a text literal, or a value of a type
pub data Sort : Type 0 where
  TextLiteral : Sort
  Typed : (type : PokeType) → Sort

abbrev pub scalar_type : Scalar → PokeType
scalar_type (Integer t) = IntegerOf t
scalar_type (Offset t u) = OffsetOf t u

abbrev pub scalar_sort : Scalar → Sort
scalar_sort s = Typed (scalar_type s)

-- what matters to an operator about a type
abbrev pub type_operand : PokeType → Operand
type_operand (IntegerOf t) = operand.Number (Integer t)
type_operand (OffsetOf t u) = operand.Number (Offset t u)
type_operand StringOf = operand.String
type_operand (ArrayOf element bound) = operand.Other
type_operand (StructOf _ _ _) = operand.Other
type_operand (IntegralOf _ _ _) = operand.Other
type_operand (UnionOf name alternatives) = operand.Other

abbrev pub operand_of : Sort → Operand
operand_of TextLiteral = operand.Text
operand_of (Typed t) = type_operand t

abbrev pub type_in : Sort → Option PokeType
type_in TextLiteral = None
type_in (Typed t) = Some t

abbrev pub element_in : PokeType → Option PokeType
element_in (IntegerOf t) = None
element_in (OffsetOf t u) = None
element_in StringOf = None
element_in (ArrayOf element bound) = Some element
element_in (StructOf _ _ _) = None
element_in (IntegralOf _ _ _) = None
element_in (UnionOf name alternatives) = None

abbrev pub sort_element : Sort → Option PokeType
sort_element TextLiteral = None
sort_element (Typed t) = element_in t

-- the place and the type of a field of that name
abbrev pub find_field : ℕ → List ℕ → Fields → Option (ℕ × PokeType)
find_field at word NoFields = None
find_field at word (FieldThen name order type constraint label condition rest) =
    if is_named name word then Some (at, type) else find_field (at + 1) word rest

abbrev pub find_part : ℕ → List ℕ → Parts → Option (ℕ × PokeType)
find_part at word NoParts = None
find_part at word (PartThen name order type constraint rest) =
    if is_named name word then Some (at, type) else find_part (at + 1) word rest

abbrev pub field_in : List ℕ → PokeType → Result (ℕ × PokeType) FaultKind
field_in word (IntegerOf t) = Err Mismatch
field_in word (OffsetOf t u) = Err Mismatch
field_in word StringOf = Err Mismatch
field_in word (ArrayOf element bound) = Err Mismatch
field_in word (StructOf name pinned fs) = or_wrong UnknownName (find_field 0 word fs)
field_in word (IntegralOf name type ps) = or_wrong UnknownName (find_part 0 word ps)
field_in word (UnionOf name ps) = or_wrong UnknownName (find_part 0 word ps)

abbrev pub sort_field : List ℕ → Sort → Result (ℕ × PokeType) FaultKind
sort_field word TextLiteral = Err Mismatch
sort_field word (Typed t) = field_in word t

abbrev pub integer_or_wrong : Sort → Result IntegerType FaultKind
integer_or_wrong s = or_wrong Mismatch (integer_operand (operand_of s))

-- an integer type of a width from 1 to 64
abbrev pub in_range : Bool → ℕ → Result IntegerType FaultKind
in_range signed n = if nat_le 1 n && nat_le n 64 then Ok (whole n signed) else Err Width

-- the type that a reference names
abbrev pub referred : Names → TreeReference → Result PokeType FaultKind
referred names (Int n) = in_range true n.value >>= λ t. Ok (IntegerOf t)
referred names (Uint n) = in_range false n.value >>= λ t. Ok (IntegerOf t)
referred names (Called word) = or_wrong UnknownType (find_type word names)

-- what matters to an operator about the type that a reference names
abbrev pub operand_referred : Names → TreeReference → Result Operand FaultKind
operand_referred names r = referred names r >>= λ t. Ok (type_operand t)

abbrev pub integer_referred : Names → TreeReference → Result IntegerType FaultKind
integer_referred names r = operand_referred names r >>= λ o. or_wrong Mismatch (integer_operand o)

-- the bits of a unit, from 1 to 4,294,967,295
abbrev pub unit_bits : PokeUnit → Result ℕ FaultKind
unit_bits unit.Bit = Ok 1
unit_bits unit.Byte = Ok 8
unit_bits (unit.Bits n) = if nat_le 1 n.value && nat_le n.value 4294967295 then Ok n.value else Err Width

abbrev pub offset_referred : Names → TreeReference → PokeUnit → Result Scalar FaultKind
offset_referred names r u = integer_referred names r >>= λ t. unit_bits u >>= λ n. Ok (Offset t n)

-- the type that `as` converts to
abbrev pub target_type : Names → TreeTarget → Result Scalar FaultKind
target_type names (ToReference r) = operand_referred names r >>= λ o. or_wrong Mismatch (number_in o)
target_type names (tree.ToOffset r u) = offset_referred names r u

-- a conversion, of an integer to an integer or of an offset to an offset
abbrev pub converted : Scalar → Scalar → Term → Option Term
converted (Integer t) (Integer a) x = Some (types.ToInteger t x)
converted (Integer t) (Offset a u) x = None
converted (Offset t n) (Integer a) x = None
converted (Offset t n) (Offset a u) x = Some (types.ToOffset t n x)

-- whether an expression is a path: a name, a field or an element of a path, or a path in brackets
abbrev pub is_path : Tree → Bool
is_path (tree.Literal n) = false
is_path (tree.Character b) = false
is_path (tree.Text bytes) = false
is_path (tree.Name word) = true
is_path (tree.Bracket e) = is_path e
is_path (tree.Before op e) = false
is_path (tree.Between op a b) = false
is_path (tree.Choice c x y) = false
is_path (tree.Index e i) = is_path e
is_path (tree.After e (tree.Select word)) = is_path e
is_path (tree.After e (tree.AttributeOf attribute)) = false
is_path (tree.After e (tree.InUnit u)) = false
is_path (tree.After e (tree.Convert target)) = false

-- the integer types in which a choice is computed: only one between integers converts
abbrev pub common_in : Scalar → Option IntegerType
common_in (Integer t) = Some t
common_in (Offset t u) = None

abbrev pub if_path : Bool → Result (Unit {0}) FaultKind
if_path true = Ok tt
if_path false = Err Mismatch

-- an expression with its names resolved, and its sort
abbrev pub Meant : Type 0
Meant = Term × Sort

-- the result of each suffix, from its operand
abbrev pub selection : List ℕ → Meant → Result Meant FaultKind
selection word x = sort_field word x.1 >>= λ f. Ok (types.Select x.0 f.0, Typed f.1)

abbrev pub length_of : Meant → Result Meant FaultKind
length_of x =
    or_wrong Mismatch (sort_element x.1) >>= λ t. Ok (types.AttributeOf Length x.0, Typed (IntegerOf (whole 64 false)))

abbrev pub size_of : Bool → Meant → Result Meant FaultKind
size_of path x = if_path path >>= λ u. Ok (types.AttributeOf Size x.0, Typed (OffsetOf (whole 64 false) 1))

abbrev pub in_unit : PokeUnit → Meant → Result Meant FaultKind
in_unit u x = integer_or_wrong x.1 >>= λ t. unit_bits u >>= λ n. Ok (types.InUnit n x.0, Typed (OffsetOf t n))

abbrev pub conversion : Names → TreeTarget → Meant → Result Meant FaultKind
conversion names target x =
    or_wrong Mismatch (number_in (operand_of x.1)) >>= λ a. target_type names target >>= λ t.
    or_wrong Mismatch (converted t a x.0) >>= λ y. Ok (y, scalar_sort t)

-- the result of a suffix, from its operand, which is a path or not
abbrev pub suffixed : Names → Bool → TreeSuffix → Meant → Result Meant FaultKind
suffixed names path (tree.Select word) x = selection word x
suffixed names path (tree.AttributeOf Length) x = length_of x
suffixed names path (tree.AttributeOf Size) x = size_of path x
suffixed names path (tree.InUnit u) x = in_unit u x
suffixed names path (tree.Convert target) x = conversion names target x

abbrev pub text_meant : List ℕ → Meant
text_meant bytes = (types.Text bytes, TextLiteral)

-- how many bits of a type are for the value of a number; a literal has no sign
abbrev pub value_bits : Bool → ℕ → ℕ
value_bits true width = width - 1
value_bits false width = width

-- whether a number's type has a width from 1 to 64, and holds its value
abbrev pub is_held : Numeral → Bool
is_held n = nat_le 1 n.width && nat_le n.width 64 && nat_lt n.value (2 ^ value_bits n.signed n.width)

abbrev pub number_meant : Numeral → Result Meant FaultKind
number_meant n = if is_held n
    then Ok (types.Number (whole n.width n.signed) n.value, Typed (IntegerOf (whole n.width n.signed))) else Err Width

abbrev pub character_meant : ℕ → Meant
character_meant b = (types.Number (whole 8 false) b, Typed (IntegerOf (whole 8 false)))

abbrev pub name_meant : ℕ → Visible → Meant
name_meant levels v = (types.Name (levels - 1 - v.level) v.place, Typed v.type)

abbrev pub resolved : List Visible → ℕ → List ℕ → Result Meant FaultKind
resolved seen levels word = or_wrong UnknownName (resolve word seen) >>= λ v. Ok (name_meant levels v)

-- the result of a bracket or an operator, from its operands
abbrev pub bracketed : Meant → Result Meant FaultKind
bracketed x = or_wrong Mismatch (type_in x.1) >>= λ t. Ok (types.Bracket x.0, Typed t)

abbrev pub prefixed : Prefix → Meant → Result Meant FaultKind
prefixed op x = or_wrong Mismatch (before op (operand_of x.1)) >>= λ s. Ok (types.Before op x.0, scalar_sort s)

abbrev pub infixed : Infix → Meant → Meant → Result Meant FaultKind
infixed op x y = or_wrong Mismatch (between op (operand_of x.1) (operand_of y.1)) >>= λ s.
    Ok (types.Between op x.0 y.0, scalar_sort s)

abbrev pub selected : Meant → Meant → Meant → Result Meant FaultKind
selected z x y = or_wrong Mismatch (choice (operand_of x.1) (operand_of y.1)) >>= λ s.
    Ok (types.Choice (common_in s) z.0 x.0 y.0, scalar_sort s)

abbrev pub indexed : Meant → PokeType → Meant → Result Meant FaultKind
indexed x t y = integer_or_wrong y.1 >>= λ w. Ok (types.Index x.0 y.0, Typed t)

-- an expression with its names resolved, and its sort, where these fields are visible and so many frames are open
unfoldable pub typed : Names → List Visible → ℕ → Tree → Result Meant FaultKind
typed names seen levels (tree.Literal n) = number_meant n
typed names seen levels (tree.Character b) = Ok (character_meant b)
typed names seen levels (tree.Text bytes) = Ok (text_meant bytes)
typed names seen levels (tree.Name word) = resolved seen levels word
typed names seen levels (tree.Bracket e) = typed names seen levels e >>= bracketed
typed names seen levels (tree.Before op e) = typed names seen levels e >>= prefixed op
typed names seen levels (tree.Between op a b) =
    typed names seen levels a >>= λ x. typed names seen levels b >>= infixed op x
typed names seen levels (tree.Choice c a b) =
    typed names seen levels c >>= λ z. integer_or_wrong z.1 >>= λ w. typed names seen levels a >>= λ x.
    typed names seen levels b >>= selected z x
typed names seen levels (tree.Index e i) = typed names seen levels e >>= λ x.
    or_wrong Mismatch (sort_element x.1) >>= λ t. typed names seen levels i >>= indexed x t
typed names seen levels (tree.After e suffix) = typed names seen levels e >>= suffixed names (is_path e) suffix
