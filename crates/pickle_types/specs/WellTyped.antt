-- When expressions, types and pickles are well typed, and what they then mean: the rules, one constructor for each.
use Rattle.std.specs.Prelude.{◌≡◌, ℕ, ◌+◌, ◌-◌, ◌<◌, ◌≤◌, ◌^◌, length, List, [], ◌∷◌, ◌++◌, Option, Some, None, Bool, true, false}
use Rattle.std.specs.Int.{IsGcd}
use Rattle.pickle_tree.specs.declared.tree.Attribute.TheVariants.{Length, Size}
use Rattle.pickle_tree.specs.declared.tree.Number.{Number as Numeral}
use Rattle.pickle_tree.specs.declared.tree.ByteOrder.{ByteOrder}
use Rattle.pickle_tree.specs.declared.tree.Prefix.{Prefix}
use Rattle.pickle_tree.specs.declared.tree.Prefix.TheVariants.{Plus, Minus, Complement, Not}
use Rattle.pickle_tree.specs.declared.tree.Infix.{Infix}
use Rattle.pickle_tree.specs.declared.tree.Infix.TheVariants.{LogicalOr, LogicalAnd, BitOr, BitXor, BitAnd, Equal, NotEqual, Less, LessEqual, Greater, GreaterEqual, ShiftLeft, ShiftRight, Add, Subtract, Multiply, Divide, Remainder}
use Rattle.pickle_tree.specs.declared.tree.Unit.{Unit as PokeUnit}
use Rattle.pickle_tree.specs.declared.tree.Unit.TheVariants as unit
use Rattle.pickle_tree.specs.Tree.{Tree, TreeReference, Int, Uint, Called, TreeTarget, ToReference, FieldParts, FormTree, Plain, StringForm, OffsetForm, ArrayForm, StructForm, IntegralForm, UnionForm, FieldTrees, DeclarationTree}
use Rattle.pickle_tree.specs.Tree as tree
use Rattle.pickle_types.specs.declared.integer.IntegerType.{IntegerType}
use Rattle.pickle_types.specs.declared.check.enclosing.Enclosing.{Enclosing}
use Rattle.pickle_types.specs.declared.check.enclosing.Enclosing.TheVariants as enclosing
use Rattle.pickle_types.specs.Types.{Term, Bound, Unbounded, ByCount, BySize, PokeType, IntegerOf, OffsetOf, StringOf, ArrayOf, StructOf, IntegralOf, UnionOf, Fields, NoFields, FieldThen, Parts, NoParts, PartThen, depth}
use Rattle.pickle_types.specs.Types as types
use Rattle.pickle_types.specs.Scopes.{Visible, resolve}
use Rattle.pickle_types.specs.Names.{Names, find_type}
use Rattle.pickle_types.specs.Operators.{whole, truth, common}
use Rattle.pickle_types.specs.Expressions.{Sort, TextLiteral, Typed, value_bits, find_field, find_part}
use Rattle.pickle_types.specs.Meaning.{has_name, with_itself, after_field, struct_place, parts_of, total_width}

-- operators on integers, whose result has the common type
pub data IsArithmetic : Infix → Type 0 where
  add : IsArithmetic Add
  subtract : IsArithmetic Subtract
  multiply : IsArithmetic Multiply
  divide : IsArithmetic Divide
  remainder : IsArithmetic Remainder
  and_bits : IsArithmetic BitAnd
  or_bits : IsArithmetic BitOr
  xor_bits : IsArithmetic BitXor

-- operators on integers, whose result is true or false
pub data IsLogical : Infix → Type 0 where
  both : IsLogical LogicalAnd
  either : IsLogical LogicalOr

pub data IsShift : Infix → Type 0 where
  left : IsShift ShiftLeft
  right : IsShift ShiftRight

pub data IsEquality : Infix → Type 0 where
  same : IsEquality Equal
  different : IsEquality NotEqual

pub data IsComparison : Infix → Type 0 where
  equality : {op : Infix} → IsEquality op → IsComparison op
  less : IsComparison Less
  at_most : IsComparison LessEqual
  greater : IsComparison Greater
  at_least : IsComparison GreaterEqual

-- operators on two offsets, whose result has the greatest common divisor of their units
pub data IsOffsetSum : Infix → Type 0 where
  add : IsOffsetSum Add
  subtract : IsOffsetSum Subtract
  remainder : IsOffsetSum Remainder

-- the types of the operands of an operator, and that of its result
pub data InfixRule : Infix → Sort → Sort → PokeType → Type 0 where
  arithmetic : {op : Infix} {v w : IntegerType} → IsArithmetic op →
      InfixRule op (Typed (IntegerOf v)) (Typed (IntegerOf w)) (IntegerOf (common v w))
  logical : {op : Infix} {v w : IntegerType} → IsLogical op →
      InfixRule op (Typed (IntegerOf v)) (Typed (IntegerOf w)) (IntegerOf truth)
  shift : {op : Infix} {v w : IntegerType} → IsShift op →
      InfixRule op (Typed (IntegerOf v)) (Typed (IntegerOf w)) (IntegerOf v)
  compare_integers : {op : Infix} {v w : IntegerType} → IsComparison op →
      InfixRule op (Typed (IntegerOf v)) (Typed (IntegerOf w)) (IntegerOf truth)
  compare_offsets : {op : Infix} {v w : IntegerType} {m n : ℕ} → IsComparison op →
      InfixRule op (Typed (OffsetOf v m)) (Typed (OffsetOf w n)) (IntegerOf truth)
  text_right : {op : Infix} → IsEquality op → InfixRule op (Typed StringOf) TextLiteral (IntegerOf truth)
  text_left : {op : Infix} → IsEquality op → InfixRule op TextLiteral (Typed StringOf) (IntegerOf truth)
  offset_sum : {op : Infix} {v w : IntegerType} {m n : ℕ} (g : ℕ) → IsOffsetSum op → IsGcd m n g →
      InfixRule op (Typed (OffsetOf v m)) (Typed (OffsetOf w n)) (OffsetOf (common v w) g)
  scale_right : {v w : IntegerType} {n : ℕ} →
      InfixRule Multiply (Typed (IntegerOf v)) (Typed (OffsetOf w n)) (OffsetOf (common v w) n)
  scale_left : {v w : IntegerType} {m : ℕ} →
      InfixRule Multiply (Typed (OffsetOf v m)) (Typed (IntegerOf w)) (OffsetOf (common v w) m)
  offset_quotient : {v w : IntegerType} {m n : ℕ} →
      InfixRule Divide (Typed (OffsetOf v m)) (Typed (OffsetOf w n)) (IntegerOf (common v w))

pub data IsSign : Prefix → Type 0 where
  plus : IsSign Plus
  minus : IsSign Minus

-- the type of the operand of a prefix, and that of its result
pub data PrefixRule : Prefix → PokeType → PokeType → Type 0 where
  sign_integer : {op : Prefix} {v : IntegerType} → IsSign op → PrefixRule op (IntegerOf v) (IntegerOf v)
  sign_offset : {op : Prefix} {v : IntegerType} {n : ℕ} → IsSign op → PrefixRule op (OffsetOf v n) (OffsetOf v n)
  complement : {v : IntegerType} → PrefixRule Complement (IntegerOf v) (IntegerOf v)
  negation : {v : IntegerType} → PrefixRule Not (IntegerOf v) (IntegerOf truth)

-- the types of the two sides of a choice, the type that integers are converted to, and that of the whole
pub data ChoiceRule : PokeType → PokeType → Option IntegerType → PokeType → Type 0 where
  of_integers : {v w : IntegerType} →
      ChoiceRule (IntegerOf v) (IntegerOf w) (Some (common v w)) (IntegerOf (common v w))
  of_offsets : {v : IntegerType} {n : ℕ} → ChoiceRule (OffsetOf v n) (OffsetOf v n) None (OffsetOf v n)

-- an integer type as it is written, or a type that has a name
pub data Refers (names : Names) : TreeReference → PokeType → Type 0 where
  signed : {n : Numeral} → 1 ≤ n.value → n.value ≤ 64 → Refers names (Int n) (IntegerOf (whole n.value true))
  unsigned : {n : Numeral} → 1 ≤ n.value → n.value ≤ 64 → Refers names (Uint n) (IntegerOf (whole n.value false))
  called : {word : List ℕ} {t : PokeType} → find_type word names ≡ Some t → Refers names (Called word) t

-- a unit and its bits
pub data HasBits : PokeUnit → ℕ → Type 0 where
  bit : HasBits unit.Bit 1
  byte : HasBits unit.Byte 8
  number : {n : Numeral} → 1 ≤ n.value → n.value ≤ 4294967295 → HasBits (unit.Bits n) n.value

-- the type that `as` converts to, and the converted expression
pub data Converts (names : Names) : TreeTarget → Term → PokeType → Term → PokeType → Type 0 where
  to_integer : {r : TreeReference} {x : Term} {v t : IntegerType} → Refers names r (IntegerOf t) →
      Converts names (ToReference r) x (IntegerOf v) (types.ToInteger t x) (IntegerOf t)
  to_named_offset : {r : TreeReference} {x : Term} {v t : IntegerType} {m n : ℕ} → Refers names r (OffsetOf t n) →
      Converts names (ToReference r) x (OffsetOf v m) (types.ToOffset t n x) (OffsetOf t n)
  to_offset : {r : TreeReference} {u : PokeUnit} {x : Term} {v t : IntegerType} {m n : ℕ} →
      Refers names r (IntegerOf t) → HasBits u n →
      Converts names (tree.ToOffset r u) x (OffsetOf v m) (types.ToOffset t n x) (OffsetOf t n)

-- a path: a name, a field or an element of a path, or a path in brackets
pub data IsPath : Tree → Type 0 where
  name : {word : List ℕ} → IsPath (tree.Name word)
  field : {e : Tree} {word : List ℕ} → IsPath e → IsPath (tree.After e (tree.Select word))
  element : {e i : Tree} → IsPath e → IsPath (tree.Index e i)
  bracket : {e : Tree} → IsPath e → IsPath (tree.Bracket e)

-- a type has a field of a name at a place, of a type
pub data HasField : PokeType → List ℕ → ℕ → PokeType → Type 0 where
  of_struct : {title : Option (List ℕ)} {pinned : Bool} {fs : Fields} {word : List ℕ} {n : ℕ} {t : PokeType} →
      find_field 0 word fs ≡ Some (n, t) → HasField (StructOf title pinned fs) word n t
  of_integral : {title : Option (List ℕ)} {number : IntegerType} {ps : Parts} {word : List ℕ} {n : ℕ} {t : PokeType} →
      find_part 0 word ps ≡ Some (n, t) → HasField (IntegralOf title number ps) word n t
  of_union : {title : Option (List ℕ)} {ps : Parts} {word : List ℕ} {n : ℕ} {t : PokeType} →
      find_part 0 word ps ≡ Some (n, t) → HasField (UnionOf title ps) word n t

-- a number whose type has a width and holds its value
pub record IsHeld (n : Numeral) : Type 0 where
  pub some : 1 ≤ n.width
  pub most : n.width ≤ 64
  pub small : n.value < 2 ^ value_bits n.signed n.width

-- the expression, with its names resolved, has the sort, where these fields are visible and so many frames are open
pub data HasSort (names : Names) (seen : List Visible) (levels : ℕ) : Tree → Term → Sort → Type 0 where
  literal : {n : Numeral} → IsHeld n → HasSort names seen levels (tree.Literal n)
      (types.Number (whole n.width n.signed) n.value) (Typed (IntegerOf (whole n.width n.signed)))
  character : {b : ℕ} →
      HasSort names seen levels (tree.Character b) (types.Number (whole 8 false) b) (Typed (IntegerOf (whole 8 false)))
  text : {bytes : List ℕ} → HasSort names seen levels (tree.Text bytes) (types.Text bytes) TextLiteral
  name : {word : List ℕ} (v : Visible) → resolve word seen ≡ Some v →
      HasSort names seen levels (tree.Name word) (types.Name (levels - 1 - v.level) v.place) (Typed v.type)
  bracket : {e : Tree} {x : Term} {t : PokeType} → HasSort names seen levels e x (Typed t) →
      HasSort names seen levels (tree.Bracket e) (types.Bracket x) (Typed t)
  before : {op : Prefix} {e : Tree} {x : Term} {r : PokeType} (t : PokeType) →
      HasSort names seen levels e x (Typed t) → PrefixRule op t r →
      HasSort names seen levels (tree.Before op e) (types.Before op x) (Typed r)
  between : {op : Infix} {a b : Tree} {x y : Term} {r : PokeType} (s t : Sort) →
      HasSort names seen levels a x s → HasSort names seen levels b y t → InfixRule op s t r →
      HasSort names seen levels (tree.Between op a b) (types.Between op x y) (Typed r)
  choice : {c a b : Tree} {z x y : Term} {common : Option IntegerType} {r : PokeType}
      (w : IntegerType) (s t : PokeType) →
      HasSort names seen levels c z (Typed (IntegerOf w)) → HasSort names seen levels a x (Typed s) →
      HasSort names seen levels b y (Typed t) → ChoiceRule s t common r →
      HasSort names seen levels (tree.Choice c a b) (types.Choice common z x y) (Typed r)
  index : {e i : Tree} {x y : Term} {t : PokeType} (bound : Bound) (w : IntegerType) →
      HasSort names seen levels e x (Typed (ArrayOf t bound)) → HasSort names seen levels i y (Typed (IntegerOf w)) →
      HasSort names seen levels (tree.Index e i) (types.Index x y) (Typed t)
  select : {e : Tree} {x : Term} {word : List ℕ} {n : ℕ} {r : PokeType} (t : PokeType) →
      HasSort names seen levels e x (Typed t) → HasField t word n r →
      HasSort names seen levels (tree.After e (tree.Select word)) (types.Select x n) (Typed r)
  count : {e : Tree} {x : Term} (t : PokeType) (bound : Bound) →
      HasSort names seen levels e x (Typed (ArrayOf t bound)) →
      HasSort names seen levels (tree.After e (tree.AttributeOf Length)) (types.AttributeOf Length x)
      (Typed (IntegerOf (whole 64 false)))
  size : {e : Tree} {x : Term} (t : PokeType) → IsPath e → HasSort names seen levels e x (Typed t) →
      HasSort names seen levels (tree.After e (tree.AttributeOf Size)) (types.AttributeOf Size x)
      (Typed (OffsetOf (whole 64 false) 1))
  in_unit : {e : Tree} {x : Term} {w : IntegerType} {u : PokeUnit} {n : ℕ} →
      HasSort names seen levels e x (Typed (IntegerOf w)) → HasBits u n →
      HasSort names seen levels (tree.After e (tree.InUnit u)) (types.InUnit n x) (Typed (OffsetOf w n))
  convert : {e : Tree} {x y : Term} {target : TreeTarget} {r : PokeType} (t : PokeType) →
      HasSort names seen levels e x (Typed t) → Converts names target x t y r →
      HasSort names seen levels (tree.After e (tree.Convert target)) y (Typed r)

-- a constraint or condition: an integer, if there is one
pub data IsTruth (names : Names) (seen : List Visible) (levels : ℕ) : Option Tree → Option Term → Type 0 where
  without : IsTruth names seen levels None None
  of_integer : {e : Tree} {x : Term} (w : IntegerType) → HasSort names seen levels e x (Typed (IntegerOf w)) →
      IsTruth names seen levels (Some e) (Some x)

-- a label: an offset, if there is one
pub data IsLabel (names : Names) (seen : List Visible) (levels : ℕ) : Option Tree → Option Term → Type 0 where
  without : IsLabel names seen levels None None
  of_offset : {e : Tree} {x : Term} (w : IntegerType) (n : ℕ) → HasSort names seen levels e x (Typed (OffsetOf w n)) →
      IsLabel names seen levels (Some e) (Some x)

-- the bound of an array: a count or a size, if there is one
pub data IsBound (names : Names) (seen : List Visible) (levels : ℕ) : Option Tree → Bound → Type 0 where
  without : IsBound names seen levels None Unbounded
  by_count : {e : Tree} {x : Term} (w : IntegerType) → HasSort names seen levels e x (Typed (IntegerOf w)) →
      IsBound names seen levels (Some e) (ByCount x)
  by_size : {e : Tree} {x : Term} (w : IntegerType) (n : ℕ) → HasSort names seen levels e x (Typed (OffsetOf w n)) →
      IsBound names seen levels (Some e) (BySize x)

-- no earlier field has the name
abbrev pub IsFresh : Option (List ℕ) → List (Option (List ℕ)) → Type 0
IsFresh None names = Unit {0}
IsFresh (Some word) names = has_name word names ≡ false

-- integers, offsets and integral structs: an integral struct may have them as fields, and a prefix may come before them
pub data HasWidth : PokeType → Type 0 where
  of_integer : {t : IntegerType} → HasWidth (IntegerOf t)
  of_offset : {t : IntegerType} {n : ℕ} → HasWidth (OffsetOf t n)
  of_integral : {title : Option (List ℕ)} {t : IntegerType} {ps : Parts} → HasWidth (IntegralOf title t ps)

-- a prefix comes only before a type that has a width
pub data IsPrefixed : Option ByteOrder → PokeType → Type 0 where
  plain : {t : PokeType} → IsPrefixed None t
  ordered : {order : ByteOrder} {t : PokeType} → HasWidth t → IsPrefixed (Some order) t

-- the place allows a field with these parts and of this type
pub data MayStand : Enclosing → PokeType → FieldParts → Type 0 where
  in_struct : {t : PokeType} {parts : FieldParts} → IsPrefixed parts.order t → MayStand enclosing.Struct t parts
  in_pinned : {t : PokeType} {parts : FieldParts} → IsPrefixed parts.order t → parts.label ≡ None →
      MayStand enclosing.Pinned t parts
  in_integral : {t : PokeType} {parts : FieldParts} → HasWidth t → parts.order ≡ None → parts.label ≡ None →
      parts.condition ≡ None → MayStand enclosing.Integral t parts
  in_union : {t : PokeType} {parts : FieldParts} (word : List ℕ) → IsPrefixed parts.order t → parts.name ≡ Some word →
      parts.label ≡ None → parts.condition ≡ None → MayStand enclosing.Union t parts

mutual
  -- the form with this title means the type, among these names, where these fields are visible and so many frames are
  -- open
  pub data Means (names : Names) : List Visible → ℕ → Option (List ℕ) → FormTree → PokeType → Type 0 where
    plain : {seen : List Visible} {levels : ℕ} {title : Option (List ℕ)} {r : TreeReference} {t : PokeType} →
        Refers names r t → Means names seen levels title (Plain r) t
    string : {seen : List Visible} {levels : ℕ} {title : Option (List ℕ)} →
        Means names seen levels title StringForm StringOf
    offset : {seen : List Visible} {levels : ℕ} {title : Option (List ℕ)} {r : TreeReference} {u : PokeUnit}
        {t : IntegerType} {n : ℕ} →
        Refers names r (IntegerOf t) → HasBits u n → Means names seen levels title (OffsetForm r u) (OffsetOf t n)
    array : {seen : List Visible} {levels : ℕ} {title : Option (List ℕ)} {element : FormTree} {bound : Option Tree}
        {t : PokeType} {b : Bound} →
        Means names seen (levels + 1) None element t → IsBound names seen levels bound b →
        Means names seen levels title (ArrayForm element bound) (ArrayOf t b)
    struct : {seen : List Visible} {levels : ℕ} {title : Option (List ℕ)} {pinned : Bool}
        {fields : FieldTrees} {fs : Fields} →
        FieldsMean names (struct_place pinned) seen levels [] fields fs →
        Means names seen levels title (StructForm pinned fields) (StructOf title pinned fs)
    integral : {seen : List Visible} {levels : ℕ} {title : Option (List ℕ)} {r : TreeReference} {fields : FieldTrees}
        {t : IntegerType} {fs : Fields} →
        Refers names r (IntegerOf t) → FieldsMean names enclosing.Integral seen levels [] fields fs →
        total_width fs ≡ t.width →
        Means names seen levels title (IntegralForm r fields) (IntegralOf title t (parts_of fs))
    union : {seen : List Visible} {levels : ℕ} {title : Option (List ℕ)} {form : FormTree} {parts : FieldParts}
        {rest : FieldTrees} {fs : Fields} →
        FieldsMean names enclosing.Union seen levels [] (tree.FieldThen form parts rest) fs →
        Means names seen levels title (UnionForm (tree.FieldThen form parts rest)) (UnionOf title (parts_of fs))

  -- fields, after fields of these names
  pub data FieldsMean (names : Names) : Enclosing → List Visible → ℕ → List (Option (List ℕ)) → FieldTrees →
      Fields → Type 0 where
    done : {here : Enclosing} {seen : List Visible} {levels : ℕ} {before : List (Option (List ℕ))} →
        FieldsMean names here seen levels before tree.NoFields NoFields
    field : {here : Enclosing} {seen : List Visible} {levels : ℕ} {before : List (Option (List ℕ))} {form : FormTree}
        {parts : FieldParts} {rest : FieldTrees}
        {t : PokeType} {c l d : Option Term} {fs : Fields} →
        Means names seen (levels + 1) None form t → MayStand here t parts → IsFresh parts.name before →
        IsLabel names seen (levels + 1) parts.label l → IsTruth names seen (levels + 1) parts.condition d →
        IsTruth names (with_itself here seen levels (length before) parts t) (levels + 1) parts.constraint c →
        FieldsMean names here (after_field here seen (with_itself here seen levels (length before) parts t)) levels
        (before ++ parts.name ∷ []) rest fs →
        FieldsMean names here seen levels before (tree.FieldThen form parts rest)
        (FieldThen parts.name parts.order t c l d fs)

-- the declarations are well typed after these names, and add theirs to them
pub data Declares : Names → List DeclarationTree → Names → Type 0 where
  none : {names : Names} → Declares names [] names
  more : {names all : Names} {d : DeclarationTree} {ds : List DeclarationTree} {t : PokeType} →
      find_type d.name names ≡ None → Means names [] 0 (Some d.name) d.form t → depth t ≤ 64 →
      Declares (names ++ (d.name, t) ∷ []) ds all → Declares names (d ∷ ds) all
