-- The expressions of a pickle that a mapping evaluates: over which values, for what purpose, and where their faults
-- are.
use Rattle.std.specs.Prelude.{◌≡◌, ℕ, ◌+◌, ◌-◌, ◌≤◌, length, List, [], ◌∷◌, ◌++◌, Bool, true, false, Option, Some, None, Ok, Err, if◌then◌else◌}
use Rattle.bit_space.specs.declared.order.Order.{Order}
use Rattle.std.specs.Str.{bytes_eq}
use Rattle.pickle_tree.specs.declared.tree.ByteOrder.{ByteOrder}
use Rattle.pickle_tree.specs.Tree.{Tree, TreeReference, Called, FieldParts, FormTree, Plain, ArrayForm, StructForm, IntegralForm, UnionForm, FieldTrees, DeclarationTree}
use Rattle.pickle_tree.specs.Tree as tree
use Rattle.pickle_types.specs.declared.integer.IntegerType.{IntegerType}
use Rattle.pickle_types.specs.Types.{Term, Bound, ByCount, BySize, PokeType, ArrayOf, StructOf, IntegralOf, UnionOf, Fields, FieldThen, Parts, PartThen}
use Rattle.pickle_types.specs.Scopes.{is_named}
use Rattle.pickle_meaning.specs.declared.extent.Extent.{Extent}
use Rattle.pickle_meaning.specs.Numbers.{number_at}
use Rattle.pickle_meaning.specs.Values.{Naming, Value, end_of, Levels, pushed, opened}
use Rattle.pickle_meaning.specs.Clauses.{FaultAt, constraint, condition, field_start, extent_of, is_due, misses}
use Rattle.pickle_meaning.specs.Means.{ordered, number_type, width_in, first_digits, NumberMeans, Means, Elements, PartMeans}

-- the fields mapped so far that may be named, the innermost last: each with its name, and its value or absent
abbrev pub Scope : Type 0
Scope = List (Naming × Option Value)

abbrev pub or_this_field : List ℕ → Naming × Option Value → Option (Option Value) → Option (Option Value)
or_this_field word f (Some inner) = Some inner
or_this_field word f None = if is_named f.0 word then Some f.1 else None

-- the innermost field of that name
abbrev pub field_named : List ℕ → Scope → Option (Option Value)
field_named word [] = None
field_named word (f ∷ fs) = or_this_field word f (field_named word fs)

abbrev pub with_field : Scope → Naming → Option Value → Scope
with_field scope name member = scope ++ (name, member) ∷ []

-- the purpose of an expression; a constraint and a condition are truths
pub data Purpose : Type 0 where
  Truth : Purpose
  Start : Purpose
  Count : Purpose
  Size : Purpose

-- An expression that is evaluated, as the pickle has it and with its names resolved, over these frames, where these
-- fields may be named. Its faults are at the place.
pub record Evaluated : Type 0 where
  pub purpose : Purpose
  pub written : Option Tree
  pub expression : Term
  pub scope : Scope
  pub levels : Levels
  pub place : ℕ

abbrev pub for_purpose : Purpose → Option Tree → Term → Scope → Levels → (place : ℕ) → Evaluated
for_purpose purpose written e scope levels place =
    record { purpose = purpose; written = written; expression = e; scope = scope; levels = levels; place = place }

-- the form that is declared for a name
abbrev pub form_of : List ℕ → List DeclarationTree → Option FormTree
form_of word [] = None
form_of word (d ∷ ds) = if bytes_eq word d.name then Some d.form else form_of word ds

mutual
  -- the expressions that are evaluated where a number is read as a type that a form means; only an integral struct has
  -- any
  pub data NumberEvaluates (declarations : List DeclarationTree) : FormTree → PokeType → (n : ℕ) → Scope → Levels →
      (s : ℕ) → Evaluated → Type 0 where
    -- a type that has a name was declared elsewhere, and sees nothing around it
    number_named : {word : List ℕ} {form : FormTree} {ty : PokeType} {n : ℕ} {scope : Scope} {levels : Levels}
        {s : ℕ} {a : Evaluated}
        → form_of word declarations ≡ Some form
        → NumberEvaluates declarations form ty n [] levels s a
        → NumberEvaluates declarations (Plain (Called word)) ty n scope levels s a
    in_digits : {reference : TreeReference} {forms : FieldTrees} {name : Naming} {type : IntegerType} {fields : Parts}
        {n : ℕ} {scope : Scope} {levels : Levels} {s : ℕ} {a : Evaluated}
        → DigitsEvaluate declarations forms fields n type.width scope (opened levels) s a
        → NumberEvaluates declarations (IntegralForm reference forms) (IntegralOf name type fields) n scope levels s a

  -- the same for its fields from here on
  pub data DigitsEvaluate (declarations : List DeclarationTree) : FieldTrees → Parts → (n left : ℕ) → Scope → Levels →
      (s : ℕ) → Evaluated → Type 0 where
    -- in the next field
    in_number : {form : FormTree} {parts : FieldParts} {forms : FieldTrees} {name : Naming} {order : Option ByteOrder}
        {ty : PokeType} {c : Option Term}
        {rest : Parts} {n left : ℕ} {scope : Scope} {levels : Levels} {s : ℕ} {a : Evaluated}
        → NumberEvaluates declarations form ty (first_digits n left (width_in (number_type ty))) scope levels s a
        → DigitsEvaluate declarations (tree.FieldThen form parts forms) (PartThen name order ty c rest) n
        left scope levels s a
    -- its constraint
    number_constraint : {form : FormTree} {parts : FieldParts} {forms : FieldTrees} {name : Naming}
        {order : Option ByteOrder} {ty : PokeType} {e : Term}
        {rest : Parts} {n left : ℕ} {scope : Scope} {levels : Levels} {s k j : ℕ} {v : Value}
        → NumberMeans ty (first_digits n left (width_in (number_type ty))) levels s (Ok v) k j
        → DigitsEvaluate declarations (tree.FieldThen form parts forms) (PartThen name order ty (Some e) rest) n left
        scope levels s
        (for_purpose Truth parts.constraint e (with_field scope name (Some v)) (pushed levels (Some v)) s)
    -- in the fields after it
    behind_number : {form : FormTree} {parts : FieldParts} {forms : FieldTrees} {name : Naming}
        {order : Option ByteOrder} {ty : PokeType} {c : Option Term}
        {rest : Parts} {n left : ℕ} {scope : Scope} {levels : Levels} {s k j : ℕ} {v : Value} {a : Evaluated}
        → NumberMeans ty (first_digits n left (width_in (number_type ty))) levels s (Ok v) k j
        → constraint c (pushed levels (Some v)) s ≡ Ok tt
        → DigitsEvaluate declarations forms rest n (left - width_in (number_type ty)) (with_field scope name (Some v))
        (pushed levels (Some v)) s a
        → DigitsEvaluate declarations (tree.FieldThen form parts forms) (PartThen name order ty c rest) n
        left scope levels s a

mutual
  -- the expressions that are evaluated where a type that a form means is mapped at s
  pub data Evaluates (declarations : List DeclarationTree) (bits : List ℕ) : FormTree → PokeType → Order → Scope →
      Levels → (s : ℕ) → Evaluated → Type 0 where
    -- a type that has a name was declared elsewhere, and sees nothing around it
    in_named : {word : List ℕ} {form : FormTree} {ty : PokeType} {order : Order} {scope : Scope} {levels : Levels}
        {s : ℕ} {a : Evaluated}
        → form_of word declarations ≡ Some form
        → Evaluates declarations bits form ty order [] levels s a
        → Evaluates declarations bits (Plain (Called word)) ty order scope levels s a
    in_number_read : {form : FormTree} {ty : PokeType} {type : IntegerType} {order : Order} {scope : Scope}
        {levels : Levels} {s : ℕ} {a : Evaluated}
        → s ≤ length bits
        → number_type ty ≡ Some type
        → s + type.width ≤ length bits
        → NumberEvaluates declarations form ty (number_at bits order s type.width) scope levels s a
        → Evaluates declarations bits form ty order scope levels s a
    -- the bound of an array
    array_count : {form : FormTree} {written : Option Tree} {ty : PokeType} {e : Term} {order : Order} {scope : Scope}
        {levels : Levels} {s : ℕ}
        → s ≤ length bits
        → Evaluates declarations bits (ArrayForm form written) (ArrayOf ty (ByCount e)) order scope levels s
        (for_purpose Count written e scope levels s)
    array_size : {form : FormTree} {written : Option Tree} {ty : PokeType} {e : Term} {order : Order} {scope : Scope}
        {levels : Levels} {s : ℕ}
        → s ≤ length bits
        → Evaluates declarations bits (ArrayForm form written) (ArrayOf ty (BySize e)) order scope levels s
        (for_purpose Size written e scope levels s)
    -- in an element that is due, after others; none of them may be named
    in_element : {form : FormTree} {written : Option Tree} {ty : PokeType} {bound : Bound} {order : Order}
        {extent : Extent} {scope : Scope} {levels inside : Levels} {s n pn k j : ℕ} {a : Evaluated}
        → s ≤ length bits
        → extent_of bound levels s ≡ Ok extent
        → Elements bits ty order s extent 0 (opened levels) s n inside pn k j
        → is_due extent (length bits) s n pn ≡ true
        → Evaluates declarations bits form ty order scope inside pn a
        → Evaluates declarations bits (ArrayForm form written) (ArrayOf ty bound) order scope levels s a
    in_fields : {forms : FieldTrees} {name : Naming} {pinned : Bool} {fields : Fields} {order : Order} {scope : Scope}
        {levels : Levels} {s : ℕ} {a : Evaluated}
        → s ≤ length bits
        → FieldsEvaluate declarations bits pinned s forms fields order scope (opened levels) s a
        → Evaluates declarations bits (StructForm pinned forms) (StructOf name pinned fields) order scope levels s a
    in_alternatives : {forms : FieldTrees} {name : Naming} {alternatives : Parts} {order : Order} {scope : Scope}
        {levels : Levels} {s : ℕ} {a : Evaluated}
        → s ≤ length bits
        → AlternativesEvaluate declarations bits forms alternatives order scope (opened levels) s a
        → Evaluates declarations bits (UnionForm forms) (UnionOf name alternatives) order scope levels s a

  -- the expressions that are evaluated where a field or an alternative is mapped at s, with its constraint
  pub data PartEvaluates (declarations : List DeclarationTree) (bits : List ℕ) : FormTree → (written : Option Tree) →
      Naming → PokeType → Option Term → Order → Scope → Levels → (s : ℕ) → Evaluated → Type 0 where
    in_part : {form : FormTree} {written : Option Tree} {name : Naming} {ty : PokeType} {c : Option Term}
        {order : Order} {scope : Scope} {levels : Levels} {s : ℕ} {a : Evaluated}
        → Evaluates declarations bits form ty order scope levels s a
        → PartEvaluates declarations bits form written name ty c order scope levels s a
    -- the constraint may name the value itself
    part_constraint : {form : FormTree} {written : Option Tree} {name : Naming} {ty : PokeType} {e : Term}
        {order : Order} {scope : Scope} {levels : Levels} {s k j : ℕ} {v : Value}
        → Means bits ty order levels s (Ok v) k j
        → PartEvaluates declarations bits form written name ty (Some e) order scope levels s
        (for_purpose Truth written e (with_field scope name (Some v)) (pushed levels (Some v)) s)

  -- the fields of a struct at s from here on; the last present field ended at `behind`
  pub data FieldsEvaluate (declarations : List DeclarationTree) (bits : List ℕ) : (pinned : Bool) → (s : ℕ) →
      FieldTrees → Fields → Order → Scope → Levels → (behind : ℕ) → Evaluated → Type 0 where
    -- the next field's condition
    field_condition : {pinned : Bool} {form : FormTree} {parts : FieldParts} {forms : FieldTrees} {name : Naming}
        {set : Option ByteOrder} {ty : PokeType}
        {c label : Option Term} {e : Term} {rest : Fields} {order : Order} {scope : Scope}
        {levels : Levels} {s behind : ℕ}
        → FieldsEvaluate declarations bits pinned s (tree.FieldThen form parts forms)
        (FieldThen name set ty c label (Some e) rest) order scope levels behind
        (for_purpose Truth parts.condition e scope levels s)
    -- its label, if the field is present
    field_label : {form : FormTree} {parts : FieldParts} {forms : FieldTrees} {name : Naming} {set : Option ByteOrder}
        {ty : PokeType} {c when : Option Term}
        {e : Term} {rest : Fields} {order : Order} {scope : Scope} {levels : Levels} {s behind : ℕ}
        → condition when levels s ≡ Ok true
        → FieldsEvaluate declarations bits false s (tree.FieldThen form parts forms)
        (FieldThen name set ty c (Some e) when rest) order scope levels behind
        (for_purpose Start parts.label e scope levels s)
    -- in the field itself
    in_field : {pinned : Bool} {form : FormTree} {parts : FieldParts} {forms : FieldTrees} {name : Naming}
        {set : Option ByteOrder} {ty : PokeType}
        {c label when : Option Term} {rest : Fields} {order : Order} {scope : Scope} {levels : Levels}
        {s behind p : ℕ} {a : Evaluated}
        → condition when levels s ≡ Ok true
        → field_start pinned label levels s behind ≡ Ok p
        → PartEvaluates declarations bits form parts.constraint name ty c (ordered set order) scope levels p a
        → FieldsEvaluate declarations bits pinned s (tree.FieldThen form parts forms)
        (FieldThen name set ty c label when rest) order scope levels behind a
    -- in the fields after it
    behind_absent : {pinned : Bool} {form : FormTree} {parts : FieldParts} {forms : FieldTrees} {name : Naming}
        {set : Option ByteOrder} {ty : PokeType}
        {c label when : Option Term} {rest : Fields} {order : Order} {scope : Scope} {levels : Levels}
        {s behind : ℕ} {a : Evaluated}
        → condition when levels s ≡ Ok false
        → FieldsEvaluate declarations bits pinned s forms rest order (with_field scope name None)
        (pushed levels None) behind a
        → FieldsEvaluate declarations bits pinned s (tree.FieldThen form parts forms)
        (FieldThen name set ty c label when rest) order scope levels behind a
    behind_field : {pinned : Bool} {form : FormTree} {parts : FieldParts} {forms : FieldTrees} {name : Naming}
        {set : Option ByteOrder} {ty : PokeType}
        {c label when : Option Term} {rest : Fields} {order : Order} {scope : Scope} {levels : Levels}
        {s behind p k j : ℕ} {v : Value} {a : Evaluated}
        → condition when levels s ≡ Ok true
        → field_start pinned label levels s behind ≡ Ok p
        → PartMeans bits ty c (ordered set order) levels p (Ok v) k j
        → FieldsEvaluate declarations bits pinned s forms rest order (with_field scope name (Some v))
        (pushed levels (Some v)) (end_of v) a
        → FieldsEvaluate declarations bits pinned s (tree.FieldThen form parts forms)
        (FieldThen name set ty c label when rest) order scope levels behind a

  -- the alternatives of a union at s from here on; later ones see nothing of earlier ones
  pub data AlternativesEvaluate (declarations : List DeclarationTree) (bits : List ℕ) : FieldTrees → Parts → Order →
      Scope → Levels → (s : ℕ) → Evaluated → Type 0 where
    in_alternative : {form : FormTree} {parts : FieldParts} {forms : FieldTrees} {name : Naming}
        {set : Option ByteOrder} {ty : PokeType} {c : Option Term}
        {rest : Parts} {order : Order} {scope : Scope} {levels : Levels} {s : ℕ} {a : Evaluated}
        → PartEvaluates declarations bits form parts.constraint name ty c (ordered set order) scope levels s a
        → AlternativesEvaluate declarations bits (tree.FieldThen form parts forms) (PartThen name set ty c rest)
        order scope levels s a
    behind_miss : {form : FormTree} {parts : FieldParts} {forms : FieldTrees} {name : Naming} {set : Option ByteOrder}
        {ty : PokeType} {c : Option Term}
        {rest : Parts} {order : Order} {scope : Scope} {levels : Levels} {s k j : ℕ} {f : FaultAt} {a : Evaluated}
        → PartMeans bits ty c (ordered set order) levels s (Err f) k j
        → misses f.0 ≡ true
        → AlternativesEvaluate declarations bits forms rest order scope levels s a
        → AlternativesEvaluate declarations bits (tree.FieldThen form parts forms) (PartThen name set ty c rest)
        order scope levels s a
