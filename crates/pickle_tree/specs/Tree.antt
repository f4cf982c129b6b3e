-- The syntax tree of a pickle, without its place in memory.
use Rattle.std.specs.Prelude.{ℕ, Bool, List, [], ◌∷◌, map, Option, Some, None, Box}
use Rattle.std.specs.declared.alloc.Global.{Global}
use denote.Bor.{Bor}
use Rattle.pickle_tree.specs.declared.tree.Attribute.{Attribute}
use Rattle.pickle_tree.specs.declared.tree.Number.{Number}
use Rattle.pickle_tree.specs.declared.tree.Prefix.{Prefix}
use Rattle.pickle_tree.specs.declared.tree.Infix.{Infix}
use Rattle.pickle_tree.specs.declared.tree.Unit.{Unit}
use Rattle.pickle_tree.specs.declared.tree.ByteOrder.{ByteOrder}
use Rattle.pickle_tree.specs.declared.tree.Reference.{Reference}
use Rattle.pickle_tree.specs.declared.tree.Reference.TheVariants as reference
use Rattle.pickle_tree.specs.declared.tree.Target.{Target}
use Rattle.pickle_tree.specs.declared.tree.Target.TheVariants as target
use Rattle.pickle_tree.specs.declared.tree.Suffix.{Suffix}
use Rattle.pickle_tree.specs.declared.tree.Suffix.TheVariants as suffix
use Rattle.pickle_tree.specs.declared.tree.Expression.{Expression}
use Rattle.pickle_tree.specs.declared.tree.Expression.TheVariants as expression
use Rattle.pickle_tree.specs.declared.tree.Clauses.{Clauses}
use Rattle.pickle_tree.specs.declared.tree.Clauses.TheVariants as clauses
use Rattle.pickle_tree.specs.declared.tree.Form.{Form, fold-Form}
use Rattle.pickle_tree.specs.declared.tree.Form.TheOpen.{Form-F, Field-F}
use Rattle.pickle_tree.specs.declared.tree.Field.{Field, fold-Field}
use Rattle.pickle_tree.specs.declared.tree.Declaration.{Declaration}

-- an integer type as it is written, or the name of a type
pub data TreeReference : Type 0 where
  Int : (width : Number) → TreeReference
  Uint : (width : Number) → TreeReference
  Called : (name : List ℕ) → TreeReference

-- the type that `as` converts to
pub data TreeTarget : Type 0 where
  ToReference : (reference : TreeReference) → TreeTarget
  ToOffset : (reference : TreeReference) (unit : Unit) → TreeTarget

-- a suffix: it comes after an operand
pub data TreeSuffix : Type 0 where
  Select : (name : List ℕ) → TreeSuffix
  AttributeOf : (attribute : Attribute) → TreeSuffix
  InUnit : (unit : Unit) → TreeSuffix
  Convert : (target : TreeTarget) → TreeSuffix

-- an expression
pub data Tree : Type 0 where
  Literal : (number : Number) → Tree
  Character : (byte : ℕ) → Tree
  Text : (bytes : List ℕ) → Tree
  Name : (name : List ℕ) → Tree
  Bracket : (e : Tree) → Tree
  Before : (op : Prefix) (e : Tree) → Tree
  Between : (op : Infix) (a b : Tree) → Tree
  Choice : (c x y : Tree) → Tree
  Index : (e i : Tree) → Tree
  After : (e : Tree) (suffix : TreeSuffix) → Tree

abbrev pub reference_tree : Reference → TreeReference
reference_tree (reference.Int n) = Int n
reference_tree (reference.Uint n) = Uint n
reference_tree (reference.Named n) = Called n.now

abbrev pub target_tree : Target → TreeTarget
target_tree (target.Reference r) = ToReference (reference_tree r)
target_tree (target.Offset r u) = ToOffset (reference_tree r) u

abbrev pub suffix_tree : Suffix → TreeSuffix
suffix_tree (suffix.Select n) = Select n.now
suffix_tree (suffix.Attribute a) = AttributeOf a
suffix_tree (suffix.Unit u) = InUnit u
suffix_tree (suffix.Convert t) = Convert (target_tree t)

abbrev pub expression_tree : Expression → Tree
expression_tree (expression.Number n) = Literal n
expression_tree (expression.Character b) = Character b
expression_tree (expression.Text t) = Text t.value.items
expression_tree (expression.Name n) = Name n.now
expression_tree (expression.Bracket' p e) = Bracket (expression_tree e)
expression_tree (expression.Prefix' op p e) = Before op (expression_tree e)
expression_tree (expression.Infix' p op a b) = Between op (expression_tree a) (expression_tree b)
expression_tree (expression.Choice' p c x y) = Choice (expression_tree c) (expression_tree x) (expression_tree y)
expression_tree (expression.Index' p e i) = Index (expression_tree e) (expression_tree i)
expression_tree (expression.After' p e s) = After (expression_tree e) (suffix_tree s)

abbrev pub boxed_tree : Option (Box Expression Global) → Option Tree
boxed_tree None = None
boxed_tree (Some e) = Some (expression_tree e.value)

abbrev pub borrowed_tree : Option (Bor Expression) → Option Tree
borrowed_tree None = None
borrowed_tree (Some e) = Some (expression_tree e.now)

abbrev pub constraint_in : Clauses → Option Tree
constraint_in clauses.Nothing = None
constraint_in (clauses.Constraint e) = Some (expression_tree e.value)
constraint_in (clauses.Several s) = boxed_tree s.value.constraint

abbrev pub label_in : Clauses → Option Tree
label_in clauses.Nothing = None
label_in (clauses.Constraint e) = None
label_in (clauses.Several s) = boxed_tree s.value.label

abbrev pub condition_in : Clauses → Option Tree
condition_in clauses.Nothing = None
condition_in (clauses.Constraint e) = None
condition_in (clauses.Several s) = boxed_tree s.value.condition

abbrev pub optional_bytes : Option (Bor (List ℕ)) → Option (List ℕ)
optional_bytes None = None
optional_bytes (Some n) = Some n.now

-- the parts of a field beside its type: its prefix, name, constraint, label and condition
pub record FieldParts : Type 0 where
  pub order : Option ByteOrder
  pub name : Option (List ℕ)
  pub constraint : Option Tree
  pub label : Option Tree
  pub condition : Option Tree

mutual
  -- a type as it is written
  pub data FormTree : Type 0 where
    Plain : (reference : TreeReference) → FormTree
    StringForm : FormTree
    OffsetForm : (reference : TreeReference) (unit : Unit) → FormTree
    ArrayForm : (element : FormTree) (bound : Option Tree) → FormTree
    StructForm : (pinned : Bool) (fields : FieldTrees) → FormTree
    IntegralForm : (reference : TreeReference) (fields : FieldTrees) → FormTree
    UnionForm : (alternatives : FieldTrees) → FormTree

  -- the fields of a struct or the alternatives of a union, as they are written
  pub data FieldTrees : Type 0 where
    NoFields : FieldTrees
    FieldThen : (form : FormTree) (parts : FieldParts) (rest : FieldTrees) → FieldTrees

-- a field without its place in memory
pub record FieldTree : Type 0 where
  pub form : FormTree
  pub parts : FieldParts

abbrev pub fields_of : List FieldTree → FieldTrees
fields_of [] = NoFields
fields_of (f ∷ fs) = FieldThen f.form f.parts (fields_of fs)

abbrev pub form_step : Form-F FormTree FieldTree → FormTree
form_step (Form-F.Reference r) = Plain (reference_tree r)
form_step Form-F.String = StringForm
form_step (Form-F.Offset r u) = OffsetForm (reference_tree r.value) u
form_step (Form-F.Array e b) = ArrayForm e.value (boxed_tree b)
form_step (Form-F.Struct p fs) = StructForm p (fields_of fs.items)
form_step (Form-F.Integral r fs) = IntegralForm (reference_tree r.value) (fields_of fs.items)
form_step (Form-F.Union fs) = UnionForm (fields_of fs.items)

abbrev pub field_step : Field-F FormTree FieldTree → FieldTree
field_step f = record {
  form = f.form;
  parts = record {
    order = f.order;
    name = optional_bytes f.name;
    constraint = constraint_in f.clauses;
    label = label_in f.clauses;
    condition = condition_in f.clauses;
  };
}

abbrev pub form_tree : Form → FormTree
form_tree = fold-Form FormTree FieldTree form_step field_step

abbrev pub field_tree : Field → FieldTree
field_tree = fold-Field FormTree FieldTree form_step field_step

abbrev pub fields_tree : List Field → FieldTrees
fields_tree fs = fields_of (map field_tree fs)

-- a declared name, and the type as it is written
pub record DeclarationTree : Type 0 where
  pub name : List ℕ
  pub form : FormTree

abbrev pub declaration_tree : Declaration → DeclarationTree
declaration_tree d = record { name = d.name.now; form = form_tree d.form }
