-- The limits of a pickle: the depths and the lengths of its parts.
use Rattle.std.specs.Prelude.{ℕ, ◌+◌, ◌≤◌, ⊤, max, Option, Some, None, List, [], ◌∷◌, length}
use Rattle.pickle_tree.specs.Tree.{Tree, Literal, Name, Bracket, Before, Between, Choice, Index, After, FormTree, Plain, StringForm, OffsetForm, ArrayForm, StructForm, IntegralForm, UnionForm, FieldTrees, NoFields, FieldThen, FieldParts, DeclarationTree}
use Rattle.pickle_tree.specs.Tree as tree

pub record Limits : Type 0 where
  -- how deep an expression may be; brackets count
  pub expression_depth : ℕ
  -- how deep types may be nested
  pub form_depth : ℕ
  -- how many fields a struct or a union may have
  pub fields : ℕ
  -- how many declarations a pickle may have
  pub declarations : ℕ

-- the limits of every pickle
abbrev pub standard : Limits
standard = record { expression_depth = 64; form_depth = 64; fields = 1024; declarations = 4096 }

-- the depth of an expression: 1 for a literal or a name, else one more than the deepest operand
abbrev pub depth : Tree → ℕ
depth (Literal n) = 1
depth (tree.Character b) = 1
depth (tree.Text bytes) = 1
depth (Name n) = 1
depth (Bracket e) = depth e + 1
depth (Before op e) = depth e + 1
depth (Between op a b) = max (depth a) (depth b) + 1
depth (Choice c x y) = max (depth c) (max (depth x) (depth y)) + 1
depth (Index e i) = max (depth e) (depth i) + 1
depth (After e s) = depth e + 1

-- the depth of a type: 1 for a name or a scalar, else one more than its element or its deepest field
abbrev mutual
  pub form_depth : FormTree → ℕ
  form_depth (Plain r) = 1
  form_depth StringForm = 1
  form_depth (OffsetForm r u) = 1
  form_depth (ArrayForm e b) = form_depth e + 1
  form_depth (StructForm p fs) = fields_depth fs + 1
  form_depth (IntegralForm r fs) = fields_depth fs + 1
  form_depth (UnionForm fs) = fields_depth fs + 1

  pub fields_depth : FieldTrees → ℕ
  fields_depth NoFields = 0
  fields_depth (FieldThen f p rest) = max (form_depth f) (fields_depth rest)

abbrev pub field_count : FieldTrees → ℕ
field_count NoFields = 0
field_count (FieldThen f p rest) = 1 + field_count rest

abbrev pub IsOptionalWithin : ℕ → Option Tree → Type 0
IsOptionalWithin most None = ⊤
IsOptionalWithin most (Some e) = depth e ≤ most

abbrev pub ArePartsWithin : ℕ → FieldParts → Type 0
ArePartsWithin most p =
    IsOptionalWithin most p.constraint × IsOptionalWithin most p.label × IsOptionalWithin most p.condition

-- no expression in a type is too deep, and none of its structs and unions has too many fields
abbrev mutual
  pub IsFormWithin : Limits → FormTree → Type 0
  IsFormWithin limits (Plain r) = ⊤
  IsFormWithin limits StringForm = ⊤
  IsFormWithin limits (OffsetForm r u) = ⊤
  IsFormWithin limits (ArrayForm e b) = IsFormWithin limits e × IsOptionalWithin limits.expression_depth b
  IsFormWithin limits (StructForm p fs) = (field_count fs ≤ limits.fields) × AreFieldsWithin limits fs
  IsFormWithin limits (IntegralForm r fs) = (field_count fs ≤ limits.fields) × AreFieldsWithin limits fs
  IsFormWithin limits (UnionForm fs) = (field_count fs ≤ limits.fields) × AreFieldsWithin limits fs

  pub AreFieldsWithin : Limits → FieldTrees → Type 0
  AreFieldsWithin limits NoFields = ⊤
  AreFieldsWithin limits (FieldThen f p rest) =
      IsFormWithin limits f × ArePartsWithin limits.expression_depth p × AreFieldsWithin limits rest

-- each declared type is within the limits, and so is its own depth
abbrev pub AreDeclarationsWithin : Limits → List DeclarationTree → Type 0
AreDeclarationsWithin limits [] = ⊤
AreDeclarationsWithin limits (d ∷ ds) =
    IsFormWithin limits d.form × (form_depth d.form ≤ limits.form_depth) × AreDeclarationsWithin limits ds

abbrev pub IsPickleWithin : Limits → List DeclarationTree → Type 0
IsPickleWithin limits ds = (length ds ≤ limits.declarations) × AreDeclarationsWithin limits ds

-- how many types are written in a type, itself included
abbrev mutual
  pub form_count : FormTree → ℕ
  form_count (Plain r) = 1
  form_count StringForm = 1
  form_count (OffsetForm r u) = 1
  form_count (ArrayForm e b) = form_count e + 1
  form_count (StructForm p fs) = fields_form_count fs + 1
  form_count (IntegralForm r fs) = fields_form_count fs + 1
  form_count (UnionForm fs) = fields_form_count fs + 1

  pub fields_form_count : FieldTrees → ℕ
  fields_form_count NoFields = 0
  fields_form_count (FieldThen f p rest) = form_count f + fields_form_count rest

abbrev pub pickle_form_count : List DeclarationTree → ℕ
pickle_form_count [] = 0
pickle_form_count (d ∷ ds) = form_count d.form + pickle_form_count ds

-- the most types in a pickle, which has at most as many bytes
abbrev pub MOST_FORMS : ℕ
MOST_FORMS = 1048576
