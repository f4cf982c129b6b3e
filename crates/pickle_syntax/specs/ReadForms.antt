-- Reading types, fields and pickles, as functions on lists.
use Rattle.std.specs.Prelude.{ℕ, zero, suc, ◌+◌, Bool, true, false, nat_lt, if◌then◌else◌, Option, Some, None, List, [], ◌∷◌, length, Result, Ok, Err}
use denote.Bor.{Bor}
use Rattle.pickle_syntax.specs.declared.token.Kind.{Kind}
use Rattle.pickle_syntax.specs.declared.token.Word.{Word}
use Rattle.pickle_syntax.specs.declared.token.Word.TheVariants as word
use Rattle.pickle_syntax.specs.declared.token.Sign.{Sign}
use Rattle.pickle_syntax.specs.declared.token.Sign.TheVariants as sign
use Rattle.pickle_syntax.specs.declared.parser.fault.Stop.{Stop}
use Rattle.pickle_syntax.specs.declared.parser.found.FoundField.{FoundField}
use Rattle.pickle_syntax.specs.declared.parser.found.FoundFields.{FoundFields}
use Rattle.pickle_syntax.specs.declared.parser.found.FoundForm.{FoundForm}
use Rattle.pickle_tree.specs.declared.tree.ByteOrder.{ByteOrder}
use Rattle.pickle_tree.specs.declared.tree.ByteOrder.TheVariants as order
use Rattle.pickle_syntax.specs.Tokens.{Token, Reserved, Named}
use Rattle.pickle_tree.specs.Tree.{TreeTarget, ToReference, ToOffset, Tree, FormTree, Plain, StringForm, OffsetForm, ArrayForm, StructForm, IntegralForm, UnionForm, FieldTrees, NoFields, FieldThen, FieldTree, DeclarationTree, form_tree, field_tree, fields_tree}
use Rattle.pickle_tree.specs.Limits.{Limits, form_depth}
use Rattle.pickle_syntax.specs.Reading.{Fault, Wrong, Deep, Many, ◌>>=◌, Read, Reads, after_sign, after_word, needed, expect, name_at, reference_at, target_at}
use Rattle.pickle_syntax.specs.ReadExpressions.{expression_at}

-- ---- expressions that may be absent

-- an expression no deeper than this, which has to be present
unfoldable pub present_at : ℕ → List Token → Read (Option Tree)
present_at most tokens = expression_at most 1 tokens >>= λ e. Ok (Some e.0, e.1)

abbrev pub present_if : ℕ → Option (List Token) → List Token → Read (Option Tree)
present_if most None tokens = Ok (None, tokens)
present_if most (Some rest) tokens = present_at most rest

-- an expression after this sign, or nothing
unfoldable pub part_at : ℕ → Sign → List Token → Read (Option Tree)
part_at most s tokens = present_if most (after_sign s tokens) tokens

-- an expression after `if`, or nothing
unfoldable pub condition_at : ℕ → List Token → Read (Option Tree)
condition_at most tokens = present_if most (after_word word.If tokens) tokens

abbrev pub bound_by : ℕ → Option (List Token) → List Token → Read (Option Tree)
bound_by most (Some rest) tokens = Ok (None, rest)
bound_by most None tokens = do
  e ← present_at most tokens
  after ← expect sign.CloseBracket e.1
  Ok (e.0, after)

-- what may be in the brackets of an array, and the closing one
unfoldable pub bound_at : ℕ → List Token → Read (Option Tree)
bound_at most tokens = bound_by most (after_sign sign.CloseBracket tokens) tokens

-- ---- fields

-- reads types
abbrev pub FormReader : Type 0
FormReader = List Token → Read FormTree

unfoldable pub order_at : List Token → Option ByteOrder × List Token
order_at (Reserved word.Big ∷ rest) = (Some order.Big, rest)
order_at (Reserved word.Little ∷ rest) = (Some order.Little, rest)
order_at tokens = (None, tokens)

unfoldable pub optional_name_at : List Token → Option (List ℕ) × List Token
optional_name_at (Named n ∷ rest) = (Some n, rest)
optional_name_at tokens = (None, tokens)

unfoldable pub field_at : Limits → FormReader → List Token → Read FieldTree
field_at limits sub tokens = do
  f ← sub (order_at tokens).1
  constraint ← part_at limits.expression_depth sign.Colon (optional_name_at f.1).1
  label ← part_at limits.expression_depth sign.At constraint.1
  condition ← condition_at limits.expression_depth label.1
  after ← expect sign.Semicolon condition.1
  Ok (
    record {
      form = f.0;
      parts = record {
        order = (order_at tokens).0;
        name = (optional_name_at f.1).0;
        constraint = constraint.0;
        label = label.0;
        condition = condition.0;
      };
    },
    after,
  )

abbrev pub with_field : FieldTree → Read FieldTrees → Read FieldTrees
with_field f (Ok x) = Ok (FieldThen f.form f.parts x.0, x.1)
with_field f (Err e) = Err e

abbrev pub unless_closed : Option (List Token) → Read FieldTrees → Read FieldTrees
unless_closed (Some rest) read = Ok (NoFields, rest)
unless_closed None read = read

-- at most so many fields, and the closing brace
unfoldable pub fields_at : Limits → FormReader → ℕ → List Token → Read FieldTrees
fields_at limits sub zero tokens = unless_closed (after_sign sign.CloseBrace tokens) (Err Many)
fields_at limits sub (suc n) tokens = unless_closed (after_sign sign.CloseBrace tokens)
    (field_at limits sub tokens >>= λ f. with_field f.0 (fields_at limits sub n f.1))

-- the fields between two braces
unfoldable pub braced_at : Limits → FormReader → List Token → Read FieldTrees
braced_at limits sub tokens = expect sign.OpenBrace tokens >>= λ after. fields_at limits sub limits.fields after

-- ---- types

abbrev pub target_form : TreeTarget → FormTree
target_form (ToReference r) = Plain r
target_form (ToOffset r u) = OffsetForm r u

abbrev pub struct_by : Limits → FormReader → Option (List Token) → List Token → Read FormTree
struct_by limits sub (Some rest) tokens = do
  fs ← fields_at limits sub limits.fields rest
  Ok (StructForm false fs.0, fs.1)
struct_by limits sub None tokens = do
  r ← reference_at tokens
  fs ← braced_at limits sub r.1
  Ok (IntegralForm r.0 fs.0, fs.1)

-- what comes after `struct`
unfoldable pub struct_at : Limits → FormReader → List Token → Read FormTree
struct_at limits sub tokens = struct_by limits sub (after_sign sign.OpenBrace tokens) tokens

-- what comes after `pinned`
unfoldable pub pinned_at : Limits → FormReader → List Token → Read FormTree
pinned_at limits sub tokens = do
  after ← needed (after_word word.Struct tokens) tokens
  fs ← braced_at limits sub after
  Ok (StructForm true fs.0, fs.1)

abbrev pub word_form : Limits → FormReader → List Token → Word → Read FormTree
word_form limits sub rest word.String = Ok (StringForm, rest)
word_form limits sub rest word.Struct = struct_at limits sub rest
word_form limits sub rest word.Pinned = pinned_at limits sub rest
word_form limits sub rest word.Union = do
  fs ← braced_at limits sub rest
  Ok (UnionForm fs.0, fs.1)
word_form limits sub rest _ = Err (Wrong (length rest + 1))

-- a type without an array suffix
unfoldable pub base_at : Limits → FormReader → List Token → Read FormTree
base_at limits sub (Reserved w ∷ rest) = word_form limits sub rest w
base_at limits sub tokens = target_at tokens >>= λ t. Ok (target_form t.0, t.1)

abbrev pub suffix_by : Limits → ℕ → FormTree → Option (List Token) → List Token → Read FormTree
suffix_by limits room f None tokens = Ok (f, tokens)
suffix_by limits room f (Some rest) tokens =
    if nat_lt room (form_depth f)
    then Err Deep
    else bound_at limits.expression_depth rest >>= λ b. Ok (ArrayForm f b.0, b.1)

-- the array suffix, if there is one; the element may be no deeper than the number
unfoldable pub suffix_at : Limits → ℕ → FormTree → List Token → Read FormTree
suffix_at limits room f tokens = suffix_by limits room f (after_sign sign.OpenBracket tokens) tokens

-- a type, no deeper than the number
unfoldable pub form_at : Limits → ℕ → FormReader
form_at limits zero [] = Err (Wrong 0)
form_at limits zero (t ∷ rest) = Err Deep
form_at limits (suc room) tokens = base_at limits (form_at limits room) tokens >>= λ f. suffix_at limits room f.0 f.1

-- ---- what a function read

-- the reading gives the field that a function found, and the tokens that it left
abbrev pub ReadsField : Result (FoundField × Bor (List Kind)) Stop → Read FieldTree → Type 0
ReadsField result read = Reads (λ found. field_tree found.field) result read

abbrev pub ReadsFields : Result (FoundFields × Bor (List Kind)) Stop → Read FieldTrees → Type 0
ReadsFields result read = Reads (λ found. fields_tree found.fields.items) result read

abbrev pub ReadsForm : Result (FoundForm × Bor (List Kind)) Stop → Read FormTree → Type 0
ReadsForm result read = Reads (λ found. form_tree found.form) result read

-- ---- pickles

unfoldable pub declaration_at : Limits → List Token → Read DeclarationTree
declaration_at limits tokens = do
  start ← needed (after_word word.Type tokens) tokens
  name ← name_at start
  assign ← expect sign.Assign name.1
  f ← form_at limits limits.form_depth assign
  after ← expect sign.Semicolon f.1
  Ok (record { name = name.0; form = f.0 }, after)

abbrev pub with_declaration : DeclarationTree → Result (List DeclarationTree) Fault →
    Result (List DeclarationTree) Fault
with_declaration d (Ok ds) = Ok (d ∷ ds)
with_declaration d (Err e) = Err e

abbrev pub is_over : List Token → Bool
is_over [] = true
is_over (t ∷ rest) = false

-- at most so many declarations, to the end
unfoldable pub declarations_at : Limits → ℕ → List Token → Result (List DeclarationTree) Fault
declarations_at limits n [] = Ok []
declarations_at limits zero (t ∷ rest) = Err Many
declarations_at limits (suc n) (t ∷ rest) =
    declaration_at limits (t ∷ rest) >>= λ d. with_declaration d.0 (declarations_at limits n d.1)

abbrev pub pickle_at : Limits → List Token → Result (List DeclarationTree) Fault
pickle_at limits tokens = declarations_at limits limits.declarations tokens
