-- The types that the definitions give small pickles.
use Rattle.std.proofs.Common.{◌≡◌, ℕ, ◌^◌, List, [], ◌∷◌, Option, Some, None, Result, Ok, Err, true, false, refl, sym, ap, ◌∙◌, ◌+◌, ◌<◌, length, arith}
use Rattle.std.specs.Prelude.{codes}
use Rattle.pickle_tree.specs.declared.tree.Number.{Number}
use Rattle.pickle_tree.specs.declared.tree.Attribute.TheVariants.{Length}
use Rattle.pickle_tree.specs.declared.tree.ByteOrder.TheVariants.{Big}
use Rattle.pickle_tree.specs.declared.tree.Infix.TheVariants.{Equal, NotEqual, Add}
use Rattle.pickle_tree.specs.declared.tree.Unit.TheVariants.{Byte, Bits}
use Rattle.pickle_tree.specs.Tree.{Tree, TreeReference, Int, Uint, Called, FieldParts, FormTree, Plain, StringForm, OffsetForm, ArrayForm, StructForm, IntegralForm, UnionForm, FieldTrees, DeclarationTree}
use Rattle.pickle_tree.specs.Tree as tree
use Rattle.pickle_types.specs.declared.fault.FaultKind.{FaultKind}
use Rattle.pickle_types.specs.declared.fault.FaultKind.TheVariants.{UnknownType, DuplicateType, UnknownName, DuplicateField, Mismatch, Width, IntegralWidths, NotHere}
use Rattle.pickle_types.specs.Types.{PokeType, depth}
use Rattle.pickle_types.specs.Names.{Names, predeclared}
use Rattle.pickle_types.specs.Expressions.{typed}
use Rattle.pickle_types.specs.Meaning.{integer_expression, offset_expression, bound_expression, fresh, meaning, fields_meaning, declared_type, declared}
use Rattle.pickle_types.specs.WellTyped.{Declares}
use Rattle.pickle_types.proofs.Meanings.{declared_whole}

-- whether the declarations are accepted
abbrev faults_of : Result Names FaultKind → Option FaultKind
faults_of (Ok names) = None
faults_of (Err e) = Some e

abbrev fault : List DeclarationTree → Option FaultKind
fault ds = faults_of (declared predeclared ds)

abbrev number : ℕ → Number
number n = record { value = n; width = 32; signed = true }

abbrev literal : ℕ → Tree
literal n = tree.Literal (number n)

abbrev nothing : FieldParts
nothing = record { order = None; name = None; constraint = None; label = None; condition = None }

abbrev called : List ℕ → FieldParts
called word = record nothing { name = Some word }

abbrev byte : FormTree
byte = Plain (Called (codes "byte"))

abbrev bit : FormTree
bit = Plain (Called (codes "bit"))

abbrev type : List ℕ → FormTree → DeclarationTree
type name form = record { name = name; form = form }

abbrev one : FormTree → FieldParts → FieldTrees
one form parts = tree.FieldThen form parts tree.NoFields

abbrev a : List ℕ
a = codes "A"

abbrev x : List ℕ
x = codes "x"

unknown_type : fault (type a (StructForm false (one (Plain (Called (codes "B"))) (called x))) ∷ []) ≡ Some UnknownType
unfolding declared declared_type meaning fields_meaning integer_expression offset_expression
    bound_expression fresh typed depth
unknown_type = refl

duplicate_type : fault (type a byte ∷ type a bit ∷ []) ≡ Some DuplicateType
unfolding declared declared_type meaning fields_meaning integer_expression offset_expression
    bound_expression fresh typed depth
duplicate_type = refl

predeclared_type : fault (type (codes "byte") bit ∷ []) ≡ Some DuplicateType
unfolding declared declared_type meaning fields_meaning integer_expression offset_expression
    bound_expression fresh typed depth
predeclared_type = refl

unknown_name : fault
    (type a (StructForm false (one byte (record (called x) { constraint = Some (tree.Name (codes "y")) }))) ∷ [])
    ≡ Some UnknownName
unfolding declared declared_type meaning fields_meaning integer_expression offset_expression
    bound_expression fresh typed depth
unknown_name = refl

duplicate_field : fault (type a (StructForm false (tree.FieldThen byte (called x) (one bit (called x)))) ∷ [])
    ≡ Some DuplicateField
unfolding declared declared_type meaning fields_meaning integer_expression offset_expression
    bound_expression fresh typed depth
duplicate_field = refl

mismatch : fault
    (type a (StructForm false (one byte (record (called x) { constraint = Some (tree.Text (codes "a")) }))) ∷ [])
    ≡ Some Mismatch
unfolding declared declared_type meaning fields_meaning integer_expression offset_expression
    bound_expression fresh typed depth
mismatch = refl

width : fault (type a (Plain (Uint (number 65))) ∷ []) ≡ Some Width
unfolding declared declared_type meaning fields_meaning integer_expression offset_expression
    bound_expression fresh typed depth
width = refl

no_width : fault (type a (Plain (Int (number 0))) ∷ []) ≡ Some Width
unfolding declared declared_type meaning fields_meaning integer_expression offset_expression
    bound_expression fresh typed depth
no_width = refl

number_too_great : fault (type a
    (StructForm false (one byte (record (called x) { constraint = Some (tree.Literal (number (2 ^ 31))) }))) ∷ [])
    ≡ Some Width
unfolding declared declared_type meaning fields_meaning integer_expression offset_expression
    bound_expression fresh typed depth
number_too_great = refl

greatest_number : fault (type a
    (StructForm false (one byte (record (called x) { constraint = Some (tree.Literal (number 2147483647)) }))) ∷ [])
    ≡ None
unfolding declared declared_type meaning fields_meaning integer_expression offset_expression
    bound_expression fresh typed depth
greatest_number = refl

integral_widths : fault
    (type a (IntegralForm (Uint (number 8)) (one (Plain (Uint (number 4))) (called (codes "a")))) ∷ [])
    ≡ Some IntegralWidths
unfolding declared declared_type meaning fields_meaning integer_expression offset_expression
    bound_expression fresh typed depth
integral_widths = refl

empty_integral : fault (type a (IntegralForm (Uint (number 8)) tree.NoFields) ∷ []) ≡ Some IntegralWidths
unfolding declared declared_type meaning fields_meaning integer_expression offset_expression
    bound_expression fresh typed depth
empty_integral = refl

nameless_alternative : fault (type a (UnionForm (one byte nothing)) ∷ []) ≡ Some NotHere
unfolding declared declared_type meaning fields_meaning integer_expression offset_expression
    bound_expression fresh typed depth
nameless_alternative = refl

empty_union : fault (type a (UnionForm tree.NoFields) ∷ []) ≡ Some NotHere
unfolding declared declared_type meaning fields_meaning integer_expression offset_expression
    bound_expression fresh typed depth
empty_union = refl

prefixed_array : fault
    (type a (StructForm false (one (ArrayForm byte None) (record (called x) { order = Some Big }))) ∷ []) ≡ Some NotHere
unfolding declared declared_type meaning fields_meaning integer_expression offset_expression
    bound_expression fresh typed depth
prefixed_array = refl

labelled_in_pinned : fault (type a
    (StructForm true (one byte (record (called x) { label = Some (tree.After (literal 0) (tree.InUnit Byte)) }))) ∷ [])
    ≡ Some NotHere
unfolding declared declared_type meaning fields_meaning integer_expression offset_expression
    bound_expression fresh typed depth
labelled_in_pinned = refl

integer_and_offset : fault (type a (StructForm false (tree.FieldThen byte (called x) (one byte (record (called
    (codes "y")) { constraint = Some (tree.Between Add (tree.Name x) (tree.After (literal 1) (tree.InUnit Byte))) }))))
    ∷ []) ≡ Some Mismatch
unfolding declared declared_type meaning fields_meaning integer_expression offset_expression
    bound_expression fresh typed depth
integer_and_offset = refl

length_of_integer : fault (type a (StructForm false
    (one byte (record (called x) { constraint = Some (tree.After (tree.Name x) (tree.AttributeOf Length)) }))) ∷ [])
    ≡ Some Mismatch
unfolding declared declared_type meaning fields_meaning integer_expression offset_expression
    bound_expression fresh typed depth
length_of_integer = refl

other_alternative : fault (type a (UnionForm (tree.FieldThen byte (called (codes "a")) (one byte
    (record (called (codes "b")) { constraint = Some (tree.Between Equal (tree.Name (codes "a")) (literal 1)) }))))
    ∷ []) ≡ Some UnknownName
unfolding declared declared_type meaning fields_meaning integer_expression offset_expression
    bound_expression fresh typed depth
other_alternative = refl

no_unit : fault (type a (OffsetForm (Uint (number 8)) (Bits (number 0))) ∷ []) ≡ Some Width
unfolding declared declared_type meaning fields_meaning integer_expression offset_expression
    bound_expression fresh typed depth
no_unit = refl

named_sees_nothing : fault
    (type a (StructForm false (one byte (called (codes "n")))) ∷ type (codes "D") (StructForm false (one byte
    (record (called (codes "k")) { constraint = Some (tree.Between Equal (tree.Name (codes "n")) (literal 1)) })))
    ∷ []) ≡ Some UnknownName
unfolding declared declared_type meaning fields_meaning integer_expression offset_expression
    bound_expression fresh typed depth
named_sees_nothing = refl

bracketed_text : fault (type a (StructForm false (one StringForm (record (called (codes
    "s")) { constraint = Some (tree.Between Equal (tree.Name (codes "s")) (tree.Bracket (tree.Text (codes "a")))) })))
    ∷ []) ≡ Some Mismatch
unfolding declared declared_type meaning fields_meaning integer_expression offset_expression
    bound_expression fresh typed depth
bracketed_text = refl

bracketed_path : fault (type a (StructForm false (one StringForm (record (called (codes
    "s")) { constraint = Some (tree.Between Equal (tree.Bracket (tree.Name (codes "s"))) (tree.Text (codes "a"))) })))
    ∷ []) ≡ None
unfolding declared declared_type meaning fields_meaning integer_expression offset_expression
    bound_expression fresh typed depth
bracketed_path = refl

no_fields : fault (type a (StructForm false tree.NoFields) ∷ []) ≡ None
unfolding declared declared_type meaning fields_meaning integer_expression offset_expression
    bound_expression fresh typed depth
no_fields = refl

constrained : fault (type (codes "E") (StructForm false (one byte
    (record (called (codes "v")) { constraint = Some (tree.Between NotEqual (tree.Name (codes "v")) (literal 0)) })))
    ∷ type a (StructForm false (tree.FieldThen (ArrayForm (Plain (Called (codes "E"))) None) (called (codes "es"))
    (one byte (called (codes "z"))))) ∷ []) ≡ None
unfolding declared declared_type meaning fields_meaning integer_expression offset_expression
    bound_expression fresh typed depth
constrained = refl

-- no types are declared where one is unknown, and no other types than the written ones
abbrev count_in : Result Names FaultKind → ℕ
count_in (Ok names) = length names + 1
count_in (Err e) = 0

apart : (m n : ℕ) → m < n → m ≡ n → ⊥
apart m n less e = absurd (omega (arith, less, e))

unknown : declared predeclared (type a (Plain (Called (codes "B"))) ∷ []) ≡ Err UnknownType
unfolding declared declared_type meaning fields_meaning integer_expression offset_expression
    bound_expression fresh typed depth
unknown = refl

unknown_declares_nothing : (all : Names) → Declares predeclared (type a (Plain (Called (codes "B"))) ∷ []) all → ⊥
unknown_declares_nothing all h =
    apart 0 (length all + 1) (omega arith) (ap count_in (sym unknown ∙ declared_whole _ _ all h))

nothing_is_declared : (name : List ℕ) (t : PokeType) → Declares predeclared [] ((name, t) ∷ predeclared) → ⊥
unfolding declared
nothing_is_declared name t h =
    apart (length predeclared + 1) (length predeclared + 2) (omega arith) (ap count_in (declared_whole _ _ _ h))
