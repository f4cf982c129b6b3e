-- What a run must print for the types that a pickle declares.
use Rattle.std.specs.Prelude.{ℕ, List, ◌++◌, Option, Some, None, codes, decimal, map}
use Rattle.std.specs.List.{flat_map}
use Rattle.pickle_tree.specs.Tree.{DeclarationTree}
use Rattle.pickle_types.specs.Names.{Names}
use Rattle.pickle_types.specs.DeclaredTypes.{Told, told_of, told_as, declared_in}
use Rattle.pickle_types.specs.declared.declared_types.DeclaredType.{DeclaredType}
use Rattle.pickle_types.specs.declared.declared_types.TypeKind.{TypeKind}
use Rattle.pickle_types.specs.declared.declared_types.TypeKind.TheVariants as kind
use Rattle.run_parts.specs.declared.accept.Refusal.{Refusal}
use Rattle.run_parts.specs.Accepted.{IsAccepted, Refuses, refusal_saying}
use Rattle.run_parts.specs.Told.{Saying, Text}

-- the word of a kind between two tabs
abbrev pub kind_column : TypeKind → List ℕ
kind_column kind.Integer = codes "\tinteger\t"
kind_column kind.Offset = codes "\toffset\t"
kind_column kind.String = codes "\tstring\t"
kind_column kind.Array = codes "\tarray\t"
kind_column kind.Struct = codes "\tstruct\t"
kind_column kind.Union = codes "\tunion\t"

-- a width in decimal digits, or what is printed for one of 2^64 or more
abbrev pub width_number : Option ℕ → List ℕ
width_number None = codes "more than 2^64-1"
width_number (Some width) = decimal width

-- a width as an offset in bits, and the end of its line
unfoldable pub width_text : Option ℕ → List ℕ
width_text width = width_number width ++ codes "#b\n"

-- name, kind and least width of a type, on a line
unfoldable pub type_line : Told → List ℕ
type_line told = told.0 ++ (kind_column told.1 ++ width_text told.2)

-- the lines of the declared types
abbrev pub told_lines : List DeclaredType → List ℕ
told_lines = flat_map (λ told. type_line (told_of told))

-- a line for each type that is declared
abbrev pub types_lines : Names → List ℕ
types_lines types = flat_map type_line (map told_as (declared_in types))

-- the types of an accepted pickle, or why it is refused
pub data TypesAs (pickle : List ℕ) : Saying → Type 0 where
  told_types : {declarations : List DeclarationTree} {types : Names} → IsAccepted pickle declarations types →
      TypesAs pickle (Text (types_lines types))
  refused_types : {refusal : Refusal} → Refuses pickle refusal → TypesAs pickle (refusal_saying refusal)
