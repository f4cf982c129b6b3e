-- The types that a pickle declares as JSON objects, each on a line.
use Rattle.std.specs.Prelude.{ℕ, List, [], ◌∷◌, ◌++◌, Option, map, codes}
use Rattle.std.specs.Io.KnownBytes.{Appends}
use Rattle.pickle_tree.specs.Tree.{DeclarationTree}
use Rattle.pickle_types.specs.Names.{Names}
use Rattle.pickle_types.specs.DeclaredTypes.{Told, told_as, declared_in}
use Rattle.pickle_types.specs.declared.declared_types.TypeKind.{TypeKind}
use Rattle.pickle_types.specs.declared.declared_types.TypeKind.TheVariants as kind
use Rattle.run_parts.specs.Accepted.{IsAccepted, Refuses, refusal_saying}
use Rattle.run_parts.specs.Told.{Saying, Text}
use Rattle.run_parts.specs.declared.accept.Refusal.{Refusal}
use Rattle.run_parts.specs.declared.outcome.Outcome.{Outcome}
use Rattle.run_parts.specs.declared.outcome.Outcome.TheVariants as outcome
use Rattle.text_output.specs.Written.{AppendsPart}
use Rattle.value_text.specs.JsonText.{json_string}
use Rattle.pickle_json.specs.Members.{number_member}
use Rattle.pickle_json.specs.Fields.{IsFieldsMember}

-- the member with the word of a kind
abbrev pub kind_member : TypeKind → List ℕ
kind_member kind.Integer = codes ",\"kind\":\"integer\""
kind_member kind.Offset = codes ",\"kind\":\"offset\""
kind_member kind.String = codes ",\"kind\":\"string\""
kind_member kind.Array = codes ",\"kind\":\"array\""
kind_member kind.Struct = codes ",\"kind\":\"struct\""
kind_member kind.Union = codes ",\"kind\":\"union\""

-- the start of the object of a type: its name, its kind, its least width and the text of its declaration
abbrev pub type_start : Told → (text : List ℕ) → List ℕ
type_start told text =
    (codes "{\"name\":" ++ json_string told.0)
    ++ (kind_member told.1 ++ (number_member (codes ",\"least\":") told.2 ++ (codes ",\"text\":" ++ json_string text)))

-- the object of a type, on a line, with its fields
abbrev pub type_object : Told → (text fields : List ℕ) → List ℕ
type_object told text fields = type_start told text ++ (fields ++ codes "}\n")

-- lines of objects, one for each type
pub data AreTypeObjects : List Told → List ℕ → Type 0 where
  no_object : AreTypeObjects [] []
  one_object : {types : List Told} {lines : List ℕ} (told : Told) (text : List ℕ) {fields : List ℕ}
      → IsFieldsMember fields → AreTypeObjects types lines
      → AreTypeObjects (types ++ told ∷ []) (lines ++ type_object told text fields)

-- a writer got the objects of types
pub record WritesObjects (types : List Told) (old new : Option (List ℕ)) : Type 0 where
  pub lines : List ℕ
  pub are : AreTypeObjects types lines
  pub written : Appends old new lines

-- a failing writer got a part of them
pub record WritesObjectsPart (types : List Told) (old new : Option (List ℕ)) : Type 0 where
  pub lines : List ℕ
  pub are : AreTypeObjects types lines
  pub written : AppendsPart old new lines

-- the same of the object of one type
pub record WritesObject (told : Told) (old new : Option (List ℕ)) : Type 0 where
  pub text : List ℕ
  pub fields : List ℕ
  pub is : IsFieldsMember fields
  pub written : Appends old new (type_object told text fields)

pub record WritesObjectPart (told : Told) (old new : Option (List ℕ)) : Type 0 where
  pub text : List ℕ
  pub fields : List ℕ
  pub is : IsFieldsMember fields
  pub written : AppendsPart old new (type_object told text fields)

-- the types of an accepted pickle, or why it is refused
pub data TypesInJson (pickle : List ℕ) : Saying → Type 0 where
  told_types : {declarations : List DeclarationTree} {types : Names} {lines : List ℕ}
      → IsAccepted pickle declarations types
      → AreTypeObjects (map told_as (declared_in types)) lines → TypesInJson pickle (Text lines)
  refused_types : {refusal : Refusal} → Refuses pickle refusal → TypesInJson pickle (refusal_saying refusal)

-- an outcome that is a refusal is the one of the pickle
abbrev pub IsRefusedFor : (pickle : List ℕ) → Outcome → Type 0
IsRefusedFor pickle (outcome.Refused refusal) = Refuses pickle refusal
IsRefusedFor pickle outcome.Done = Unit {0}
IsRefusedFor pickle outcome.NoSuchType = Unit {0}
IsRefusedFor pickle outcome.ImpossiblePart = Unit {0}
IsRefusedFor pickle outcome.Offset = Unit {0}
IsRefusedFor pickle (outcome.Fault why) = Unit {0}
IsRefusedFor pickle (outcome.Slots at) = Unit {0}
IsRefusedFor pickle (outcome.Storage at) = Unit {0}
IsRefusedFor pickle (outcome.Left at) = Unit {0}
IsRefusedFor pickle outcome.NoSuchPart = Unit {0}
IsRefusedFor pickle (outcome.Output at) = Unit {0}
IsRefusedFor pickle outcome.Unidentified = Unit {0}
IsRefusedFor pickle outcome.NotFound = Unit {0}
IsRefusedFor pickle (outcome.Attempts first count) = Unit {0}
IsRefusedFor pickle (outcome.Unaligned at) = Unit {0}
IsRefusedFor pickle (outcome.Failed why) = Unit {0}
