-- A field of a struct or a union as a JSON object.
use Rattle.std.specs.Prelude.{ℕ, ◌+◌, nat_eq, List, [], ◌∷◌, ◌++◌, Option, codes}
use Rattle.std.specs.Io.KnownBytes.{Appends}
use Rattle.text_output.specs.Written.{AppendsPart}
use Rattle.value_text.specs.JsonText.{json_string}
use Rattle.value_text.specs.ValueText.{comma}
use Rattle.pickle_json.specs.declared.field.FieldTexts.{FieldTexts}
use Rattle.pickle_json.specs.Members.{text_member, number_member}

-- the name of a field, null if it has none
abbrev pub name_start : List ℕ → List ℕ
name_start [] = codes "{\"name\":null"
name_start (byte ∷ bytes) = codes "{\"name\":" ++ json_string (byte ∷ bytes)

-- its name and its type, and what else it has
abbrev pub field_json : FieldTexts → List ℕ
field_json field =
    name_start field.name.now
    ++ ((codes ",\"type\":" ++ json_string field.form.now) ++ (text_member (codes ",\"order\":") field.order.now
    ++ (number_member (codes ",\"width\":") field.width ++ (text_member (codes ",\"bound\":") field.bound.now
    ++ (text_member (codes ",\"constraint\":") field.constraint.now
    ++ (text_member (codes ",\"label\":") field.label.now
    ++ (text_member (codes ",\"condition\":") field.condition.now ++ codes "}")))))))

-- so many fields as objects, with commas between them
pub data AreFields : (count : ℕ) → List ℕ → Type 0 where
  no_field : AreFields 0 []
  one_field : {count : ℕ} {text : List ℕ} (field : FieldTexts) → AreFields count text →
      AreFields (count + 1) (text ++ (comma (nat_eq count 0) ++ field_json field))

-- nothing, or the member with the fields of a type that is declared with braces
pub data IsFieldsMember : List ℕ → Type 0 where
  no_member : IsFieldsMember []
  member : {count : ℕ} {text : List ℕ} → AreFields count text →
      IsFieldsMember (codes ",\"fields\":[" ++ (text ++ codes "]"))

-- a writer got fields before a place
pub record WritesFields (count : ℕ) (old new : Option (List ℕ)) : Type 0 where
  pub text : List ℕ
  pub are : AreFields count text
  pub written : Appends old new text

-- a failing writer got a part of fields
pub record WritesFieldsPart (old new : Option (List ℕ)) : Type 0 where
  pub count : ℕ
  pub text : List ℕ
  pub are : AreFields count text
  pub written : AppendsPart old new text

-- the same of the member
pub record WritesMember (old new : Option (List ℕ)) : Type 0 where
  pub text : List ℕ
  pub is : IsFieldsMember text
  pub written : Appends old new text

pub record WritesMemberPart (old new : Option (List ℕ)) : Type 0 where
  pub text : List ℕ
  pub is : IsFieldsMember text
  pub written : AppendsPart old new text
