-- Lists of fields, whose names have numbers.
use Rattle.std.specs.Prelude.{ℕ, List, IfSome}
use Rattle.pickle_types.specs.declared.check.field_list.FieldList.{FieldList}
use Rattle.pickle_types.specs.Built.{names_in}
use Rattle.pickle_types.specs.FieldNames.{place_named, AreDistinct}
use Rattle.pickle_types.specs.Numbers.{IsNumbered, in_map}

-- no two fields have the same name, and the places of many fields are stored under the numbers of their names
pub record IsFieldList (words : List (List ℕ)) (l : FieldList) : Type 0 where
  pub distinct : AreDistinct (names_in l.fields.items)
  pub places : IfSome l.places
      (λ places. IsNumbered words (in_map places) (λ word. place_named word (names_in l.fields.items)))
