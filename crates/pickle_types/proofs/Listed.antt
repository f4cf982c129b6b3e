-- Lists of fields that get one field more.
use Rattle.std.proofs.Common.{◌≡◌, ℕ, List, [], ◌∷◌, ◌++◌, length, Option, Some, None, Ok, refl, sym, ap, ◌∙◌}
use Rattle.std.specs.Prelude.{if◌then◌else◌, is_some, IfSome, nat_eq}
use Rattle.std.specs.Str.{bytes_eq}
use Rattle.indexmap.specs.IndexMap.{IndexMap}
use Rattle.pickle_types.specs.declared.node.Field.{Field}
use Rattle.pickle_types.specs.declared.check.field_list.FieldList.{FieldList}
use Rattle.pickle_types.specs.declared.number_hasher.ByNumber.{ByNumber}
use Rattle.pickle_types.specs.Table.{name_of}
use Rattle.pickle_types.specs.Meaning.{has_name, fresh}
use Rattle.pickle_types.specs.Built.{names_in}
use Rattle.pickle_types.specs.FieldNames.{place_named, AreDistinct}
use Rattle.pickle_types.specs.FieldLists.{IsFieldList}
use Rattle.pickle_types.specs.Numbers.{number_in, at_number, in_map, Extends, IsNumbered}
use Rattle.pickle_types.proofs.Buildings.{names_more, names_count}
use Rattle.pickle_types.proofs.Placed.{placed_is, place_other, placed_last, apart}
use Rattle.pickle_types.proofs.Numbered.{numbered_on, numbered_put}
use Rattle.pickle_types.proofs.Lists.{distinct_more}

numbered_as : {X : Type 0} (words : List (List ℕ)) (at : ℕ → Option X) (look look' : List ℕ → Option X) →
    IsNumbered words at look → ((word : List ℕ) → look' word ≡ look word) → IsNumbered words at look'
numbered_as words at look look' h same = record { kept = λ word. h.kept word ∙ sym (same word); unused = h.unused }

abbrev AreKept : List (List ℕ) → (List ℕ → Option ℕ) → Option (IndexMap ℕ ℕ ByNumber) → Type 0
AreKept words look o = IfSome o (λ places. IsNumbered words (in_map places) look)

kept_as : (words : List (List ℕ)) (look look' : List ℕ → Option ℕ) (o : Option (IndexMap ℕ ℕ ByNumber)) →
    AreKept words look o → ((word : List ℕ) → look' word ≡ look word) → AreKept words look' o
kept_as words look look' None h same = tt
kept_as words look look' (Some places) h same = numbered_as words (in_map places) look look' h same

-- whether a field of many has a name
pub list_has : (words : List (List ℕ)) (l : FieldList) (places : IndexMap ℕ ℕ ByNumber) (word : List ℕ) →
    IsFieldList words l → l.places ≡ Some places →
    has_name word (names_in l.fields.items) ≡ is_some (at_number (in_map places) (number_in words word))
list_has words l places word h many =
    let kept : AreKept words (λ w. place_named w (names_in l.fields.items)) (Some places) = rw many at h.places in
    sym (placed_is word (names_in l.fields.items)) ∙ ap is_some (sym (kept.kept word))

module _ (words : List (List ℕ)) (l new : FieldList) (f : Field) (h : IsFieldList words l)
    (new_name : fresh (name_of f.name) (names_in l.fields.items) ≡ Ok tt)
    (more : new.fields.items ≡ l.fields.items ++ f ∷ []) where
  fields_distinct : AreDistinct (names_in new.fields.items)
  fields_distinct = rw (more, names_more l.fields.items f)
      (distinct_more (names_in l.fields.items) (name_of f.name) h.distinct new_name)

  -- one more field, of few
  pub list_few : new.places ≡ None → IsFieldList words new
  list_few few = record { distinct = fields_distinct; places = rw few tt }

  -- one more field that has no name
  pub list_nameless : name_of f.name ≡ None → new.places ≡ l.places → IsFieldList words new
  list_nameless none same = record {
    distinct = fields_distinct;
    places = rw same (kept_as words (λ w. place_named w (names_in l.fields.items))
        (λ w. place_named w (names_in new.fields.items)) l.places h.places found);
  }
    where
      found : (w : List ℕ) → place_named w (names_in new.fields.items) ≡ place_named w (names_in l.fields.items)
      found w = ap (λ fs. place_named w (names_in fs)) more
          ∙ ap (place_named w) (names_more l.fields.items f ∙ ap (λ n. names_in l.fields.items ++ n ∷ []) none)
          ∙ place_other w (names_in l.fields.items) None refl

  -- one more field of many, under the number of its name
  pub list_named : (words' : List (List ℕ)) (word : List ℕ) (number : ℕ) (old kept : IndexMap ℕ ℕ ByNumber) →
      name_of f.name ≡ Some word → l.places ≡ Some old → new.places ≡ Some kept →
      Extends words words' → number_in words' word ≡ Some number →
      ((n : ℕ) → in_map kept n ≡ (if nat_eq number n then Some (length l.fields.items) else in_map old n)) →
      IsFieldList words' new
  list_named words' word number old kept name was is longer numbered put = record {
    distinct = fields_distinct;
    places = rw is (numbered_put words' (in_map old) (λ w. place_named w (names_in l.fields.items))
        (numbered_on words words' (in_map old) (λ w. place_named w (names_in l.fields.items)) before longer) word number
        (length l.fields.items) (in_map kept) (λ w. place_named w (names_in new.fields.items)) numbered put found);
  }
    where
      before : IsNumbered words (in_map old) (λ w. place_named w (names_in l.fields.items))
      before = rw was at h.places

      found : (w : List ℕ) → place_named w (names_in new.fields.items)
          ≡ (if bytes_eq word w then Some (length l.fields.items) else place_named w (names_in l.fields.items))
      found w =
          let apart' = apart (Some word) (names_in l.fields.items) (rw name at new_name) in
          ap (λ fs. place_named w (names_in fs)) more
          ∙ ap (place_named w) (names_more l.fields.items f ∙ ap (λ n. names_in l.fields.items ++ n ∷ []) name)
          ∙ placed_last (names_in l.fields.items) (Some word) apart' w
          ∙ ap (λ (n : ℕ). if bytes_eq word w then Some n else place_named w (names_in l.fields.items))
          (names_count l.fields.items)
