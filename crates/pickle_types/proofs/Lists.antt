-- Lists of fields, no two of one name.
use Rattle.std.proofs.Common.{◌≡◌, ℕ, zero, suc, List, [], ◌∷◌, ◌++◌, length, Option, Some, None, Ok, Bool, true, false, refl, sym, ap, ◌∙◌, inl, inr}
use Rattle.std.specs.Prelude.{slice_get, is_some, option_map, IfSome}
use Rattle.indexmap.specs.IndexMap.{IndexMap, IsEmpty}
use Rattle.std.proofs.lemmas.Bool.{cases_lt}
use Rattle.std.specs.Cmp.Lexicographic.{bytes_decides}
use Rattle.std.proofs.lemmas.Cmp.{nat_list_eq_equiv}
use Rattle.pickle_types.specs.declared.node.Field.{Field}
use Rattle.pickle_types.specs.declared.node.Part.{Part}
use Rattle.pickle_types.specs.declared.check.field_list.FieldList.{FieldList}
use Rattle.pickle_types.specs.declared.number_hasher.ByNumber.{ByNumber}
use Rattle.pickle_types.specs.Table.{name_of}
use Rattle.pickle_types.specs.FieldLists.{IsFieldList}
use Rattle.pickle_types.specs.Numbers.{number_in, at_number, in_map, Extends, IsNumbered}
use Rattle.pickle_types.proofs.Numbered.{numbered_on}
use Rattle.pickle_types.specs.Scopes.{is_named}
use Rattle.pickle_types.specs.Meaning.{fresh}
use Rattle.pickle_types.specs.Built.{names_in}
use Rattle.pickle_types.specs.FieldNames.{place_named, part_names, AreDistinct}
use Rattle.pickle_types.proofs.Items.{get_front, is_last}
use Rattle.pickle_types.proofs.Placed.{placed_is, place_other, place_new, apart}

pub distinct_none : AreDistinct []
distinct_none = record { first = λ i word at. cc }

-- one more field, whose name no other has
pub distinct_more : (names : List (Option (List ℕ))) (n : Option (List ℕ)) → AreDistinct names → fresh n names ≡ Ok tt →
    AreDistinct (names ++ n ∷ [])
distinct_more names n h new = record {
  first = λ i word at. elim (cases_lt i (length names)) [
    | inl lt ↦ before i word (h.first i word (sym (get_front names (n ∷ []) i lt) ∙ at)) (is_named n word) refl
    | inr le ↦ last i word (is_last names n i (Some word) at le).place (is_last names n i (Some word) at le).item
  ];
}
  where
    before : (i : ℕ) (word : List ℕ) → place_named word names ≡ Some i → (b : Bool) → is_named n word ≡ b →
        place_named word (names ++ n ∷ []) ≡ Some i
    before i word at true e =
        let clash : true ≡ false = ap is_some (sym at) ∙ placed_is word names ∙ apart n names new word e in cc
    before i word at false e = place_other word names n e ∙ at

    last : (i : ℕ) (word : List ℕ) → i ≡ length names → Some word ≡ n → place_named word (names ++ n ∷ []) ≡ Some i
    last i word place item =
        let here : is_named n word ≡ true = rw (← item) (nat_list_eq_equiv.refl word) in
        place_new word names n here (apart n names new word here) ∙ ap Some (sym place)

pub for_any : {A X : Type 0} (o : Option A) → X → IfSome o (λ _. X)
for_any None h = tt
for_any (Some a) h = h

-- a list of fields stays one where more names have numbers
pub list_on : (old new : List (List ℕ)) (l : FieldList) → IsFieldList old l → Extends old new → IsFieldList new l
list_on old new l h e = record { distinct = h.distinct; places = places_on l.places h.places }
  where
    places_on : (o : Option (IndexMap ℕ ℕ ByNumber)) →
        IfSome o (λ places. IsNumbered old (in_map places) (λ word. place_named word (names_in l.fields.items))) →
        IfSome o (λ places. IsNumbered new (in_map places) (λ word. place_named word (names_in l.fields.items)))
    places_on None h = tt
    places_on (Some places) h = numbered_on old new _ _ h e

-- no fields
pub list_none : (words : List (List ℕ)) (l : FieldList) → l.fields.items ≡ [] →
    IfSome l.places IsEmpty → IsFieldList words l
list_none words l none empty = record { distinct = rw none distinct_none; places = rw none (by l.places empty) }
  where
    at_none : (words : List (List ℕ)) (at : ℕ → Option ℕ) (word : List ℕ) → ((n : ℕ) → at n ≡ None) →
        at_number at (number_in words word) ≡ None
    at_none words at word none = step (number_in words word)
      where
        step : (o : Option ℕ) → at_number at o ≡ None
        step None = refl
        step (Some n) = none n

    by : (o : Option (IndexMap ℕ ℕ ByNumber)) → IfSome o IsEmpty →
        IfSome o (λ places. IsNumbered words (in_map places) (λ word. place_named word []))
    by None h = tt
    by (Some places) h =
        record { kept = λ word. at_none words (in_map places) word (λ n. rw h refl); unused = λ n le. rw h refl }

called_is : (n : Option (List ℕ)) (word : List ℕ) → is_named n word ≡ true → n ≡ Some word
called_is None word e = cc
called_is (Some name) word e = ap Some ((bytes_decides name word).0 e)

-- the name of the field at a place
pub field_called : (fs : List Field) (i : ℕ) (f : Field) (word : List ℕ) → slice_get fs i ≡ Some f →
    is_named (name_of f.name) word ≡ true → slice_get (names_in fs) i ≡ Some (Some word)
field_called [] i f word at e = cc
field_called (g ∷ fs) zero f word at e =
    let same = called_is (name_of f.name) word e in
    let one : Some g ≡ Some f = at in ap (option_map (λ (x : Field). name_of x.name)) one ∙ ap Some same
field_called (g ∷ fs) (suc i) f word at e = field_called fs i f word at e

pub part_called : (ps : List Part) (i : ℕ) (p : Part) (word : List ℕ) → slice_get ps i ≡ Some p →
    is_named (name_of p.name) word ≡ true → slice_get (part_names ps) i ≡ Some (Some word)
part_called [] i p word at e = cc
part_called (q ∷ ps) zero p word at e =
    let same = called_is (name_of p.name) word e in
    let one : Some q ≡ Some p = at in ap (option_map (λ (x : Part). name_of x.name)) one ∙ ap Some same
part_called (q ∷ ps) (suc i) p word at e = part_called ps i p word at e
