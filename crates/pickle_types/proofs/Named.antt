-- Names that get numbers, and types that get names.
use Rattle.std.proofs.Common.{◌≡◌, ℕ, List, [], ◌∷◌, ◌++◌, length, map, Option, Some, None, Bool, true, false, refl, sym, ap, ◌∙◌}
use Rattle.std.specs.Prelude.{if◌then◌else◌, option_map, is_some, nat_eq}
use Rattle.std.specs.Str.{bytes_eq}
use Rattle.std.specs.Cmp.Lexicographic.{bytes_decides}
use Rattle.std.proofs.lemmas.Cmp.{nat_list_eq_equiv}
use Rattle.std.proofs.lemmas.List.{map_push, length-map}
use Rattle.indexmap.specs.IndexMap.{IndexMap, values, insert_entry}
use Rattle.indexmap.proofs.CallerLemmas.{insert_entry-new}
use Rattle.pickle_types.specs.declared.names.Named.{Named}
use Rattle.pickle_types.specs.declared.number_hasher.ByNumber.{ByNumber}
use Rattle.pickle_types.specs.declared.places_by_name.PlacesByName.{PlacesByName}
use Rattle.pickle_types.specs.PlacesByName.{place_at}
use Rattle.pickle_types.specs.FieldNames.{place_named}
use Rattle.pickle_types.specs.Meaning.{has_name}
use Rattle.pickle_types.specs.Built.{declared_as}
use Rattle.pickle_types.specs.Numbers.{numbered, number_in, at_number, in_map, declared_in, IsNaming}
use Rattle.pickle_types.proofs.Placed.{placed_is, placed_new, place_new}
use Rattle.pickle_types.proofs.Looks.{declared_push}
use Rattle.pickle_types.proofs.NamedTypes.{single_more}
use Rattle.pickle_types.proofs.Numbered.{numbered_more, numbered_put}

module _ (words : List (List ℕ)) (word : List ℕ) (none : number_in words word ≡ None) where
  unnumbered : has_name word (numbered words) ≡ false
  unnumbered = sym (placed_is word (numbered words)) ∙ ap is_some none

  -- a new name has the number of names before it
  pub number_new : number_in (words ++ word ∷ []) word ≡ Some (length words)
  number_new =
      ap (place_named word) (map_push (λ (x : List ℕ). Some x) words word)
      ∙ place_new word (numbered words) (Some word) (nat_list_eq_equiv.refl word) unnumbered
      ∙ ap Some (length-map words (λ (x : List ℕ). Some x))

  other : (w : List ℕ) → bytes_eq word w ≡ true → has_name w (numbered words) ≡ false
  other w same = rw (← (bytes_decides word w).0 same) unnumbered

-- one more name
pub named_more : (words : List (List ℕ)) (word : List ℕ) (old new : PlacesByName) (types : IndexMap ℕ Named ByNumber) →
    IsNaming words old types → number_in words word ≡ None →
    ((w : List ℕ) → place_at new w ≡ (if bytes_eq word w then Some (length (numbered words)) else place_at old w)) →
    IsNaming (words ++ word ∷ []) new types
named_more words word old new types h none put = record {
  number = rw (map_push (λ (x : List ℕ). Some x) words word)
      (placed_new (numbered words) (Some word) old new h.number (other words word none) put);
  type = numbered_more words (declared_in types) (λ w. declared_as w (values types)) h.type (word ∷ []);
  single = h.single;
}

declared_if : (b : Bool) (d : Named) (o : Option Named) →
    option_map (λ (x : Named). x.declared) (if b then Some d else o)
    ≡ (if b then Some d.declared else option_map (λ (x : Named). x.declared) o)
declared_if true d o = refl
declared_if false d o = refl

nothing_declared : (o : Option Named) → option_map (λ (x : Named). x.declared) o ≡ None → o ≡ None
nothing_declared None e = refl
nothing_declared (Some d) e = cc

-- one more type, whose name no type has
module _ (words : List (List ℕ)) (numbers : PlacesByName) (types : IndexMap ℕ Named ByNumber)
    (h : IsNaming words numbers types)
    (word : List ℕ) (number : ℕ) (is : number_in words word ≡ Some number)
    (none : declared_as word (values types) ≡ None) where
  pub not_kept : in_map types number ≡ None
  not_kept =
      nothing_declared (in_map types number) (ap (at_number (declared_in types)) (sym is) ∙ h.type.kept word ∙ none)

  pub values_more : (more : IndexMap ℕ Named ByNumber) (d : Named) →
      more.entries ≡ insert_entry nat_eq types.entries number d → values more ≡ values types ++ d ∷ []
  values_more more d is' = ap (map (λ e. e.1)) (is' ∙ insert_entry-new nat_eq types number d not_kept)
      ∙ map_push (λ e. e.1) types.entries (number, d)

  pub type_more : (more : IndexMap ℕ Named ByNumber) (d : Named) → d.word.items ≡ word →
      values more ≡ values types ++ d ∷ [] →
      ((n : ℕ) → in_map more n ≡ (if nat_eq number n then Some d else in_map types n)) → IsNaming words numbers more
  type_more more d same all put = record {
    number = h.number;
    type = numbered_put words (declared_in types) (λ w. declared_as w (values types)) h.type word number d.declared
        (declared_in more) (λ w. declared_as w (values more)) is
        (λ n. ap (option_map (λ (x : Named). x.declared)) (put n) ∙ declared_if (nat_eq number n) d (in_map types n))
        found;
    single = rw all (single_more (values types) d h.single (ap (λ w. declared_as w (values types)) same ∙ none));
  }
    where
      found : (w : List ℕ) →
          declared_as w (values more) ≡ (if bytes_eq word w then Some d.declared else declared_as w (values types))
      found w =
          let turn : bytes_eq w d.word.items ≡ bytes_eq word w = rw same (nat_list_eq_equiv.symm w word) in
          ap (declared_as w) all
          ∙ declared_push w (values types) d (λ e. let one = (bytes_decides w d.word.items).0 e in rw (one, same) none)
          ∙ ap (λ b. if b then Some d.declared else declared_as w (values types)) turn

-- the type stored under the number of a name is the type of that name
module _ (words : List (List ℕ)) (numbers : PlacesByName) (types : IndexMap ℕ Named ByNumber)
    (h : IsNaming words numbers types) (word : List ℕ) where
  pub named_none : number_in words word ≡ None → declared_as word (values types) ≡ None
  named_none none = sym (h.type.kept word) ∙ ap (at_number (declared_in types)) none

  pub named_some : (number : ℕ) (o : Option Named) → number_in words word ≡ Some number → in_map types number ≡ o →
      declared_as word (values types) ≡ option_map (λ (x : Named). x.declared) o
  named_some number o is kept = sym (h.type.kept word) ∙ ap (at_number (declared_in types)) is
      ∙ ap (option_map (λ (x : Named). x.declared)) kept
