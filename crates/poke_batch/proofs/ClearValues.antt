-- The values that fit types with clear names have clear names.
use Rattle.std.proofs.Common.{◌≡◌, ℕ, zero, suc, ◌+◌, inl, inr, Bool, List, Option, Some, None, refl, sym, subst}
use Rattle.std.specs.Prelude.{slice_get, unwrap_or}
use Rattle.pickle_types.specs.Types.{PokeType, IntegerOf, OffsetOf, StringOf, ArrayOf, StructOf, IntegralOf, UnionOf, Fields, NoFields, FieldThen, Parts, NoParts, PartThen}
use Rattle.pickle_meaning.specs.Values.{Naming, Label, ArrayLabel, StructLabel, UnionLabel, Value, Levels, pushed, opened, top_of, gathered}
use Rattle.pickle_meaning.specs.Means.{field_names, part_names, Taken}
use Rattle.pickle_meaning.specs.Fits.{FitsNumber, DigitsFit, Fits, FieldsFit, AlternativeFits}
use Rattle.value_store.specs.Labels.{member_name, only_name}
use Rattle.poke_batch.specs.PathLaws.{HasClearNames, HasClearPaths, HaveClearPaths, MappedPathsAreClear, MappedMembersAreFew}
use Rattle.poke_batch.proofs.AllMembers.{clear_each, some_pushed, none_pushed, elements_have}
use Rattle.poke_batch.proofs.SmallTypes.{IsWord, accepted_small}
use Rattle.poke_batch.proofs.FewMembers.{value_few}
use Rattle.poke_batch.proofs.ClearTypes.{AreWords, AreClear, IsClearType, AreClearFields, AreClearTypes, one_place, word_there, accepted_clear}

-- ---- labels

-- a label whose members have no names
bare_names : (label : Label) → ((i : ℕ) → member_name label i ≡ None) → HasClearNames label
bare_names label none = record {
  apart = λ i j name e f. absurd (no_name (member_name label i) name (none i) e);
  words = λ i name e. absurd (no_name (member_name label i) name (none i) e);
}
  where
    no_name : (naming : Naming) (name : List ℕ) → naming ≡ None → naming ≡ Some name → ⊥
    no_name naming name e f = cc

named_there : (found : Option Naming) (name : List ℕ) → unwrap_or found None ≡ Some name → found ≡ Some (Some name)
named_there None name e = cc
named_there (Some naming) name e = cc

struct_names : (name : Naming) (fields : List Naming) → AreClear fields → HasClearNames (StructLabel name fields)
struct_names name fields clear = record {
  apart = λ i j word e f. one_place fields i j word clear.apart (named_there (slice_get fields i) word e)
      (named_there (slice_get fields j) word f);
  words = λ i word e. word_there fields i word clear.words (named_there (slice_get fields i) word e);
}

union_names : (name : Naming) (index : ℕ) (alternative : Naming) → IsWord alternative →
    HasClearNames (UnionLabel name index alternative)
union_names name index alternative is = record {
  apart = λ i j word e f. only_one i j word e f;
  words = λ i word e. subst IsWord (only_word i word e) is;
}
  where
    only_one : (i j : ℕ) (word : List ℕ) → only_name alternative i ≡ Some word →
        only_name alternative j ≡ Some word → i ≡ j
    only_one zero zero word e f = refl
    only_one zero (suc j) word e f = cc
    only_one (suc i) j word e f = cc

    only_word : (i : ℕ) (word : List ℕ) → only_name alternative i ≡ Some word → alternative ≡ Some word
    only_word zero word e = e
    only_word (suc i) word e = cc

-- ---- what a frame has gathered

abbrev HasClearTop : Levels → Type 0
HasClearTop levels = HaveClearPaths (gathered (top_of levels))

-- ---- the types

mutual
  unfolding FitsNumber

  number_clear : (ty : PokeType) (levels : Levels) (s : ℕ) (v : Value) → IsClearType ty →
      FitsNumber ty levels s v → HasClearPaths v
  number_clear (IntegerOf type) levels s v clear h = let is = h.2 in rw is (bare_names _ (λ i. refl), tt)
  number_clear (OffsetOf type unit) levels s v clear h = let is = h.2 in rw is (bare_names _ (λ i. refl), tt)
  number_clear StringOf levels s v clear h = absurd h
  number_clear (ArrayOf element bound) levels s v clear h = absurd h
  number_clear (StructOf name pinned _) levels s v clear h = absurd h
  number_clear (IntegralOf name type fields) levels s v clear h =
      let is = h.2 in
      rw is (struct_names name (part_names fields) clear.0, digits_clear fields (opened levels) s h.0 clear.1 tt h.1)
  number_clear (UnionOf name alternatives) levels s v clear h = absurd h

  digits_clear : (parts : Parts) (levels : Levels) (s : ℕ) (inside : Levels) → AreClearTypes parts →
      HasClearTop levels → DigitsFit parts levels s inside → HasClearTop inside
  digits_clear NoParts levels s inside clear top h = subst HasClearTop (sym h) top
  digits_clear (PartThen name order ty c rest) levels s inside clear top h =
      digits_clear rest (pushed levels (Some h.0)) s inside clear.1
      (some_pushed clear_each levels h.0 top (number_clear ty levels s h.0 clear.0 h.1)) h.3

mutual
  unfolding Fits

  pub value_clear : (m : ℕ) (ty : PokeType) (levels : Levels) (s : ℕ) (v : Value) → IsClearType ty →
      Fits m ty levels s v → HasClearPaths v
  value_clear m (IntegerOf type) levels s v clear h = number_clear (IntegerOf type) levels s v clear h.0
  value_clear m (OffsetOf type unit) levels s v clear h = number_clear (OffsetOf type unit) levels s v clear h.0
  value_clear m StringOf levels s v clear h = let is = h.2 in rw is (bare_names _ (λ i. refl), tt)
  value_clear m (ArrayOf element bound) levels s v clear h =
      let is = h.8 in
      rw is (
        bare_names ArrayLabel (λ i. refl),
        elements_have clear_each (Fits m element) (λ l at u fit. value_clear m element l at u clear fit) h.5 tt,
      )
  value_clear m (StructOf name pinned fields) levels s v clear h =
      let is = h.4 in
      rw is (
        struct_names name (field_names fields) clear.0,
        fields_clear m pinned s fields (opened levels) s s h.0 h.1 clear.1 tt h.2,
      )
  value_clear m (IntegralOf name type fields) levels s v clear h =
      number_clear (IntegralOf name type fields) levels s v clear h.0
  value_clear m (UnionOf name alternatives) levels s v clear h =
      let is = h.2 in
      let t = alternative_clear m alternatives 0 (opened levels) s h.0 clear.0.words clear.1 h.1 in
      rw is (union_names name _ _ t.0, (t.1, tt))

  fields_clear : (m : ℕ) (pinned : Bool) (s : ℕ) (fields : Fields) (levels : Levels) (behind top : ℕ) (inside : Levels)
      (end : ℕ) → AreClearFields fields → HasClearTop levels
      → FieldsFit m pinned s fields levels behind top inside end → HasClearTop inside
  fields_clear m pinned s NoFields levels behind top inside end clear before h = subst HasClearTop (sym h.0) before
  fields_clear m pinned s (FieldThen name order ty c label when rest) levels behind top inside end
      clear before (inl h) =
      fields_clear m pinned s rest (pushed levels None) behind top inside end clear.1
      (none_pushed clear_each levels before) h.1
  fields_clear m pinned s (FieldThen name order ty c label when rest) levels behind top inside end
      clear before (inr h) =
      fields_clear m pinned s rest (pushed levels (Some h.4)) _ _ inside end clear.1
      (some_pushed clear_each levels h.4 before (value_clear m ty levels h.1 h.4 clear.0 h.5)) h.7

  alternative_clear : (m : ℕ) (parts : Parts) (index : ℕ) (levels : Levels) (s : ℕ) (t : Taken)
      → AreWords (part_names parts) → AreClearTypes parts → AlternativeFits m parts index levels s t
      → IsWord t.name × HasClearPaths t.value
  alternative_clear m NoParts index levels s t names clear h = absurd h
  alternative_clear m (PartThen name order ty c rest) index levels s t names clear (inl h) =
      (subst IsWord (sym h.1) names.0, value_clear m ty levels s t.value clear.0 h.2)
  alternative_clear m (PartThen name order ty c rest) index levels s t names clear (inr h) =
      alternative_clear m rest (index + 1) levels s t names.1 clear.1 h

pub paths_clear : MappedPathsAreClear
paths_clear pickle name m type levels start value asked fits = value_clear m type levels start value
    (accepted_clear pickle asked.declarations asked.types name type asked.accepted asked.found) fits

pub members_few : MappedMembersAreFew
members_few pickle name m type levels start value short asked fits = value_few m short type levels start value
    (accepted_small pickle asked.declarations asked.types name type asked.accepted asked.found) fits
