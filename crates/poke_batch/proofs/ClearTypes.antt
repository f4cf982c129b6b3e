-- The fields of a type of a pickle have names that differ, and each name is a word.
use Rattle.std.proofs.Common.{◌≡◌, ℕ, zero, suc, ◌+◌, inl, inr, Bool, true, false, List, [], ◌∷◌, ◌++◌, Option, Some, None, refl, sym, ap, subst, arith}
use Rattle.std.specs.Prelude.{slice_get}
use Rattle.std.proofs.lemmas.Bool.{cases_Bool}
use Rattle.std.proofs.lemmas.Slice.Eq.{bytes_eq-Decides}
use Rattle.pickle_tree.specs.Tree.{TreeReference, FormTree, FieldTrees, DeclarationTree}
use Rattle.pickle_tree.specs.Tree as tree
use Rattle.pickle_types.specs.declared.check.enclosing.Enclosing.{Enclosing}
use Rattle.pickle_types.specs.Types.{PokeType, IntegerOf, OffsetOf, StringOf, ArrayOf, StructOf, IntegralOf, UnionOf, Fields, NoFields, FieldThen, Parts, NoParts, PartThen}
use Rattle.pickle_types.specs.Scopes.{Visible, is_named}
use Rattle.pickle_types.specs.Names.{Names, find_type, predeclared}
use Rattle.pickle_types.specs.Meaning.{has_name, parts_of}
use Rattle.pickle_types.specs.WellTyped.{Refers, IsFresh, Means, FieldsMean, Declares}
use Rattle.pickle_meaning.specs.Values.{Naming}
use Rattle.pickle_meaning.specs.Means.{field_names, part_names}
use Rattle.run_parts.specs.Accepted.{IsAccepted}
use Rattle.command_line.specs.Paths.{IsName}
use Rattle.poke_batch.proofs.NamedTypes.{OfEach, found_is, one_more_is}
use Rattle.poke_batch.proofs.SmallTypes.{IsWord, HasNames, HaveNames, DeclareNames, accepted_names}

-- ---- names

abbrev pub AreWords : List Naming → Type 0
AreWords [] = Unit {0}
AreWords (name ∷ names) = IsWord name × AreWords names

-- no name is among those after it
abbrev pub AreApart : List Naming → Type 0
AreApart [] = Unit {0}
AreApart (None ∷ names) = AreApart names
AreApart (Some name ∷ names) = (has_name name names ≡ false) × AreApart names

named_itself : (name : List ℕ) → is_named (Some name) name ≡ true
named_itself name = (bytes_eq-Decides name name).1 refl

first_has : (name : List ℕ) (names : List Naming) → has_name name (Some name ∷ names) ≡ true
first_has name names = rw (named_itself name) refl

later_has : (name : List ℕ) (first : Naming) (names : List Naming) → has_name name names ≡ true →
    has_name name (first ∷ names) ≡ true
later_has name first names h = elim (cases_Bool (is_named first name)) [
  | inl hit ↦ rw hit refl
  | inr miss ↦ rw (miss, h) refl
]

both_ways : (b : Bool) → b ≡ true → b ≡ false → ⊥
both_ways b e f = cc

-- a name at a place is among the names
name_there : (names : List Naming) (i : ℕ) (name : List ℕ) → slice_get names i ≡ Some (Some name) →
    has_name name names ≡ true
name_there [] i name e = cc
name_there (first ∷ names) zero name e = let same : first ≡ Some name = cc in rw same (first_has name names)
name_there (first ∷ names) (suc i) name e = later_has name first names (name_there names i name e)

apart_tail : (first : Naming) (names : List Naming) → AreApart (first ∷ names) → AreApart names
apart_tail None names h = h
apart_tail (Some name) names h = h.1

not_behind : (first : Naming) (names : List Naming) (i : ℕ) (name : List ℕ) → AreApart (first ∷ names) →
    first ≡ Some name → slice_get names i ≡ Some (Some name) → ⊥
not_behind None names i name h e there = cc
not_behind (Some other) names i name h e there =
    let same : other ≡ name = cc in
    both_ways (has_name name names) (name_there names i name there) (subst (λ n. has_name n names ≡ false) same h.0)

-- a name is at one place only
pub one_place : (names : List Naming) (i j : ℕ) (name : List ℕ) → AreApart names →
    slice_get names i ≡ Some (Some name) → slice_get names j ≡ Some (Some name) → i ≡ j
one_place [] i j name h e f = cc
one_place (first ∷ names) zero zero name h e f = refl
one_place (first ∷ names) zero (suc j) name h e f =
    let is : first ≡ Some name = cc in absurd (not_behind first names j name h is f)
one_place (first ∷ names) (suc i) zero name h e f =
    let is : first ≡ Some name = cc in absurd (not_behind first names i name h is e)
one_place (first ∷ names) (suc i) (suc j) name h e f = ap suc (one_place names i j name (apart_tail first names h) e f)

pub word_there : (names : List Naming) (i : ℕ) (name : List ℕ) → AreWords names →
    slice_get names i ≡ Some (Some name) → IsName name
word_there [] i name h e = cc
word_there (first ∷ names) zero name h e = let is : first ≡ Some name = cc in subst IsWord is h.0
word_there (first ∷ names) (suc i) name h e = word_there names i name h.1 e

-- ---- types

-- the names of fields are words and differ
pub record AreClear (names : List Naming) : Type 0 where
  pub words : AreWords names
  pub apart : AreApart names

abbrev mutual
  pub IsClearType : PokeType → Type 0
  IsClearType (IntegerOf type) = Unit {0}
  IsClearType (OffsetOf type unit) = Unit {0}
  IsClearType StringOf = Unit {0}
  IsClearType (ArrayOf element bound) = IsClearType element
  IsClearType (StructOf name pinned fields) = AreClear (field_names fields) × AreClearFields fields
  IsClearType (IntegralOf name type fields) = AreClear (part_names fields) × AreClearTypes fields
  IsClearType (UnionOf name alternatives) = AreClear (part_names alternatives) × AreClearTypes alternatives

  pub AreClearFields : Fields → Type 0
  AreClearFields NoFields = Unit {0}
  AreClearFields (FieldThen name order type constraint label condition rest) = IsClearType type × AreClearFields rest

  pub AreClearTypes : Parts → Type 0
  AreClearTypes NoParts = Unit {0}
  AreClearTypes (PartThen name order type constraint rest) = IsClearType type × AreClearTypes rest

-- ---- what forms mean

-- a name that was before isn't among the names of the fields
module _ (names : Names) where
  last_has : (word : List ℕ) (before : List Naming) (name : Naming) → has_name word before ≡ true →
      has_name word (before ++ name ∷ []) ≡ true
  last_has word [] name h = cc
  last_has word (first ∷ before) name h = elim (cases_Bool (is_named first word)) [
    | inl hit ↦ rw hit refl
    | inr miss ↦
        (let rest : has_name word before ≡ true = rw miss at h in rw (miss, last_has word before name rest) refl)
  ]

  added_has : (before : List Naming) (word : List ℕ) → has_name word (before ++ Some word ∷ []) ≡ true
  added_has [] word = first_has word []
  added_has (first ∷ before) word = later_has word first (before ++ Some word ∷ []) (added_has before word)

  -- a fresh name isn't one that was before
  other_named : (name : Naming) (before : List Naming) (word : List ℕ) → IsFresh name before →
      has_name word before ≡ true → is_named name word ≡ false
  other_named None before word fresh h = refl
  other_named (Some name) before word fresh h = elim (cases_Bool (is_named (Some name) word)) [
    | inl hit ↦ (
        let same : name ≡ word = (bytes_eq-Decides name word).0 hit in
        absurd (both_ways (has_name word before) h (subst (λ n. has_name n before ≡ false) same fresh)))
    | inr miss ↦ miss
  ]

  not_again : {here : Enclosing} {seen : List Visible} {levels : ℕ} {before : List Naming} {trees : FieldTrees}
      {fs : Fields} (word : List ℕ)
      → FieldsMean names here seen levels before trees fs → has_name word before ≡ true
      → has_name word (field_names fs) ≡ false
  not_again word FieldsMean.done h = refl
  not_again {before = before} word (FieldsMean.field {parts = parts} is stands fresh label condition constraint are) h =
      rw (other_named parts.name before word fresh h) (not_again word are (last_has word before parts.name h))

  apart_more : (name : Naming) (rest : List Naming) →
      ((word : List ℕ) → name ≡ Some word → has_name word rest ≡ false) → AreApart rest → AreApart (name ∷ rest)
  apart_more None rest h apart = apart
  apart_more (Some word) rest h apart = (h word refl, apart)

  fields_apart : {here : Enclosing} {seen : List Visible} {levels : ℕ} {before : List Naming} {trees : FieldTrees}
      {fs : Fields} → FieldsMean names here seen levels before trees fs → AreApart (field_names fs)
  fields_apart FieldsMean.done = tt
  fields_apart {before = before} (FieldsMean.field {parts = parts} {fs = fs} is stands fresh label
      condition constraint are) =
      apart_more parts.name (field_names fs)
      (λ word e.
      not_again word are (subst (λ n. has_name word (before ++ n ∷ []) ≡ true) (sym e) (added_has before word)))
      (fields_apart are)

  fields_words : {here : Enclosing} {seen : List Visible} {levels : ℕ} {before : List Naming} {trees : FieldTrees}
      {fs : Fields} → HaveNames trees → FieldsMean names here seen levels before trees fs → AreWords (field_names fs)
  fields_words named FieldsMean.done = tt
  fields_words named (FieldsMean.field is stands fresh label condition constraint are) =
      (named.0, fields_words named.2 are)

parts_names_are : (fields : Fields) → part_names (parts_of fields) ≡ field_names fields
parts_names_are NoFields = refl
parts_names_are (FieldThen name order type constraint label condition rest) =
    ap (λ names. name ∷ names) (parts_names_are rest)

parts_clear : (fields : Fields) → AreClear (field_names fields) → AreClear (part_names (parts_of fields))
parts_clear fields h = subst AreClear (sym (parts_names_are fields)) h

parts_types : (fields : Fields) → AreClearFields fields → AreClearTypes (parts_of fields)
parts_types NoFields h = tt
parts_types (FieldThen name order type constraint label condition rest) h = (h.0, parts_types rest h.1)

module _ (names : Names) (clear : OfEach IsClearType names) where
  refers_clear : (r : TreeReference) (t : PokeType) → Refers names r t → IsClearType t
  refers_clear _ _ (Refers.signed some most) = tt
  refers_clear _ _ (Refers.unsigned some most) = tt
  refers_clear _ _ (Refers.called {word} {t} is) = found_is IsClearType word names t clear is

  mutual
    form_clear : (seen : List Visible) (levels : ℕ) (title : Option (List ℕ)) (form : FormTree) (t : PokeType) →
        HasNames form → Means names seen levels title form t → IsClearType t
    form_clear seen levels title _ _ named (Means.plain {r = r} {t = t} refers) = refers_clear r t refers
    form_clear seen levels title _ _ named Means.string = tt
    form_clear seen levels title _ _ named (Means.offset refers wide) = tt
    form_clear seen levels title _ _ named (Means.array {element = element} {t = t} is bound) =
        form_clear seen (levels + 1) None element t named is
    form_clear seen levels title _ _ named (Means.struct {fields = fields} {fs = fs} are) = (
      record { words = fields_words names named are; apart = fields_apart names are },
      fields_clear _ seen levels [] fields fs named are,
    )
    form_clear seen levels title _ _ named (Means.integral {fields = fields} {fs = fs} refers are total) = (
      parts_clear fs (record { words = fields_words names named are; apart = fields_apart names are }),
      parts_types fs (fields_clear _ seen levels [] fields fs named are),
    )
    form_clear seen levels title _ _ named (Means.union {form = form} {parts = parts} {rest = rest} {fs = fs} are) = (
      parts_clear fs (record { words = fields_words names named are; apart = fields_apart names are }),
      parts_types fs (fields_clear _ seen levels [] (tree.FieldThen form parts rest) fs named are),
    )

    fields_clear : (here : Enclosing) (seen : List Visible) (levels : ℕ) (before : List (Option (List ℕ)))
        (trees : FieldTrees) (fs : Fields) →
        HaveNames trees → FieldsMean names here seen levels before trees fs → AreClearFields fs
    fields_clear here seen levels before _ _ named FieldsMean.done = tt
    fields_clear here seen levels before _ _ named (FieldsMean.field {form = form} {rest = rest} {t = t} {fs = fs} is
        stands fresh label condition constraint are) =
        (form_clear seen (levels + 1) None form t named.1 is, fields_clear here _ levels _ rest fs named.2 are)

declared_clear : (names : Names) (ds : List DeclarationTree) (all : Names) → OfEach IsClearType names →
    DeclareNames ds → Declares names ds all → OfEach IsClearType all
declared_clear names _ _ clear named Declares.none = clear
declared_clear names _ all clear named (Declares.more {d = d} {ds = ds} {t = t} fresh is deep rest) =
    declared_clear (names ++ (d.name, t) ∷ []) ds all
    (one_more_is IsClearType names d.name t clear (form_clear names clear [] 0 (Some d.name) d.form t named.0 is))
    named.1 rest

predeclared_clear : OfEach IsClearType predeclared
predeclared_clear = search (arith)

-- each type of an accepted pickle has clear names
pub accepted_clear : (pickle : List ℕ) (declarations : List DeclarationTree) (types : Names) (name : List ℕ)
    (type : PokeType) → IsAccepted pickle declarations types → find_type name types ≡ Some type → IsClearType type
accepted_clear pickle declarations types name type accepted found =
    found_is IsClearType name types type (declared_clear predeclared declarations types predeclared_clear
    (accepted_names pickle declarations types accepted) accepted.declares) found
