-- The rules of types give such trees, for each form of a well typed pickle.
use Rattle.std.proofs.Common.{◌≡◌, ℕ, ◌+◌, Bool, true, false, List, [], ◌∷◌, ◌++◌, length, Option, Some, None, refl, sym, ap, ◌∙◌, subst, length-append, append_assoc}
use Rattle.std.specs.Prelude.{if◌then◌else◌}
use Rattle.std.specs.Str.{bytes_eq}
use Rattle.std.proofs.lemmas.Option.{none-some}
use Rattle.std.proofs.lemmas.Slice.Eq.{bytes_eq-Decides}
use Rattle.pickle_tree.specs.Tree.{Tree, TreeReference, Called, FormTree, Plain, FieldTrees, DeclarationTree}
use Rattle.pickle_types.specs.declared.check.enclosing.Enclosing.{Enclosing}
use Rattle.pickle_types.specs.declared.check.enclosing.Enclosing.TheVariants as enclosing
use Rattle.pickle_types.specs.Types.{Term, Bound, PokeType, IntegerOf, OffsetOf, StringOf, ArrayOf, StructOf, IntegralOf, UnionOf, Fields, NoFields}
use Rattle.pickle_types.specs.Scopes.{Visible, sees}
use Rattle.pickle_types.specs.Names.{Names, predeclared, find_type}
use Rattle.pickle_types.specs.Meaning.{parts_of, struct_place}
use Rattle.pickle_types.specs.WellTyped.{IsTruth, IsLabel, IsBound, Refers, MayStand, Means, FieldsMean, Declares}
use Rattle.type_soundness.specs.Evaluated.{form_of}
use Rattle.type_soundness.specs.MappingLaws.{Stands}
use Rattle.type_soundness.proofs.Trees.{TruthFits, LabelFits, BoundFits, here, IsWell, FieldsWell, PartsWell, AlternativesWell, anywhere, named_well}

-- ---- clauses

truth_fits : {names : Names} {seen : List Visible} {count : ℕ} {tree : Option Tree} {e : Option Term} →
    IsTruth names seen count tree e → TruthFits seen count tree e
truth_fits IsTruth.without = tt
truth_fits {names} (IsTruth.of_integer {e = tree} w h) =
    (w, record { names = names; tree = tree; is = refl; typed = h })

label_fits : {names : Names} {seen : List Visible} {count : ℕ} {tree : Option Tree} {e : Option Term} →
    IsLabel names seen count tree e → LabelFits seen count tree e
label_fits IsLabel.without = tt
label_fits {names} (IsLabel.of_offset {e = tree} w n h) =
    (w, n, record { names = names; tree = tree; is = refl; typed = h })

bound_fits : {names : Names} {seen : List Visible} {count : ℕ} {tree : Option Tree} {b : Bound} →
    IsBound names seen count tree b → BoundFits seen count tree b
bound_fits IsBound.without = tt
bound_fits {names} (IsBound.by_count {e = tree} w h) = (w, record { names = names; tree = tree; is = refl; typed = h })
bound_fits {names} (IsBound.by_size {e = tree} w n h) =
    (w, n, record { names = names; tree = tree; is = refl; typed = h })

-- ---- types

module _ (declarations : List DeclarationTree) where
  -- each type that has one of these names is well typed
  abbrev pub AllWell : Names → Type 0
  AllWell names =
      (word : List ℕ) (t : PokeType) → find_type word names ≡ Some t → IsWell declarations t (Plain (Called word)) [] 0

  -- fields of a place, after n others
  abbrev FieldsAt : Enclosing → Fields → FieldTrees → List Visible → (count n : ℕ) → Type 0
  FieldsAt enclosing.Struct fs forms seen count n = FieldsWell declarations fs forms seen count n
  FieldsAt enclosing.Pinned fs forms seen count n = FieldsWell declarations fs forms seen count n
  FieldsAt enclosing.Integral fs forms seen count n = PartsWell declarations (parts_of fs) forms seen count n
  FieldsAt enclosing.Union fs forms seen count n = AlternativesWell declarations (parts_of fs) forms seen count

  no_fields_well : (at : Enclosing) (forms : FieldTrees) (seen : List Visible) (count n : ℕ) →
      FieldsAt at NoFields forms seen count n
  unfolding IsWell
  no_fields_well enclosing.Struct forms seen count n = tt
  no_fields_well enclosing.Pinned forms seen count n = tt
  no_fields_well enclosing.Integral forms seen count n = tt
  no_fields_well enclosing.Union forms seen count n = tt

  in_struct : (pinned : Bool) (fs : Fields) (forms : FieldTrees) (seen : List Visible) (count n : ℕ) →
      FieldsAt (struct_place pinned) fs forms seen count n → FieldsWell declarations fs forms seen count n
  in_struct true fs forms seen count n h = h
  in_struct false fs forms seen count n h = h

  -- one more field is after the others
  counted : (before : List (Option (List ℕ))) (name : Option (List ℕ)) (P : ℕ → Type 0) →
      P (length (before ++ name ∷ [])) → P (length before + 1)
  counted before name P h = subst P (length-append before (name ∷ [])) h

  refers_well : {names : Names} {r : TreeReference} {t : PokeType} (seen : List Visible) (count : ℕ) → AllWell names →
      Refers names r t → IsWell declarations t (Plain r) seen count
  unfolding IsWell
  refers_well seen count all (Refers.signed some most) = tt
  refers_well seen count all (Refers.unsigned some most) = tt
  refers_well seen count all (Refers.called {word} {t} found) =
      anywhere declarations t word seen count (all word t found)

  mutual
    unfolding IsWell

    pub well : {names : Names} {seen : List Visible} {count : ℕ} {title : Option (List ℕ)} {form : FormTree}
        {t : PokeType} → Means names seen count title form t → AllWell names → IsWell declarations t form seen count
    well {seen} {count} (Means.plain r) all = refers_well seen count all r
    well Means.string all = tt
    well (Means.offset r b) all = tt
    well {seen} {count} (Means.array {element} {bound} m b) all =
        (seen, count, element, bound, here, well m all, bound_fits b)
    well {seen} {count} (Means.struct {pinned} {fields} {fs} h) all =
        (seen, count, fields, here, in_struct pinned fs fields seen count 0 (fields_well h all))
    well {seen} {count} (Means.integral {r} {fields} reference h e) all =
        (seen, count, r, fields, here, fields_well h all)
    well {seen} {count} (Means.union {form} {parts} {rest} h) all =
        (seen, count, FieldTrees.FieldThen form parts rest, here, fields_well h all)

    fields_well : {names : Names} {at : Enclosing} {seen : List Visible} {count : ℕ} {before : List (Option (List ℕ))}
        {forms : FieldTrees} {fs : Fields} →
        FieldsMean names at seen count before forms fs → AllWell names → FieldsAt at fs forms seen count (length before)
    fields_well {at} {seen} {count} {before} FieldsMean.done all =
        no_fields_well at FieldTrees.NoFields seen count (length before)
    fields_well {seen} {count} {before}
        (FieldsMean.field {parts} {rest} {t} {fs} m (MayStand.in_struct p) fresh l d c more) all = (
          well m all,
          label_fits l,
          truth_fits d,
          truth_fits c,
          counted before parts.name
              (λ n. FieldsWell declarations fs rest (sees seen count (length before) parts.name t) count n)
              (fields_well more all),
        )
    fields_well {seen} {count} {before}
        (FieldsMean.field {parts} {rest} {t} {fs} m (MayStand.in_pinned p none) fresh l d c more) all = (
          well m all,
          label_fits l,
          truth_fits d,
          truth_fits c,
          counted before parts.name
              (λ n. FieldsWell declarations fs rest (sees seen count (length before) parts.name t) count n)
              (fields_well more all),
        )
    fields_well {seen} {count} {before}
        (FieldsMean.field {parts} {rest} {t} {fs} m (MayStand.in_integral w o none without) fresh l d c more) all = (
          w,
          well m all,
          truth_fits c,
          counted before parts.name
              (λ n. PartsWell declarations (parts_of fs) rest (sees seen count (length before) parts.name t) count n)
              (fields_well more all),
        )
    fields_well (FieldsMean.field m (MayStand.in_union word p named none without) fresh l d c more) all =
        (well m all, truth_fits c, fields_well more all)

-- ---- names

abbrev IsInteger : PokeType → Type 0
IsInteger (IntegerOf type) = Unit {0}
IsInteger (OffsetOf type unit) = ⊥
IsInteger StringOf = ⊥
IsInteger (ArrayOf element bound) = ⊥
IsInteger (StructOf _ _ _) = ⊥
IsInteger (IntegralOf _ _ _) = ⊥
IsInteger (UnionOf name alternatives) = ⊥

abbrev AllIntegers : Names → Type 0
AllIntegers [] = Unit {0}
AllIntegers (d ∷ ds) = IsInteger d.1 × AllIntegers ds

found_if : (b : Bool) (u t : PokeType) (rest : Option PokeType) → (if b then Some u else rest) ≡ Some t → IsInteger u →
    (rest ≡ Some t → IsInteger t) → IsInteger t
found_if true u t rest e first later = let same : u ≡ t = cc in subst IsInteger same first
found_if false u t rest e first later = later e

found_integer : (word : List ℕ) (names : Names) (t : PokeType) → AllIntegers names →
    find_type word names ≡ Some t → IsInteger t
found_integer word [] t h e = absurd (none-some t e)
found_integer word (d ∷ ds) t h e =
    found_if (bytes_eq word d.0) d.1 t (find_type word ds) e h.0 (found_integer word ds t h.1)

integer_well : (declarations : List DeclarationTree) (t : PokeType) (form : FormTree) (seen : List Visible)
    (count : ℕ) → IsInteger t → IsWell declarations t form seen count
unfolding IsWell
integer_well declarations (IntegerOf type) form seen count h = tt
integer_well declarations (OffsetOf type unit) form seen count h = absurd h
integer_well declarations StringOf form seen count h = absurd h
integer_well declarations (ArrayOf element bound) form seen count h = absurd h
integer_well declarations (StructOf name pinned fs) form seen count h = absurd h
integer_well declarations (IntegralOf name type ps) form seen count h = absurd h
integer_well declarations (UnionOf name ps) form seen count h = absurd h

predeclared_integers : AllIntegers predeclared
predeclared_integers =
    (tt, (tt, (tt, (tt, (tt, (tt, (tt, (tt, (tt, (tt, (tt, (tt, (tt, (tt, (tt, (tt, (tt, (tt, tt))))))))))))))))))

-- ---- declarations

abbrev or_else : {A : Type 0} → Option A → Option A → Option A
or_else None o = o
or_else (Some x) o = Some x

or_if : {A : Type 0} (b : Bool) (x : A) (o p : Option A) →
    (if b then Some x else or_else o p) ≡ or_else (if b then Some x else o) p
or_if true x o p = refl
or_if false x o p = refl

find_append : (word : List ℕ) (names more : Names) →
    find_type word (names ++ more) ≡ or_else (find_type word names) (find_type word more)
find_append word [] more = refl
find_append word (d ∷ ds) more = ap (λ o. if bytes_eq word d.0 then Some d.1 else o) (find_append word ds more)
    ∙ or_if (bytes_eq word d.0) d.1 (find_type word ds) (find_type word more)

form_append : (word : List ℕ) (done more : List DeclarationTree) →
    form_of word (done ++ more) ≡ or_else (form_of word done) (form_of word more)
form_append word [] more = refl
form_append word (d ∷ ds) more = ap (λ o. if bytes_eq word d.name then Some d.form else o) (form_append word ds more)
    ∙ or_if (bytes_eq word d.name) d.form (form_of word ds) (form_of word more)

-- a name that no type has is the name of no declaration
abbrev Knows : Names → List DeclarationTree → Type 0
Knows names done = (word : List ℕ) → find_type word names ≡ None → form_of word done ≡ None

own_form : (d : DeclarationTree) (ds : List DeclarationTree) → form_of d.name (d ∷ ds) ≡ Some d.form
own_form d ds = rw ((bytes_eq-Decides d.name d.name).1 refl) refl

-- the look-up finds the first declaration of its name
first_form : (d : DeclarationTree) (done ds declarations : List DeclarationTree) → done ++ d ∷ ds ≡ declarations →
    form_of d.name done ≡ None → form_of d.name declarations ≡ Some d.form
first_form d done ds declarations same none =
    ap (form_of d.name) (sym same) ∙ form_append d.name done (d ∷ ds)
    ∙ ap (λ o. or_else o (form_of d.name (d ∷ ds))) none ∙ own_form d ds

module _ (declarations : List DeclarationTree) where
  last_well : (word name : List ℕ) (t u : PokeType) (b : Bool) → bytes_eq word name ≡ b →
      (if b then Some t else None) ≡ Some u → IsWell declarations t (Plain (Called name)) [] 0 →
      IsWell declarations u (Plain (Called word)) [] 0
  last_well word name t u true e found h =
      let same : t ≡ u = cc in
      let named : name ≡ word = sym ((bytes_eq-Decides word name).0 e) in
      subst (λ n. IsWell declarations u (Plain (Called n)) [] 0) named
      (subst (λ x. IsWell declarations x (Plain (Called name)) [] 0) same h)
  last_well word name t u false e found h = absurd (none-some u found)

  before_or_last : (word name : List ℕ) (t u : PokeType) (o : Option PokeType) →
      (o ≡ Some u → IsWell declarations u (Plain (Called word)) [] 0) →
      or_else o (if bytes_eq word name then Some t else None) ≡ Some u →
      IsWell declarations t (Plain (Called name)) [] 0 → IsWell declarations u (Plain (Called word)) [] 0
  before_or_last word name t u (Some x) before found h = before found
  before_or_last word name t u None before found h = last_well word name t u (bytes_eq word name) refl found h

  one_more_well : (names : Names) (name : List ℕ) (t : PokeType) → AllWell declarations names →
      IsWell declarations t (Plain (Called name)) [] 0 → AllWell declarations (names ++ (name, t) ∷ [])
  one_more_well names name t all h word u found = before_or_last word name t u (find_type word names) (all word u)
      (sym (find_append word names ((name, t) ∷ [])) ∙ found) h

  unknown_last : (word : List ℕ) (t : PokeType) (d : DeclarationTree) (b : Bool) → (if b then Some t else None) ≡ None →
      (if b then Some d.form else None) ≡ None
  unknown_last word t d true e = absurd (none-some t (sym e))
  unknown_last word t d false e = refl

  unknown_both : (word : List ℕ) (t : PokeType) (d : DeclarationTree) (o : Option PokeType) (p : Option FormTree) →
      (o ≡ None → p ≡ None) → or_else o (if bytes_eq word d.name then Some t else None) ≡ None →
      or_else p (if bytes_eq word d.name then Some d.form else None) ≡ None
  unknown_both word t d (Some x) p knows e = absurd (none-some x (sym e))
  unknown_both word t d None p knows e =
      ap (λ q. or_else q (if bytes_eq word d.name then Some d.form else None)) (knows refl)
      ∙ unknown_last word t d (bytes_eq word d.name) e

  one_more_known : (names : Names) (done : List DeclarationTree) (d : DeclarationTree) (t : PokeType) →
      Knows names done → Knows (names ++ (d.name, t) ∷ []) (done ++ d ∷ [])
  one_more_known names done d t knows word none =
      form_append word done (d ∷ [])
      ∙ unknown_both word t d (find_type word names) (form_of word done) (knows word)
      (sym (find_append word names ((d.name, t) ∷ [])) ∙ none)

  declared_well : {names all : Names} {ds : List DeclarationTree} → Declares names ds all →
      (done : List DeclarationTree) → done ++ ds ≡ declarations → AllWell declarations names → Knows names done →
      AllWell declarations all
  declared_well Declares.none done same h knows = h
  declared_well (Declares.more {names} {d} {ds} {t} new m low rest) done same h knows =
      let form = first_form d done ds declarations same (knows d.name new) in
      declared_well rest (done ++ d ∷ []) (append_assoc done (d ∷ []) ds ∙ same)
      (one_more_well names d.name t h (named_well declarations t d.name d.form form (well declarations m h)))
      (one_more_known names done d t knows)

pub all_well : (declarations : List DeclarationTree) (names : Names) → Declares predeclared declarations names →
    AllWell declarations names
all_well declarations names h =
    declared_well declarations h [] refl (λ word t found. integer_well declarations t (Plain (Called word)) [] 0
    (found_integer word predeclared t predeclared_integers found)) (λ word none. refl)

pub stands_well : (seen : List Visible) (count : ℕ) (t : PokeType) (h : Stands seen count t) →
    IsWell h.declarations t h.form seen count
stands_well seen count t h = well h.declarations h.means (all_well h.declarations h.names h.declared)
