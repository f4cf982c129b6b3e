-- The rules of types give such types: each name of a form of a well typed pickle is resolved among what the form sees.
use Rattle.std.proofs.Common.{◌≡◌, ℕ, ◌+◌, Bool, true, false, List, [], ◌∷◌, ◌++◌, length, Option, Some, refl, subst}
use Rattle.std.specs.Prelude.{if◌then◌else◌}
use Rattle.std.specs.Str.{bytes_eq}
use Rattle.std.proofs.lemmas.Option.{none-some}
use Rattle.pickle_tree.specs.Tree.{Tree, TreeReference, FormTree, FieldTrees}
use Rattle.pickle_types.specs.declared.check.enclosing.Enclosing.{Enclosing}
use Rattle.pickle_types.specs.Types.{Term, Bound, PokeType, Fields, NoFields, FieldThen}
use Rattle.pickle_types.specs.Scopes.{Visible}
use Rattle.pickle_types.specs.Names.{Names, find_type}
use Rattle.pickle_types.specs.Meaning.{parts_of, place_in}
use Rattle.pickle_types.specs.WellTyped.{IsTruth, IsLabel, IsBound, Refers, Means, FieldsMean}
use Rattle.pickle_meaning.specs.Values.{Value, Levels}
use Rattle.scope_laws.specs.Agreement.{LevelsAgree}
use Rattle.scope_laws.proofs.Expressions.{evaluated_alike}
use Rattle.scope_laws.proofs.SameTypes.{SameClause, SameBound, SameType, SameFields, SameParts}
use Rattle.scope_laws.proofs.Scopes.{deeper_agree, one_more_agrees, seen_after}

-- ---- clauses

module _ {names : Names} {seen : List Visible} {count : ℕ} (levels levels' : Levels)
    (agree : LevelsAgree seen count levels levels') where
  truth_same : {tree : Option Tree} {e : Option Term} → IsTruth names seen count tree e → SameClause levels levels' e
  truth_same IsTruth.without = tt
  truth_same (IsTruth.of_integer w h) = evaluated_alike levels levels' agree h

  label_same : {tree : Option Tree} {e : Option Term} → IsLabel names seen count tree e → SameClause levels levels' e
  label_same IsLabel.without = tt
  label_same (IsLabel.of_offset w n h) = evaluated_alike levels levels' agree h

  bound_same : {tree : Option Tree} {b : Bound} → IsBound names seen count tree b → SameBound levels levels' b
  bound_same IsBound.without = tt
  bound_same (IsBound.by_count w h) = evaluated_alike levels levels' agree h
  bound_same (IsBound.by_size w n h) = evaluated_alike levels levels' agree h

-- ---- names

abbrev pub AllOf : (PokeType → Type 0) → Names → Type 0
AllOf P [] = Unit {0}
AllOf P (d ∷ ds) = P d.1 × AllOf P ds

first_or_later : (P : PokeType → Type 0) (b : Bool) (u t : PokeType) (o : Option PokeType) → P u →
    (o ≡ Some t → P t) → (if b then Some u else o) ≡ Some t → P t
first_or_later P true u t o first later found = let same : u ≡ t = cc in subst P same first
first_or_later P false u t o first later found = later found

pub found_in : (P : PokeType → Type 0) (word : List ℕ) (names : Names) (t : PokeType) → AllOf P names →
    find_type word names ≡ Some t → P t
found_in P word [] t all found = absurd (none-some t found)
found_in P word (d ∷ ds) t all found =
    first_or_later P (bytes_eq word d.0) d.1 t (find_type word ds) all.0 (found_in P word ds t all.1) found

pub one_more : (P : PokeType → Type 0) (names : Names) (word : List ℕ) (t : PokeType) → AllOf P names → P t →
    AllOf P (names ++ (word, t) ∷ [])
one_more P [] word t all h = (h, tt)
one_more P (d ∷ ds) word t all h = (all.0, one_more P ds word t all.1 h)

-- ---- types

-- a type that sees nothing around it
abbrev pub IsClosed : PokeType → Type 0
IsClosed t = (levels levels' : Levels) → SameType levels levels' t

refers_same : {names : Names} {r : TreeReference} {t : PokeType} → AllOf IsClosed names → Refers names r t → IsClosed t
unfolding SameType
refers_same all (Refers.signed some most) levels levels' = tt
refers_same all (Refers.unsigned some most) levels levels' = tt
refers_same {names} all (Refers.called {word} {t} found) levels levels' =
    found_in IsClosed word names t all found levels levels'

-- the fields of an integral struct and the alternatives of a union have neither labels nor conditions
parts_same : (levels levels' : Levels) (fields : Fields) → SameFields levels levels' fields →
    SameParts levels levels' (parts_of fields)
unfolding SameType
parts_same levels levels' NoFields h = tt
parts_same levels levels' (FieldThen name order ty c label when rest) h =
    (λ top. ((h.0 top).0, (h.0 top).1), parts_same levels levels' rest h.1)

mutual
  unfolding SameType

  pub type_same : {names : Names} {seen : List Visible} {count : ℕ} {title : Option (List ℕ)} {form : FormTree}
      {t : PokeType} → Means names seen count title form t → AllOf IsClosed names → (levels levels' : Levels) →
      LevelsAgree seen count levels levels' → SameType levels levels' t
  type_same (Means.plain r) all levels levels' h = refers_same all r levels levels'
  type_same Means.string all levels levels' h = tt
  type_same (Means.offset r b) all levels levels' h = tt
  type_same {seen} {count} (Means.array m b) all levels levels' h = (
    bound_same levels levels' h b,
    λ top. type_same m all (top ∷ levels) (top ∷ levels') (deeper_agree seen count levels levels' top top h),
  )
  type_same {seen} {count} (Means.struct fs) all levels levels' h =
      fields_same fs all levels levels' (λ top. deeper_agree seen count levels levels' top top h)
  type_same {seen} {count} (Means.integral {fs} reference fields e) all levels levels' h =
      parts_same levels levels' fs
      (fields_same fields all levels levels' (λ top. deeper_agree seen count levels levels' top top h))
  type_same {seen} {count} (Means.union {fs} fields) all levels levels' h =
      parts_same levels levels' fs
      (fields_same fields all levels levels' (λ top. deeper_agree seen count levels levels' top top h))

  fields_same : {names : Names} {place : Enclosing} {seen : List Visible} {count : ℕ}
      {before : List (Option (List ℕ))} {forms : FieldTrees} {fields : Fields} →
      FieldsMean names place seen count before forms fields → AllOf IsClosed names → (levels levels' : Levels) →
      ((top : List (Option Value)) → LevelsAgree seen (count + 1) (top ∷ levels) (top ∷ levels')) →
      SameFields levels levels' fields
  fields_same FieldsMean.done all levels levels' h = tt
  fields_same {place} {seen} {count} {before} (FieldsMean.field {parts} {t} m stand fresh l d c more) all levels levels'
      h =
      let itself : Visible =
      record { name = parts.name; level = count; place = place_in place (length before); type = t } in
      let with_itself = λ (top : List (Option Value)).
      one_more_agrees seen count levels levels' top itself refl (h top) in (
        λ top. (
          type_same m all (top ∷ levels) (top ∷ levels') (h top),
          truth_same (top ∷ levels) (top ∷ levels') (with_itself top) c,
          label_same (top ∷ levels) (top ∷ levels') (h top) l,
          truth_same (top ∷ levels) (top ∷ levels') (h top) d,
        ),
        fields_same more all levels levels' (λ top.
            seen_after (λ visible. LevelsAgree visible (count + 1) (top ∷ levels) (top ∷ levels')) place seen
            (seen ++ itself ∷ []) (h top) (with_itself top)),
      )
