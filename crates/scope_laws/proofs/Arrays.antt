-- No element of an array in a well typed pickle sees another one.
use Rattle.std.proofs.Common.{ℕ, ◌+◌, List, [], ◌∷◌, ◌++◌, length, Option, refl}
use Rattle.pickle_tree.specs.Tree.{TreeReference, FormTree, FieldTrees}
use Rattle.pickle_types.specs.declared.check.enclosing.Enclosing.{Enclosing}
use Rattle.pickle_types.specs.Types.{PokeType, Fields, NoFields, FieldThen}
use Rattle.pickle_types.specs.Scopes.{Visible}
use Rattle.pickle_types.specs.Names.{Names}
use Rattle.pickle_types.specs.Meaning.{parts_of, place_in}
use Rattle.pickle_types.specs.WellTyped.{Refers, Means, FieldsMean}
use Rattle.scope_laws.specs.Arrays.{ArraysSeeNone, FieldsSeeNone, PartsSeeNone}
use Rattle.scope_laws.proofs.Meanings.{means_alike}
use Rattle.scope_laws.proofs.Scopes.{IsScope, deeper_scope, one_more_scope, scope_agrees, deeper_agree, seen_after}
use Rattle.scope_laws.proofs.Typed.{AllOf, found_in, IsClosed, type_same}

refers_unseen : {names : Names} {r : TreeReference} {t : PokeType} → AllOf ArraysSeeNone names → Refers names r t →
    ArraysSeeNone t
unfolding ArraysSeeNone
refers_unseen all (Refers.signed some most) = tt
refers_unseen all (Refers.unsigned some most) = tt
refers_unseen {names} all (Refers.called {word} {t} found) = found_in ArraysSeeNone word names t all found

parts_unseen : (fields : Fields) → FieldsSeeNone fields → PartsSeeNone (parts_of fields)
unfolding ArraysSeeNone
parts_unseen NoFields h = tt
parts_unseen (FieldThen name order type constraint label condition rest) h = (h.0, parts_unseen rest h.1)

mutual
  unfolding ArraysSeeNone

  pub arrays_unseen : {names : Names} {seen : List Visible} {count : ℕ} {title : Option (List ℕ)} {form : FormTree}
      {t : PokeType} → Means names seen count title form t → AllOf IsClosed names → AllOf ArraysSeeNone names →
      IsScope seen count → ArraysSeeNone t
  arrays_unseen (Means.plain r) closed all h = refers_unseen all r
  arrays_unseen Means.string closed all h = tt
  arrays_unseen (Means.offset r b) closed all h = tt
  arrays_unseen {seen} {count} (Means.array m b) closed all h = (
    λ levels before before' bits order s r k j means.
        means_alike means (before' ∷ levels) (type_same m closed (before ∷ levels) (before' ∷ levels)
        (deeper_agree seen count levels levels before before' (scope_agrees seen count levels h))),
    arrays_unseen m closed all (deeper_scope seen count h),
  )
  arrays_unseen {seen} {count} (Means.struct fields) closed all h =
      fields_unseen fields closed all (deeper_scope seen count h)
  arrays_unseen {seen} {count} (Means.integral {fs} reference fields e) closed all h =
      parts_unseen fs (fields_unseen fields closed all (deeper_scope seen count h))
  arrays_unseen {seen} {count} (Means.union {fs} fields) closed all h =
      parts_unseen fs (fields_unseen fields closed all (deeper_scope seen count h))

  fields_unseen : {names : Names} {place : Enclosing} {seen : List Visible} {count : ℕ}
      {before : List (Option (List ℕ))} {forms : FieldTrees} {fields : Fields} →
      FieldsMean names place seen count before forms fields → AllOf IsClosed names → AllOf ArraysSeeNone names →
      IsScope seen (count + 1) → FieldsSeeNone fields
  fields_unseen FieldsMean.done closed all h = tt
  fields_unseen {place} {seen} {count} {before} (FieldsMean.field {parts} {t} m stand fresh l d c more) closed all h =
      let itself : Visible =
      record { name = parts.name; level = count; place = place_in place (length before); type = t } in (
        arrays_unseen m closed all h,
        fields_unseen more closed all (seen_after (λ visible. IsScope visible (count + 1)) place seen
            (seen ++ itself ∷ []) h (one_more_scope seen count itself refl h)),
      )
