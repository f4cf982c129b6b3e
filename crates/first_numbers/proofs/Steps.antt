-- The layouts of structs and unions, from those of their parts.
use Rattle.std.proofs.Common.{◌≡◌, ℕ, ◌+◌, Bool, true, false, List, ◌∷◌, drop, get_or, length, Option, Some, None, Result, Ok, Err, IfOk, refl, sym, ap, ◌∙◌, subst, arith, ◌<◌}
use Rattle.std.proofs.lemmas.List.{drop_more, drop_all}
use Rattle.std.proofs.lemmas.Option.{slice_get-get_or}
use Rattle.pickle_types.specs.declared.node.Field.{Field}
use Rattle.pickle_types.specs.declared.node.Node.{Node}
use Rattle.pickle_types.specs.declared.node.Part.{Part}
use Rattle.pickle_types.specs.Table.{FieldsBelow, PartsBelow, type_of, name_of, optional_term, open_fields, open_parts}
use Rattle.pickle_types.specs.Types.{Term, PokeType, Fields, FieldThen}
use Rattle.first_numbers.specs.declared.layouts.Layout.{Layout as HeldLayout}
use Rattle.first_numbers.specs.declared.layouts.Layout.TheVariants as held
use Rattle.first_numbers.specs.declared.layouts.Step.{Step}
use Rattle.first_numbers.specs.declared.layouts.Step.TheVariants.{On, Done}
use Rattle.first_numbers.specs.declared.number.First.{First as HeldFirst}
use Rattle.first_numbers.specs.declared.passed.Passed.{Passed}
use Rattle.first_numbers.specs.Held.{AddsBesides, AreKnown, GoesOn, HoldsFirst, HoldsLayout, HoldsPart, HoldsTests, TakesAlternative, TakesField}
use Rattle.first_numbers.specs.Layouts.{First, Layout, Fixed, Tests, Loose, alternatives_layout, besides, field_place, fields_layout, layout, lead_steps, part_layout, sure_place}

-- a type that has first numbers is a part that has them
pub tests_part : (own : ℕ) (mine copy : HeldFirst) (c : Option Term) (l : Layout) → HoldsTests mine l →
    ((f : First) → HoldsFirst mine f → HoldsFirst copy f) → HoldsTests copy (part_layout own l c)
tests_part own mine copy c l h same = record {
  first = h.first;
  is = ap (λ (x : Layout). part_layout own x c) h.is;
  holds = same h.first h.holds;
}

module _ {E : Type 0} (part : Part) (mine : HeldLayout) (before after : HeldFirst) where
  pub takes_tests : (first : HeldFirst) (result : Result Bool E) →
      HoldsPart 0 mine (optional_term part.constraint) (held.Tests first) →
      IfOk result (AddsBesides part.order first before after) → IfOk result (TakesAlternative part mine before after)
  unfolding layout
  takes_tests first (Ok true) holds adds = λ type rest all h a.
      let t = holds (layout type) h in
      let r = adds all t.first a t.holds in
      (besides all part.order t.first, r.0, rw (t.is, r.1) refl)
  takes_tests first (Ok false) holds adds = λ type rest all h a.
      let t = holds (layout type) h in
      let r = adds all t.first a t.holds in
      rw (t.is, r) refl
  takes_tests first (Err e) holds adds = tt

abbrev pub HasTests : HeldLayout → Type 0
HasTests (held.Number x) = ⊥
HasTests (held.Fixed width steps) = ⊥
HasTests (held.Tests first) = Unit {0}
HasTests held.Loose = ⊥

pub takes_none : (part : Part) (mine : HeldLayout) (before after : HeldFirst) (l : HeldLayout) → (HasTests l → ⊥) →
    HoldsPart 0 mine (optional_term part.constraint) l → TakesAlternative part mine before after false
unfolding layout
takes_none part mine before after (held.Number x) none holds = λ type rest all h a. rw (holds (layout type) h) refl
takes_none part mine before after (held.Fixed width steps) none holds = λ type rest all h a.
    rw (holds (layout type) h) refl
takes_none part mine before after (held.Tests first) none holds = absurd (none tt)
takes_none part mine before after held.Loose none holds = λ type rest all h a. rw (holds (layout type) h) refl

module _ (pinned : Bool) (field : Field) (mine : HeldLayout) (b : Passed) where
  -- the field's place isn't known
  pub takes_nowhere : sure_place (optional_term field.condition)
      (field_place pinned (optional_term field.label) b.behind)
      ≡ None → (type : PokeType) (rest : Fields) → HoldsLayout mine (layout type) →
      fields_layout pinned (FieldThen (name_of field.name) field.order type (optional_term field.constraint)
      (optional_term field.label) (optional_term field.condition) rest) b ≡ Loose
  unfolding layout
  takes_nowhere e type rest h = rw e refl

  pub takes_field : {E : Type 0} (place : ℕ) (part : HeldLayout) (result : Result Step E) →
      sure_place (optional_term field.condition) (field_place pinned (optional_term field.label) b.behind)
      ≡ Some place →
      HoldsPart b.count mine (optional_term field.constraint) part →
      IfOk result (GoesOn part place (lead_steps pinned (optional_term field.label)) field.order b) →
      IfOk result (TakesField pinned field mine b)
  unfolding layout
  takes_field place part (Ok step) e holds goes = λ type rest h.
      rw e (goes (part_layout b.count (layout type) (optional_term field.constraint)) (fields_layout pinned rest)
      (holds (layout type) h))
  takes_field place part (Err x) e holds goes = tt

-- ---- lists of parts

known_at : (nodes : List Node) (known : List HeldLayout) (i : ℕ) (mine : HeldLayout) → AreKnown nodes known →
    i < length known → mine ≡ get_or known i mine → HoldsLayout mine (layout (type_of nodes i))
known_at nodes known i mine are lt is = are.each i mine (slice_get-get_or known i mine lt ∙ ap Some (sym is))

module _ (nodes : List Node) (known : List HeldLayout) (are : AreKnown nodes known) where
  module _ (pinned : Bool) (fields : List Field) (i : ℕ) (field : Field) (mine : HeldLayout) (b : Passed)
      (whole : Layout) (inside : i < length fields) (is : field ≡ get_or fields i field)
      (below : FieldsBelow (length known) fields) (found : mine ≡ get_or known field.node mine)
      (so_far : whole ≡ fields_layout pinned (open_fields (type_of nodes) (drop i fields)) b)
    where
      here : drop i fields ≡ field ∷ drop (i + 1) fields
      here = drop_more fields i field inside ∙ ap (λ x. x ∷ drop (i + 1) fields) (sym is)

      node_below : field.node < length known
      node_below = subst (λ (f : Field). f.node < length known) (sym is) (below i field inside)

      -- the layout of the struct is known at this field
      pub field_done : (l : HeldLayout) → TakesField pinned field mine b (Done l) → HoldsLayout l whole
      field_done l takes =
          let mine_holds = known_at nodes known field.node mine are node_below found in
          let h = takes (type_of nodes field.node) (open_fields (type_of nodes) (drop (i + 1) fields)) mine_holds in
          subst (HoldsLayout l)
          (sym (so_far ∙ ap (λ fs. fields_layout pinned (open_fields (type_of nodes) fs) b) here)) h

      -- it is that of the fields after it
      pub field_on : (next : Passed) → TakesField pinned field mine b (On next) →
          whole ≡ fields_layout pinned (open_fields (type_of nodes) (drop (i + 1) fields)) next
      field_on next takes =
          let mine_holds = known_at nodes known field.node mine are node_below found in
          so_far ∙ ap (λ fs. fields_layout pinned (open_fields (type_of nodes) fs) b) here
          ∙ takes (type_of nodes field.node) (open_fields (type_of nodes) (drop (i + 1) fields)) mine_holds

  module _ (parts : List Part) (i : ℕ) (part : Part) (mine : HeldLayout) (before after : HeldFirst) (whole : Layout)
      (inside : i < length parts) (is : part ≡ get_or parts i part) (below : PartsBelow (length known) parts)
      (found : mine ≡ get_or known part.node mine) (all : First) (holds : HoldsFirst before all)
      (so_far : whole ≡ alternatives_layout (open_parts (type_of nodes) (drop i parts)) all)
    where
      part_here : drop i parts ≡ part ∷ drop (i + 1) parts
      part_here = drop_more parts i part inside ∙ ap (λ x. x ∷ drop (i + 1) parts) (sym is)

      part_below : part.node < length known
      part_below = subst (λ (p : Part). p.node < length known) (sym is) (below i part inside)

      pub alternative_on : TakesAlternative part mine before after true → (next : First) × HoldsFirst after next
          × (whole ≡ alternatives_layout (open_parts (type_of nodes) (drop (i + 1) parts)) next)
      alternative_on takes =
          let mine_holds = known_at nodes known part.node mine are part_below found in
          let t = takes (type_of nodes part.node) (open_parts (type_of nodes) (drop (i + 1) parts)) all mine_holds
          holds in (
            t.0,
            t.1,
            so_far ∙ ap (λ ps. alternatives_layout (open_parts (type_of nodes) ps) all) part_here ∙ t.2,
          )

      pub alternative_off : TakesAlternative part mine before after false → whole ≡ Loose
      alternative_off takes =
          let mine_holds = known_at nodes known part.node mine are part_below found in
          so_far ∙ ap (λ ps. alternatives_layout (open_parts (type_of nodes) ps) all) part_here
          ∙ takes (type_of nodes part.node) (open_parts (type_of nodes) (drop (i + 1) parts)) all mine_holds holds

-- no part is left
pub no_field_left : (at : ℕ → PokeType) (pinned : Bool) (fields : List Field) (b : Passed) →
    fields_layout pinned (open_fields at (drop (length fields) fields)) b ≡ Fixed b.top b.steps
unfolding layout
no_field_left at pinned fields b =
    ap (λ fs. fields_layout pinned (open_fields at fs) b) (drop_all (length fields) fields (omega arith))

pub no_part_left : (at : ℕ → PokeType) (parts : List Part) (all : First) →
    alternatives_layout (open_parts at (drop (length parts) parts)) all ≡ Tests all
unfolding layout
no_part_left at parts all =
    ap (λ ps. alternatives_layout (open_parts at ps) all) (drop_all (length parts) parts (omega arith))
