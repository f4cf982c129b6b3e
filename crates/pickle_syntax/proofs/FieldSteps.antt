-- Steps over the fields.
use Rattle.std.proofs.Common.{◌≡◌, ℕ, zero, suc, ◌-◌, ◌<◌, List, [], ◌∷◌, ◌++◌, refl, sym, ap, ◌∙◌, arith, Some, None, Ok, Err}
use Rattle.std.specs.Prelude.{max}
use Rattle.std.proofs.lemmas.List.{map_push}
use Rattle.pickle_syntax.specs.declared.token.Sign.TheVariants as sign
use Rattle.pickle_tree.specs.declared.tree.Field.{Field}
use Rattle.pickle_syntax.specs.Tokens.{Token}
use Rattle.pickle_tree.specs.Tree.{FieldTrees, NoFields, FieldThen, FieldTree, field_tree, fields_of, fields_tree}
use Rattle.pickle_tree.specs.Limits.{Limits, form_depth, fields_depth}
use Rattle.pickle_syntax.specs.Reading.{Fault, Many, Read, after_sign}
use Rattle.pickle_syntax.specs.ReadForms.{FormReader, field_at, with_field, fields_at}

-- the fields before, and then the others
abbrev pub joined : FieldTrees → FieldTrees → FieldTrees
joined NoFields b = b
joined (FieldThen f p a) b = FieldThen f p (joined a b)

abbrev pub with_front : FieldTrees → Read FieldTrees → Read FieldTrees
with_front front (Ok x) = Ok (joined front x.0, x.1)
with_front front (Err f) = Err f

joined-none : (a : FieldTrees) → joined a NoFields ≡ a
joined-none NoFields = refl
joined-none (FieldThen f p a) = ap (FieldThen f p) (joined-none a)

joined_assoc : (a b c : FieldTrees) → joined (joined a b) c ≡ joined a (joined b c)
joined_assoc NoFields b c = refl
joined_assoc (FieldThen f p a) b c = ap (FieldThen f p) (joined_assoc a b c)

abbrev pub one : FieldTree → FieldTrees
one f = FieldThen f.form f.parts NoFields

fields_of_push : (fs : List FieldTree) (f : FieldTree) → fields_of (fs ++ f ∷ []) ≡ joined (fields_of fs) (one f)
fields_of_push [] f = refl
fields_of_push (x ∷ fs) f = ap (FieldThen x.form x.parts) (fields_of_push fs f)

pub fields_tree_push : (fs : List Field) (f : Field) →
    fields_tree (fs ++ f ∷ []) ≡ joined (fields_tree fs) (one (field_tree f))
fields_tree_push fs f = ap fields_of (map_push field_tree fs f) ∙ fields_of_push _ (field_tree f)

fields_depth-joined : (a : FieldTrees) (f : FieldTree) →
    fields_depth (joined a (one f)) ≡ max (fields_depth a) (form_depth f.form)
fields_depth-joined NoFields f = omega arith
fields_depth-joined (FieldThen g p a) f = omega (arith, fields_depth-joined a f)

pub depth_push : (fs : List Field) (f : Field) →
    fields_depth (fields_tree (fs ++ f ∷ [])) ≡ max (fields_depth (fields_tree fs)) (form_depth (field_tree f).form)
depth_push fs f = ap fields_depth (fields_tree_push fs f) ∙ fields_depth-joined (fields_tree fs) (field_tree f)

front_field : (front : FieldTrees) (f : FieldTree) (r : Read FieldTrees) →
    with_front front (with_field f r) ≡ with_front (joined front (one f)) r
front_field front f (Ok x) = ap (λ (b : FieldTrees). Ok (b, x.1)) (sym (joined_assoc front (one f) x.0))
front_field front f (Err e) = refl

pub front_none : (r : Read FieldTrees) → with_front NoFields r ≡ r
front_none (Ok x) = refl
front_none (Err e) = refl

module _ (limits : Limits) (sub : FormReader) (front : FieldTrees) where
  pub fields_done : (n : ℕ) (toks rest : List Token) → after_sign sign.CloseBrace toks ≡ Some rest →
      with_front front (fields_at limits sub n toks) ≡ Ok (front, rest)
  unfolding fields_at
  fields_done zero toks rest is = rw (is, joined-none front) refl
  fields_done (suc n) toks rest is = rw (is, joined-none front) refl

  pub fields_full : (n : ℕ) (toks : List Token) → n ≡ 0 → after_sign sign.CloseBrace toks ≡ None →
      with_front front (fields_at limits sub n toks) ≡ Err Many
  unfolding fields_at
  fields_full zero toks e is = rw is refl
  fields_full (suc n) toks e is = absurd (omega arith)

  pub fields_fault : (n : ℕ) (toks : List Token) (f : Fault) → 0 < n → after_sign sign.CloseBrace toks ≡ None →
      field_at limits sub toks ≡ Err f → with_front front (fields_at limits sub n toks) ≡ Err f
  unfolding fields_at
  fields_fault zero toks f pos is e = absurd (omega arith)
  fields_fault (suc n) toks f pos is e = rw (is, e) refl

  pub fields_step : (n : ℕ) (toks : List Token) (f : FieldTree) (after : List Token) → 0 < n →
      after_sign sign.CloseBrace toks ≡ None → field_at limits sub toks ≡ Ok (f, after) →
      with_front (joined front (one f)) (fields_at limits sub (n - 1) after)
      ≡ with_front front (fields_at limits sub n toks)
  unfolding fields_at
  fields_step zero toks f after pos is e = absurd (omega arith)
  fields_step (suc n) toks f after pos is e =
      let g : suc n - 1 ≡ n = omega arith in rw (is, e, g) (sym (front_field front f (fields_at limits sub n after)))

pub ruleset field_steps = (fields_tree_push, front_none, fields_done, fields_full, fields_fault, fields_step)
