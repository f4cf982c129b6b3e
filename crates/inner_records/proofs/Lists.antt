-- Where the steps of a path lead so far, and that they lead to lists.
use Rattle.std.proofs.Common.{◌≡◌, ◌∙◌, ℕ, suc, ◌+◌, Bool, true, false, List, [], ◌∷◌, ◌++◌, Option, Some, None, refl, sym, ap, subst, arith, append_assoc}
use Rattle.std.proofs.lemmas.List.{append-nil}
use Rattle.std.proofs.lemmas.Option.{cond_some, none-some, same_Some}
use Rattle.std.specs.Option.{option_map}
use Rattle.std.specs.Prelude.{if◌then◌else◌}
use Rattle.command_line.specs.declared.path.Step.{Step}
use Rattle.inner_records.specs.Find.{field_step, list_at, type_step, with_some}
use Rattle.list_laws.specs.Paths.{Path, is_list, is_list_in}
use Rattle.pickle_types.specs.Types.{PokeType, IntegerOf, OffsetOf, StringOf, ArrayOf, StructOf, IntegralOf, UnionOf, Fields, NoFields, FieldThen}
use Rattle.type_parts.specs.CanHave.{of_step}

if_cases : {A P : Type 0} (b : Bool) (x y : A) (o : Option A) → (if b then Some x else o) ≡ Some y
    → (x ≡ y → P) → (o ≡ Some y → P) → P
if_cases true x y o e here there = here (same_Some x y e)
if_cases false x y o e here there = there e

with_cases : {A B P : Type 0} (o : Option A) (f : A → Option B) (y : B) → with_some o f ≡ Some y
    → ((x : A) → o ≡ Some x → f x ≡ Some y → P) → P
with_cases None f y e k = absurd (none-some y e)
with_cases (Some x) f y e k = k x refl e

map_cases : {A B P : Type 0} (o : Option A) (f : A → B) (y : B) → option_map f o ≡ Some y
    → ((x : A) → o ≡ Some x → f x ≡ y → P) → P
map_cases None f y e k = absurd (none-some y e)
map_cases (Some x) f y e k = k x refl (same_Some (f x) y e)

-- ---- the list at a path

-- a field, so many places after the first one of a number: its paths to lists are those of the struct through it
record IsAfter (fields : Fields) (number : ℕ) (field : ℕ × PokeType) (path : Path) : Type 0 where
  after : ℕ
  place : field.0 ≡ number + after
  list : is_list_in fields after path ≡ is_list field.1 path

module _ (step : Step) (path : Path) where
  is_after : (fields : Fields) (number : ℕ) (field : ℕ × PokeType) → field_step step fields number ≡ Some field →
      IsAfter fields number field path
  is_after NoFields number field is = absurd (none-some field is)
  is_after (FieldThen name order type constraint label condition rest) number field is =
      if_cases ((of_step step).field name number) (number, type) field (field_step step rest (number + 1)) is
      (λ here. subst (λ (f : ℕ × PokeType).
      IsAfter (FieldThen name order type constraint label condition rest) number f path) here
      (record { after = 0; place = omega arith; list = refl }))
      (λ there.
      let h = is_after rest (number + 1) field there in
      let at = h.place in
      record { after = suc h.after; place = omega (arith, at); list = h.list })

  step_list : (ty : PokeType) (field : ℕ × PokeType) → type_step step ty ≡ Some field →
      is_list ty (field.0 ∷ path) ≡ is_list field.1 path
  step_list (IntegerOf type) field is = absurd (none-some field is)
  step_list (OffsetOf type unit) field is = absurd (none-some field is)
  step_list StringOf field is = absurd (none-some field is)
  step_list (ArrayOf element bound) field is = absurd (none-some field is)
  step_list (StructOf name pinned fields) field is =
      let h = is_after fields 0 field is in
      let place = h.place in
      let at : field.0 ≡ h.after = omega (arith, place) in
      ap (λ (n : ℕ). is_list_in fields n path) at ∙ h.list
  step_list (IntegralOf name type fields) field is = absurd (none-some field is)
  step_list (UnionOf name alternatives) field is = absurd (none-some field is)

-- where steps lead is a list
pub leads_to_list : (steps : List Step) (ty : PokeType) (path : Path) → list_at steps ty ≡ Some path →
    is_list ty path ≡ true
leads_to_list [] ty path is =
    let h = cond_some (is_list ty []) [] path is in
    subst (λ (p : Path). is_list ty p ≡ true) h.1 h.0
leads_to_list (step ∷ steps) ty path is =
    with_cases (type_step step ty)
    (λ (field : ℕ × PokeType). option_map (λ (p : Path). field.0 ∷ p) (list_at steps field.1)) path is
    (λ field leads rest. map_cases (list_at steps field.1) (λ (p : Path). field.0 ∷ p) path rest
    (λ inner found same. subst (λ (p : Path). is_list ty p ≡ true) same
    (step_list step inner ty field leads ∙ leads_to_list steps field.1 inner found)))

-- ---- so far

-- what a path leads to through these fields, and then these steps from a type
abbrev pub onward : (fields : Path) → List Step → PokeType → Option Path
onward fields steps ty = option_map (λ path. fields ++ path) (list_at steps ty)

module _ (whole : Option Path) (steps rest : List Step) (step : Step) (ty : PokeType) (fields : Path)
    (so_far : whole ≡ onward fields steps ty) where
  through : steps ≡ step ∷ rest → (o : Option (ℕ × PokeType)) → type_step step ty ≡ o →
      whole ≡ option_map (λ (path : Path). fields ++ path)
      (with_some o (λ (field : ℕ × PokeType). option_map (λ (path : Path). field.0 ∷ path) (list_at rest field.1)))
  through on o leads =
      so_far ∙ ap (λ (s : List Step). onward fields s ty) on
      ∙ ap (λ (p : Option (ℕ × PokeType)). option_map (λ (path : Path). fields ++ path)
      (with_some p (λ (field : ℕ × PokeType). option_map (λ (path : Path). field.0 ∷ path) (list_at rest field.1))))
      leads

  -- a step leads to a field
  pub goes_through : (place : ℕ) (next : PokeType) (fields' : Path) → steps ≡ step ∷ rest
      → type_step step ty ≡ Some (place, next) → fields' ≡ fields ++ place ∷ [] → whole ≡ onward fields' rest next
  goes_through place next fields' on leads more =
      through on (Some (place, next)) leads ∙ both (list_at rest next)
    where
      both : (o : Option Path) →
          option_map (λ (path : Path). fields ++ path) (option_map (λ (path : Path). place ∷ path) o)
          ≡ option_map (λ (path : Path). fields' ++ path) o
      both None = refl
      both (Some path) = rw more (ap Some (sym (append_assoc fields (place ∷ []) path)))

  -- a step leads nowhere
  pub leads_nowhere : steps ≡ step ∷ rest → type_step step ty ≡ None → whole ≡ None
  leads_nowhere on leads = through on None leads

module _ (whole : Option Path) (steps : List Step) (ty : PokeType) (fields : Path)
    (so_far : whole ≡ onward fields steps ty) where
  at_end : (b : Bool) → steps ≡ [] → is_list ty [] ≡ b →
      whole ≡ option_map (λ (path : Path). fields ++ path) (if b then Some [] else None)
  at_end b done is =
      so_far ∙ ap (λ (s : List Step). onward fields s ty) done
      ∙ ap (λ (c : Bool). option_map (λ (path : Path). fields ++ path) (if c then Some [] else None)) is

  -- no step is left, at a list
  pub ends_at_list : steps ≡ [] → is_list ty [] ≡ true → whole ≡ Some fields
  ends_at_list done is = at_end true done is ∙ ap Some (append-nil fields)

  -- or at another type
  pub ends_elsewhere : steps ≡ [] → is_list ty [] ≡ false → whole ≡ None
  ends_elsewhere done is = at_end false done is
