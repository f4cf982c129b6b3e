-- The members of values that fit types, with their types.
use Rattle.std.proofs.Common.{◌≡◌, ℕ, ◌++◌, inl, inr, Bool, List, [], ◌∷◌, Option, Some, None, refl, ◌∙◌, ap}
use Rattle.pickle_types.specs.Types.{PokeType, Fields, NoFields, FieldThen, Parts, NoParts, PartThen}
use Rattle.pickle_meaning.specs.Values.{Value, Levels, pushed, top_of}
use Rattle.type_parts.specs.Members.{Member, fields_in, parts_in}
use Rattle.pickle_meaning.specs.Fits.{FitsNumber, DigitsFit, Fits, FieldsFit, ElementsFit, no_more_fit, one_more_fits}

-- a value was mapped by a type, as a field of its own or as one of an integral struct
pub data IsOf (type : PokeType) (v : Value) : Type 0 where
  as_value : (m : ℕ) (levels : Levels) (s : ℕ) → Fits m type levels s v → IsOf type v
  as_digits : (levels : Levels) (s : ℕ) → FitsNumber type levels s v → IsOf type v

abbrev pub IsOfOr : PokeType → Option Value → Type 0
IsOfOr type None = Unit {0}
IsOfOr type (Some v) = IsOf type v

-- members, each of the type of its field
abbrev pub AreOf : List (Member PokeType) → List (Option Value) → Type 0
AreOf [] xs = xs ≡ []
AreOf (member ∷ rest) [] = ⊥
AreOf (member ∷ rest) (x ∷ xs) = IsOfOr member.type x × AreOf rest xs

abbrev pub AreElements : PokeType → List (Option Value) → Type 0
AreElements type [] = Unit {0}
AreElements type (x ∷ xs) = IsOfOr type x × AreElements type xs

-- members that a frame has got, beside those that it had
pub record Gets (levels inside : Levels) (Are : List (Option Value) → Type 0) : Type 0 where
  pub more : List (Option Value)
  pub is : top_of inside ≡ top_of levels ++ more
  pub are : Are more

one_more : (xs : List (Option Value)) (x : Option Value) (ys : List (Option Value)) →
    (xs ++ x ∷ []) ++ ys ≡ xs ++ x ∷ ys
one_more [] x ys = refl
one_more (y ∷ xs) x ys = ap (λ zs. y ∷ zs) (one_more xs x ys)

no_more : (xs : List (Option Value)) → xs ≡ xs ++ []
no_more [] = refl
no_more (x ∷ xs) = ap (λ zs. x ∷ zs) (no_more xs)

top_pushed : (levels : Levels) (x : Option Value) → top_of (pushed levels x) ≡ top_of levels ++ x ∷ []
top_pushed [] x = refl
top_pushed (top ∷ outer) x = refl

gets_none : {Are : List (Option Value) → Type 0} (levels inside : Levels) → inside ≡ levels → Are [] →
    Gets levels inside Are
gets_none levels inside is are =
    record { more = []; is = ap top_of is ∙ no_more (top_of levels); are = are }

gets_one : {Are Are' : List (Option Value) → Type 0} (levels inside : Levels) (x : Option Value) →
    ((xs : List (Option Value)) → Are xs → Are' (x ∷ xs)) → Gets (pushed levels x) inside Are →
    Gets levels inside Are'
gets_one levels inside x joins got = record {
  more = x ∷ got.more;
  is = got.is ∙ ap (λ xs. xs ++ got.more) (top_pushed levels x) ∙ one_more (top_of levels) x got.more;
  are = joins got.more got.are;
}

mutual
  unfolding FitsNumber

  pub digits_get : (parts : Parts) (levels : Levels) (s : ℕ) (inside : Levels) → DigitsFit parts levels s inside →
      Gets levels inside (AreOf (parts_in parts))
  digits_get NoParts levels s inside h = gets_none levels inside h refl
  digits_get (PartThen name order ty c rest) levels s inside h =
      gets_one levels inside (Some h.0) (λ xs are. (as_digits levels s h.1, are))
      (digits_get rest (pushed levels (Some h.0)) s inside h.3)

mutual
  unfolding Fits

  pub fields_get : (m : ℕ) (pinned : Bool) (s : ℕ) (fields : Fields) (levels : Levels) (behind top : ℕ)
      (inside : Levels) (end : ℕ) → FieldsFit m pinned s fields levels behind top inside end →
      Gets levels inside (AreOf (fields_in fields))
  fields_get m pinned s NoFields levels behind top inside end h = gets_none levels inside h.0 refl
  fields_get m pinned s (FieldThen name order ty c label when rest) levels behind top inside end (inl h) =
      gets_one levels inside None (λ xs are. (tt, are))
      (fields_get m pinned s rest (pushed levels None) behind top inside end h.1)
  fields_get m pinned s (FieldThen name order ty c label when rest) levels behind top inside end (inr h) =
      gets_one levels inside (Some h.4) (λ xs are. (as_value m levels h.1 h.5, are))
      (fields_get m pinned s rest (pushed levels (Some h.4)) _ _ inside end h.7)

pub elements_get : (m : ℕ) (element : PokeType) {inside : Levels} {end n : ℕ} {levels : Levels} {place i : ℕ} →
    ElementsFit (Fits m element) inside end n levels place i → Gets levels inside (AreElements element)
elements_get m element {inside = inside} no_more_fit = gets_none inside inside refl tt
elements_get m element {inside = inside} {levels = levels} {place = place} (one_more_fits v fit lt rest) =
    gets_one levels inside (Some v) (λ xs are. (as_value m levels place fit, are)) (elements_get m element rest)
