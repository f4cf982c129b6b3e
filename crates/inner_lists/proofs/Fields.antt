-- Fields of a table's struct on the path to a list.
use Rattle.std.proofs.Common.{◌≡◌, ℕ, zero, suc, ◌+◌, ◌-◌, ◌<◌, ◌≤◌, length, drop, get_or, Bool, true, false, ◌&&◌, ◌≢◌, nat_eq, List, [], ◌∷◌, refl, subst, arith}
use Rattle.std.proofs.lemmas.Bool.{eqb-false, eqb-true, false≢true}
use Rattle.pickle_types.specs.declared.node.Field.{Field}
use Rattle.pickle_types.specs.Types.{PokeType}
use Rattle.pickle_types.specs.Table.{FieldsBelow, open_fields}
use Rattle.list_laws.specs.Paths.{Path, is_last, is_last_in, is_list, is_list_in, is_open, is_open_in}

-- the field at a place is there, and the path leads on from its type
pub field_there : (at : ℕ → PokeType) (fs : List Field) (place : ℕ) (path : Path) →
    is_list_in (open_fields at fs) place path ≡ true → place < length fs
field_there at [] place path is = absurd (false≢true is)
field_there at (f ∷ fs) zero path is = omega arith
field_there at (f ∷ fs) (suc place) path is = let rest = field_there at fs place path is in omega (arith, rest)

pub field_leads : (at : ℕ → PokeType) (fs : List Field) (other : Field) (place : ℕ) (path : Path) →
    is_list_in (open_fields at fs) place path ≡ true → is_list (at (get_or fs place other).node) path ≡ true
field_leads at [] other place path is = absurd (false≢true is)
field_leads at (f ∷ fs) other zero path is = is
field_leads at (f ∷ fs) other (suc place) path is = field_leads at fs other place path is

pub field_open : (at : ℕ → PokeType) (fs : List Field) (other : Field) (place : ℕ) (path : Path) →
    place < length fs → is_open_in (open_fields at fs) place path ≡ is_open (at (get_or fs place other).node) path
field_open at [] other place path lt = absurd (omega (arith, lt))
field_open at (f ∷ fs) other zero path lt = refl
field_open at (f ∷ fs) other (suc place) path lt = field_open at fs other place path (omega (arith, lt))

-- the last field, and one before it
pub field_last : (at : ℕ → PokeType) (fs : List Field) (other : Field) (place : ℕ) (path : Path) →
    place + 1 ≡ length fs →
    is_last_in (open_fields at fs) place path ≡ is_last (at (get_or fs place other).node) path
field_last at [] other place path end = absurd (omega (arith, end))
field_last at (f ∷ []) other zero path end = refl
field_last at (f ∷ g ∷ fs) other zero path end = absurd (omega (arith, end))
field_last at (f ∷ fs) other (suc place) path end = field_last at fs other place path (omega (arith, end))

pub field_not_last : (at : ℕ → PokeType) (fs : List Field) (place : ℕ) (path : Path) → place + 1 < length fs →
    is_last_in (open_fields at fs) place path ≡ false
field_not_last at [] place path lt = absurd (omega (arith, lt))
field_not_last at (f ∷ []) zero path lt = absurd (omega (arith, lt))
field_not_last at (f ∷ g ∷ fs) zero path lt = refl
field_not_last at (f ∷ fs) (suc place) path lt = field_not_last at fs place path (omega (arith, lt))

-- a path through fields is one through those from its own or an earlier one on
pub list_after : (at : ℕ → PokeType) (fs : List Field) (index place : ℕ) (path : Path) → index ≤ place →
    is_list_in (open_fields at fs) place path ≡ true →
    is_list_in (open_fields at (drop index fs)) (place - index) path ≡ true
list_after at fs zero place path le is =
    let same : place ≡ place - 0 = omega arith in
    subst (λ (n : ℕ). is_list_in (open_fields at fs) n path ≡ true) same is
list_after at [] (suc index) place path le is = absurd (false≢true is)
list_after at (f ∷ fs) (suc index) zero path le is = absurd (omega (arith, le))
list_after at (f ∷ fs) (suc index) (suc place) path le is =
    let same : place - index ≡ suc place - suc index = omega arith in
    subst (λ (n : ℕ). is_list_in (open_fields at (drop index fs)) n path ≡ true) same
    (list_after at fs index place path (omega (arith, le)) is)

more_than_one : (n place : ℕ) → place < n → n - place ≢ 1 → place + 1 < n
more_than_one n place lt more = omega (arith, lt, more)

-- whether the field at a place is the last one
ends_by : (at : ℕ → PokeType) (fs : List Field) (other : Field) (place : ℕ) (path : Path) (b : Bool) →
    place < length fs → nat_eq (length fs - place) 1 ≡ b → is_last_in (open_fields at fs) place path
    ≡ (b && is_last (at (get_or fs place other).node) path)
ends_by at fs other place path true lt e =
    let one = eqb-true (length fs - place) 1 e in field_last at fs other place path (omega (arith, lt, one))
ends_by at fs other place path false lt e =
    let more = eqb-false (length fs - place) 1 e in
    field_not_last at fs place path (more_than_one (length fs) place lt more)

pub field_ends : (at : ℕ → PokeType) (fs : List Field) (other : Field) (place : ℕ) (path : Path) →
    place < length fs → is_last_in (open_fields at fs) place path
    ≡ (nat_eq (length fs - place) 1 && is_last (at (get_or fs place other).node) path)
field_ends at fs other place path lt = ends_by at fs other place path (nat_eq (length fs - place) 1) lt refl

-- its type is below those of a table
pub field_below : (count : ℕ) (fs : List Field) (other : Field) (place : ℕ) → place < length fs →
    FieldsBelow count fs → (get_or fs place other).node < count
field_below count fs other place lt below = below place other lt
