-- What two pairs of frames agree on stays the same as frames and scopes grow.
use Rattle.std.proofs.Common.{◌≡◌, ℕ, zero, suc, ◌+◌, ◌-◌, ◌<◌, Bool, true, false, List, [], ◌∷◌, ◌++◌, Option, Some, refl, sym, ap, ◌∙◌, subst, arith}
use Rattle.std.specs.Prelude.{if◌then◌else◌}
use Rattle.std.proofs.lemmas.Option.{none-some}
use Rattle.pickle_types.specs.declared.check.enclosing.Enclosing.{Enclosing}
use Rattle.pickle_types.specs.declared.check.enclosing.Enclosing.TheVariants as enclosing
use Rattle.pickle_types.specs.Scopes.{Visible, is_named, or_this, resolve}
use Rattle.pickle_types.specs.Meaning.{after_field}
use Rattle.pickle_meaning.specs.Values.{Value, Levels}
use Rattle.scope_laws.specs.Agreement.{Agrees, LevelsAgree}

-- ---- agreement

-- one frame deeper, a frame counted from the outermost is one further from the innermost
one_deeper : (count level : ℕ) → level < count → count + 1 - 1 - level ≡ suc (count - 1 - level)
one_deeper count level lt = omega arith

innermost : (count : ℕ) → count + 1 - 1 - count ≡ zero
innermost count = omega arith

-- what two pairs of frames agree on stays the same inside one more frame on each side
pub deeper_agree : (seen : List Visible) (count : ℕ) (levels levels' : Levels) (top top' : List (Option Value)) →
    LevelsAgree seen count levels levels' → LevelsAgree seen (count + 1) (top ∷ levels) (top' ∷ levels')
deeper_agree seen count levels levels' top top' h word v found =
    let before = h word v found in
    let lt = before.inside in
    record { inside = omega (arith, lt); same = rw (one_deeper count v.level lt) before.same }

-- and a field of that frame is the same, if the frame is
own_agrees : (count : ℕ) (levels levels' : Levels) (top : List (Option Value)) (v : Visible) → v.level ≡ count →
    Agrees (count + 1) (top ∷ levels) (top ∷ levels') v
own_agrees count levels levels' top v e =
    record { inside = omega (arith, e); same = rw e (rw (innermost count) refl) }

or_this_if : (word : List ℕ) (b : Bool) (w u : Visible) (o : Option Visible) →
    or_this word w (if b then Some u else o) ≡ (if b then Some u else or_this word w o)
or_this_if word true w u o = refl
or_this_if word false w u o = refl

resolve_last : (word : List ℕ) (seen : List Visible) (u : Visible) →
    resolve word (seen ++ u ∷ []) ≡ (if is_named u.name word then Some u else resolve word seen)
resolve_last word [] u = refl
resolve_last word (w ∷ seen) u =
    ap (or_this word w) (resolve_last word seen u) ∙ or_this_if word (is_named u.name word) w u (resolve word seen)

last_or_before : (P : Visible → Type 0) (b : Bool) (u v : Visible) (o : Option Visible) → P u →
    (o ≡ Some v → P v) → (if b then Some u else o) ≡ Some v → P v
last_or_before P true u v o last before found = let same : u ≡ v = cc in subst P same last
last_or_before P false u v o last before found = before found

-- two pairs of frames that are the same but for those around them agree on one more field of the innermost frame
pub one_more_agrees : (seen : List Visible) (count : ℕ) (levels levels' : Levels) (top : List (Option Value))
    (u : Visible) → u.level ≡ count → LevelsAgree seen (count + 1) (top ∷ levels) (top ∷ levels') →
    LevelsAgree (seen ++ u ∷ []) (count + 1) (top ∷ levels) (top ∷ levels')
one_more_agrees seen count levels levels' top u e h word v found =
    last_or_before (Agrees (count + 1) (top ∷ levels) (top ∷ levels')) (is_named u.name word) u v (resolve word seen)
    (own_agrees count levels levels' top u e) (h word v) (sym (resolve_last word seen u) ∙ found)

-- what comes after a field sees the field too, except in a union
pub seen_after : (P : List Visible → Type 0) (place : Enclosing) (seen with_field : List Visible) → P seen →
    P with_field → P (after_field place seen with_field)
seen_after P enclosing.Struct seen with_field h g = g
seen_after P enclosing.Pinned seen with_field h g = g
seen_after P enclosing.Integral seen with_field h g = g
seen_after P enclosing.Union seen with_field h g = h

-- ---- scopes

-- the frames of all that is visible are among so many
abbrev pub IsScope : List Visible → (count : ℕ) → Type 0
IsScope seen count = (word : List ℕ) (v : Visible) → resolve word seen ≡ Some v → v.level < count

pub no_scope : (count : ℕ) → IsScope [] count
no_scope count word v found = absurd (none-some v found)

pub deeper_scope : (seen : List Visible) (count : ℕ) → IsScope seen count → IsScope seen (count + 1)
deeper_scope seen count h word v found = let lt = h word v found in omega (arith, lt)

pub one_more_scope : (seen : List Visible) (count : ℕ) (u : Visible) → u.level ≡ count → IsScope seen (count + 1) →
    IsScope (seen ++ u ∷ []) (count + 1)
one_more_scope seen count u e h word v found =
    last_or_before (λ w. w.level < count + 1) (is_named u.name word) u v (resolve word seen) (omega (arith, e))
    (h word v) (sym (resolve_last word seen u) ∙ found)

-- frames agree with themselves on what is visible
pub scope_agrees : (seen : List Visible) (count : ℕ) (levels : Levels) → IsScope seen count →
    LevelsAgree seen count levels levels
scope_agrees seen count levels h word v found = record { inside = h word v found; same = refl }
