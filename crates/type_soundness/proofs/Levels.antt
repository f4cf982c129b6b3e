-- What stays true of frames and scopes as they grow.
use Rattle.std.proofs.Common.{◌≡◌, ℕ, zero, suc, ◌+◌, ◌-◌, ◌<◌, Bool, true, false, List, [], ◌∷◌, ◌++◌, length, Option, Some, refl, sym, ap, ◌∙◌, subst, arith, length-append, append_assoc}
use Rattle.std.specs.Prelude.{if◌then◌else◌, slice_get}
use Rattle.std.proofs.lemmas.Option.{none-some, slice_get_within}
use Rattle.pickle_types.specs.Types.{PokeType}
use Rattle.pickle_types.specs.Scopes.{Visible, is_named, or_this, resolve, sees}
use Rattle.pickle_meaning.specs.Values.{Naming, Value, Levels, level_at, pushed, opened, top_of}
use Rattle.type_soundness.specs.Sorts.{IsMember, Holds, LevelsFit}
use Rattle.type_soundness.specs.Evaluated.{Scope, or_this_field, field_named, with_field}
use Rattle.type_soundness.specs.MappingLaws.{ScopeFits}
use Rattle.type_soundness.proofs.Members.{resolved_holds}

-- ---- lists

get_front : {A : Type 0} (xs more : List A) (i : ℕ) → i < length xs → slice_get (xs ++ more) i ≡ slice_get xs i
get_front [] more i lt = absurd (omega arith)
get_front (x ∷ xs) more zero lt = refl
get_front (x ∷ xs) more (suc i) lt = get_front xs more i (omega arith)

get_last : {A : Type 0} (xs : List A) (x : A) → slice_get (xs ++ x ∷ []) (length xs) ≡ Some x
get_last [] x = refl
get_last (y ∷ xs) x = get_last xs x

-- ---- frames

pub pushed_kept : (levels : Levels) (m member : Option Value) (i place : ℕ) →
    slice_get (level_at levels i) place ≡ Some member → slice_get (level_at (pushed levels m) i) place ≡ Some member
pushed_kept [] m member i place e = absurd (none-some member e)
pushed_kept (top ∷ outer) m member zero place e = get_front top (m ∷ []) place (slice_get_within top place member e) ∙ e
pushed_kept (top ∷ outer) m member (suc i) place e = e

pub top_kept : (levels : Levels) (m : Option Value) (n : ℕ) → length (top_of levels) ≡ n →
    slice_get (level_at (pushed levels m) zero) n ≡ Some m
top_kept [] m n e = rw (sym e) refl
top_kept (top ∷ outer) m n e = rw (sym e) (get_last top m)

pub pushed_length : (levels : Levels) (m : Option Value) (n : ℕ) → length (top_of levels) ≡ n →
    length (top_of (pushed levels m)) ≡ n + 1
pushed_length [] m n e = omega (arith, e)
pushed_length (top ∷ outer) m n e = let longer = length-append top (m ∷ []) in omega (arith, e, longer)

pub top_pushed : (levels : Levels) (m : Option Value) (ms : List (Option Value)) →
    top_of (pushed levels m) ++ ms ≡ top_of levels ++ m ∷ ms
top_pushed [] m ms = refl
top_pushed (top ∷ outer) m ms = append_assoc top (m ∷ []) ms

-- one frame deeper, a frame counted from the outermost is one further from the innermost
pub one_deeper : (count level : ℕ) → level < count → count + 1 - 1 - level ≡ suc (count - 1 - level)
one_deeper count level lt = omega arith

innermost : (count : ℕ) → count + 1 - 1 - count ≡ zero
innermost count = omega arith

-- ---- frames that fit

opened_holds : (count : ℕ) (levels : Levels) (f : Visible) → Holds count levels f → Holds (count + 1) (opened levels) f
opened_holds count levels f h =
    let lt = h.inside in
    record {
      inside = omega (arith, lt);
      member = h.member;
      kept = rw (one_deeper count f.level lt) h.kept;
      typed = h.typed;
    }

pushed_holds : (count : ℕ) (levels : Levels) (m : Option Value) (f : Visible) → Holds count levels f →
    Holds count (pushed levels m) f
pushed_holds count levels m f h =
    record {
      inside = h.inside;
      member = h.member;
      kept = pushed_kept levels m h.member (count - 1 - f.level) f.place h.kept;
      typed = h.typed;
    }

pub opened_fit : (seen : List Visible) (count : ℕ) (levels : Levels) → LevelsFit seen count levels →
    LevelsFit seen (count + 1) (opened levels)
opened_fit [] count levels h = tt
opened_fit (f ∷ seen) count levels h = (opened_holds count levels f h.0, opened_fit seen count levels h.1)

pub pushed_fit : (seen : List Visible) (count : ℕ) (levels : Levels) (m : Option Value) → LevelsFit seen count levels →
    LevelsFit seen count (pushed levels m)
pushed_fit [] count levels m h = tt
pushed_fit (f ∷ seen) count levels m h = (pushed_holds count levels m f h.0, pushed_fit seen count levels m h.1)

one_more : (seen : List Visible) (count : ℕ) (levels : Levels) (f : Visible) → LevelsFit seen count levels →
    Holds count levels f → LevelsFit (seen ++ f ∷ []) count levels
one_more [] count levels f h g = (g, tt)
one_more (u ∷ seen) count levels f h g = (h.0, one_more seen count levels f h.1 g)

-- a field that is mapped as the member of number n of the innermost frame
abbrev the_field : (count n : ℕ) → Naming → PokeType → Visible
the_field count n name type = record { name = name; level = count; place = n; type = type }

last_kept : (count n : ℕ) (levels : Levels) (m : Option Value) → length (top_of levels) ≡ n →
    slice_get (level_at (pushed levels m) (count + 1 - 1 - count)) n ≡ Some m
last_kept count n levels m e = rw (innermost count) (top_kept levels m n e)

last_holds : (count n : ℕ) (levels : Levels) (name : Naming) (type : PokeType) (m : Option Value) →
    length (top_of levels) ≡ n → IsMember type m → Holds (count + 1) (pushed levels m) (the_field count n name type)
last_holds count n levels name type m e h =
    record { inside = omega arith; member = m; kept = last_kept count n levels m e; typed = h }

pub seen_fit : (seen : List Visible) (count n : ℕ) (levels : Levels) (name : Naming) (type : PokeType)
    (m : Option Value) →
    length (top_of levels) ≡ n → IsMember type m → LevelsFit seen (count + 1) levels →
    LevelsFit (sees seen count n name type) (count + 1) (pushed levels m)
seen_fit seen count n levels name type m e h fit =
    one_more seen (count + 1) (pushed levels m) (the_field count n name type) (pushed_fit seen (count + 1) levels m fit)
    (last_holds count n levels name type m e h)

-- ---- names

or_this_if : (word : List ℕ) (b : Bool) (w u : Visible) (o : Option Visible) →
    or_this word w (if b then Some u else o) ≡ (if b then Some u else or_this word w o)
or_this_if word true w u o = refl
or_this_if word false w u o = refl

resolve_last : (word : List ℕ) (seen : List Visible) (u : Visible) →
    resolve word (seen ++ u ∷ []) ≡ (if is_named u.name word then Some u else resolve word seen)
resolve_last word [] u = refl
resolve_last word (w ∷ seen) u =
    ap (or_this word w) (resolve_last word seen u) ∙ or_this_if word (is_named u.name word) w u (resolve word seen)

or_field_if : (word : List ℕ) (b : Bool) (f : Naming × Option Value) (m : Option Value) (o : Option (Option Value)) →
    or_this_field word f (if b then Some m else o) ≡ (if b then Some m else or_this_field word f o)
or_field_if word true f m o = refl
or_field_if word false f m o = refl

field_last : (word : List ℕ) (scope : Scope) (name : Naming) (m : Option Value) →
    field_named word (with_field scope name m) ≡ (if is_named name word then Some m else field_named word scope)
field_last word [] name m = refl
field_last word (f ∷ scope) name m = ap (or_this_field word f) (field_last word scope name m)
    ∙ or_field_if word (is_named name word) f m (field_named word scope)

-- ---- scopes that fit

pub opened_scope : (scope : Scope) (seen : List Visible) (count : ℕ) (levels : Levels) →
    ScopeFits scope seen count levels → ScopeFits scope seen (count + 1) (opened levels)
opened_scope scope seen count levels h = record {
  fit = opened_fit seen count levels h.fit;
  named = λ word v e. rw (one_deeper count v.level (resolved_holds word seen h.fit e).inside) (h.named word v e);
}

pub pushed_scope : (scope : Scope) (seen : List Visible) (count : ℕ) (levels : Levels) (m : Option Value) →
    ScopeFits scope seen count levels → ScopeFits scope seen count (pushed levels m)
pushed_scope scope seen count levels m h = record {
  fit = pushed_fit seen count levels m h.fit;
  named = λ word v e.
      let k = resolved_holds word seen h.fit e in
      pushed_kept levels m k.member (count - 1 - v.level) v.place k.kept ∙ sym k.kept ∙ h.named word v e;
}

-- where a field is looked for, frames have the field of that name
abbrev IsKept : Scope → (count : ℕ) → Levels → List ℕ → Visible → Type 0
IsKept scope count levels word v = slice_get (level_at levels (count - 1 - v.level)) v.place ≡ field_named word scope

last_or_before : (scope : Scope) (seen : List Visible) (count : ℕ) (levels : Levels) (m : Option Value) (word : List ℕ)
    (u v : Visible) (b : Bool) → is_named u.name word ≡ b →
    slice_get (level_at (pushed levels m) (count - 1 - u.level)) u.place ≡ Some m →
    (resolve word seen ≡ Some v → IsKept scope count (pushed levels m) word v) →
    (if b then Some u else resolve word seen) ≡ Some v →
    IsKept (with_field scope u.name m) count (pushed levels m) word v
last_or_before scope seen count levels m word u v true named here before e =
    let same : u ≡ v = cc in
    let last : field_named word (with_field scope u.name m) ≡ Some m = field_last word scope u.name m ∙ rw named refl in
    subst (λ w. slice_get (level_at (pushed levels m) (count - 1 - w.level)) w.place
    ≡ field_named word (with_field scope u.name m)) same (here ∙ sym last)
last_or_before scope seen count levels m word u v false named here before e =
    let last : field_named word (with_field scope u.name m) ≡ field_named word scope =
    field_last word scope u.name m ∙ rw named refl in
    before e ∙ sym last

pub seen_scope : (scope : Scope) (seen : List Visible) (count n : ℕ) (levels : Levels) (name : Naming) (type : PokeType)
    (m : Option Value) →
    length (top_of levels) ≡ n → IsMember type m → ScopeFits scope seen (count + 1) levels →
    ScopeFits (with_field scope name m) (sees seen count n name type) (count + 1) (pushed levels m)
seen_scope scope seen count n levels name type m e h fits =
    let u = the_field count n name type in
    let before = pushed_scope scope seen (count + 1) levels m fits in
    record {
      fit = seen_fit seen count n levels name type m e h fits.fit;
      named = λ word v r. last_or_before scope seen (count + 1) levels m word u v (is_named name word) refl
          (last_kept count n levels m e) (before.named word v) (sym (resolve_last word seen u) ∙ r);
    }

-- where nothing is visible, any frames fit
pub unseen_scope : (scope : Scope) (levels : Levels) → ScopeFits scope [] 0 levels
unseen_scope scope levels = record { fit = tt; named = λ word v e. absurd (none-some v e) }
