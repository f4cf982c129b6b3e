-- What holds of each value among members.
use Rattle.std.proofs.Common.{◌≡◌, ℕ, zero, suc, ◌+◌, List, [], ◌∷◌, ◌++◌, Option, Some, None, refl, sym, ap, subst, arith}
use Rattle.pickle_meaning.specs.Fits.{ElementsFit, no_more_fit, one_more_fits}
use Rattle.pickle_meaning.specs.Values.{Value, Mapped, Members, NoMembers, MemberThen, AbsentThen, member_at, member_count, members_of, Levels, pushed, top_of, gathered}
use Rattle.value_text.specs.SmallParts.{HasSmallParts, AreSmallParts, HasFewMembers, HaveFewMembers}
use Rattle.poke_batch.specs.PathLaws.{HasClearPaths, HaveClearPaths}
use Rattle.poke_batch.proofs.PartsKept.{same_value}

-- `Are` holds of members exactly if `Is` holds of each value among them, and it holds of the members of a value of
-- which `Is` holds
pub record IsOfEach (Is : Value → Type 0) (Are : Members → Type 0) : Type 0 where
  pub none : Are NoMembers
  pub joins : (value : Value) (rest : Members) → Is value → Are rest → Are (MemberThen value rest)
  pub splits : (value : Value) (rest : Members) → Are (MemberThen value rest) → Is value × Are rest
  pub skips : (rest : Members) → Are rest → Are (AbsentThen rest)
  pub left : (rest : Members) → Are (AbsentThen rest) → Are rest
  pub inside : (value : Value) → Is value → Are (members_of value)

module _ {Is : Value → Type 0} {Are : Members → Type 0} (each : IsOfEach Is Are) where
  -- a member of a value
  among : (members : Members) (place : ℕ) (part : Value) → Are members → member_at members place ≡ Some part → Is part
  among NoMembers place part h e = cc
  among (MemberThen value rest) zero part h e = subst Is (same_value value part e) (each.splits value rest h).0
  among (MemberThen value rest) (suc place) part h e = among rest place part (each.splits value rest h).1 e
  among (AbsentThen rest) zero part h e = cc
  among (AbsentThen rest) (suc place) part h e = among rest place part (each.left rest h) e

  pub member_has : (value part : Value) (place : ℕ) → Is value →
      member_at (members_of value) place ≡ Some part → Is part
  member_has value part place h e = among (members_of value) place part (each.inside value h) e

  -- what a frame has gathered
  some_gathered : (top : List (Option Value)) (v : Value) → Are (gathered top) → Is v →
      Are (gathered (top ++ Some v ∷ []))
  some_gathered [] v h is = each.joins v NoMembers is h
  some_gathered (None ∷ top) v h is =
      each.skips (gathered (top ++ Some v ∷ [])) (some_gathered top v (each.left (gathered top) h) is)
  some_gathered (Some u ∷ top) v h is =
      let both = each.splits u (gathered top) h in
      each.joins u (gathered (top ++ Some v ∷ [])) both.0 (some_gathered top v both.1 is)

  none_gathered : (top : List (Option Value)) → Are (gathered top) → Are (gathered (top ++ None ∷ []))
  none_gathered [] h = each.skips NoMembers h
  none_gathered (None ∷ top) h =
      each.skips (gathered (top ++ None ∷ [])) (none_gathered top (each.left (gathered top) h))
  none_gathered (Some u ∷ top) h =
      let both = each.splits u (gathered top) h in
      each.joins u (gathered (top ++ None ∷ [])) both.0 (none_gathered top both.1)

  pub some_pushed : (levels : Levels) (v : Value) → Are (gathered (top_of levels)) → Is v →
      Are (gathered (top_of (pushed levels (Some v))))
  some_pushed [] v h is = each.joins v NoMembers is h
  some_pushed (top ∷ outer) v h is = some_gathered top v h is

  pub none_pushed : (levels : Levels) → Are (gathered (top_of levels)) → Are (gathered (top_of (pushed levels None)))
  none_pushed [] h = each.skips NoMembers h
  none_pushed (top ∷ outer) h = none_gathered top h

  pub elements_have : (Fit : Levels → ℕ → Value → Type 0)
      → ((levels : Levels) (at : ℕ) (v : Value) → Fit levels at v → Is v)
      → {inside : Levels} {end n : ℕ} {levels : Levels} {place i : ℕ} → ElementsFit Fit inside end n levels place i
      → Are (gathered (top_of levels)) → Are (gathered (top_of inside))
  elements_have Fit has no_more_fit h = h
  elements_have Fit has {levels = levels} {place = place} (one_more_fits v fit lt rest) h =
      elements_have Fit has rest (some_pushed levels v h (has levels place v fit))

-- how many members a frame has
abbrev pub top_count : Levels → ℕ
top_count levels = member_count (gathered (top_of levels))

one_more : (top : List (Option Value)) (v : Option Value) →
    member_count (gathered (top ++ v ∷ [])) ≡ member_count (gathered top) + 1
one_more [] None = refl
one_more [] (Some v) = refl
one_more (None ∷ top) v = omega (arith, one_more top v)
one_more (Some u ∷ top) v = omega (arith, one_more top v)

pub count_pushed : (levels : Levels) (v : Option Value) → top_count (pushed levels v) ≡ top_count levels + 1
count_pushed [] None = refl
count_pushed [] (Some v) = refl
count_pushed (top ∷ outer) v = one_more top v

-- a frame with so many members more
pub record Gains (Are : Members → Type 0) (levels inside : Levels) (n : ℕ) : Type 0 where
  pub count : top_count inside ≡ top_count levels + n
  pub are : Are (gathered (top_of inside))

pub gains_none : {Are : Members → Type 0} (levels inside : Levels) → inside ≡ levels → Are (gathered (top_of levels)) →
    Gains Are levels inside 0
gains_none {Are} levels inside is h =
    record { count = omega (arith, ap top_count is); are = subst (λ l. Are (gathered (top_of l))) (sym is) h }

pub gains_one : {Are : Members → Type 0} (levels inside : Levels) (v : Option Value) (n : ℕ) →
    Gains Are (pushed levels v) inside n → Gains Are levels inside (suc n)
gains_one levels inside v n g = record { count = omega (arith, g.count, count_pushed levels v); are = g.are }

-- ---- what is shown of mapped values

clear_inside : (value : Value) → HasClearPaths value → HaveClearPaths (members_of value)
clear_inside (Mapped label start end _) h = h.1

pub clear_each : IsOfEach HasClearPaths HaveClearPaths
clear_each = record {
  none = tt;
  joins = λ value rest is are. (is, are);
  splits = λ value rest h. h;
  skips = λ rest h. h;
  left = λ rest h. h;
  inside = clear_inside;
}

few_inside : (value : Value) → HasFewMembers value → HaveFewMembers (members_of value)
few_inside (Mapped label start end _) h = h.1

pub few_each : IsOfEach HasFewMembers HaveFewMembers
few_each = record {
  none = tt;
  joins = λ value rest is are. (is, are);
  splits = λ value rest h. h;
  skips = λ rest h. h;
  left = λ rest h. h;
  inside = few_inside;
}

small_inside : (value : Value) → HasSmallParts value → AreSmallParts (members_of value)
small_inside (Mapped label start end _) h = h.1

pub small_each : IsOfEach HasSmallParts AreSmallParts
small_each = record {
  none = tt;
  joins = λ value rest is are. (is, are);
  splits = λ value rest h. h;
  skips = λ rest h. h;
  left = λ rest h. h;
  inside = small_inside;
}
