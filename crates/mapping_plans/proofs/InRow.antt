-- What holds of a plan also holds of it as the plan of an array's element.
use Rattle.std.proofs.Common.{ℕ, ◌≤◌, List, Some, Result, Ok, Err, ◌∙◌, arith}
use Rattle.pickle_meaning.specs.Clauses.{FaultAt}
use Rattle.pickle_meaning.specs.Numbers.{number_at}
use Rattle.pickle_meaning.specs.Values.{Value, Levels, pushed}
use Rattle.mapping_plans.specs.Plan.{Plan, Ended, Tick, Made, Read, and_then, on_value, then_ok, as_row, in_row, result_of, steps_of, made_of, AtMost, ended, ticked, noted, given, MadeWithin, made_ended, made_tick, made_more, made_read, Counts, counted, count_tick, count_made, count_read, Always, result, after_tick, after_made, after_read}
use Rattle.mapping_plans.specs.Rows.{Row, Apart, Numbers, Records, Values}
use Rattle.mapping_plans.specs.Mapping.{packs_last, then_packed}
use Rattle.mapping_plans.proofs.Comes.{Comes, comes_ended, comes_tick, comes_made, comes_read, comes_as, comes_then}

as_at_most : {A : Type 0} (row : Row) {p : Plan A} {c : ℕ} → AtMost p c → AtMost (as_row row p) c
as_at_most row ended = ended
as_at_most row (ticked c le h) = ticked c le (as_at_most row h)
as_at_most row (noted h) = noted (as_at_most row h)
as_at_most row (given h) = given (λ n. as_at_most row (h n))

row_at_most : {A : Type 0} (row : Row) {p : Plan A} {c : ℕ} → AtMost p c → AtMost (in_row row p) c
row_at_most Apart h = h
row_at_most (Numbers width) h = as_at_most (Numbers width) h
row_at_most (Records widths) h = as_at_most (Records widths) h
row_at_most (Values stride) h = h

as_within : {A : Type 0} (row : Row) {p : Plan A} {ahead left : ℕ} → MadeWithin p ahead left →
    MadeWithin (as_row row p) ahead left
as_within row (made_ended le) = made_ended le
as_within row (made_tick h) = made_tick (as_within row h)
as_within row (made_more rest le h) = made_more rest le (as_within row h)
as_within row (made_read h) = made_read (λ n. as_within row (h n))

row_within : {A : Type 0} (row : Row) {p : Plan A} {ahead left : ℕ} → MadeWithin p ahead left →
    MadeWithin (in_row row p) ahead left
row_within Apart h = h
row_within (Numbers width) h = as_within (Numbers width) h
row_within (Records widths) h = as_within (Records widths) h
row_within (Values stride) h = h

as_counts : {A : Type 0} (row : Row) {size : A → ℕ} {p : Plan A} {made : ℕ} → Counts size p made →
    Counts size (as_row row p) made
as_counts row (counted le) = counted le
as_counts row (count_tick h) = count_tick (as_counts row h)
as_counts row (count_made h) = count_made (as_counts row h)
as_counts row (count_read h) = count_read (λ n. as_counts row (h n))

row_counts : {A : Type 0} {size : A → ℕ} (row : Row) {p : Plan A} {made : ℕ} → Counts size p made →
    Counts size (in_row row p) made
row_counts Apart h = h
row_counts (Numbers width) h = as_counts (Numbers width) h
row_counts (Records widths) h = as_counts (Records widths) h
row_counts (Values stride) h = h

as_always : {A : Type 0} (row : Row) {M : Levels → Type 0} {Q : A → Type 0} {p : Plan A} → Always M Q p →
    Always M Q (as_row row p)
as_always row (result h) = result h
as_always row (after_tick h) = after_tick (as_always row h)
as_always row (after_made l h) = after_made l (as_always row h)
as_always row (after_read h) = after_read (λ n lt. as_always row (h n lt))

row_always : {A : Type 0} {M : Levels → Type 0} {Q : A → Type 0} (row : Row) {p : Plan A} → Always M Q p →
    Always M Q (in_row row p)
row_always Apart h = h
row_always (Numbers width) h = as_always (Numbers width) h
row_always (Records widths) h = as_always (Records widths) h
row_always (Values stride) h = h

module _ {A : Type 0} (bits : List ℕ) where
  as_comes : (row : Row) (p : Plan A) → Comes bits (as_row row p) (result_of bits p) (steps_of bits p) (made_of bits p)
  as_comes row (Ended a) = comes_ended
  as_comes row (Tick p) = comes_tick (as_comes row p)
  as_comes row (Made count move levels p) = comes_made (as_comes row p)
  as_comes row (Read place size order rest) = comes_read (as_comes row (rest (number_at bits order place size)))

  as_too : (row : Row) (p : Plan A) {a : A} {k j : ℕ} → Comes bits p a k j → Comes bits (as_row row p) a k j
  as_too row p h =
      let g = as_comes row p in
      record { result = g.result ∙ h.result; steps = g.steps ∙ h.steps; made = g.made ∙ h.made }

row_comes : {A : Type 0} {bits : List ℕ} (row : Row) {p : Plan A} {a : A} {k j : ℕ} → Comes bits p a k j →
    Comes bits (in_row row p) a k j
row_comes Apart h = h
row_comes {bits} (Numbers width) {p} h = as_too bits (Numbers width) p h
row_comes {bits} (Records widths) {p} h = as_too bits (Records widths) p h
row_comes (Values stride) h = h

-- ---- an element that is packed after it was mapped

module _ (levels : Levels) where
  after_at_most : {p : Plan (Result Value FaultAt)} {c : ℕ} → AtMost p c →
      AtMost (and_then p (on_value (packs_last levels))) c
  after_at_most (ended {a}) = told a
    where
      told : {c : ℕ} (r : Result Value FaultAt) → AtMost (on_value (packs_last levels) r) c
      told (Ok v) = noted ended
      told (Err f) = ended
  after_at_most (ticked c le h) = ticked c le (after_at_most h)
  after_at_most (noted h) = noted (after_at_most h)
  after_at_most (given h) = given (λ n. after_at_most (h n))

  after_within : {p : Plan (Result Value FaultAt)} {ahead left : ℕ} → MadeWithin p ahead left →
      MadeWithin (and_then p (on_value (packs_last levels))) ahead left
  after_within {ahead} {left} (made_ended {a} le) = told a
    where
      told : (r : Result Value FaultAt) → MadeWithin (on_value (packs_last levels) r) ahead left
      told (Ok v) = made_more ahead (omega arith) (made_ended le)
      told (Err f) = made_ended le
  after_within (made_tick h) = made_tick (after_within h)
  after_within (made_more rest le h) = made_more rest le (after_within h)
  after_within (made_read h) = made_read (λ n. after_within (h n))

  after_counts : {size : Result Value FaultAt → ℕ} {p : Plan (Result Value FaultAt)} {made : ℕ} → Counts size p made →
      Counts size (and_then p (on_value (packs_last levels))) made
  after_counts {size} {made} (counted {a} le) = told a le
    where
      told : (r : Result Value FaultAt) → size r ≤ made → Counts size (on_value (packs_last levels) r) made
      told (Ok v) le = count_made (counted (omega arith))
      told (Err f) le = counted le
  after_counts (count_tick h) = count_tick (after_counts h)
  after_counts (count_made h) = count_made (after_counts h)
  after_counts (count_read h) = count_read (λ n. after_counts (h n))

  after_always : {M : Levels → Type 0} {Q : Result Value FaultAt → Type 0} →
      ((v : Value) → Q (Ok v) → M (pushed levels (Some v))) → {p : Plan (Result Value FaultAt)} → Always M Q p →
      Always M Q (and_then p (on_value (packs_last levels)))
  after_always {M} {Q} kept (result {a} h) = told a h
    where
      told : (r : Result Value FaultAt) → Q r → Always M Q (on_value (packs_last levels) r)
      told (Ok v) h = after_made (kept v h) (result h)
      told (Err f) h = result h
  after_always kept (after_tick h) = after_tick (after_always kept h)
  after_always kept (after_made l h) = after_made l (after_always kept h)
  after_always kept (after_read h) = after_read (λ n lt. after_always kept (h n lt))

  after_comes : {bits : List ℕ} (p : Plan (Result Value FaultAt)) {r : Result Value FaultAt} {k j : ℕ} →
      Comes bits p r k j → Comes bits (and_then p (on_value (packs_last levels))) r k j
  after_comes {bits} p {r} h = comes_as (omega arith) (omega arith)
      (comes_then p (on_value (packs_last levels)) h (told r))
    where
      told : (r : Result Value FaultAt) → Comes bits (on_value (packs_last levels) r) r 0 0
      told (Ok v) = comes_made {count = 0} comes_ended
      told (Err f) = comes_ended

-- ---- the plan of an element

pub element_at_most : (row : Row) (levels : Levels) {p : Plan (Result Value FaultAt)} {c : ℕ} → AtMost p c →
    AtMost (then_packed row levels (in_row row p)) c
unfolding then_ok
element_at_most Apart levels h = h
element_at_most (Numbers width) levels h = row_at_most (Numbers width) h
element_at_most (Records widths) levels h = row_at_most (Records widths) h
element_at_most (Values stride) levels h = after_at_most levels h

pub element_within : (row : Row) (levels : Levels) {p : Plan (Result Value FaultAt)} {ahead left : ℕ} →
    MadeWithin p ahead left → MadeWithin (then_packed row levels (in_row row p)) ahead left
unfolding then_ok
element_within Apart levels h = h
element_within (Numbers width) levels h = row_within (Numbers width) h
element_within (Records widths) levels h = row_within (Records widths) h
element_within (Values stride) levels h = after_within levels h

pub element_counts : (row : Row) (levels : Levels) {size : Result Value FaultAt → ℕ} {p : Plan (Result Value FaultAt)}
    {made : ℕ} → Counts size p made → Counts size (then_packed row levels (in_row row p)) made
unfolding then_ok
element_counts Apart levels h = h
element_counts (Numbers width) levels h = row_counts (Numbers width) h
element_counts (Records widths) levels h = row_counts (Records widths) h
element_counts (Values stride) levels h = after_counts levels h

-- where M holds of the frames with the value
pub element_always : (row : Row) (levels : Levels) {M : Levels → Type 0} {Q : Result Value FaultAt → Type 0} →
    ((v : Value) → Q (Ok v) → M (pushed levels (Some v))) → {p : Plan (Result Value FaultAt)} → Always M Q p →
    Always M Q (then_packed row levels (in_row row p))
unfolding then_ok
element_always Apart levels kept h = h
element_always (Numbers width) levels kept h = row_always (Numbers width) h
element_always (Records widths) levels kept h = row_always (Records widths) h
element_always (Values stride) levels kept h = after_always levels kept h

pub element_comes : {bits : List ℕ} (row : Row) (levels : Levels) {p : Plan (Result Value FaultAt)}
    {r : Result Value FaultAt} {k j : ℕ} → Comes bits p r k j →
    Comes bits (then_packed row levels (in_row row p)) r k j
unfolding then_ok
element_comes Apart levels h = h
element_comes (Numbers width) levels h = row_comes (Numbers width) h
element_comes (Records widths) levels h = row_comes (Records widths) h
element_comes (Values stride) levels {p} h = after_comes levels p h
