-- What holds of each result of a plan, whatever it reads.
use Rattle.std.proofs.Common.{ℕ, zero, suc, Bool, true, false, List, Result, Ok, Err}
use Rattle.std.specs.Prelude.{if◌then◌else◌, nat_le}
use Rattle.bit_space.specs.declared.order.Order.{Order}
use Rattle.pickle_meaning.specs.Numbers.{number_at}
use Rattle.pickle_meaning.specs.Values.{Value, Levels}
use Rattle.pickle_meaning.specs.Clauses.{FaultAt}
use Rattle.mapping_plans.specs.Plan.{Plan, Ended, Tick, Made, Read, and_then, after, on_value, then_ok, leave_frame, framed, as_row, in_row, result_of}
use Rattle.mapping_plans.specs.Mapping.{from_inside, packs_last, then_packed}
use Rattle.mapping_plans.specs.Rows.{Row, Apart, Numbers, Records, Values}
use Rattle.mapping_plans.proofs.Always.{OfValue}
use Rattle.value_store.specs.Moves.{Move}

-- Q holds of each result, also of reads that give no number of that width
pub data Yields {A : Type 0} (Q : A → Type 0) : Plan A → Type 0 where
  yields : {a : A} → Q a → Yields Q (Ended a)
  on_tick : {p : Plan A} → Yields Q p → Yields Q (Tick p)
  on_made : {count : ℕ} {move : Move} {levels : Levels} {p : Plan A} → Yields Q p → Yields Q (Made count move levels p)
  on_read : {place width : ℕ} {order : Order} {ps : ℕ → Plan A} → ((n : ℕ) → Yields Q (ps n)) →
      Yields Q (Read place width order ps)

pub yields_on : {A : Type 0} {Q : A → Type 0} (bits : List ℕ) (p : Plan A) → Yields Q p → Q (result_of bits p)
yields_on bits (Ended a) (yields h) = h
yields_on bits (Tick p) (on_tick h) = yields_on bits p h
yields_on bits (Made count move levels p) (on_made h) = yields_on bits p h
yields_on bits (Read place width order rest) (on_read h) =
    let n = number_at bits order place width in yields_on bits (rest n) (h n)

pub weaker : {A : Type 0} {P Q : A → Type 0} → ((a : A) → P a → Q a) → {p : Plan A} → Yields P p → Yields Q p
weaker g (yields {a} h) = yields (g a h)
weaker g (on_tick h) = on_tick (weaker g h)
weaker g (on_made h) = on_made (weaker g h)
weaker g (on_read h) = on_read (λ n. weaker g (h n))

-- two facts about the same results
pub both_yields : {A : Type 0} {P Q : A → Type 0} {p : Plan A} → Yields P p → Yields Q p → Yields (λ a. P a × Q a) p
both_yields (yields h) (yields g) = yields (h, g)
both_yields (on_tick h) (on_tick g) = on_tick (both_yields h g)
both_yields (on_made h) (on_made g) = on_made (both_yields h g)
both_yields (on_read h) (on_read g) = on_read (λ n. both_yields (h n) (g n))

as_row_yields : {A : Type 0} {Q : A → Type 0} (row : Row) {p : Plan A} → Yields Q p → Yields Q (as_row row p)
as_row_yields row (yields h) = yields h
as_row_yields row (on_tick h) = on_tick (as_row_yields row h)
as_row_yields row (on_made h) = on_made (as_row_yields row h)
as_row_yields row (on_read h) = on_read (λ n. as_row_yields row (h n))

-- an element that is packed after it was mapped
after_yields : (levels : Levels) {Q : Result Value FaultAt → Type 0} {p : Plan (Result Value FaultAt)} → Yields Q p →
    Yields Q (and_then p (on_value (packs_last levels)))
after_yields levels {Q} (yields {a} h) = told a h
  where
    told : (r : Result Value FaultAt) → Q r → Yields Q (on_value (packs_last levels) r)
    told (Ok v) h = on_made (yields h)
    told (Err f) h = yields h
after_yields levels (on_tick h) = on_tick (after_yields levels h)
after_yields levels (on_made h) = on_made (after_yields levels h)
after_yields levels (on_read h) = on_read (λ n. after_yields levels (h n))

-- the same plan as that of an element
pub element_yields : (row : Row) (levels : Levels) {Q : Result Value FaultAt → Type 0}
    {p : Plan (Result Value FaultAt)} → Yields Q p → Yields Q (then_packed row levels (in_row row p))
unfolding then_ok
element_yields Apart levels h = h
element_yields (Numbers width) levels h = as_row_yields (Numbers width) h
element_yields (Records widths) levels h = as_row_yields (Records widths) h
element_yields (Values stride) levels h = after_yields levels h

pub then_yields : {A B : Type 0} {P : A → Type 0} {Q : B → Type 0} (f : A → Plan B) → ((a : A) → P a → Yields Q (f a)) →
    {p : Plan A} → Yields P p → Yields Q (and_then p f)
then_yields f g (yields {a} h) = g a h
then_yields f g (on_tick h) = on_tick (then_yields f g h)
then_yields f g (on_made h) = on_made (then_yields f g h)
then_yields f g (on_read h) = on_read (λ n. then_yields f g (h n))

value_yields : {A B F : Type 0} {P : A → Type 0} {Q : B → Type 0} (f : A → Plan (Result B F)) →
    ((a : A) → P a → Yields (OfValue Q) (f a)) → (r : Result A F) → OfValue P r → Yields (OfValue Q) (on_value f r)
value_yields f g (Ok a) h = g a h
value_yields f g (Err e) h = yields tt

pub ok_yields : {A B F : Type 0} {P : A → Type 0} {Q : B → Type 0} (f : A → Plan (Result B F)) →
    ((a : A) → P a → Yields (OfValue Q) (f a)) → {p : Plan (Result A F)} → Yields (OfValue P) p →
    Yields (OfValue Q) (then_ok p f)
unfolding then_ok
ok_yields {F} {P} {Q} f g h =
    then_yields {P = OfValue {F = F} P} {Q = OfValue {F = F} Q} (on_value f) (value_yields {P = P} {Q = Q} f g) h

steps_yield : {A : Type 0} {Q : A → Type 0} (n : ℕ) (a : A) → Q a → Yields Q (after n a)
steps_yield zero a h = yields h
steps_yield (suc n) a h = on_tick (steps_yield n a h)

-- a value that a function gives, after so many steps
pub told_yields : {A B F : Type 0} {Q : B → Type 0} (n : ℕ) (r : Result A F) (f : A → Plan (Result B F)) →
    ((a : A) → Yields (OfValue Q) (f a)) → Yields (OfValue Q) (then_ok (after n r) f)
told_yields {A} {B} {F} {Q} n r f g = ok_yields {P = λ a. Unit {0}} {Q = Q} f (λ a u. g a) (steps_yield n r (any r))
  where
    any : (t : Result A F) → OfValue (λ a. Unit {0}) t
    any (Ok a) = tt
    any (Err e) = tt

pub either : {A : Type 0} {Q : A → Type 0} {p q : Plan A} (t : Bool) → Yields Q p → Yields Q q →
    Yields Q (if t then p else q)
either true h g = h
either false h g = g

pub inside_yields : {A : Type 0} {Q : A → Type 0} (m s : ℕ) {p : Plan (Result A FaultAt)} → Yields (OfValue Q) p →
    Yields (OfValue Q) (from_inside m s p)
unfolding from_inside
inside_yields m s h = either (nat_le s m) h (yields tt)

-- what is built in a frame of its own
pub framed_yields : {A F : Type 0} {Q : A → Type 0} (outer : Levels) {p : Plan (Result A F)} → Yields (OfValue Q) p →
    Yields (OfValue Q) (framed outer p)
unfolding framed
framed_yields {A} {F} {Q} outer h =
    on_made (then_yields {P = OfValue {F = F} Q} {Q = OfValue {F = F} Q} (leave_frame outer) left h)
  where
    left : (r : Result A F) → OfValue Q r → Yields (OfValue Q) (leave_frame outer r)
    left (Ok a) h = yields h
    left (Err e) h = on_made (yields tt)
