-- No mapping makes more values than it takes steps, whatever it reads.
use Rattle.std.proofs.Common.{ℕ, zero, suc, ◌+◌, ◌-◌, max, ◌≤◌, Bool, true, false, List, [], ◌∷◌, ◌++◌, Option, Some, None, Result, Ok, Err, arith}
use Rattle.std.specs.Prelude.{if◌then◌else◌, nat_le, nat_eq}
use Rattle.bit_space.specs.declared.order.Order.{Order}
use Rattle.pickle_types.specs.declared.integer.IntegerType.{IntegerType}
use Rattle.pickle_types.specs.Types.{Term, PokeType, IntegerOf, OffsetOf, StringOf, ArrayOf, StructOf, IntegralOf, UnionOf, Fields, NoFields, FieldThen, Parts, NoParts, PartThen}
use Rattle.pickle_types.specs.Bounds.{least_width, count_of}
use Rattle.pickle_meaning.specs.declared.extent.Extent.{Extent}
use Rattle.pickle_meaning.specs.Values.{Naming, Value, end_of, Levels, pushed, opened}
use Rattle.pickle_meaning.specs.Clauses.{FaultAt, is_due, is_met, ends_before, misses}
use Rattle.pickle_meaning.specs.Means.{Opened, Taken, number_type, width_in, first_digits, ordered}
use Rattle.value_store.specs.Moves.{Move}
use Rattle.mapping_plans.specs.Plan.{Plan, Ended, Made, and_then, after, on_value, then_ok, leave_frame, framed, MadeWithin, made_ended, made_tick, made_more, made_read}
use Rattle.mapping_plans.specs.Mapping.{from_inside, constrained, number_plan, digits_plan, read_plan, after_byte, text_plan, after_element, element_plan, elements_plan, after_attempt, plan, fields_plan, alternatives_plan}
use Rattle.mapping_plans.specs.Rows.{row_of}
use Rattle.mapping_plans.proofs.InRow.{element_within}

-- with more steps taken before, and fewer required at the end
pub within_more : {A : Type 0} {p : Plan A} {a b : ℕ} (c d : ℕ) → a ≤ c → d ≤ b → MadeWithin p a b → MadeWithin p c d
within_more c d le ge (made_ended h) = made_ended (omega arith)
within_more c d le ge (made_tick h) = made_tick (within_more (c + 1) d (omega arith) ge h)
within_more c d le ge (made_more rest up h) = made_more rest (omega arith) (within_more rest d (omega arith) ge h)
within_more c d le ge (made_read h) = made_read (λ n. within_more c d le ge (h n))

within_then : {A B : Type 0} (f : A → Plan B) {p : Plan A} {a b c : ℕ} → MadeWithin p a b →
    ((x : A) → MadeWithin (f x) b c) → MadeWithin (and_then p f) a c
within_then f {a} {c} (made_ended {a = x} le) g = within_more a c le (omega arith) (g x)
within_then f (made_tick h) g = made_tick (within_then f h g)
within_then f (made_more rest up h) g = made_more rest up (within_then f h g)
within_then f (made_read h) g = made_read (λ n. within_then f (h n) g)

within_value : {A B F : Type 0} (f : A → Plan (Result B F)) {b c : ℕ} → c ≤ b → ((x : A) → MadeWithin (f x) b c) →
    (r : Result A F) → MadeWithin (on_value f r) b c
within_value f le g (Ok x) = g x
within_value f le g (Err e) = made_ended le

within_ok : {A B F : Type 0} (f : A → Plan (Result B F)) (b : ℕ) {p : Plan (Result A F)} {a c : ℕ} → c ≤ b →
    MadeWithin p a b → ((x : A) → MadeWithin (f x) b c) → MadeWithin (then_ok p f) a c
unfolding then_ok
within_ok f b le h g = within_then (on_value f) h (within_value f le g)

within_frame : {A F : Type 0} (outer : Levels) {b : ℕ} (r : Result A F) → MadeWithin (leave_frame outer r) b b
within_frame outer (Ok x) = made_ended (omega arith)
within_frame outer {b} (Err e) = made_more b (omega arith) (made_ended (omega arith))

within_framed : {A F : Type 0} (outer : Levels) {p : Plan (Result A F)} {a b : ℕ} → MadeWithin p a b →
    MadeWithin (framed outer p) a b
unfolding framed
within_framed outer {a} h = made_more a (omega arith) (within_then (leave_frame outer) h (within_frame outer))

within_after : {A : Type 0} (n : ℕ) (x : A) (a : ℕ) → MadeWithin (after n x) a a
within_after zero x a = made_ended (omega arith)
within_after (suc n) x a = made_tick (within_more (a + 1) a (omega arith) (omega arith) (within_after n x a))

-- one value, for a step that was taken
one_made : {A : Type 0} {move : Move} {levels : Levels} {x : A} (a : ℕ) →
    MadeWithin (Made 1 move levels (Ended x)) (a + 1) a
one_made a = made_more a (omega arith) (made_ended (omega arith))

one_of : {A : Type 0} (b : Bool) {p q : Plan A} {a c : ℕ} → MadeWithin p a c → MadeWithin q a c →
    MadeWithin (if b then p else q) a c
one_of true h g = h
one_of false h g = g

constrained_within : (c : Option Term) (levels : Levels) (place : ℕ) (v : Value) (a : ℕ) →
    MadeWithin (constrained c levels place v) a a
unfolding constrained
constrained_within c levels place v a = within_ok _ a (omega arith) (within_after _ _ a) (λ u. made_ended (omega arith))

inside_within : {B : Type 0} (m s : ℕ) {p : Plan (Result B FaultAt)} (a : ℕ) → MadeWithin p a a →
    MadeWithin (from_inside m s p) a a
unfolding from_inside
inside_within m s a h = one_of (nat_le s m) h (made_ended (omega arith))

mutual
  unfolding number_plan

  number_within : (ty : PokeType) (n : ℕ) (levels : Levels) (s a : ℕ) → MadeWithin (number_plan ty n levels s) (a + 1) a
  number_within (IntegerOf type) n levels s a = one_made a
  number_within (OffsetOf type unit) n levels s a = one_made a
  number_within StringOf n levels s a = made_ended (omega arith)
  number_within (ArrayOf element bound) n levels s a = made_ended (omega arith)
  number_within (StructOf name pinned _) n levels s a = made_ended (omega arith)
  number_within (IntegralOf name type fields) n levels s a = within_framed levels (within_ok _ (a + 1) (omega arith)
      (digits_within fields n type.width (opened levels) s (a + 1)) (λ inside. one_made a))
  number_within (UnionOf name alternatives) n levels s a = made_ended (omega arith)

  digits_within : (parts : Parts) (n left : ℕ) (levels : Levels) (s a : ℕ) →
      MadeWithin (digits_plan parts n left levels s) a a
  digits_within NoParts n left levels s a = made_ended (omega arith)
  digits_within (PartThen name order ty c rest) n left levels s a =
      made_tick (within_more (a + 1) a (omega arith) (omega arith)
      (within_ok _ a (omega arith) (within_ok _ a (omega arith) (within_more (a + 1) a (omega arith) (omega arith)
      (made_tick (number_within ty (first_digits n left (width_in (number_type ty))) levels s (a + 1))))
      (λ v. constrained_within c levels s v a))
      (λ v. digits_within rest n (left - width_in (number_type ty)) (pushed levels (Some v)) s a)))

read_within : (m : ℕ) (ty : PokeType) (type : IntegerType) (order : Order) (levels : Levels) (s a : ℕ) →
    MadeWithin (read_plan m ty type order levels s) a a
unfolding read_plan
read_within m ty type order levels s a = made_tick
    (one_of (nat_le (s + type.width) m) (made_read (λ n. number_within ty n levels s a)) (made_ended (omega arith)))

after_within : (extent : Extent) (next : Levels → ℕ → Plan (Result Opened FaultAt)) (a : ℕ) →
    ((levels : Levels) (at : ℕ) → MadeWithin (next levels at) a a) →
    (levels : Levels) (at : ℕ) (r : Result Value FaultAt) → MadeWithin (after_element extent next levels at r) a a
unfolding after_element
after_within extent next a h levels at (Ok v) = one_of (nat_eq (end_of v) at) (made_ended (omega arith)) (h _ _)
after_within extent next a h levels at (Err f) =
    one_of (ends_before extent f.0) (made_ended (omega arith)) (made_ended (omega arith))

elements_within : (element : Levels → ℕ → Plan (Result Value FaultAt)) (m s : ℕ) (extent : Extent) (a : ℕ) →
    ((levels : Levels) (at : ℕ) → MadeWithin (element levels at) a a) → (n i : ℕ) (levels : Levels) (at : ℕ) →
    MadeWithin (elements_plan element m s extent n i levels at) a a
unfolding elements_plan
elements_within element m s extent a h zero i levels at = made_ended (omega arith)
elements_within element m s extent a h (suc n) i levels at =
    one_of (is_due extent m s i at)
    (made_tick (within_more (a + 1) a (omega arith) (omega arith)
    (within_then _ (h levels at) (after_within extent (elements_plan element m s extent n (i + 1)) a
    (elements_within element m s extent a h n (i + 1)) levels at))))
    (one_of (is_met extent s at) (made_ended (omega arith)) (made_ended (omega arith)))

attempt_within : (levels : Levels) (next : Plan (Result Taken FaultAt)) (index : ℕ) (name : Naming) (a : ℕ) →
    MadeWithin next a a → (r : Result Value FaultAt) → MadeWithin (after_attempt levels next index name r) a a
unfolding after_attempt
attempt_within levels next index name a h (Ok v) = made_ended (omega arith)
attempt_within levels next index name a h (Err f) =
    one_of (misses f.0) (made_more a (omega arith) h) (made_ended (omega arith))

text_within : (m n : ℕ) (bytes : List ℕ) (levels : Levels) (s place a : ℕ) →
    MadeWithin (text_plan m n bytes levels s place) a a
unfolding text_plan after_byte
text_within m zero bytes levels s place a = made_ended (omega arith)
text_within m (suc n) bytes levels s place a = made_tick (one_of (nat_le (place + 8) m)
    (made_read (read (λ more. text_within m n more levels s (place + 8) a))) (made_ended (omega arith)))
  where
    read : ((more : List ℕ) → MadeWithin (text_plan m n more levels s (place + 8)) a a) → (x : ℕ) →
        MadeWithin (after_byte (λ more. text_plan m n more levels s (place + 8)) bytes levels s (place + 8) x) (a + 1) a
    read next zero = one_made a
    read next (suc x) = made_more a (omega arith) (next (bytes ++ suc x ∷ []))

mutual
  unfolding plan

  pub plan_within : (m : ℕ) (ty : PokeType) (order : Order) (levels : Levels) (s a : ℕ) →
      MadeWithin (plan m ty order levels s) a a
  plan_within m (IntegerOf type) order levels s a =
      inside_within m s a (read_within m (IntegerOf type) type order levels s a)
  plan_within m (OffsetOf type unit) order levels s a =
      inside_within m s a (read_within m (OffsetOf type unit) type order levels s a)
  plan_within m StringOf order levels s a = inside_within m s a (made_tick
      (within_more (a + 1) a (omega arith) (omega arith) (within_framed levels (text_within m _ [] levels s s a))))
  plan_within m (ArrayOf element bound) order levels s a =
      inside_within m s a (made_tick
      (within_ok _ (a + 1) (omega arith) (within_after _ _ (a + 1)) (λ extent.
      within_framed levels
      (within_ok _ (a + 1) (omega arith) (elements_within (element_plan element (plan m element order)) m s extent
      (a + 1) (λ l p. element_within (row_of element) l (plan_within m element order l p (a + 1)))
      (count_of m (least_width element)) 0 (opened levels) s) (λ r. one_made a)))))
  plan_within m (StructOf name pinned fields) order levels s a =
      inside_within m s a (made_tick (within_framed levels (within_ok _ (a + 1) (omega arith)
      (fields_within m pinned s fields order (opened levels) s s (a + 1)) (λ r. one_made a))))
  plan_within m (IntegralOf name type fields) order levels s a =
      inside_within m s a (read_within m (IntegralOf name type fields) type order levels s a)
  plan_within m (UnionOf name alternatives) order levels s a =
      inside_within m s a (made_tick (within_framed levels (within_ok _ (a + 1) (omega arith)
      (alternatives_within m alternatives 0 order (opened levels) s (a + 1)) (λ t. one_made a))))

  fields_within : (m : ℕ) (pinned : Bool) (s : ℕ) (fields : Fields) (order : Order) (levels : Levels)
      (behind top a : ℕ) → MadeWithin (fields_plan m pinned s fields order levels behind top) a a
  fields_within m pinned s NoFields order levels behind top a = made_ended (omega arith)
  fields_within m pinned s (FieldThen name set ty c label when rest) order levels behind top a =
      made_tick (within_more (a + 1) a (omega arith) (omega arith)
      (within_ok _ a (omega arith) (within_after _ _ a) (λ there. one_of there
      (within_ok _ a (omega arith) (within_after _ _ a) (λ p.
      within_ok _ a (omega arith) (within_ok _ a (omega arith) (plan_within m ty (ordered set order) levels p a)
      (λ v. constrained_within c levels p v a))
      (λ v. fields_within m pinned s rest order (pushed levels (Some v)) (end_of v) (max top (end_of v)) a)))
      (made_more a (omega arith) (fields_within m pinned s rest order (pushed levels None) behind top a)))))

  alternatives_within : (m : ℕ) (parts : Parts) (index : ℕ) (order : Order) (levels : Levels) (s a : ℕ) →
      MadeWithin (alternatives_plan m parts index order levels s) a a
  alternatives_within m NoParts index order levels s a = made_ended (omega arith)
  alternatives_within m (PartThen name set ty c rest) index order levels s a =
      made_tick (within_more (a + 1) a (omega arith) (omega arith)
      (within_then _ (within_ok _ a (omega arith) (plan_within m ty (ordered set order) levels s a)
      (λ v. constrained_within c levels s v a))
      (attempt_within levels _ index name a (alternatives_within m rest (index + 1) order levels s a))))

pub made_bounded : (m : ℕ) (ty : PokeType) (order : Order) (levels : Levels) (s : ℕ) →
    MadeWithin (plan m ty order levels s) 0 0
made_bounded m ty order levels s = plan_within m ty order levels s 0
