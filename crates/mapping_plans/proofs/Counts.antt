-- Each node and each byte of a text of a value was made, whatever was read.
use Rattle.std.proofs.Common.{◌≡◌, ℕ, zero, suc, ◌+◌, ◌-◌, max, ◌≤◌, length, Bool, true, false, List, [], ◌∷◌, ◌++◌, Option, Some, None, Result, Ok, Err, refl, arith}
use Rattle.std.specs.Prelude.{if◌then◌else◌, nat_le, nat_eq}
use Rattle.bit_space.specs.declared.order.Order.{Order}
use Rattle.pickle_types.specs.declared.integer.IntegerType.{IntegerType}
use Rattle.pickle_types.specs.Types.{Term, PokeType, IntegerOf, OffsetOf, StringOf, ArrayOf, StructOf, IntegralOf, UnionOf, Fields, NoFields, FieldThen, Parts, NoParts, PartThen}
use Rattle.pickle_types.specs.Bounds.{least_width, count_of}
use Rattle.pickle_meaning.specs.declared.extent.Extent.{Extent}
use Rattle.pickle_meaning.specs.Values.{Naming, Label, ArrayLabel, StructLabel, Value, end_of, text_value, Levels, pushed, opened, top_of, outer_of, gathered}
use Rattle.pickle_meaning.specs.Clauses.{FaultAt, is_due, is_met, ends_before, misses}
use Rattle.pickle_meaning.specs.Means.{Opened, Taken, number_type, width_in, first_digits, ordered, value_of, field_names, part_names, union_value}
use Rattle.pickle_meaning.specs.Room.{NodeSlot, ByteSlot, text_length, value_slots, members_slots}
use Rattle.value_store.specs.Moves.{Move}
use Rattle.mapping_plans.specs.Plan.{Plan, and_then, after, on_value, then_ok, leave_frame, framed, Counts, counted, count_tick, count_made, count_read}
use Rattle.mapping_plans.specs.Mapping.{from_inside, makes, closes, constrained, number_plan, digits_plan, read_plan, after_byte, text_plan, after_element, element_plan, elements_plan, after_attempt, plan, fields_plan, alternatives_plan}
use Rattle.pickle_meaning.specs.Laws.{value_size}
use Rattle.mapping_plans.proofs.Fitting.{longer}
use Rattle.mapping_plans.specs.Rows.{row_of}
use Rattle.mapping_plans.proofs.InRow.{element_counts}

-- for a value, with what was made before it
abbrev SizeOn : {A F : Type 0} → (A → ℕ) → ℕ → Result A F → ℕ
SizeOn size c (Ok x) = c + size x
SizeOn size c (Err e) = c

abbrev of_value : Value → ℕ
of_value v = value_slots NodeSlot v + value_slots ByteSlot v

-- the values of a frame
abbrev of_level : List (Option Value) → ℕ
of_level [] = 0
of_level (None ∷ rest) = of_level rest
of_level (Some v ∷ rest) = of_value v + of_level rest

abbrev of_levels : Levels → ℕ
of_levels r = of_level (top_of r)

abbrev of_opened : Opened → ℕ
of_opened r = of_levels r.0

abbrev of_taken : Taken → ℕ
of_taken t = of_value t.value

level_more : (level : List (Option Value)) (v : Value) → of_level (level ++ Some v ∷ []) ≡ of_level level + of_value v
level_more [] v = omega arith
level_more (None ∷ rest) v = level_more rest v
level_more (Some u ∷ rest) v = let h = level_more rest v in omega arith

level_absent : (level : List (Option Value)) → of_level (level ++ None ∷ []) ≡ of_level level
level_absent [] = refl
level_absent (None ∷ rest) = level_absent rest
level_absent (Some u ∷ rest) = let h = level_absent rest in omega arith

push_more : (levels : Levels) (v : Value) → of_levels (pushed levels (Some v)) ≡ of_levels levels + of_value v
push_more [] v = omega arith
push_more (top ∷ outer) v = level_more top v

push_absent : (levels : Levels) → of_levels (pushed levels None) ≡ of_levels levels
push_absent [] = refl
push_absent (top ∷ outer) = level_absent top

gathered_size : (level : List (Option Value)) →
    members_slots NodeSlot (gathered level) + members_slots ByteSlot (gathered level) ≡ of_level level
gathered_size [] = refl
gathered_size (None ∷ rest) = gathered_size rest
gathered_size (Some v ∷ rest) = let h = gathered_size rest in omega arith

pub counts_more : {A : Type 0} (size : A → ℕ) {p : Plan A} {c : ℕ} (d : ℕ) → c ≤ d → Counts size p c → Counts size p d
counts_more size d le (counted h) = counted (omega arith)
counts_more size d le (count_tick h) = count_tick (counts_more size d le h)
counts_more size d le (count_made {count} h) = count_made (counts_more size (d + count) (omega arith) h)
counts_more size d le (count_read h) = count_read (λ n. counts_more size d le (h n))

counts_then : {A B : Type 0} (size : A → ℕ) (most : B → ℕ) (f : A → Plan B) {p : Plan A} {c : ℕ} → Counts size p c →
    ((x : A) (d : ℕ) → size x ≤ d → Counts most (f x) d) → Counts most (and_then p f) c
counts_then size most f {c} (counted {a} h) g = g a c h
counts_then size most f (count_tick h) g = count_tick (counts_then size most f h g)
counts_then size most f (count_made h) g = count_made (counts_then size most f h g)
counts_then size most f (count_read h) g = count_read (λ n. counts_then size most f (h n) g)

-- one plan from c on, and then another where it gives a value; a fault takes nothing
counts_ok : {A B F : Type 0} (size : A → ℕ) (most : B → ℕ) (b c : ℕ) (f : A → Plan (Result B F)) {p : Plan (Result A F)}
    {e : ℕ} → b ≤ c → Counts (SizeOn size c) p e → ((x : A) (d : ℕ) → c + size x ≤ d → Counts (SizeOn most b) (f x) d) →
    Counts (SizeOn most b) (then_ok p f) e
unfolding then_ok
counts_ok {A} {B} {F} size most b c f le h g = counts_then (SizeOn size c) (SizeOn most b) (on_value f) h told
  where
    told : (r : Result A F) (d : ℕ) → SizeOn size c r ≤ d → Counts (SizeOn most b) (on_value f r) d
    told (Ok x) d le = g x d le
    told (Err e) d up = let low : c ≤ d = up in let all : b ≤ d = omega arith in counted all

-- the same in a frame of its own
counts_framed : {A F : Type 0} (size : A → ℕ) (b : ℕ) (outer : Levels) {p : Plan (Result A F)} {e : ℕ} →
    Counts (SizeOn size b) p e → Counts (SizeOn size b) (framed outer p) e
unfolding framed
counts_framed {A} {F} size b outer {e} h = count_made (counts_then (SizeOn size b) (SizeOn size b) (leave_frame outer)
    (counts_more (SizeOn size b) (e + 0) (omega arith) h) told)
  where
    told : (r : Result A F) (d : ℕ) → SizeOn size b r ≤ d → Counts (SizeOn size b) (leave_frame outer r) d
    told (Ok x) d le = counted le
    told (Err e) d up = let low : b ≤ d = up in let all : b ≤ d + 0 = omega arith in count_made (counted all)

counts_after : {A B F : Type 0} (most : B → ℕ) (b : ℕ) (n : ℕ) (r : Result A F) (f : A → Plan (Result B F)) (c : ℕ) →
    b ≤ c → ((x : A) → Counts (SizeOn most b) (f x) c) → Counts (SizeOn most b) (then_ok (after n r) f) c
unfolding then_ok
counts_after most b zero (Ok x) f c le g = g x
counts_after most b zero (Err e) f c le g = counted le
counts_after most b (suc n) r f c le g = count_tick (counts_after most b n r f c le g)

one_of : {A : Type 0} (size : A → ℕ) (b : Bool) {p q : Plan A} {c : ℕ} → Counts size p c → Counts size q c →
    Counts size (if b then p else q) c
one_of size true h g = h
one_of size false h g = g

makes_counts : {move : Move} (levels : Levels) (v : Value) (b c : ℕ) → b + of_value v ≤ c + 1 →
    Counts (SizeOn of_value b) (makes move levels v) c
makes_counts levels v b c le = count_made (counted le)

closes_counts : {move : Move} (label : Label) (start end : ℕ) (r : Levels) (b c : ℕ) → text_length label ≡ 0 →
    b + of_levels r ≤ c → Counts (SizeOn of_value b) (closes move (value_of label start end) r) c
closes_counts label start end r b c e le =
    let h = gathered_size (top_of r) in makes_counts (outer_of r) (value_of label start end r) b c (omega arith)

constrained_counts : (c : Option Term) (levels : Levels) (place : ℕ) (v : Value) (b d : ℕ) → b + of_value v ≤ d →
    Counts (SizeOn of_value b) (constrained c levels place v) d
unfolding constrained
constrained_counts c levels place v b d le = counts_after of_value b _ _ _ d (omega arith) (λ u. counted le)

inside_counts : {A : Type 0} (size : A → ℕ) (m s : ℕ) {p : Plan (Result A FaultAt)} (b c : ℕ) → b ≤ c →
    Counts (SizeOn size b) p c → Counts (SizeOn size b) (from_inside m s p) c
unfolding from_inside
inside_counts size m s b c le h = one_of (SizeOn size b) (nat_le s m) h (counted le)

mutual
  unfolding number_plan

  number_counts : (ty : PokeType) (n : ℕ) (levels : Levels) (s c : ℕ) →
      Counts (SizeOn of_value c) (number_plan ty n levels s) c
  number_counts (IntegerOf type) n levels s c = makes_counts levels _ c c (omega arith)
  number_counts (OffsetOf type unit) n levels s c = makes_counts levels _ c c (omega arith)
  number_counts StringOf n levels s c = counted (omega arith)
  number_counts (ArrayOf element bound) n levels s c = counted (omega arith)
  number_counts (StructOf name pinned _) n levels s c = counted (omega arith)
  number_counts (IntegralOf name type fields) n levels s c =
      counts_framed of_value c levels (counts_ok of_levels of_value c c _ (omega arith)
      (digits_counts fields n type.width (opened levels) s c c (omega arith))
      (λ r d le. closes_counts (StructLabel name (part_names fields)) s (s + type.width) r c d refl le))
  number_counts (UnionOf name alternatives) n levels s c = counted (omega arith)

  digits_counts : (parts : Parts) (n left : ℕ) (levels : Levels) (s b c : ℕ) → b + of_levels levels ≤ c →
      Counts (SizeOn of_levels b) (digits_plan parts n left levels s) c
  digits_counts NoParts n left levels s b c le = counted le
  digits_counts (PartThen name order ty k rest) n left levels s b c le =
      count_tick (counts_ok of_value of_levels b c _ (omega arith)
      (counts_ok of_value of_value c c _ (omega arith)
      (count_tick (number_counts ty (first_digits n left (width_in (number_type ty))) levels s c))
      (λ v d up. constrained_counts k levels s v c d up))
      (λ v d up. digits_counts rest n (left - width_in (number_type ty)) (pushed levels (Some v)) s b d
      (let p = push_more levels v in omega arith)))

read_counts : (m : ℕ) (ty : PokeType) (type : IntegerType) (order : Order) (levels : Levels) (s c : ℕ) →
    Counts (SizeOn of_value c) (read_plan m ty type order levels s) c
unfolding read_plan
read_counts m ty type order levels s c = count_tick (one_of (SizeOn of_value c) (nat_le (s + type.width) m)
    (count_read (λ n. number_counts ty n levels s c)) (counted (omega arith)))

after_counts : (extent : Extent) (next : Levels → ℕ → Plan (Result Opened FaultAt)) (b : ℕ) →
    ((levels : Levels) (at c : ℕ) → b + of_levels levels ≤ c → Counts (SizeOn of_opened b) (next levels at) c) →
    (levels : Levels) (at c : ℕ) → b + of_levels levels ≤ c → (r : Result Value FaultAt) (d : ℕ) →
    SizeOn of_value c r ≤ d → Counts (SizeOn of_opened b) (after_element extent next levels at r) d
unfolding after_element
after_counts extent next b h levels at c le (Ok v) d up = one_of (SizeOn of_opened b) (nat_eq (end_of v) at)
    (counted (omega arith)) (h _ _ d (let p = push_more levels v in omega arith))
after_counts extent next b h levels at c le (Err f) d up =
    one_of (SizeOn of_opened b) (ends_before extent f.0) (counted (omega arith)) (counted (omega arith))

elements_counts : (element : Levels → ℕ → Plan (Result Value FaultAt)) (m s : ℕ) (extent : Extent) (b : ℕ) →
    ((levels : Levels) (at c : ℕ) → Counts (SizeOn of_value c) (element levels at) c) →
    (n i : ℕ) (levels : Levels) (at c : ℕ) → b + of_levels levels ≤ c →
    Counts (SizeOn of_opened b) (elements_plan element m s extent n i levels at) c
unfolding elements_plan
elements_counts element m s extent b h zero i levels at c le = counted (omega arith)
elements_counts element m s extent b h (suc n) i levels at c le =
    one_of (SizeOn of_opened b) (is_due extent m s i at)
    (count_tick (counts_then (SizeOn of_value c) (SizeOn of_opened b) _ (h levels at c) (after_counts extent
    (elements_plan element m s extent n (i + 1)) b (elements_counts element m s extent b h n (i + 1)) levels at c le)))
    (one_of (SizeOn of_opened b) (is_met extent s at) (counted le) (counted (omega arith)))

attempt_counts : (levels : Levels) (next : Plan (Result Taken FaultAt)) (index : ℕ) (name : Naming) (b c : ℕ) → b ≤ c →
    Counts (SizeOn of_taken b) next c → (r : Result Value FaultAt) (d : ℕ) → SizeOn of_value c r ≤ d →
    Counts (SizeOn of_taken b) (after_attempt levels next index name r) d
unfolding after_attempt
attempt_counts levels next index name b c le h (Ok v) d up = counted (omega arith)
attempt_counts levels next index name b c le h (Err f) d up = one_of (SizeOn of_taken b) (misses f.0)
    (count_made (counts_more (SizeOn of_taken b) (d + 0) (omega arith) h)) (counted (omega arith))

text_counts : (m n : ℕ) (bytes : List ℕ) (levels : Levels) (s place b c : ℕ) → b + length bytes ≤ c →
    Counts (SizeOn of_value b) (text_plan m n bytes levels s place) c
unfolding text_plan after_byte
text_counts m zero bytes levels s place b c le = counted (omega arith)
text_counts m (suc n) bytes levels s place b c le = count_tick (one_of (SizeOn of_value b) (nat_le (place + 8) m)
    (count_read (read (λ more. text_counts m n more levels s (place + 8) b (c + 1)))) (counted (omega arith)))
  where
    read : ((more : List ℕ) → b + length more ≤ c + 1 →
        Counts (SizeOn of_value b) (text_plan m n more levels s (place + 8)) (c + 1)) →
        (x : ℕ) →
        Counts (SizeOn of_value b)
        (after_byte (λ more. text_plan m n more levels s (place + 8)) bytes levels s (place + 8) x) c
    read next zero = makes_counts levels (text_value bytes s (place + 8)) b c (omega arith)
    read next (suc x) = count_made (next (bytes ++ suc x ∷ []) (let l = longer bytes (suc x) in omega arith))

mutual
  unfolding plan

  pub plan_counts : (m : ℕ) (ty : PokeType) (order : Order) (levels : Levels) (s c : ℕ) →
      Counts (SizeOn of_value c) (plan m ty order levels s) c
  plan_counts m (IntegerOf type) order levels s c =
      inside_counts of_value m s c c (omega arith) (read_counts m (IntegerOf type) type order levels s c)
  plan_counts m (OffsetOf type unit) order levels s c =
      inside_counts of_value m s c c (omega arith) (read_counts m (OffsetOf type unit) type order levels s c)
  plan_counts m StringOf order levels s c = inside_counts of_value m s c c (omega arith)
      (count_tick (counts_framed of_value c levels (text_counts m _ [] levels s s c c (omega arith))))
  plan_counts m (ArrayOf element bound) order levels s c =
      inside_counts of_value m s c c (omega arith) (count_tick (counts_after of_value c _ _ _ c (omega arith) (λ extent.
      counts_framed of_value c levels
      (counts_ok of_opened of_value c c _ (omega arith) (elements_counts (element_plan element (plan m element order)) m
      s extent c (λ l p d. element_counts (row_of element) l (plan_counts m element order l p d))
      (count_of m (least_width element)) 0 (opened levels) s c (omega arith))
      (λ r d le. closes_counts ArrayLabel s r.1 r.0 c d refl le)))))
  plan_counts m (StructOf name pinned fields) order levels s c =
      inside_counts of_value m s c c (omega arith) (count_tick (counts_framed of_value c levels (counts_ok of_opened
      of_value c c _ (omega arith) (fields_counts m pinned s fields order (opened levels) s s c c (omega arith))
      (λ r d le. closes_counts (StructLabel name (field_names fields)) s r.1 r.0 c d refl le))))
  plan_counts m (IntegralOf name type fields) order levels s c =
      inside_counts of_value m s c c (omega arith) (read_counts m (IntegralOf name type fields) type order levels s c)
  plan_counts m (UnionOf name alternatives) order levels s c =
      inside_counts of_value m s c c (omega arith) (count_tick (counts_framed of_value c levels (counts_ok of_taken
      of_value c c _ (omega arith) (alternatives_counts m alternatives 0 order (opened levels) s c c (omega arith))
      (λ t d le. makes_counts levels (union_value name s t) c d (omega arith)))))

  fields_counts : (m : ℕ) (pinned : Bool) (s : ℕ) (fields : Fields) (order : Order) (levels : Levels)
      (behind top b c : ℕ) →
      b + of_levels levels ≤ c → Counts (SizeOn of_opened b) (fields_plan m pinned s fields order levels behind top) c
  fields_counts m pinned s NoFields order levels behind top b c le = counted le
  fields_counts m pinned s (FieldThen name set ty k label when rest) order levels behind top b c le =
      count_tick (counts_after of_opened b _ _ _ c (omega arith) (λ there. one_of (SizeOn of_opened b) there
      (counts_after of_opened b _ _ _ c (omega arith) (λ p.
      counts_ok of_value of_opened b c _ (omega arith)
      (counts_ok of_value of_value c c _ (omega arith) (plan_counts m ty (ordered set order) levels p c)
      (λ v d up. constrained_counts k levels p v c d up))
      (λ v d up. fields_counts m pinned s rest order (pushed levels (Some v)) (end_of v) (max top (end_of v)) b d
      (let q = push_more levels v in omega arith))))
      (count_made (fields_counts m pinned s rest order (pushed levels None) behind top b
      (c + 0) (let q = push_absent levels in omega arith)))))

  alternatives_counts : (m : ℕ) (parts : Parts) (index : ℕ) (order : Order) (levels : Levels) (s b c : ℕ) → b ≤ c →
      Counts (SizeOn of_taken b) (alternatives_plan m parts index order levels s) c
  alternatives_counts m NoParts index order levels s b c le = counted le
  alternatives_counts m (PartThen name set ty k rest) index order levels s b c le =
      count_tick (counts_then (SizeOn of_value c) (SizeOn of_taken b) _
      (counts_ok of_value of_value c c _ (omega arith) (plan_counts m ty (ordered set order) levels s c)
      (λ v d up. constrained_counts k levels s v c d up))
      (attempt_counts levels _ index name b c le (alternatives_counts m rest (index + 1) order levels s b c le)))

same_size : {p : Plan (Result Value FaultAt)} {c : ℕ} → Counts (SizeOn of_value 0) p c → Counts value_size p c
same_size (counted {a} h) = counted (told a h)
  where
    told : {c : ℕ} (r : Result Value FaultAt) → SizeOn of_value 0 r ≤ c → value_size r ≤ c
    told (Ok v) le = omega arith
    told (Err f) le = omega arith
same_size (count_tick h) = count_tick (same_size h)
same_size (count_made h) = count_made (same_size h)
same_size (count_read h) = count_read (λ n. same_size (h n))

pub values_made : (m : ℕ) (ty : PokeType) (order : Order) (levels : Levels) (s : ℕ) →
    Counts value_size (plan m ty order levels s) 0
values_made m ty order levels s = same_size (plan_counts m ty order levels s 0)
