-- Each slot that a mapping fills was paid by a step: at no time are more slots of a kind filled than steps were taken.
use Rattle.std.proofs.Common.{◌≡◌, ℕ, zero, suc, ◌+◌, ◌-◌, ◌*◌, ◌/◌, ◌≤◌, max, length, Bool, true, false, List, [], ◌∷◌, ◌++◌, Option, Some, None, Result, Ok, Err, refl, ap, ◌∙◌, arith}
use Rattle.std.specs.Prelude.{if◌then◌else◌, nat_le, nat_eq}
use Rattle.bit_space.specs.declared.order.Order.{Order}
use Rattle.pickle_types.specs.declared.integer.IntegerType.{IntegerType}
use Rattle.pickle_types.specs.Types.{Term, PokeType, IntegerOf, OffsetOf, StringOf, ArrayOf, StructOf, IntegralOf, UnionOf, Fields, NoFields, FieldThen, Parts, NoParts, PartThen}
use Rattle.pickle_types.specs.Bounds.{least_width, count_of}
use Rattle.pickle_meaning.specs.declared.extent.Extent.{Extent}
use Rattle.pickle_meaning.specs.Values.{Naming, Label, ArrayLabel, StructLabel, UnionLabel, Value, Mapped, member_count, end_of, text_value, Levels, pushed, opened, top_of, outer_of, gathered}
use Rattle.pickle_meaning.specs.Clauses.{FaultAt, condition, field_start, extent_of, is_due, is_met, ends_before, misses}
use Rattle.pickle_meaning.specs.Means.{Opened, Taken, number_type, width_in, first_digits, ordered, field_names, part_names, integer_value, offset_value, value_of, union_value}
use Rattle.pickle_meaning.specs.Room.{Slot, NodeSlot, LinkSlot, PendingSlot, ByteSlot, text_length, members_slots, member_slots, level_slots, slots}
use Rattle.value_store.specs.Moves.{Move}
use Rattle.mapping_plans.specs.Plan.{Plan, Ended, Tick, Made, Read, and_then, after, on_value, then_ok, leave_frame, framed, as_row, in_row}
use Rattle.mapping_plans.specs.Mapping.{from_inside, makes, closes, constrained, number_plan, digits_plan, read_plan, after_byte, text_plan, then_packed, element_plan, after_element, elements_plan, after_attempt, plan, fields_plan, alternatives_plan}
use Rattle.mapping_plans.specs.Rows.{Row, Apart, Numbers, Records, Values, row_of}
use Rattle.mapping_plans.proofs.Fitting.{longer}

-- ---- the slots of frames

-- the link that a member takes once its frame is closed
abbrev charge : Slot → ℕ
charge NodeSlot = 0
charge LinkSlot = 1
charge PendingSlot = 0
charge ByteSlot = 0

abbrev level_links : Slot → List (Option Value) → ℕ
level_links kind [] = 0
level_links kind (m ∷ rest) = charge kind + level_links kind rest

-- the filled slots, and the links that the innermost frame will take
abbrev pub laden : Slot → Levels → ℕ
laden kind r = slots kind r + level_links kind (top_of r)

level_push : (kind : Slot) (level : List (Option Value)) (m : Option Value) →
    level_slots kind (level ++ m ∷ []) ≡ level_slots kind level + member_slots kind m
level_push kind [] m = omega arith
level_push kind (n ∷ rest) m = let h = level_push kind rest m in omega arith

links_push : (kind : Slot) (level : List (Option Value)) (m : Option Value) →
    level_links kind (level ++ m ∷ []) ≡ level_links kind level + charge kind
links_push kind [] m = omega arith
links_push kind (n ∷ rest) m = let h = links_push kind rest m in omega arith

push_slots : (kind : Slot) (levels : Levels) (m : Option Value) →
    slots kind (pushed levels m) ≡ slots kind levels + member_slots kind m
push_slots kind [] m = omega arith
push_slots kind (top ∷ outer) m = let h = level_push kind top m in omega arith

push_laden : (kind : Slot) (levels : Levels) (m : Option Value) →
    laden kind (pushed levels m) ≡ laden kind levels + (charge kind + member_slots kind m)
push_laden kind [] m = omega arith
push_laden kind (top ∷ outer) m = let h = level_push kind top m in let g = links_push kind top m in omega arith

outer_push : (levels : Levels) (m : Option Value) → outer_of (pushed levels m) ≡ outer_of levels
outer_push [] m = refl
outer_push (top ∷ outer) m = refl

gathered_slots : (kind : Slot) (level : List (Option Value)) →
    members_slots kind (gathered level) ≤ level_slots kind level
gathered_slots kind [] = omega arith
gathered_slots kind (None ∷ rest) = let h = gathered_slots kind rest in omega arith
gathered_slots kind (Some v ∷ rest) = let h = gathered_slots kind rest in omega arith

gathered_count : (level : List (Option Value)) → member_count (gathered level) ≡ level_links LinkSlot level
gathered_count [] = refl
gathered_count (None ∷ rest) = let h = gathered_count rest in omega arith
gathered_count (Some v ∷ rest) = let h = gathered_count rest in omega arith

top_slots : (kind : Slot) (r : Levels) → level_slots kind (top_of r) + slots kind (outer_of r) ≡ slots kind r
top_slots kind [] = refl
top_slots kind (top ∷ outer) = refl

-- a member with its link: one more than the members that it is made of, with theirs
abbrev charged : Slot → Option Value → ℕ
charged kind m = charge kind + member_slots kind m

closed_charged : (kind : Slot) (label : Label) (start end : ℕ) (level : List (Option Value)) → text_length label ≡ 0 →
    charged kind (Some (Mapped label start end (gathered level)))
    ≤ 1 + (level_slots kind level + level_links kind level)
closed_charged NodeSlot label start end level e = let h = gathered_slots NodeSlot level in omega arith
closed_charged LinkSlot label start end level e =
    let h = gathered_slots LinkSlot level in let g = gathered_count level in omega arith
closed_charged PendingSlot label start end level e = let h = gathered_slots PendingSlot level in omega arith
closed_charged ByteSlot label start end level e = let h = gathered_slots ByteSlot level in omega arith

integer_charged : (kind : Slot) (type : IntegerType) (n s : ℕ) → charged kind (Some (integer_value type n s)) ≤ 1
integer_charged NodeSlot type n s = omega arith
integer_charged LinkSlot type n s = omega arith
integer_charged PendingSlot type n s = omega arith
integer_charged ByteSlot type n s = omega arith

offset_charged : (kind : Slot) (type : IntegerType) (unit n s : ℕ) →
    charged kind (Some (offset_value type unit n s)) ≤ 1
offset_charged NodeSlot type unit n s = omega arith
offset_charged LinkSlot type unit n s = omega arith
offset_charged PendingSlot type unit n s = omega arith
offset_charged ByteSlot type unit n s = omega arith

text_charged : (kind : Slot) (bytes : List ℕ) (s end : ℕ) →
    charged kind (Some (text_value bytes s end)) ≤ 1 + length bytes
text_charged NodeSlot bytes s end = omega arith
text_charged LinkSlot bytes s end = omega arith
text_charged PendingSlot bytes s end = omega arith
text_charged ByteSlot bytes s end = omega arith

absent_charged : (kind : Slot) → charged kind None ≤ 1
absent_charged NodeSlot = omega arith
absent_charged LinkSlot = omega arith
absent_charged PendingSlot = omega arith
absent_charged ByteSlot = omega arith

union_charged : (kind : Slot) (name : Naming) (s : ℕ) (t : Taken) →
    charged kind (Some (union_value name s t)) ≤ 1 + charged kind (Some t.value)
union_charged kind name s t =
    let h = closed_charged kind (UnionLabel name t.index t.name) s (end_of t.value) (Some t.value ∷ []) refl in
    omega arith

-- ---- plans whose slots are paid

-- Whatever the plan reads: `paid` steps were taken before it that its frames may use. At no time are more slots filled
-- than steps taken, and Q holds of the steps at its end and its result.
pub data Paid (kind : Slot) {A : Type 0} (Q : ℕ → A → Type 0) : Plan A → (paid : ℕ) → Type 0 where
  paid_end : {a : A} {n : ℕ} → Q n a → Paid kind Q (Ended a) n
  paid_tick : {p : Plan A} {n : ℕ} → Paid kind Q p (n + 1) → Paid kind Q (Tick p) n
  paid_made : {count : ℕ} {move : Move} {levels : Levels} {p : Plan A} {n : ℕ} → slots kind levels ≤ n →
      Paid kind Q p n → Paid kind Q (Made count move levels p) n
  paid_read : {place width : ℕ} {order : Order} {rest : ℕ → Plan A} {n : ℕ} → ((x : ℕ) → Paid kind Q (rest x) n) →
      Paid kind Q (Read place width order rest) n

-- a fact about a value; nothing is said of a fault
abbrev Of : {A F : Type 0} → (ℕ → A → Type 0) → ℕ → Result A F → Type 0
Of P n (Ok a) = P n a
Of P n (Err e) = Unit {0}

abbrev Anything : {A : Type 0} → ℕ → A → Type 0
Anything n a = Unit {0}

module _ {kind : Slot} where
  paid_weaker : {A : Type 0} {P Q : ℕ → A → Type 0} → ((n : ℕ) (a : A) → P n a → Q n a) → {p : Plan A} {n : ℕ} →
      Paid kind P p n → Paid kind Q p n
  paid_weaker g (paid_end {a} {n} h) = paid_end (g n a h)
  paid_weaker g (paid_tick h) = paid_tick (paid_weaker g h)
  paid_weaker g (paid_made l h) = paid_made l (paid_weaker g h)
  paid_weaker g (paid_read h) = paid_read (λ x. paid_weaker g (h x))

  paid_then : {A B : Type 0} {P : ℕ → A → Type 0} {Q : ℕ → B → Type 0} (b : ℕ) (f : A → Plan B) →
      ((n : ℕ) (a : A) → b ≤ n → P n a → Paid kind Q (f a) n) → {p : Plan A} {n : ℕ} → b ≤ n → Paid kind P p n →
      Paid kind Q (and_then p f) n
  paid_then b f g le (paid_end {a} {n} h) = g n a le h
  paid_then b f g le (paid_tick h) = paid_tick (paid_then b f g (omega arith) h)
  paid_then b f g le (paid_made l h) = paid_made l (paid_then b f g le h)
  paid_then b f g le (paid_read h) = paid_read (λ x. paid_then b f g le (h x))

  paid_value : {A B F : Type 0} {P : ℕ → A → Type 0} {Q : ℕ → B → Type 0} (b : ℕ) (f : A → Plan (Result B F)) →
      ((n : ℕ) (a : A) → b ≤ n → P n a → Paid kind (Of Q) (f a) n) → (n : ℕ) (r : Result A F) → b ≤ n → Of P n r →
      Paid kind (Of Q) (on_value f r) n
  paid_value b f g n (Ok a) le h = g n a le h
  paid_value b f g n (Err e) le h = paid_end tt

  paid_ok : {A B F : Type 0} {P : ℕ → A → Type 0} {Q : ℕ → B → Type 0} (b : ℕ) (f : A → Plan (Result B F)) →
      ((n : ℕ) (a : A) → b ≤ n → P n a → Paid kind (Of Q) (f a) n) → {p : Plan (Result A F)} {n : ℕ} → b ≤ n →
      Paid kind (Of P) p n → Paid kind (Of Q) (then_ok p f) n
  unfolding then_ok
  paid_ok b f g le h = paid_then b (on_value f) (paid_value b f g) le h

  paid_after : {A F : Type 0} (k : ℕ) (r : Result A F) (n : ℕ) → Paid kind (Of Anything) (after k r) n
  paid_after zero (Ok a) n = paid_end tt
  paid_after zero (Err e) n = paid_end tt
  paid_after (suc k) r n = paid_tick (paid_after k r (n + 1))

  -- what comes after a clause
  paid_told : {A B F : Type 0} {Q : ℕ → B → Type 0} (k : ℕ) (r : Result A F) (f : A → Plan (Result B F)) (b n : ℕ) →
      b ≤ n → ((k : ℕ) (a : A) → b ≤ k → Paid kind (Of Q) (f a) k) → Paid kind (Of Q) (then_ok (after k r) f) n
  paid_told k r f b n le g = paid_ok b f (λ k a up h. g k a up) le (paid_after k r n)

  paid_framed : {A F : Type 0} {Q : ℕ → A → Type 0} (outer : Levels) {p : Plan (Result A F)} {n : ℕ} →
      slots kind outer ≤ n → Paid kind (Of Q) p n → Paid kind (Of Q) (framed outer p) n
  unfolding framed
  paid_framed outer le h = paid_made (omega arith) (paid_then (slots kind outer) (leave_frame outer) leave le h)
    where
      leave : {A F : Type 0} {Q : ℕ → A → Type 0} (n : ℕ) (r : Result A F) → slots kind outer ≤ n → Of Q n r →
          Paid kind (Of Q) (leave_frame outer r) n
      leave n (Ok x) le h = paid_end h
      leave n (Err e) le h = paid_made le (paid_end tt)

  one_of : {A : Type 0} {Q : ℕ → A → Type 0} (b : Bool) {p q : Plan A} {n : ℕ} → Paid kind Q p n → Paid kind Q q n →
      Paid kind Q (if b then p else q) n
  one_of true h g = h
  one_of false h g = g

  inside_paid : {A : Type 0} {Q : ℕ → A → Type 0} (m s : ℕ) {p : Plan (Result A FaultAt)} {n : ℕ} →
      Paid kind (Of Q) p n → Paid kind (Of Q) (from_inside m s p) n
  unfolding from_inside
  inside_paid m s h = one_of (nat_le s m) h (paid_end tt)

  as_paid : {A : Type 0} {Q : ℕ → A → Type 0} (row : Row) {p : Plan A} {n : ℕ} → Paid kind Q p n →
      Paid kind Q (as_row row p) n
  as_paid row (paid_end h) = paid_end h
  as_paid row (paid_tick h) = paid_tick (as_paid row h)
  as_paid row (paid_made l h) = paid_made l (as_paid row h)
  as_paid row (paid_read h) = paid_read (λ x. as_paid row (h x))

-- ---- the plans of types. d slots are taken by frames further out.

module _ (kind : Slot) where
  -- a value and its link are paid
  abbrev Charged : (d : ℕ) → Levels → ℕ → Value → Type 0
  Charged d levels n v = charged kind (Some v) + laden kind levels + d ≤ n

  -- a frame grew, and what it holds is paid
  abbrev Grown : (d : ℕ) → Levels → ℕ → Levels → Type 0
  Grown d levels n r = (outer_of r ≡ outer_of levels) × (laden kind r + d ≤ n)

  abbrev GrownOpen : (d : ℕ) → Levels → ℕ → Opened → Type 0
  GrownOpen d levels n r = Grown d levels n r.0

  abbrev TakenCharged : (d : ℕ) → Levels → ℕ → Taken → Type 0
  TakenCharged d levels n t = charged kind (Some t.value) + laden kind levels + d ≤ n

  -- what a frame around these takes while another one is open in it
  abbrev around : (d : ℕ) → Levels → ℕ
  around d levels = d + level_links kind (top_of levels) + 1

  makes_paid : {move : Move} (d : ℕ) (levels : Levels) (v : Value) (n : ℕ) → Charged d levels n v →
      Paid kind (Of (Charged d levels)) (makes move levels v) n
  makes_paid d levels v n h = paid_made (let p = push_slots kind levels (Some v) in omega arith) (paid_end h)

  closes_paid : {move : Move} (d : ℕ) (levels r : Levels) (label : Label) (start end n : ℕ) → text_length label ≡ 0 →
      Grown (around d levels) (opened levels) n r →
      Paid kind (Of (Charged d levels)) (closes move (value_of label start end) r) n
  closes_paid d levels r label start end n e grown =
      let c = closed_charged kind label start end (top_of r) e in
      let t = top_slots kind r in
      let o : slots kind (outer_of r) ≡ slots kind levels = ap (slots kind) grown.0 in
      let g = grown.1 in
      let p = push_slots kind (outer_of r) (Some (value_of label start end r)) in
      paid_made (omega arith) (paid_end (omega arith))

  constrained_paid : (d : ℕ) (c : Option Term) (levels : Levels) (place : ℕ) (v : Value) (n : ℕ) →
      Charged d levels n v →
      Paid kind (Of (Charged d levels)) (constrained c levels place v) n
  unfolding constrained
  constrained_paid d c levels place v n h = paid_told _ _ _ n n (omega arith) (λ k u le. paid_end (omega arith))

  grown_more : (d : ℕ) (levels : Levels) (m : Option Value) (n : ℕ) (r : Result Levels FaultAt) →
      Of (Grown d (pushed levels m)) n r → Of (Grown d levels) n r
  grown_more d levels m n (Ok r) h = (h.0 ∙ outer_push levels m, h.1)
  grown_more d levels m n (Err f) h = tt

  open_more : (d : ℕ) (levels : Levels) (m : Option Value) (n : ℕ) (r : Result Opened FaultAt) →
      Of (GrownOpen d (pushed levels m)) n r → Of (GrownOpen d levels) n r
  open_more d levels m n (Ok r) h = (h.0 ∙ outer_push levels m, h.1)
  open_more d levels m n (Err f) h = tt

  mutual
    unfolding number_plan

    number_paid : (d : ℕ) (ty : PokeType) (x : ℕ) (levels : Levels) (s n : ℕ) → laden kind levels + d + 1 ≤ n →
        Paid kind (Of (Charged d levels)) (number_plan ty x levels s) n
    number_paid d (IntegerOf type) x levels s n le =
        let i = integer_charged kind type x s in makes_paid d levels _ n (omega arith)
    number_paid d (OffsetOf type unit) x levels s n le =
        let i = offset_charged kind type unit x s in makes_paid d levels _ n (omega arith)
    number_paid d StringOf x levels s n le = paid_end tt
    number_paid d (ArrayOf element bound) x levels s n le = paid_end tt
    number_paid d (StructOf name pinned _) x levels s n le = paid_end tt
    number_paid d (IntegralOf name type fields) x levels s n le =
        paid_framed levels (omega arith)
        (paid_ok {P = Grown (around d levels) (opened levels)} 0 _
        (λ k r up grown.
        closes_paid d levels r (StructLabel name (part_names fields)) s (s + type.width) k refl grown) (omega arith)
        (digits_paid (around d levels) fields x type.width (opened levels) s n (omega arith)))
    number_paid d (UnionOf name alternatives) x levels s n le = paid_end tt

    digits_paid : (d : ℕ) (parts : Parts) (x left : ℕ) (levels : Levels) (s n : ℕ) → laden kind levels + d ≤ n →
        Paid kind (Of (Grown d levels)) (digits_plan parts x left levels s) n
    digits_paid d NoParts x left levels s n le = paid_end (refl, le)
    digits_paid d (PartThen name set ty c rest) x left levels s n le =
        paid_tick (paid_ok {P = Charged d levels} 0 _
        (λ k v up h.
        let p = push_laden kind levels (Some v) in
        paid_weaker (grown_more d levels (Some v))
        (digits_paid d rest x (left - width_in (number_type ty)) (pushed levels (Some v)) s k (omega arith)))
        (omega arith)
        (paid_ok {P = Charged d levels} 0 _ (λ k v up h. constrained_paid d c levels s v k h) (omega arith)
        (paid_tick (number_paid d ty (first_digits x left (width_in (number_type ty))) levels s (n + 1 + 1)
        (omega arith)))))

  read_paid : (d m : ℕ) (ty : PokeType) (type : IntegerType) (order : Order) (levels : Levels) (s n : ℕ) →
      laden kind levels + d ≤ n → Paid kind (Of (Charged d levels)) (read_plan m ty type order levels s) n
  unfolding read_plan
  read_paid d m ty type order levels s n le = paid_tick (one_of (nat_le (s + type.width) m)
      (paid_read (λ x. number_paid d ty x levels s (n + 1) (omega arith))) (paid_end tt))

  text_paid : (d m more : ℕ) (bytes : List ℕ) (levels : Levels) (s place n : ℕ) →
      laden kind levels + d + 1 + length bytes ≤ n →
      Paid kind (Of (Charged d levels)) (text_plan m more bytes levels s place) n
  unfolding text_plan after_byte
  text_paid d m zero bytes levels s place n le = paid_end tt
  text_paid d m (suc more) bytes levels s place n le = paid_tick (one_of (nat_le (place + 8) m)
      (paid_read (λ x. read (λ longer k up. text_paid d m more longer levels s (place + 8) k up) x)) (paid_end tt))
    where
      read : ((later : List ℕ) (k : ℕ) → laden kind levels + d + 1 + length later ≤ k →
          Paid kind (Of (Charged d levels)) (text_plan m more later levels s (place + 8)) k) → (x : ℕ) →
          Paid kind (Of (Charged d levels))
          (after_byte (λ later. text_plan m more later levels s (place + 8)) bytes levels s (place + 8) x) (n + 1)
      read next zero =
          let t = text_charged kind bytes s (place + 8) in makes_paid d levels _ (n + 1) (omega arith)
      read next (suc x) =
          let l = longer bytes (suc x) in
          let t = text_charged kind (bytes ++ suc x ∷ []) s (s + 8 * (length (bytes ++ suc x ∷ []) + 1)) in
          paid_made (omega arith) (next (bytes ++ suc x ∷ []) (n + 1) (omega arith))

  -- an element that is packed after it was mapped
  element_paid : (d : ℕ) (row : Row) (levels : Levels) {p : Plan (Result Value FaultAt)} {n : ℕ} →
      Paid kind (Of (Charged d levels)) p n →
      Paid kind (Of (Charged d levels)) (then_packed row levels (in_row row p)) n
  element_paid d Apart levels h = h
  element_paid d (Numbers width) levels h = as_paid (Numbers width) h
  element_paid d (Records widths) levels h = as_paid (Records widths) h
  element_paid d (Values stride) levels h = paid_ok {P = Charged d levels} 0 _
      (λ k v up c. paid_made (let p = push_slots kind levels (Some v) in omega arith) (paid_end c)) (omega arith) h

  after_paid : (d : ℕ) (extent : Extent) (next : Levels → ℕ → Plan (Result Opened FaultAt)) (levels : Levels) →
      ((l : Levels) (at k : ℕ) → laden kind l + d ≤ k → Paid kind (Of (GrownOpen d l)) (next l at) k) →
      (at n : ℕ) (r : Result Value FaultAt) → laden kind levels + d ≤ n → Of (Charged d levels) n r →
      Paid kind (Of (GrownOpen d levels)) (after_element extent next levels at r) n
  unfolding after_element
  after_paid d extent next levels g at n (Ok v) le h =
      let p = push_laden kind levels (Some v) in
      one_of (nat_eq (end_of v) at) (paid_end tt)
      (paid_weaker (open_more d levels (Some v)) (g (pushed levels (Some v)) (end_of v) n (omega arith)))
  after_paid d extent next levels g at n (Err f) le h =
      one_of (ends_before extent f.0) (paid_end (refl, le)) (paid_end tt)

  elements_paid : (d m s : ℕ) (extent : Extent) (element : Levels → ℕ → Plan (Result Value FaultAt)) →
      ((l : Levels) (at k : ℕ) → laden kind l + d ≤ k → Paid kind (Of (Charged d l)) (element l at) k) →
      (more i : ℕ) (levels : Levels) (at n : ℕ) → laden kind levels + d ≤ n →
      Paid kind (Of (GrownOpen d levels)) (elements_plan element m s extent more i levels at) n
  unfolding elements_plan
  elements_paid d m s extent element g zero i levels at n le = paid_end tt
  elements_paid d m s extent element g (suc more) i levels at n le =
      one_of (is_due extent m s i at)
      (paid_tick (paid_then {P = Of (Charged d levels)} (laden kind levels + d) _
      (λ k r up h. after_paid d extent (elements_plan element m s extent more (i + 1)) levels
      (elements_paid d m s extent element g more (i + 1)) at k r up h) (omega arith)
      (g levels at (n + 1) (omega arith))))
      (one_of (is_met extent s at) (paid_end (refl, le)) (paid_end tt))

  attempt_paid : (d : ℕ) (levels : Levels) (next : Plan (Result Taken FaultAt)) (index : ℕ) (name : Naming) (n : ℕ) →
      Paid kind (Of (TakenCharged d levels)) next n → (r : Result Value FaultAt) → laden kind levels + d ≤ n →
      Of (Charged d levels) n r →
      Paid kind (Of (TakenCharged d levels)) (after_attempt levels next index name r) n
  unfolding after_attempt
  attempt_paid d levels next index name n g (Ok v) le h = paid_end h
  attempt_paid d levels next index name n g (Err f) le h =
      one_of (misses f.0) (paid_made (omega arith) g) (paid_end tt)

  mutual
    unfolding plan

    pub plan_paid : (d m : ℕ) (ty : PokeType) (order : Order) (levels : Levels) (s n : ℕ) → laden kind levels + d ≤ n →
        Paid kind (Of (Charged d levels)) (plan m ty order levels s) n
    plan_paid d m (IntegerOf type) order levels s n le =
        inside_paid m s (read_paid d m (IntegerOf type) type order levels s n le)
    plan_paid d m (OffsetOf type unit) order levels s n le =
        inside_paid m s (read_paid d m (OffsetOf type unit) type order levels s n le)
    plan_paid d m StringOf order levels s n le = inside_paid m s (paid_tick (paid_framed levels (omega arith)
        (text_paid d m (m / 8 + 1) [] levels s s (n + 1) (omega arith))))
    plan_paid d m (ArrayOf element bound) order levels s n le =
        inside_paid m s (paid_tick (paid_told _ (extent_of bound levels s) _ (n + 1) (n + 1) (omega arith)
        (λ k extent up.
        paid_framed levels (omega arith)
        (paid_ok {P = GrownOpen (around d levels) (opened levels)} 0 _
        (λ j r more grown. closes_paid d levels r.0 ArrayLabel s r.1 j refl grown) (omega arith)
        (elements_paid (around d levels) m s extent (element_plan element (plan m element order))
        (λ l at j under. element_paid (around d levels) (row_of element) l
        (plan_paid (around d levels) m element order l at j under))
        (count_of m (least_width element)) 0 (opened levels) s k (omega arith))))))
    plan_paid d m (StructOf name pinned fields) order levels s n le =
        inside_paid m s (paid_tick (paid_framed levels (omega arith)
        (paid_ok {P = GrownOpen (around d levels) (opened levels)} 0 _
        (λ k r up grown. closes_paid d levels r.0 (StructLabel name (field_names fields)) s r.1 k refl grown)
        (omega arith)
        (fields_paid (around d levels) m pinned s fields order (opened levels) s s (n + 1) (omega arith)))))
    plan_paid d m (IntegralOf name type fields) order levels s n le =
        inside_paid m s (read_paid d m (IntegralOf name type fields) type order levels s n le)
    plan_paid d m (UnionOf name alternatives) order levels s n le =
        inside_paid m s (paid_tick (paid_framed levels (omega arith)
        (paid_ok {P = TakenCharged (around d levels) (opened levels)} 0 _
        (λ k t up h.
        let u = union_charged kind name s t in makes_paid d levels (union_value name s t) k (omega arith)) (omega arith)
        (alternatives_paid (around d levels) m alternatives 0 order (opened levels) s (n + 1) (omega arith)))))

    fields_paid : (d m : ℕ) (pinned : Bool) (s : ℕ) (fields : Fields) (order : Order) (levels : Levels)
        (behind top n : ℕ) → laden kind levels + d ≤ n →
        Paid kind (Of (GrownOpen d levels)) (fields_plan m pinned s fields order levels behind top) n
    fields_paid d m pinned s NoFields order levels behind top n le = paid_end (refl, le)
    fields_paid d m pinned s (FieldThen name set ty c label when rest) order levels behind top n le =
        paid_tick (paid_told _ (condition when levels s) _ (n + 1) (n + 1) (omega arith)
        (λ k there up.
        one_of there
        (paid_told _ (field_start pinned label levels s behind) _ k k (omega arith)
        (λ j p more.
        paid_ok {P = Charged d levels} 0 _
        (λ i v over h.
        let push = push_laden kind levels (Some v) in
        paid_weaker (open_more d levels (Some v))
        (fields_paid d m pinned s rest order (pushed levels (Some v)) (end_of v) (max top (end_of v)) i (omega arith)))
        (omega arith)
        (paid_ok {P = Charged d levels} 0 _ (λ i v over h. constrained_paid d c levels p v i h) (omega arith)
        (plan_paid d m ty (ordered set order) levels p j (omega arith)))))
        (let few = absent_charged kind in
        let push = push_laden kind levels None in
        paid_made (omega arith)
        (paid_weaker (open_more d levels None)
        (fields_paid d m pinned s rest order (pushed levels None) behind top k (omega arith))))))

    alternatives_paid : (d m : ℕ) (parts : Parts) (index : ℕ) (order : Order) (levels : Levels) (s n : ℕ) →
        laden kind levels + d ≤ n →
        Paid kind (Of (TakenCharged d levels)) (alternatives_plan m parts index order levels s) n
    alternatives_paid d m NoParts index order levels s n le = paid_end tt
    alternatives_paid d m (PartThen name set ty c rest) index order levels s n le =
        paid_tick (paid_then {P = Of (Charged d levels)} (laden kind levels + d) _
        (λ k r up h. attempt_paid d levels _ index name k
        (alternatives_paid d m rest (index + 1) order levels s k up) r up h) (omega arith)
        (paid_ok {P = Charged d levels} 0 _ (λ k v up h. constrained_paid d c levels s v k h) (omega arith)
        (plan_paid d m ty (ordered set order) levels s (n + 1) (omega arith))))
