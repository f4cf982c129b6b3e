-- While a type is mapped, at most `room` slots are filled above what was filled before, whatever is read.
use Rattle.std.proofs.Common.{◌≡◌, ℕ, zero, suc, ◌+◌, ◌-◌, ◌*◌, ◌/◌, ◌≤◌, max, length, Bool, true, false, List, [], ◌∷◌, ◌++◌, Option, Some, None, Result, Ok, Err, refl, ap, ◌∙◌, arith}
use Rattle.std.specs.Prelude.{if◌then◌else◌, nat_le, nat_eq}
use Rattle.bit_space.specs.declared.order.Order.{Order}
use Rattle.pickle_types.specs.declared.integer.IntegerType.{IntegerType}
use Rattle.pickle_types.specs.Types.{Term, PokeType, IntegerOf, OffsetOf, StringOf, ArrayOf, StructOf, IntegralOf, UnionOf, Fields, NoFields, FieldThen, Parts, NoParts, PartThen}
use Rattle.pickle_types.specs.Bounds.{least_width, count_of, room, fields_room, parts_room, greatest_room}
use Rattle.pickle_meaning.specs.declared.extent.Extent.{Extent}
use Rattle.pickle_meaning.specs.Values.{Naming, Label, ArrayLabel, StructLabel, UnionLabel, Value, Mapped, member_count, end_of, text_value, Levels, pushed, opened, top_of, outer_of, gathered}
use Rattle.pickle_meaning.specs.Clauses.{FaultAt, condition, field_start, extent_of, is_due, is_met, ends_before, misses}
use Rattle.pickle_meaning.specs.Means.{Opened, Taken, number_type, width_in, first_digits, ordered, field_names, part_names, integer_value, offset_value, value_of, union_value}
use Rattle.pickle_meaning.specs.Room.{Slot, NodeSlot, LinkSlot, PendingSlot, ByteSlot, text_length, members_slots, member_slots, level_slots, slots}
use Rattle.value_store.specs.Moves.{Move}
use Rattle.mapping_plans.specs.Plan.{Plan, Always, result, after_tick, after_made, after_read}
use Rattle.mapping_plans.specs.Mapping.{makes, closes, constrained, number_plan, digits_plan, read_plan, after_byte, text_plan, after_element, element_plan, elements_plan, after_attempt, plan, fields_plan, alternatives_plan}
use Rattle.mapping_plans.proofs.Always.{OfValue, weaker, then_always, ok_always, framed_always, told_always, inside_always}
use Rattle.mapping_plans.proofs.Fitting.{longer}
use Rattle.mapping_plans.specs.Rows.{row_of}
use Rattle.mapping_plans.proofs.InRow.{element_always}

-- the link that a member takes once its frame is closed
abbrev charge : Slot → ℕ
charge NodeSlot = 0
charge LinkSlot = 1
charge PendingSlot = 0
charge ByteSlot = 0

abbrev level_links : Slot → List (Option Value) → ℕ
level_links kind [] = 0
level_links kind (m ∷ rest) = charge kind + level_links kind rest

-- the filled slots, and the links that the innermost frame will take
abbrev laden : Slot → Levels → ℕ
laden kind r = slots kind r + level_links kind (top_of r)

level_push : (kind : Slot) (level : List (Option Value)) (m : Option Value) →
    level_slots kind (level ++ m ∷ []) ≡ level_slots kind level + member_slots kind m
level_push kind [] m = omega arith
level_push kind (n ∷ rest) m = let h = level_push kind rest m in omega arith

links_push : (kind : Slot) (level : List (Option Value)) (m : Option Value) →
    level_links kind (level ++ m ∷ []) ≡ level_links kind level + charge kind
links_push kind [] m = omega arith
links_push kind (n ∷ rest) m = let h = links_push kind rest m in omega arith

push_slots : (kind : Slot) (levels : Levels) (m : Option Value) →
    slots kind (pushed levels m) ≡ slots kind levels + member_slots kind m
push_slots kind [] m = omega arith
push_slots kind (top ∷ outer) m = let h = level_push kind top m in omega arith

push_laden : (kind : Slot) (levels : Levels) (m : Option Value) →
    laden kind (pushed levels m) ≡ laden kind levels + (charge kind + member_slots kind m)
push_laden kind [] m = omega arith
push_laden kind (top ∷ outer) m = let h = level_push kind top m in let g = links_push kind top m in omega arith

outer_push : (levels : Levels) (m : Option Value) → outer_of (pushed levels m) ≡ outer_of levels
outer_push [] m = refl
outer_push (top ∷ outer) m = refl

gathered_slots : (kind : Slot) (level : List (Option Value)) →
    members_slots kind (gathered level) ≤ level_slots kind level
gathered_slots kind [] = omega arith
gathered_slots kind (None ∷ rest) = let h = gathered_slots kind rest in omega arith
gathered_slots kind (Some v ∷ rest) = let h = gathered_slots kind rest in omega arith

gathered_count : (level : List (Option Value)) → member_count (gathered level) ≡ level_links LinkSlot level
gathered_count [] = refl
gathered_count (None ∷ rest) = let h = gathered_count rest in omega arith
gathered_count (Some v ∷ rest) = let h = gathered_count rest in omega arith

top_slots : (kind : Slot) (r : Levels) → level_slots kind (top_of r) + slots kind (outer_of r) ≡ slots kind r
top_slots kind [] = refl
top_slots kind (top ∷ outer) = refl

-- a frame that is closed fills one more slot
closed_slots : (kind : Slot) (label : Label) (start end : ℕ) (level : List (Option Value)) → text_length label ≡ 0 →
    member_slots kind (Some (Mapped label start end (gathered level)))
    ≤ 1 + (level_slots kind level + level_links kind level)
closed_slots NodeSlot label start end level e = let h = gathered_slots NodeSlot level in omega arith
closed_slots LinkSlot label start end level e =
    let h = gathered_slots LinkSlot level in let g = gathered_count level in omega arith
closed_slots PendingSlot label start end level e = let h = gathered_slots PendingSlot level in omega arith
closed_slots ByteSlot label start end level e = let h = gathered_slots ByteSlot level in omega arith

integer_slots : (kind : Slot) (type : IntegerType) (n s : ℕ) → member_slots kind (Some (integer_value type n s)) ≤ 1
integer_slots NodeSlot type n s = omega arith
integer_slots LinkSlot type n s = omega arith
integer_slots PendingSlot type n s = omega arith
integer_slots ByteSlot type n s = omega arith

offset_slots : (kind : Slot) (type : IntegerType) (unit n s : ℕ) →
    member_slots kind (Some (offset_value type unit n s)) ≤ 1
offset_slots NodeSlot type unit n s = omega arith
offset_slots LinkSlot type unit n s = omega arith
offset_slots PendingSlot type unit n s = omega arith
offset_slots ByteSlot type unit n s = omega arith

text_slots : (kind : Slot) (bytes : List ℕ) (s end : ℕ) →
    member_slots kind (Some (text_value bytes s end)) ≤ 1 + length bytes
text_slots NodeSlot bytes s end = omega arith
text_slots LinkSlot bytes s end = omega arith
text_slots PendingSlot bytes s end = omega arith
text_slots ByteSlot bytes s end = omega arith

-- an absent member fills less than a slot for itself and one for its link
absent_slots : (kind : Slot) → charge kind + member_slots kind None ≤ 1
absent_slots NodeSlot = omega arith
absent_slots LinkSlot = omega arith
absent_slots PendingSlot = omega arith
absent_slots ByteSlot = omega arith

one_charge : (kind : Slot) → charge kind ≤ 1
one_charge NodeSlot = omega arith
one_charge LinkSlot = omega arith
one_charge PendingSlot = omega arith
one_charge ByteSlot = omega arith

union_slots : (kind : Slot) (name : Naming) (s : ℕ) (t : Taken) →
    member_slots kind (Some (union_value name s t)) ≤ 1 + (charge kind + member_slots kind (Some t.value))
union_slots kind name s t =
    let h = closed_slots kind (UnionLabel name t.index t.name) s (end_of t.value) (Some t.value ∷ []) refl in
    omega arith

module _ (kind : Slot) (b : ℕ) where
  -- at most b slots are filled
  abbrev UpTo : Levels → Type 0
  UpTo levels = slots kind levels ≤ b

-- a member of at most n slots
abbrev Light : Slot → ℕ → Value → Type 0
Light kind n v = member_slots kind (Some v) ≤ n

-- a frame that grew by at most n slots, with the links that it will take
abbrev Grown : Slot → Levels → ℕ → Levels → Type 0
Grown kind levels n r = (outer_of r ≡ outer_of levels) × (laden kind r ≤ laden kind levels + n)

makes_room : {move : Move} (kind : Slot) (b n : ℕ) (levels : Levels) (v : Value) → Light kind n v →
    slots kind levels + n ≤ b → Always (UpTo kind b) (OfValue (Light kind n)) (makes move levels v)
makes_room kind b n levels v light le =
    after_made (let p = push_slots kind levels (Some v) in omega arith) (result light)

-- a frame is closed
closes_room : {move : Move} (kind : Slot) (b n : ℕ) (label : Label) (start end : ℕ) (levels r : Levels) →
    text_length label ≡ 0 → Grown kind (opened levels) n r → slots kind levels + (1 + n) ≤ b →
    Always (UpTo kind b) (OfValue (Light kind (1 + n))) (closes move (value_of label start end) r)
closes_room kind b n label start end levels r e grown le =
    let c = closed_slots kind label start end (top_of r) e in
    let t = top_slots kind r in
    let o : slots kind (outer_of r) ≡ slots kind levels = ap (slots kind) grown.0 in
    let g = grown.1 in
    makes_room kind b (1 + n) (outer_of r) (value_of label start end r) (omega arith) (omega arith)

constrained_room : (kind : Slot) (b n : ℕ) (c : Option Term) (levels : Levels) (at : ℕ) (v : Value) → Light kind n v →
    Always (UpTo kind b) (OfValue (Light kind n)) (constrained c levels at v)
unfolding constrained
constrained_room kind b n c levels at v light = told_always {Q = Light kind n} _ _ _ (λ u e. result light)

grown_more : (kind : Slot) (levels mid : Levels) (c n : ℕ) → Grown kind levels c mid → (t : Result Levels FaultAt) →
    OfValue (Grown kind mid n) t → OfValue (Grown kind levels (c + n)) t
grown_more kind levels mid c n g (Ok u) h = (h.0 ∙ g.0, let l = g.1 in let k = h.1 in omega arith)
grown_more kind levels mid c n g (Err f) h = tt

member_grown : (kind : Slot) (levels : Levels) (n : ℕ) (m : Option Value) → charge kind + member_slots kind m ≤ n →
    Grown kind levels n (pushed levels m)
member_grown kind levels n m le = (outer_push levels m, let p = push_laden kind levels m in omega arith)

slots_laden : (kind : Slot) (r : Levels) → slots kind r ≤ laden kind r
slots_laden kind r = omega arith

mutual
  unfolding number_plan room

  number_room : (kind : Slot) (b m : ℕ) (ty : PokeType) (n : ℕ) (levels : Levels) (s : ℕ) →
      slots kind levels + room ty m ≤ b →
      Always (UpTo kind b) (OfValue (Light kind (room ty m))) (number_plan ty n levels s)
  number_room kind b m (IntegerOf type) n levels s le = makes_room kind b 1 levels _ (integer_slots kind type n s) le
  number_room kind b m (OffsetOf type unit) n levels s le =
      makes_room kind b 1 levels _ (offset_slots kind type unit n s) le
  number_room kind b m StringOf n levels s le = result tt
  number_room kind b m (ArrayOf element bound) n levels s le = result tt
  number_room kind b m (StructOf name pinned _) n levels s le = result tt
  number_room kind b m (IntegralOf name type fields) n levels s le =
      framed_always levels (omega arith) (omega arith)
      (ok_always {P = Grown kind (opened levels) (parts_room fields m)} {Q = Light kind (1 + parts_room fields m)} _
      (λ r grown. closes_room kind b (parts_room fields m) (StructLabel name (part_names fields)) s
      (s + type.width) levels r refl grown le)
      (digits_room kind b m fields n type.width (opened levels) s (omega arith)))
  number_room kind b m (UnionOf name alternatives) n levels s le = result tt

  digits_room : (kind : Slot) (b m : ℕ) (parts : Parts) (n left : ℕ) (levels : Levels) (s : ℕ) →
      laden kind levels + parts_room parts m ≤ b →
      Always (UpTo kind b) (OfValue (Grown kind levels (parts_room parts m))) (digits_plan parts n left levels s)
  digits_room kind b m NoParts n left levels s le = result (refl, omega arith)
  digits_room kind b m (PartThen name set ty c rest) n left levels s le =
      after_tick (ok_always {P = Light kind (room ty m)} {Q = Grown kind levels ((1 + room ty m) + parts_room rest m)} _
      (λ v light.
      let one = one_charge kind in
      let g = member_grown kind levels (1 + room ty m) (Some v) (omega arith) in
      let up = g.1 in
      weaker (grown_more kind levels (pushed levels (Some v)) (1 + room ty m) (parts_room rest m) g)
      (digits_room kind b m rest n (left - width_in (number_type ty)) (pushed levels (Some v)) s (omega arith)))
      (ok_always {P = Light kind (room ty m)} {Q = Light kind (room ty m)} _
      (λ v light. constrained_room kind b (room ty m) c levels s v light)
      (after_tick (number_room kind b m ty (first_digits n left (width_in (number_type ty))) levels s (omega arith)))))

one_up : {A : Type 0} {M : Levels → Type 0} {Q : A → Type 0} {p q : Plan A} (t : Bool) → Always M Q p → Always M Q q →
    Always M Q (if t then p else q)
one_up true h g = h
one_up false h g = g

read_room : (kind : Slot) (b m : ℕ) (ty : PokeType) (type : IntegerType) (order : Order) (levels : Levels) (s : ℕ) →
    slots kind levels + room ty m ≤ b →
    Always (UpTo kind b) (OfValue (Light kind (room ty m))) (read_plan m ty type order levels s)
unfolding read_plan
read_room kind b m ty type order levels s le = after_tick
    (one_up (nat_le (s + type.width) m) (after_read (λ n lt. number_room kind b m ty n levels s le)) (result tt))

-- a text of at most as many bytes as there are, and as are tried
text_room : (kind : Slot) (b q m n : ℕ) (bytes : List ℕ) (levels : Levels) (s place : ℕ) → length bytes + n ≤ q →
    slots kind levels + (1 + q) ≤ b →
    Always (UpTo kind b) (OfValue (Light kind (1 + q))) (text_plan m n bytes levels s place)
unfolding text_plan after_byte
text_room kind b q m zero bytes levels s place few le = result tt
text_room kind b q m (suc n) bytes levels s place few le = after_tick (one_up (nat_le (place + 8) m)
    (after_read (λ x lt. read (λ more. text_room kind b q m n more levels s (place + 8)) x)) (result tt))
  where
    read : ((more : List ℕ) → length more + n ≤ q → slots kind levels + (1 + q) ≤ b →
        Always (UpTo kind b) (OfValue (Light kind (1 + q))) (text_plan m n more levels s (place + 8))) →
        (x : ℕ) →
        Always (UpTo kind b) (OfValue (Light kind (1 + q)))
        (after_byte (λ more. text_plan m n more levels s (place + 8)) bytes levels s (place + 8) x)
    read next zero = let t = text_slots kind bytes s (place + 8) in makes_room kind b (1 + q) levels _ (omega arith) le
    read next (suc x) =
        let l = longer bytes (suc x) in
        let t = text_slots kind (bytes ++ suc x ∷ []) s (s + 8 * (length (bytes ++ suc x ∷ []) + 1)) in
        after_made (omega arith) (next (bytes ++ suc x ∷ []) (omega arith) le)

-- the open part of an array or struct
abbrev GrownOpen : Slot → Levels → ℕ → Opened → Type 0
GrownOpen kind levels n r = Grown kind levels n r.0

open_more : (kind : Slot) (levels mid : Levels) (c n : ℕ) → Grown kind levels c mid → (t : Result Opened FaultAt) →
    OfValue (GrownOpen kind mid n) t → OfValue (GrownOpen kind levels (c + n)) t
open_more kind levels mid c n g (Ok u) h = (h.0 ∙ g.0, let l = g.1 in let k = h.1 in omega arith)
open_more kind levels mid c n g (Err f) h = tt

after_room : (kind : Slot) (b n c : ℕ) (extent : Extent) (next : Levels → ℕ → Plan (Result Opened FaultAt))
    (levels : Levels) →
    ((l : Levels) (at : ℕ) → laden kind l + n ≤ b → Always (UpTo kind b) (OfValue (GrownOpen kind l n)) (next l at)) →
    laden kind levels + ((1 + c) + n) ≤ b → (at : ℕ) (r : Result Value FaultAt) → OfValue (Light kind c) r →
    Always (UpTo kind b) (OfValue (GrownOpen kind levels ((1 + c) + n))) (after_element extent next levels at r)
unfolding after_element
after_room kind b n c extent next levels g le at (Ok v) light =
    let one = one_charge kind in
    let grown = member_grown kind levels (1 + c) (Some v) (omega arith) in
    let up = grown.1 in
    one_up (nat_eq (end_of v) at) (result tt) (weaker (open_more kind levels (pushed levels (Some v)) (1 + c) n grown)
    (g (pushed levels (Some v)) (end_of v) (omega arith)))
after_room kind b n c extent next levels g le at (Err f) light =
    one_up (ends_before extent f.0) (result (refl, omega arith)) (result tt)

elements_room : (kind : Slot) (b c m s : ℕ) (extent : Extent) (element : Levels → ℕ → Plan (Result Value FaultAt)) →
    ((l : Levels) (at : ℕ) → slots kind l + c ≤ b → Always (UpTo kind b) (OfValue (Light kind c)) (element l at)) →
    (n i : ℕ) (levels : Levels) (at : ℕ) → laden kind levels + n * (1 + c) ≤ b →
    Always (UpTo kind b)
    (OfValue (GrownOpen kind levels (n * (1 + c)))) (elements_plan element m s extent n i levels at)
unfolding elements_plan
elements_room kind b c m s extent element g zero i levels at le = result tt
elements_room kind b c m s extent element g (suc n) i levels at le =
    one_up (is_due extent m s i at)
    (after_tick
    (weaker less (then_always _ (after_room kind b (n * (1 + c)) c extent (elements_plan element m s extent n (i + 1))
    levels (elements_room kind b c m s extent element g n (i + 1)) (omega arith) at) (g levels at (omega arith)))))
    (one_up (is_met extent s at) (result (refl, omega arith)) (result tt))
  where
    less : (t : Result Opened FaultAt) → OfValue (GrownOpen kind levels ((1 + c) + n * (1 + c))) t →
        OfValue (GrownOpen kind levels (suc n * (1 + c))) t
    less (Ok u) h = (h.0, let l = h.1 in omega arith)
    less (Err f) h = tt

-- the alternative that matched, with its link
abbrev TakenLight : Slot → ℕ → Taken → Type 0
TakenLight kind n t = charge kind + member_slots kind (Some t.value) ≤ n

attempt_room : (kind : Slot) (b n c : ℕ) (levels : Levels) → slots kind levels ≤ b →
    (next : Plan (Result Taken FaultAt)) → Always (UpTo kind b) (OfValue (TakenLight kind n)) next → 1 + c ≤ n →
    (index : ℕ) (name : Naming) (r : Result Value FaultAt) → OfValue (Light kind c) r →
    Always (UpTo kind b) (OfValue (TakenLight kind n)) (after_attempt levels next index name r)
unfolding after_attempt
attempt_room kind b n c levels left next g le index name (Ok v) light =
    let one = one_charge kind in result (omega arith)
attempt_room kind b n c levels left next g le index name (Err f) light =
    one_up (misses f.0) (after_made left g) (result tt)

light_more : (kind : Slot) (n k : ℕ) → n ≤ k → (r : Result Value FaultAt) → OfValue (Light kind n) r →
    OfValue (Light kind k) r
light_more kind n k le (Ok v) h = omega arith
light_more kind n k le (Err f) h = tt

taken_more : (kind : Slot) (n k : ℕ) → n ≤ k → (r : Result Taken FaultAt) → OfValue (TakenLight kind n) r →
    OfValue (TakenLight kind k) r
taken_more kind n k le (Ok t) h = omega arith
taken_more kind n k le (Err f) h = tt

mutual
  unfolding plan room

  pub plan_room : (kind : Slot) (b m : ℕ) (ty : PokeType) (order : Order) (levels : Levels) (s : ℕ) →
      slots kind levels + room ty m ≤ b →
      Always (UpTo kind b) (OfValue (Light kind (room ty m))) (plan m ty order levels s)
  plan_room kind b m (IntegerOf type) order levels s le =
      inside_always m s (λ inside. read_room kind b m (IntegerOf type) type order levels s le)
  plan_room kind b m (OffsetOf type unit) order levels s le =
      inside_always m s (λ inside. read_room kind b m (OffsetOf type unit) type order levels s le)
  plan_room kind b m StringOf order levels s le =
      inside_always m s (λ inside. after_tick
      (framed_always levels (omega arith) (omega arith) (weaker (light_more kind (1 + (m / 8 + 1)) _ (omega arith))
      (text_room kind b (m / 8 + 1) m (m / 8 + 1) [] levels s s (omega arith) (omega arith)))))
  plan_room kind b m (ArrayOf element bound) order levels s le =
      inside_always m s (λ inside. after_tick (told_always
      {Q = Light kind (1 + count_of m (least_width element) * (1 + room element m))} _ (extent_of bound levels s) _
      (λ extent is. framed_always levels (omega arith) (omega arith)
      (ok_always {P = GrownOpen kind (opened levels) (count_of m (least_width element) * (1 + room element m))}
      {Q = Light kind (1 + count_of m (least_width element) * (1 + room element m))} _
      (λ r grown. closes_room kind b (count_of m (least_width element) * (1 + room element m)) ArrayLabel s r.1
      levels r.0 refl grown le)
      (elements_room kind b (room element m) m s extent (element_plan element (plan m element order))
      (λ l p up. element_always (row_of element) l
      (λ v light. let more = push_slots kind l (Some v) in omega arith) (plan_room kind b m element order l p up))
      (count_of m (least_width element)) 0 (opened levels) s (omega arith))))))
  plan_room kind b m (StructOf name pinned fields) order levels s le =
      inside_always m s (λ inside. after_tick (framed_always levels (omega arith) (omega arith) (ok_always
      {P = GrownOpen kind (opened levels) (fields_room fields m)} {Q = Light kind (1 + fields_room fields m)} _
      (λ r grown.
      closes_room kind b (fields_room fields m) (StructLabel name (field_names fields)) s r.1 levels r.0 refl grown le)
      (fields_up kind b m pinned s fields order (opened levels) s s (omega arith)))))
  plan_room kind b m (IntegralOf name type fields) order levels s le =
      inside_always m s (λ inside. read_room kind b m (IntegralOf name type fields) type order levels s le)
  plan_room kind b m (UnionOf name alternatives) order levels s le =
      inside_always m s (λ inside. after_tick (framed_always levels (omega arith) (omega arith) (ok_always
      {P = TakenLight kind (greatest_room alternatives m)} {Q = Light kind (1 + greatest_room alternatives m)} _
      (λ t light.
      let u = union_slots kind name s t in
      makes_room kind b (1 + greatest_room alternatives m) levels (union_value name s t) (omega arith) le)
      (alternatives_up kind b m alternatives 0 order (opened levels) s (omega arith)))))

  fields_up : (kind : Slot) (b m : ℕ) (pinned : Bool) (s : ℕ) (fields : Fields) (order : Order) (levels : Levels)
      (behind top : ℕ) → laden kind levels + fields_room fields m ≤ b →
      Always (UpTo kind b) (OfValue (GrownOpen kind levels (fields_room fields m)))
      (fields_plan m pinned s fields order levels behind top)
  fields_up kind b m pinned s NoFields order levels behind top le = result (refl, omega arith)
  fields_up kind b m pinned s (FieldThen name set ty c label when rest) order levels behind top le =
      after_tick
      (told_always {Q = GrownOpen kind levels ((1 + room ty m) + fields_room rest m)} _ (condition when levels s) _
      (λ there is. one_up there
      (told_always {Q = GrownOpen kind levels ((1 + room ty m) + fields_room rest m)} _
      (field_start pinned label levels s behind) _
      (λ p at.
      ok_always {P = Light kind (room ty m)} {Q = GrownOpen kind levels ((1 + room ty m) + fields_room rest m)} _
      (λ v light.
      let one = one_charge kind in
      let g = member_grown kind levels (1 + room ty m) (Some v) (omega arith) in
      let up = g.1 in
      weaker (open_more kind levels (pushed levels (Some v)) (1 + room ty m) (fields_room rest m) g)
      (fields_up kind b m pinned s rest order (pushed levels (Some v)) (end_of v) (max top (end_of v)) (omega arith)))
      (ok_always {P = Light kind (room ty m)} {Q = Light kind (room ty m)} _
      (λ v light. constrained_room kind b (room ty m) c levels p v light)
      (plan_room kind b m ty (ordered set order) levels p (omega arith)))))
      (let few = absent_slots kind in
      let g = member_grown kind levels (1 + room ty m) None (omega arith) in
      let up = g.1 in
      after_made (omega arith)
      (weaker (open_more kind levels (pushed levels None) (1 + room ty m) (fields_room rest m) g)
      (fields_up kind b m pinned s rest order (pushed levels None) behind top (omega arith))))))

  alternatives_up : (kind : Slot) (b m : ℕ) (parts : Parts) (index : ℕ) (order : Order) (levels : Levels) (s : ℕ) →
      slots kind levels + greatest_room parts m ≤ b →
      Always (UpTo kind b) (OfValue (TakenLight kind (greatest_room parts m)))
      (alternatives_plan m parts index order levels s)
  alternatives_up kind b m NoParts index order levels s le = result tt
  alternatives_up kind b m (PartThen name set ty c rest) index order levels s le =
      after_tick (then_always _
      (attempt_room kind b (max (1 + room ty m) (greatest_room rest m)) (room ty m) levels (omega arith) _
      (weaker (taken_more kind (greatest_room rest m) _ (omega arith))
      (alternatives_up kind b m rest (index + 1) order levels s (omega arith))) (omega arith) index name)
      (ok_always {P = Light kind (room ty m)} {Q = Light kind (room ty m)} _
      (λ v light. constrained_room kind b (room ty m) c levels s v light)
      (plan_room kind b m ty (ordered set order) levels s (omega arith))))

pub room_enough : (m : ℕ) (ty : PokeType) (order : Order) (levels : Levels) (s : ℕ) (kind : Slot) →
    Always (λ kept. slots kind kept ≤ slots kind levels + room ty m) (λ r. Unit {0}) (plan m ty order levels s)
room_enough m ty order levels s kind =
    weaker (λ r h. tt) (plan_room kind (slots kind levels + room ty m) m ty order levels s (omega arith))
