-- What a type means on a file's bits is the result of its plan.
use Rattle.std.proofs.Common.{◌≡◌, ℕ, zero, suc, ◌+◌, ◌*◌, ◌/◌, ◌<◌, ◌≤◌, max, Bool, true, false, List, [], ◌∷◌, ◌++◌, length, Option, Some, None, Result, Ok, Err, refl, sym, ap, ◌∙◌, subst, arith}
use Rattle.std.proofs.lemmas.Bool.{le-leb, lt-leb, eq-eqb, ne_eqb}
use Rattle.std.proofs.lemmas.List.{append_assoc, append-nil}
use Rattle.bit_space.specs.declared.order.Order.{Order}
use Rattle.bit_space.specs.declared.order.Order.TheVariants.{Big}
use Rattle.pickle_types.specs.declared.integer.IntegerType.{IntegerType}
use Rattle.pickle_types.specs.Types.{Term, PokeType, IntegerOf, OffsetOf, StringOf, ArrayOf, StructOf, IntegralOf, UnionOf, Fields, Parts}
use Rattle.pickle_types.specs.Bounds.{least_width, count_of, is_some}
use Rattle.pickle_meaning.specs.declared.extent.Extent.{Extent}
use Rattle.pickle_meaning.specs.declared.faults.MapFaultKind.TheVariants as fault
use Rattle.pickle_meaning.specs.Numbers.{number_at}
use Rattle.pickle_meaning.specs.Values.{Naming, Value, end_of, text_value, Levels, pushed, opened}
use Rattle.pickle_meaning.specs.Clauses.{FaultAt, constraint, clause_steps, label_steps, bound_steps, is_due, is_met, ends_before, misses}
use Rattle.pickle_meaning.specs.Means.{Means, past_end, number_read, number_end, string, string_end, array, bound_fault, struct, struct_fault, union, union_fault, NumberMeans, integer, offset, integral, integral_fault, no_number, DigitsMean, no_digits, next_digits, digits_refused, digits_fault, number_type, Run, no_bytes, next_byte, Elements, no_more, next_element, Closing, none_due, beyond_size, no_bits, ends_without, element_fault, PartMeans, part, part_refused, part_fault, FieldsMean, all_fields, absent, field, condition_fault, label_fault, field_fault, AlternativesMean, none_left, fits, misses_it, other_fault, Opened, Taken}
use Rattle.mapping_plans.specs.Plan.{Plan, Ended, Tick, on_value, then_ok}
use Rattle.mapping_plans.specs.Mapping.{from_inside, constrained, number_plan, digits_plan, read_plan, after_byte, text_plan, after_element, element_plan, elements_plan, array_closes, after_attempt, plan, fields_plan, alternatives_plan}
use Rattle.mapping_plans.proofs.Basics.{clash, same_type, fewer, enough}
use Rattle.mapping_plans.proofs.Comes.{Comes, comes_ended, comes_tick, comes_made, comes_read, comes_as, comes_after, comes_then, comes_ok, comes_err, comes_on, comes_framed, comes_inside, comes_past}
use Rattle.mapping_plans.proofs.Widths.{means_inside, elements_inside, means_wide}
use Rattle.mapping_plans.specs.Rows.{row_of}
use Rattle.mapping_plans.proofs.InRow.{element_comes}

any_past : (bits : List ℕ) (ty : PokeType) (order : Order) (levels : Levels) (s : ℕ) → length bits < s →
    Comes bits (plan (length bits) ty order levels s) (Err (fault.End, s)) 0 0
unfolding plan
any_past bits (IntegerOf type) order levels s lt = comes_past _ s _ lt
any_past bits (OffsetOf type unit) order levels s lt = comes_past _ s _ lt
any_past bits StringOf order levels s lt = comes_past _ s _ lt
any_past bits (ArrayOf element bound) order levels s lt = comes_past _ s _ lt
any_past bits (StructOf name pinned _) order levels s lt = comes_past _ s _ lt
any_past bits (IntegralOf name type fields) order levels s lt = comes_past _ s _ lt
any_past bits (UnionOf name alternatives) order levels s lt = comes_past _ s _ lt

constrained_ok : {bits : List ℕ} (c : Option Term) (levels : Levels) (s : ℕ) (v : Value) →
    constraint c (pushed levels (Some v)) s ≡ Ok tt →
    Comes bits (constrained c levels s v) (Ok v) (clause_steps c (pushed levels (Some v))) 0
unfolding constrained
constrained_ok c levels s v e =
    comes_as (omega arith) refl (comes_ok _ _ (comes_after (clause_steps c (pushed levels (Some v))) e) comes_ended)

constrained_err : {bits : List ℕ} (c : Option Term) (levels : Levels) (s : ℕ) (v : Value) {f : FaultAt} →
    constraint c (pushed levels (Some v)) s ≡ Err f →
    Comes bits (constrained c levels s v) (Err f) (clause_steps c (pushed levels (Some v))) 0
unfolding constrained
constrained_err c levels s v e = comes_err _ _ (comes_after (clause_steps c (pushed levels (Some v))) e)

no_number_plan : (ty : PokeType) (n : ℕ) (levels : Levels) (s : ℕ) → number_type ty ≡ None →
    number_plan ty n levels s ≡ Ended (Err (fault.Absent, s))
unfolding number_plan
no_number_plan (IntegerOf type) n levels s e = clash (ap is_some e)
no_number_plan (OffsetOf type unit) n levels s e = clash (ap is_some e)
no_number_plan StringOf n levels s e = refl
no_number_plan (ArrayOf element bound) n levels s e = refl
no_number_plan (StructOf name pinned _) n levels s e = refl
no_number_plan (IntegralOf name type fields) n levels s e = clash (ap is_some e)
no_number_plan (UnionOf name alternatives) n levels s e = refl

mutual
  unfolding number_plan

  number_comes : {bits : List ℕ} {ty : PokeType} {n : ℕ} {levels : Levels} {s : ℕ} {r : Result Value FaultAt}
      {k j : ℕ} → NumberMeans ty n levels s r k j → Comes bits (Tick (number_plan ty n levels s)) r k j
  number_comes integer = comes_tick (comes_made {j = 0} comes_ended)
  number_comes offset = comes_tick (comes_made {j = 0} comes_ended)
  number_comes (integral {levels} fs) = comes_as (omega arith) refl
      (comes_tick (comes_framed levels _ (comes_ok _ _ (digits_come fs) (comes_made {j = 0} comes_ended))))
  number_comes (integral_fault {levels} fs) = comes_tick (comes_framed levels _ (comes_err _ _ (digits_come fs)))
  number_comes {bits} (no_number {ty} {n} {levels} {s} e) = rw (no_number_plan ty n levels s e) (comes_tick comes_ended)

  digits_come : {bits : List ℕ} {parts : Parts} {n left : ℕ} {levels : Levels} {s : ℕ} {r : Result Levels FaultAt}
      {k j : ℕ} → DigitsMean parts n left levels s r k j → Comes bits (digits_plan parts n left levels s) r k j
  digits_come no_digits = comes_ended
  digits_come (next_digits {c} {levels} {s} {v} m e fs) = comes_as (omega arith) (omega arith)
      (comes_tick (comes_ok _ _ (comes_ok _ _ (number_comes m) (constrained_ok c levels s v e)) (digits_come fs)))
  digits_come (digits_refused {c} {levels} {s} {v} m e) = comes_as (omega arith) (omega arith)
      (comes_tick (comes_err _ _ (comes_ok _ _ (number_comes m) (constrained_err c levels s v e))))
  digits_come (digits_fault m) = comes_tick (comes_err _ _ (comes_err _ _ (number_comes m)))

-- a type that is read as one number is planned as one
read_planned : (m : ℕ) (ty : PokeType) {type : IntegerType} (order : Order) (levels : Levels) (s : ℕ) →
    number_type ty ≡ Some type → from_inside m s (read_plan m ty type order levels s) ≡ plan m ty order levels s
unfolding plan
read_planned m (IntegerOf t) order levels s e =
    ap (λ u. from_inside m s (read_plan m (IntegerOf t) u order levels s)) (sym (same_type e))
read_planned m (OffsetOf t unit) order levels s e =
    ap (λ u. from_inside m s (read_plan m (OffsetOf t unit) u order levels s)) (sym (same_type e))
read_planned m StringOf order levels s e = clash (sym (ap is_some e))
read_planned m (ArrayOf element bound) order levels s e = clash (sym (ap is_some e))
read_planned m (StructOf name pinned _) order levels s e = clash (sym (ap is_some e))
read_planned m (IntegralOf name t fields) order levels s e =
    ap (λ u. from_inside m s (read_plan m (IntegralOf name t fields) u order levels s)) (sym (same_type e))
read_planned m (UnionOf name alternatives) order levels s e = clash (sym (ap is_some e))

read_comes : {bits : List ℕ} (ty : PokeType) (type : IntegerType) (order : Order) (levels : Levels) (s : ℕ)
    {r : Result Value FaultAt} {k j : ℕ} →
    s + type.width ≤ length bits → NumberMeans ty (number_at bits order s type.width) levels s r k j →
    Comes bits (read_plan (length bits) ty type order levels s) r k j
unfolding read_plan
read_comes {bits} ty type order levels s le m =
    let h = number_comes {bits = bits} m in
    rw (le-leb (s + type.width) (length bits) le) (record { result = h.result; steps = h.steps; made = h.made })

read_past : {bits : List ℕ} (ty : PokeType) (type : IntegerType) (order : Order) (levels : Levels) (s : ℕ) →
    length bits < s + type.width → Comes bits (read_plan (length bits) ty type order levels s) (Err (fault.End, s)) 1 0
unfolding read_plan
read_past {bits} ty type order levels s lt = rw (lt-leb (s + type.width) (length bits) lt) (comes_tick comes_ended)

-- the result of a plan of elements with enough left to try, whatever is left beyond that
record EndsWith (bits : List ℕ) (ty : PokeType) (order : Order) (s : ℕ) (extent : Extent) (i : ℕ) (inside : Levels)
    (p : ℕ) (r : Result Opened FaultAt) (k j : ℕ) : Type 0 where
  with_left : (n : ℕ) → length bits < p + n * max 1 (least_width ty) →
      Comes bits
      (elements_plan (element_plan ty (plan (length bits) ty order)) (length bits) s extent n i inside p) r k j

ends_as : {bits : List ℕ} {ty : PokeType} {order : Order} {s : ℕ} {extent : Extent} {i : ℕ} {inside : Levels} {p : ℕ}
    {r : Result Opened FaultAt} {k j k' j' : ℕ} → k ≡ k' → j ≡ j' → EndsWith bits ty order s extent i inside p r k j →
    EndsWith bits ty order s extent i inside p r k' j'
ends_as ek ej h = record { with_left = λ n le. comes_as ek ej (h.with_left n le) }

-- an element that is due, and what follows
due_comes : {bits : List ℕ} {ty : PokeType} {order : Order} {s : ℕ} {extent : Extent} {i : ℕ} {levels : Levels} {p : ℕ}
    {a : Result Value FaultAt} {r : Result Opened FaultAt} {k j k' j' : ℕ} → is_due extent (length bits) s i p ≡ true →
    p ≤ length bits → Comes bits (plan (length bits) ty order levels p) a k j →
    ((d : ℕ) → length bits < p + suc d * max 1 (least_width ty) → Comes bits (after_element extent
    (elements_plan (element_plan ty (plan (length bits) ty order)) (length bits) s extent d (i + 1)) levels p a)
    r k' j') →
    EndsWith bits ty order s extent i levels p r (1 + k + k') (j + j')
unfolding elements_plan
due_comes {bits} {ty} {order} {s} {extent} {i} {levels} {p} {a} {r} {k} {j} {k'} {j'} due inside h g =
    record { with_left = tries }
  where
    tries : (n : ℕ) → length bits < p + n * max 1 (least_width ty) →
        Comes bits (elements_plan (element_plan ty (plan (length bits) ty order)) (length bits) s extent n i levels p) r
        (1 + k + k') (j + j')
    tries zero le = absurd (omega arith)
    tries (suc d) le =
        rw due (comes_as (omega arith) refl (comes_tick (comes_then _ _ (element_comes (row_of ty) levels h) (g d le))))

done_comes : {bits : List ℕ} {ty : PokeType} {order : Order} {s : ℕ} {extent : Extent} {i : ℕ} {levels : Levels}
    {p : ℕ} → is_due extent (length bits) s i p ≡ false → is_met extent s p ≡ true → p ≤ length bits →
    EndsWith bits ty order s extent i levels p (Ok (levels, p)) 0 0
unfolding elements_plan
done_comes {bits} {ty} {order} {s} {extent} {i} {levels} {p} over met inside = record { with_left = tries }
  where
    tries : (n : ℕ) → length bits < p + n * max 1 (least_width ty) →
        Comes bits (elements_plan (element_plan ty (plan (length bits) ty order)) (length bits) s extent n i levels p)
        (Ok (levels, p)) 0 0
    tries zero e = absurd (omega arith)
    tries (suc d) e = rw (over, met) comes_ended

beyond_comes : {bits : List ℕ} {ty : PokeType} {order : Order} {s : ℕ} {extent : Extent} {i : ℕ} {levels : Levels}
    {p : ℕ} → is_due extent (length bits) s i p ≡ false → is_met extent s p ≡ false → p ≤ length bits →
    EndsWith bits ty order s extent i levels p (Err (fault.Bounds, s)) 0 0
unfolding elements_plan
beyond_comes {bits} {ty} {order} {s} {extent} {i} {levels} {p} over met inside = record { with_left = tries }
  where
    tries : (n : ℕ) → length bits < p + n * max 1 (least_width ty) →
        Comes bits (elements_plan (element_plan ty (plan (length bits) ty order)) (length bits) s extent n i levels p)
        (Err (fault.Bounds, s)) 0 0
    tries zero e = absurd (omega arith)
    tries (suc d) e = rw (over, met) comes_ended

module _ {bits : List ℕ} (extent : Extent) (next : Levels → ℕ → Plan (Result Opened FaultAt))
    (levels : Levels) (p : ℕ) where
  after_value : (v : Value) {r : Result Opened FaultAt} {k j : ℕ} → p < end_of v →
      Comes bits (next (pushed levels (Some v)) (end_of v)) r k j →
      Comes bits (after_element extent next levels p (Ok v)) r k j
  unfolding after_element
  after_value v lt h = rw (ne_eqb (end_of v) p (λ e. omega arith)) h

  after_no_bits : (v : Value) → end_of v ≡ p →
      Comes bits (after_element extent next levels p (Ok v)) (Err (fault.NoBits, p)) 0 0
  unfolding after_element
  after_no_bits v e = rw (eq-eqb (end_of v) p e) comes_ended

  after_end : (f : FaultAt) → ends_before extent f.0 ≡ true →
      Comes bits (after_element extent next levels p (Err f)) (Ok (levels, p)) 0 0
  unfolding after_element
  after_end f e = rw e comes_ended

  after_fault : (f : FaultAt) → ends_before extent f.0 ≡ false →
      Comes bits (after_element extent next levels p (Err f)) (Err f) 0 0
  unfolding after_element
  after_fault f e = rw e comes_ended

attempt_misses : {bits : List ℕ} (levels : Levels) (rest : Plan (Result Taken FaultAt)) (index : ℕ) (name : Naming)
    (f : FaultAt) {r : Result Taken FaultAt} {k j : ℕ} →
    misses f.0 ≡ true → Comes bits rest r k j → Comes bits (after_attempt levels rest index name (Err f)) r k j
unfolding after_attempt
attempt_misses levels rest index name f e h = rw e (comes_as refl (omega arith) (comes_made h))

attempt_fault : {bits : List ℕ} (levels : Levels) (rest : Plan (Result Taken FaultAt)) (index : ℕ) (name : Naming)
    (f : FaultAt) → misses f.0 ≡ false → Comes bits (after_attempt levels rest index name (Err f)) (Err f) 0 0
unfolding after_attempt
attempt_fault levels rest index name f e = rw e comes_ended

attempt_fits : {bits : List ℕ} (levels : Levels) (rest : Plan (Result Taken FaultAt)) (index : ℕ) (name : Naming)
    (v : Value) →
    Comes bits (after_attempt levels rest index name (Ok v)) (Ok (record { index = index; name = name; value = v })) 0 0
unfolding after_attempt
attempt_fits levels rest index name v = comes_ended

-- the result of an array's elements after its last cut point, and of the array
record Closes (bits : List ℕ) (ty : PokeType) (order : Order) (s : ℕ) (extent : Extent) (i : ℕ) (inside : Levels)
    (pn : ℕ) (r : Result Value FaultAt) (k j : ℕ) : Type 0 where
  ended : Result Opened FaultAt
  made_in : ℕ
  made_on : ℕ
  ends : EndsWith bits ty order s extent i inside pn ended k made_in
  closing : Comes bits (on_value (array_closes ty s) ended) r 0 made_on
  sum : j ≡ made_in + made_on

-- the result of the bytes of a text from here on, with enough left to try
record TextWith (bits bytes : List ℕ) (levels : Levels) (s p : ℕ) (r : Result Value FaultAt) (k j : ℕ) : Type 0 where
  with_left : (n : ℕ) → length bits < p + n * 8 → Comes bits (text_plan (length bits) n bytes levels s p) r k j

text_end : {bits : List ℕ} (bytes : List ℕ) (levels : Levels) (s q : ℕ) → q ≤ length bits → length bits < q + 8 →
    TextWith bits bytes levels s q (Err (fault.End, s)) 1 0
unfolding text_plan
text_end {bits} bytes levels s q le lt = record { with_left = tries }
  where
    tries : (n : ℕ) → length bits < q + n * 8 →
        Comes bits (text_plan (length bits) n bytes levels s q) (Err (fault.End, s)) 1 0
    tries zero left = absurd (omega arith)
    tries (suc n) left = rw (lt-leb (q + 8) (length bits) lt) (comes_tick comes_ended)

text_closes : {bits : List ℕ} (bytes : List ℕ) (levels : Levels) (s q : ℕ) → q + 8 ≤ length bits →
    number_at bits Big q 8 ≡ 0 → TextWith bits bytes levels s q (Ok (text_value bytes s (q + 8))) 1 1
unfolding text_plan after_byte
text_closes {bits} bytes levels s q le e = record { with_left = tries }
  where
    tries : (n : ℕ) → length bits < q + n * 8 →
        Comes bits (text_plan (length bits) n bytes levels s q) (Ok (text_value bytes s (q + 8))) 1 1
    tries zero left = absurd (omega arith)
    tries (suc n) left =
        rw (le-leb (q + 8) (length bits) le) (comes_tick {k = 0} (comes_read (rw e (comes_made {j = 0} comes_ended))))

run_comes : {bits : List ℕ} {p q : ℕ} {bytes : List ℕ} → Run bits p bytes q →
    (so_far : List ℕ) (levels : Levels) (s : ℕ) {r : Result Value FaultAt} {k j : ℕ} →
    TextWith bits (so_far ++ bytes) levels s q r k j →
    TextWith bits so_far levels s p r (length bytes + k) (length bytes + j)
unfolding text_plan after_byte
run_comes no_bytes so_far levels s h =
    let h = rw (append-nil so_far) at h in
    record { with_left = λ n le. comes_as (omega arith) (omega arith) (h.with_left n le) }
run_comes {bits} (next_byte {p} {q} {b} {bytes} le e run) so_far levels s {r} {k} {j} h = record {
  with_left = tries (run_comes run (so_far ++ suc b ∷ []) levels s (rw (append_assoc so_far (suc b ∷ []) bytes) h));
}
  where
    tries : TextWith bits (so_far ++ suc b ∷ []) levels s (p + 8) r (length bytes + k) (length bytes + j) → (n : ℕ) →
        length bits < p + n * 8 →
        Comes bits (text_plan (length bits) n so_far levels s p) r
        (length (suc b ∷ bytes) + k) (length (suc b ∷ bytes) + j)
    tries rest zero left = absurd (omega arith)
    tries rest (suc n) left =
        rw (le-leb (p + 8) (length bits) le) (comes_as (omega arith) (omega arith) (comes_tick {k = length bytes + k}
        (comes_read {j = 1 + (length bytes + j)} (rw e (comes_made (rest.with_left n (omega arith)))))))

-- after a run in the file there is no bit past its end
run_inside : {bits : List ℕ} {p q : ℕ} {bytes : List ℕ} → Run bits p bytes q → p ≤ length bits → q ≤ length bits
run_inside no_bytes le = le
run_inside (next_byte le e run) h = run_inside run le

mutual
  unfolding plan

  pub means_comes : {bits : List ℕ} {ty : PokeType} {order : Order} {levels : Levels} {s : ℕ} {r : Result Value FaultAt}
      {k j : ℕ} → Means bits ty order levels s r k j → Comes bits (plan (length bits) ty order levels s) r k j
  means_comes {bits} (past_end {ty} {order} {levels} {s} lt) = any_past bits ty order levels s lt
  means_comes {bits} (number_read {ty} {type} {order} {levels} {s} {k} {j} {r} le e inside m) =
      subst (λ p. Comes bits p r k j) (read_planned (length bits) ty order levels s e)
      (comes_inside _ _ _ le (read_comes ty type order levels s inside m))
  means_comes {bits} (number_end {ty} {type} {order} {levels} {s} le e lt) =
      subst (λ p. Comes bits p (Err (fault.End, s)) 1 0) (read_planned (length bits) ty order levels s e)
      (comes_inside _ _ _ le (read_past ty type order levels s lt))
  means_comes {bits} (string {levels} {s} {q} {bytes} le run inside e) =
      let all = run_comes run [] levels s (text_closes bytes levels s q inside e) in
      comes_inside _ _ _ le (comes_as (omega arith) refl (comes_tick
      (comes_framed levels _ (all.with_left (length bits / 8 + 1) (enough (length bits) s 8 (omega arith))))))
  means_comes {bits} (string_end {levels} {s} {q} {bytes} le run lt) =
      let all = run_comes run [] levels s (text_end bytes levels s q (run_inside run le) lt) in
      comes_inside _ _ _ le (comes_as (omega arith) (omega arith) (comes_tick
      (comes_framed levels _ (all.with_left (length bits / 8 + 1) (enough (length bits) s 8 (omega arith))))))
  means_comes {bits} (array {ty} {bound} {order} {extent} {levels} {s} le b es c) =
      let up = elements_inside es le in
      let e = closing_comes up c in
      let all = elements_come le es e.ends in
      let sum = e.sum in
      let rest = comes_on (elements_plan (element_plan ty (plan (length bits) ty order)) (length bits) s extent
      (count_of (length bits) (least_width ty)) 0 (opened levels) s)
      (array_closes ty s) (all.with_left (count_of (length bits) (least_width ty))
      (enough (length bits) s (max 1 (least_width ty)) (omega arith))) e.closing in
      comes_inside _ _ _ le (comes_as (omega arith) (omega arith)
      (comes_tick (comes_ok _ _ (comes_after (bound_steps bound levels) b) (comes_framed levels _ rest))))
  means_comes (bound_fault {bound} {levels} le b) =
      comes_inside _ _ _ le (comes_tick (comes_err _ _ (comes_after (bound_steps bound levels) b)))
  means_comes (struct {levels} le fs) = comes_inside _ _ _ le (comes_as (omega arith) refl
      (comes_tick (comes_framed levels _ (comes_ok _ _ (fields_come fs) (comes_made {j = 0} comes_ended)))))
  means_comes (struct_fault {levels} le fs) =
      comes_inside _ _ _ le (comes_tick (comes_framed levels _ (comes_err _ _ (fields_come fs))))
  means_comes (union {levels} le fs) = comes_inside _ _ _ le (comes_as (omega arith) refl
      (comes_tick (comes_framed levels _ (comes_ok _ _ (alternatives_come fs) (comes_made {j = 0} comes_ended)))))
  means_comes (union_fault {levels} le fs) =
      comes_inside _ _ _ le (comes_tick (comes_framed levels _ (comes_err _ _ (alternatives_come fs))))

  elements_come : {bits : List ℕ} {ty : PokeType} {order : Order} {s : ℕ} {extent : Extent} {i n : ℕ}
      {levels inside : Levels} {p pn k j k' j' : ℕ} {r : Result Opened FaultAt} → p ≤ length bits →
      Elements bits ty order s extent i levels p n inside pn k j → EndsWith bits ty order s extent n inside pn r k' j' →
      EndsWith bits ty order s extent i levels p r (k + k') (j + j')
  elements_come le no_more h = ends_as (omega arith) (omega arith) h
  elements_come {bits} le (next_element {ty} {order} {extent} {levels} {s} {i} {p} {v} due m gt es) h =
      let rest = elements_come (means_inside m) es h in
      let wide : p + least_width ty ≤ end_of v = means_wide m in
      ends_as (omega arith) (omega arith) (due_comes due le (means_comes m) (λ d left. after_value extent
      (elements_plan (element_plan ty (plan (length bits) ty order)) (length bits) s extent d (i + 1)) levels p v gt
      (rest.with_left d (fewer (length bits) p (end_of v) d (max 1 (least_width ty)) left (omega arith)))))

  closing_comes : {bits : List ℕ} {ty : PokeType} {order : Order} {s : ℕ} {extent : Extent} {n : ℕ} {inside : Levels}
      {pn k j : ℕ} {r : Result Value FaultAt} → pn ≤ length bits → Closing bits ty order s extent n inside pn r k j →
      Closes bits ty order s extent n inside pn r k j
  closing_comes le (none_due over met) = record {
    ended = _;
    made_in = _;
    made_on = _;
    ends = done_comes over met le;
    closing = comes_made {j = 0} comes_ended;
    sum = refl;
  }
  closing_comes le (beyond_size over met) =
      record { ended = _; made_in = _; made_on = _; ends = beyond_comes over met le; closing = comes_ended; sum = refl }
  closing_comes le (no_bits {extent} {inside} {pn} {v} due m e) = record {
    ended = _;
    made_in = _;
    made_on = _;
    ends =
        ends_as (omega arith) refl (due_comes due le (means_comes m) (λ d left. after_no_bits extent _ inside pn v e));
    closing = comes_ended;
    sum = omega arith;
  }
  closing_comes le (ends_without {extent} {inside} {pn} {f} due m e) = record {
    ended = _;
    made_in = _;
    made_on = _;
    ends = ends_as (omega arith) refl (due_comes due le (means_comes m) (λ d left. after_end extent _ inside pn f e));
    closing = comes_made {j = 0} comes_ended;
    sum = omega arith;
  }
  closing_comes le (element_fault {extent} {inside} {pn} {f} due m e) = record {
    ended = _;
    made_in = _;
    made_on = _;
    ends = ends_as (omega arith) refl (due_comes due le (means_comes m) (λ d left. after_fault extent _ inside pn f e));
    closing = comes_ended;
    sum = omega arith;
  }

  part_comes : {bits : List ℕ} {ty : PokeType} {c : Option Term} {order : Order} {levels : Levels} {s k j : ℕ}
      {r : Result Value FaultAt} → PartMeans bits ty c order levels s r k j →
      Comes bits (then_ok (plan (length bits) ty order levels s) (constrained c levels s)) r k j
  part_comes (part {c} {levels} {s} {v} m h) =
      comes_as refl (omega arith) (comes_ok _ _ (means_comes m) (constrained_ok c levels s v h))
  part_comes (part_refused {c} {levels} {s} {v} m h) =
      comes_as refl (omega arith) (comes_ok _ _ (means_comes m) (constrained_err c levels s v h))
  part_comes (part_fault m) = comes_err _ _ (means_comes m)

  fields_come : {bits : List ℕ} {pinned : Bool} {s : ℕ} {fields : Fields} {order : Order} {levels : Levels}
      {behind top k j : ℕ} {r : Result Opened FaultAt} → FieldsMean bits pinned s fields order levels behind top r k j →
      Comes bits (fields_plan (length bits) pinned s fields order levels behind top) r k j
  fields_come all_fields = comes_ended
  fields_come (absent {when} {levels} c fs) = comes_as (omega arith) (omega arith)
      (comes_tick (comes_ok _ _ (comes_after (clause_steps when levels) c) (comes_made (fields_come fs))))
  fields_come (field {pinned} {label} {when} {levels} c st m fs) =
      comes_as (omega arith) (omega arith) (comes_tick (comes_ok _ _ (comes_after (clause_steps when levels) c)
      (comes_ok _ _ (comes_after (label_steps pinned label levels) st) (comes_ok _ _ (part_comes m) (fields_come fs)))))
  fields_come (condition_fault {when} {levels} c) =
      comes_tick (comes_err _ _ (comes_after (clause_steps when levels) c))
  fields_come (label_fault {pinned} {label} {when} {levels} c st) = comes_as (omega arith) refl (comes_tick (comes_ok _
      _ (comes_after (clause_steps when levels) c) (comes_err _ _ (comes_after (label_steps pinned label levels) st))))
  fields_come (field_fault {pinned} {label} {when} {levels} c st m) =
      comes_as (omega arith) (omega arith) (comes_tick (comes_ok _ _ (comes_after (clause_steps when levels) c)
      (comes_ok _ _ (comes_after (label_steps pinned label levels) st) (comes_err _ _ (part_comes m)))))

  alternatives_come : {bits : List ℕ} {parts : Parts} {index : ℕ} {order : Order} {levels : Levels} {s k j : ℕ}
      {r : Result Taken FaultAt} → AlternativesMean bits parts index order levels s r k j →
      Comes bits (alternatives_plan (length bits) parts index order levels s) r k j
  alternatives_come none_left = comes_ended
  alternatives_come (fits {name} {index} {levels} {v} m) = comes_as (omega arith) (omega arith)
      (comes_tick (comes_then _ _ (part_comes m) (attempt_fits levels _ index name v)))
  alternatives_come (misses_it {name} {index} {levels} {f} m e fs) = comes_as (omega arith) refl
      (comes_tick (comes_then _ _ (part_comes m) (attempt_misses levels _ index name f e (alternatives_come fs))))
  alternatives_come (other_fault {name} {index} {levels} {f} m e) = comes_as (omega arith) (omega arith)
      (comes_tick (comes_then _ _ (part_comes m) (attempt_fault levels _ index name f e)))

-- exactly one outcome, number of steps and number of values made
pub means_one : {bits : List ℕ} {ty : PokeType} {order : Order} {levels : Levels} {s : ℕ} {r r' : Result Value FaultAt}
    {k k' j j' : ℕ} →
    Means bits ty order levels s r k j → Means bits ty order levels s r' k' j' → (r ≡ r') × (k ≡ k') × (j ≡ j')
means_one m n =
    let h = means_comes m in
    let g = means_comes n in
    (sym h.result ∙ g.result, sym h.steps ∙ g.steps, sym h.made ∙ g.made)
