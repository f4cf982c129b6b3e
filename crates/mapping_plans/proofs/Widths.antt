-- A value ends in the file, and its size is at least its type's least width.
use Rattle.std.proofs.Common.{◌≡◌, ℕ, ◌+◌, ◌≤◌, max, length, Bool, true, false, List, Option, Some, None, Result, Ok, Err, refl, sym, ap, subst, arith}
use Rattle.std.specs.Prelude.{◌||◌, if◌then◌else◌, ℤ, pos, negsuc}
use Rattle.bit_space.specs.declared.order.Order.{Order}
use Rattle.pickle_tree.specs.declared.tree.ByteOrder.{ByteOrder}
use Rattle.pickle_types.specs.declared.integer.IntegerType.{IntegerType}
use Rattle.pickle_types.specs.Types.{Term, PokeType, IntegerOf, OffsetOf, StringOf, ArrayOf, StructOf, IntegralOf, UnionOf, Fields, Parts, NoParts, PartThen}
use Rattle.pickle_types.specs.Bounds.{least_width, sum_of_widths, greatest_width, least_of_widths, has_label, where_present, is_some}
use Rattle.pickle_meaning.specs.declared.extent.Extent.{Extent}
use Rattle.pickle_meaning.specs.declared.faults.MapFaultKind.{MapFaultKind}
use Rattle.pickle_meaning.specs.Values.{Naming, Label, IntegerLabel, OffsetLabel, TextLabel, ArrayLabel, StructLabel, UnionLabel, Value, end_of, Levels}
use Rattle.pickle_meaning.specs.Arithmetic.{bits_in}
use Rattle.pickle_meaning.specs.Evaluation.{Operand, operand_label, evaluation}
use Rattle.pickle_meaning.specs.Clauses.{FaultAt, told_at, not_negative, behind_start, condition, field_start}
use Rattle.pickle_meaning.specs.Means.{Means, past_end, number_read, number_end, string, string_end, array, bound_fault, struct, struct_fault, union, union_fault, NumberMeans, integer, offset, integral, integral_fault, no_number, number_type, width_in, Run, no_bytes, next_byte, Elements, no_more, next_element, Closing, none_due, beyond_size, no_bits, ends_without, element_fault, PartMeans, part, part_refused, part_fault, FieldsMean, all_fields, absent, field, condition_fault, label_fault, field_fault, AlternativesMean, none_left, fits, misses_it, other_fault, Opened, Taken}
use Rattle.mapping_plans.proofs.Basics.{clash}

-- a value ends in the file
abbrev pub EndsInside : {A : Type 0} → (A → ℕ) → ℕ → Result A FaultAt → Type 0
EndsInside at m (Ok a) = at a ≤ m
EndsInside at m (Err f) = Unit {0}

-- a value ends no earlier than at a place
abbrev pub EndsFrom : {A : Type 0} → (A → ℕ) → ℕ → Result A FaultAt → Type 0
EndsFrom at p (Ok a) = p ≤ at a
EndsFrom at p (Err f) = Unit {0}

abbrev pub opened_end : Opened → ℕ
opened_end r = r.1

abbrev pub taken_end : Taken → ℕ
taken_end t = end_of t.value

-- the value of a number has just its width
abbrev pub EndsAt : ℕ → Option IntegerType → Result Value FaultAt → Type 0
EndsAt s (Some type) (Ok v) = end_of v ≡ s + type.width
EndsAt s (Some type) (Err f) = Unit {0}
EndsAt s None (Ok v) = ⊥
EndsAt s None (Err f) = Unit {0}

pub number_ends : {ty : PokeType} {n s k j : ℕ} {levels : Levels} {r : Result Value FaultAt} →
    NumberMeans ty n levels s r k j → EndsAt s (number_type ty) r
number_ends integer = refl
number_ends offset = refl
number_ends (integral fs) = refl
number_ends (integral_fault fs) = tt
number_ends {s} (no_number {ty} {levels} e) = rw e tt

mutual
  pub means_inside : {bits : List ℕ} {ty : PokeType} {order : Order} {levels : Levels} {s : ℕ}
      {r : Result Value FaultAt} {k j : ℕ} → Means bits ty order levels s r k j → EndsInside end_of (length bits) r
  means_inside (past_end lt) = tt
  means_inside {bits} (number_read {ty} {type} {s} {r} le e inside h) =
      number_inside r (subst (λ x. EndsAt s x r) e (number_ends h)) inside
    where
      number_inside : (r : Result Value FaultAt) → EndsAt s (Some type) r → s + type.width ≤ length bits →
          EndsInside end_of (length bits) r
      number_inside (Ok v) e inside = omega arith
      number_inside (Err f) e inside = tt
  means_inside (number_end le e lt) = tt
  means_inside (string le run inside e) = inside
  means_inside (string_end le run lt) = tt
  means_inside (array le b es c) = closing_inside (elements_inside es le) c
  means_inside (bound_fault le b) = tt
  means_inside (struct le fs) = fields_inside le fs
  means_inside (struct_fault le fs) = tt
  means_inside (union le fs) = alternatives_inside fs
  means_inside (union_fault le fs) = tt

  pub elements_inside : {bits : List ℕ} {ty : PokeType} {order : Order} {s : ℕ} {extent : Extent} {i n : ℕ}
      {levels inside : Levels} {p pn k j : ℕ} →
      Elements bits ty order s extent i levels p n inside pn k j → p ≤ length bits → pn ≤ length bits
  elements_inside no_more le = le
  elements_inside (next_element due m lt es) le = elements_inside es (means_inside m)

  closing_inside : {bits : List ℕ} {ty : PokeType} {order : Order} {s : ℕ} {extent : Extent} {n : ℕ} {inside : Levels}
      {pn k j : ℕ} {r : Result Value FaultAt} →
      pn ≤ length bits → Closing bits ty order s extent n inside pn r k j → EndsInside end_of (length bits) r
  closing_inside le (none_due over met) = le
  closing_inside le (beyond_size over met) = tt
  closing_inside le (no_bits due m e) = tt
  closing_inside le (ends_without due m e) = le
  closing_inside le (element_fault due m e) = tt

  part_inside : {bits : List ℕ} {ty : PokeType} {c : Option Term} {order : Order} {levels : Levels} {s k j : ℕ}
      {r : Result Value FaultAt} → PartMeans bits ty c order levels s r k j → EndsInside end_of (length bits) r
  part_inside (part m h) = means_inside m
  part_inside (part_refused m h) = tt
  part_inside (part_fault m) = tt

  fields_inside : {bits : List ℕ} {pinned : Bool} {s : ℕ} {fields : Fields} {order : Order} {levels : Levels}
      {behind top k j : ℕ} {r : Result Opened FaultAt} → top ≤ length bits →
      FieldsMean bits pinned s fields order levels behind top r k j → EndsInside opened_end (length bits) r
  fields_inside le all_fields = le
  fields_inside le (absent c fs) = fields_inside le fs
  fields_inside {bits} {top} le (field {v} c st m fs) =
      let h : end_of v ≤ length bits = part_inside m in fields_inside (omega arith) fs
  fields_inside le (condition_fault c) = tt
  fields_inside le (label_fault c st) = tt
  fields_inside le (field_fault c st m) = tt

  alternatives_inside : {bits : List ℕ} {parts : Parts} {index : ℕ} {order : Order} {levels : Levels} {s k j : ℕ}
      {r : Result Taken FaultAt} →
      AlternativesMean bits parts index order levels s r k j → EndsInside taken_end (length bits) r
  alternatives_inside none_left = tt
  alternatives_inside (fits m) = part_inside m
  alternatives_inside (misses_it m e fs) = alternatives_inside fs
  alternatives_inside (other_fault m e) = tt

run_further : {bits : List ℕ} {p q : ℕ} {bytes : List ℕ} → Run bits p bytes q → p ≤ q
run_further no_bytes = omega arith
run_further (next_byte le e run) = let h = run_further run in omega arith

abbrev told_or : Result Bool FaultAt → Bool
told_or (Ok b) = b
told_or (Err f) = false

abbrev number_or : Result ℕ FaultAt → ℕ
number_or (Ok n) = n
number_or (Err f) = 0

pub from_less : {A : Type 0} (at : A → ℕ) {p q : ℕ} (r : Result A FaultAt) → p ≤ q → EndsFrom at q r → EndsFrom at p r
from_less at (Ok a) le h = omega arith
from_less at (Err f) le h = tt

behind_from : (s : ℕ) (x : Label) → EndsFrom (λ p. p) s (behind_start s x)
behind_from s (OffsetLabel x type unit) = told (bits_in x unit)
  where
    told : (z : ℤ) → EndsFrom (λ p. p) s (not_negative s (λ n. s + n) z)
    told (pos n) = omega arith
    told (negsuc n) = tt
behind_from s (IntegerLabel x type) = tt
behind_from s (TextLabel bytes) = tt
behind_from s ArrayLabel = tt
behind_from s (StructLabel name fields) = tt
behind_from s (UnionLabel name index alternative) = tt

-- a field starts no earlier than its struct, where the field before it ended no earlier
pub starts_from : (pinned : Bool) (label : Option Term) (levels : Levels) (s behind : ℕ) → s ≤ behind →
    EndsFrom (λ p. p) s (field_start pinned label levels s behind)
unfolding field_start
starts_from true label levels s behind le = omega arith
starts_from false None levels s behind le = le
starts_from false (Some e) levels s behind le = told (evaluation e levels).outcome
  where
    told : (r : Result Operand MapFaultKind) → EndsFrom (λ p. p) s (told_at s (behind_start s) r)
    told (Ok x) = behind_from s (operand_label x)
    told (Err kind) = tt

-- where nothing is pinned or labelled, a field starts where the one before it ended
pub next_start : (pinned : Bool) (label : Option Term) (more : Bool) (levels : Levels) (s behind p : ℕ) →
    (pinned || (is_some label || more)) ≡ false → field_start pinned label levels s behind ≡ Ok p →
    (behind ≡ p) × ((pinned || more) ≡ false)
unfolding field_start
next_start true label more levels s behind p h e = clash h
next_start false None more levels s behind p h e = (ap number_or e, h)
next_start false (Some l) more levels s behind p h e = clash h

pub later_unlabelled : (pinned : Bool) (label : Option Term) (more : Bool) →
    (pinned || (is_some label || more)) ≡ false → (pinned || more) ≡ false
later_unlabelled true label more h = clash h
later_unlabelled false None more h = h
later_unlabelled false (Some l) more h = clash h

pub present_least : (when : Option Term) (w : ℕ) → where_present when w ≤ w
present_least None w = omega arith
present_least (Some e) w = omega arith

pub absent_width : (when : Option Term) (levels : Levels) (s w : ℕ) → condition when levels s ≡ Ok false →
    where_present when w ≡ 0
unfolding condition
absent_width None levels s w e = clash (ap told_or e)
absent_width (Some c) levels s w e = refl

module _ {bits : List ℕ} {pinned : Bool} {s : ℕ} where
  -- the greatest end never falls
  top_kept : {fields : Fields} {order : Order} {levels : Levels} {behind top k j : ℕ} {r : Result Opened FaultAt} →
      FieldsMean bits pinned s fields order levels behind top r k j → EndsFrom opened_end top r
  top_kept all_fields = omega arith
  top_kept (absent c fs) = top_kept fs
  top_kept {r} (field c st m fs) = from_less opened_end r (omega arith) (top_kept fs)
  top_kept (condition_fault c) = tt
  top_kept (label_fault c st) = tt
  top_kept (field_fault c st m) = tt

both : (s a b : ℕ) (r : Result Opened FaultAt) → EndsFrom opened_end (s + a) r → EndsFrom opened_end (s + b) r →
    EndsFrom opened_end (s + max a b) r
both s a b (Ok x) h g = omega arith
both s a b (Err f) h g = tt

pub least_first : (name : Naming) (set : Option ByteOrder) (ty : PokeType) (c : Option Term) (rest : Parts) →
    least_of_widths (PartThen name set ty c rest) ≤ least_width ty
unfolding least_width
least_first name set ty c NoParts = omega arith
least_first name set ty c (PartThen name' set' ty' c' rest) = omega arith

least_rest : {bits : List ℕ} (name : Naming) (set : Option ByteOrder) (ty : PokeType) (c : Option Term) {rest : Parts}
    {index : ℕ} {order : Order} {levels : Levels} {s k j : ℕ} {r : Result Taken FaultAt} →
    AlternativesMean bits rest index order levels s r k j → EndsFrom taken_end (s + least_of_widths rest) r →
    EndsFrom taken_end (s + least_of_widths (PartThen name set ty c rest)) r
unfolding least_width
least_rest name set ty c none_left h = tt
least_rest name set ty c {r} (fits m) h = from_less taken_end r (omega arith) h
least_rest name set ty c {r} (misses_it m e fs) h = from_less taken_end r (omega arith) h
least_rest name set ty c (other_fault m e) h = tt

number_wide : (ty : PokeType) {type : IntegerType} (s : ℕ) → number_type ty ≡ Some type → (r : Result Value FaultAt) →
    EndsAt s (Some type) r → EndsFrom end_of (s + least_width ty) r
unfolding least_width
number_wide ty s e (Err f) h = tt
number_wide (IntegerOf t) s e (Ok v) h = let w = ap width_in e in omega arith
number_wide (OffsetOf t unit) s e (Ok v) h = let w = ap width_in e in omega arith
number_wide StringOf s e (Ok v) h = clash (sym (ap is_some e))
number_wide (ArrayOf element bound) s e (Ok v) h = clash (sym (ap is_some e))
number_wide (StructOf name pinned _) s e (Ok v) h = clash (sym (ap is_some e))
number_wide (IntegralOf name t fields) s e (Ok v) h = let w = ap width_in e in omega arith
number_wide (UnionOf name alternatives) s e (Ok v) h = clash (sym (ap is_some e))

mutual
  unfolding least_width

  pub means_wide : {bits : List ℕ} {ty : PokeType} {order : Order} {levels : Levels} {s : ℕ} {r : Result Value FaultAt}
      {k j : ℕ} → Means bits ty order levels s r k j → EndsFrom end_of (s + least_width ty) r
  means_wide (past_end lt) = tt
  means_wide {r} (number_read {ty} {type} {s} le e inside h) =
      number_wide ty s e r (subst (λ x. EndsAt s x r) e (number_ends h))
  means_wide (number_end le e lt) = tt
  means_wide (string le run inside e) = let h = run_further run in omega arith
  means_wide (string_end le run lt) = tt
  means_wide (array le b es c) = closing_further (elements_further es) c
  means_wide (bound_fault le b) = tt
  means_wide (struct {pinned} {fields} {s} {end} le fs) = struct_wide (pinned || has_label fields)
      (λ h. fields_sum fs h (omega arith)) (fields_greatest fs (omega arith) (omega arith))
    where
      struct_wide : (b : Bool) → ((b ≡ false) → s + sum_of_widths fields ≤ end) → s + greatest_width fields ≤ end →
          s + (if b then greatest_width fields else sum_of_widths fields) ≤ end
      struct_wide true f g = g
      struct_wide false f g = f refl
  means_wide (struct_fault le fs) = tt
  means_wide (union le fs) = alternatives_wide fs
  means_wide (union_fault le fs) = tt

  pub elements_further : {bits : List ℕ} {ty : PokeType} {order : Order} {s : ℕ} {extent : Extent} {i n : ℕ}
      {levels inside : Levels} {p pn k j : ℕ} → Elements bits ty order s extent i levels p n inside pn k j → p ≤ pn
  elements_further no_more = omega arith
  elements_further (next_element due m lt es) = let h = elements_further es in omega arith

  closing_further : {bits : List ℕ} {ty : PokeType} {order : Order} {s : ℕ} {extent : Extent} {n : ℕ} {inside : Levels}
      {pn k j : ℕ} {r : Result Value FaultAt} →
      s ≤ pn → Closing bits ty order s extent n inside pn r k j → EndsFrom end_of (s + 0) r
  closing_further le (none_due over met) = omega arith
  closing_further le (beyond_size over met) = tt
  closing_further le (no_bits due m e) = tt
  closing_further le (ends_without due m e) = omega arith
  closing_further le (element_fault due m e) = tt

  part_wide : {bits : List ℕ} {ty : PokeType} {c : Option Term} {order : Order} {levels : Levels} {s k j : ℕ}
      {r : Result Value FaultAt} → PartMeans bits ty c order levels s r k j → EndsFrom end_of (s + least_width ty) r
  part_wide (part m h) = means_wide m
  part_wide (part_refused m h) = tt
  part_wide (part_fault m) = tt

  fields_sum : {bits : List ℕ} {pinned : Bool} {s : ℕ} {fields : Fields} {order : Order} {levels : Levels}
      {behind top k j : ℕ} {r : Result Opened FaultAt} → FieldsMean bits pinned s fields order levels behind top r k j →
      (pinned || has_label fields) ≡ false → behind ≤ top → EndsFrom opened_end (behind + sum_of_widths fields) r
  fields_sum all_fields h le = omega arith
  fields_sum {r} (absent {pinned} {ty} {label} {when} {rest} {levels} {s} c fs) h le =
      let e = absent_width when levels s (least_width ty) c in
      from_less opened_end r (omega arith) (fields_sum fs (later_unlabelled pinned label (has_label rest) h) le)
  fields_sum {behind} {r} (field {pinned} {ty} {label} {when} {rest} {levels} {s} {p} {v} c st m fs) h le =
      let e = next_start pinned label (has_label rest) levels s behind p h st in
      let at = e.0 in
      let wide : p + least_width ty ≤ end_of v = part_wide m in
      let few = present_least when (least_width ty) in
      from_less opened_end r (omega arith) (fields_sum fs e.1 (omega arith))
  fields_sum (condition_fault c) h le = tt
  fields_sum (label_fault c st) h le = tt
  fields_sum (field_fault c st m) h le = tt

  fields_greatest : {bits : List ℕ} {pinned : Bool} {s : ℕ} {fields : Fields} {order : Order} {levels : Levels}
      {behind top k j : ℕ} {r : Result Opened FaultAt} → FieldsMean bits pinned s fields order levels behind top r k j →
      s ≤ behind → s ≤ top → EndsFrom opened_end (s + greatest_width fields) r
  fields_greatest all_fields h le = omega arith
  fields_greatest {r} (absent {ty} {when} {rest} {levels} {s} c fs) h le =
      let e = absent_width when levels s (least_width ty) c in
      from_less opened_end r (omega arith) (fields_greatest fs h le)
  fields_greatest {behind} {top} {r} (field {pinned} {ty} {label} {when} {rest} {levels} {s} {p} {v} c st m fs) h le =
      let up : s ≤ p = subst (EndsFrom (λ p. p) s) st (starts_from pinned label levels s behind h) in
      let wide : p + least_width ty ≤ end_of v = part_wide m in
      let few = present_least when (least_width ty) in
      both s (where_present when (least_width ty)) (greatest_width rest) r
      (from_less opened_end r (omega arith) (top_kept fs)) (fields_greatest fs (omega arith) (omega arith))
  fields_greatest (condition_fault c) h le = tt
  fields_greatest (label_fault c st) h le = tt
  fields_greatest (field_fault c st m) h le = tt

  alternatives_wide : {bits : List ℕ} {parts : Parts} {index : ℕ} {order : Order} {levels : Levels} {s k j : ℕ}
      {r : Result Taken FaultAt} →
      AlternativesMean bits parts index order levels s r k j → EndsFrom taken_end (s + least_of_widths parts) r
  alternatives_wide none_left = tt
  alternatives_wide (fits {name} {set} {ty} {c} {rest} {s} {v} m) =
      let wide : s + least_width ty ≤ end_of v = part_wide m in
      let few = least_first name set ty c rest in
      omega arith
  alternatives_wide (misses_it {name} {set} {ty} {c} m e fs) = least_rest name set ty c fs (alternatives_wide fs)
  alternatives_wide (other_fault m e) = tt
