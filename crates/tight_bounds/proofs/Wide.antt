-- A value has at least the width of its type.
use Rattle.std.proofs.Common.{◌≡◌, ℕ, ◌+◌, ◌*◌, ◌≤◌, max, Bool, true, false, List, Option, Some, None, Result, Ok, Err, refl, sym, ap, subst, arith}
use Rattle.std.specs.Prelude.{◌||◌, if◌then◌else◌}
use Rattle.bit_space.specs.declared.order.Order.{Order}
use Rattle.pickle_tree.specs.declared.tree.ByteOrder.{ByteOrder}
use Rattle.pickle_types.specs.declared.integer.IntegerType.{IntegerType}
use Rattle.pickle_types.specs.Types.{Term, Bound, Unbounded, ByCount, BySize, PokeType, IntegerOf, OffsetOf, StringOf, ArrayOf, StructOf, IntegralOf, UnionOf, Fields, NoFields, FieldThen, Parts, NoParts, PartThen}
use Rattle.pickle_types.specs.Bounds.{has_label, where_present, is_some}
use Rattle.pickle_meaning.specs.declared.extent.Extent.{Extent}
use Rattle.pickle_meaning.specs.Values.{Naming, Value, end_of, Levels}
use Rattle.pickle_meaning.specs.Clauses.{FaultAt, extent_of}
use Rattle.pickle_meaning.specs.Means.{Means, past_end, number_read, number_end, string, string_end, array, bound_fault, struct, struct_fault, union, union_fault, number_type, width_in, Run, no_bytes, next_byte, Elements, no_more, next_element, Closing, none_due, beyond_size, no_bits, ends_without, element_fault, PartMeans, part, part_refused, part_fault, FieldsMean, all_fields, absent, field, condition_fault, label_fault, field_fault, AlternativesMean, none_left, fits, misses_it, other_fault, Opened, Taken}
use Rattle.mapping_plans.proofs.Basics.{clash}
use Rattle.mapping_plans.proofs.Widths.{EndsFrom, EndsAt, opened_end, taken_end, number_ends, from_less, starts_from, next_start, later_unlabelled, present_least, absent_width, elements_further}
use Rattle.tight_bounds.specs.Tight.{constant_count, of_constant, if_unbounded, width, sum_of_fields, greatest_field, least_part, own, fields_own, parts_own}
use Rattle.tight_bounds.proofs.Sums.{times_le}
use Rattle.tight_bounds.proofs.Extents.{none_due_from, unbounded_alone}

run_further : {bits : List ℕ} {p q : ℕ} {bytes : List ℕ} → Run bits p bytes q → p ≤ q
run_further no_bytes = omega arith
run_further (next_byte le e run) = let h = run_further run in omega arith

-- the greatest end never falls
pub top_kept : {bits : List ℕ} {pinned : Bool} {s : ℕ} {fields : Fields} {order : Order} {levels : Levels}
    {behind top k j : ℕ} {r : Result Opened FaultAt} → FieldsMean bits pinned s fields order levels behind top r k j →
    EndsFrom opened_end top r
top_kept all_fields = omega arith
top_kept (absent c fs) = top_kept fs
top_kept {r} (field c st m fs) = from_less opened_end r (omega arith) (top_kept fs)
top_kept (condition_fault c) = tt
top_kept (label_fault c st) = tt
top_kept (field_fault c st m) = tt

both : (s a b : ℕ) (r : Result Opened FaultAt) → EndsFrom opened_end (s + a) r → EndsFrom opened_end (s + b) r →
    EndsFrom opened_end (s + max a b) r
both s a b (Ok x) h g = omega arith
both s a b (Err f) h g = tt

least_first : (name : Naming) (set : Option ByteOrder) (ty : PokeType) (c : Option Term) (rest : Parts) →
    least_part (PartThen name set ty c rest) ≤ width ty
unfolding width
least_first name set ty c NoParts = omega arith
least_first name set ty c (PartThen name' set' ty' c' rest) = omega arith

least_rest : {bits : List ℕ} (name : Naming) (set : Option ByteOrder) (ty : PokeType) (c : Option Term) {rest : Parts}
    {index : ℕ} {order : Order} {levels : Levels} {s k j : ℕ} {r : Result Taken FaultAt} →
    AlternativesMean bits rest index order levels s r k j → EndsFrom taken_end (s + least_part rest) r →
    EndsFrom taken_end (s + least_part (PartThen name set ty c rest)) r
unfolding width
least_rest name set ty c none_left h = tt
least_rest name set ty c {r} (fits m) h = from_less taken_end r (omega arith) h
least_rest name set ty c {r} (misses_it m e fs) h = from_less taken_end r (omega arith) h
least_rest name set ty c (other_fault m e) h = tt

number_wide : (ty : PokeType) {type : IntegerType} (s : ℕ) → number_type ty ≡ Some type → (r : Result Value FaultAt) →
    EndsAt s (Some type) r → EndsFrom end_of (s + width ty) r
unfolding width
number_wide ty s e (Err f) h = tt
number_wide (IntegerOf t) s e (Ok v) h = let w = ap width_in e in omega arith
number_wide (OffsetOf t unit) s e (Ok v) h = let w = ap width_in e in omega arith
number_wide StringOf s e (Ok v) h = clash (sym (ap is_some e))
number_wide (ArrayOf element bound) s e (Ok v) h = clash (sym (ap is_some e))
number_wide (StructOf name pinned _) s e (Ok v) h = clash (sym (ap is_some e))
number_wide (IntegralOf name t fields) s e (Ok v) h = let w = ap width_in e in omega arith
number_wide (UnionOf name alternatives) s e (Ok v) h = clash (sym (ap is_some e))

-- the elements of a constant number, all of which are there
counted : (o : Option ℕ) (w s n pn : ℕ) → s + n * w ≤ pn → ((c : ℕ) → o ≡ Some c → c ≤ n) → s + of_constant o w ≤ pn
counted None w s n pn h few = omega arith
counted (Some c) w s n pn h few = let le = few c refl in let a = times_le w c n le in omega arith

-- an array that ends before an element has no bound
uncounted : (bound : Bound) (w s pn : ℕ) → s ≤ pn → ((x : ℕ) → if_unbounded bound x ≡ x) →
    s + of_constant (constant_count bound) w ≤ pn
uncounted Unbounded w s pn h none = omega arith
uncounted (ByCount e) w s pn h none = omega (arith, none 1)
uncounted (BySize e) w s pn h none = omega arith

mutual
  unfolding width

  pub means_wide : {bits : List ℕ} {ty : PokeType} {order : Order} {levels : Levels} {s : ℕ} {r : Result Value FaultAt}
      {k j : ℕ} → Means bits ty order levels s r k j → EndsFrom end_of (s + width ty) r
  means_wide (past_end lt) = tt
  means_wide {r} (number_read {ty} {type} {s} le e inside h) =
      number_wide ty s e r (subst (λ x. EndsAt s x r) e (number_ends h))
  means_wide (number_end le e lt) = tt
  means_wide (string le run inside e) = let h = run_further run in omega arith
  means_wide (string_end le run lt) = tt
  means_wide (array {ty} {bound} {levels} {s} le b es c) =
      let from = elements_wide es s (omega arith) in closing_wide bound levels b from (elements_further es) c
  means_wide (bound_fault le b) = tt
  means_wide (struct {pinned} {fields} {s} {end} le fs) = struct_wide (pinned || has_label fields)
      (λ h. fields_sum fs h (omega arith)) (fields_greatest fs (omega arith) (omega arith))
    where
      struct_wide : (b : Bool) → ((b ≡ false) → s + sum_of_fields fields ≤ end) → s + greatest_field fields ≤ end →
          s + (if b then greatest_field fields else sum_of_fields fields) ≤ end
      struct_wide true f g = g
      struct_wide false f g = f refl
  means_wide (struct_fault le fs) = tt
  means_wide (union le fs) = alternatives_wide fs
  means_wide (union_fault le fs) = tt

  -- i elements from t on are at least so wide
  elements_wide : {bits : List ℕ} {ty : PokeType} {order : Order} {s : ℕ} {extent : Extent} {i n : ℕ}
      {levels inside : Levels} {p pn k j : ℕ} → Elements bits ty order s extent i levels p n inside pn k j → (t : ℕ) →
      t + i * width ty ≤ p → t + n * width ty ≤ pn
  elements_wide no_more t h = h
  elements_wide (next_element {v} due m lt es) t h = let w = means_wide m in elements_wide es t (omega arith)

  closing_wide : {bits : List ℕ} {ty : PokeType} {order : Order} {s : ℕ} {extent : Extent} {n : ℕ} {inside : Levels}
      {pn k j : ℕ} {r : Result Value FaultAt} (bound : Bound) (levels : Levels) →
      extent_of bound levels s ≡ Ok extent → s + n * width ty ≤ pn → s ≤ pn →
      Closing bits ty order s extent n inside pn r k j →
      EndsFrom end_of (s + of_constant (constant_count bound) (width ty)) r
  closing_wide {s} {extent} {n} {pn} bound levels b from le (none_due {ty} over met) =
      counted (constant_count bound) (width ty) s n pn from
      (λ c is. none_due_from bound c levels s extent is b _ n pn over)
  closing_wide bound levels b from le (beyond_size over met) = tt
  closing_wide bound levels b from le (no_bits due m e) = tt
  closing_wide {s} {extent} {pn} bound levels b from le (ends_without {ty} {f} due m e) =
      uncounted bound (width ty) s pn le (λ x. unbounded_alone bound levels s extent f.0 x b e)
  closing_wide bound levels b from le (element_fault due m e) = tt

  part_wide : {bits : List ℕ} {ty : PokeType} {c : Option Term} {order : Order} {levels : Levels} {s k j : ℕ}
      {r : Result Value FaultAt} → PartMeans bits ty c order levels s r k j → EndsFrom end_of (s + width ty) r
  part_wide (part m h) = means_wide m
  part_wide (part_refused m h) = tt
  part_wide (part_fault m) = tt

  pub fields_sum : {bits : List ℕ} {pinned : Bool} {s : ℕ} {fields : Fields} {order : Order} {levels : Levels}
      {behind top k j : ℕ} {r : Result Opened FaultAt} → FieldsMean bits pinned s fields order levels behind top r k j →
      (pinned || has_label fields) ≡ false → behind ≤ top → EndsFrom opened_end (behind + sum_of_fields fields) r
  fields_sum all_fields h le = omega arith
  fields_sum {r} (absent {pinned} {ty} {label} {when} {rest} {levels} {s} c fs) h le =
      let e = absent_width when levels s (width ty) c in
      from_less opened_end r (omega arith) (fields_sum fs (later_unlabelled pinned label (has_label rest) h) le)
  fields_sum {behind} {r} (field {pinned} {ty} {label} {when} {rest} {levels} {s} {p} {v} c st m fs) h le =
      let e = next_start pinned label (has_label rest) levels s behind p h st in
      let at = e.0 in
      let wide : p + width ty ≤ end_of v = part_wide m in
      let few = present_least when (width ty) in
      from_less opened_end r (omega arith) (fields_sum fs e.1 (omega arith))
  fields_sum (condition_fault c) h le = tt
  fields_sum (label_fault c st) h le = tt
  fields_sum (field_fault c st m) h le = tt

  fields_greatest : {bits : List ℕ} {pinned : Bool} {s : ℕ} {fields : Fields} {order : Order} {levels : Levels}
      {behind top k j : ℕ} {r : Result Opened FaultAt} → FieldsMean bits pinned s fields order levels behind top r k j →
      s ≤ behind → s ≤ top → EndsFrom opened_end (s + greatest_field fields) r
  fields_greatest all_fields h le = omega arith
  fields_greatest {r} (absent {ty} {when} {rest} {levels} {s} c fs) h le =
      let e = absent_width when levels s (width ty) c in
      from_less opened_end r (omega arith) (fields_greatest fs h le)
  fields_greatest {behind} {top} {r} (field {pinned} {ty} {label} {when} {rest} {levels} {s} {p} {v} c st m fs) h le =
      let up : s ≤ p = subst (EndsFrom (λ p. p) s) st (starts_from pinned label levels s behind h) in
      let wide : p + width ty ≤ end_of v = part_wide m in
      let few = present_least when (width ty) in
      both s (where_present when (width ty)) (greatest_field rest) r
      (from_less opened_end r (omega arith) (top_kept fs)) (fields_greatest fs (omega arith) (omega arith))
  fields_greatest (condition_fault c) h le = tt
  fields_greatest (label_fault c st) h le = tt
  fields_greatest (field_fault c st m) h le = tt

  pub alternatives_wide : {bits : List ℕ} {parts : Parts} {index : ℕ} {order : Order} {levels : Levels} {s k j : ℕ}
      {r : Result Taken FaultAt} →
      AlternativesMean bits parts index order levels s r k j → EndsFrom taken_end (s + least_part parts) r
  alternatives_wide none_left = tt
  alternatives_wide (fits {name} {set} {ty} {c} {rest} {s} {v} m) =
      let wide : s + width ty ≤ end_of v = part_wide m in
      let few = least_first name set ty c rest in
      omega arith
  alternatives_wide (misses_it {name} {set} {ty} {c} m e fs) = least_rest name set ty c fs (alternatives_wide fs)
  alternatives_wide (other_fault m e) = tt

-- ---- what is surely of no elements is no more than the width

own_or_less : (over : Bool) (o w g : ℕ) → o ≤ w → (if over then 0 else o) ≤ (if over then g else w)
own_or_less true o w g le = omega arith
own_or_less false o w g le = le

present_less : (when : Option Term) (o w : ℕ) → o ≤ w → where_present when o ≤ where_present when w
present_less None o w le = le
present_less (Some e) o w le = omega arith

constant_less : (n : Option ℕ) (o w : ℕ) → o ≤ w → of_constant n o ≤ of_constant n w
constant_less None o w le = omega arith
constant_less (Some n) o w le = times_le n o w le

mutual
  unfolding own width

  pub own_less : (ty : PokeType) → own ty ≤ width ty
  own_less (IntegerOf type) = omega arith
  own_less (OffsetOf type unit) = omega arith
  own_less StringOf = omega arith
  own_less (ArrayOf element bound) =
      constant_less (constant_count bound) (own element) (width element) (own_less element)
  own_less (StructOf name pinned fields) = own_or_less (pinned || has_label fields) (fields_own fields)
      (sum_of_fields fields) (greatest_field fields) (fields_own_less fields)
  own_less (IntegralOf name type fields) = omega arith
  own_less (UnionOf name alternatives) = parts_own_less alternatives

  pub fields_own_less : (fields : Fields) → fields_own fields ≤ sum_of_fields fields
  fields_own_less NoFields = omega arith
  fields_own_less (FieldThen name order type c label when rest) =
      let h = present_less when (own type) (width type) (own_less type) in
      let g = fields_own_less rest in
      omega arith

  pub parts_own_less : (parts : Parts) → parts_own parts ≤ least_part parts
  parts_own_less NoParts = omega arith
  parts_own_less (PartThen name order type c NoParts) = own_less type
  parts_own_less (PartThen name order type c (PartThen name' order' type' c' rest)) =
      let h = own_less type in
      let g = parts_own_less (PartThen name' order' type' c' rest) in
      omega arith

pub own_first : (name : Naming) (set : Option ByteOrder) (ty : PokeType) (c : Option Term) (rest : Parts) →
    parts_own (PartThen name set ty c rest) ≤ own ty
unfolding own
own_first name set ty c NoParts = omega arith
own_first name set ty c (PartThen name' set' ty' c' rest) = omega arith
