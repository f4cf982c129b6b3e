-- Each outcome takes at most the grains that the tighter bound gives it.
use Rattle.std.proofs.Common.{◌≡◌, ℕ, ◌+◌, ◌*◌, ◌≤◌, max, length, Bool, true, false, List, Option, Some, Result, Ok, Err, sym, ap, subst, ◌∙◌, arith}
use Rattle.std.specs.Prelude.{◌||◌}
use Rattle.bit_space.specs.declared.order.Order.{Order}
use Rattle.pickle_types.specs.Types.{Term, Bound, PokeType, ArrayOf, Fields, Parts, PartThen, optional_weight, bound_weight}
use Rattle.pickle_types.specs.Bounds.{has_label, where_present}
use Rattle.pickle_meaning.specs.declared.extent.Extent.{Extent}
use Rattle.pickle_meaning.specs.Values.{Value, end_of, Levels, pushed}
use Rattle.pickle_meaning.specs.Clauses.{FaultAt, clause_steps, label_steps, bound_steps, extent_of, misses}
use Rattle.pickle_meaning.specs.Means.{Means, past_end, number_read, number_end, string, string_end, array, bound_fault, struct, struct_fault, union, union_fault, Elements, no_more, next_element, Closing, none_due, beyond_size, no_bits, ends_without, element_fault, PartMeans, part, part_refused, part_fault, FieldsMean, all_fields, absent, field, condition_fault, label_fault, field_fault, AlternativesMean, none_left, fits, misses_it, other_fault, Opened, Taken}
use Rattle.mapping_plans.proofs.Basics.{clash}
use Rattle.mapping_plans.proofs.Widths.{EndsFrom, EndsAt, opened_end, taken_end, from_less, number_ends, starts_from, next_start, later_unlabelled, absent_width, present_least, means_inside, elements_inside, elements_further}
use Rattle.tight_bounds.specs.Tight.{octet, grain, constant_count, of_constant, reduced, if_bounded, part_missed, width, own, fields_own, parts_own, fixed, rate, attempt, missed, fields_fixed, sum_of_rates, greatest_rate, fields_attempt, fields_missed, parts_fixed, parts_rate, parts_attempt, parts_missed}
use Rattle.tight_bounds.proofs.Sums.{times_le, widen, raise, loose, fewer, field_fails, clause_fails, with_clause, one_first, alternative_fits, miss_later, array_misses, one_more, array_ends, array_drops, array_fails, bound_fails, string_ends, string_fails}
use Rattle.tight_bounds.proofs.Evaluations.{clause_within, label_within, bound_within}
use Rattle.tight_bounds.proofs.FaultKinds.{condition_no_miss, start_no_miss, bound_no_miss}
use Rattle.tight_bounds.proofs.Extents.{due_below, none_due_from, unbounded_alone, bounded_alone, unbounded_none}
use Rattle.tight_bounds.proofs.Spent.{Spent, InOrder, Misses, grain_positive, fixed_less, one_step, tested, placed, misses_first, misses_later, number_grains, number_misses, number_spent, own_of_number, run_length, run_inside, absent_spent, then_spent, absent_in_order, then_in_order, of_struct, of_fault, followed, own_later, misses_spent, misses_all, few_elements, each, share, if_constant, Covers, covering, charged, charged_all, part_ends}
use Rattle.tight_bounds.proofs.Wide.{top_kept, means_wide, fields_sum, alternatives_wide, own_less, fields_own_less, parts_own_less, own_first}

mutual
  unfolding fixed own

  pub means_spent : {bits : List ℕ} {ty : PokeType} {order : Order} {levels : Levels} {s : ℕ}
      {r : Result Value FaultAt} {k j : ℕ} → Means bits ty order levels s r k j →
      Spent end_of (length bits) (fixed ty (length bits)) (rate ty (length bits)) (own ty) (attempt ty (length bits)) s
      r k
  means_spent {bits} (past_end {ty} lt) = λ b from inside.
      let m = length bits in let u = times_le (rate ty m) b m inside in omega arith
  means_spent {bits} {s} {r} {k} (number_read {ty} {type} le e inside h) =
      let m = length bits in
      number_spent m (fixed ty m) (rate ty m) (own ty) (attempt ty m) s k type r
      (subst (λ x. EndsAt s x r) e (number_ends h)) (own_of_number ty type e) (fixed_less ty m) (number_grains m h)
  means_spent {bits} (number_end {ty} le e lt) = λ b from inside.
      let m = length bits in
      let u = times_le (rate ty m) b m inside in
      let h = one_step ty m in
      let g = fixed_less ty m in
      omega arith
  means_spent {s} (string {bytes} le run inside e) = λ b t from to.
      let h = run_length run in
      let g = string_ends octet (length bytes) s b t from (omega arith) in
      omega arith
  means_spent {bits} {s} (string_end {bytes} le run lt) = λ b from inside.
      let h = run_length run in
      let g = run_inside run le in
      string_fails octet (length bytes) s b (length bits) from (omega arith)
  means_spent {bits} (array {ty} {bound} {levels} {s} {n} {pn} {k} le e es c) =
      let m = length bits in
      let o = constant_count bound in
      let h = elements_spent (share o ty m) (if_constant o (each ty m)) (if_constant o (rate ty m * own ty))
      (covering o ty m) es in
      closing_spent k bound levels e (bound_within bound levels) (elements_further es) (elements_inside es le)
      (charged o grain (rate ty m) (share o ty m) (each ty m) (rate ty m * own ty) k s n pn
      (λ c is. few_elements c es (λ i p due. due_below bound c levels s _ is e m i p due) (omega arith)) h)
      (λ all. charged_all o grain (rate ty m) (width ty) (each ty m)
      (reduced (grain + fixed ty m) (rate ty m * own ty)) (own ty) k s n pn
      (λ c is. few_elements c es (λ i p due. due_below bound c levels s _ is e m i p due) (omega arith)) all h) c
  means_spent {bits} (bound_fault {ty} {bound} {levels} {s} le e) = λ b from inside.
      let m = length bits in
      let h = bound_fails grain _ (bound_weight bound) 0 (rate (ArrayOf ty bound) m) b m (bound_within bound levels)
      inside in
      omega arith
  means_spent {bits} (struct {pinned} {fields} {s} {end} {k} le fs) = λ b t from to.
      let m = length bits in
      of_struct (pinned || has_label fields) _ (grain + fields_fixed fields m) (sum_of_rates fields m)
      (greatest_rate fields m) (fields_own fields) b t
      (one_first grain k _ (fields_fixed fields m) _ (fields_spent fs le (omega arith) (omega arith) b t from to))
      (λ none. one_first grain k _ (fields_fixed fields m) _
      (widen (greatest_rate fields m) (grain * k) (fields_fixed fields m) (b + fields_own fields) t
      (fields_in_order fs none le (omega arith) t to) (omega arith) (omega arith)))
  means_spent {bits} (struct_fault {pinned} {fields} {s} {k} le fs) = λ b from inside.
      let m = length bits in
      of_fault (pinned || has_label fields) _ (grain + fields_attempt fields m) (sum_of_rates fields m)
      (greatest_rate fields m) b m
      (one_first grain k _ (fields_attempt fields m) _ (fields_spent fs le (omega arith) (omega arith) b from inside))
      (λ none. one_first grain k _ (fields_attempt fields m) _
      (widen (greatest_rate fields m) (grain * k) (fields_attempt fields m) b m
      (fields_in_order fs none le (omega arith)) from (omega arith)))
  means_spent {bits} (union {alternatives} {k} le fs) = λ b t from to.
      let m = length bits in
      one_first grain k _ (parts_fixed alternatives m) _ (alternatives_spent fs le b t from to)
  means_spent {bits} (union_fault {alternatives} {k} le fs) = λ b from inside.
      let m = length bits in
      one_first grain k _ (parts_attempt alternatives m) _ (alternatives_spent fs le b from inside)

  elements_spent : {bits : List ℕ} {ty : PokeType} {order : Order} {s : ℕ} {extent : Extent} {i n : ℕ}
      {levels inside : Levels} {p pn k j : ℕ} (q u v : ℕ) → Covers ty (length bits) q u v →
      Elements bits ty order s extent i levels p n inside pn k j →
      grain * k + (rate ty (length bits) + q) * p + i * u + n * v ≤
      (rate ty (length bits) + q) * pn + n * u + i * v
  elements_spent q u v covers no_more = omega arith
  elements_spent {bits} {ty} {i} {n} {p} {pn} q u v covers (next_element {k} {k'} {v = x} due h lt es) =
      let m = length bits in
      let w = means_wide h in
      one_more grain (rate ty m) (own ty) q u v (fixed ty m) k p (end_of x) k' i n pn
      (means_spent h p (end_of x) (omega arith) (omega arith)) (covers p (end_of x) w lt)
      (elements_spent q u v covers es)

  closing_spent : {bits : List ℕ} {ty : PokeType} {order : Order} {s : ℕ} {extent : Extent} {n : ℕ} {inside : Levels}
      {pn k' j : ℕ} {r : Result Value FaultAt} (k : ℕ) (bound : Bound) (levels : Levels) →
      extent_of bound levels s ≡ Ok extent → bound_steps bound levels ≤ bound_weight bound → s ≤ pn →
      pn ≤ length bits →
      grain * k + rate (ArrayOf ty bound) (length bits) * s ≤
      rate (ArrayOf ty bound) (length bits) * pn + of_constant (constant_count bound) (each ty (length bits)) →
      (((c : ℕ) → constant_count bound ≡ Some c → c ≤ n) →
      grain * k + rate (ArrayOf ty bound) (length bits) * (s + own (ArrayOf ty bound)) ≤
      rate (ArrayOf ty bound) (length bits) * pn + of_constant (constant_count bound) (each ty (length bits))) →
      Closing bits ty order s extent n inside pn r k' j →
      Spent end_of (length bits) (fixed (ArrayOf ty bound) (length bits)) (rate (ArrayOf ty bound) (length bits))
      (own (ArrayOf ty bound)) (attempt (ArrayOf ty bound) (length bits)) s r (1 + bound_steps bound levels + k + k')
  closing_spent {bits} {ty} {s} {extent} {n} {pn} k bound levels e le further up h all (none_due over met) =
      λ b t ahead to.
      let m = length bits in
      let o = own (ArrayOf ty bound) in
      let g = array_ends grain _ (bound_weight bound) k (rate (ArrayOf ty bound) m) (s + o) pn
      (of_constant (constant_count bound) (each ty m)) (b + o) t le
      (all (λ c is. none_due_from bound c levels s extent is e m n pn over)) (omega arith) to in
      omega arith
  closing_spent {bits} {ty} {s} {pn} k bound levels e le further up h all (beyond_size over met) = λ b ahead to.
      let m = length bits in
      let g = array_ends grain _ (bound_weight bound) k (rate (ArrayOf ty bound) m) s pn
      (of_constant (constant_count bound) (each ty m)) b m le h ahead up in
      omega arith
  closing_spent {bits} {ty} {s} {pn} k bound levels e le further up h all (no_bits {k = l} {v} due n is) =
      λ b ahead to.
      let m = length bits in
      let less = fixed_less ty m in
      let one = loose (rate ty m) (own ty) (grain * l) (fixed ty m) pn (rate ty m * m)
      (means_spent n pn m (omega arith) (omega arith)) in
      let g = array_fails grain _ (bound_weight bound) k (rate ty m) (share (constant_count bound) ty m) s pn
      (of_constant (constant_count bound) (each ty m)) (attempt ty m) l b m le h (omega arith) ahead up in
      omega arith
  closing_spent {bits} {ty} {s} {extent} {pn} k bound levels e le further up h all
      (ends_without {k = l} {f} due n is) =
      λ b t ahead to.
      let m = length bits in
      let one = means_spent n 0 (omega arith) (omega arith) in
      let alone = λ (x : ℕ). unbounded_alone bound levels s extent f.0 x e is in
      let drop = alone (grain + attempt ty m + rate ty m * m) in
      let none = unbounded_none bound (own ty) alone in
      let g = array_drops grain _ (bound_weight bound) k (rate (ArrayOf ty bound) m) s pn
      (of_constant (constant_count bound) (each ty m)) (attempt ty m + rate ty m * m) l b t le h
      (omega arith) ahead to in
      let same : rate (ArrayOf ty bound) m * (b + own (ArrayOf ty bound)) ≡ rate (ArrayOf ty bound) m * b =
      ap (λ x. rate (ArrayOf ty bound) m * x) (omega arith) in
      omega arith
  closing_spent {bits} {ty} {s} {pn} k bound levels e le further up h all (element_fault {k = l} due n is) =
      λ b ahead to.
      let m = length bits in
      let g = array_fails grain _ (bound_weight bound) k (rate ty m) (share (constant_count bound) ty m) s pn
      (of_constant (constant_count bound) (each ty m)) (attempt ty m) l b m le h
      (means_spent n pn (omega arith) up) ahead
      up in
      omega arith

  part_spent : {bits : List ℕ} {ty : PokeType} {c : Option Term} {order : Order} {levels : Levels} {s k j : ℕ}
      {r : Result Value FaultAt} → PartMeans bits ty c order levels s r k j →
      Spent end_of (length bits) (grain * optional_weight c + fixed ty (length bits)) (rate ty (length bits)) (own ty)
      (grain * optional_weight c + attempt ty (length bits)) s r k
  part_spent {bits} {ty} {c} {levels} {s} (part {k} {v} h e) = λ b t from to.
      let m = length bits in
      with_clause grain k _ (optional_weight c) (fixed ty m) _ _ (clause_within c (pushed levels (Some v)))
      (means_spent h b t from to)
  part_spent {bits} {ty} {c} {levels} {s} (part_refused {k} {v} h e) = λ b from inside.
      let m = length bits in
      let less = fixed_less ty m in
      let g = with_clause grain k _ (optional_weight c) (fixed ty m) _ _ (clause_within c (pushed levels (Some v)))
      (loose (rate ty m) (own ty) (grain * k) (fixed ty m) b (rate ty m * m)
      (means_spent h b m from (means_inside h))) in
      omega arith
  part_spent {bits} {ty} {c} (part_fault h) = λ b from inside. let g = means_spent h b from inside in omega arith

  fields_spent : {bits : List ℕ} {pinned : Bool} {s : ℕ} {fields : Fields} {order : Order} {levels : Levels}
      {behind top k j : ℕ} {r : Result Opened FaultAt} → FieldsMean bits pinned s fields order levels behind top r k j →
      s ≤ length bits → s ≤ behind → s ≤ top →
      Spent opened_end (length bits) (fields_fixed fields (length bits)) (sum_of_rates fields (length bits)) 0
      (fields_attempt fields (length bits)) s r k
  fields_spent all_fields le from over = λ b t ahead to. omega arith
  fields_spent {bits} {s} {r} (absent {ty} {c} {label} {when} {rest} {levels} {top} {k} cnd fs) le from over =
      let m = length bits in
      absent_spent m s _ (optional_weight when) (optional_weight label) (optional_weight c) (rate ty m) (fixed ty m)
      (attempt ty m) k (fields_fixed rest m) (sum_of_rates rest m) (fields_attempt rest m) (clause_within when levels) r
      (from_less opened_end r over (top_kept fs)) (fields_spent fs le from over)
  fields_spent {bits} {s} {r} (field {pinned} {ty} {c} {label} {when} {rest} {levels} {behind} {top} {p} {k} {k'} {v}
      cnd st pm fs) le from over =
      let m = length bits in
      let up : s ≤ p = subst (EndsFrom (λ p. p) s) st (starts_from pinned label levels s behind from) in
      let ends = part_ends pm in
      let near = ends.0 in
      let far = ends.1 in
      then_spent m s p top (end_of v) _ (optional_weight when) _ (optional_weight label)
      (optional_weight c) (fixed ty m)
      (attempt ty m) (rate ty m) (own ty) k k' (fields_fixed rest m) (fields_attempt rest m) (sum_of_rates rest m)
      (clause_within when levels) (label_within pinned label levels) up far r (top_kept fs) (part_spent pm)
      (fields_spent fs le (omega arith) (omega arith))
  fields_spent {bits} (condition_fault {ty} {c} {label} {when} {rest} {levels} cnd) le from over = λ b ahead inside.
      let m = length bits in
      let g = clause_fails grain _ (optional_weight when) 0 (optional_weight label) (optional_weight c)
      (rate ty m + sum_of_rates rest m) b m (clause_within when levels) (omega arith) inside in
      omega arith
  fields_spent {bits} (label_fault {pinned} {ty} {c} {label} {when} {rest} {levels} cnd st) le from over =
      λ b ahead inside.
      let m = length bits in
      let g = clause_fails grain _ (optional_weight when) _ (optional_weight label) (optional_weight c)
      (rate ty m + sum_of_rates rest m) b m (clause_within when levels) (label_within pinned label levels) inside in
      omega arith
  fields_spent {bits} {s} (field_fault {pinned} {ty} {c} {label} {when} {rest} {levels} {behind} {p} {k} cnd st pm) le
      from over =
      λ b ahead inside.
      let m = length bits in
      let up : s ≤ p = subst (EndsFrom (λ p. p) s) st (starts_from pinned label levels s behind from) in
      let g = field_fails grain _ (optional_weight when) _ (optional_weight label) (optional_weight c) k (attempt ty m)
      (rate ty m) b m (sum_of_rates rest m) (clause_within when levels) (label_within pinned label levels) inside
      (part_spent pm b (omega arith) inside) in
      omega arith

  fields_in_order : {bits : List ℕ} {pinned : Bool} {s : ℕ} {fields : Fields} {order : Order} {levels : Levels}
      {behind top k j : ℕ} {r : Result Opened FaultAt} → FieldsMean bits pinned s fields order levels behind top r k j →
      (pinned || has_label fields) ≡ false → behind ≤ length bits → behind ≤ top →
      InOrder (length bits) (fields_fixed fields (length bits)) (greatest_rate fields (length bits)) (fields_own fields)
      (fields_attempt fields (length bits)) behind r k
  fields_in_order all_fields none inside le = λ t to. omega arith
  fields_in_order {bits} {behind} {r}
      (absent {pinned} {ty} {c} {label} {when} {rest} {levels} {s} {k} cnd fs) none inside
      le =
      let m = length bits in
      let e = absent_width when levels s (own ty) cnd in
      let none' = later_unlabelled pinned label (has_label rest) none in
      let less = fields_own_less rest in
      let h = absent_in_order m behind _ (optional_weight when) (optional_weight label) (optional_weight c) (rate ty m)
      (fixed ty m) (attempt ty m) k (fields_fixed rest m) (greatest_rate rest m) (fields_own rest)
      (fields_attempt rest m) (clause_within when levels) inside r
      (from_less opened_end r (omega arith) (fields_sum fs none' le)) (fields_in_order fs none' inside le) in
      rw e h
  fields_in_order {bits} {behind} {r} (field {pinned} {ty} {c} {label} {when} {rest} {levels} {s} {top} {p} {k} {k'} {v}
      cnd st pm fs) none inside le =
      let m = length bits in
      let e = next_start pinned label (has_label rest) levels s behind p none st in
      let here = e.0 in
      let ends = part_ends pm in
      let near = ends.0 in
      let far = ends.1 in
      let few = present_least when (own ty) in
      let less = own_less ty in
      let less' = fields_own_less rest in
      let one = fewer (rate ty m) (own ty) (where_present when (own ty)) (grain * k)
      (grain * optional_weight c + fixed ty m) p (end_of v)
      (part_spent pm p (end_of v) (omega arith) (omega arith)) few in
      let h = then_in_order m p (end_of v) _ (optional_weight when) _ (optional_weight label) (optional_weight c)
      (fixed ty m) (attempt ty m) (rate ty m) (where_present when (own ty)) k k' (fields_fixed rest m)
      (fields_attempt rest m) (greatest_rate rest m) (fields_own rest) (clause_within when levels)
      (label_within pinned label levels) (omega arith) far r
      (from_less opened_end r (omega arith) (fields_sum fs e.1 (omega arith))) one
      (fields_in_order fs e.1 far (omega arith)) in
      rw here h
  fields_in_order {bits} {behind} (condition_fault {ty} {c} {label} {when} {rest} {levels} cnd) none inside le =
      let m = length bits in
      let g = clause_fails grain _ (optional_weight when) 0 (optional_weight label) (optional_weight c)
      (max (rate ty m) (greatest_rate rest m)) behind m (clause_within when levels) (omega arith) inside in
      omega arith
  fields_in_order {bits} {behind} (label_fault {pinned} {ty} {c} {label} {when} {rest} {levels} cnd st) none inside le =
      let m = length bits in
      let g = clause_fails grain _ (optional_weight when) _ (optional_weight label) (optional_weight c)
      (max (rate ty m) (greatest_rate rest m)) behind m (clause_within when levels) (label_within pinned label levels)
      inside in
      omega arith
  fields_in_order {bits} {behind} (field_fault {pinned} {ty} {c} {label} {when} {rest} {levels} {s} {p} {k} cnd st pm)
      none inside le =
      let m = length bits in
      let e = next_start pinned label (has_label rest) levels s behind p none st in
      let here = e.0 in
      let one = raise (rate ty m) (max (rate ty m) (greatest_rate rest m)) (grain * k)
      (grain * optional_weight c + attempt ty m) behind m (part_spent pm behind (omega arith) inside)
      inside (omega arith)
      in
      let w = times_le grain _ (optional_weight when) (clause_within when levels) in
      let l = times_le grain _ (optional_weight label) (label_within pinned label levels) in
      omega arith

  alternatives_spent : {bits : List ℕ} {parts : Parts} {index : ℕ} {order : Order} {levels : Levels} {s k j : ℕ}
      {r : Result Taken FaultAt} → AlternativesMean bits parts index order levels s r k j → s ≤ length bits →
      Spent taken_end (length bits) (parts_fixed parts (length bits)) (parts_rate parts (length bits)) (parts_own parts)
      (parts_attempt parts (length bits)) s r k
  alternatives_spent none_left le = λ b ahead inside. omega arith
  alternatives_spent {bits} {s} (fits {name} {set} {ty} {c} {rest} {k} {v} pm) le = λ b t ahead to.
      let m = length bits in
      let near = (part_ends pm).0 in
      let less = own_less ty in
      let few = own_first name set ty c rest in
      let f = fewer (rate ty m) (own ty) (parts_own (PartThen name set ty c rest)) (grain * k)
      (grain * optional_weight c + fixed ty m) b t (part_spent pm b t ahead to) few in
      let g = alternative_fits grain k (optional_weight c) (fixed ty m) _ _ f in
      let h = raise (rate ty m) (max (rate ty m) (parts_rate rest m)) _ _
      (b + parts_own (PartThen name set ty c rest)) t g (omega arith) (omega arith) in
      omega arith
  alternatives_spent {bits} {s} {r} (misses_it {name} {set} {ty} {c} {rest} {k} {k'} pm e fs) le =
      let m = length bits in
      let less = parts_own_less rest in
      let n = part_misses pm e in
      misses_spent m s (optional_weight c) (fixed ty m) (attempt ty m)
      (part_missed c (missed ty m) (fixed ty m + rate ty m * m)) (rate ty m) (parts_own (PartThen name set ty c rest)) k
      k' (parts_fixed rest m) (parts_attempt rest m) (parts_rate rest m) (parts_own rest) rest r
      (from_less taken_end r (omega arith) (alternatives_wide fs)) (followed fs) (own_later name set ty c fs) n.0 n.1
      (alternatives_spent fs le)
  alternatives_spent {bits} (other_fault {ty} {c} {rest} {k} pm e) le = λ b ahead inside.
      let m = length bits in
      let g = alternative_fits grain k (optional_weight c) (attempt ty m) _ _ (part_spent pm b ahead inside) in
      let h = raise (rate ty m) (max (rate ty m) (parts_rate rest m)) _ _ b m g inside (omega arith) in
      omega arith

  -- ---- misses

  means_misses : {bits : List ℕ} {ty : PokeType} {order : Order} {levels : Levels} {s : ℕ} {r : Result Value FaultAt}
      {k j : ℕ} → Means bits ty order levels s r k j → Misses 0 (missed ty (length bits)) r k
  means_misses (past_end lt) = λ miss. clash (sym miss)
  means_misses {bits} (number_read le e inside h) = number_misses (length bits) h
  means_misses (number_end le e lt) = λ miss. clash (sym miss)
  means_misses (string le run inside e) = tt
  means_misses (string_end le run lt) = λ miss. clash (sym miss)
  means_misses {bits} (array {ty} {bound} {levels} {s} {n} {pn} {k} le e es c) =
      let m = length bits in
      let o = constant_count bound in
      let h = elements_spent (share o ty m) (if_constant o (each ty m)) (if_constant o (rate ty m * own ty))
      (covering o ty m) es in
      closing_misses k bound levels e (bound_within bound levels) (elements_inside es le)
      (charged o grain (rate ty m) (share o ty m) (each ty m) (rate ty m * own ty) k s n pn
      (λ c is. few_elements c es (λ i p due. due_below bound c levels s _ is e m i p due) (omega arith)) h) c
  means_misses (bound_fault {bound} {levels} {s} {f} le e) = λ miss.
      clash (sym miss ∙ bound_no_miss bound levels s f e)
  means_misses (struct le fs) = tt
  means_misses {bits} (struct_fault {fields} {k} {f} le fs) =
      misses_first (fields_missed fields (length bits)) k f (fields_misses fs)
  means_misses (union le fs) = tt
  means_misses {bits} (union_fault {alternatives} {k} {f} le fs) =
      misses_first (parts_missed alternatives (length bits)) k f (alternatives_misses fs)

  closing_misses : {bits : List ℕ} {ty : PokeType} {order : Order} {s : ℕ} {extent : Extent} {n : ℕ} {inside : Levels}
      {pn k' j : ℕ} {r : Result Value FaultAt} (k : ℕ) (bound : Bound) (levels : Levels) →
      extent_of bound levels s ≡ Ok extent → bound_steps bound levels ≤ bound_weight bound → pn ≤ length bits →
      grain * k + rate (ArrayOf ty bound) (length bits) * s ≤
      rate (ArrayOf ty bound) (length bits) * pn + of_constant (constant_count bound) (each ty (length bits)) →
      Closing bits ty order s extent n inside pn r k' j →
      Misses 0 (missed (ArrayOf ty bound) (length bits)) r (1 + bound_steps bound levels + k + k')
  closing_misses k bound levels e le up h (none_due over met) = tt
  closing_misses k bound levels e le up h (beyond_size over met) = λ miss. clash (sym miss)
  closing_misses k bound levels e le up h (no_bits due n is) = λ miss. clash (sym miss)
  closing_misses k bound levels e le up h (ends_without due n is) = tt
  closing_misses {bits} {ty} {s} {extent} {pn} k bound levels e le up h (element_fault {k = l} {f} due n is) = λ miss.
      let m = length bits in
      let g = means_misses n miss in
      let alone = bounded_alone bound levels s extent f.0 (missed ty m) e is miss in
      let i = array_misses grain _ (bound_weight bound) k (rate (ArrayOf ty bound) m) s pn
      (of_constant (constant_count bound) (each ty m)) l (missed ty m) m le h (omega (arith, g.0)) up in
      placed _ (if_bounded bound (missed ty m)) (grain * (1 + bound_steps bound levels + k + (1 + l)))
      (omega arith) (omega (arith, g.1))

  part_misses : {bits : List ℕ} {ty : PokeType} {c : Option Term} {order : Order} {levels : Levels} {s k j : ℕ}
      {f : FaultAt} → PartMeans bits ty c order levels s (Err f) k j → misses f.0 ≡ true →
      (grain * k ≤ grain * optional_weight c
      + part_missed c (missed ty (length bits)) (fixed ty (length bits) + rate ty (length bits) * length bits))
      × (1 ≤ part_missed c (missed ty (length bits)) (fixed ty (length bits) + rate ty (length bits) * length bits))
  part_misses {bits} {ty} {c} {levels} {s} (part_refused {k} {v} h e) miss =
      let m = length bits in
      let is = tested c (pushed levels (Some v)) s (fixed ty m + rate ty m * m) e in
      let one = one_step ty m in
      let pos = grain_positive in
      let g = with_clause grain k _ (optional_weight c) (fixed ty m) _ _ (clause_within c (pushed levels (Some v)))
      (means_spent h 0 m (omega arith) (means_inside h)) in
      (omega arith, omega arith)
  part_misses {bits} {ty} {c} (part_fault h) miss =
      let g = means_misses h miss in (omega (arith, g.0), omega (arith, g.1))

  fields_misses : {bits : List ℕ} {pinned : Bool} {s : ℕ} {fields : Fields} {order : Order} {levels : Levels}
      {behind top k j : ℕ} {r : Result Opened FaultAt} → FieldsMean bits pinned s fields order levels behind top r k j →
      Misses 0 (fields_missed fields (length bits)) r k
  fields_misses all_fields = tt
  fields_misses {bits} {r} (absent {ty} {c} {label} {when} {rest} {levels} {k} cnd fs) =
      let m = length bits in
      let w = times_le grain _ (optional_weight when) (clause_within when levels) in
      misses_later
      (grain * (1 + (optional_weight when + optional_weight label + optional_weight c)) + (fixed ty m + rate ty m * m))
      (fields_missed rest m) _ _ k r (λ le. omega arith) (fields_misses fs)
  fields_misses {bits} {r} (field {pinned} {ty} {c} {label} {when} {rest} {levels} {k} {k'} cnd st pm fs) =
      let m = length bits in
      let far = (part_ends pm).1 in
      let one = part_spent pm 0 m (omega arith) far in
      misses_later
      (grain * (1 + (optional_weight when + optional_weight label + optional_weight c)) + (fixed ty m + rate ty m * m))
      (fields_missed rest m) _ _ k' r
      (λ le. miss_later grain _ (optional_weight when) _ (optional_weight label) (optional_weight c) k
      (fixed ty m + rate ty m * m) k' (fields_missed rest m) (clause_within when levels)
      (label_within pinned label levels) (omega arith) le) (fields_misses fs)
  fields_misses (condition_fault {when} {levels} {s} {f} cnd) = λ miss.
      clash (sym miss ∙ condition_no_miss when levels s f cnd)
  fields_misses (label_fault {pinned} {label} {levels} {s} {behind} {f} cnd st) = λ miss.
      clash (sym miss ∙ start_no_miss pinned label levels s behind f st)
  fields_misses {bits} (field_fault {pinned} {ty} {c} {label} {when} {rest} {levels} {k} cnd st pm) = λ miss.
      let m = length bits in
      let n = part_missed c (missed ty m) (fixed ty m + rate ty m * m) in
      let g = part_misses pm miss in
      let w = times_le grain _ (optional_weight when) (clause_within when levels) in
      let l = times_le grain _ (optional_weight label) (label_within pinned label levels) in
      let i = placed (grain * (1 + (optional_weight when + optional_weight label + optional_weight c))) n
      (grain * (1 + clause_steps when levels + label_steps pinned label levels + k)) (omega (arith, g.0, w, l)) g.1 in
      (omega (arith, i.0), omega (arith, i.1))

  alternatives_misses : {bits : List ℕ} {parts : Parts} {index : ℕ} {order : Order} {levels : Levels} {s k j : ℕ}
      {r : Result Taken FaultAt} → AlternativesMean bits parts index order levels s r k j →
      Misses 0 (parts_missed parts (length bits)) r k
  alternatives_misses none_left = λ miss. (omega arith, omega arith)
  alternatives_misses (fits pm) = tt
  alternatives_misses {bits} {r} (misses_it {ty} {c} {rest} {k} {k'} pm e fs) =
      let m = length bits in
      let n = part_misses pm e in
      misses_all (optional_weight c)
      (part_missed c (missed ty m) (fixed ty m + rate ty m * m)) (parts_missed rest m) k k'
      r n.0 n.1 (alternatives_misses fs)
  alternatives_misses (other_fault pm e) = λ miss. clash (sym miss ∙ e)
