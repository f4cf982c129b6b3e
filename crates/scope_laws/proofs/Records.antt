-- The elements of an array without a bound are the records of its element's type.
use Rattle.std.proofs.Common.{◌≡◌, ℕ, ◌+◌, ◌<◌, ◌≤◌, length, List, [], ◌∷◌, ◌++◌, Option, Some, None, Result, Ok, Err, refl, sym, ap, ◌∙◌, subst, arith, append-nil, append_assoc}
use Rattle.std.proofs.lemmas.Bool.{ltb-true, lt-ltb, ltb-false, le-ltb}
use Rattle.std.proofs.lemmas.Option.{none-some}
use Rattle.bit_space.specs.declared.order.Order.{Order}
use Rattle.pickle_types.specs.Types.{PokeType, ArrayOf, Unbounded}
use Rattle.pickle_meaning.specs.declared.extent.Extent.{Extent}
use Rattle.pickle_meaning.specs.declared.extent.Extent.TheVariants.{Open}
use Rattle.pickle_meaning.specs.declared.faults.MapFaultKind.TheVariants as fault
use Rattle.pickle_meaning.specs.Values.{Value, end_of, Levels, opened, no_values}
use Rattle.pickle_meaning.specs.Clauses.{FaultAt, extent_of}
use Rattle.pickle_meaning.specs.Means.{Means, past_end, number_read, number_end, array, bound_fault, Elements, no_more, next_element, Closing, none_due, beyond_size, no_bits, ends_without, element_fault, array_value}
use Rattle.scope_laws.specs.Records.{AreRecords, no_record, next_record, RecordsEnd, at_end, before_fault, other_fault, all_present, array_or_fault, array_made, array_of, IsOfRecords}
use Rattle.scope_laws.specs.Records as records
use Rattle.scope_laws.specs.Arrays.{MeansAlike}
use Rattle.scope_laws.specs.Laws.{RecordsAreElements, RecordsEndAsArrays, RecordsAreAnArray}
use Rattle.scope_laws.proofs.Declared.{declared_closed}

-- a type that means the same beside all frames
abbrev AlikeAnywhere : PokeType → Type 0
AlikeAnywhere ty = (levels levels' : Levels) → MeansAlike ty levels levels'

-- ---- elements

-- records that are in the innermost frame after its other members, and are so many more
record AreListed (bits : List ℕ) (ty : PokeType) (order : Order) (p pn k j i n : ℕ) (top : List (Option Value))
    (outer inside : Levels) : Type 0 where
  values : List Value
  counted : n ≡ i + length values
  listed : inside ≡ (top ++ all_present values) ∷ outer
  records : AreRecords bits ty order p values pn k j

elements_listed : {bits : List ℕ} {ty : PokeType} {order : Order} {s i n : ℕ} {top : List (Option Value)}
    {outer inside : Levels} {p pn k j : ℕ} → Elements bits ty order s Open i (top ∷ outer) p n inside pn k j →
    AlikeAnywhere ty → AreListed bits ty order p pn k j i n top outer inside
elements_listed {top} {outer} no_more closed = record {
  values = [];
  counted = omega arith;
  listed = ap (λ x. x ∷ outer) (sym (append-nil top));
  records = no_record;
}
elements_listed {bits} {order} {top} {outer} (next_element {p} {k} {j} {v} due m lt es) closed =
    let rest = elements_listed es closed in
    let count = rest.counted in
    record {
      values = v ∷ rest.values;
      counted = omega (arith, count);
      listed = rest.listed ∙ ap (λ x. x ∷ outer) (append_assoc top (Some v ∷ []) (all_present rest.values));
      records = next_record (ltb-true p (length bits) due)
          (closed (top ∷ outer) no_values bits order p (Ok v) k j m) lt rest.records;
    }

records_listed : {bits : List ℕ} {ty : PokeType} {order : Order} {p : ℕ} {values : List Value} {pn k j : ℕ} →
    AreRecords bits ty order p values pn k j → AlikeAnywhere ty → (s i n : ℕ) (top : List (Option Value))
    (outer inside : Levels) → n ≡ i + length values → inside ≡ (top ++ all_present values) ∷ outer →
    Elements bits ty order s Open i (top ∷ outer) p n inside pn k j
records_listed {bits} {ty} {order} (no_record {p}) closed s i n top outer inside count is =
    let none : i ≡ n = omega (arith, count) in
    subst (λ x. Elements bits ty order s Open i (top ∷ outer) p n x p 0 0)
    (sym (is ∙ ap (λ x. x ∷ outer) (append-nil top)))
    (subst (λ x. Elements bits ty order s Open i (top ∷ outer) p x (top ∷ outer) p 0 0) none no_more)
records_listed {bits} {ty} {order} (next_record {p} {k} {j} {v} {values} before m lt rest) closed s i n top outer inside
    count is =
    next_element (lt-ltb p (length bits) before) (closed no_values (top ∷ outer) bits order p (Ok v) k j m) lt
    (records_listed rest closed s (i + 1) n (top ++ Some v ∷ []) outer inside (omega (arith, count))
    (is ∙ ap (λ x. x ∷ outer) (sym (append_assoc top (Some v ∷ []) (all_present values)))))

pub records_elements : RecordsAreElements
records_elements declarations names word ty bits order levels inside s n pn k j h found =
    let closed : AlikeAnywhere ty = λ from to. declared_closed declarations names word ty from to h found in (
      λ es.
          let all = elements_listed es closed in
          let count = all.counted in
          (all.values, omega (arith, count), all.listed, all.records),
      λ all.
          let count = all.1 in
          records_listed all.3 closed s 0 n [] levels inside (omega (arith, count)) all.2,
    )

-- the same records, with the counts written in another way
recounted : {bits : List ℕ} {ty : PokeType} {order : Order} {p : ℕ} {values : List Value} {pn k j l i : ℕ} →
    AreRecords bits ty order p values pn k j → k ≡ l → j ≡ i → AreRecords bits ty order p values pn l i
recounted {bits} {ty} {order} {p} {values} {pn} {k} {i} rest steps made =
    subst (λ x. AreRecords bits ty order p values pn x i) steps
    (subst (λ x. AreRecords bits ty order p values pn k x) made rest)

-- one more record after others
pub one_more_record : {bits : List ℕ} {ty : PokeType} {order : Order} {p : ℕ} {values : List Value} {pn k j l i : ℕ}
    {v : Value} → AreRecords bits ty order p values pn k j → pn < length bits →
    Means bits ty order no_values pn (Ok v) l i → pn < end_of v →
    AreRecords bits ty order p (values ++ v ∷ []) (end_of v) (k + (1 + l)) (j + i)
one_more_record no_record before m lt = recounted (next_record before m lt no_record) (omega arith) (omega arith)
one_more_record (next_record first n le rest) before m lt =
    recounted (next_record first n le (one_more_record rest before m lt)) (omega arith) (omega arith)

-- ---- how they end

record EndsAs (bits : List ℕ) (ty : PokeType) (order : Order) (v : Value) (p k j : ℕ) (r : Result Value FaultAt) :
    Type 0 where
  end : Option FaultAt
  made : ℕ
  result : r ≡ array_or_fault v end
  counted : j ≡ made + array_made end
  ends : RecordsEnd bits ty order p end k made

closing_ends : {bits : List ℕ} {ty : PokeType} {order : Order} {s n : ℕ} {inside : Levels} {pn : ℕ}
    {r : Result Value FaultAt} {k j : ℕ} → Closing bits ty order s Open n inside pn r k j → AlikeAnywhere ty →
    EndsAs bits ty order (array_value s pn inside) pn k j r
closing_ends {bits} {pn} (none_due over met) closed = record {
  end = None;
  made = 0;
  result = refl;
  counted = refl;
  ends = at_end (ltb-false pn (length bits) over);
}
closing_ends (beyond_size over met) closed = let no : ⊥ = cc in absurd no
closing_ends {bits} {order} {inside} {pn} (no_bits {k} {j} {v} due m e) closed = record {
  end = Some (fault.NoBits, pn);
  made = j;
  result = refl;
  counted = omega arith;
  ends = records.no_bits (ltb-true pn (length bits) due) (closed inside no_values bits order pn (Ok v) k j m) e;
}
closing_ends {bits} {order} {inside} {pn} (ends_without {k} {j} {f} due m e) closed = record {
  end = None;
  made = j;
  result = refl;
  counted = refl;
  ends = before_fault (ltb-true pn (length bits) due) (closed inside no_values bits order pn (Err f) k j m) e;
}
closing_ends {bits} {order} {inside} {pn} (element_fault {k} {j} {f} due m e) closed = record {
  end = Some f;
  made = j;
  result = refl;
  counted = omega arith;
  ends = other_fault (ltb-true pn (length bits) due) (closed inside no_values bits order pn (Err f) k j m) e;
}

ends_closing : {bits : List ℕ} {ty : PokeType} {order : Order} {p : ℕ} {end : Option FaultAt} {k made : ℕ} →
    RecordsEnd bits ty order p end k made → AlikeAnywhere ty → (s n : ℕ) (inside : Levels) →
    Closing bits ty order s Open n inside p (array_or_fault (array_value s p inside) end) k (made + array_made end)
ends_closing {bits} (at_end {p} over) closed s n inside = none_due (le-ltb p (length bits) over) refl
ends_closing {bits} {order} (before_fault {p} {k} {j} {f} before m e) closed s n inside =
    ends_without (lt-ltb p (length bits) before) (closed no_values inside bits order p (Err f) k j m) e
ends_closing {bits} {ty} {order} (records.no_bits {p} {k} {j} {v} before m e) closed s n inside =
    let none : j ≡ j + 0 = omega arith in
    subst (λ x. Closing bits ty order s Open n inside p (Err (fault.NoBits, p)) (1 + k) x) none
    (no_bits (lt-ltb p (length bits) before) (closed no_values inside bits order p (Ok v) k j m) e)
ends_closing {bits} {ty} {order} (other_fault {p} {k} {j} {f} before m e) closed s n inside =
    let none : j ≡ j + 0 = omega arith in
    subst (λ x. Closing bits ty order s Open n inside p (Err f) (1 + k) x) none
    (element_fault (lt-ltb p (length bits) before) (closed no_values inside bits order p (Err f) k j m) e)

pub records_end : RecordsEndAsArrays
records_end declarations names word ty bits order inside s n pn k j r h found =
    let closed : AlikeAnywhere ty = λ from to. declared_closed declarations names word ty from to h found in (
      λ c. let e = closing_ends c closed in (e.end, e.made, e.result, e.counted, e.ends),
      λ e.
          subst (λ x. Closing bits ty order s Open n inside pn x k j) (sym e.2)
          (subst (λ x. Closing bits ty order s Open n inside pn (array_or_fault (array_value s pn inside) e.0) k x)
          (sym e.3) (ends_closing e.4 closed s n inside)),
    )

-- ---- the array

open_extent : (levels : Levels) (s : ℕ) (extent : Extent) → extent_of Unbounded levels s ≡ Ok extent → Open ≡ extent
unfolding extent_of
open_extent levels s extent e = cc

no_bound_fault : (levels : Levels) (s : ℕ) (f : FaultAt) → extent_of Unbounded levels s ≡ Err f → ⊥
unfolding extent_of
no_bound_fault levels s f e = cc

array_records : {bits : List ℕ} {ty : PokeType} {order : Order} {levels : Levels} {s k j : ℕ}
    {r : Result Value FaultAt} → Means bits (ArrayOf ty Unbounded) order levels s r k j → s ≤ length bits →
    AlikeAnywhere ty → IsOfRecords bits ty order s r k j
array_records (past_end lt) le closed = absurd (omega (arith, lt, le))
array_records (number_read within e inside m) le closed = absurd (none-some _ e)
array_records (number_end within e lt) le closed = absurd (none-some _ e)
array_records {levels} {s} (bound_fault {f} within e) le closed = absurd (no_bound_fault levels s f e)
array_records {bits} {ty} {order} {levels} {s} {r}
    (array {extent} {inside} {n} {pn} {k} {j} {k'} {j'} within e es c) le closed =
    let is = sym (open_extent levels s extent e) in
    let all =
    elements_listed (subst (λ x. Elements bits ty order s x 0 (opened levels) s n inside pn k j) is es) closed in
    let ends = closing_ends (subst (λ x. Closing bits ty order s x n inside pn r k' j') is c) closed in
    let count = ends.counted in
    record {
      values = all.values;
      last = pn;
      end = ends.end;
      steps = k;
      made = j;
      end_steps = k';
      end_made = ends.made;
      records = all.records;
      ends = ends.ends;
      result = ends.result ∙ ap (λ x. array_or_fault (array_value s pn x) ends.end) all.listed;
      taken = omega arith;
      counted = omega (arith, count);
    }

records_in_array : {bits : List ℕ} {ty : PokeType} {order : Order} {s k j : ℕ} {r : Result Value FaultAt}
    (levels : Levels) → IsOfRecords bits ty order s r k j → s ≤ length bits → AlikeAnywhere ty →
    Means bits (ArrayOf ty Unbounded) order levels s r k j
unfolding extent_of
records_in_array {bits} {ty} {order} {s} {k} {j} {r} levels h le closed =
    let inside = all_present h.values ∷ levels in
    let n = length h.values in
    let taken = h.taken in
    let counted = h.counted in
    let steps : 1 + h.steps + h.end_steps ≡ k = sym taken in
    let made : h.made + (h.end_made + array_made h.end) ≡ j = omega (arith, counted) in
    let es = records_listed h.records closed s 0 n [] levels inside (omega arith) refl in
    subst (λ x. Means bits (ArrayOf ty Unbounded) order levels s x k j) (sym h.result)
    (subst
    (λ x. Means bits (ArrayOf ty Unbounded) order levels s (array_or_fault (array_of s h.values h.last) h.end) x j)
    steps
    (subst (λ x. Means bits (ArrayOf ty Unbounded) order levels s (array_or_fault (array_of s h.values h.last) h.end)
    (1 + h.steps + h.end_steps) x) made
    (array le refl es (ends_closing h.ends closed s n inside))))

pub records_array : RecordsAreAnArray
records_array declarations names word ty bits order levels s k j r h found le =
    let closed : AlikeAnywhere ty = λ from to. declared_closed declarations names word ty from to h found in
    (λ m. array_records m le closed, λ all. records_in_array levels all le closed)
