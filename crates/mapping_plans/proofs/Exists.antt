-- Every type has an outcome at every place.
use Rattle.std.proofs.Common.{◌≡◌, ℕ, zero, suc, ◌+◌, ◌-◌, ◌<◌, ◌≤◌, max, Bool, true, false, List, length, Option, Some, None, Result, Ok, Err, refl, arith}
use Rattle.bit_space.specs.declared.order.Order.{Order}
use Rattle.bit_space.specs.declared.order.Order.TheVariants.{Big}
use Rattle.pickle_tree.specs.declared.tree.ByteOrder.{ByteOrder}
use Rattle.pickle_types.specs.declared.integer.IntegerType.{IntegerType}
use Rattle.pickle_types.specs.Types.{Term, Bound, PokeType, IntegerOf, OffsetOf, StringOf, ArrayOf, StructOf, IntegralOf, UnionOf, Fields, NoFields, FieldThen, Parts, NoParts, PartThen}
use Rattle.pickle_types.specs.Bounds.{least_width}
use Rattle.pickle_meaning.specs.declared.extent.Extent.{Extent}
use Rattle.pickle_meaning.specs.Numbers.{number_at}
use Rattle.pickle_meaning.specs.Values.{Naming, Value, end_of, Levels, pushed, opened}
use Rattle.pickle_meaning.specs.Clauses.{FaultAt, constraint, condition, field_start, extent_of, is_due, is_met, ends_before, misses}
use Rattle.pickle_meaning.specs.Means.{Means, past_end, number_read, number_end, string, string_end, array, bound_fault, struct, struct_fault, union, union_fault, NumberMeans, integer, offset, integral, integral_fault, no_number, DigitsMean, no_digits, next_digits, digits_refused, digits_fault, number_type, width_in, first_digits, Run, no_bytes, next_byte, Elements, no_more, next_element, Closing, none_due, beyond_size, no_bits, ends_without, element_fault, PartMeans, part, part_refused, part_fault, FieldsMean, all_fields, absent, field, condition_fault, label_fault, field_fault, AlternativesMean, none_left, fits, misses_it, other_fault, Opened, Taken, ordered}
use Rattle.mapping_plans.specs.Plan.{result_of, steps_of, made_of}
use Rattle.mapping_plans.specs.Mapping.{plan}
use Rattle.mapping_plans.proofs.Basics.{by_place, by_value}
use Rattle.mapping_plans.proofs.Widths.{means_inside, means_wide}
use Rattle.mapping_plans.proofs.Planned.{means_comes}

-- there is an outcome
pub record HasOutcome {A : Type 0} (M : Result A FaultAt → ℕ → ℕ → Type 0) : Type 0 where
  pub r : Result A FaultAt
  pub k : ℕ
  pub j : ℕ
  pub means : M r k j

-- an equation with a result, by its cases
by_result : {A B : Type 0} (r : Result A FaultAt) → ((a : A) → r ≡ Ok a → B) → ((f : FaultAt) → r ≡ Err f → B) → B
by_result (Ok a) f g = f a refl
by_result (Err e) f g = g e refl

by_kind : {B : Type 0} (ty : PokeType) → ((type : IntegerType) → number_type ty ≡ Some type → B) →
    (number_type ty ≡ None → B) → B
by_kind {B} ty f g = chosen (number_type ty) refl
  where
    chosen : (o : Option IntegerType) → number_type ty ≡ o → B
    chosen (Some type) e = f type e
    chosen None e = g e

abbrev NumberOutcome : PokeType → ℕ → Levels → ℕ → Type 0
NumberOutcome ty n levels s = HasOutcome (NumberMeans ty n levels s)

abbrev DigitsOutcome : Parts → (n left : ℕ) → Levels → ℕ → Type 0
DigitsOutcome parts n left levels s = HasOutcome (DigitsMean parts n left levels s)

integral_exists : {name : Naming} {type : IntegerType} {fields : Parts} {n : ℕ} {levels : Levels} {s k j : ℕ}
    (r : Result Levels FaultAt) →
    DigitsMean fields n type.width (opened levels) s r k j → NumberOutcome (IntegralOf name type fields) n levels s
integral_exists (Ok inside) m = record { r = _; k = _; j = _; means = integral m }
integral_exists (Err f) m = record { r = _; k = _; j = _; means = integral_fault m }

digits_exist_on : {name : Naming} {order : Option ByteOrder} {ty : PokeType} {c : Option Term} {rest : Parts}
    {n left : ℕ} {levels : Levels} {s k j : ℕ} →
    ((v : Value) → DigitsOutcome rest n (left - width_in (number_type ty)) (pushed levels (Some v)) s) →
    (r : Result Value FaultAt) → NumberMeans ty (first_digits n left (width_in (number_type ty))) levels s r k j →
    DigitsOutcome (PartThen name order ty c rest) n left levels s
digits_exist_on more (Err f) m = record { r = _; k = _; j = _; means = digits_fault m }
digits_exist_on {c} {levels} {s} more (Ok v) m =
    by_result (constraint c (pushed levels (Some v)) s)
    (λ u e. let o = more v in record { r = _; k = _; j = _; means = next_digits m e o.means })
    (λ f e. record { r = _; k = _; j = _; means = digits_refused m e })

mutual
  number_exists : (ty : PokeType) (n : ℕ) (levels : Levels) (s : ℕ) → NumberOutcome ty n levels s
  number_exists (IntegerOf type) n levels s = record { r = _; k = _; j = _; means = integer }
  number_exists (OffsetOf type unit) n levels s = record { r = _; k = _; j = _; means = offset }
  number_exists StringOf n levels s = record { r = _; k = _; j = _; means = no_number refl }
  number_exists (ArrayOf element bound) n levels s = record { r = _; k = _; j = _; means = no_number refl }
  number_exists (StructOf name pinned _) n levels s = record { r = _; k = _; j = _; means = no_number refl }
  number_exists (IntegralOf name type fields) n levels s =
      let o = digits_exist fields n type.width (opened levels) s in integral_exists o.r o.means
  number_exists (UnionOf name alternatives) n levels s = record { r = _; k = _; j = _; means = no_number refl }

  digits_exist : (parts : Parts) (n left : ℕ) (levels : Levels) (s : ℕ) → DigitsOutcome parts n left levels s
  digits_exist NoParts n left levels s = record { r = _; k = _; j = _; means = no_digits }
  digits_exist (PartThen name order ty c rest) n left levels s =
      let o = number_exists ty (first_digits n left (width_in (number_type ty))) levels s in
      digits_exist_on (λ v. digits_exist rest n (left - width_in (number_type ty)) (pushed levels (Some v)) s) o.r
      o.means

abbrev TypeOutcome : List ℕ → PokeType → Order → Levels → ℕ → Type 0
TypeOutcome bits ty order levels s = HasOutcome (Means bits ty order levels s)

-- a type that is read as one number
read_exists : (bits : List ℕ) (ty : PokeType) {type : IntegerType} (order : Order) (levels : Levels) (s : ℕ) →
    s ≤ length bits → number_type ty ≡ Some type → TypeOutcome bits ty order levels s
read_exists bits ty {type} order levels s le e =
    by_place (s + type.width) (length bits)
    (λ inside.
    let o = number_exists ty (number_at bits order s type.width) levels s in
    record { r = _; k = _; j = _; means = number_read le e inside o.means })
    (λ lt. record { r = _; k = _; j = _; means = number_end le e lt })

-- after a run there is a byte 0, or no whole byte
abbrev InsideOrNot : (bits : List ℕ) (q : ℕ) → Option (number_at bits Big q 8 ≡ 0) → Type 0
InsideOrNot bits q (Some e) = q + 8 ≤ length bits
InsideOrNot bits q None = length bits < q + 8

-- the longest run of bytes other than 0, and what is after it
record HasRun (bits : List ℕ) (p : ℕ) : Type 0 where
  bytes : List ℕ
  q : ℕ
  run : Run bits p bytes q
  behind : Option (number_at bits Big q 8 ≡ 0)
  inside : InsideOrNot bits q behind

ends_past : {bits : List ℕ} {p q : ℕ} {bytes : List ℕ} → Run bits p bytes q → length bits < q + 8 → HasRun bits p
ends_past run lt = record { bytes = _; q = _; run = run; behind = None; inside = lt }

ends_zero : {bits : List ℕ} {p q : ℕ} {bytes : List ℕ} → Run bits p bytes q → q + 8 ≤ length bits →
    number_at bits Big q 8 ≡ 0 → HasRun bits p
ends_zero run le e = record { bytes = _; q = _; run = run; behind = Some e; inside = le }

string_exists : {bits : List ℕ} {order : Order} {levels : Levels} {s q : ℕ} {bytes : List ℕ} → s ≤ length bits →
    Run bits s bytes q → (behind : Option (number_at bits Big q 8 ≡ 0)) → InsideOrNot bits q behind →
    TypeOutcome bits StringOf order levels s
string_exists le run (Some e) inside = record { r = _; k = _; j = _; means = string le run inside e }
string_exists le run None lt = record { r = _; k = _; j = _; means = string_end le run lt }

run_exists : (bits : List ℕ) (n p : ℕ) → length bits ≤ p + n → HasRun bits p
run_exists bits zero p le = ends_past no_bytes (omega arith)
run_exists bits (suc n) p le =
    by_place (p + 8) (length bits)
    (λ inside. tried inside (run_exists bits n (p + 8) (omega arith)) (number_at bits Big p 8) refl)
    (λ lt. ends_past no_bytes lt)
  where
    tried : p + 8 ≤ length bits → HasRun bits (p + 8) → (b : ℕ) → number_at bits Big p 8 ≡ b → HasRun bits p
    tried inside more zero e = ends_zero no_bytes inside e
    tried inside more (suc b) e =
        record { bytes = _; q = _; run = next_byte inside e more.run; behind = more.behind; inside = more.inside }

-- an array from a cut point on
record HasElements (bits : List ℕ) (ty : PokeType) (order : Order) (s : ℕ) (extent : Extent) (i : ℕ) (levels : Levels)
    (p : ℕ) : Type 0 where
  inside : Levels
  pn : ℕ
  n : ℕ
  k : ℕ
  j : ℕ
  elements : Elements bits ty order s extent i levels p n inside pn k j
  closing : HasOutcome (Closing bits ty order s extent n inside pn)

module _ {bits : List ℕ} {ty : PokeType} {order : Order} {s : ℕ} {extent : Extent} {i : ℕ}
    {levels : Levels} {p : ℕ} where
  closed_here : {r : Result Value FaultAt} {k j : ℕ} → Closing bits ty order s extent i levels p r k j →
      HasElements bits ty order s extent i levels p
  closed_here c = record {
    inside = _;
    pn = _;
    n = _;
    k = _;
    j = _;
    elements = no_more;
    closing = record { r = _; k = _; j = _; means = c };
  }

  further_on : {k j : ℕ} {v : Value} → is_due extent (length bits) s i p ≡ true →
      Means bits ty order levels p (Ok v) k j → p < end_of v →
      HasElements bits ty order s extent (i + 1) (pushed levels (Some v)) (end_of v) →
      HasElements bits ty order s extent i levels p
  further_on due m lt more = record {
    inside = _;
    pn = _;
    n = _;
    k = _;
    j = _;
    elements = next_element due m lt more.elements;
    closing = more.closing;
  }

  tried : (left : ℕ) → p ≤ length bits → length bits < p + suc left → is_due extent (length bits) s i p ≡ true →
      ((v : Value) → end_of v ≤ length bits → length bits < end_of v + left →
      HasElements bits ty order s extent (i + 1) (pushed levels (Some v)) (end_of v)) →
      (r : Result Value FaultAt) {k j : ℕ} → Means bits ty order levels p r k j →
      HasElements bits ty order s extent i levels p
  tried left le gt due more (Ok v) m =
      let wide : p + least_width ty ≤ end_of v = means_wide m in
      let inside : end_of v ≤ length bits = means_inside m in
      by_place (end_of v) p
      (λ le. closed_here (no_bits due m (omega arith)))
      (λ lt. further_on due m lt (more v inside (omega arith)))
  tried left le gt due more (Err f) m =
      by_value (ends_before extent f.0)
      (λ e. closed_here (ends_without due m e))
      (λ e. closed_here (element_fault due m e))

  not_due : is_due extent (length bits) s i p ≡ false → HasElements bits ty order s extent i levels p
  not_due over =
      by_value (is_met extent s p)
      (λ e. closed_here (none_due over e))
      (λ e. closed_here (beyond_size over e))

elements_exist : (bits : List ℕ) (ty : PokeType) (order : Order) (s : ℕ) (extent : Extent) →
    ((levels : Levels) (p : ℕ) → TypeOutcome bits ty order levels p) → (left i : ℕ) (levels : Levels) (p : ℕ) →
    p ≤ length bits → length bits < p + left → HasElements bits ty order s extent i levels p
elements_exist bits ty order s extent has zero i levels p le lt = absurd (omega arith)
elements_exist bits ty order s extent has (suc left) i levels p le lt =
    by_value (is_due extent (length bits) s i p)
    (λ due.
    let o = has levels p in
    tried left le lt due (λ v inside lt.
    elements_exist bits ty order s extent has left (i + 1) (pushed levels (Some v)) (end_of v) inside lt) o.r o.means)
    (λ over. not_due over)

array_exists : {bits : List ℕ} {ty : PokeType} {order : Order} {levels : Levels} {s : ℕ} (bound : Bound) →
    s ≤ length bits → ((extent : Extent) → HasElements bits ty order s extent 0 (opened levels) s) →
    TypeOutcome bits (ArrayOf ty bound) order levels s
array_exists {levels} {s} bound le has =
    by_result (extent_of bound levels s)
    (λ extent e. let h = has extent in record { r = _; k = _; j = _; means = array le e h.elements h.closing.means })
    (λ f e. record { r = _; k = _; j = _; means = bound_fault le e })

part_exists : {bits : List ℕ} {ty : PokeType} {order : Order} {levels : Levels} {s k j : ℕ} (c : Option Term)
    (r : Result Value FaultAt) → Means bits ty order levels s r k j → HasOutcome (PartMeans bits ty c order levels s)
part_exists {levels} {s} c (Ok v) m =
    by_result (constraint c (pushed levels (Some v)) s)
    (λ u e. record { r = _; k = _; j = _; means = part m e })
    (λ f e. record { r = _; k = _; j = _; means = part_refused m e })
part_exists c (Err f) m = record { r = _; k = _; j = _; means = part_fault m }

struct_exists : {bits : List ℕ} {name : Naming} {pinned : Bool} {fields : Fields} {order : Order} {levels : Levels}
    {s k j : ℕ} →
    s ≤ length bits → (r : Result Opened FaultAt) → FieldsMean bits pinned s fields order (opened levels) s s r k j →
    TypeOutcome bits (StructOf name pinned fields) order levels s
struct_exists le (Ok r) m = record { r = _; k = _; j = _; means = struct le m }
struct_exists le (Err f) m = record { r = _; k = _; j = _; means = struct_fault le m }

union_exists : {bits : List ℕ} {name : Naming} {alternatives : Parts} {order : Order} {levels : Levels} {s k j : ℕ} →
    s ≤ length bits → (r : Result Taken FaultAt) → AlternativesMean bits alternatives 0 order (opened levels) s r k j →
    TypeOutcome bits (UnionOf name alternatives) order levels s
union_exists le (Ok t) m = record { r = _; k = _; j = _; means = union le m }
union_exists le (Err f) m = record { r = _; k = _; j = _; means = union_fault le m }

module _ {bits : List ℕ} {pinned : Bool} {s : ℕ} {name : Naming} {set : Option ByteOrder} {ty : PokeType}
    {c label when : Option Term} {rest : Fields} {order : Order} {levels : Levels} {behind top : ℕ} where
  part_then : {p : ℕ} → condition when levels s ≡ Ok true → field_start pinned label levels s behind ≡ Ok p →
      ((v : Value) →
      HasOutcome (FieldsMean bits pinned s rest order (pushed levels (Some v)) (end_of v) (max top (end_of v)))) →
      (r : Result Value FaultAt) {k j : ℕ} → PartMeans bits ty c (ordered set order) levels p r k j →
      HasOutcome (FieldsMean bits pinned s (FieldThen name set ty c label when rest) order levels behind top)
  part_then h st more (Ok v) m = let o = more v in record { r = _; k = _; j = _; means = field h st m o.means }
  part_then h st more (Err f) m = record { r = _; k = _; j = _; means = field_fault h st m }

  there_then : (there : Bool) → condition when levels s ≡ Ok there →
      HasOutcome (FieldsMean bits pinned s rest order (pushed levels None) behind top) →
      ((v : Value) →
      HasOutcome (FieldsMean bits pinned s rest order (pushed levels (Some v)) (end_of v) (max top (end_of v)))) →
      ((p : ℕ) → HasOutcome (PartMeans bits ty c (ordered set order) levels p)) →
      HasOutcome (FieldsMean bits pinned s (FieldThen name set ty c label when rest) order levels behind top)
  there_then false h without more parts = record { r = _; k = _; j = _; means = absent h without.means }
  there_then true h without more parts =
      by_result (field_start pinned label levels s behind)
      (λ p st. let o = parts p in part_then h st more o.r o.means)
      (λ f st. record { r = _; k = _; j = _; means = label_fault h st })

  field_exists : HasOutcome (FieldsMean bits pinned s rest order (pushed levels None) behind top) →
      ((v : Value) →
      HasOutcome (FieldsMean bits pinned s rest order (pushed levels (Some v)) (end_of v) (max top (end_of v)))) →
      ((p : ℕ) → HasOutcome (PartMeans bits ty c (ordered set order) levels p)) →
      HasOutcome (FieldsMean bits pinned s (FieldThen name set ty c label when rest) order levels behind top)
  field_exists without more parts =
      by_result (condition when levels s)
      (λ there h. there_then there h without more parts)
      (λ f h. record { r = _; k = _; j = _; means = condition_fault h })

attempt_exists : {bits : List ℕ} {name : Naming} {set : Option ByteOrder} {ty : PokeType} {c : Option Term}
    {rest : Parts} {index : ℕ} {order : Order} {levels : Levels} {s k j : ℕ} →
    HasOutcome (AlternativesMean bits rest (index + 1) order levels s) → (r : Result Value FaultAt) →
    PartMeans bits ty c (ordered set order) levels s r k j →
    HasOutcome (AlternativesMean bits (PartThen name set ty c rest) index order levels s)
attempt_exists o (Ok v) m = record { r = _; k = _; j = _; means = fits m }
attempt_exists o (Err f) m =
    by_value (misses f.0)
    (λ e. record { r = _; k = _; j = _; means = misses_it m e o.means })
    (λ e. record { r = _; k = _; j = _; means = other_fault m e })

or_past : {bits : List ℕ} {ty : PokeType} {order : Order} {levels : Levels} (s : ℕ) →
    (s ≤ length bits → TypeOutcome bits ty order levels s) → TypeOutcome bits ty order levels s
or_past {bits} s f = by_place s (length bits) f (λ lt. record { r = _; k = _; j = _; means = past_end lt })

mutual
  pub means_exists : (bits : List ℕ) (ty : PokeType) (order : Order) (levels : Levels) (s : ℕ) →
      TypeOutcome bits ty order levels s
  means_exists bits (IntegerOf type) order levels s =
      or_past s (λ le. read_exists bits (IntegerOf type) order levels s le refl)
  means_exists bits (OffsetOf type unit) order levels s =
      or_past s (λ le. read_exists bits (OffsetOf type unit) order levels s le refl)
  means_exists bits StringOf order levels s =
      or_past s
      (λ le. let h = run_exists bits (length bits - s) s (omega arith) in string_exists le h.run h.behind h.inside)
  means_exists bits (ArrayOf element bound) order levels s =
      or_past s (λ le. array_exists bound le (λ extent. elements_exist bits element order s extent
      (means_exists bits element order) (length bits - s + 1) 0 (opened levels) s le (omega arith)))
  means_exists bits (StructOf name pinned fields) order levels s =
      or_past s
      (λ le. let o = fields_exist bits pinned s fields order (opened levels) s s in struct_exists le o.r o.means)
  means_exists bits (IntegralOf name type fields) order levels s =
      or_past s (λ le. read_exists bits (IntegralOf name type fields) order levels s le refl)
  means_exists bits (UnionOf name alternatives) order levels s =
      or_past s
      (λ le. let o = alternatives_exist bits alternatives 0 order (opened levels) s in union_exists le o.r o.means)

  fields_exist : (bits : List ℕ) (pinned : Bool) (s : ℕ) (fields : Fields) (order : Order) (levels : Levels)
      (behind top : ℕ) → HasOutcome (FieldsMean bits pinned s fields order levels behind top)
  fields_exist bits pinned s NoFields order levels behind top = record { r = _; k = _; j = _; means = all_fields }
  fields_exist bits pinned s (FieldThen name set ty c label when rest) order levels behind top =
      field_exists (fields_exist bits pinned s rest order (pushed levels None) behind top)
      (λ v. fields_exist bits pinned s rest order (pushed levels (Some v)) (end_of v) (max top (end_of v)))
      (λ p. let o = means_exists bits ty (ordered set order) levels p in part_exists c o.r o.means)

  alternatives_exist : (bits : List ℕ) (parts : Parts) (index : ℕ) (order : Order) (levels : Levels) (s : ℕ) →
      HasOutcome (AlternativesMean bits parts index order levels s)
  alternatives_exist bits NoParts index order levels s = record { r = _; k = _; j = _; means = none_left }
  alternatives_exist bits (PartThen name set ty c rest) index order levels s =
      let o = means_exists bits ty (ordered set order) levels s in
      let q = part_exists c o.r o.means in
      attempt_exists (alternatives_exist bits rest (index + 1) order levels s) q.r q.means

-- the result of the plan is in the relation
pub plan_means : (bits : List ℕ) (ty : PokeType) (order : Order) (levels : Levels) (s : ℕ) →
    Means bits ty order levels s (result_of bits (plan (length bits) ty order levels s))
    (steps_of bits (plan (length bits) ty order levels s)) (made_of bits (plan (length bits) ty order levels s))
plan_means bits ty order levels s =
    let o = means_exists bits ty order levels s in
    let h = means_comes o.means in
    rw (h.result, h.steps, h.made) o.means
