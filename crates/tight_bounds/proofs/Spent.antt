-- What an outcome takes, in grains; how this adds up over parts and elements.
use Rattle.std.proofs.Common.{◌≡◌, ℕ, zero, suc, ◌+◌, ◌-◌, ◌*◌, ◌<◌, ◌≤◌, max, length, Bool, true, false, List, Option, Some, None, Result, Ok, Err, refl, sym, ap, arith}
use Rattle.std.specs.Prelude.{if◌then◌else◌, ◌^◌, nat_lt}
use Rattle.bit_space.specs.declared.order.Order.{Order}
use Rattle.pickle_tree.specs.declared.tree.ByteOrder.{ByteOrder}
use Rattle.pickle_types.specs.declared.integer.IntegerType.{IntegerType}
use Rattle.pickle_types.specs.Types.{Term, Bound, Unbounded, ByCount, BySize, PokeType, IntegerOf, OffsetOf, StringOf, ArrayOf, StructOf, IntegralOf, UnionOf, Fields, NoFields, FieldThen, Parts, NoParts, PartThen, optional_weight}
use Rattle.pickle_types.specs.Bounds.{is_some}
use Rattle.pickle_meaning.specs.declared.extent.Extent.{Extent}
use Rattle.pickle_meaning.specs.Values.{Naming, Value, end_of, Levels, pushed}
use Rattle.pickle_meaning.specs.Clauses.{FaultAt, clause_steps, constraint, condition, is_due, misses}
use Rattle.pickle_meaning.specs.Means.{NumberMeans, integer, offset, integral, integral_fault, no_number, DigitsMean, no_digits, next_digits, digits_refused, digits_fault, number_type, width_in, Run, no_bytes, next_byte, Elements, no_more, next_element, PartMeans, part, AlternativesMean, none_left, fits, misses_it, other_fault, Opened, Taken}
use Rattle.mapping_plans.proofs.Basics.{clash}
use Rattle.mapping_plans.proofs.Widths.{EndsFrom, EndsAt, opened_end, taken_end, means_inside}
use Rattle.tight_bounds.specs.Tight.{octet, grain, of_constant, of_others, reduced, if_unbounded, if_followed, if_tested, before, both_missed, part_missed, width, own, parts_own, fixed, rate, attempt, missed, fields_fixed, fields_attempt, digits_fixed, digits_missed, parts_fixed, parts_attempt}
use Rattle.tight_bounds.proofs.Sums.{times_le, raise, loose, fewer, field_both, field_next, field_absent, digits_more, alternative_misses, shared}
use Rattle.tight_bounds.proofs.Evaluations.{clause_within}
use Rattle.tight_bounds.proofs.Wide.{means_wide}

-- Of k steps from s on: a value takes so much that is fixed, and so much for each bit but its own ones. Any other
-- outcome takes so much as an attempt, and the same for each bit up to the end. Bits before and behind may be counted
-- too.
abbrev pub Spent : {A : Type 0} → (A → ℕ) → (m fixed rate own attempt s : ℕ) → Result A FaultAt → (k : ℕ) → Type 0
Spent end m f r o a s (Ok x) k = (b t : ℕ) → b ≤ s → end x ≤ t → grain * k + r * (b + o) ≤ f + r * t
Spent end m f r o a s (Err e) k = (b : ℕ) → b ≤ s → b ≤ m → grain * k + r * b ≤ a + r * m

-- the same of fields in order, from the end of the last one on
abbrev pub InOrder : (m fixed rate own attempt behind : ℕ) → Result Opened FaultAt → (k : ℕ) → Type 0
InOrder m f r o a behind (Ok x) k = (t : ℕ) → x.1 ≤ t → grain * k + r * (behind + o) ≤ f + r * t
InOrder m f r o a behind (Err e) k = grain * k + r * behind ≤ a + r * m

-- an outcome after which a union tries the next alternative takes at most so many grains, of x and at least one more
abbrev pub Misses : {A : Type 0} → (x n : ℕ) → Result A FaultAt → (k : ℕ) → Type 0
Misses x n (Ok a) k = Unit {0}
Misses x n (Err f) k = misses f.0 ≡ true → (grain * k ≤ x + n) × (1 ≤ n)

pub grain_positive : 1 ≤ grain
unfolding octet
grain_positive = omega arith

-- ---- an attempt takes no less than a value

before_less : (x y n : ℕ) → x ≤ y → before x n ≤ before y n
before_less x y zero le = omega arith
before_less x y (suc n) le = omega arith

followed_less : (parts : Parts) (x y : ℕ) → x ≤ y → if_followed parts x ≤ y
followed_less NoParts x y le = omega arith
followed_less (PartThen name order type c rest) x y le = le

unbounded_less : (bound : Bound) (x y : ℕ) → if_unbounded bound (x + y) ≤ x + if_unbounded bound y
unbounded_less Unbounded x y = omega arith
unbounded_less (ByCount e) x y = omega arith
unbounded_less (BySize e) x y = omega arith

mutual
  unfolding fixed

  pub fixed_less : (ty : PokeType) (m : ℕ) → fixed ty m ≤ attempt ty m
  fixed_less (IntegerOf type) m = omega arith
  fixed_less (OffsetOf type unit) m = omega arith
  fixed_less StringOf m = omega arith
  fixed_less (ArrayOf element bound) m =
      let h = unbounded_less bound (grain + attempt element m) (rate element m * m) in omega arith
  fixed_less (StructOf name pinned fields) m = let h = fields_less fields m in omega arith
  fixed_less (IntegralOf name type fields) m = omega arith
  fixed_less (UnionOf name alternatives) m = let h = parts_less alternatives m in omega arith

  fields_less : (fields : Fields) (m : ℕ) → fields_fixed fields m ≤ fields_attempt fields m
  fields_less NoFields m = omega arith
  fields_less (FieldThen name order type c label condition rest) m = let h = fields_less rest m in omega arith

  parts_less : (parts : Parts) (m : ℕ) → parts_fixed parts m ≤ parts_attempt parts m
  parts_less NoParts m = omega arith
  parts_less (PartThen name order type c rest) m =
      let n = part_missed c (missed type m) (fixed type m + rate type m * m) in
      let h = fixed_less type m in
      let g = before_less (parts_fixed rest m) (parts_attempt rest m) n (parts_less rest m) in
      let f = followed_less rest (before (parts_fixed rest m) n) (before (parts_attempt rest m) n) g in
      omega arith

pub one_step : (ty : PokeType) (m : ℕ) → grain ≤ fixed ty m
unfolding fixed
one_step (IntegerOf type) m = omega arith
one_step (OffsetOf type unit) m = omega arith
one_step StringOf m = omega arith
one_step (ArrayOf element bound) m = omega arith
one_step (StructOf name pinned _) m = omega arith
one_step (IntegralOf name type fields) m = omega arith
one_step (UnionOf name alternatives) m = omega arith

-- ---- misses

abbrev is_err : {A : Type 0} → Result A FaultAt → Bool
is_err (Ok x) = false
is_err (Err f) = true

before_is : (x n : ℕ) → 1 ≤ n → before x n ≡ x + n
before_is x zero h = omega arith
before_is x (suc n) h = refl

both_is : (x n : ℕ) → 1 ≤ x → 1 ≤ n → both_missed x n ≡ x + n
both_is zero n h g = omega arith
both_is (suc x) n h g = before_is (suc x) n g

pub tested : (c : Option Term) (levels : Levels) (place x : ℕ) {f : FaultAt} → constraint c levels place ≡ Err f →
    if_tested c x ≡ x
unfolding constraint
tested None levels place x e = clash (sym (ap is_err e))
tested (Some c) levels place x e = refl

-- steps before a miss
pub placed : (x n z : ℕ) → z ≤ x + n → 1 ≤ n → (z ≤ 0 + before x n) × (1 ≤ before x n)
placed x n z h pos = let e = before_is x n pos in (omega arith, omega arith)

pub misses_first : (n k : ℕ) (f : FaultAt) → (misses f.0 ≡ true → (grain * k ≤ 0 + n) × (1 ≤ n)) →
    misses f.0 ≡ true → (grain * (1 + k) ≤ 0 + before grain n) × (1 ≤ before grain n)
misses_first n k f h e = let g = h e in placed grain n (grain * (1 + k)) (omega (arith, g.0)) g.1

-- a miss after what takes x grains, beside another one
pub misses_later : {A : Type 0} (x n y k k' : ℕ) (r : Result A FaultAt) →
    (grain * k' ≤ n → grain * k ≤ x + n) → Misses 0 n r k' → Misses 0 (max y (before x n)) r k
misses_later x n y k k' (Ok a) more h = tt
misses_later x n y k k' (Err f) more h = λ e.
    let g = h e in
    let i = placed x n (grain * k) (more (omega (arith, g.0))) g.1 in
    (omega (arith, i.0), omega (arith, i.1))

-- ---- numbers

mutual
  unfolding fixed

  pub number_grains : (m : ℕ) {ty : PokeType} {n s k j : ℕ} {levels : Levels} {r : Result Value FaultAt} →
      NumberMeans ty n levels s r k j → grain * k ≤ fixed ty m
  number_grains m integer = omega arith
  number_grains m offset = omega arith
  number_grains m (integral fs) = let h = digits_grains m fs in omega arith
  number_grains m (integral_fault fs) = let h = digits_grains m fs in omega arith
  number_grains m (no_number {ty} e) = let h = one_step ty m in omega arith

  digits_grains : (m : ℕ) {parts : Parts} {n left s k j : ℕ} {levels : Levels} {r : Result Levels FaultAt} →
      DigitsMean parts n left levels s r k j → grain * k ≤ digits_fixed parts m
  digits_grains m no_digits = omega arith
  digits_grains m (next_digits {ty} {c} {rest} {levels} {k} {k'} {v} h e more) =
      digits_more grain k _ (optional_weight c) (fixed ty m) k' (digits_fixed rest m)
      (clause_within c (pushed levels (Some v))) (number_grains m h) (digits_grains m more)
  digits_grains m (digits_refused {ty} {c} {rest} {levels} {k} {v} h e) =
      let g = digits_more grain k _ (optional_weight c) (fixed ty m) 0 (digits_fixed rest m)
      (clause_within c (pushed levels (Some v))) (number_grains m h) (omega arith) in
      omega arith
  digits_grains m (digits_fault h) = let g = number_grains m h in omega arith

mutual
  unfolding fixed

  pub number_misses : (m : ℕ) {ty : PokeType} {n s k j : ℕ} {levels : Levels} {r : Result Value FaultAt} →
      NumberMeans ty n levels s r k j → Misses 0 (missed ty m) r k
  number_misses m integer = tt
  number_misses m offset = tt
  number_misses m (integral fs) = tt
  number_misses m (integral_fault {fields} {k} {f} fs) =
      misses_first (digits_missed fields m) k f (digits_misses m fs)
  number_misses m (no_number e) = λ h. clash (sym h)

  digits_misses : (m : ℕ) {parts : Parts} {n left s k j : ℕ} {levels : Levels} {r : Result Levels FaultAt} →
      DigitsMean parts n left levels s r k j → Misses 0 (digits_missed parts m) r k
  digits_misses m no_digits = tt
  digits_misses m {r} (next_digits {ty} {c} {rest} {levels} {k} {k'} {v} h e more) =
      let w = clause_within c (pushed levels (Some v)) in
      misses_later (grain * (1 + optional_weight c) + fixed ty m) (digits_missed rest m) _ _ k' r
      (λ le. let g = digits_more grain k _ (optional_weight c) (fixed ty m) k' (digits_missed rest m) w
      (number_grains m h) le in omega arith) (digits_misses m more)
  digits_misses m (digits_refused {ty} {c} {rest} {levels} {s} {k} {v} h e) = λ miss.
      let is = tested c (pushed levels (Some v)) s (fixed ty m) e in
      let g = digits_more grain k _ (optional_weight c) (fixed ty m) 0 0 (clause_within c (pushed levels (Some v)))
      (number_grains m h) (omega arith) in
      let one = one_step ty m in
      let pos = grain_positive in
      let i = placed (grain * (1 + optional_weight c)) (part_missed c (missed ty m) (fixed ty m))
      (grain * (1 + k + clause_steps c (pushed levels (Some v)))) (omega arith) (omega arith) in
      (omega (arith, i.0), omega (arith, i.1))
  digits_misses m (digits_fault {ty} {c} {rest} {k} h) = λ miss.
      let g = number_misses m h miss in
      let i = placed (grain * (1 + optional_weight c)) (part_missed c (missed ty m) (fixed ty m)) (grain * (1 + k))
      (omega (arith, g.0)) (omega (arith, g.1)) in
      (omega (arith, i.0), omega (arith, i.1))

pub number_spent : (m f r o a s k : ℕ) (type : IntegerType) (res : Result Value FaultAt) → EndsAt s (Some type) res →
    o ≤ type.width → f ≤ a → grain * k ≤ f → Spent end_of m f r o a s res k
number_spent m f r o a s k type (Ok v) ends wide le h = λ b t from to.
    let u = times_le r (b + o) t (omega arith) in omega arith
number_spent m f r o a s k type (Err e) ends wide le h = λ b from inside. let u = times_le r b m inside in omega arith

pub own_of_number : (ty : PokeType) (type : IntegerType) → number_type ty ≡ Some type → own ty ≤ type.width
unfolding own
own_of_number (IntegerOf t) type e = let w = ap width_in e in omega arith
own_of_number (OffsetOf t unit) type e = let w = ap width_in e in omega arith
own_of_number StringOf type e = clash (sym (ap is_some e))
own_of_number (ArrayOf element bound) type e = clash (sym (ap is_some e))
own_of_number (StructOf name pinned _) type e = clash (sym (ap is_some e))
own_of_number (IntegralOf name t fields) type e = let w = ap width_in e in omega arith
own_of_number (UnionOf name alternatives) type e = clash (sym (ap is_some e))

-- ---- strings

pub run_length : {bits : List ℕ} {p q : ℕ} {bytes : List ℕ} → Run bits p bytes q → p + 8 * length bytes ≡ q
run_length no_bytes = omega arith
run_length (next_byte le e run) = let h = run_length run in omega arith

pub run_inside : {bits : List ℕ} {p q : ℕ} {bytes : List ℕ} → Run bits p bytes q → p ≤ length bits → q ≤ length bits
run_inside no_bytes le = le
run_inside (next_byte le e run) h = run_inside run le

-- ---- fields

-- fields that may overlap
pub absent_spent : (m s when when' label c r f a k' f' r' a' : ℕ) → when ≤ when' → (x : Result Opened FaultAt) →
    EndsFrom opened_end s x → Spent opened_end m f' r' 0 a' s x k' →
    Spent opened_end m (grain * (1 + (when' + label + c)) + (f + f')) (r + r') 0
    (grain * (1 + (when' + label + c)) + max a (f + a')) s x (1 + when + k')
absent_spent m s when when' label c r f a k' f' r' a' le (Ok x) ends h = λ b t from to.
    let i = h b t from to in
    let g = field_absent grain when when' label c r b t k' f' r' le (omega arith) (omega arith) in omega arith
absent_spent m s when when' label c r f a k' f' r' a' le (Err e) ends h = λ b from inside.
    let g = field_absent grain when when' label c r b m k' a' r' le inside (h b from inside) in omega arith

pub then_spent : (m s p over e w w' l l' c f a r o k k' f' a' r' : ℕ) → w ≤ w' → l ≤ l' → s ≤ p → e ≤ m →
    (x : Result Opened FaultAt) → EndsFrom opened_end (max over e) x →
    ((b t : ℕ) → b ≤ p → e ≤ t → grain * k + r * (b + o) ≤ (grain * c + f) + r * t) →
    Spent opened_end m f' r' 0 a' s x k' →
    Spent opened_end m (grain * (1 + (w' + l' + c)) + (f + f')) (r + r') 0
    (grain * (1 + (w' + l' + c)) + max a (f + a')) s x (1 + w + l + k + k')
then_spent m s p over e w w' l l' c f a r o k k' f' a' r' lw ll up far (Ok x) kept first h = λ b t before to.
    let i = h b t before to in
    let j = loose r o _ _ b _ (first b t (omega arith) (omega arith)) in
    let g = field_both grain w w' l l' c k f r b t k' f' r' lw ll j (omega arith) in
    omega arith
then_spent m s p over e w w' l l' c f a r o k k' f' a' r' lw ll up far (Err y) kept first h = λ b before inside.
    let j = loose r o _ _ b _ (first b m (omega arith) far) in
    let g = field_both grain w w' l l' c k f r b m k' a' r' lw ll j (h b before inside) in
    omega arith

-- fields in order
pub absent_in_order : (m behind when when' label c r f a k' f' r' o' a' : ℕ) → when ≤ when' → behind ≤ m →
    (x : Result Opened FaultAt) → EndsFrom opened_end (behind + o') x → InOrder m f' r' o' a' behind x k' →
    InOrder m (grain * (1 + (when' + label + c)) + (f + f')) (max r r') (0 + o')
    (grain * (1 + (when' + label + c)) + max a (f + a')) behind x (1 + when + k')
absent_in_order m behind when when' label c r f a k' f' r' o' a' le inside (Ok x) ends h = λ t to.
    let i = raise r' (max r r') (grain * k') f' (behind + o') t (h t to) (omega arith) (omega arith) in
    let w = times_le grain when when' le in
    omega arith
absent_in_order m behind when when' label c r f a k' f' r' o' a' le inside (Err e) ends h =
    let i = raise r' (max r r') (grain * k') a' behind m h inside (omega arith) in
    let w = times_le grain when when' le in
    omega arith

pub then_in_order : (m p e w w' l l' c f a r o k k' f' a' r' o' : ℕ) → w ≤ w' → l ≤ l' → p + o ≤ e → e ≤ m →
    (x : Result Opened FaultAt) → EndsFrom opened_end (e + o') x →
    grain * k + r * (p + o) ≤ (grain * c + f) + r * e → InOrder m f' r' o' a' e x k' →
    InOrder m (grain * (1 + (w' + l' + c)) + (f + f')) (max r r') (o + o')
    (grain * (1 + (w' + l' + c)) + max a (f + a')) p x (1 + w + l + k + k')
then_in_order m p e w w' l l' c f a r o k k' f' a' r' o' lw ll wide far (Ok x) ends first h = λ t to.
    let i = raise r (max r r') (grain * k) (grain * c + f) (p + o) e first wide (omega arith) in
    let j = raise r' (max r r') (grain * k') f' (e + o') t (h t to) (omega arith) (omega arith) in
    field_next grain w w' l l' c k f (max r r') p o e k' f' o' t lw ll i j
then_in_order m p e w w' l l' c f a r o k k' f' a' r' o' lw ll wide far (Err y) ends first h =
    let i = raise r (max r r') (grain * k) (grain * c + f) (p + o) e first wide (omega arith) in
    let j = raise r' (max r r') (grain * k') a' e m h far (omega arith) in
    let g = field_next grain w w' l l' c k f (max r r') p o e k' a' 0 m lw ll i (omega arith) in
    let u = loose (max r r') (o + 0) _ _ p _ g in
    omega arith

-- one of the two, by whether they may overlap
pub of_struct : (over : Bool) (x f q r o b t : ℕ) → x + q * (b + 0) ≤ f + q * t →
    ((over ≡ false) → x + r * (b + o) ≤ f + r * t) →
    x + (if over then q else r) * (b + (if over then 0 else o)) ≤ f + (if over then q else r) * t
of_struct true x f q r o b t h g = h
of_struct false x f q r o b t h g = g refl

pub of_fault : (over : Bool) (x f q r b t : ℕ) → x + q * b ≤ f + q * t → ((over ≡ false) → x + r * b ≤ f + r * t) →
    x + (if over then q else r) * b ≤ f + (if over then q else r) * t
of_fault true x f q r b t h g = h
of_fault false x f q r b t h g = g refl

-- ---- alternatives

-- an alternative fits only where there is one
pub followed : {bits : List ℕ} {parts : Parts} {index : ℕ} {order : Order} {levels : Levels} {s k j : ℕ}
    {r : Result Taken FaultAt} → AlternativesMean bits parts index order levels s r k j → (t : Taken) (x : ℕ) →
    r ≡ Ok t → if_followed parts x ≡ x
followed none_left t x e = clash (ap is_err e)
followed (fits m) t x e = refl
followed (misses_it m h fs) t x e = refl
followed (other_fault m h) t x e = refl

pub own_later : {bits : List ℕ} (name : Naming) (set : Option ByteOrder) (ty : PokeType) (c : Option Term)
    {parts : Parts} {index : ℕ} {order : Order} {levels : Levels} {s k j : ℕ} {r : Result Taken FaultAt} →
    AlternativesMean bits parts index order levels s r k j → (t : Taken) → r ≡ Ok t →
    parts_own (PartThen name set ty c parts) ≤ parts_own parts
unfolding own
own_later name set ty c none_left t e = clash (ap is_err e)
own_later name set ty c (fits m) t e = omega arith
own_later name set ty c (misses_it m h fs) t e = omega arith
own_later name set ty c (other_fault m h) t e = omega arith

pub misses_spent : (m s c f a n r o k k' f' a' r' o' : ℕ) (rest : Parts) (x : Result Taken FaultAt) →
    EndsFrom taken_end (s + o') x → ((t : Taken) (y : ℕ) → x ≡ Ok t → if_followed rest y ≡ y) →
    ((t : Taken) → x ≡ Ok t → o ≤ o') → grain * k ≤ grain * c + n → 1 ≤ n → Spent taken_end m f' r' o' a' s x k' →
    Spent taken_end m (grain * (1 + c) + max f (if_followed rest (before f' n))) (max r r') o
    (grain * (1 + c) + max a (before a' n)) s x (1 + k + k')
misses_spent m s c f a n r o k k' f' a' r' o' rest (Ok x) ends there less first pos h = λ b t before' to.
    let is = there x (before f' n) refl in
    let e = before_is f' n pos in
    let u = fewer r' o' o _ f' b t (h b t before' to) (less x refl) in
    let v = less x refl in
    let g = raise r' (max r r') _ f' (b + o) t u (omega arith) (omega arith) in
    let i = alternative_misses grain k c n k' f' _ _ first g in
    omega arith
misses_spent m s c f a n r o k k' f' a' r' o' rest (Err e) ends there less first pos h = λ b before' inside.
    let is = before_is a' n pos in
    let g = raise r' (max r r') _ a' b m (h b before' inside) inside (omega arith) in
    let i = alternative_misses grain k c n k' a' _ _ first g in
    omega arith

pub misses_all : (c n n' k k' : ℕ) (x : Result Taken FaultAt) → grain * k ≤ grain * c + n → 1 ≤ n → Misses 0 n' x k' →
    Misses 0 (before (grain * (1 + c)) (both_missed n' n)) x (1 + k + k')
misses_all c n n' k k' (Ok x) first pos h = tt
misses_all c n n' k k' (Err e) first pos h = λ miss.
    let g = h miss in
    let is = both_is n' n g.1 pos in
    placed (grain * (1 + c)) (both_missed n' n) (grain * (1 + k + k')) (omega (arith, g.0)) (omega (arith, g.1))

-- ---- elements

pub few_elements : {bits : List ℕ} {ty : PokeType} {order : Order} {s : ℕ} {extent : Extent} {i n : ℕ}
    {levels inside : Levels} {p pn k j : ℕ} (c : ℕ) → Elements bits ty order s extent i levels p n inside pn k j →
    ((i p : ℕ) → is_due extent (length bits) s i p ≡ true → i < c) → i ≤ c → n ≤ c
few_elements c no_more below le = le
few_elements c (next_element {i} {p} due m lt es) below le =
    let h = below i p due in few_elements c es below (omega arith)

-- what an element takes with its try, and what it takes for each bit besides the rate
abbrev pub each : PokeType → ℕ → ℕ
each ty m = grain + fixed ty m

abbrev pub share : (o : Option ℕ) (ty : PokeType) (m : ℕ) → ℕ
share o ty m = of_others o (width ty) (reduced (grain + fixed ty m) (rate ty m * own ty))

-- what each element of a constant number takes, and what it saves
abbrev pub if_constant : Option ℕ → ℕ → ℕ
if_constant None x = 0
if_constant (Some c) x = x

-- each element is covered by what each takes, and a rate
abbrev pub Covers : (ty : PokeType) (m q u v : ℕ) → Type 0
Covers ty m q u v =
    (p e : ℕ) → p + width ty ≤ e → p < e → grain + fixed ty m + q * p + v ≤ u + q * e + rate ty m * own ty

not_too_reduced : (b : Bool) (x y : ℕ) → x ≤ (if b then x - y else x) + y
not_too_reduced true x y = omega arith
not_too_reduced false x y = omega arith

pub covering : (o : Option ℕ) (ty : PokeType) (m : ℕ) →
    Covers ty m (share o ty m) (if_constant o (each ty m)) (if_constant o (rate ty m * own ty))
covering None ty m p e wide lt =
    let x = reduced (grain + fixed ty m) (rate ty m * own ty) in
    let h = shared x (width ty) p e wide lt in
    let g = not_too_reduced (nat_lt (grain + fixed ty m) (2 ^ 128)) (grain + fixed ty m) (rate ty m * own ty) in
    omega arith
covering (Some c) ty m p e wide lt = omega arith

pub charged : (o : Option ℕ) (g r q x y k s n pn : ℕ) → ((c : ℕ) → o ≡ Some c → n ≤ c) →
    g * k + (r + q) * s + 0 * if_constant o x + n * if_constant o y ≤
    (r + q) * pn + n * if_constant o x + 0 * if_constant o y →
    g * k + (r + q) * s ≤ (r + q) * pn + of_constant o x
charged None g r q x y k s n pn few h = omega arith
charged (Some c) g r q x y k s n pn few h = let a = times_le x n c (few c refl) in omega arith

pub charged_all : (o : Option ℕ) (g r w x z own k s n pn : ℕ) → ((c : ℕ) → o ≡ Some c → n ≤ c) →
    ((c : ℕ) → o ≡ Some c → c ≤ n) →
    g * k + (r + of_others o w z) * s + 0 * if_constant o x + n * if_constant o (r * own) ≤
    (r + of_others o w z) * pn + n * if_constant o x + 0 * if_constant o (r * own) →
    g * k + (r + of_others o w z) * (s + of_constant o own) ≤ (r + of_others o w z) * pn + of_constant o x
charged_all None g r w x z own k s n pn few all h = omega arith
charged_all (Some c) g r w x z own k s n pn few all h =
    let a = times_le x n c (few c refl) in
    let d = times_le (r * own) c n (all c refl) in
    omega arith

pub part_ends : {bits : List ℕ} {ty : PokeType} {c : Option Term} {order : Order} {levels : Levels} {s : ℕ} {v : Value}
    {k j : ℕ} → PartMeans bits ty c order levels s (Ok v) k j → (s + width ty ≤ end_of v) × (end_of v ≤ length bits)
part_ends (part h e) = (means_wide h, means_inside h)
