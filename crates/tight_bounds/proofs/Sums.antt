-- Sums of grains: a value takes what is fixed and a rate for each of its bits.
use Rattle.std.proofs.Common.{◌≡◌, ℕ, ◌+◌, ◌-◌, ◌*◌, ◌/◌, ◌^◌, ◌<◌, ◌≤◌, max, Bool, true, false, subst, arith}
use Rattle.std.specs.Prelude.{nat_lt, if◌then◌else◌}
use Rattle.std.proofs.Math.Nat.{mul-le-mul_left, div-lt_iff_lt-mul, div-mul-le_self, le-div_iff_mul-le}

-- a product rises with a factor
pub times_le : (r a b : ℕ) → a ≤ b → r * a ≤ r * b
times_le r a b le = mul-le-mul_left r le

-- ---- one value

-- from an earlier place, and up to a later one
pub widen : (r x f : ℕ) {s e : ℕ} (b t : ℕ) → x + r * s ≤ f + r * e → b ≤ s → e ≤ t → x + r * b ≤ f + r * t
widen r x f {s} {e} b t h from to =
    let a = times_le r b s from in
    let c = times_le r e t to in
    omega arith

-- at a higher rate
pub raise : (r q x f b t : ℕ) → x + r * b ≤ f + r * t → b ≤ t → r ≤ q → x + q * b ≤ f + q * t
raise r q x f b t h le up =
    let more : (d : ℕ) → r + d ≡ q → x + q * b ≤ f + q * t = λ d e.
    let a = times_le d b t le in
    let g : x + (r + d) * b ≤ f + (r + d) * t = omega arith in
    subst (λ y. x + y * b ≤ f + y * t) e g in
    more (q - r) (omega arith)

-- without what its own bits save
pub loose : (r o x f b y : ℕ) → x + r * (b + o) ≤ f + y → x + r * b ≤ f + y
loose r o x f b y h = let a = times_le r b (b + o) (omega arith) in omega arith

-- fewer own bits
pub fewer : (r o o' x f b t : ℕ) → x + r * (b + o) ≤ f + r * t → o' ≤ o → x + r * (b + o') ≤ f + r * t
fewer r o o' x f b t h le = let a = times_le r (b + o') (b + o) (omega arith) in omega arith

-- at no rate
pub at_no_rate : (x f b t : ℕ) → x ≤ f → x + 0 * b ≤ f + 0 * t
at_no_rate x f b t h = omega arith

-- ---- fields

module _ (g : ℕ) where
  -- a clause before a field takes at most its weight, and its grains fit
  pub field_both : (when when' label label' c k f r b t k' f' r' : ℕ) → when ≤ when' → label ≤ label' →
      g * k + r * b ≤ (g * c + f) + r * t → g * k' + r' * b ≤ f' + r' * t →
      g * (1 + when + label + k + k') + (r + r') * b ≤ (g * (1 + (when' + label' + c)) + (f + f')) + (r + r') * t
  field_both when when' label label' c k f r b t k' f' r' le le' h h' =
      let a = times_le g when when' le in
      let d = times_le g label label' le' in
      omega arith

  -- fields in order: the next one begins where this one ends
  pub field_next : (when when' label label' c k f r b o e k' f' o' t : ℕ) → when ≤ when' → label ≤ label' →
      g * k + r * (b + o) ≤ (g * c + f) + r * e → g * k' + r * (e + o') ≤ f' + r * t →
      g * (1 + when + label + k + k') + r * (b + (o + o')) ≤ (g * (1 + (when' + label' + c)) + (f + f')) + r * t
  field_next when when' label label' c k f r b o e k' f' o' t le le' h h' =
      let a = times_le g when when' le in
      let d = times_le g label label' le' in
      omega arith

  pub field_fails : (when when' label label' c k f r b t r' : ℕ) → when ≤ when' → label ≤ label' → b ≤ t →
      g * k + r * b ≤ (g * c + f) + r * t →
      g * (1 + when + label + k) + (r + r') * b ≤ (g * (1 + (when' + label' + c)) + f) + (r + r') * t
  field_fails when when' label label' c k f r b t r' le le' from h =
      let a = times_le g when when' le in
      let d = times_le g label label' le' in
      let e = times_le r' b t from in
      omega arith

  pub field_absent : (when when' label c r b t k' f' r' : ℕ) → when ≤ when' → b ≤ t →
      g * k' + r' * b ≤ f' + r' * t →
      g * (1 + when + k') + (r + r') * b ≤ (g * (1 + (when' + label + c)) + f') + (r + r') * t
  field_absent when when' label c r b t k' f' r' le from h =
      let a = times_le g when when' le in
      let e = times_le r b t from in
      omega arith

  pub clause_fails : (when when' label label' c r b t : ℕ) → when ≤ when' → label ≤ label' → b ≤ t →
      g * (1 + when + label) + r * b ≤ g * (1 + (when' + label' + c)) + r * t
  clause_fails when when' label label' c r b t le le' from =
      let a = times_le g when when' le in
      let d = times_le g label label' le' in
      let e = times_le r b t from in
      omega arith

  -- a value and its constraint
  pub with_clause : (k c c' f x y : ℕ) → c ≤ c' → g * k + x ≤ f + y → g * (k + c) + x ≤ (g * c' + f) + y
  with_clause k c c' f x y le h = let a = times_le g c c' le in omega arith

  -- a step before
  pub one_first : (k x f y : ℕ) → g * k + x ≤ f + y → g * (1 + k) + x ≤ (g + f) + y
  one_first k x f y h = omega arith

  pub digits_more : (k c c' f k' f' : ℕ) → c ≤ c' → g * k ≤ f → g * k' ≤ f' →
      g * (1 + k + c + k') ≤ g * (1 + c') + (f + f')
  digits_more k c c' f k' f' le h h' = let a = times_le g c c' le in omega arith

  -- ---- alternatives

  pub alternative_fits : (k c f x y : ℕ) → g * k + x ≤ (g * c + f) + y → g * (1 + k) + x ≤ (g * (1 + c) + f) + y
  alternative_fits k c f x y h = omega arith

  pub alternative_misses : (k c n k' f' x y : ℕ) → g * k ≤ g * c + n → g * k' + x ≤ f' + y →
      g * (1 + k + k') + x ≤ (g * (1 + c) + (f' + n)) + y
  alternative_misses k c n k' f' x y h h' = omega arith

  -- ---- misses

  -- a part, and the part that misses after it
  pub miss_later : (when when' label label' c k f k' n : ℕ) → when ≤ when' → label ≤ label' → g * k ≤ g * c + f →
      g * k' ≤ n → g * (1 + when + label + k + k') ≤ (g * (1 + (when' + label' + c)) + f) + n
  miss_later when when' label label' c k f k' n le le' h h' =
      let a = times_le g when when' le in
      let d = times_le g label label' le' in
      omega arith

  pub array_misses : (w w' k r s pn c k' n m : ℕ) → w ≤ w' → g * k + r * s ≤ r * pn + c → g * k' ≤ n → pn ≤ m →
      g * (1 + w + k + (1 + k')) ≤ (g * (2 + w') + c + r * m) + n
  array_misses w w' k r s pn c k' n m le h miss to =
      let a = times_le g w w' le in
      let d = times_le r pn m to in
      omega arith

  -- ---- elements

  -- u is what is fixed for each element, and v what its own bits save
  pub one_more : (r o q u v f k p e k' i n pn : ℕ) → g * k + r * (p + o) ≤ f + r * e →
      g + f + q * p + v ≤ u + q * e + r * o →
      g * k' + (r + q) * e + (i + 1) * u + n * v ≤ (r + q) * pn + n * u + (i + 1) * v →
      g * (1 + k + k') + (r + q) * p + i * u + n * v ≤ (r + q) * pn + n * u + i * v
  one_more r o q u v f k p e k' i n pn h share rest = omega arith

  -- the elements, a closing that takes nothing, and the array's bound
  pub array_ends : (w w' k r s pn c b t : ℕ) → w ≤ w' → g * k + r * s ≤ r * pn + c → b ≤ s → pn ≤ t →
      g * (1 + w + k + 0) + r * b ≤ (g * (1 + w') + c) + r * t
  array_ends w w' k r s pn c b t le h from to =
      let a = times_le g w w' le in
      let d = times_le r b s from in
      let e = times_le r pn t to in
      omega arith

  -- an attempt that is dropped
  pub array_drops : (w w' k r s pn c y k' b t : ℕ) → w ≤ w' → g * k + r * s ≤ r * pn + c → g * k' ≤ y → b ≤ s →
      pn ≤ t → g * (1 + w + k + (1 + k')) + r * b ≤ (g * (1 + w') + c + (g + y)) + r * t
  array_drops w w' k r s pn c y k' b t le h dropped from to =
      let a = times_le g w w' le in
      let d = times_le r b s from in
      let e = times_le r pn t to in
      omega arith

  -- a last element that fails
  pub array_fails : (w w' k r q s pn c y k' b m : ℕ) → w ≤ w' → g * k + (r + q) * s ≤ (r + q) * pn + c →
      g * k' + r * pn ≤ y + r * m → b ≤ s → pn ≤ m →
      g * (1 + w + k + (1 + k')) + (r + q) * b ≤ (g * (1 + w') + c + (g + y)) + (r + q) * m
  array_fails w w' k r q s pn c y k' b m le h last from to =
      let a = times_le g w w' le in
      let d = times_le (r + q) b s from in
      let e = times_le q pn m to in
      omega arith

  -- a bound that fails
  pub bound_fails : (w w' c r b m : ℕ) → w ≤ w' → b ≤ m → g * (1 + w) + r * b ≤ (g * (1 + w') + c) + r * m
  bound_fails w w' c r b m le from =
      let a = times_le g w w' le in
      let d = times_le r b m from in
      omega arith

  -- ---- strings

  -- n bytes that aren't 0, and the 0
  pub string_ends : (n s b t : ℕ) → b ≤ s → s + 8 * n + 8 ≤ t → 8 * g * (1 + n + 1) + g * b ≤ 8 * g + g * t
  string_ends n s b t from to =
      let a = times_le g (b + (8 * n + 8)) t (omega arith) in omega arith

  pub string_fails : (n s b t : ℕ) → b ≤ s → s + 8 * n ≤ t → 8 * g * (1 + n + 1) + g * b ≤ 2 * (8 * g) + g * t
  string_fails n s b t from to =
      let a = times_le g (b + 8 * n) t (omega arith) in omega arith

-- ---- what is divided

choice_least : (b : Bool) (x y z : ℕ) → x ≤ y → x ≤ z → x ≤ (if b then y else z)
choice_least true x y z h g = h
choice_least false x y z h g = g

-- the rate that shares x among the bits of each element is enough
pub shared : (x w p e : ℕ) → p + w ≤ e → p < e →
    x + ((if nat_lt x (2 ^ 128) then x / max 1 w else x) + 1) * p ≤
    0 + ((if nat_lt x (2 ^ 128) then x / max 1 w else x) + 1) * e
shared x w p e wide more =
    let d = max 1 w in
    let q = if nat_lt x (2 ^ 128) then x / d else x in
    let here : x / d < x / d + 1 = omega arith in
    let below = below_next x d (omega arith) here in
    let one : x / d ≤ x = div_less x d (omega arith) in
    let up : x / d ≤ q = choice_least (nat_lt x (2 ^ 128)) (x / d) (x / d) x (omega arith) one in
    let a = times_le d (x / d + 1) (q + 1) (omega arith) in
    let c = times_le (q + 1) (p + d) e (omega arith) in
    omega arith
  where
    below_next : (x d : ℕ) → 0 < d → x / d < x / d + 1 → x < (x / d + 1) * d
    below_next x d pos h = (div-lt_iff_lt-mul pos).0 h

    div_less : (x d : ℕ) → 1 ≤ d → x / d ≤ x
    div_less x d pos = let h = div-mul-le_self x d in
        let g = times_le (x / d) 1 d pos in
        omega arith

-- steps from grains
pub in_steps : (g k x : ℕ) → 0 < g → g * k ≤ x → k ≤ (if nat_lt x (2 ^ 128) then x / g else x)
in_steps g k x pos h =
    let a : k ≤ x / g = (le-div_iff_mul-le pos).1 (omega arith) in
    let b = times_le k 1 g (omega arith) in
    choice_least (nat_lt x (2 ^ 128)) k (x / g) x a (omega arith)
