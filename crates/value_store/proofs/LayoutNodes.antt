-- The bytes of values at nodes: the digits of a number are the content of its node.
use Rattle.std.proofs.Common.{◌≡◌, ℕ, Bool, true, false, suc, ◌+◌, ◌-◌, ◌*◌, ◌/◌, ◌%◌, ◌^◌, ◌<◌, ◌≤◌, List, ◌++◌, Option, Some, None, length, take, refl, sym, ◌∙◌, ap, subst, arith}
use Rattle.std.specs.Prelude.{slice_get, unwrap_or, IfSome, ℤ, pos, negsuc}
use Rattle.std.specs.Option.{option_map}
use Rattle.std.specs.Int.{cast_signed, cast_unsigned, w64}
use mir.Val.{SFits}
use Rattle.std.proofs.lemmas.Int.{of_z-to_z}
use Rattle.std.proofs.lemmas.List.{append-nil}
use Rattle.std.proofs.lemmas.Nat.{pow-add, pow_pos}
use Rattle.std.proofs.Math.Facts.{sfits_to_z}
use Rattle.std.proofs.Math.Nat.{mod-add-div, mod-eq_of_lt, mod-lt, add-mul-mod_self_left, div-lt_iff_lt-mul, mul_comm, mul-add, mul-suc}
use Rattle.pickle_meaning.specs.Arithmetic.{modulo}
use Rattle.pickle_meaning.specs.Values.{Value, label_of, members_of, member_at, member_count, gathered}
use Rattle.value_store.specs.declared.store.slots.Node.{Node}
use Rattle.value_store.specs.declared.store.slots.Place.TheVariants as place
use Rattle.value_store.specs.declared.store.slots.Shape.{Shape}
use Rattle.value_store.specs.declared.store.slots.Shape.TheVariants.{Integer, Offset, Text, Integers, Offsets, Records, Array, Struct, Union}
use Rattle.value_store.specs.Labels.{width_of}
use Rattle.value_store.specs.Layouts.{label_row, row_of, rows_of}
use Rattle.value_store.specs.LayoutArrays.{IsNodeCopied}
use Rattle.value_store.specs.Lent.{place_links, place_packed}
use Rattle.value_store.specs.Names.{Names}
use Rattle.value_store.specs.Packed.{bytes_for, number_bytes}
use Rattle.value_store.specs.Slots.{Slots, value_at, trees, label_in, number_in, number_bits, parts_in, IsContent, IsRead, IsSound}
use Rattle.value_store.proofs.Layouts.{length-row}
use Rattle.value_store.proofs.LayoutRows.{HasRoom, row-parts}
use Rattle.value_store.proofs.Linked.{AreParts, parts_of}
use Rattle.value_store.proofs.Packed.{length-number_bytes}

-- a number counted down from a multiple of p, modulo p
flipped : (p m q r : ℕ) → r < p → q < m → (p * m - suc (r + p * q)) % p ≡ p - 1 - r
flipped p m q r below less =
    let e = m - suc q in
    let split : m ≡ suc q + e = omega (arith, less) in
    let whole : p * m ≡ p * q + p + p * e =
    ap (λ x. p * x) split ∙ mul-add p (suc q) e ∙ ap (λ x. x + p * e) (mul-suc p q) in
    let own : p * m - suc (r + p * q) ≡ (p - 1 - r) + p * e = omega (arith, whole, below) in
    ap (λ n. n % p) own ∙ add-mul-mod_self_left (p - 1 - r) p e ∙ mod-eq_of_lt (omega (arith, below))

digits-signed : (w c : ℕ) (z : ℤ) → z ≡ cast_signed w64 c → w ≤ 64 → c < 2 ^ 64 → modulo w z ≡ c % 2 ^ w
unfolding modulo
digits-signed w c (pos n) e most below =
    let same : n ≡ c = ap (cast_unsigned w64) e ∙ of_z-to_z w64 c below in ap (λ m. m % 2 ^ w) same
digits-signed w c (negsuc n) e most below =
    let p = 2 ^ w in
    let m = 2 ^ (64 - w) in
    let some : 0 < p = pow_pos w in
    let all : 2 ^ 64 ≡ p * m =
    let t : 64 ≡ w + (64 - w) = omega (arith, most) in ap (λ k. 2 ^ k) t ∙ pow-add 2 w (64 - w) in
    let is : c ≡ 2 ^ 64 - suc n = sym (of_z-to_z w64 c below) ∙ sym (ap (cast_unsigned w64) e) in
    let fits : SFits w64 (negsuc n) = subst (SFits w64) (sym e) (sfits_to_z (record { fits = below })) in
    let own : n < 2 ^ 64 = omega (arith, fits.sfits) in
    let less : n / p < m = (div-lt_iff_lt-mul some).1 (omega (arith, own, all, mul_comm m p)) in
    let parts : n ≡ n % p + p * (n / p) = sym (mod-add-div n p) in
    let same : c ≡ p * m - suc (n % p + p * (n / p)) = omega (arith, is, all, parts) in
    sym (ap (λ k. k % p) same ∙ flipped p m (n / p) (n % p) (mod-lt n some) less)

-- the last digits of a stored number, with a sign or without
digits-content : (w c : ℕ) (g : Bool) → w ≤ 64 → c < 2 ^ 64 → modulo w (number_in g c) ≡ c % 2 ^ w
unfolding modulo
digits-content w c false most below = refl
digits-content w c true most below = digits-signed w c (cast_signed w64 c) refl most below

-- the bytes of a number
number-shape : (names : Names) (s : Slots) (ts : List Value) (shape : Shape) (start c : ℕ) →
    IsContent s shape start c → 0 < number_bits shape → c < 2 ^ 64 →
    label_row (label_in names s shape c) ++ rows_of (gathered (parts_in s ts shape start c))
    ≡ number_bytes (bytes_for (number_bits shape)) (c % 2 ^ number_bits shape)
number-shape names s ts (Integer w g) start c h p below =
    append-nil _ ∙ ap (number_bytes (bytes_for w)) (digits-content w c g h.1 below)
number-shape names s ts (Offset w g u) start c h p below =
    append-nil _ ∙ ap (number_bytes (bytes_for w)) (digits-content w c g h.1 below)
number-shape names s ts Text start c h p below = absurd (omega (arith, p))
number-shape names s ts (Integers w g) start c h p below = absurd (omega (arith, p))
number-shape names s ts (Offsets w g u) start c h p below = absurd (omega (arith, p))
number-shape names s ts (Records stride size) start c h p below = absurd (omega (arith, p))
number-shape names s ts Array start c h p below = absurd (omega (arith, p))
number-shape names s ts (Struct t) start c h p below = absurd (omega (arith, p))
number-shape names s ts (Union t i) start c h p below = absurd (omega (arith, p))

-- no other shape has a label with a width
width-shape : (names : Names) (s : Slots) (shape : Shape) (c : ℕ) →
    width_of (label_in names s shape c) ≡ number_bits shape
width-shape names s (Integer w g) c = refl
width-shape names s (Offset w g u) c = refl
width-shape names s Text c = refl
width-shape names s (Integers w g) c = refl
width-shape names s (Offsets w g u) c = refl
width-shape names s (Records stride size) c = refl
width-shape names s Array c = refl
width-shape names s (Struct t) c = refl
width-shape names s (Union t i) c = refl

-- what the node at a place says about the bytes of its value
module _ (s : Slots) (at : ℕ) (n : Node) (w : ℕ) (r : IsRead s at n) (is : w ≡ number_bits n.shape) where
  pub node-width : (names : Names) → w ≡ width_of (label_of (value_at names s at))
  node-width names =
      is ∙ sym (width-shape names s n.shape n.content) ∙ sym (ap width_of (r.label names))

  pub node-row : 0 < w → n.content < 2 ^ 64 → (names : Names) →
      row_of (value_at names s at) ≡ number_bytes (bytes_for w) (n.content % 2 ^ w)
  node-row p below names =
      let v = value_at names s at in
      row-parts v
      ∙ ap (λ l. label_row l ++ rows_of (members_of v)) (r.label names)
      ∙ ap (λ ms. label_row (label_in names s n.shape n.content) ++ rows_of ms) (r.members names)
      ∙ number-shape names s (take at (trees names s)) n.shape n.start n.content r.content (omega (arith, is, p)) below
      ∙ ap (λ k. number_bytes (bytes_for k) (n.content % 2 ^ k)) (sym is)

  pub node-room : (count : ℕ) → 0 < w → n.content < 2 ^ 64 → IsNodeCopied s at count → count + bytes_for w ≤ 512
  node-room count p below h = omega (
    arith,
    h.few,
    length-row (value_at h.names s at),
    ap length (node-row p below h.names),
    length-number_bytes (bytes_for w) (n.content % 2 ^ w),
  )

-- a value at a node has room
pub copied-room : (s : Slots) (at count : ℕ) → IsNodeCopied s at count → HasRoom (λ names. value_at names s at) count
copied-room s at count h = record { names = h.names; fixed = h.fixed; few = h.few }

-- the links of a node that is no packed array are those of its members
module _ (s : Slots) (at : ℕ) (links : List (Option ℕ)) (sound : IsSound s) (there : at < length s.nodes)
    (own : links ≡ place_links s (place.Node at)) (none : 0 ≡ place_packed s (place.Node at)) where
  parts : AreParts s (place.Node at) links 0
  parts = parts_of s (place.Node at) links 0 sound there own none

  pub links-all : (names : Names) → length links ≡ member_count (members_of (value_at names s at))
  links-all names = parts.link_count names refl

  pub link-found : (i node : ℕ) → slice_get links i ≡ Some (Some node) → (names : Names) →
      Some (value_at names s node) ≡ member_at (members_of (value_at names s at)) i
  link-found i node e names =
      ap (λ o. option_map (value_at names s) (unwrap_or o None)) (sym e) ∙ parts.link_part names i (omega arith)

  pub link-none : (i : ℕ) → slice_get links i ≡ Some None → (names : Names) →
      None ≡ member_at (members_of (value_at names s at)) i
  link-none i e names =
      ap (λ o. option_map (value_at names s) (unwrap_or o None)) (sym e) ∙ parts.link_part names i (omega arith)

  pub link-below : (i node : ℕ) → slice_get links i ≡ Some (Some node) → node < at
  link-below i node e =
      let h : suc node < suc at =
      subst (λ o. IfSome (unwrap_or o None) (λ j. suc j < suc at)) e (parts.link_below i) in
      omega (arith, h)

  pub link-there : (i node : ℕ) → slice_get links i ≡ Some (Some node) → node < length s.nodes
  link-there i node e = omega (arith, there, link-below i node e)
