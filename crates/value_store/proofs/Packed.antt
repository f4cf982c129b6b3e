-- Numbers side by side in bytes, and back.
use Rattle.std.proofs.Common.{◌≡◌, ℕ, zero, suc, ◌+◌, ◌*◌, ◌/◌, ◌%◌, ◌^◌, ◌<◌, ◌≤◌, List, [], ◌∷◌, ◌++◌, length, take, refl, sym, ◌∙◌, ap, arith, lit<}
use Rattle.std.specs.Prelude.{All}
use Rattle.std.specs.Int.{bytes_low_first, byte_at, to_le_bytes, w64}
use Rattle.std.proofs.Math.Nat.{div-div-eq-div-mul, div-lt_iff_lt-mul, mod-add-div, mul_comm, mul-suc, mul-zero, mul-div_cancel_left, pow-le-pow_right, pow-suc}
use Rattle.std.proofs.lemmas.List.{append_assoc, append-nil, length-append, take_at, drop_at}
use Rattle.std.proofs.lemmas.Nat.{pow-add}
use Rattle.value_store.specs.Packed.{bytes_for, number_bytes, bytes_number, packed, unpacked, numbers_in}

-- the bytes of one number

pub length-number_bytes : (k n : ℕ) → length (number_bytes k n) ≡ k
length-number_bytes zero n = refl
length-number_bytes (suc k) n = ap suc (length-number_bytes k (n / 256))

byte_at-above : (i n : ℕ) → byte_at (suc i) n ≡ byte_at i (n / 256)
byte_at-above zero n = refl
byte_at-above (suc i) n =
    let power : 256 ^ suc (suc i) ≡ 256 * 256 ^ suc i = pow-suc 256 (suc i) ∙ mul_comm (256 ^ suc i) 256 in
    ap (λ m. n / m % 256) power ∙ ap (λ m. m % 256) (sym (div-div-eq-div-mul n 256 (256 ^ suc i)))

low_first-above : (i k n : ℕ) → bytes_low_first (suc i) k n ≡ bytes_low_first i k (n / 256)
low_first-above i zero n = refl
low_first-above i (suc k) n = let b = byte_at-above i n in let r = low_first-above (suc i) k n in cc

low_first : (k n : ℕ) → bytes_low_first 0 k n ≡ number_bytes k n
low_first zero n = refl
low_first (suc k) n = ap (λ bs. n % 256 ∷ bs) (low_first-above 0 k n ∙ low_first k (n / 256))

low_first-take : (k i m n : ℕ) → k ≤ m → take k (bytes_low_first i m n) ≡ bytes_low_first i k n
low_first-take zero i m n h = refl
low_first-take (suc k) i zero n h = absurd (omega arith)
low_first-take (suc k) i (suc m) n h = ap (λ bs. byte_at i n ∷ bs) (low_first-take k (suc i) m n (omega arith))

-- the lowest bytes of a number of 64 bits
pub le_bytes-take : (k n : ℕ) → k ≤ 8 → take k (to_le_bytes w64 n) ≡ number_bytes k n
le_bytes-take k n h = low_first-take k 0 8 n h ∙ low_first k n

-- a number that its bytes can hold is read back
pub bytes_number-bytes : (k n : ℕ) → n < 256 ^ k → bytes_number (number_bytes k n) ≡ n
bytes_number-bytes zero n h = omega arith
bytes_number-bytes (suc k) n h =
    let below : n / 256 < 256 ^ k = (div-lt_iff_lt-mul (lit< tt)).1 (omega (arith, h, pow-suc 256 k)) in
    ap (λ m. n % 256 + 256 * m) (bytes_number-bytes k (n / 256) below) ∙ mod-add-div n 256

pow-bytes : (k : ℕ) → 2 ^ (8 * k) ≡ 256 ^ k
pow-bytes zero = refl
pow-bytes (suc k) =
    ap (λ m. 2 ^ m) (mul-suc 8 k) ∙ pow-add 2 (8 * k) 8 ∙ ap (λ m. m * 256) (pow-bytes k) ∙ sym (pow-suc 256 k)

-- enough bytes for the bits
pub bits-below : (width k n : ℕ) → width ≤ 8 * k → n < 2 ^ width → n < 256 ^ k
bits-below width k n h lt =
    let two-some : 0 < 2 = lit< tt in
    omega (arith, lt, pow-le-pow_right two-some h, pow-bytes k)

-- numbers side by side

pub length-packed : (k : ℕ) (ns : List ℕ) → length (packed k ns) ≡ k * length ns
length-packed k [] = sym (mul-zero k)
length-packed k (n ∷ ns) = omega (
  arith,
  length-append (number_bytes k n) (packed k ns),
  length-number_bytes k n,
  length-packed k ns,
  mul-suc k (length ns),
)

pub packed-push : (k n : ℕ) (ns : List ℕ) → packed k (ns ++ n ∷ []) ≡ packed k ns ++ number_bytes k n
packed-push k n [] = append-nil (number_bytes k n)
packed-push k n (m ∷ ns) = ap (λ bs. number_bytes k m ++ bs) (packed-push k n ns)
    ∙ sym (append_assoc (number_bytes k m) (packed k ns) (number_bytes k n))

unpacked-packed : (k width : ℕ) (ns : List ℕ) → width ≤ 8 * k → All (λ n. n < 2 ^ width) ns →
    unpacked k (length ns) (packed k ns) ≡ ns
unpacked-packed k width [] h all = refl
unpacked-packed k width (n ∷ ns) h all =
    let t = take_at (number_bytes k n) (packed k ns) k (length-number_bytes k n) in
    let d = drop_at (number_bytes k n) (packed k ns) k (length-number_bytes k n) in
    let first = bytes_number-bytes k n (bits-below width k n h (all 0 0 (omega arith))) in
    let rest = unpacked-packed k width ns h (λ i d lt. all (suc i) d (omega arith)) in
    cc

-- a width has enough bytes
pub bytes_for-enough : (width : ℕ) → width ≤ 8 * bytes_for width
bytes_for-enough width = omega arith

pub bytes_for-some : (width : ℕ) → 1 ≤ width → 0 < bytes_for width
bytes_for-some width h = omega arith

pub bytes_for-most : (width : ℕ) → width ≤ 64 → bytes_for width ≤ 8
bytes_for-most width h = omega arith

-- packed numbers are read back
pub numbers_in-packed : (width : ℕ) (ns : List ℕ) → 1 ≤ width → All (λ n. n < 2 ^ width) ns →
    numbers_in width (packed (bytes_for width) ns) ≡ ns
numbers_in-packed width ns some all =
    let k = bytes_for width in
    let count : length (packed k ns) / k ≡ length ns =
    ap (λ (m : ℕ). m / k) (length-packed k ns) ∙ mul-div_cancel_left (length ns) (bytes_for-some width some) in
    ap (λ m. unpacked k m (packed k ns)) count ∙ unpacked-packed k width ns (bytes_for-enough width) all

-- bytes of at least one number are at least one
pub packed-none : (width : ℕ) (ns : List ℕ) → 1 ≤ width → packed (bytes_for width) ns ≡ [] → ns ≡ []
packed-none width [] some e = refl
packed-none width (n ∷ ns) some e =
    absurd (omega (
      arith,
      ap length e,
      length-append (number_bytes (bytes_for width) n) (packed (bytes_for width) ns),
      length-number_bytes (bytes_for width) n,
      bytes_for-some width some,
    ))
