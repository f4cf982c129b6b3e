-- Packed numbers are stored as the bytes that a row has of them.
use Rattle.std.proofs.Common.{◌≡◌, ℕ, zero, suc, ◌+◌, ◌*◌, ◌/◌, ◌%◌, ◌^◌, ◌<◌, ◌≤◌, List, [], ◌∷◌, ◌++◌, Result, Ok, Err, OnOk, IsOk, ◌↔◌, length, take, drop, refl, sym, ◌∙◌, ap, subst, arith}
use Rattle.std.specs.Prelude.{All, slice_index_or}
use Rattle.std.proofs.Math.Nat.{mul-zero, mul-suc, mul_comm, div-mul-le_self}
use Rattle.std.proofs.Math.Seq.{take-add}
use Rattle.std.proofs.lemmas.Bool.{false≢true}
use Rattle.std.proofs.lemmas.List.{append-nil, get_or-drop, length-drop, length-take}
use Rattle.pickle_types.specs.declared.integer.IntegerType.{IntegerType}
use Rattle.pickle_meaning.specs.Values.{Value, gathered, members_of}
use Rattle.value_store.specs.declared.store.slots.Node.{Node}
use Rattle.value_store.specs.declared.store.slots.Shape.{Shape}
use Rattle.value_store.specs.declared.store.slots.Shape.TheVariants.{Integer, Offset, Text, Integers, Offsets, Records, Array, Struct, Union}
use Rattle.value_store.specs.LayoutArrays.{IsNodeCopied}
use Rattle.value_store.specs.Layouts.{label_row, row_of, rows_of}
use Rattle.value_store.specs.Names.{Names}
use Rattle.value_store.specs.Packed.{bytes_for, number_bytes, bytes_number, packed, unpacked, numbers_in}
use Rattle.value_store.specs.Slots.{Slots, value_at, trees, label_in, parts_in, elements, element_width, row_numbers, IsContent, IsRead}
use Rattle.value_store.proofs.Layouts.{length-row}
use Rattle.value_store.proofs.LayoutRows.{row-parts}
use Rattle.value_store.proofs.Moduli.{digits_again}

-- each of these is a byte
abbrev pub Bytes : List ℕ → Type 0
Bytes bs = (i : ℕ) → slice_index_or bs i 0 < 256

bytes-drop : (k : ℕ) (bs : List ℕ) → Bytes bs → Bytes (drop k bs)
bytes-drop k bs h = λ i. subst (λ x. x < 256) (sym (get_or-drop k bs i 0)) (h (k + i))

bytes-take : (k : ℕ) (bs : List ℕ) → Bytes bs → Bytes (take k bs)
bytes-take zero bs h i = omega arith
bytes-take (suc k) [] h i = h i
bytes-take (suc k) (b ∷ bs) h zero = h 0
bytes-take (suc k) (b ∷ bs) h (suc i) = bytes-take k bs (λ j. h (suc j)) i

-- the bytes of the number that bytes are
number_again : (bs : List ℕ) → Bytes bs → number_bytes (length bs) (bytes_number bs) ≡ bs
number_again [] h = refl
number_again (b ∷ bs) h =
    let first : b < 256 = h 0 in
    let low : (b + 256 * bytes_number bs) % 256 ≡ b = omega (arith, first) in
    let rest : (b + 256 * bytes_number bs) / 256 ≡ bytes_number bs = omega (arith, first) in
    ap (λ n. n ∷ number_bytes (length bs) ((b + 256 * bytes_number bs) / 256)) low
    ∙ ap (λ n. b ∷ number_bytes (length bs) n) rest
    ∙ ap (λ xs. b ∷ xs) (number_again bs (λ i. h (suc i)))

-- so many numbers, from their bytes
packed_again : (k n : ℕ) (bs : List ℕ) → k * n ≤ length bs → Bytes bs → packed k (unpacked k n bs) ≡ take (k * n) bs
packed_again k zero bs fits h = sym (ap (λ m. take m bs) (mul-zero k))
packed_again k (suc n) bs fits h =
    let own = take k bs in
    let more : k * suc n ≡ k + k * n = omega (arith, mul-suc k n) in
    let count : length own ≡ k = omega (arith, fits, more, length-take k bs) in
    let first : number_bytes k (bytes_number own) ≡ own =
    ap (λ m. number_bytes m (bytes_number own)) (sym count) ∙ number_again own (bytes-take k bs h) in
    let left : k * n ≤ length (drop k bs) = omega (arith, fits, more, length-drop k bs) in
    ap (λ xs. xs ++ packed k (unpacked k n (drop k bs))) first
    ∙ ap (λ xs. own ++ xs) (packed_again k n (drop k bs) left (bytes-drop k bs h))
    ∙ sym (take-add k (k * n) bs) ∙ sym (ap (λ m. take m bs) more)

-- the bytes of all whole numbers
pub numbers_again : (width : ℕ) (bs : List ℕ) → Bytes bs →
    take (length bs / bytes_for width * bytes_for width) bs ≡ packed (bytes_for width) (numbers_in width bs)
numbers_again width bs h =
    let k = bytes_for width in
    let n = length bs / k in
    let fits : k * n ≤ length bs = omega (arith, div-mul-le_self (length bs) k, mul_comm n k) in
    ap (λ m. take m bs) (mul_comm n k) ∙ sym (packed_again k n bs fits h)

-- bytes behind others, which have room
pub extended : {E : Type 0} (r : Result (Unit {0}) E) (old new own : List ℕ) → length old + length own ≤ 512 →
    (IsOk r ↔ (length old + length own ≤ 512)) → OnOk r (new ≡ old ++ own) → new ≡ old ++ own
extended (Ok u) old new own room fits h = h
extended (Err e) old new own room fits h = absurd (false≢true (fits.1 room))

-- a row has the bytes of an array's numbers
integers-row : (type : IntegerType) (start : ℕ) (ns : List ℕ) → All (λ n. n < 2 ^ type.width) ns →
    rows_of (gathered (elements (Integers type.width type.signed) start ns)) ≡ packed (bytes_for type.width) ns
integers-row type start [] h = refl
integers-row type start (n ∷ ns) h =
    let w = type.width in
    let rest = rows_of (gathered (elements (Integers w type.signed) (start + w) ns)) in
    let one = append-nil _ ∙ ap (number_bytes (bytes_for w)) (digits_again type n (h 0 0 (omega arith))) in
    ap (λ bs. bs ++ rest) one
    ∙ ap (λ bs. number_bytes (bytes_for w) n ++ bs)
    (integers-row type (start + w) ns (λ i d less. h (suc i) d (omega (arith, less))))

offsets-row : (type : IntegerType) (unit start : ℕ) (ns : List ℕ) → All (λ n. n < 2 ^ type.width) ns →
    rows_of (gathered (elements (Offsets type.width type.signed unit) start ns)) ≡ packed (bytes_for type.width) ns
offsets-row type unit start [] h = refl
offsets-row type unit start (n ∷ ns) h =
    let w = type.width in
    let rest = rows_of (gathered (elements (Offsets w type.signed unit) (start + w) ns)) in
    let one = append-nil _ ∙ ap (number_bytes (bytes_for w)) (digits_again type n (h 0 0 (omega arith))) in
    ap (λ bs. bs ++ rest) one
    ∙ ap (λ bs. number_bytes (bytes_for w) n ++ bs)
    (offsets-row type unit (start + w) ns (λ i d less. h (suc i) d (omega (arith, less))))

numbers-shape : (names : Names) (s : Slots) (ts : List Value) (shape : Shape) (start c : ℕ) →
    IsContent s shape start c → 0 < element_width shape →
    label_row (label_in names s shape c) ++ rows_of (gathered (parts_in s ts shape start c))
    ≡ packed (bytes_for (element_width shape)) (row_numbers s (element_width shape) c)
numbers-shape names s ts (Integer w g) start c h p = absurd (omega (arith, p))
numbers-shape names s ts (Offset w g u) start c h p = absurd (omega (arith, p))
numbers-shape names s ts Text start c h p = absurd (omega (arith, p))
numbers-shape names s ts (Integers w g) start c h p =
    integers-row (record { width = w; signed = g }) start (row_numbers s w c) h.1.below
numbers-shape names s ts (Offsets w g u) start c h p =
    offsets-row (record { width = w; signed = g }) u start (row_numbers s w c) h.1.0.below
numbers-shape names s ts (Records stride size) start c h p = absurd (omega (arith, p))
numbers-shape names s ts Array start c h p = absurd (omega (arith, p))
numbers-shape names s ts (Struct t) start c h p = absurd (omega (arith, p))
numbers-shape names s ts (Union t i) start c h p = absurd (omega (arith, p))

-- what the node of packed numbers says about their bytes
module _ (s : Slots) (at : ℕ) (n : Node) (w : ℕ) (r : IsRead s at n) (is : w ≡ element_width n.shape) (p : 0 < w) where
  pub numbers-row : (names : Names) → row_of (value_at names s at) ≡ packed (bytes_for w) (row_numbers s w n.content)
  numbers-row names =
      let v = value_at names s at in
      row-parts v
      ∙ ap (λ l. label_row l ++ rows_of (members_of v)) (r.label names)
      ∙ ap (λ ms. label_row (label_in names s n.shape n.content) ++ rows_of ms) (r.members names)
      ∙ numbers-shape names s (take at (trees names s)) n.shape n.start n.content r.content (omega (arith, is, p))
      ∙ ap (λ k. packed (bytes_for k) (row_numbers s k n.content)) (sym is)

  pub numbers-room : (count : ℕ) → IsNodeCopied s at count →
      count + length (packed (bytes_for w) (row_numbers s w n.content)) ≤ 512
  numbers-room count h = omega (
    arith,
    h.few,
    length-row (value_at h.names s at),
    ap length (numbers-row h.names),
  )
