-- The values borrowed from nodes and from arrays of packed numbers.
use Rattle.std.proofs.Common.{◌≡◌, ℕ, Bool, zero, suc, ◌+◌, ◌-◌, ◌*◌, ◌/◌, ◌<◌, ◌≤◌, ◌^◌, List, [], ◌∷◌, Option, Some, length, take, drop, pow_mono, refl, sym, ◌∙◌, ap, subst, arith, rules}
use Rattle.std.specs.Prelude.{◌%◌, slice_range, slice_get, slice_index, slice_index_or}
use Rattle.std.proofs.lemmas.List.{drop-drop, get_or-drop, drop_more, length-drop}
use Rattle.std.proofs.lemmas.Nat.{pow-add, div-add-mod', mul-le}
use Rattle.value_store.specs.declared.store.slots.Shape.{Shape}
use Rattle.value_store.specs.Packed.{bytes_number, unpacked, numbers_in, bytes_for}
use Rattle.value_store.specs.Slots.{Slots, elements, element_value, element_width, row_numbers, label_in, value_at, IsContent, IsRead}
use Rattle.value_store.specs.declared.store.slots.Node.{Node}
use Rattle.value_store.specs.declared.store.slots.Shape.TheVariants.{Integer, Offset, Text, Integers, Offsets, Records, Array, Struct, Union}
use Rattle.value_store.specs.Labels.{number_of, bytes_of}
use Rattle.pickle_meaning.specs.Arithmetic.{with_sign}
use Rattle.pickle_meaning.specs.Values.{label_of}
use Rattle.pickle_types.specs.declared.integer.IntegerType.{IntegerType}
use Rattle.value_store.specs.Names.{Names}
use Rattle.value_store.specs.Lent.{element_in, shape_label, HasWidth, IsShapeOf}

pub length-unpacked : (k n : ℕ) (bs : List ℕ) → length (unpacked k n bs) ≡ n
length-unpacked k zero bs = refl
length-unpacked k (suc n) bs = ap suc (length-unpacked k n (drop k bs))

-- a packed number is that of its bytes
pub unpacked-at : (k n : ℕ) (bs : List ℕ) (i : ℕ) → i < n →
    slice_index (unpacked k n bs) i ≡ bytes_number (take k (drop (k * i) bs))
unpacked-at k zero bs i p = omega arith
unpacked-at k (suc n) bs zero p = let e : k * 0 ≡ 0 = omega arith in rw e refl
unpacked-at k (suc n) bs (suc i) p =
    let e : k * suc i ≡ k + k * i = omega arith in
    unpacked-at k n (drop k bs) i (omega arith) ∙ ap (λ xs. bytes_number (take k xs)) (drop-drop (k * i) k bs)
    ∙ ap (λ m. bytes_number (take k (drop m bs))) (sym e)

pub length-elements : (shape : Shape) (start : ℕ) (ns : List ℕ) → length (elements shape start ns) ≡ length ns
length-elements shape start [] = refl
length-elements shape start (n ∷ ns) = ap suc (length-elements shape (start + element_width shape) ns)

pub elements-at : (shape : Shape) (start : ℕ) (ns : List ℕ) (i : ℕ) → i < length ns →
    slice_get (elements shape start ns) i
    ≡ Some (Some (element_value shape (start + element_width shape * i) (slice_index ns i)))
elements-at shape start [] i p = search rules
elements-at shape start (n ∷ ns) zero p = let e : start + element_width shape * 0 ≡ start = omega arith in rw e refl
elements-at shape start (n ∷ ns) (suc i) p =
    let w = element_width shape in
    let e : (start + w) + w * i ≡ start + w * suc i = omega arith in
    elements-at shape (start + w) ns i (omega arith)
    ∙ ap (λ at. Some (Some (element_value shape at (slice_index ns i)))) e

-- n bytes make a number below 256 ^ n
pub bytes_number-below : (bs : List ℕ) → ((i : ℕ) → slice_index_or bs i 0 < 256) → bytes_number bs < 2 ^ (8 * length bs)
bytes_number-below [] h = omega arith
bytes_number-below (b ∷ bs) h =
    let first : b < 256 = h 0 in
    let rest : bytes_number bs < 2 ^ (8 * length bs) = bytes_number-below bs (λ i. h (suc i)) in
    let n : 8 * suc (length bs) ≡ 8 + 8 * length bs = omega arith in
    let e : 2 ^ (8 * suc (length bs)) ≡ 256 * 2 ^ (8 * length bs) = ap (λ m. 2 ^ m) n ∙ pow-add 2 8 (8 * length bs) in
    omega (arith, first, rest, e)

-- so do the last bytes, with one more before them
pub last_bytes-below : (bs : List ℕ) (i : ℕ) → i < length bs → length bs ≤ 8 → ((k : ℕ) → slice_index_or bs k 0 < 256) →
    bytes_number (drop (length bs - i) bs) * 256 + slice_index_or bs (length bs - 1 - i) 0 < 2 ^ 64
last_bytes-below bs i p most h =
    let at = length bs - 1 - i in
    let next : at + 1 ≡ length bs - i = omega (arith, p) in
    let own : drop at bs ≡ slice_index_or bs at 0 ∷ drop (at + 1) bs = drop_more bs at 0 (omega (arith, p)) in
    let below : bytes_number (drop at bs) < 2 ^ (8 * length (drop at bs)) =
    bytes_number-below (drop at bs) (λ k. subst (λ x. x < 256) (sym (get_or-drop at bs k 0)) (h (at + k))) in
    let wide : 2 ^ (8 * length (drop at bs)) ≤ 2 ^ 64 = pow_mono {j = 64} (omega (arith, length-drop at bs, most)) in
    let is : bytes_number (drop at bs) ≡ slice_index_or bs at 0 + 256 * bytes_number (drop (length bs - i) bs) =
    ap bytes_number own ∙ ap (λ m. slice_index_or bs at 0 + 256 * bytes_number (drop m bs)) next in
    omega (arith, below, wide, is)

pub length-numbers : (w : ℕ) (bs : List ℕ) → length (numbers_in w bs) ≡ length bs / bytes_for w
length-numbers w bs = length-unpacked (bytes_for w) (length bs / bytes_for w) bs

-- numbers of one byte each are these bytes
pub byte_numbers : (w : ℕ) (bs : List ℕ) → 1 ≤ w → w ≤ 8 → numbers_in w bs ≡ bs
byte_numbers w bs some most =
    let one : bytes_for w ≡ 1 = omega arith in
    let all : length bs / 1 ≡ length bs = omega arith in
    ap (λ k. unpacked k (length bs / k) bs) one ∙ ap (λ n. unpacked 1 n bs) all ∙ unpacked-bytes bs
  where
    unpacked-bytes : (bs : List ℕ) → unpacked 1 (length bs) bs ≡ bs
    unpacked-bytes [] = refl
    unpacked-bytes (b ∷ bs) =
        let last : b + 256 * 0 ≡ b = omega arith in
        ap (λ n. n ∷ unpacked 1 (length bs) bs) last ∙ ap (λ ns. b ∷ ns) (unpacked-bytes bs)

-- a whole row of k is less than n
row_within : (n k i : ℕ) → i < n / k → i * k + k ≤ n
row_within n k i p =
    let whole : n / k * k + n % k ≡ n = div-add-mod' n k in
    let less : (i + 1) * k ≤ n / k * k = mul-le (i + 1) k (n / k) k (omega arith) (omega arith) in
    omega (arith, whole, less)

-- the bytes of a number are there
pub number_within : (w : ℕ) (bs : List ℕ) (i : ℕ) → i < length (numbers_in w bs) →
    i * bytes_for w + bytes_for w ≤ length bs
number_within w bs i p = row_within (length bs) (bytes_for w) i (omega (arith, p, length-numbers w bs))

pub number-at : (w : ℕ) (bs : List ℕ) (i : ℕ) → i < length (numbers_in w bs) →
    slice_index (numbers_in w bs) i ≡ bytes_number (slice_range bs (i * bytes_for w) (i * bytes_for w + bytes_for w))
number-at w bs i p =
    let k = bytes_for w in
    let below : i < length bs / k = omega (arith, p, length-numbers w bs) in
    let at : k * i ≡ i * k = omega arith in
    let size : k ≡ (i * k + k) - i * k = omega arith in
    unpacked-at k (length bs / k) bs i below
    ∙ ap (λ m. bytes_number (take k (drop m bs))) at ∙ ap (λ m. bytes_number (take m (drop (i * k) bs))) size

label_shape : (names : Names) (s : Slots) (shape : Shape) (c : ℕ) → label_in names s shape c
    ≡ shape_label names shape (number_of (label_in [] s shape c)) (bytes_of (label_in [] s shape c))
label_shape names s (Integer w g) c = refl
label_shape names s (Offset w g u) c = refl
label_shape names s Text c = refl
label_shape names s (Integers w g) c = refl
label_shape names s (Offsets w g u) c = refl
label_shape names s (Records stride size) c = refl
label_shape names s Array c = refl
label_shape names s (Struct of) c = refl
label_shape names s (Union taken of) c = refl

pub content_width : (s : Slots) (shape : Shape) (start c : ℕ) → IsContent s shape start c → HasWidth shape
content_width s (Integer w g) start c h = h
content_width s (Offset w g u) start c h = h
content_width s Text start c h = tt
content_width s (Integers w g) start c h = tt
content_width s (Offsets w g u) start c h = tt
content_width s (Records stride size) start c h = tt
content_width s Array start c h = tt
content_width s (Struct of) start c h = tt
content_width s (Union taken of) start c h = tt

-- the value of a node has its shape
pub shape_read : (s : Slots) (at : ℕ) (n : Node) → IsRead s at n → IsShapeOf n.shape (λ names. value_at names s at)
shape_read s at n r = record {
  number = number_of (label_in [] s n.shape n.content);
  bytes = bytes_of (label_in [] s n.shape n.content);
  label = λ names. r.label names ∙ label_shape names s n.shape n.content;
  width = content_width s n.shape n.start n.content r.content;
}

-- an element is an integer or an offset of its row's type
pub integer_shape : (s : Slots) (o : Option Node) (n : Node) (i w : ℕ) (g : Bool) → o ≡ Some n →
    n.shape ≡ Integers w g → IsContent s n.shape n.start n.content →
    IsShapeOf (Integer w g) (λ names. element_in s o i)
integer_shape s o n i w g got is h =
    let type : IntegerType = record { width = w; signed = g } in
    let own : IsContent s (Integers w g) n.start n.content = subst (λ x. IsContent s x n.start n.content) is h in
    let found : element_in s o i
    ≡ element_value (Integers w g) (n.start + w * i) (slice_index (row_numbers s w n.content) i) =
    ap (λ x. element_in s x i) got
    ∙ ap (λ x.
    element_value x (n.start + element_width x * i) (slice_index (row_numbers s (element_width x) n.content) i)) is in
    record {
      number = with_sign type (slice_index (row_numbers s w n.content) i);
      bytes = [];
      label = λ names. ap label_of found;
      width = (own.1.some, own.1.most);
    }

pub offset_shape : (s : Slots) (o : Option Node) (n : Node) (i w : ℕ) (g : Bool) (u : ℕ) → o ≡ Some n →
    n.shape ≡ Offsets w g u → IsContent s n.shape n.start n.content →
    IsShapeOf (Offset w g u) (λ names. element_in s o i)
offset_shape s o n i w g u got is h =
    let type : IntegerType = record { width = w; signed = g } in
    let own : IsContent s (Offsets w g u) n.start n.content = subst (λ x. IsContent s x n.start n.content) is h in
    let found : element_in s o i
    ≡ element_value (Offsets w g u) (n.start + w * i) (slice_index (row_numbers s w n.content) i) =
    ap (λ x. element_in s x i) got
    ∙ ap (λ x.
    element_value x (n.start + element_width x * i) (slice_index (row_numbers s (element_width x) n.content) i)) is in
    record {
      number = with_sign type (slice_index (row_numbers s w n.content) i);
      bytes = [];
      label = λ names. ap label_of found;
      width = (own.1.0.some, own.1.0.most, own.1.1);
    }
