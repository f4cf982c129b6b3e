-- What the calls that read packed structs rest on.
use mathlib.Core.Logic.{∥∥₁_elim}
use Rattle.std.proofs.Common.{◌≡◌, ℕ, Bool, true, false, suc, ◌+◌, ◌-◌, ◌*◌, ◌/◌, ◌<◌, ◌≤◌, ◌^◌, ◌⊎◌, inl, inr, List, [], Option, Some, None, length, take, drop, refl, sym, ◌∙◌, ap, subst, arith}
use Rattle.std.specs.Prelude.{slice_get, slice_index_or, unsigned_abs}
use Rattle.std.specs.Coded.{le_prop}
use Rattle.std.specs.Int.{w64}
use Rattle.std.proofs.Math.Nat.{mul-le-mul_left, mul-suc}
use Rattle.std.proofs.lemmas.Int.{to_z_pos}
use Rattle.std.proofs.lemmas.List.{drop-drop, drop-take, length-drop, length-take, take-take}
use Rattle.std.proofs.lemmas.Option.{slice_get-get_or}
use Rattle.value_store.specs.declared.store.slots.Node.{Node}
use Rattle.value_store.specs.declared.store.slots.Place.{Place}
use Rattle.value_store.specs.declared.store.slots.Place.TheVariants as place
use Rattle.value_store.specs.declared.store.slots.Shape.{Shape}
use Rattle.value_store.specs.declared.store.slots.Shape.TheVariants.{Integer, Offset, Text, Integers, Offsets, Records, Array, Struct, Union}
use Rattle.pickle_types.specs.declared.integer.IntegerType.{IntegerType}
use Rattle.pickle_meaning.specs.Arithmetic.{with_sign}
use Rattle.pickle_meaning.specs.Values.{label_of, start_of, end_of}
use Rattle.value_store.specs.Labels.{number_of, bytes_of}
use Rattle.value_store.specs.Names.{Names}
use Rattle.value_store.specs.Packed.{bytes_for, bytes_number}
use Rattle.value_store.specs.Records.{number_read, label_read, instance}
use Rattle.value_store.specs.Lent.{place_value, part_in, row_in, part_digits, record_size, record_stride, struct_count, shape_label, IsPlace, IsShapeOf, element_in}
use Rattle.value_store.specs.Slots.{Slots, part, text_bytes, record_count, label_in, number_in, element_value, value_at, IsNumber, IsComposite, IsContent, number_bits, IsTemplatePart, NumberPart, BranchPart, IsSound, IsRead}
use Rattle.value_store.proofs.Found.{read-node}
use Rattle.value_store.proofs.Instances.{IsPartOf, is_part, instance-label, instance-start, instance-end, records-shape, records-content, template_of}
use Rattle.value_store.proofs.Lent.{content_width, shape_read}
use Rattle.value_store.proofs.Linked.{part_node, part_within}
use Rattle.value_store.proofs.Templates.{number-composite}

some-same : {A : Type 0} (o : Option A) (x y : A) → o ≡ Some x → o ≡ Some y → x ≡ y
some-same o x y e f = cc

-- a part of an array of packed structs whose node was read
pub record IsPartRead (s : Slots) (own : Node) (i j stride size : ℕ) : Type 0 where
  pub there : i < record_count s stride own.content
  pub content : IsContent s (Records stride size) own.start own.content
  pub few : stride ≤ 2 ^ 16
  pub part : ∥ IsTemplatePart s size stride own.start (text_bytes s.texts s.bytes own.content) j ∥₁

pub part_in_array : (s : Slots) (a i j : ℕ) (own : Node) (stride size : ℕ) → IsSound s → IsPartOf s a i j →
    slice_get s.nodes a ≡ Some own → own.shape ≡ Records stride size →
    IsPartRead s own i j stride size
part_in_array s a i j own stride size sound p found is =
    let same : p.own ≡ own = some-same (slice_get s.nodes a) p.own own p.found found in
    let shape : p.own.shape ≡ Records stride size = ap (λ (m : Node). m.shape) same ∙ is in
    let there : i < record_count s stride p.own.content =
    subst (λ x. i < struct_count s x p.own.content) shape p.there in
    let own_part = subst (λ x.
    ∥ IsTemplatePart s (record_size x) (record_stride x) p.own.start (text_bytes s.texts s.bytes p.own.content) j ∥₁)
    shape p.part in
    record {
      there = subst (λ (m : Node). i < record_count s stride m.content) same there;
      content = records-content s sound a own stride size found is;
      few = (template_of s sound a own stride size found is).few;
      part = subst (λ (m : Node). ∥ IsTemplatePart s size stride m.start (text_bytes s.texts s.bytes m.content) j ∥₁)
          same own_part;
    }

-- the array has packed structs
pub array_shape : (s : Slots) (a i j : ℕ) (own : Node) → IsPartOf s a i j → slice_get s.nodes a ≡ Some own →
    (stride : ℕ) × (size : ℕ) × (own.shape ≡ Records stride size)
array_shape s a i j own p found =
    let same : p.own ≡ own = some-same (slice_get s.nodes a) p.own own p.found found in
    records-shape s own.shape own.content i (subst (λ (m : Node). i < struct_count s m.shape m.content) same p.there)

-- the value of a part, from the node that was read
module _ (names : Names) (s : Slots) (a i j : ℕ) (own n : Node) (array : slice_get s.nodes a ≡ Some own)
    (r : IsRead s j n) where
  pub part-is : part_in names s (slice_get s.nodes a) i j
      ≡ instance (value_at names s j) (record_size own.shape * i) (row_in s own i)
  part-is = ap (λ o. part_in names s o i j) array

  pub part-label : label_of (part_in names s (slice_get s.nodes a) i j)
      ≡ label_read (label_in names s n.shape n.content) (row_in s own i)
  part-label =
      ap label_of part-is
      ∙ instance-label (value_at names s j) (record_size own.shape * i) (row_in s own i)
      ∙ ap (λ l. label_read l (row_in s own i)) (r.label names)

-- a part has the size of the template's part
pub part_end : (names : Names) (s : Slots) (a i j count : ℕ) → IsPartOf s a i j →
    start_of (value_at names s j) + count ≡ end_of (value_at names s j) →
    start_of (part_in names s (slice_get s.nodes a) i j) + count ≡ end_of (part_in names s (slice_get s.nodes a) i j)
part_end names s a i j count p h =
    let v = value_at names s j in
    let shift = record_size p.own.shape * i in
    let row = row_in s p.own i in
    let is : part_in names s (slice_get s.nodes a) i j ≡ instance v shift row =
    ap (λ o. part_in names s o i j) p.found in
    let start : start_of (part_in names s (slice_get s.nodes a) i j) ≡ start_of v + shift =
    ap start_of is ∙ instance-start v shift row in
    let end : end_of (part_in names s (slice_get s.nodes a) i j) ≡ end_of v + shift =
    ap end_of is ∙ instance-end v shift row in
    omega (arith, h, start, end)

-- the next struct begins within the array
pub next-within : (size i count : ℕ) → i < count → size * i + size ≤ size * count
next-within size i count p =
    omega (arith, mul-suc size i, mul-le-mul_left size (let q : suc i ≤ count = omega (arith, p) in q))

-- a part starts before the bit 2 ^ 64
pub part_short : (s : Slots) (a i j : ℕ) (own n : Node) → IsSound s → IsPartOf s a i j →
    slice_get s.nodes a ≡ Some own → slice_get s.nodes j ≡ Some n →
    n.start + record_size own.shape * i < 2 ^ 64
part_short s a i j own n sound p array found =
    let shape = array_shape s a i j own p array in
    let stride = shape.0 in
    let size = shape.1 in
    let h = part_in_array s a i j own stride size sound p array shape.2 in
    let short : n.start + size * i < 2 ^ 64 = omega (
      arith,
      (part_node n found h.part).begins,
      h.content.1.short,
      next-within size i (record_count s stride own.content) h.there,
    ) in
    subst (λ x. n.start + record_size x * i < 2 ^ 64) (sym shape.2) short

-- a part has the shape of the template's part
read-shape : (names : Names) (s : Slots) (shape : Shape) (c : ℕ) (row : List ℕ) →
    label_read (label_in names s shape c) row ≡ shape_label names shape
    (number_of (label_read (label_in [] s shape c) row)) (bytes_of (label_read (label_in [] s shape c) row))
read-shape names s (Integer w g) c row = refl
read-shape names s (Offset w g u) c row = refl
read-shape names s Text c row = refl
read-shape names s (Integers w g) c row = refl
read-shape names s (Offsets w g u) c row = refl
read-shape names s (Records stride size) c row = refl
read-shape names s Array c row = refl
read-shape names s (Struct of) c row = refl
read-shape names s (Union taken of) c row = refl

pub part_shape : (s : Slots) (a i j : ℕ) (n : Node) → IsPartOf s a i j → IsRead s j n →
    IsShapeOf n.shape (λ names. part_in names s (slice_get s.nodes a) i j)
part_shape s a i j n p r =
    let row = row_in s p.own i in
    record {
      number = number_of (label_read (label_in [] s n.shape n.content) row);
      bytes = bytes_of (label_read (label_in [] s n.shape n.content) row);
      label = λ names. part-label names s a i j p.own n p.found r ∙ read-shape names s n.shape n.content row;
      width = content_width s n.shape n.start n.content r.content;
    }

-- the place of a node, or of a part whose template has that node
abbrev pub IsAt : Place → ℕ → Type 0
IsAt p at = (p ≡ place.Node at) ⊎ ((a : ℕ) × (i : ℕ) × (p ≡ place.Part a i at))

pub at_within : (s : Slots) (p : Place) (at : ℕ) → IsPlace s p → IsAt p at → at < length s.nodes
at_within s p at h (inl e) = subst (IsPlace s) e h
at_within s p at h (inr (a, i, e)) = part_within s a i at (is_part s a i at (subst (IsPlace s) e h))

pub at_shape : (s : Slots) (p : Place) (at : ℕ) (n : Node) → IsPlace s p → IsAt p at → IsRead s at n →
    IsShapeOf n.shape (λ names. place_value names s p)
at_shape s p at n h (inl e) r =
    subst (λ q. IsShapeOf n.shape (λ names. place_value names s q)) (sym e) (shape_read s at n r)
at_shape s p at n h (inr (a, i, e)) r =
    subst (λ q. IsShapeOf n.shape (λ names. place_value names s q)) (sym e)
    (part_shape s a i at n (is_part s a i at (subst (IsPlace s) e h)) r)

pub at_end : (names : Names) (s : Slots) (p : Place) (at count : ℕ) → IsPlace s p → IsAt p at →
    start_of (value_at names s at) + count ≡ end_of (value_at names s at) →
    start_of (place_value names s p) + count ≡ end_of (place_value names s p)
at_end names s p at count h (inl e) own =
    subst (λ q. start_of (place_value names s q) + count ≡ end_of (place_value names s q)) (sym e) own
at_end names s p at count h (inr (a, i, e)) own =
    subst (λ q. start_of (place_value names s q) + count ≡ end_of (place_value names s q)) (sym e)
    (part_end names s a i at count (is_part s a i at (subst (IsPlace s) e h)) own)

-- what is packed has no bytes of a text
element-bytes : (s : Slots) (o : Option Node) (i : ℕ) → [] ≡ bytes_of (label_of (element_in s o i))
element-bytes s None i = refl
element-bytes s (Some n) i = number-bytes n.shape _ _
  where
    number-bytes : (shape : Shape) (start digits : ℕ) → [] ≡ bytes_of (label_of (element_value shape start digits))
    number-bytes (Integer w g) start digits = refl
    number-bytes (Offset w g u) start digits = refl
    number-bytes Text start digits = refl
    number-bytes (Integers w g) start digits = refl
    number-bytes (Offsets w g u) start digits = refl
    number-bytes (Records stride size) start digits = refl
    number-bytes Array start digits = refl
    number-bytes (Struct t) start digits = refl
    number-bytes (Union t i) start digits = refl

read-no_bytes : (names : Names) (s : Slots) (shape : Shape) (c : ℕ) (row : List ℕ) → (shape ≡ Text → ⊥) →
    [] ≡ bytes_of (label_read (label_in names s shape c) row)
read-no_bytes names s (Integer w g) c row h = refl
read-no_bytes names s (Offset w g u) c row h = refl
read-no_bytes names s Text c row h = absurd (h refl)
read-no_bytes names s (Integers w g) c row h = refl
read-no_bytes names s (Offsets w g u) c row h = refl
read-no_bytes names s (Records stride size) c row h = refl
read-no_bytes names s Array c row h = refl
read-no_bytes names s (Struct t) c row h = refl
read-no_bytes names s (Union t i) c row h = refl

no_node : Node
no_node = record { start = 0; content = 0; shape = Array }

node_of : (s : Slots) (j : ℕ) → j < length s.nodes → (n : Node) × (slice_get s.nodes j ≡ Some n)
node_of s j h = (slice_index_or s.nodes j no_node, slice_get-get_or s.nodes j no_node h)

pub packed_bytes : (names : Names) (s : Slots) (p : Place) → IsSound s → IsPlace s p →
    ((at : ℕ) → p ≡ place.Node at → ⊥) → [] ≡ bytes_of (label_of (place_value names s p))
packed_bytes names s (place.Node at) sound h elsewhere = absurd (elsewhere at refl)
packed_bytes names s (place.Element a i) sound h elsewhere = element-bytes s (slice_get s.nodes a) i
packed_bytes names s (place.Part a i j) sound h elsewhere =
    let p = is_part s a i j h in
    let n = node_of s j (part_within s a i j p) in
    read-no_bytes names s n.0.shape n.0.content (row_in s p.own i) (part_node n.0 n.1 p.part).no_text
    ∙ sym (ap bytes_of (part-label names s a i j p.own n.0 p.found (read-node s j n.0 sound n.1)))

-- where the bytes of a number are in a struct
pub record IsNumberIn (size stride start : ℕ) (bytes : List ℕ) (n : Node) : Type 0 where
  pub fits : n.content + bytes_for (number_bits n.shape) ≤ stride
  pub within : n.start + number_bits n.shape ≤ start + size
  pub below : (i : ℕ) → i < length bytes / stride →
      bytes_number (part (stride * i + n.content) (bytes_for (number_bits n.shape)) bytes) < 2 ^ number_bits n.shape

number_of_part : {s : Slots} {size stride start : ℕ} {bytes : List ℕ} {j : ℕ} (n : Node) →
    slice_get s.nodes j ≡ Some n → IsNumber n.shape → IsTemplatePart s size stride start bytes j →
    IsNumberIn size stride start bytes n
number_of_part {s} {size} {stride} {start} {bytes} n found number (NumberPart {j} column) =
    let own : IsNumberIn size stride start bytes column.node =
    record { fits = column.fits; within = column.within; below = column.below } in
    subst (IsNumberIn size stride start bytes) (some-same (slice_get s.nodes j) column.node n column.found found) own
number_of_part {s} n found number (BranchPart {j} branch parts) =
    let same : branch.node ≡ n = some-same (slice_get s.nodes j) branch.node n branch.found found in
    absurd (number-composite n.shape number (subst (λ (m : Node). IsComposite m.shape) same branch.composite))

IsNumberIn-prop : (size stride start : ℕ) (bytes : List ℕ) (n : Node) → IsProp (IsNumberIn size stride start bytes n)
IsNumberIn-prop size stride start bytes n = hlevel le_prop

number_part : {s : Slots} {size stride start : ℕ} {bytes : List ℕ} {j : ℕ} (n : Node) → slice_get s.nodes j ≡ Some n →
    IsNumber n.shape → ∥ IsTemplatePart s size stride start bytes j ∥₁ →
    IsNumberIn size stride start bytes n
number_part {size = size} {stride = stride} {start = start} {bytes = bytes} n found number part =
    ∥∥₁_elim part (IsNumberIn-prop size stride start bytes n) (λ t. number_of_part n found number t)

-- the bytes of a number
module _ (s : Slots) (a i j : ℕ) (own n : Node) (sound : IsSound s) (p : IsPartOf s a i j)
    (array : slice_get s.nodes a ≡ Some own) (found : slice_get s.nodes j ≡ Some n) (number : IsNumber n.shape)
    (stride size : ℕ) (is : own.shape ≡ Records stride size) where
  abbrev here : IsPartRead s own i j stride size
  here = part_in_array s a i j own stride size sound p array is

  abbrev read : IsNumberIn size stride own.start (text_bytes s.texts s.bytes own.content) n
  read = number_part n found number here.part

  pub digits_within : stride * i + n.content + bytes_for (number_bits n.shape)
      ≤ length (text_bytes s.texts s.bytes own.content)
  digits_within = omega
      (arith, read.fits, here.content.1.whole, next-within stride i (record_count s stride own.content) here.there)

  pub digits_fit : n.content + bytes_for (number_bits n.shape) ≤ stride
  digits_fit = read.fits

  -- the number ends before the bit 2 ^ 64, and the place of its bytes is small
  pub digits_early : (n.start + number_bits n.shape < 2 ^ 64) × (n.content + 1 < 2 ^ 64)
  digits_early = (
    omega
        (arith, read.within, here.content.1.short, next-within size i (record_count s stride own.content) here.there),
    omega (arith, read.fits, here.few),
  )

  pub digits_below : bytes_number
      (part (stride * i + n.content) (bytes_for (number_bits n.shape)) (text_bytes s.texts s.bytes own.content))
      < 2 ^ number_bits n.shape
  digits_below = read.below i here.there

-- a struct has all its bytes
pub row_length : (s : Slots) (a i j : ℕ) (own : Node) (stride size : ℕ) → IsSound s → IsPartOf s a i j →
    slice_get s.nodes a ≡ Some own → own.shape ≡ Records stride size →
    length (part (stride * i) stride (text_bytes s.texts s.bytes own.content)) ≡ stride
row_length s a i j own stride size sound p array is =
    let h = part_in_array s a i j own stride size sound p array is in
    let bytes = text_bytes s.texts s.bytes own.content in
    omega (
      arith,
      h.content.1.whole,
      next-within stride i (record_count s stride own.content) h.there,
      length-drop (stride * i) bytes,
      length-take stride (drop (stride * i) bytes),
    )

number-most : (shape : Shape) → IsNumber shape → number_bits shape ≤ 64
number-most (Integer w g) h = h.1
number-most (Offset w g u) h = h.1
number-most Text h = absurd h
number-most (Integers w g) h = absurd h
number-most (Offsets w g u) h = absurd h
number-most (Records stride size) h = absurd h
number-most Array h = absurd h
number-most (Struct t) h = absurd h
number-most (Union t i) h = absurd h

pub digits_most : (n : Node) → IsNumber n.shape → bytes_for (number_bits n.shape) ≤ 8
digits_most n number = omega (arith, number-most n.shape number)

-- a small content has no sign
pub small-place : (g : Bool) (c : ℕ) → c ≤ 2 ^ 16 → unsigned_abs (number_in g c) ≡ c
small-place true c h = ap unsigned_abs (to_z_pos w64 c (omega (arith, h)))
small-place false c h = refl

-- the bytes of a number, among those of its struct
pub row-bytes : (stride first at k : ℕ) (bs : List ℕ) → at + k ≤ stride →
    take k (drop at (part first stride bs)) ≡ part (first + at) k bs
row-bytes stride first at k bs fits =
    let rest : stride ≡ at + (stride - at) = omega arith in
    ap (λ n. take k (drop at (take n (drop first bs)))) rest
    ∙ ap (take k) (drop-take at (stride - at) (drop first bs))
    ∙ take-take k (stride - at) (drop at (drop first bs)) (omega arith)
    ∙ ap (take k) (drop-drop at first bs)

-- the number whose place in its struct is a content
row-number : (w : ℕ) (g : Bool) (stride first c : ℕ) (bs : List ℕ) → stride ≤ 2 ^ 16 → c + bytes_for w ≤ stride →
    number_read (record { width = w; signed = g }) (number_in g c) (part first stride bs)
    ≡ with_sign (record { width = w; signed = g }) (bytes_number (part (first + c) (bytes_for w) bs))
row-number w g stride first c bs few fits =
    let type : IntegerType = record { width = w; signed = g } in
    ap (λ m. with_sign type (bytes_number (take (bytes_for w) (drop m (part first stride bs)))))
    (small-place g c (omega (arith, few, fits)))
    ∙ ap (λ xs. with_sign type (bytes_number xs)) (row-bytes stride first c (bytes_for w) bs fits)

-- the number of a label, from its digits
numbers-read : (names : Names) (s : Slots) (shape : Shape) (stride first c : ℕ) (bs : List ℕ) (w : ℕ) (g : Bool) →
    (shape ≡ Integer w g) ⊎ ((u : ℕ) × (shape ≡ Offset w g u)) → stride ≤ 2 ^ 16 →
    c + bytes_for (number_bits shape) ≤ stride →
    number_of (label_read (label_in names s shape c) (part first stride bs)) ≡
    with_sign (record { width = w; signed = g }) (bytes_number (part (first + c) (bytes_for (number_bits shape)) bs))
numbers-read names s shape stride first c bs w g (inl e) few fits =
    rw e (row-number w g stride first c bs few (subst (λ x. c + bytes_for (number_bits x) ≤ stride) e fits))
numbers-read names s shape stride first c bs w g (inr (u, e)) few fits =
    rw e (row-number w g stride first c bs few (subst (λ x. c + bytes_for (number_bits x) ≤ stride) e fits))

-- the node of a number holds that of a number
pub number_content : (s : Slots) {j : ℕ} (n : Node) (w : ℕ) (g : Bool) →
    (n.shape ≡ Integer w g) ⊎ ((u : ℕ) × (n.shape ≡ Offset w g u)) → IsRead s j n → IsNumber n.shape
number_content s n w g (inl e) r =
    let own : IsContent s (Integer w g) n.start n.content = subst (λ x. IsContent s x n.start n.content) e r.content in
    subst IsNumber (sym e) own
number_content s n w g (inr (u, e)) r =
    let own : IsContent s (Offset w g u) n.start n.content = subst (λ x. IsContent s x n.start n.content) e r.content in
    subst IsNumber (sym e) own

-- the number of a part, from its digits
pub part_number : (names : Names) (s : Slots) (a i j : ℕ) (n : Node) (w : ℕ) (g : Bool) (digits : ℕ) →
    IsPartOf s a i j → IsRead s j n → slice_get s.nodes j ≡ Some n → IsNumber n.shape →
    (n.shape ≡ Integer w g) ⊎ ((u : ℕ) × (n.shape ≡ Offset w g u)) →
    ((own : Node) → slice_get s.nodes a ≡ Some own → digits ≡ part_digits s own n i) →
    with_sign (record { width = w; signed = g }) digits
    ≡ number_of (label_of (part_in names s (slice_get s.nodes a) i j))
part_number names s a i j n w g digits p r found number shape is =
    let own = p.own in
    let sort = array_shape s a i j own p p.found in
    let stride = sort.0 in
    let h = part_in_array s a i j own stride sort.1 r.sound p p.found sort.2 in
    let bs = text_bytes s.texts s.bytes own.content in
    let label : label_of (part_in names s (slice_get s.nodes a) i j)
    ≡ label_read (label_in names s n.shape n.content) (part (stride * i) stride bs) =
    part-label names s a i j own n p.found r
    ∙ ap (λ x. label_read (label_in names s n.shape n.content) (part (record_stride x * i) (record_stride x) bs))
    sort.2 in
    let own_digits : digits ≡ bytes_number (part (stride * i + n.content) (bytes_for (number_bits n.shape)) bs) =
    is own p.found
    ∙ ap (λ x. bytes_number (part (record_stride x * i + n.content) (bytes_for (number_bits n.shape)) bs)) sort.2 in
    ap (with_sign (record { width = w; signed = g })) own_digits
    ∙ sym (ap number_of label ∙ numbers-read names s n.shape stride (stride * i) n.content bs w g shape h.few
    (number_part n found number h.part).fits)

-- the place of the template of an array of packed structs that was read
pub template_before : (s : Slots) (a : ℕ) (n : Node) (stride size : ℕ) → IsSound s → slice_get s.nodes a ≡ Some n →
    n.shape ≡ Records stride size → 1 ≤ a
template_before s a n stride size sound found is = (template_of s sound a n stride size found is).some
