-- Rows of links and bytes, and what stays of them as a store grows.
use Rattle.std.proofs.Common.{◌≡◌, ℕ, zero, suc, ◌+◌, ◌-◌, ◌*◌, ◌/◌, ◌<◌, ◌≤◌, List, [], ◌∷◌, ◌++◌, Option, Some, length, take, drop, map, refl, sym, ◌∙◌, ap, subst, arith}
use Rattle.std.specs.Prelude.{slice_get, slice_index}
use Rattle.std.proofs.lemmas.List.{length-append, length-drop, take-append-le, drop-append-le, drop_at, take_all, get_or_append_left}
use Rattle.value_store.specs.declared.store.slots.Family.{Family}
use Rattle.value_store.specs.declared.store.slots.Node.{Node}
use Rattle.value_store.specs.declared.store.slots.Shape.{Shape}
use Rattle.value_store.specs.declared.store.slots.Shape.TheVariants.{Integer, Offset, Text, Integers, Offsets, Records, Array, Struct, Union}
use Rattle.value_store.specs.Packed.{numbers_in}
use Rattle.value_store.specs.Records.{records}
use Rattle.pickle_meaning.specs.Values.{Value, TextLabel}
use Rattle.value_store.specs.Names.{Names}
use Rattle.value_store.specs.Slots.{Slots, part, family_at, first_link, family_links, first_byte, text_bytes, row_numbers, elements, last_of, label_in, size_in, links_of, opened, parts_in, IsFamily, IsByteRow, IsTextRow, AreNumbers, AreRecords, IsContent}

pub slice_get-append : {A : Type 0} (xs ys : List A) (i : ℕ) → i < length xs → slice_get (xs ++ ys) i ≡ slice_get xs i
slice_get-append [] ys i h = absurd (omega arith)
slice_get-append (x ∷ xs) ys zero h = refl
slice_get-append (x ∷ xs) ys (suc i) h = slice_get-append xs ys i (omega arith)

pub slice_get-push : {A : Type 0} (xs : List A) (y : A) (ys : List A) → slice_get (xs ++ y ∷ ys) (length xs) ≡ Some y
slice_get-push [] y ys = refl
slice_get-push (x ∷ xs) y ys = slice_get-push xs y ys

pub part-append : {A : Type 0} (first count : ℕ) (xs ys : List A) → first + count ≤ length xs →
    part first count (xs ++ ys) ≡ part first count xs
part-append first count xs ys h =
    ap (take count) (drop-append-le first xs ys (omega arith))
    ∙ take-append-le count (drop first xs) ys (omega (arith, length-drop first xs))

pub part-all : {A : Type 0} (n : ℕ) (xs ys : List A) → length ys ≡ n → part (length xs) n (xs ++ ys) ≡ ys
part-all n xs ys e = ap (take n) (drop_at xs ys (length xs) refl) ∙ take_all n ys (omega arith)

-- u has the nodes and rows of s, and perhaps more after them
pub record Grows (s u : Slots) : Type 0 where
  pub more_nodes : List Node
  pub more_families : List Family
  pub more_links : List (Option ℕ)
  pub more_texts : List ℕ
  pub more_bytes : List ℕ
  pub nodes : u.nodes ≡ s.nodes ++ more_nodes
  pub families : u.families ≡ s.families ++ more_families
  pub links : u.links ≡ s.links ++ more_links
  pub texts : u.texts ≡ s.texts ++ more_texts
  pub bytes : u.bytes ≡ s.bytes ++ more_bytes

family_at-grow : (fs gs : List Family) (k : ℕ) → k < length fs → family_at (fs ++ gs) k ≡ family_at fs k
family_at-grow fs gs k h = get_or_append_left fs gs _ k h

pub first_link-grow : (fs gs : List Family) (k : ℕ) → k ≤ length fs → first_link (fs ++ gs) k ≡ first_link fs k
first_link-grow fs gs zero h = refl
first_link-grow fs gs (suc k) h = ap (λ (f : Family). f.end) (family_at-grow fs gs k (omega arith))

pub first_byte-grow : (es ds : List ℕ) (k : ℕ) → k ≤ length es → first_byte (es ++ ds) k ≡ first_byte es k
first_byte-grow es ds zero h = refl
first_byte-grow es ds (suc k) h = get_or_append_left es ds 0 k (omega arith)

pub IsFamily-grow : (s u : Slots) (c : ℕ) → Grows s u → IsFamily s c → IsFamily u c
IsFamily-grow s u c g h =
    let f = family_at-grow s.families g.more_families c h.0 in
    let b = first_link-grow s.families g.more_families c (omega (arith, h.0)) in
    rw (g.families, g.links) (
      omega (arith, h.0, length-append s.families g.more_families),
      rw (f, b)
          (record { ordered = h.1.ordered; within = omega (arith, h.1.within, length-append s.links g.more_links) }),
    )

-- where bytes begin and end
end-grow : (s u : Slots) (c : ℕ) → Grows s u → c < length s.texts → slice_index u.texts c ≡ slice_index s.texts c
end-grow s u c g h = rw g.texts (get_or_append_left s.texts g.more_texts 0 c h)

begin-grow : (s u : Slots) (c : ℕ) → Grows s u → c < length s.texts → first_byte u.texts c ≡ first_byte s.texts c
begin-grow s u c g h = rw g.texts (first_byte-grow s.texts g.more_texts c (omega arith))

pub IsByteRow-grow : (s u : Slots) (c : ℕ) → Grows s u → IsByteRow s c → IsByteRow u c
IsByteRow-grow s u c g h =
    let f = end-grow s u c g h.0 in
    let b = begin-grow s u c g h.0 in (
      omega (arith, h.0, ap length g.texts, length-append s.texts g.more_texts),
      record {
        ordered = omega (arith, f, b, h.1.ordered);
        within = omega (arith, f, h.1.within, ap length g.bytes, length-append s.bytes g.more_bytes);
      },
    )

pub text_bytes-grow : (s u : Slots) (c : ℕ) → Grows s u → IsByteRow s c →
    text_bytes u.texts u.bytes c ≡ text_bytes s.texts s.bytes c
text_bytes-grow s u c g h =
    let f = end-grow s u c g h.0 in
    let b = begin-grow s u c g h.0 in
    rw (f, b, g.bytes)
    (part-append (first_byte s.texts c) _ s.bytes g.more_bytes (omega (arith, h.1.ordered, h.1.within)))

pub row_numbers-grow : (s u : Slots) (w c : ℕ) → Grows s u → IsByteRow s c → row_numbers u w c ≡ row_numbers s w c
row_numbers-grow s u w c g h = ap (numbers_in w) (text_bytes-grow s u c g h)

IsTextRow-grow : (s u : Slots) (c : ℕ) → Grows s u → IsTextRow s c → IsTextRow u c
IsTextRow-grow s u c g h =
    let f = end-grow s u c g h.0.0 in
    let b = begin-grow s u c g h.0.0 in
    (IsByteRow-grow s u c g h.0, rw (f, b) h.1)

AreNumbers-grow : (s u : Slots) (w start c : ℕ) → Grows s u → IsByteRow s c → AreNumbers w (row_numbers s w c) start →
    AreNumbers w (row_numbers u w c) start
AreNumbers-grow s u w start c g h a = subst (λ ns. AreNumbers w ns start) (sym (row_numbers-grow s u w c g h)) a

pub IsContent-grow : (s u : Slots) (shape : Shape) (start c : ℕ) → Grows s u → IsContent s shape start c →
    IsContent u shape start c
IsContent-grow s u (Integer w x) start c g h = h
IsContent-grow s u (Offset w x y) start c g h = h
IsContent-grow s u Text start c g h = IsTextRow-grow s u c g h
IsContent-grow s u (Integers w x) start c g h = (IsByteRow-grow s u c g h.0, AreNumbers-grow s u w start c g h.0 h.1)
IsContent-grow s u (Offsets w x y) start c g h =
    (IsByteRow-grow s u c g h.0, (AreNumbers-grow s u w start c g h.0 h.1.0, h.1.1))
IsContent-grow s u (Records stride size) start c g h =
    (IsByteRow-grow s u c g h.0, subst (λ bs. AreRecords size stride bs start) (sym (text_bytes-grow s u c g h.0)) h.1)
IsContent-grow s u Array start c g h = IsFamily-grow s u c g h
IsContent-grow s u (Struct t) start c g h = IsFamily-grow s u c g h
IsContent-grow s u (Union i t) start c g h = IsFamily-grow s u c g h

pub family_links-grow : (s u : Slots) (c : ℕ) → Grows s u → IsFamily s c →
    family_links u.families u.links c ≡ family_links s.families s.links c
family_links-grow s u c g h =
    let f = family_at-grow s.families g.more_families c h.0 in
    let b = first_link-grow s.families g.more_families c (omega (arith, h.0)) in
    rw (g.families, g.links, f, b)
    (part-append (first_link s.families c) _ s.links g.more_links (omega (arith, h.1.ordered, h.1.within)))

pub family_size-grow : (s u : Slots) (c : ℕ) → Grows s u → IsFamily s c →
    (family_at u.families c).size ≡ (family_at s.families c).size
family_size-grow s u c g h =
    rw g.families (ap (λ (f : Family). f.size) (family_at-grow s.families g.more_families c h.0))

pub links_of-grow : (s u : Slots) (shape : Shape) (start c : ℕ) → Grows s u → IsContent s shape start c →
    links_of u shape c ≡ links_of s shape c
links_of-grow s u (Integer w x) start c g h = refl
links_of-grow s u (Offset w x y) start c g h = refl
links_of-grow s u Text start c g h = refl
links_of-grow s u (Integers w x) start c g h = refl
links_of-grow s u (Offsets w x y) start c g h = refl
links_of-grow s u (Records stride size) start c g h = refl
links_of-grow s u Array start c g h = family_links-grow s u c g h
links_of-grow s u (Struct t) start c g h = family_links-grow s u c g h
links_of-grow s u (Union i t) start c g h = family_links-grow s u c g h

-- the parts of a value don't change as rows are added
pub parts_in-grow : (s u : Slots) (ts : List Value) (shape : Shape) (start c : ℕ) → Grows s u →
    IsContent s shape start c → parts_in u ts shape start c ≡ parts_in s ts shape start c
parts_in-grow s u ts (Integer w x) start c g h = refl
parts_in-grow s u ts (Offset w x y) start c g h = refl
parts_in-grow s u ts Text start c g h = refl
parts_in-grow s u ts (Integers w x) start c g h = ap (elements (Integers w x) start) (row_numbers-grow s u w c g h.0)
parts_in-grow s u ts (Offsets w x y) start c g h = ap (elements (Offsets w x y) start) (row_numbers-grow s u w c g h.0)
parts_in-grow s u ts (Records stride size) start c g h =
    ap (λ (bs : List ℕ). records (last_of ts) size stride 0 (length bs / stride) bs) (text_bytes-grow s u c g h.0)
parts_in-grow s u ts Array start c g h = ap (map (opened ts)) (family_links-grow s u c g h)
parts_in-grow s u ts (Struct t) start c g h = ap (map (opened ts)) (family_links-grow s u c g h)
parts_in-grow s u ts (Union i t) start c g h = ap (map (opened ts)) (family_links-grow s u c g h)

pub label_in-grow : (names : Names) (s u : Slots) (shape : Shape) (start c : ℕ) → Grows s u →
    IsContent s shape start c → label_in names u shape c ≡ label_in names s shape c
label_in-grow names s u (Integer w x) start c g h = refl
label_in-grow names s u (Offset w x y) start c g h = refl
label_in-grow names s u Text start c g h = ap TextLabel (text_bytes-grow s u c g h.0)
label_in-grow names s u (Integers w x) start c g h = refl
label_in-grow names s u (Offsets w x y) start c g h = refl
label_in-grow names s u (Records stride size) start c g h = refl
label_in-grow names s u Array start c g h = refl
label_in-grow names s u (Struct t) start c g h = refl
label_in-grow names s u (Union i t) start c g h = refl

text_size-grow : (s u : Slots) (c : ℕ) → Grows s u → IsByteRow s c →
    8 * (slice_index u.texts c - first_byte u.texts c + 1) ≡ 8 * (slice_index s.texts c - first_byte s.texts c + 1)
text_size-grow s u c g h =
    let f = end-grow s u c g h.0 in
    let b = begin-grow s u c g h.0 in
    rw (f, b) refl

pub size_in-grow : (s u : Slots) (shape : Shape) (start c : ℕ) → Grows s u → IsContent s shape start c →
    size_in u shape c ≡ size_in s shape c
size_in-grow s u (Integer w x) start c g h = refl
size_in-grow s u (Offset w x y) start c g h = refl
size_in-grow s u Text start c g h = text_size-grow s u c g h.0
size_in-grow s u (Integers w x) start c g h = ap (λ (ns : List ℕ). w * length ns) (row_numbers-grow s u w c g h.0)
size_in-grow s u (Offsets w x y) start c g h = ap (λ (ns : List ℕ). w * length ns) (row_numbers-grow s u w c g h.0)
size_in-grow s u (Records stride size) start c g h =
    ap (λ (bs : List ℕ). size * (length bs / stride)) (text_bytes-grow s u c g h.0)
size_in-grow s u Array start c g h = family_size-grow s u c g h
size_in-grow s u (Struct t) start c g h = family_size-grow s u c g h
size_in-grow s u (Union i t) start c g h = family_size-grow s u c g h
