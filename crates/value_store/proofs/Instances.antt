-- The packed structs of an array, and their parts.
use Rattle.std.proofs.Common.{◌≡◌, ℕ, zero, suc, ◌+◌, ◌-◌, ◌*◌, ◌<◌, ◌≤◌, List, Option, Some, None, length, take, drop, refl, sym, ◌∙◌, ap, subst, arith}
use Rattle.std.specs.Prelude.{slice_get, slice_index_or, unwrap_or}
use Rattle.std.specs.Option.{option_map}
use Rattle.std.proofs.lemmas.List.{drop-drop, get_or-take, length-take}
use Rattle.std.proofs.lemmas.Option.{slice_get-get_or, slice_get_within}
use Rattle.value_store.specs.declared.store.slots.Node.{Node}
use Rattle.value_store.specs.declared.store.slots.Place.TheVariants as place
use Rattle.value_store.specs.declared.store.slots.Shape.{Shape}
use Rattle.value_store.specs.declared.store.slots.Shape.TheVariants.{Integer, Offset, Text, Integers, Offsets, Records, Array, Struct, Union}
use Rattle.pickle_meaning.specs.Values.{Value, Mapped, Members, NoMembers, MemberThen, AbsentThen, label_of, start_of, end_of, members_of, member_count, member_at, gathered}
use Rattle.value_store.specs.Names.{Names}
use Rattle.value_store.specs.Records.{label_read, instance, instances, records}
use Rattle.value_store.specs.Lent.{part_in, struct_count, record_size, record_stride, IsPartIn, IsPlace}
use Rattle.value_store.specs.Slots.{Slots, no_value, part, text_bytes, opened, last_of, record_count, parts_in, trees, value_at, IsContent, IsTemplatePart, IsTemplate, HasTemplate, IsSound}
use Rattle.value_store.proofs.Found.{node_sound, read-node, member_at-gathered}
use Rattle.value_store.proofs.Grown.{length-trees}
use Rattle.value_store.proofs.Taken.{member_count-of}

-- what a part of a struct is, from the template's part
pub instance-label : (v : Value) (shift : ℕ) (row : List ℕ) →
    label_of (instance v shift row) ≡ label_read (label_of v) row
instance-label (Mapped label start end _) shift row = refl

pub instance-start : (v : Value) (shift : ℕ) (row : List ℕ) → start_of (instance v shift row) ≡ start_of v + shift
instance-start (Mapped label start end _) shift row = refl

pub instance-end : (v : Value) (shift : ℕ) (row : List ℕ) → end_of (instance v shift row) ≡ end_of v + shift
instance-end (Mapped label start end _) shift row = refl

pub instance-members : (v : Value) (shift : ℕ) (row : List ℕ) →
    members_of (instance v shift row) ≡ instances (members_of v) shift row
instance-members (Mapped label start end _) shift row = refl

instances-count : (ms : Members) (shift : ℕ) (row : List ℕ) → member_count (instances ms shift row) ≡ member_count ms
instances-count NoMembers shift row = refl
instances-count (MemberThen v rest) shift row = ap (λ n. 1 + n) (instances-count rest shift row)
instances-count (AbsentThen rest) shift row = ap (λ n. 1 + n) (instances-count rest shift row)

instances-at : (ms : Members) (shift : ℕ) (row : List ℕ) (k : ℕ) →
    member_at (instances ms shift row) k ≡ option_map (λ v. instance v shift row) (member_at ms k)
instances-at NoMembers shift row k = refl
instances-at (MemberThen v rest) shift row zero = refl
instances-at (MemberThen v rest) shift row (suc k) = instances-at rest shift row k
instances-at (AbsentThen rest) shift row zero = refl
instances-at (AbsentThen rest) shift row (suc k) = instances-at rest shift row k

pub instance-count : (v : Value) (shift : ℕ) (row : List ℕ) →
    member_count (members_of (instance v shift row)) ≡ member_count (members_of v)
instance-count v shift row = ap member_count (instance-members v shift row) ∙ instances-count (members_of v) shift row

pub instance-at : (v : Value) (shift : ℕ) (row : List ℕ) (k : ℕ) → member_at (members_of (instance v shift row)) k
    ≡ option_map (λ m. instance m shift row) (member_at (members_of v) k)
instance-at v shift row k =
    ap (λ ms. member_at ms k) (instance-members v shift row) ∙ instances-at (members_of v) shift row k

pub member-past : (ms : Members) (i : ℕ) → member_count ms ≤ i → member_at ms i ≡ None
member-past NoMembers i h = refl
member-past (MemberThen v rest) zero h = absurd (omega (arith, h))
member-past (MemberThen v rest) (suc i) h = member-past rest i (omega (arith, h))
member-past (AbsentThen rest) zero h = refl
member-past (AbsentThen rest) (suc i) h = member-past rest i (omega (arith, h))

-- the value of a link
pub link-value : (s : Slots) (names : Names) (j : ℕ) → j < length s.nodes →
    opened (trees names s) (Some j) ≡ Some (value_at names s j)
unfolding value_at
link-value s names j h = slice_get-get_or (trees names s) j no_value (omega (arith, length-trees names s, h))

-- packed structs one after the other
length-records : (v : Value) (size stride shift count : ℕ) (bs : List ℕ) →
    length (records v size stride shift count bs) ≡ count
length-records v size stride shift zero bs = refl
length-records v size stride shift (suc count) bs =
    ap suc (length-records v size stride (shift + size) count (drop stride bs))

records-at : (v : Value) (size stride shift count : ℕ) (bs : List ℕ) (i : ℕ) → i < count →
    slice_get (records v size stride shift count bs) i
    ≡ Some (Some (instance v (shift + size * i) (part (stride * i) stride bs)))
records-at v size stride shift zero bs i p = absurd (omega (arith, p))
records-at v size stride shift (suc count) bs zero p =
    let a : shift + size * 0 ≡ shift = omega arith in
    let b : stride * 0 ≡ 0 = omega arith in
    rw (a, b) refl
records-at v size stride shift (suc count) bs (suc i) p =
    let a : (shift + size) + size * i ≡ shift + size * suc i = omega arith in
    let b : stride + stride * i ≡ stride * suc i = omega arith in
    records-at v size stride (shift + size) count (drop stride bs) i (omega (arith, p))
    ∙ ap (λ m. Some (Some (instance v m (take stride (drop (stride * i) (drop stride bs)))))) a
    ∙ ap (λ xs. Some (Some (instance v (shift + size * suc i) (take stride xs)))) (drop-drop (stride * i) stride bs)
    ∙ ap (λ m. Some (Some (instance v (shift + size * suc i) (take stride (drop m bs))))) b

last-taken : (names : Names) (s : Slots) (a : ℕ) → 1 ≤ a → a ≤ length s.nodes →
    last_of (take a (trees names s)) ≡ value_at names s (a - 1)
unfolding value_at
last-taken names s a some most =
    let count : length (take a (trees names s)) ≡ a =
    omega (arith, length-take a (trees names s), length-trees names s) in
    ap (λ n. slice_index_or (take a (trees names s)) (n - 1) no_value) count
    ∙ get_or-take a (trees names s) (a - 1) no_value (omega arith)

-- an array that has a packed struct
pub records-shape : (s : Slots) (shape : Shape) (c i : ℕ) → i < struct_count s shape c →
    (stride : ℕ) × (size : ℕ) × (shape ≡ Records stride size)
records-shape s (Integer w g) c i h = absurd (omega (arith, h))
records-shape s (Offset w g u) c i h = absurd (omega (arith, h))
records-shape s Text c i h = absurd (omega (arith, h))
records-shape s (Integers w g) c i h = absurd (omega (arith, h))
records-shape s (Offsets w g u) c i h = absurd (omega (arith, h))
records-shape s (Records stride size) c i h = (stride, size, refl)
records-shape s Array c i h = absurd (omega (arith, h))
records-shape s (Struct t) c i h = absurd (omega (arith, h))
records-shape s (Union t j) c i h = absurd (omega (arith, h))

-- the same of a place, without cases
pub record IsPartOf (s : Slots) (a i j : ℕ) : Type 0 where
  pub own : Node
  pub found : slice_get s.nodes a ≡ Some own
  pub there : i < struct_count s own.shape own.content
  pub before : j < a
  pub part : ∥ IsTemplatePart s (record_size own.shape) (record_stride own.shape) own.start
      (text_bytes s.texts s.bytes own.content) j ∥₁

part_of : (s : Slots) (a i j : ℕ) (o : Option Node) → slice_get s.nodes a ≡ o → j < a →
    IsPartIn s o i j → IsPartOf s a i j
part_of s a i j None found before h = absurd h
part_of s a i j (Some n) found before h = record { own = n; found = found; there = h.0; before = before; part = h.1 }

pub is_part : (s : Slots) (a i j : ℕ) → IsPlace s (place.Part a i j) → IsPartOf s a i j
is_part s a i j h = part_of s a i j (slice_get s.nodes a) refl h.0 h.1

pub has_part : (s : Slots) (a i j : ℕ) → IsPartOf s a i j → IsPlace s (place.Part a i j)
has_part s a i j p = (p.before, subst (λ o. IsPartIn s o i j) (sym p.found) (p.there, p.part))

-- an array of packed structs in a sound store
module _ (s : Slots) (sound : IsSound s) (a : ℕ) (n : Node) (stride size : ℕ) (found : slice_get s.nodes a ≡ Some n)
    (is : n.shape ≡ Records stride size) where
  pub records-content : IsContent s (Records stride size) n.start n.content
  records-content = subst (λ x. IsContent s x n.start n.content) is (node_sound s a n sound found).content

  pub template_of : IsTemplate s a size stride n.start (text_bytes s.texts s.bytes n.content)
  template_of = subst (λ x. HasTemplate s a x n.start n.content) is (node_sound s a n sound found).template

  -- the array has the structs as members
  array-members : (names : Names) →
      members_of (value_at names s a) ≡ gathered (records (value_at names s (a - 1)) size stride 0
      (record_count s stride n.content) (text_bytes s.texts s.bytes n.content))
  array-members names =
      let within : a < length s.nodes = slice_get_within s.nodes a n found in
      let own = text_bytes s.texts s.bytes n.content in
      (read-node s a n sound found).members names
      ∙ ap (λ x. gathered (parts_in s (take a (trees names s)) x n.start n.content)) is
      ∙ ap (λ v. gathered (records v size stride 0 (record_count s stride n.content) own))
      (last-taken names s a template_of.some (omega (arith, within)))

  pub array-count : (names : Names) → member_count (members_of (value_at names s a)) ≡ record_count s stride n.content
  array-count names =
      ap member_count (array-members names) ∙ member_count-of _
      ∙ length-records (value_at names s (a - 1)) size stride 0 (record_count s stride n.content) _

  pub array-part : (names : Names) (i : ℕ) → i < record_count s stride n.content →
      member_at (members_of (value_at names s a)) i ≡ Some (part_in names s (slice_get s.nodes a) i (a - 1))
  array-part names i p =
      let v = value_at names s (a - 1) in
      let own = text_bytes s.texts s.bytes n.content in
      let all = records v size stride 0 (record_count s stride n.content) own in
      let first : 0 + size * i ≡ size * i = omega arith in
      ap (λ ms. member_at ms i) (array-members names)
      ∙ member_at-gathered all i
      ∙ ap (λ o. unwrap_or o None) (records-at v size stride 0 (record_count s stride n.content) own i p)
      ∙ ap (λ m. Some (instance v m (part (stride * i) stride own))) first
      ∙ sym (ap (λ x. Some (instance v (record_size x * i) (part (record_stride x * i) (record_stride x) own))) is)
      ∙ sym (ap (λ o. Some (part_in names s o i (a - 1))) found)

  -- each struct is a part of itself
  pub struct-part : (i : ℕ) → i < record_count s stride n.content → IsPlace s (place.Part a i (a - 1))
  struct-part i p =
      let t = template_of in
      has_part s a i (a - 1) (record {
        own = n;
        found = found;
        there = subst (λ x. i < struct_count s x n.content) (sym is) p;
        before = omega (arith, t.some);
        part = ∣ subst (λ x. IsTemplatePart s (record_size x) (record_stride x) n.start
            (text_bytes s.texts s.bytes n.content) (a - 1)) (sym is) t.part ∣₁;
      })
