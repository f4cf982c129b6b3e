-- The first struct of an array of packed structs of fixed layout.
use Rattle.std.proofs.Common.{◌≡◌, ℕ, ◌+◌, ◌-◌, ◌*◌, ◌/◌, ◌^◌, ◌<◌, ◌≤◌, true, List, [], ◌∷◌, ◌++◌, Option, Some, length, drop, map, refl, sym, ◌∙◌, ap, subst, arith, false, take}
use Rattle.std.specs.Prelude.{slice_get, slice_index_or}
use Rattle.std.proofs.Math.Nat.{zero-div}
use Rattle.std.proofs.lemmas.List.{append-nil, length_push, length-map, length-drop, map-append, drop_at, length-append, length-take}
use Rattle.std.proofs.lemmas.Option.{slice_get-get_or, get_or_from_slice_get}
use Rattle.value_store.specs.declared.store.slots.Node.{Node}
use Rattle.value_store.specs.declared.store.slots.Marks.{Marks}
use Rattle.value_store.specs.declared.store.slots.Place.{Place}
use Rattle.value_store.specs.declared.store.slots.Place.TheVariants as place
use Rattle.value_store.specs.declared.store.slots.Shape.{Shape}
use Rattle.value_store.specs.declared.store.slots.Shape.TheVariants.{Integer, Offset, Text, Integers, Offsets, Records, Array, Struct, Union}
use Rattle.pickle_meaning.specs.Values.{Label, IntegerLabel, OffsetLabel, TextLabel, ArrayLabel, StructLabel, UnionLabel, Value, Mapped, Levels, label_of, start_of, end_of, top_of, outer_of, value_at as part_value}
use Rattle.value_store.specs.Gathering.{with_records, last_value, EndsWithTemplate, IsGathering, TakesRecord}
use Rattle.value_store.specs.LayoutArrays.{HasGrown, HasRowAt, IsRowAt, IsCopied, DraftsTemplate, HoldsFirst, with_array, EndsWithFamily, IsPackingLike, PlacesTemplate, IsInStruct, TakesFirst, PacksFirst, MovesFirst, MovesAsFirst, CannotDraftArray}
use Rattle.value_store.specs.Layouts.{packs_value, label_place, row_of, row_length, template_of, value_size, template_size, IsFixed, IsStructLabel}
use Rattle.value_store.specs.Lent.{place_value}
use Rattle.value_store.specs.Levels.{extended}
use Rattle.value_store.specs.Moves.{PacksRecord, CannotMove, State, IsWithin, with_first_drafted, state_of, moved}
use Rattle.value_store.specs.Takes.{Vector, NodesOf, FamiliesOf, LinksOf, PendingOf, TextsOf, BytesOf, of_vector, value_takes, level_takes}
use Rattle.value_store.specs.Names.{Names}
use Rattle.value_store.specs.Slots.{Slots, Held, no_value, packs, opened, trees, stack, value_at, levels, levels_at, innermost, label_in, size_in, family_at, cut_to, marks_of, level_of, IsRead, IsFamily, IsContent, IsComposite, IsTemplatePart, AreLevels, HasSlots, KeepsRoom, Regrown, with_more}
use Rattle.value_store.proofs.Counted.{levels-more, levels_at-more}
use Rattle.value_store.proofs.Fits.{top-level}
use Rattle.value_store.proofs.Found.{read-node}
use Rattle.value_store.proofs.Gathering.{gathering-none, gathers}
use Rattle.value_store.proofs.Grown.{length-stack}
use Rattle.value_store.proofs.Layouts.{length-row, template-length, fits-own}
use Rattle.value_store.proofs.LayoutArrays.{packing-like}
use Rattle.value_store.proofs.LayoutSizes.{template-takes, fixed-texts, first-size, first-moved, first-needed, drafted-within}
use Rattle.value_store.proofs.LayoutTemplates.{template-again}
use Rattle.value_store.proofs.Moved.{framed}

abbrev no_bytes : List ℕ
no_bytes = []

no_node : Node
no_node = record { start = 0; content = 0; shape = Array }

-- the value of the template that was placed
pub drafted-value : (names : Names) (h m : Held) (place : Place) (at end : ℕ) (t : PlacesTemplate h m place at end) →
    value_at names m.slots t.node ≡ template_of (place_value names h.slots place) at
unfolding stack value_at
drafted-value names h m place at end t =
    let ts = trees names m.slots in
    let value = template_of (place_value names h.slots place) at in
    let own = map (opened ts) h.slots.pending in
    let k = length h.slots.pending in
    let e : own ++ opened ts (Some t.node) ∷ [] ≡ stack names h.slots ++ Some value ∷ [] =
    sym (map-append (opened ts) h.slots.pending (Some t.node ∷ [])) ∙ sym (ap (map (opened ts)) t.pending)
    ∙ t.adds.stack names in
    let last : opened ts (Some t.node) ∷ [] ≡ Some value ∷ [] =
    sym (drop_at own (opened ts (Some t.node) ∷ []) k (length-map h.slots.pending (opened ts))) ∙ ap (drop k) e
    ∙ drop_at (stack names h.slots) (Some value ∷ []) k (length-stack names h.slots) in
    let found : slice_get ts t.node ≡ Some value = cc in
    get_or_from_slice_get ts t.node value no_value found

-- the shape of a struct's template
struct-shape : (names : Names) (s : Slots) (shape : Shape) (c at : ℕ) (label : Label) → IsStructLabel label →
    label_in names s shape c ≡ label_place label at → (type : ℕ) × (shape ≡ Struct type)
struct-shape names s shape c at (IntegerLabel z type) h e = absurd h
struct-shape names s shape c at (OffsetLabel z type unit) h e = absurd h
struct-shape names s shape c at (TextLabel bytes) h e = absurd h
struct-shape names s shape c at ArrayLabel h e = absurd h
struct-shape names s (Integer w g) c at (StructLabel name fields) h e = absurd (cc)
struct-shape names s (Offset w g u) c at (StructLabel name fields) h e = absurd (cc)
struct-shape names s Text c at (StructLabel name fields) h e = absurd (cc)
struct-shape names s (Integers w g) c at (StructLabel name fields) h e = absurd (cc)
struct-shape names s (Offsets w g u) c at (StructLabel name fields) h e = absurd (cc)
struct-shape names s (Records stride size) c at (StructLabel name fields) h e = absurd (cc)
struct-shape names s Array c at (StructLabel name fields) h e = absurd (cc)
struct-shape names s (Struct t) c at (StructLabel name fields) h e = (t, refl)
struct-shape names s (Union t i) c at (StructLabel name fields) h e = absurd (cc)
struct-shape names s shape c at (UnionLabel name index alternative) h e = absurd h

template-label : (v : Value) (at : ℕ) → label_of (template_of v at) ≡ label_place (label_of v) at
template-label (Mapped label start end _) at = refl

template-start : (v : Value) (at : ℕ) → start_of (template_of v at) ≡ start_of v
template-start (Mapped label start end _) at = refl

template-end : (v : Value) (at : ℕ) → end_of (template_of v at) ≡ end_of v
template-end (Mapped label start end _) at = refl

outer-extended : (ls : Levels) (vs : List (Option Value)) → outer_of (extended ls vs) ≡ outer_of ls
outer-extended [] vs = refl
outer-extended (top ∷ outer) vs = refl

-- a struct whose template was placed
module _ (h m : Held) (place : Place) (end : ℕ) (t : PlacesTemplate h m place 0 end)
    (all : AreLevels h.room h.frames h.slots) (names : Names) (v : Value)
    (is : place_value names h.slots place ≡ v) (fixed : IsFixed v) (label : IsStructLabel (label_of v))
    (few : row_length v ≤ 512) where
  abbrev size : ℕ
  size = end_of v - start_of v

  value : value_at names m.slots t.node ≡ template_of v 0
  value = drafted-value names h m place 0 end t ∙ ap (λ x. template_of x 0) is

  abbrev node : Node
  node = slice_index_or m.slots.nodes t.node no_node

  found : slice_get m.slots.nodes t.node ≡ Some node
  found = slice_get-get_or m.slots.nodes t.node no_node (omega (arith, t.last))

  at-end : t.node ≡ length m.slots.nodes - 1
  at-end = omega (arith, t.last)

  sort : (type : ℕ) × (node.shape ≡ Struct type)
  sort =
      let r = read-node m.slots t.node node t.adds.sound found in
      struct-shape names m.slots node.shape node.content 0 (label_of v) label
      (sym (r.label names) ∙ ap label_of value ∙ template-label v 0)

  begins : node.start ≡ start_of v
  begins =
      let r = read-node m.slots t.node node t.adds.sound found in
      sym (r.start names) ∙ ap start_of value ∙ template-start v 0

  ends : node.start + (family_at m.slots.families node.content).size ≡ end_of v
  ends =
      let r = read-node m.slots t.node node t.adds.sound found in
      subst (λ x. node.start + size_in m.slots x node.content ≡ end_of v) sort.1
      (sym (r.end names) ∙ ap end_of value ∙ template-end v 0)

  part : IsTemplatePart m.slots size (row_length v) (start_of v) [] t.node
  part =
      let same = sym is in
      t.part names size (row_length v) (start_of v)
      (subst (λ x. IsInStruct x 0 size (row_length v) (start_of v)) same (record {
        fixed = fixed;
        fits = omega arith;
        within = omega (arith, begins, ends);
      }))

  pub first-template : EndsWithTemplate m.slots size (row_length v) (start_of v) []
  first-template = record {
    some = omega (arith, t.last);
    node = node;
    found = subst (λ j. slice_get m.slots.nodes j ≡ Some node) at-end found;
    type = sort.0;
    shape = sort.1;
    begins = begins;
    sized = omega (arith, begins, ends);
    few = omega (arith, few);
    part = subst (λ j. IsTemplatePart m.slots size (row_length v) (start_of v) [] j) at-end part;
  }

  first-last : last_value names m.slots ≡ template_of v 0
  first-last = ap (value_at names m.slots) (sym at-end) ∙ value

  first-family : EndsWithFamily m.slots
  first-family = record {
    node = node;
    found = subst (λ j. slice_get m.slots.nodes j ≡ Some node) at-end found;
    last = t.family node found (subst IsComposite (sym sort.1) tt);
  }

  m-levels : AreLevels m.room m.frames m.slots
  m-levels =
      subst (λ (x : Held). AreLevels x.room x.frames m.slots) (sym t.same)
      (levels-more h.room h.frames h.slots m.slots _ all t.adds)

  m-outer : outer_of (levels_at names m.frames m.slots) ≡ outer_of (levels names h)
  unfolding levels
  m-outer =
      ap (λ (x : Held). outer_of (levels_at names x.frames m.slots)) t.same
      ∙ ap outer_of (levels_at-more names h.room h.frames h.slots m.slots _ all t.adds)
      ∙ outer-extended (levels_at names h.frames h.slots) _

  -- the array is made, and gets the struct
  module _ (n : Held) (made : HasSlots m n
      (with_records size (row_length v) [] (start_of v) (innermost m.frames).pending m.slots))
      (some : 1 ≤ row_length v) (short : end_of v < 2 ^ 64) (packed : packs h.room ≡ true) where
    gathered-none : IsGathering n m.slots size (row_length v) (start_of v) []
    gathered-none =
        let packs_m : packs m.room ≡ true = ap (λ (x : Held). packs x.room) t.same ∙ packed in
        subst (λ x. IsGathering x m.slots size (row_length v) (start_of v) []) (sym made)
        (gathering-none m size (row_length v) (start_of v) n.capacity m-levels first-template some
        (omega (arith, short, begins, ends)) packs_m)

    one-short : start_of v + size * (length no_bytes / row_length v + 1) < 2 ^ 64
    one-short =
        let none : length no_bytes / row_length v ≡ 0 = zero-div (row_length v) in
        let one : size * (0 + 1) ≡ size = omega arith in
        subst (λ k. start_of v + size * (k + 1) < 2 ^ 64) (sym none) (omega (arith, short, begins, ends, one))

    row-template : EndsWithTemplate m.slots size (row_length v) (start_of v) (row_of v)
    row-template = template-again names m.slots t.adds.sound size (row_length v) (start_of v) (row_of v) (length-row v)
        some (omega (arith, few)) (length m.slots.nodes) [] v first-template first-last (fits-own v)

    pub takes-first : TakesRecord n (row_of v)
    takes-first = record {
      before = m.slots;
      size = size;
      stride = row_length v;
      start = start_of v;
      bytes = [];
      gathering = gathered-none;
      whole = length-row v;
      short = one-short;
      fits = row-template;
    }

    pub packs-first : (outer : Levels) → outer_of (levels names h) ≡ outer → (l : Held) →
        HasSlots n l (with_more (row_of v) n.slots) →
        IsPackingLike names l (template_of v 0) size (start_of v) (row_of v ∷ []) outer
    packs-first outer inside l more =
        let stride : row_length (template_of v 0) ≡ row_length v = template-length v 0 in
        let one =
        gathers n (row_of v) l.capacity m.slots size (row_length v) (start_of v) [] gathered-none (length-row v)
        one-short row-template in
        let held : IsGathering l m.slots size (row_length v) (start_of v) (row_of v) =
        subst (λ x. IsGathering x m.slots size (row_length v) (start_of v) (row_of v)) (sym more) one.gathering in
        let g : IsGathering l m.slots size (row_length (template_of v 0)) (start_of v) (row_of v ++ []) =
        subst (λ k. IsGathering l m.slots size k (start_of v) (row_of v ++ [])) (sym stride)
        (subst (IsGathering l m.slots size (row_length v) (start_of v)) (sym (append-nil (row_of v))) held) in
        let frames : l.frames ≡ m.frames =
        ap (λ (x : Held). x.frames) more ∙ ap (λ (x : Held). x.frames) made in
        packing-like names l m.slots (template_of v 0) v size (start_of v) (row_of v ∷ []) outer g first-last refl
        first-family (length-row v ∙ sym stride, tt) (omega (arith, stride, few))
        (ap (λ ks. outer_of (levels_at names ks m.slots)) frames ∙ m-outer ∙ inside)

-- what the calls of `pack_first` did: the part was read, its template placed, the array made, and the row appended
pub record IsFirstRead (h : Held) (root : ℕ) (own : Node) (size count : ℕ) (row : List ℕ) : Type 0 where
  pub takes : TakesFirst h
  pub part : (names : Names) → Some (value_at names h.slots root) ≡ part_value (levels names h) 0 0
  pub read : IsRead h.slots root own
  pub sized : size ≡ (family_at h.slots.families own.content).size
  pub rows : IsRowAt h 0 row
  pub counted : count ≡ length row

-- a frame with one part
pub alone : (ls : Levels) (v : Value) (outer : Levels) → ls ≡ (Some v ∷ []) ∷ outer → part_value ls 0 0 ≡ Some v
alone ls v outer e = ap (λ ls. part_value ls 0 0) e

pub part-is : (ls : Levels) (x v : Value) (outer : Levels) → Some x ≡ part_value ls 0 0 →
    ls ≡ (Some v ∷ []) ∷ outer → x ≡ v
part-is ls x v outer e f = let s : Some x ≡ Some v = e ∙ alone ls v outer f in cc

pub first-part : (h : Held) → TakesFirst h → HasRowAt h 0
first-part h q = record {
  names = q.names;
  value = q.value;
  is = alone (levels q.names h) q.value q.outer q.is;
  fixed = q.fixed;
  few = q.few;
}

module _ (h : Held) (root : ℕ) (q : TakesFirst h)
    (part : (names : Names) → Some (value_at names h.slots root) ≡ part_value (levels names h) 0 0) where
  first-value : value_at q.names h.slots root ≡ q.value
  first-value = part-is (levels q.names h) (value_at q.names h.slots root) q.value q.outer (part q.names) q.is

  pub first-copied : root < length h.slots.nodes → IsCopied h.slots (place.Node root) 0
  first-copied there = record {
    there = there;
    names = q.names;
    fixed = subst IsFixed (sym first-value) q.fixed;
    few = omega (arith, q.few, ap row_length first-value);
  }

  first-sort : (own : Node) → IsRead h.slots root own → (type : ℕ) × (own.shape ≡ Struct type)
  first-sort own r =
      own-shape q.names h.slots own.shape own.content (label_of q.value) q.label
      (sym (r.label q.names) ∙ ap label_of first-value)
    where
      own-shape : (names : Names) (s : Slots) (shape : Shape) (c : ℕ) (label : Label) → IsStructLabel label →
          label_in names s shape c ≡ label → (type : ℕ) × (shape ≡ Struct type)
      own-shape names s shape c (IntegerLabel z type) h e = absurd h
      own-shape names s shape c (OffsetLabel z type unit) h e = absurd h
      own-shape names s shape c (TextLabel bytes) h e = absurd h
      own-shape names s shape c ArrayLabel h e = absurd h
      own-shape names s (Integer w g) c (StructLabel name fields) h e = absurd (cc)
      own-shape names s (Offset w g u) c (StructLabel name fields) h e = absurd (cc)
      own-shape names s Text c (StructLabel name fields) h e = absurd (cc)
      own-shape names s (Integers w g) c (StructLabel name fields) h e = absurd (cc)
      own-shape names s (Offsets w g u) c (StructLabel name fields) h e = absurd (cc)
      own-shape names s (Records stride size) c (StructLabel name fields) h e = absurd (cc)
      own-shape names s Array c (StructLabel name fields) h e = absurd (cc)
      own-shape names s (Struct t) c (StructLabel name fields) h e = (t, refl)
      own-shape names s (Union t i) c (StructLabel name fields) h e = absurd (cc)
      own-shape names s shape c (UnionLabel name index alternative) h e = absurd h

  pub first-is_family : (own : Node) → IsRead h.slots root own → IsFamily h.slots own.content
  first-is_family own r = subst (λ x. IsContent h.slots x own.start own.content) (first-sort own r).1 r.content

  pub first-small : (own : Node) (size : ℕ) → IsRead h.slots root own →
      size ≡ (family_at h.slots.families own.content).size → size < 2 ^ 32
  first-small own size r sized =
      let end : own.start + (family_at h.slots.families own.content).size ≡ end_of q.value =
      subst (λ x. own.start + size_in h.slots x own.content ≡ end_of q.value) (first-sort own r).1
      (sym (r.end q.names) ∙ ap end_of first-value) in
      let begin : own.start ≡ start_of q.value = sym (r.start q.names) ∙ ap start_of first-value in
      omega (arith, end, begin, sized, q.small)

-- a template has no text
pub no-texts : (v : Value) (at : ℕ) → IsFixed v → (value_takes false TextsOf (template_of v at) ≡ 0)
    × (value_takes false BytesOf (template_of v at) ≡ 0)
no-texts v at h =
    let own = fixed-texts v h in
    (omega (arith, own.0, template-takes TextsOf v at), omega (arith, own.1, template-takes BytesOf v at))

-- a frame with some parts has a pending child for each
pub parts-pending : (names : Names) (h : Held) (top : List (Option Value)) (outer : Levels) →
    levels names h ≡ top ∷ outer → 1 ≤ length top →
    length h.slots.pending ≡ (innermost h.frames).pending + length top
unfolding levels
parts-pending names h top outer is some =
    let k = innermost h.frames in
    let own : level_of names k h.slots ≡ top = sym (top-level names h.frames h.slots) ∙ ap top_of is in
    omega (
      arith,
      some,
      ap length own,
      length-drop k.pending (stack names h.slots),
      length-stack names h.slots,
    )

-- one for the only part
pub one-part : (names : Names) (h : Held) (value : Value) (outer : Levels) →
    levels names h ≡ (Some value ∷ []) ∷ outer →
    length h.slots.pending ≡ (innermost h.frames).pending + 1
one-part names h value outer is = parts-pending names h (Some value ∷ []) outer is (omega arith)

module _ (h r : Held) (root : ℕ) (own : Node) (size count end : ℕ) (row : List ℕ)
    (all : AreLevels h.room h.frames h.slots) (f : IsFirstRead h root own size count row)
    (t : PlacesTemplate h r (place.Node root) 0 end) where
  -- the value by the names of some table
  record IsFirstValue (names : Names) (value : Value) : Type 0 where
    value-is : value_at names h.slots root ≡ value
    fixed : IsFixed value
    label : IsStructLabel (label_of value)
    few : row_length value ≤ 512
    some : 1 ≤ row_length value
    short : end_of value < 2 ^ 64
    begin-is : own.start ≡ start_of value
    size-is : size ≡ end_of value - start_of value
    count-is : count ≡ row_length value
    row-is : row ≡ row_of value

  first-value-of : (names : Names) (value : Value) (outer : Levels) → levels names h ≡ (Some value ∷ []) ∷ outer →
      IsFixed value → IsFirstValue names value
  first-value-of names value outer e fixed =
      let q = f.takes in
      let sort = first-sort h root q f.part own f.read in
      let is = part-is (levels names h) (value_at names h.slots root) value outer (f.part names) e in
      let first = part-is (levels q.names h) (value_at q.names h.slots root) q.value q.outer (f.part q.names) q.is in
      let begin : own.start ≡ start_of value = sym (f.read.start names) ∙ ap start_of is in
      let end : own.start + size ≡ end_of value =
      ap (λ n. own.start + n) f.sized
      ∙ subst (λ x. own.start + size_in h.slots x own.content ≡ end_of value) sort.1
      (sym (f.read.end names) ∙ ap end_of is) in
      let begin_q : own.start ≡ start_of q.value = sym (f.read.start q.names) ∙ ap start_of first in
      let end_q : own.start + size ≡ end_of q.value =
      ap (λ n. own.start + n) f.sized
      ∙ subst (λ x. own.start + size_in h.slots x own.content ≡ end_of q.value) sort.1
      (sym (f.read.end q.names) ∙ ap end_of first) in
      let row_v = f.rows names value (alone (levels names h) value outer e) in
      let row_q = f.rows q.names q.value (alone (levels q.names h) q.value q.outer q.is) in
      let count_v : count ≡ row_length value = f.counted ∙ ap length row_v ∙ length-row value in
      let count_q : count ≡ row_length q.value = f.counted ∙ ap length row_q ∙ length-row q.value in
      let label : IsStructLabel (label_of value) =
      subst (λ l. IsStructLabel l) (sym (f.read.label names) ∙ ap label_of is)
      (subst (λ x. IsStructLabel (label_in names h.slots x own.content)) (sym sort.1) tt) in
      record {
        value-is = is;
        fixed = fixed;
        label = label;
        few = omega (arith, q.few, count_v, count_q);
        some = omega (arith, q.some, count_v, count_q);
        short = omega (arith, q.short, end, end_q);
        begin-is = begin;
        size-is = omega (arith, begin, end);
        count-is = count_v;
        row-is = row_v;
      }

  abbrev mine : IsFirstValue f.takes.names f.takes.value
  mine = first-value-of f.takes.names f.takes.value f.takes.outer f.takes.is f.takes.fixed

  pub placed-template : EndsWithTemplate r.slots size count own.start []
  placed-template =
      let w = mine in
      let made =
      first-template h r (place.Node root) end t all f.takes.names f.takes.value w.value-is w.fixed w.label w.few in
      subst (λ n. EndsWithTemplate r.slots n count own.start []) (sym w.size-is)
      (subst (λ n. EndsWithTemplate r.slots (end_of f.takes.value - start_of f.takes.value) n own.start [])
      (sym w.count-is)
      (subst
      (λ n. EndsWithTemplate r.slots (end_of f.takes.value - start_of f.takes.value) (row_length f.takes.value) n [])
      (sym w.begin-is) made))

  pub placed-some : 1 ≤ count
  placed-some = let w = mine in omega (arith, w.count-is, w.some)

  pub placed-packs : packs r.room ≡ true
  placed-packs = ap (λ (x : Held). packs x.room) t.same ∙ f.takes.packs

  pub placed-mark : (innermost r.frames).pending + 2 ≤ length r.slots.pending
  placed-mark =
      let own_frames = ap (λ (x : Held). (innermost x.frames).pending) t.same in
      let some = one-part f.takes.names h f.takes.value f.takes.outer f.takes.is in
      omega (arith, own_frames, some, ap length t.pending, length_push h.slots.pending (Some t.node))

  module _ (n : Held)
      (made : HasSlots r n (with_records size count [] own.start (innermost r.frames).pending r.slots)) where
    remade : (names : Names) (value : Value) → IsFirstValue names value →
        HasSlots r n (with_records (end_of value - start_of value) (row_length value) [] (start_of value)
        (innermost r.frames).pending r.slots)
    remade names value w =
        let k = (innermost r.frames).pending in
        subst (λ x. HasSlots r n (with_records x (row_length value) [] (start_of value) k r.slots)) w.size-is
        (subst (λ x. HasSlots r n (with_records size x [] (start_of value) k r.slots)) w.count-is
        (subst (λ x. HasSlots r n (with_records size count [] x k r.slots)) w.begin-is made))

    pub first-record : TakesRecord n row
    first-record =
        let w = mine in
        subst (TakesRecord n) (sym w.row-is)
        (takes-first h r (place.Node root) end t all f.takes.names f.takes.value w.value-is w.fixed w.label w.few n
        (remade f.takes.names f.takes.value w) w.some w.short f.takes.packs)

    pub first-packs : (l : Held) → HasSlots n l (with_more row n.slots) → PacksFirst h l
    first-packs l more = λ names value outer e fixed.
        let w = first-value-of names value outer e fixed in
        packs-first h r (place.Node root) end t all names value w.value-is w.fixed w.label w.few n
        (remade names value w) w.some w.short f.takes.packs outer (ap outer_of e) l
        (subst (λ bs. HasSlots n l (with_more bs n.slots)) w.row-is more)

    -- the lengths of the vectors
    pub first-moves : (l : Held) (k : ℕ) → k ≡ length row →
        state_of l ≡ moved (packs n.room) (PacksRecord k) (state_of n) → MovesFirst h l
    first-moves l k counted is = λ names value outer e fixed.
        let w = first-value-of names value outer e fixed in
        let template = template_of value 0 in
        let takes : (vector : Vector) → of_vector vector (marks_of r.slots)
        ≡ of_vector vector (marks_of h.slots) + level_takes false vector (Some template ∷ []) =
        λ vector. t.takes names vector
        ∙ ap (λ x. of_vector vector (marks_of h.slots) + level_takes false vector (Some (template_of x 0) ∷ []))
        w.value-is in
        let s = ap (λ (x : Held). x.slots) made in
        let node : Node = record { start = own.start; content = length r.slots.texts; shape = Records count size } in
        let mark = (innermost r.frames).pending in
        let frame = ap (λ (x : Held). (innermost x.frames).pending) t.same in
        let nodes : length n.slots.nodes ≡ length h.slots.nodes + value_takes false NodesOf template + 1 =
        omega (arith, ap (λ (x : Slots). length x.nodes) s, length_push r.slots.nodes node, takes NodesOf) in
        let families : length n.slots.families ≡ length h.slots.families + value_takes false FamiliesOf template =
        omega (arith, ap (λ (x : Slots). length x.families) s, takes FamiliesOf) in
        let links : length n.slots.links ≡ length h.slots.links + value_takes false LinksOf template =
        omega (arith, ap (λ (x : Slots). length x.links) s, takes LinksOf) in
        let pending : length n.slots.pending ≡ length h.slots.pending =
        omega (
          arith,
          ap (λ (x : Slots). length x.pending) s,
          length_push (take mark r.slots.pending) (Some (length r.slots.nodes)),
          length-take mark r.slots.pending,
          placed-mark,
          frame,
          one-part f.takes.names h f.takes.value f.takes.outer f.takes.is,
        ) in
        let none = no-texts value 0 fixed in
        let texts : length n.slots.texts ≡ length h.slots.texts + 1 =
        omega (
          arith,
          ap (λ (x : Slots). length x.texts) s,
          length_push r.slots.texts (length r.slots.bytes + length no_bytes),
          takes TextsOf,
          none.0,
        ) in
        let bytes : length n.slots.bytes + k ≡ length h.slots.bytes + row_length value =
        omega (
          arith,
          ap (λ (x : Slots). length x.bytes) s,
          length-append r.slots.bytes no_bytes,
          takes BytesOf,
          none.1,
          counted,
          f.counted,
          w.count-is,
        ) in
        let frames : n.frames ≡ h.frames =
        ap (λ (x : Held). x.frames) made ∙ ap (λ (x : Held). x.frames) t.same in
        is ∙ cc

-- the call's move is that of the struct
pub first-as_move : (h l : Held) → packs h.room ≡ true → MovesFirst h l → MovesAsFirst h l
first-as_move h l packed moves = λ names value outer e fixed.
    let only = one-part names h value outer e in
    moves names value outer e fixed
    ∙ ap (framed h.frames) (first-size value (row_length value) (marks_of h.slots))
    ∙ sym (first-moved (packs h.room) (state_of h) (value_size value) (template_size value) (row_length value) packed
    only)

-- there is capacity for the most that the move needs
pub first-holds : (h r l : Held) (root end count : ℕ) (row : List ℕ) → packs h.room ≡ true →
    ((names : Names) → Some (value_at names h.slots root) ≡ part_value (levels names h) 0 0) → IsRowAt h 0 row →
    count ≡ length row → PlacesTemplate h r (place.Node root) 0 end →
    IsWithin (record {
      now = with_array (length r.slots.nodes - (length h.slots.nodes + 1)) count (marks_of r.slots);
      frames = [];
    }) l.capacity →
    HoldsFirst h l
first-holds h r l root end count row packed part rows counted t within = λ names value outer e fixed vector.
    let is = part-is (levels names h) (value_at names h.slots root) value outer (part names) e in
    let own = rows names value (alone (levels names h) value outer e) in
    let stride : count ≡ row_length value = counted ∙ ap length own ∙ length-row value in
    let most =
    first-needed (packs h.room) (state_of h) (value_size value) (template_size value) (row_length value) packed
    (one-part names h value outer e) in
    let v = value_at names h.slots root in
    let k = marks_of h.slots in
    let fits =
    drafted-within vector k (marks_of r.slots) l.capacity v 0 count (subst IsFixed (sym is) fixed) (t.takes names)
    within in
    let same : of_vector vector (with_first_drafted (template_size v) count k)
    ≡ of_vector vector (with_first_drafted (template_size value) (row_length value) k) =
    ap (λ v. of_vector vector (with_first_drafted (template_size v) count k)) is
    ∙ ap (λ n. of_vector vector (with_first_drafted (template_size value) n k)) stride in
    omega (arith, fits, same, ap (λ (s : State). of_vector vector s.now) most)

-- what was reserved for the array stays
pub drafted-stays : (h m n l : Held) (place : Place) (count : ℕ) → DraftsTemplate h m place count → KeepsRoom m n →
    KeepsRoom n l → IsWithin (record {
      now = with_array (length m.slots.nodes - (length h.slots.nodes + 1)) count (marks_of m.slots);
      frames = [];
    }) l.capacity
drafted-stays h m n l place count d one two NodesOf = omega (arith, d.nodes, one.nodes, two.nodes)
drafted-stays h m n l place count d one two FamiliesOf = omega (arith, d.within.families, one.families, two.families)
drafted-stays h m n l place count d one two LinksOf = omega (arith, d.within.links, one.links, two.links)
drafted-stays h m n l place count d one two PendingOf = omega (arith, d.pending, one.pending, two.pending)
drafted-stays h m n l place count d one two TextsOf = omega (arith, d.texts, one.texts, two.texts)
drafted-stays h m n l place count d one two BytesOf = omega (arith, d.bytes, one.bytes, two.bytes)

-- a struct has as many bytes as its row
pub first-stride : (h : Held) (count : ℕ) (row : List ℕ) → IsRowAt h 0 row → count ≡ length row →
    (names : Names) (value : Value) (outer : Levels) → levels names h ≡ (Some value ∷ []) ∷ outer →
    count ≡ row_length value
first-stride h count row rows counted names value outer e =
    let own = rows names value (alone (levels names h) value outer e) in
    counted ∙ ap length own ∙ length-row value

-- the template doesn't fit, or the array after it
pub first-lacks : (h : Held) (root : ℕ) (count : ℕ) (row : List ℕ) → packs h.room ≡ true →
    ((names : Names) → Some (value_at names h.slots root) ≡ part_value (levels names h) 0 0) → IsRowAt h 0 row →
    count ≡ length row → CannotDraftArray h (place.Node root) count →
    (names : Names) (value : Value) (outer : Levels) → levels names h ≡ (Some value ∷ []) ∷ outer → IsFixed value →
    CannotMove h (packs_value value)
first-lacks h root count row packed part rows counted lacks names value outer e fixed =
    let is = part-is (levels names h) (value_at names h.slots root) value outer (part names) e in
    let stride = first-stride h count row rows counted names value outer e in
    let l = lacks names (subst IsFixed (sym is) fixed) in
    let vector = l.0 in
    let most =
    first-needed (packs h.room) (state_of h) (value_size value) (template_size value) (row_length value) packed
    (one-part names h value outer e) in
    let same : of_vector vector
    (with_first_drafted (template_size (value_at names h.slots root)) count (marks_of h.slots))
    ≡ of_vector vector (with_first_drafted (template_size value) (row_length value) (marks_of h.slots)) =
    ap (λ v. of_vector vector (with_first_drafted (template_size v) count (marks_of h.slots))) is
    ∙ ap (λ n. of_vector vector (with_first_drafted (template_size value) n (marks_of h.slots))) stride in
    (vector, omega (arith, l.1, same, ap (λ (s : State). of_vector vector s.now) most))

-- what was placed is cut off again
module _ (h n : Held) (all : AreLevels h.room h.frames h.slots) (g : HasGrown h n) (marks : Marks)
    (are : marks ≡ marks_of h.slots) where
  back : cut_to marks n.slots ≡ h.slots
  back = ap (λ (k : Marks). cut_to k n.slots) are ∙ g.adds.rest

  pub back-levels : AreLevels n.room n.frames (cut_to marks n.slots)
  back-levels =
      subst (λ x. AreLevels n.room n.frames x) (sym back)
      (subst (λ (x : Held). AreLevels x.room x.frames h.slots) (sym g.same) all)

  pub back-regrown : (l : Held) → HasSlots n l (cut_to marks n.slots) → Regrown h l
  back-regrown l e =
      e ∙ ap (λ (x : Slots). record n { slots = x; capacity = l.capacity }) back
      ∙ ap (λ (x : Held). record x { slots = h.slots; capacity = l.capacity }) g.same
