-- What is placed for the template of an array of packed structs.
use mathlib.Core.Logic.{∥∥₁_map}
use Rattle.std.proofs.Common.{◌≡◌, ℕ, suc, ◌+◌, ◌-◌, ◌*◌, ◌/◌, ◌<◌, ◌≤◌, true, false, Bool, List, [], ◌∷◌, ◌++◌, Option, Some, None, length, take, drop, refl, sym, ◌∙◌, ap, subst, arith}
use Rattle.std.specs.Prelude.{slice_get, slice_index, slice_index_or, pos, ℤ}
use Rattle.std.specs.Int.{w64}
use Rattle.std.proofs.lemmas.Int.{to_z_pos}
use Rattle.std.proofs.lemmas.List.{append-nil, append_assoc, length-append, length_push, drop_at, take_at, get_or_append_left}
use Rattle.std.proofs.Math.Nat.{zero-div}
use Rattle.std.proofs.lemmas.Option.{slice_get_within}
use Rattle.value_store.specs.declared.store.room.Room.{Room}
use Rattle.value_store.specs.declared.store.slots.Node.{Node}
use Rattle.value_store.specs.declared.store.slots.Family.{Family}
use Rattle.value_store.specs.declared.store.slots.Place.{Place}
use Rattle.value_store.specs.declared.store.slots.Place.TheVariants as place
use Rattle.value_store.specs.declared.store.slots.Shape.{Shape}
use Rattle.value_store.specs.declared.store.slots.Shape.TheVariants.{Integer, Offset, Text, Integers, Offsets, Records, Array, Struct, Union}
use Rattle.pickle_meaning.specs.Values.{Value, Mapped, NoMembers, MemberThen, AbsentThen, Members, Label, IntegerLabel, OffsetLabel, label_of, start_of, end_of, members_of, member_count, member_at, gathered}
use Rattle.value_store.specs.Layouts.{label_length, label_place, row_length, rows_length, template_of, templates_of, templates_upto, length_upto, IsFixed, IsFixedLabel, IsPlain}
use Rattle.value_store.specs.LayoutArrays.{drafts, CannotDraft, CannotDraftArray, CannotHoldArray, CannotJoin, IsCopied, IsInStruct, HasGrown, PlacesTemplate, PlacesTemplates, IsAbove}
use Rattle.value_store.specs.Lent.{place_value, element_in, element_count, packed_count, part_in, row_in, record_size, record_stride, struct_count, shape_label, HasWidth, IsPlace, IsShapeOf}
use Rattle.value_store.specs.declared.stored.StoredValue.{StoredValue}
use Rattle.value_store.specs.Refs.{value_of}
use Rattle.value_store.specs.Moves.{Places, CannotMove, with_links}
use Rattle.value_store.specs.Names.{Names}
use Rattle.value_store.specs.Packed.{bytes_for}
use Rattle.value_store.specs.Records.{instance}
use Rattle.value_store.specs.Slots.{Slots, Held, no_value, part, text_bytes, row_numbers, element_width, element_value, number_bits, number_in, number_value, composite_label, trees, stack, value_at, cut_to, marks_of, family_at, IsFamily, IsContent, IsNumber, IsComposite, IsColumn, KeepsRoom, Regrown, IsBranch, IsTemplatePart, NumberPart, BranchPart, AreTemplateParts, NoParts, PartThen, AbsentPartThen, IsSound, Adds, AreLevels, HasSlots, with_leaf, with_family, fixed}
use Rattle.value_store.specs.Takes.{of_vector, families_taken, level_takes, Vector, NodesOf}
use Rattle.value_store.proofs.Counted.{Adds-within, Adds-none, cut-more, levels-sound}
use Rattle.value_store.proofs.FamilyRows.{Grows, slice_get-append, slice_get-push, row_numbers-grow, text_bytes-grow}
use Rattle.value_store.proofs.Found.{node_sound}
use Rattle.value_store.proofs.Grown.{Grows-cut, trees-cut, length-trees}
use Rattle.value_store.proofs.Instances.{IsPartOf, is_part, has_part, records-content}
use Rattle.value_store.proofs.Layouts.{templates-next, templates-all, length-next, length-all, length-within, fixed-at, fixed-there}
use Rattle.value_store.proofs.LayoutRows.{length-parts, fixed-parts}
use Rattle.value_store.proofs.LayoutJoined.{joined-adds}
use Rattle.value_store.proofs.LayoutSizes.{number-drafts, drafts-upto, branch-drafts, drafts-array, array-drafts, some-node}
use Rattle.value_store.proofs.Linked.{part_within}
use Rattle.value_store.proofs.Moved.{room-kept}
use Rattle.value_store.proofs.Placed.{number-adds, family-new, family-row, family-end}
use Rattle.value_store.proofs.RecordsRead.{array_shape}
use Rattle.value_store.proofs.Taken.{level_takes-append}
use Rattle.value_store.proofs.Templates.{number-composite, part-grow, parts-grow}

-- what is added grows a store
pub Adds-grows : (room : Room) (s u : Slots) (vs : Names → List (Option Value)) → Adds room s u vs → Grows s u
Adds-grows room s u vs h = subst (λ x. Grows x u) h.rest (Grows-cut (marks_of s) u)

-- one after the other
pub Adds-trans : (room : Room) (s u t : Slots) (vs ws : Names → List (Option Value)) → Adds room s u vs →
    Adds room u t ws → Adds room s t (λ names. vs names ++ ws names)
Adds-trans room s u t vs ws h g =
    let w = Adds-within room s u vs h in
    record {
      sound = g.sound;
      rest = cut-more room (marks_of s) u t ws w g ∙ h.rest;
      stack = λ names.
          g.stack names ∙ ap (λ os. os ++ ws names) (h.stack names)
          ∙ append_assoc (stack names s) (vs names) (ws names);
      takes = λ none names vector. omega (
        arith,
        h.takes none names vector,
        g.takes none names vector,
        level_takes-append false vector (vs names) (ws names),
      );
      bare = λ e.
          let more = (Adds-within room u t ws g).nodes in
          let own = h.bare (omega (arith, e, more, w.nodes)) in
          let added = g.bare (omega (arith, e, more, w.nodes)) in
          record {
            families = added.families ∙ own.families;
            links = added.links ∙ own.links;
            texts = added.texts ∙ own.texts;
            bytes = added.bytes ∙ own.bytes;
          };
    }

-- the same values, said in another way
pub Adds-same : (room : Room) (s u : Slots) (vs ws : Names → List (Option Value)) →
    ((names : Names) → vs names ≡ ws names) →
    Adds room s u vs → Adds room s u ws
Adds-same room s u vs ws e h = record {
  sound = h.sound;
  rest = h.rest;
  stack = λ names. h.stack names ∙ ap (λ os. stack names s ++ os) (e names);
  takes = λ none names vector.
      h.takes none names vector ∙ ap (λ os. of_vector vector (marks_of s) + level_takes false vector os) (e names);
  bare = h.bare;
}

-- places stay as a store grows
module _ (room : Room) (s u : Slots) (vs : Names → List (Option Value)) (sound : IsSound s) (h : Adds room s u vs) where
  grows : Grows s u
  grows = Adds-grows room s u vs h

  pub value-stays : (names : Names) (j : ℕ) → j < length s.nodes → value_at names u j ≡ value_at names s j
  unfolding value_at
  value-stays names j p =
      let below : IsSound (cut_to (marks_of s) u) = subst IsSound (sym h.rest) sound in
      let r = trees-cut names (marks_of s) u below in
      let e : trees names u ≡ trees names s ++ r.0 = r.1 ∙ ap (λ x. trees names x ++ r.0) h.rest in
      ap (λ ts. slice_index_or ts j no_value) e
      ∙ get_or_append_left (trees names s) r.0 no_value j (omega (arith, p, length-trees names s))

  node-stays : (j : ℕ) (n : Node) → slice_get s.nodes j ≡ Some n → slice_get u.nodes j ≡ Some n
  node-stays j n found =
      ap (λ ns. slice_get ns j) grows.nodes
      ∙ slice_get-append s.nodes grows.more_nodes j (slice_get_within s.nodes j n found) ∙ found

  count-stays : (shape : Shape) (start c : ℕ) → IsContent s shape start c →
      packed_count u shape c ≡ packed_count s shape c
  count-stays (Integer w g) start c k = refl
  count-stays (Offset w g x) start c k = refl
  count-stays Text start c k = refl
  count-stays (Integers w g) start c k = ap length (row_numbers-grow s u w c grows k.0)
  count-stays (Offsets w g x) start c k = ap length (row_numbers-grow s u w c grows k.0)
  count-stays (Records stride size) start c k = refl
  count-stays Array start c k = refl
  count-stays (Struct t) start c k = refl
  count-stays (Union t i) start c k = refl

  element-stays : (shape : Shape) (start c at i : ℕ) → IsContent s shape start c →
      element_value shape at (slice_index (row_numbers u (element_width shape) c) i)
      ≡ element_value shape at (slice_index (row_numbers s (element_width shape) c) i)
  element-stays (Integer w g) start c at i k = refl
  element-stays (Offset w g x) start c at i k = refl
  element-stays Text start c at i k = refl
  element-stays (Integers w g) start c at i k =
      ap (λ ns. element_value (Integers w g) at (slice_index ns i)) (row_numbers-grow s u w c grows k.0)
  element-stays (Offsets w g x) start c at i k =
      ap (λ ns. element_value (Offsets w g x) at (slice_index ns i)) (row_numbers-grow s u w c grows k.0)
  element-stays (Records stride size) start c at i k = refl
  element-stays Array start c at i k = refl
  element-stays (Struct t) start c at i k = refl
  element-stays (Union t j) start c at i k = refl

  pub record Stays (p : Place) : Type 0 where
    pub there : IsPlace u p
    pub same : (names : Names) → place_value names u p ≡ place_value names s p

  stays-element : (a i : ℕ) (o : Option Node) → slice_get s.nodes a ≡ o → i < element_count s o →
      Stays (place.Element a i)
  stays-element a i None found p = absurd (omega (arith, p))
  stays-element a i (Some n) found p =
      let own = (node_sound s a n sound found).content in
      let later = node-stays a n found in
      record {
        there = subst (λ o. i < element_count u o) (sym later)
            (subst (λ m. i < m) (sym (count-stays n.shape n.start n.content own)) p);
        same = λ names.
            ap (λ o. element_in u o i) later
            ∙ element-stays n.shape n.start n.content (n.start + element_width n.shape * i) i own
            ∙ sym (ap (λ o. element_in s o i) found);
      }

  stays-part : (a i j : ℕ) → IsPartOf s a i j → Stays (place.Part a i j)
  stays-part a i j p =
      let n = p.own in
      let sort = array_shape s a i j n p p.found in
      let content = records-content s sound a n sort.0 sort.1 p.found sort.2 in
      let bytes = text_bytes-grow s u n.content grows content.0 in
      let later = node-stays a n p.found in
      let size = record_size n.shape in
      let stride = record_stride n.shape in
      let counted : struct_count u n.shape n.content ≡ struct_count s n.shape n.content =
      subst (λ x. struct_count u x n.content ≡ struct_count s x n.content) (sym sort.2)
      (ap (λ (bs : List ℕ). length bs / sort.0) bytes) in
      record {
        there = has_part u a i j (record {
          own = n;
          found = later;
          there = subst (λ m. i < m) (sym counted) p.there;
          before = p.before;
          part = ∥∥₁_map p.part (λ t. subst (λ bs. IsTemplatePart u size stride n.start bs j) (sym bytes)
              (part-grow s u size stride n.start (text_bytes s.texts s.bytes n.content) grows t));
        });
        same = λ names.
            ap (λ o. part_in names u o i j) later
            ∙ ap (λ v. instance v (size * i) (row_in u n i)) (value-stays names j (part_within s a i j p))
            ∙ ap (λ bs. instance (value_at names s j) (size * i) (part (stride * i) stride bs)) bytes
            ∙ sym (ap (λ o. part_in names s o i j) p.found);
      }

  pub place-stays : (p : Place) → IsPlace s p → Stays p
  place-stays (place.Node j) p = record {
    there = omega (arith, p, (Adds-within room s u vs h).nodes);
    same = λ names. value-stays names j p;
  }
  place-stays (place.Element a i) p = stays-element a i (slice_get s.nodes a) refl p
  place-stays (place.Part a i j) p = stays-part a i j (is_part s a i j p)

-- no members are counted
no-members : (ms : Members) → member_count ms ≡ 0 → ms ≡ NoMembers
no-members NoMembers e = refl
no-members (MemberThen v rest) e = absurd (omega (arith, e))
no-members (AbsentThen rest) e = absurd (omega (arith, e))

small-number : (g : Bool) (c : ℕ) → c ≤ 512 → number_in g c ≡ pos c
small-number true c h = to_z_pos w64 c (omega (arith, h))
small-number false c h = refl

-- the shape of a number
pub number-shape : (shape : Shape) → HasWidth shape → 0 < number_bits shape → IsNumber shape
number-shape (Integer w g) h p = h
number-shape (Offset w g u) h p = h
number-shape Text h p = absurd (omega (arith, p))
number-shape (Integers w g) h p = absurd (omega (arith, p))
number-shape (Offsets w g u) h p = absurd (omega (arith, p))
number-shape (Records stride size) h p = absurd (omega (arith, p))
number-shape Array h p = absurd (omega (arith, p))
number-shape (Struct t) h p = absurd (omega (arith, p))
number-shape (Union t i) h p = absurd (omega (arith, p))

-- a value of a shape
module _ (names : Names) (number : ℤ) (bytes : List ℕ) where
  fixed-bits : (shape : Shape) (v : Value) → IsNumber shape → label_of v ≡ shape_label names shape number bytes →
      IsFixed v → (start_of v + number_bits shape ≡ end_of v) × (members_of v ≡ NoMembers)
  fixed-bits (Integer w g) (Mapped label start end ms) n e h =
      let k = subst (λ l. IsFixedLabel l start end ms) e h.0 in (k.bits, k.none)
  fixed-bits (Offset w g u) (Mapped label start end ms) n e h =
      let k = subst (λ l. IsFixedLabel l start end ms) e h.0 in (k.0.bits, k.0.none)
  fixed-bits Text v n e h = absurd n
  fixed-bits (Integers w g) v n e h = absurd n
  fixed-bits (Offsets w g u) v n e h = absurd n
  fixed-bits (Records stride size) v n e h = absurd n
  fixed-bits Array v n e h = absurd n
  fixed-bits (Struct t) v n e h = absurd n
  fixed-bits (Union t i) v n e h = absurd n

  number-length : (shape : Shape) (v : Value) → IsNumber shape → label_of v ≡ shape_label names shape number bytes →
      label_length (label_of v) ≡ bytes_for (number_bits shape)
  number-length (Integer w g) v n e = ap label_length e
  number-length (Offset w g u) v n e = ap label_length e
  number-length Text v n e = absurd n
  number-length (Integers w g) v n e = absurd n
  number-length (Offsets w g u) v n e = absurd n
  number-length (Records stride size) v n e = absurd n
  number-length Array v n e = absurd n
  number-length (Struct t) v n e = absurd n
  number-length (Union t i) v n e = absurd n

  number-template : (shape : Shape) (v : Value) (start at : ℕ) → IsNumber shape →
      label_of v ≡ shape_label names shape number bytes → start_of v ≡ start →
      end_of v ≡ start + number_bits shape → members_of v ≡ NoMembers → at ≤ 512 →
      number_value shape start at ≡ template_of v at
  number-template (Integer w g) (Mapped label s e ms) start at n l b f none p =
      let small = small-number g at p in
      let own : label_place label at ≡ IntegerLabel (pos at) (record { width = w; signed = g }) =
      ap (λ x. label_place x at) l in
      let rest : templates_of ms (at + label_length label) ≡ NoMembers =
      ap (λ x. templates_of x (at + label_length label)) none in
      cc
  number-template (Offset w g u) (Mapped label s e ms) start at n l b f none p =
      let small = small-number g at p in
      let own : label_place label at ≡ OffsetLabel (pos at) (record { width = w; signed = g }) u =
      ap (λ x. label_place x at) l in
      let rest : templates_of ms (at + label_length label) ≡ NoMembers =
      ap (λ x. templates_of x (at + label_length label)) none in
      cc
  number-template Text v start at n l b f none p = absurd n
  number-template (Integers w g) v start at n l b f none p = absurd n
  number-template (Offsets w g u) v start at n l b f none p = absurd n
  number-template (Records stride size) v start at n l b f none p = absurd n
  number-template Array v start at n l b f none p = absurd n
  number-template (Struct t) v start at n l b f none p = absurd n
  number-template (Union t i) v start at n l b f none p = absurd n

  -- an array or a struct
  branch-label : (shape : Shape) (label : Label) (start end at : ℕ) (ms : Members) → IsPlain shape →
      (0 < number_bits shape → ⊥) → label ≡ shape_label names shape number bytes →
      IsFixedLabel label start end ms → HasWidth shape → IsComposite shape
  branch-label (Integer w g) label start end at ms p n l h width = absurd (n (omega (arith, width.0)))
  branch-label (Offset w g u) label start end at ms p n l h width = absurd (n (omega (arith, width.0)))
  branch-label Text label start end at ms p n l h width = absurd (subst (λ x. IsFixedLabel x start end ms) l h)
  branch-label (Integers w g) label start end at ms p n l h width = absurd p
  branch-label (Offsets w g u) label start end at ms p n l h width = absurd p
  branch-label (Records stride size) label start end at ms p n l h width = absurd p
  branch-label Array label start end at ms p n l h width = tt
  branch-label (Struct t) label start end at ms p n l h width = tt
  branch-label (Union t i) label start end at ms p n l h width = tt

  composite-place : (shape : Shape) (label : Label) (at : ℕ) → IsComposite shape →
      label ≡ shape_label names shape number bytes →
      (label_place label at ≡ composite_label names shape) × (label_length label ≡ 0)
  composite-place (Integer w g) label at c l = absurd c
  composite-place (Offset w g u) label at c l = absurd c
  composite-place Text label at c l = absurd c
  composite-place (Integers w g) label at c l = absurd c
  composite-place (Offsets w g u) label at c l = absurd c
  composite-place (Records stride size) label at c l = absurd c
  composite-place Array label at c l = (ap (λ x. label_place x at) l, ap label_length l)
  composite-place (Struct t) label at c l = (ap (λ x. label_place x at) l, ap label_length l)
  composite-place (Union t i) label at c l = (ap (λ x. label_place x at) l, ap label_length l)

  composite-families : (shape : Shape) (label : Label) → IsComposite shape →
      label ≡ shape_label names shape number bytes → families_taken label ≡ 1
  composite-families (Integer w g) label c l = absurd c
  composite-families (Offset w g u) label c l = absurd c
  composite-families Text label c l = absurd c
  composite-families (Integers w g) label c l = absurd c
  composite-families (Offsets w g u) label c l = absurd c
  composite-families (Records stride size) label c l = absurd c
  composite-families Array label c l = ap families_taken l
  composite-families (Struct t) label c l = ap families_taken l
  composite-families (Union t i) label c l = ap families_taken l

  composite-template : (shape : Shape) (v : Value) (start size at : ℕ) → IsComposite shape →
      label_of v ≡ shape_label names shape number bytes → start_of v ≡ start → start + size ≡ end_of v →
      Mapped (composite_label names shape) start (start + size)
      (gathered (templates_upto (members_of v) (member_count (members_of v)) at)) ≡ template_of v at
  composite-template shape (Mapped label s e ms) start size at c l b f =
      let own = composite-place shape label at c l in
      let first : label_place label at ≡ composite_label names shape = own.0 in
      let place : at ≡ at + label_length label = omega (arith, own.1) in
      let rest : gathered (templates_upto ms (member_count ms) at) ≡ templates_of ms (at + label_length label) =
      templates-all ms at ∙ ap (templates_of ms) place in
      cc

-- the same slots, counted as those of a store that packs nothing
counted : (room : Room) (s u : Slots) (vs : Names → List (Option Value)) → Adds room s u vs →
    ((names : Names) (vector : Vector) →
    of_vector vector (marks_of u) ≡ of_vector vector (marks_of s) + level_takes false vector (vs names)) →
    Adds (fixed 0) s u vs
counted room s u vs h takes = record {
  sound = h.sound;
  rest = h.rest;
  stack = h.stack;
  takes = λ none names vector. takes names vector;
  bare = h.bare;
}

-- what a value was read as
pub record IsReadAs (s : Slots) (place : Place) (shape : Shape) (start size count : ℕ) : Type 0 where
  pub sort : IsShapeOf shape (λ names. place_value names s place)
  pub plain : IsPlain shape
  pub begins : (names : Names) → start ≡ start_of (place_value names s place)
  pub ends : (names : Names) → start_of (place_value names s place) + size ≡ end_of (place_value names s place)
  pub counts : (names : Names) → count ≡ member_count (members_of (place_value names s place))

pub read-as : (s : Slots) (place : Place) (own : Names → Value) (shape : Shape) (start size count : ℕ) →
    ((names : Names) → own names ≡ place_value names s place) → IsShapeOf shape own → IsPlain shape →
    ((names : Names) → start ≡ start_of (own names)) →
    ((names : Names) → start_of (own names) + size ≡ end_of (own names)) →
    ((names : Names) → count ≡ member_count (members_of (own names))) → IsReadAs s place shape start size count
read-as s place own shape start size count e is plain begins ends counted = record {
  sort = record {
    number = is.number;
    bytes = is.bytes;
    label = λ names. ap label_of (sym (e names)) ∙ is.label names;
    width = is.width;
  };
  plain = plain;
  begins = λ names. begins names ∙ ap start_of (e names);
  ends = λ names. subst (λ v. start_of v + size ≡ end_of v) (e names) (ends names);
  counts = λ names. counted names ∙ ap (λ v. member_count (members_of v)) (e names);
}

fixed-label : (v : Value) → IsFixed v → IsFixedLabel (label_of v) (start_of v) (end_of v) (members_of v)
fixed-label (Mapped label start end ms) h = h.0

content-family : (s : Slots) (shape : Shape) (start c : ℕ) → IsComposite shape →
    IsContent s shape start c → IsFamily s c
content-family s (Integer w g) start c k h = absurd k
content-family s (Offset w g u) start c k h = absurd k
content-family s Text start c k h = absurd k
content-family s (Integers w g) start c k h = absurd k
content-family s (Offsets w g u) start c k h = absurd k
content-family s (Records stride size) start c k h = absurd k
content-family s Array start c k h = h
content-family s (Struct t) start c k h = h
content-family s (Union t i) start c k h = h

parts-push : {s : Slots} {size stride start : ℕ} {bytes : List ℕ} {j : ℕ} (ls : List (Option ℕ)) →
    AreTemplateParts s size stride start bytes ls → IsTemplatePart s size stride start bytes j →
    AreTemplateParts s size stride start bytes (ls ++ Some j ∷ [])
parts-push [] h part = PartThen part NoParts
parts-push (None ∷ ls) (AbsentPartThen rest) part = AbsentPartThen (parts-push ls rest part)
parts-push (Some i ∷ ls) (PartThen own rest) part = PartThen own (parts-push ls rest part)

same-slots : (h n : Held) (u : Slots) → HasSlots h n u → HasSlots h n n.slots
same-slots h n u e = subst (λ x. HasSlots h n x) (sym (ap (λ (x : Held). x.slots) e)) e

-- one step after another
same-trans : (h m n : Held) → HasSlots h m m.slots → HasSlots m n n.slots → HasSlots h n n.slots
same-trans h m n e f =
    f ∙ ap (λ (x : Held). record x { slots = n.slots; capacity = n.capacity }) e

-- a value at a place is copied
module _ (h : Held) (place : Place) (at : ℕ) (shape : Shape) (start size count : ℕ)
    (all : AreLevels h.room h.frames h.slots) (r : IsReadAs h.slots place shape start size count)
    (copied : IsCopied h.slots place at) where
  abbrev v : Names → Value
  v names = place_value names h.slots place

  sound : IsSound h.slots
  sound = levels-sound h.room h.frames h.slots all

  -- a number
  module _ (p : 0 < number_bits shape) where
    number : IsNumber shape
    number = number-shape shape r.sort.width p

    bits : (start_of (v copied.names) + number_bits shape ≡ end_of (v copied.names))
        × (members_of (v copied.names) ≡ NoMembers)
    bits = fixed-bits copied.names r.sort.number r.sort.bytes shape (v copied.names) number (r.sort.label copied.names)
        copied.fixed

    number-end : (names : Names) → end_of (v names) ≡ start + number_bits shape
    number-end names = omega (arith, bits.0, r.ends copied.names, r.ends names, r.begins names)

    number-none : (names : Names) → members_of (v names) ≡ NoMembers
    number-none names =
        no-members (members_of (v names))
        (sym (r.counts names) ∙ r.counts copied.names ∙ ap member_count bits.1)

    number-row : (names : Names) → row_length (v names) ≡ bytes_for (number_bits shape)
    number-row names = omega (
      arith,
      length-parts (v names),
      ap rows_length (number-none names),
      number-length names r.sort.number r.sort.bytes shape (v names) number (r.sort.label names),
    )

    number-value : (names : Names) → number_value shape start at ≡ template_of (v names) at
    number-value names =
        number-template names r.sort.number r.sort.bytes shape (v names) start at number (r.sort.label names)
        (sym (r.begins names)) (number-end names) (number-none names) (omega (arith, copied.few))

    number-part : (u : Slots) → u ≡ with_leaf shape start at h.slots → (names : Names) (bits stride first : ℕ) →
        IsInStruct (v names) at bits stride first →
        IsTemplatePart u bits stride first [] (length h.slots.nodes)
    number-part u is names bits stride first i =
        let n : Node = record { start = start; content = at; shape = shape } in
        let column : IsColumn (with_leaf shape start at h.slots) bits stride first [] (length h.slots.nodes) = record {
          node = n;
          found = slice_get-push h.slots.nodes n [];
          number = number;
          fits = omega (arith, i.fits, number-row names);
          within = omega (arith, i.within, number-end names);
          below = λ k q. absurd (omega (arith, q, zero-div stride));
        } in
        subst (λ x. IsTemplatePart x bits stride first [] (length h.slots.nodes)) (sym is) (NumberPart column)

    pub number-placed : (n : Held) (end : ℕ) → HasSlots h n (with_leaf shape start at h.slots) →
        end ≡ at + bytes_for (number_bits shape) → PlacesTemplate h n place at end
    number-placed n end slots ends =
        let u = with_leaf shape start at h.slots in
        let is : n.slots ≡ u = ap (λ (x : Held). x.slots) slots in
        let adds = Adds-same h.room h.slots u (λ names. Some (number_value shape start at) ∷ [])
        (λ names. Some (template_of (v names) at) ∷ []) (λ names. ap (λ x. Some x ∷ []) (number-value names))
        (number-adds h.room shape start at h.slots number sound) in
        record {
          adds = subst (λ x. Adds h.room h.slots x (λ names. Some (template_of (v names) at) ∷ [])) (sym is) adds;
          same = same-slots h n u slots;
          takes =
              let all = Adds-same (fixed 0) h.slots u (λ names. Some (number_value shape start at) ∷ [])
              (λ names. Some (template_of (v names) at) ∷ []) (λ names. ap (λ x. Some x ∷ []) (number-value names))
              (number-adds (fixed 0) shape start at h.slots number sound) in
              (subst (λ x. Adds (fixed 0) h.slots x (λ names. Some (template_of (v names) at) ∷ [])) (sym is) all).takes
              refl;
          ends = λ names. omega (arith, ends, number-row names);
          node = length h.slots.nodes;
          pending = ap (λ (x : Slots). x.pending) is;
          last = omega (
            arith,
            ap (λ (x : Slots). length x.nodes) is,
            length_push h.slots.nodes (let n : Node = record { start = start; content = at; shape = shape } in n),
          );
          family = λ own found composite.
              let m : Node = record { start = start; content = at; shape = shape } in
              let here : slice_get n.slots.nodes (length h.slots.nodes) ≡ Some m =
              ap (λ (x : Slots). slice_get x.nodes (length h.slots.nodes)) is ∙ slice_get-push h.slots.nodes m [] in
              let same : own ≡ m = let e : Some own ≡ Some m = sym found ∙ here in cc in
              absurd (number-composite shape number (subst (λ (x : Node). IsComposite x.shape) same composite));
          part = number-part n.slots is;
        }

    -- it doesn't fit
    pub number-lacks : CannotMove h Places → CannotDraft h place
    number-lacks (vector, more) = λ names fixed.
        (vector, omega (arith, more, number-drafts vector (marks_of h.slots) (v names)))

  -- nothing is placed
  pub templates-none : PlacesTemplates h h place at 0 at
  templates-none = record {
    adds = Adds-none h.room h.slots sound;
    same = refl;
    takes = λ names vector. omega arith;
    ends = λ names. omega arith;
    links = [];
    pending = sym (append-nil h.slots.pending);
    parts = λ names bits stride first i. NoParts;
  }

  -- the place is there, and has all members
  module _ (m : Held) (i next : ℕ) (placed : PlacesTemplates h m place at i next) where
    pub still-there : IsPlace m.slots place
    still-there = (place-stays h.room h.slots m.slots _ sound placed.adds place copied.there).there

    pub member-there : i < count →
        ((names : Names) → None ≡ member_at (members_of (place_value names m.slots place)) i) → ⊥
    member-there p none =
        let w = v copied.names in
        let same = (place-stays h.room h.slots m.slots _ sound placed.adds place copied.there).same copied.names in
        fixed-there (end_of w) (members_of w) i (fixed-parts w copied.fixed) (omega (arith, p, r.counts copied.names))
        (ap (λ x. member_at (members_of x) i) (sym same) ∙ sym (none copied.names))

  -- one more member
  module _ (m : Held) (i next : ℕ) (placed : PlacesTemplates h m place at i next) (part : Place)
      (is : (names : Names) →
      Some (place_value names m.slots part) ≡ member_at (members_of (place_value names m.slots place)) i) where
    room : m.room ≡ h.room
    room = ap (λ (x : Held). x.room) placed.same

    stays : (names : Names) → place_value names m.slots place ≡ v names
    stays names = (place-stays h.room h.slots m.slots _ sound placed.adds place copied.there).same names

    member : (names : Names) → member_at (members_of (v names)) i ≡ Some (place_value names m.slots part)
    member names = ap (λ x. member_at (members_of x) i) (sym (stays names)) ∙ sym (is names)

    pub member-copied : IsPlace m.slots part → IsCopied m.slots part next
    member-copied there =
        let names = copied.names in
        let w = place_value names m.slots part in record {
          there = there;
          names = names;
          fixed = (fixed-at (end_of (v names)) (members_of (v names)) i w (fixed-parts (v names) copied.fixed)
              (member names)).1;
          few = omega (
            arith,
            copied.few,
            placed.ends names,
            length-parts (v names),
            length-within (members_of (v names)) i w (member names),
          );
        }

    member-in : (names : Names) (bits stride first : ℕ) → IsInStruct (v names) at bits stride first →
        IsInStruct (place_value names m.slots part) next bits stride first
    member-in names bits stride first k =
        let w = place_value names m.slots part in
        let own =
        fixed-at (end_of (v names)) (members_of (v names)) i w (fixed-parts (v names) k.fixed) (member names) in
        record {
          fixed = own.1;
          fits = omega (
            arith,
            k.fits,
            placed.ends names,
            length-parts (v names),
            length-within (members_of (v names)) i w (member names),
          );
          within = omega (arith, own.0, k.within);
        }

    pub templates-more : (n : Held) (end : ℕ) → PlacesTemplate m n part next end →
        PlacesTemplates h n place at (i + 1) end
    templates-more n end t =
        let one : suc i ≡ i + 1 = omega arith in
        let own : Names → List (Option Value) =
        λ names. Some (template_of (place_value names m.slots part) next) ∷ [] in
        let before : Names → List (Option Value) = λ names. templates_upto (members_of (v names)) i at in
        let later : Names → List (Option Value) = λ names. templates_upto (members_of (v names)) (i + 1) at in
        let after : Adds h.room m.slots n.slots own =
        subst (λ (r : Room). Adds r m.slots n.slots own) room t.adds in
        let both = Adds-trans h.room h.slots m.slots n.slots before own placed.adds after in
        let values : (names : Names) → templates_upto (members_of (v names)) i at
        ++ Some (template_of (place_value names m.slots part) next) ∷ []
        ≡ templates_upto (members_of (v names)) (i + 1) at =
        λ names.
        ap
        (λ k. templates_upto (members_of (v names)) i at ++ Some (template_of (place_value names m.slots part) k) ∷ [])
        (placed.ends names)
        ∙ sym (templates-next (members_of (v names)) i at (place_value names m.slots part) (member names))
        ∙ ap (λ k. templates_upto (members_of (v names)) k at) one in
        record {
          adds = Adds-same h.room h.slots n.slots (λ names. before names ++ own names) later values both;
          same = same-trans h m n placed.same t.same;
          takes =
              let first = counted h.room h.slots m.slots before placed.adds placed.takes in
              let last = counted m.room m.slots n.slots own t.adds t.takes in
              (Adds-same (fixed 0) h.slots n.slots (λ names. before names ++ own names) later values
              (Adds-trans (fixed 0) h.slots m.slots n.slots before own first last)).takes refl;
          ends = λ names. omega (
            arith,
            t.ends names,
            placed.ends names,
            length-next (members_of (v names)) i (place_value names m.slots part) (member names),
            ap (length_upto (members_of (v names))) one,
          );
          links = placed.links ++ Some t.node ∷ [];
          pending = t.pending ∙ ap (λ ls. ls ++ Some t.node ∷ []) placed.pending
              ∙ append_assoc h.slots.pending placed.links (Some t.node ∷ []);
          parts = λ names bits stride first k.
              parts-push placed.links
              (parts-grow m.slots n.slots bits stride first [] (Adds-grows m.room m.slots n.slots own t.adds)
              (placed.parts names bits stride first k))
              (t.part names bits stride first (member-in names bits stride first k));
        }

    -- the member doesn't fit
    pub member-lacks : KeepsRoom h m → CannotDraft m part → CannotDraft h place
    member-lacks keeps lacks = λ names fixed.
        let w = place_value names m.slots part in
        let own =
        (fixed-at (end_of (v names)) (members_of (v names)) i w (fixed-parts (v names) fixed) (member names)).1 in
        let l = lacks names own in (
          l.0,
          omega (
            arith,
            l.1,
            room-kept l.0 h m keeps,
            placed.takes names l.0,
            drafts-upto l.0 (v names) w i at fixed (member names) own,
          ),
        )

  -- an array or a struct
  module _ (none : 0 < number_bits shape → ⊥) where
    pub branch-composite : IsComposite shape
    branch-composite =
        let w = v copied.names in
        branch-label copied.names r.sort.number r.sort.bytes shape (label_of w) (start_of w)
        (end_of w) at (members_of w)
        r.plain none (r.sort.label copied.names) (fixed-label w copied.fixed) r.sort.width

    module _ (m : Held) (next : ℕ) (placed : PlacesTemplates h m place at count next) where
      pub branch-above : (mark : ℕ) → mark ≡ length h.slots.pending → IsAbove m mark
      branch-above mark is = record {
        below = h.slots;
        values = λ names. templates_upto (members_of (v names)) count at;
        own = subst (λ (x : Held). AreLevels x.room x.frames h.slots) (sym placed.same) all;
        adds = subst (λ (x : Room). Adds x h.slots m.slots (λ names. templates_upto (members_of (v names)) count at))
            (sym (ap (λ (x : Held). x.room) placed.same)) placed.adds;
        is = is;
      }

      branch-value : (names : Names) → Mapped (composite_label names shape) start (start + size)
          (gathered (templates_upto (members_of (v names)) count at)) ≡ template_of (v names) at
      branch-value names =
          ap (λ k. Mapped (composite_label names shape) start (start + size)
          (gathered (templates_upto (members_of (v names)) k at))) (r.counts names)
          ∙ composite-template names r.sort.number r.sort.bytes shape (v names) start size at branch-composite
          (r.sort.label names) (sym (r.begins names)) (omega (arith, r.begins names, r.ends names))

      branch-row : (names : Names) → next ≡ at + row_length (v names)
      branch-row names =
          omega (
            arith,
            placed.ends names,
            ap (length_upto (members_of (v names))) (r.counts names),
            length-all (members_of (v names)),
            length-parts (v names),
            (composite-place names r.sort.number r.sort.bytes shape (label_of (v names)) at branch-composite
                (r.sort.label names)).1,
          )

      -- it doesn't fit
      pub branch-lacks : (mark : ℕ) → mark ≡ length h.slots.pending → KeepsRoom h m → CannotJoin m mark →
          CannotDraft h place
      branch-lacks mark is keeps (vector, more) = λ names fixed.
          let w = v names in
          let one : families_taken (label_of w) ≡ 1 =
          composite-families names r.sort.number r.sort.bytes shape (label_of w) branch-composite
          (r.sort.label names) in
          let most : of_vector vector (with_links (record (marks_of m.slots) { pending = mark }) (marks_of m.slots))
          ≤ of_vector vector (marks_of h.slots) + drafts vector w =
          subst (λ k. of_vector vector (with_links (record (marks_of m.slots) { pending = k }) (marks_of m.slots))
          ≤ of_vector vector (marks_of h.slots) + drafts vector w) (sym is)
          (branch-drafts vector (marks_of h.slots) (marks_of m.slots) w at fixed one (λ u. placed.takes names u
          ∙ ap (λ k. of_vector u (marks_of h.slots) + level_takes false u (templates_upto (members_of w) k at))
          (r.counts names))) in
          (vector, omega (arith, more, room-kept vector h m keeps, most))

      abbrev mark : ℕ
      mark = length h.slots.pending

      mark-within : mark ≤ length m.slots.pending
      mark-within = omega (arith, ap length placed.pending, length-append h.slots.pending placed.links)

      abbrev u : Slots
      u = with_family shape start size mark m.slots

      own-links : drop mark m.slots.pending ≡ placed.links
      own-links = ap (drop mark) placed.pending ∙ drop_at h.slots.pending placed.links mark refl

      branch-part : (names : Names) (bits stride first : ℕ) → IsInStruct (v names) at bits stride first →
          IsTemplatePart u bits stride first [] (length m.slots.nodes)
      branch-part names bits stride first k =
          let n : Node = record { start = start; content = length m.slots.families; shape = shape } in
          let new = family-new shape start size mark m.slots branch-composite placed.adds.sound mark-within in
          let sized : (family_at u.families (length m.slots.families)).size ≡ size =
          ap (λ (f : Family). f.size)
          (family-end shape start size mark m.slots branch-composite placed.adds.sound mark-within) in
          let row = family-row shape start size mark m.slots branch-composite placed.adds.sound mark-within in
          let branch : IsBranch u bits first (length m.slots.nodes) = record {
            node = n;
            found = slice_get-push m.slots.nodes n [];
            composite = branch-composite;
            family = content-family u shape start (length m.slots.families) branch-composite new.is.content;
            within = omega (arith, sized, k.within, r.begins names, r.ends names);
          } in
          BranchPart branch (subst (λ ls. AreTemplateParts u bits stride first [] ls) (sym (row ∙ own-links))
          (parts-grow m.slots u bits stride first [] new.grows (placed.parts names bits stride first k)))

      pub branch-placed : (n : Held) → HasSlots m n u → PlacesTemplate h n place at next
      branch-placed n slots =
          let is : n.slots ≡ u = ap (λ (x : Held). x.slots) slots in
          let inside : Names → List (Option Value) = λ names. templates_upto (members_of (v names)) count at in
          let whole : Names → List (Option Value) =
          λ names. Some (Mapped (composite_label names shape) start (start + size) (gathered (inside names))) ∷ [] in
          let later : Names → List (Option Value) = λ names. Some (template_of (v names) at) ∷ [] in
          let values : (names : Names) → whole names ≡ later names =
          λ names. ap (λ x. Some x ∷ []) (branch-value names) in
          let joined = joined-adds h.room h.slots m.slots inside sound placed.adds shape start size branch-composite in
          let same_adds = Adds-same h.room h.slots u whole later values joined in
          let all_counted =
          joined-adds (fixed 0) h.slots m.slots inside sound
          (counted h.room h.slots m.slots inside placed.adds placed.takes) shape start size branch-composite in
          let same_counted = Adds-same (fixed 0) h.slots u whole later values all_counted in
          record {
            adds = subst (λ x. Adds h.room h.slots x later) (sym is) same_adds;
            same = same-trans h m n placed.same (same-slots m n u slots);
            takes = (subst (λ x. Adds (fixed 0) h.slots x later) (sym is) same_counted).takes refl;
            ends = branch-row;
            node = length m.slots.nodes;
            pending = ap (λ (x : Slots). x.pending) is
                ∙ ap (λ ls. ls ++ Some (length m.slots.nodes) ∷ [])
                (ap (take mark) placed.pending ∙ take_at h.slots.pending placed.links mark refl);
            last = omega (
              arith,
              ap (λ (x : Slots). length x.nodes) is,
              length_push m.slots.nodes
                  (let n : Node = record { start = start; content = length m.slots.families; shape = shape } in n),
            );
            family = λ own found composite.
                let o : Node = record { start = start; content = length m.slots.families; shape = shape } in
                let f : Family = record { end = length m.slots.links + (length m.slots.pending - mark); size = size } in
                let here : slice_get n.slots.nodes (length m.slots.nodes) ≡ Some o =
                ap (λ (x : Slots). slice_get x.nodes (length m.slots.nodes)) is ∙ slice_get-push m.slots.nodes o [] in
                let same : own ≡ o = let e : Some own ≡ Some o = sym found ∙ here in cc in
                omega (
                  arith,
                  ap (λ (x : Node). x.content) same,
                  ap (λ (x : Slots). length x.families) is,
                  length_push m.slots.families f,
                );
            part = λ names bits stride first k.
                subst (λ x. IsTemplatePart x bits stride first [] (length m.slots.nodes)) (sym is)
                (branch-part names bits stride first k);
          }

-- a member of the value at a place
pub member-of : (m : Slots) (own : StoredValue) (place part : Place) (i : ℕ) → own.store.now.slots ≡ m →
    own.place ≡ place → ((names : Names) →
    Some (place_value names own.store.now.slots part) ≡ member_at (members_of (value_of names own)) i) →
    (names : Names) → Some (place_value names m part) ≡ member_at (members_of (place_value names m place)) i
member-of m own place part i slots there h = λ names.
    subst (λ p. Some (place_value names m part) ≡ member_at (members_of (place_value names m p)) i) there
    (subst (λ s. Some (place_value names s part) ≡ member_at (members_of (place_value names s own.place)) i) slots
    (h names))

pub no_member-of : (m : Slots) (own : StoredValue) (place : Place) (i : ℕ) → own.store.now.slots ≡ m →
    own.place ≡ place → ((names : Names) → None ≡ member_at (members_of (value_of names own)) i) →
    (names : Names) → None ≡ member_at (members_of (place_value names m place)) i
no_member-of m own place i slots there h = λ names.
    subst (λ p. None ≡ member_at (members_of (place_value names m p)) i) there
    (subst (λ s. None ≡ member_at (members_of (place_value names s own.place)) i) slots (h names))

-- what a refused call leaves
pub grown-none : (h n : Held) → AreLevels h.room h.frames h.slots → Regrown h n → HasGrown h n
grown-none h n all e =
    let is : n.slots ≡ h.slots = ap (λ (x : Held). x.slots) e in
    record {
      values = λ names. [];
      adds = subst (λ x. Adds h.room h.slots x (λ names. [])) (sym is)
          (Adds-none h.room h.slots (levels-sound h.room h.frames h.slots all));
      same = same-slots h n h.slots e;
    }

pub grown-more : (h m n : Held) (vs : Names → List (Option Value)) → Adds h.room h.slots m.slots vs →
    HasSlots h m m.slots → HasGrown m n → HasGrown h n
grown-more h m n vs adds same g =
    let room : m.room ≡ h.room = ap (λ (x : Held). x.room) same in
    record {
      values = λ names. vs names ++ g.values names;
      adds = Adds-trans h.room h.slots m.slots n.slots vs g.values adds
          (subst (λ (r : Room). Adds r m.slots n.slots g.values) room g.adds);
      same = same-trans h m n same g.same;
    }

pub grown-same : (h m n : Held) (vs : Names → List (Option Value)) → Adds h.room h.slots m.slots vs →
    HasSlots h m m.slots → Regrown m n → HasGrown h n
grown-same h m n vs adds same e =
    let is : n.slots ≡ m.slots = ap (λ (x : Held). x.slots) e in
    record {
      values = vs;
      adds = subst (λ x. Adds h.room h.slots x vs) (sym is) adds;
      same = same-trans h m n same (same-slots m n m.slots e);
    }

-- a template stays as the capacity grows
pub regrown-placed : (h m n : Held) (place : Place) (at end : ℕ) → PlacesTemplate h m place at end → Regrown m n →
    PlacesTemplate h n place at end
regrown-placed h m n place at end t e =
    let grown : PlacesTemplate h (record m { capacity = n.capacity }) place at end = record {
      adds = t.adds;
      same = same-trans h m (record m { capacity = n.capacity }) t.same refl;
      takes = t.takes;
      ends = t.ends;
      node = t.node;
      pending = t.pending;
      last = t.last;
      family = t.family;
      part = t.part;
    } in
    subst (λ (x : Held). PlacesTemplate h x place at end) (sym e) grown

-- the template doesn't fit, or an array after it
pub draft-lacks : (h : Held) (place : Place) (count : ℕ) → CannotDraft h place → CannotDraftArray h place count
draft-lacks h place count lacks = λ names fixed.
    let l = lacks names fixed in
    (l.0, omega (arith, l.1, drafts-array l.0 (marks_of h.slots) (place_value names h.slots place) count))

pub template-node : (h m : Held) (place : Place) (end : ℕ) → PlacesTemplate h m place 0 end → Names →
    length h.slots.nodes + 1 ≤ length m.slots.nodes
template-node h m place end t names =
    omega (arith, t.takes names NodesOf, some-node (template_of (place_value names h.slots place) 0))

pub array-lacks : (h m : Held) (place : Place) (end waiting count : ℕ) → PlacesTemplate h m place 0 end →
    KeepsRoom h m → length h.slots.nodes + 1 + waiting ≡ length m.slots.nodes →
    CannotHoldArray m waiting count → CannotDraftArray h place count
array-lacks h m place end waiting count t keeps waits (vector, more) = λ names fixed.
    let v = place_value names h.slots place in
    let most =
    array-drafts vector (marks_of h.slots) (marks_of m.slots) v 0 waiting count fixed (t.takes names) waits in
    (vector, omega (arith, more, room-kept vector h m keeps, most))
