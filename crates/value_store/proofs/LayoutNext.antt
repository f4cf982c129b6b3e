-- The next struct of an array of packed structs of fixed layout.
use Rattle.std.proofs.Common.{◌≡◌, ℕ, suc, ◌+◌, ◌-◌, ◌*◌, ◌/◌, ◌^◌, ◌<◌, ◌≤◌, true, List, [], ◌∷◌, ◌++◌, Option, Some, length, inr, take, drop, refl, sym, ◌∙◌, ap, subst, arith}
use Rattle.std.specs.Prelude.{slice_get, slice_index, slice_index_or}
use Rattle.std.proofs.lemmas.List.{length-append, length_push, length-take, get_or_append_left}
use Rattle.std.proofs.lemmas.Option.{slice_get_within, slice_get-get_or, get_or_from_slice_get}
use Rattle.value_store.specs.declared.store.room.Room.{Room}
use Rattle.value_store.specs.declared.store.slots.Marks.{Marks}
use Rattle.value_store.specs.declared.store.slots.Family.{Family}
use Rattle.value_store.specs.declared.store.slots.Node.{Node}
use Rattle.value_store.specs.declared.store.slots.Shape.TheVariants.{Records}
use Rattle.pickle_meaning.specs.Values.{Value, Levels, outer_of, pushed, value_at as part_value}
use Rattle.value_store.specs.Below.{Extends}
use Rattle.value_store.specs.Gathering.{with_records, EndsWithTemplate, IsGathering, TakesRecord}
use Rattle.value_store.specs.LayoutArrays.{joined_rows, packed_array, HasRowAt, IsRowAt, IsPackingLike, IsPackingNext, TakesNext}
use Rattle.value_store.specs.Layouts.{row_of, row_length, template_of, value_size, template_size, packs_value, FitsRow, IsFixed}
use Rattle.value_store.specs.Moves.{PacksRecord, CannotMove, Refuses, State, with_value, with_next_value, state_of, moved}
use Rattle.value_store.specs.Weights.{weight, TakesWeight, RejectsWeight, IsLight}
use Rattle.value_store.specs.Names.{Names}
use Rattle.value_store.specs.Records.{instance}
use Rattle.value_store.specs.Slots.{levels, packs, Slots, Held, levels_at, cut_to, marks_of, innermost, family_at, first_link, IsSound, AreLevels, HasSlots, Regrown, with_more}
use Rattle.value_store.specs.Takes.{BytesOf}
use Rattle.value_store.proofs.Counted.{levels-sound}
use Rattle.value_store.proofs.FamilyRows.{Grows, slice_get-append, slice_get-push}
use Rattle.value_store.proofs.Fits.{innermost-level}
use Rattle.value_store.proofs.Gathering.{gathering-frames, gathering-levels, gathers}
use Rattle.value_store.proofs.Grown.{Grows-cut}
use Rattle.value_store.proofs.Layouts.{length-row, template-length, instance-length, fits-own, instance-fits}
use Rattle.value_store.proofs.Held.{regrown-levels}
use Rattle.value_store.proofs.LayoutFirst.{parts-pending}
use Rattle.value_store.proofs.LayoutArrays.{joined-count, joined-push, lengths-push, packing-like}
use Rattle.value_store.proofs.LayoutSizes.{next-moved, next-needed, value-given_up}
use Rattle.value_store.proofs.LayoutTemplates.{template-again}
use Rattle.value_store.proofs.Moved.{framed}

-- where the open array is among the vectors
pub record IsArrayAt (h : Held) (array text family : ℕ) : Type 0 where
  pub link : slice_get h.slots.pending (innermost h.frames).pending ≡ Some (Some array)
  pub some : 1 ≤ array
  pub own : Node
  pub found : slice_get h.slots.nodes array ≡ Some own
  pub content : own.content ≡ text
  pub template : Node
  pub before : slice_get h.slots.nodes (array - 1) ≡ Some template
  pub branch : template.content ≡ family
  pub families : family < length h.slots.families
  pub texts : text < length h.slots.texts

module _ (names : Names) (h : Held) (template : Value) (size start : ℕ) (rows : List (List ℕ)) (value : Value)
    (outer : Levels) (p : IsPackingNext names h template size start rows value outer) where
  abbrev k : IsPackingLike names (record h { slots = p.slots }) template size start rows outer
  k = p.packing

  abbrev b : Slots
  b = k.before

  abbrev bytes : List ℕ
  bytes = joined_rows rows

  abbrev mark : ℕ
  mark = (innermost h.frames).pending

  abbrev made : Slots
  made = with_records size (row_length template) bytes start mark b

  is : p.slots ≡ made
  is = k.gathering.is

  sound : IsSound b
  sound = levels-sound h.room h.frames b k.gathering.own

  grows : Grows made h.slots
  grows = subst (λ x. Grows x h.slots) (p.rest ∙ is) (Grows-cut (marks_of p.slots) h.slots)

  mark-within : mark ≤ length b.pending
  mark-within = (innermost-level h.room h.frames b k.gathering.own).is.within.pending

  abbrev array-node : Node
  array-node = record { start = start; content = length b.texts; shape = Records (row_length template) size }

  made-pending : slice_get made.pending mark ≡ Some (Some (length b.nodes))
  made-pending =
      let count : length (take mark b.pending) ≡ mark = omega (arith, mark-within, length-take mark b.pending) in
      ap (slice_get made.pending) (sym count) ∙ slice_get-push (take mark b.pending) (Some (length b.nodes)) []

  stays : {A : Type 0} (xs ys more : List A) (i : ℕ) (x : A) → ys ≡ xs ++ more → slice_get xs i ≡ Some x →
      slice_get ys i ≡ Some x
  stays xs ys more i x e found =
      ap (λ zs. slice_get zs i) e ∙ slice_get-append xs more i (slice_get_within xs i x found) ∙ found

  -- the pending link, since a mark may cut it off
  pub array-at : IsArrayAt h (length b.nodes) (length b.texts) (length b.families - 1)
  array-at =
      let f = k.family in
      let first : slice_get made.nodes (length b.nodes - 1) ≡ Some f.node =
      stays b.nodes made.nodes (array-node ∷ []) (length b.nodes - 1) f.node refl f.found in
      record {
        link = stays made.pending h.slots.pending (drop (length p.slots.pending) h.slots.pending) mark
            (Some (length b.nodes)) pending-more made-pending;
        some = k.gathering.template.some;
        own = array-node;
        found = stays made.nodes h.slots.nodes grows.more_nodes (length b.nodes) array-node grows.nodes
            (slice_get-push b.nodes array-node []);
        content = refl;
        template = f.node;
        before = stays made.nodes h.slots.nodes grows.more_nodes (length b.nodes - 1) f.node grows.nodes first;
        branch = omega (arith, f.last);
        families = omega (arith, f.last, ap length grows.families, length-append b.families grows.more_families);
        texts = omega (
          arith,
          ap length grows.texts,
          length-append made.texts grows.more_texts,
          length_push b.texts (length b.bytes + length bytes),
        );
      }
    where
      pending-more : h.slots.pending ≡ made.pending ++ drop (length p.slots.pending) h.slots.pending
      pending-more =
          sym (Rattle.std.proofs.lemmas.List.take-append-drop (length p.slots.pending) h.slots.pending)
          ∙ ap (λ xs. xs ++ drop (length p.slots.pending) h.slots.pending)
          (ap (λ (x : Slots). x.pending) p.rest ∙ ap (λ (x : Slots). x.pending) is)

  -- the lengths of the vectors up to it
  family-end : (family_at h.slots.families (length b.families - 1)).end ≡ length b.links
  family-end =
      let some : suc (length b.families - 1) ≡ length b.families = omega (arith, k.family.last) in
      let own : (family_at b.families (length b.families - 1)).end ≡ length b.links =
      ap (first_link b.families) some ∙ sound.links in
      ap (λ fs. (family_at fs (length b.families - 1)).end) grows.families
      ∙ ap (λ (f : Family). f.end)
      (get_or_append_left b.families grows.more_families _ (length b.families - 1) (omega (arith, k.family.last))) ∙ own

  text-end : slice_index h.slots.texts (length b.texts) ≡ length b.bytes + length bytes
  text-end =
      let last = slice_get-push b.texts (length b.bytes + length bytes) [] in
      get_or_from_slice_get h.slots.texts (length b.texts) (length b.bytes + length bytes) 0
      (stays made.texts h.slots.texts grows.more_texts (length b.texts)
      (length b.bytes + length bytes) grows.texts last)

  pub marks-are : (marks : Marks) → marks.nodes ≡ length b.nodes + 1 → marks.families ≡ (length b.families - 1) + 1 →
      marks.links ≡ (family_at h.slots.families (length b.families - 1)).end → marks.pending ≡ mark + 1 →
      marks.texts ≡ length b.texts + 1 → marks.bytes ≡ slice_index h.slots.texts (length b.texts) →
      marks ≡ marks_of p.slots
  marks-are marks nodes families links pending texts all =
      let n : marks.nodes ≡ length made.nodes = omega (arith, nodes, length_push b.nodes array-node) in
      let f : marks.families ≡ length made.families = omega (arith, families, k.family.last) in
      let l : marks.links ≡ length made.links = links ∙ family-end in
      let q : marks.pending ≡ length made.pending = omega (
        arith,
        pending,
        mark-within,
        length_push (take mark b.pending) (Some (length b.nodes)),
        length-take mark b.pending,
      ) in
      let x : marks.texts ≡ length made.texts =
      omega (arith, texts, length_push b.texts (length b.bytes + length bytes)) in
      let y : marks.bytes ≡ length made.bytes = omega (arith, all, text-end, length-append b.bytes bytes) in
      let eta : record {
        nodes = marks.nodes;
        families = marks.families;
        links = marks.links;
        pending = marks.pending;
        texts = marks.texts;
        bytes = marks.bytes;
      } ≡ marks = refl in
      let same : marks ≡ marks_of made = cc in
      same ∙ ap marks_of (sym is)

  pub cut-levels : (marks : Marks) → marks ≡ marks_of p.slots → AreLevels h.room h.frames (cut_to marks h.slots)
  cut-levels marks e =
      subst (λ x. AreLevels h.room h.frames x) (sym (ap (λ (m : Marks). cut_to m h.slots) e ∙ p.rest))
      (gathering-frames (record h { slots = p.slots }) b size (row_length template) start bytes k.gathering)

  -- its text is in the frame
  pub cut-text : (marks : Marks) → marks ≡ marks_of p.slots →
      (innermost h.frames).texts + 1 ≤ length (take marks.texts h.slots.texts)
  cut-text marks e = omega (
    arith,
    (innermost-level h.room h.frames b k.gathering.own).is.within.texts,
    ap (λ (m : Marks). length (take m.texts h.slots.texts)) e,
    ap (λ (x : Slots). length x.texts) p.rest,
    ap (λ (x : Slots). length x.texts) is,
    length_push b.texts (length b.bytes + length bytes),
  )

  -- its bytes are among those of the store
  pub bytes-within : (marks : Marks) → marks ≡ marks_of p.slots → marks.bytes ≤ length h.slots.bytes
  bytes-within marks e =
      omega (
        arith,
        ap (λ (m : Marks). m.bytes) e,
        ap (λ (x : Slots). length x.bytes) p.rest,
        length-take (length p.slots.bytes) h.slots.bytes,
      )

  -- the struct is appended to the array
  module _ (fixed : IsFixed value) (like : value ≡ instance template (size * length rows) (row_of value))
      (short : start + size * (length rows + 1) < 2 ^ 64) where
    abbrev stride : ℕ
    stride = row_length template

    same : value ≡ instance (template_of k.first 0) (size * length rows) (row_of value)
    same = like ∙ ap (λ t. instance t (size * length rows) (row_of value)) k.drafted

    pub next-length : length (row_of value) ≡ stride
    next-length =
        length-row value ∙ ap row_length same ∙ instance-length k.first 0 (size * length rows) (row_of value)
        ∙ sym (template-length k.first 0) ∙ ap row_length (sym k.drafted)

    next-fits : FitsRow k.first 0 (row_of value)
    next-fits =
        instance-fits k.first 0 (size * length rows) 0 (row_of value) (row_of value)
        (subst (λ x. FitsRow x 0 (row_of value)) same (fits-own value))

    next-template : EndsWithTemplate b size stride start (row_of value)
    next-template =
        template-again names b sound size stride start (row_of value) next-length k.gathering.are.some
        (omega (arith, k.few)) (length b.nodes) bytes k.first k.gathering.template (k.last ∙ k.drafted) next-fits

    next-short : start + size * (length bytes / stride + 1) < 2 ^ 64
    next-short =
        subst (λ n. start + size * (n + 1) < 2 ^ 64) (sym (joined-count stride rows k.gathering.are.some k.lengths))
        short

    next-stride : row_length value ≡ stride
    next-stride = omega (arith, next-length, length-row value)

    -- the array is a pending child of the frame too
    next-pending : (innermost h.frames).pending + 1 < length h.slots.pending
    next-pending =
        let parts = Some (packed_array template size start rows) ∷ Some value ∷ [] in
        omega (arith, parts-pending names h parts outer p.is (omega arith))

    -- the move of the struct leaves its bytes
    pub next-leaves : marks_of h.slots ≡ with_value (value_size value) (marks_of p.slots) →
        moved true (PacksRecord stride) (record { now = marks_of p.slots; frames = h.frames })
        ≡ moved (packs h.room) (packs_value value) (state_of h)
    next-leaves after =
        let size = value_size value in
        let template = template_size value in
        ap (λ n. framed h.frames (record (marks_of p.slots) { bytes = length p.slots.bytes + n }))
        (sym next-stride)
        ∙ sym (next-moved (packs h.room) (state_of h) size template (row_length value) k.gathering.packs next-pending
        ∙ ap (λ n. framed h.frames (with_next_value size (row_length value) n)) after
        ∙ ap (framed h.frames) (value-given_up size (row_length value) (marks_of p.slots)))

    -- the call's move is that of the struct
    pub next-as_move : (l : Held) →
        state_of l ≡ moved true (PacksRecord stride) (record { now = marks_of p.slots; frames = h.frames }) →
        marks_of h.slots ≡ with_value (value_size value) (marks_of p.slots) →
        state_of l ≡ moved (packs h.room) (packs_value value) (state_of h)
    next-as_move l is after = is ∙ next-leaves after

    -- which weigh more than the store takes
    pub next-heavy : (marks : Marks) (count : ℕ) → marks ≡ marks_of p.slots → count ≡ stride →
        marks_of h.slots ≡ with_value (value_size value) (marks_of p.slots) →
        RejectsWeight h.room (weight marks + count) → Refuses h (packs_value value)
    next-heavy marks count are counted after heavy =
        let e : weight marks + count ≡ weight (moved (packs h.room) (packs_value value) (state_of h)).now =
        omega (arith, ap weight are, counted, ap (λ (s : State). weight s.now) (next-leaves after)) in
        inr (subst (RejectsWeight h.room) e heavy)

    -- or not
    pub next-light : (marks : Marks) (count : ℕ) → marks ≡ marks_of p.slots → count ≡ stride → (l : Held) →
        state_of l ≡ moved true (PacksRecord stride) (record { now = marks_of p.slots; frames = h.frames }) →
        l.room ≡ h.room → TakesWeight h.room (weight marks + count) → IsLight l
    next-light marks count are counted l is room light =
        let e : weight marks + count ≡ weight (marks_of l.slots) =
        omega (arith, ap weight are, counted, ap (λ (s : State). weight s.now) is) in
        subst (λ (r : Room). TakesWeight r (weight (marks_of l.slots))) (sym room)
        (subst (TakesWeight h.room) e light)

    -- the bytes don't fit
    pub next-lacks : h.capacity.bytes < length p.slots.bytes + stride →
        marks_of h.slots ≡ with_value (value_size value) (marks_of p.slots) → CannotMove h (packs_value value)
    next-lacks more after =
        let most =
        next-needed (packs h.room) (state_of h) (value_size value) (template_size value) (row_length value)
        k.gathering.packs next-pending in
        let given_back = ap (λ (n : Marks). n.bytes) after in
        (BytesOf, omega (arith, more, given_back, next-stride, ap (λ (s : State). s.now.bytes) most))

    -- after the cut
    module _ (marks : Marks) (are : marks ≡ marks_of p.slots) (n : Held)
        (cut : HasSlots h n (cut_to marks h.slots)) where
      there : n ≡ record h { slots = p.slots; capacity = n.capacity }
      there =
          cut ∙ ap (λ (x : Slots). record h { slots = x; capacity = n.capacity })
          (ap (λ (m : Marks). cut_to m h.slots) are ∙ p.rest)

      held : IsGathering n b size stride start bytes
      held =
          let g = k.gathering in
          let own : IsGathering (record h { slots = p.slots; capacity = n.capacity }) b size stride start bytes =
          record { is = g.is; own = g.own; template = g.template; are = g.are; packs = g.packs } in
          subst (λ x. IsGathering x b size stride start bytes) (sym there) own

      pub takes-next : TakesRecord n (row_of value)
      takes-next = record {
        before = b;
        size = size;
        stride = stride;
        start = start;
        bytes = bytes;
        gathering = held;
        whole = next-length;
        short = next-short;
        fits = next-template;
      }

      pub packs-next : (l : Held) → HasSlots n l (with_more (row_of value) n.slots) →
          IsPackingLike names l template size start (rows ++ row_of value ∷ []) outer
      packs-next l more =
          let one = gathers n (row_of value) l.capacity b size stride start bytes held next-length next-short
          next-template in
          let after : IsGathering l b size stride start (bytes ++ row_of value) =
          subst (λ x. IsGathering x b size stride start (bytes ++ row_of value)) (sym more) one.gathering in
          let g : IsGathering l b size stride start (joined_rows (rows ++ row_of value ∷ [])) =
          subst (IsGathering l b size stride start) (sym (joined-push rows (row_of value))) after in
          let frames : l.frames ≡ h.frames =
          ap (λ (x : Held). x.frames) more ∙ ap (λ (x : Held). x.frames) there in
          let before = gathering-levels (record h { slots = p.slots }) b size stride start bytes k.gathering names in
          let inside : outer_of (levels_at names h.frames b) ≡ outer = sym (ap outer_of before) ∙ ap outer_of k.is in
          packing-like names l b template k.first size start (rows ++ row_of value ∷ []) outer g k.last k.drafted
          k.family (lengths-push stride rows (row_of value) k.lengths next-length) k.few
          (ap (λ ks. outer_of (levels_at names ks b)) frames ∙ inside)

      pub next-state : (l : Held) (count : ℕ) → count ≡ length (row_of value) →
          state_of l ≡ moved (packs n.room) (PacksRecord count) (state_of n) →
          state_of l ≡ moved true (PacksRecord stride) (record { now = marks_of p.slots; frames = h.frames })
      next-state l count counted is =
          is ∙ ap (λ k. moved true (PacksRecord k) (state_of n)) (counted ∙ next-length)
          ∙ ap (λ (x : Held). moved true (PacksRecord stride) (state_of x)) there

-- the array stays as the capacity grows
pub packing-regrown : (names : Names) (g h : Held) (template : Value) (size start : ℕ) (rows : List (List ℕ))
    (outer : Levels) → IsPackingLike names g template size start rows outer → Regrown g h →
    IsPackingLike names h template size start rows outer
packing-regrown names g h template size start rows outer p grown =
    let n : Held = record g { capacity = h.capacity } in
    let k = p.gathering in
    let own : IsPackingLike names n template size start rows outer = record {
      is = regrown-levels names g n refl ∙ p.is;
      before = p.before;
      gathering = record { is = k.is; own = k.own; template = k.template; are = k.are; packs = k.packs };
      last = p.last;
      first = p.first;
      drafted = p.drafted;
      family = p.family;
      lengths = p.lengths;
      few = p.few;
    } in
    subst (λ x. IsPackingLike names x template size start rows outer) (sym grown) own

-- the struct was mapped after the array, which stayed as it was
module _ (names : Names) (g h : Held) (template : Value) (size start : ℕ) (rows : List (List ℕ)) (value : Value)
    (outer : Levels) (p : IsPackingLike names g template size start rows outer) (room : h.room ≡ g.room)
    (frames : h.frames ≡ g.frames) (rest : Extends g h)
    (more : levels names h ≡ pushed (levels names g) (Some value)) where
  unfoldable pub next-packing : IsPackingNext names h template size start rows value outer
  next-packing =
      let same : record h { slots = g.slots } ≡ record g { capacity = h.capacity } = cc in
      record {
        is = more ∙ ap (λ ls. pushed ls (Some value)) p.is;
        slots = g.slots;
        packing =
            packing-regrown names g (record h { slots = g.slots }) template size start rows outer p same;
        rest = rest;
      }

  -- what is cut off is what was stored since
  pub next-packing-slots : next-packing.slots ≡ g.slots
  unfolding next-packing
  next-packing-slots = refl

pub next-part : (h : Held) → TakesNext h → HasRowAt h 1
next-part h q = record {
  names = q.names;
  value = q.value;
  is = ap (λ ls. part_value ls 0 1) q.next.is;
  fixed = q.fixed;
  few = omega (
    arith,
    q.next.packing.few,
    next-length q.names h q.template q.size q.start q.rows q.value q.outer q.next q.fixed q.is q.short,
    length-row q.value,
  );
}

pub next-row : (names : Names) (h : Held) (template : Value) (size start : ℕ) (rows : List (List ℕ)) (value : Value)
    (outer : Levels) → IsPackingNext names h template size start rows value outer → (row : List ℕ) → IsRowAt h 1 row →
    row ≡ row_of value
next-row names h template size start rows value outer p row is = is names value (ap (λ ls. part_value ls 0 1) p.is)

pub some-array : (h : Held) → TakesNext h → (array : ℕ) × (text : ℕ) × (family : ℕ) × IsArrayAt h array text family
some-array h q =
    let b = q.next.packing.before in (
      length b.nodes,
      length b.texts,
      length b.families - 1,
      array-at q.names h q.template q.size q.start q.rows q.value q.outer q.next,
    )

-- the store grew before the cut
module _ (h r n : Held) (marks : Marks) (grown : Regrown h r) where
  pub regrown-cut : HasSlots r n (cut_to marks r.slots) → HasSlots h n (cut_to marks h.slots)
  regrown-cut e =
      e ∙ ap (λ (x : Held). record x { slots = cut_to marks x.slots; capacity = n.capacity }) grown

  pub regrown-levels_cut : AreLevels h.room h.frames (cut_to marks h.slots) →
      AreLevels r.room r.frames (cut_to marks r.slots)
  regrown-levels_cut all =
      subst (λ (x : Held). AreLevels x.room x.frames (cut_to marks x.slots)) (sym grown) all

-- what is read of the open array
module _ (h : Held) (a t f : ℕ) (at : IsArrayAt h a t f) where
  pub link-read : (mark : ℕ) (link : Option ℕ) (i : ℕ) → mark ≡ (innermost h.frames).pending →
      link ≡ slice_index_or h.slots.pending mark link → Some i ≡ link → i ≡ a
  link-read mark link i e own found =
      let is : link ≡ Some a =
      own ∙ ap (λ m. slice_index_or h.slots.pending m link) e
      ∙ get_or_from_slice_get h.slots.pending (innermost h.frames).pending (Some a) link at.link in
      let same : Some i ≡ Some a = found ∙ is in
      cc

  pub own-read : (i : ℕ) (n : Node) → i ≡ a → slice_get h.slots.nodes i ≡ Some n → n.content ≡ t
  own-read i n e found =
      let same : Some n ≡ Some at.own = sym found ∙ ap (slice_get h.slots.nodes) e ∙ at.found in
      let is : n ≡ at.own = cc in
      ap (λ (x : Node). x.content) is ∙ at.content

  pub template-read : (i : ℕ) (n : Node) → i ≡ a → slice_get h.slots.nodes (i - 1) ≡ Some n → n.content ≡ f
  template-read i n e found =
      let same : Some n ≡ Some at.template = sym found ∙ ap (λ k. slice_get h.slots.nodes (k - 1)) e ∙ at.before in
      let is : n ≡ at.template = cc in
      ap (λ (x : Node). x.content) is ∙ at.branch

  pub family-read : (i : ℕ) (x : Family) → i ≡ f → x ≡ slice_index_or h.slots.families i x →
      x.end ≡ (family_at h.slots.families f).end
  family-read i x e own =
      let found : slice_get h.slots.families f ≡ Some (family_at h.slots.families f) =
      slice_get-get_or h.slots.families f (record { end = 0; size = 0 }) at.families in
      ap (λ (y : Family). y.end) (own ∙ ap (λ k. slice_index_or h.slots.families k x) e
      ∙ get_or_from_slice_get h.slots.families f (family_at h.slots.families f) x found)

  pub text-read : (i x : ℕ) → i ≡ t → x ≡ slice_index_or h.slots.texts i x → x ≡ slice_index h.slots.texts t
  text-read i x e own =
      own ∙ ap (λ k. slice_index_or h.slots.texts k x) e
      ∙ get_or_from_slice_get h.slots.texts t (slice_index h.slots.texts t) x
      (slice_get-get_or h.slots.texts t 0 at.texts)
