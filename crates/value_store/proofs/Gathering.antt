-- Open arrays of packed structs.
use Rattle.std.proofs.Common.{◌≡◌, ℕ, zero, suc, ◌+◌, ◌-◌, ◌*◌, ◌/◌, ◌<◌, ◌≤◌, ◌^◌, ◌⊎◌, inl, inr, true, List, [], ◌∷◌, ◌++◌, Option, Some, None, Result, Ok, Err, OnOk, length, take, drop, refl, sym, ◌∙◌, ap, subst, arith}
use Rattle.std.specs.Prelude.{slice_get, slice_index_or, slice_set}
use Rattle.std.proofs.Math.Nat.{zero-div, mul-zero, mul-div_cancel_left, mul-suc, mul-le-mul_left, eq-or-lt_of_le}
use Rattle.std.proofs.lemmas.List.{append-nil, append_assoc, length-append, length_push, length-take, take_at, take-append-le, drop-append-le, drop_at, drop-drop}
use Rattle.value_store.specs.declared.store.room.Room.{Room}
use Rattle.value_store.specs.declared.store.slots.Marks.{Marks}
use Rattle.value_store.specs.declared.store.slots.Node.{Node}
use Rattle.value_store.specs.declared.store.slots.Family.{Family}
use Rattle.value_store.specs.declared.store.slots.Shape.{Shape}
use Rattle.value_store.specs.declared.store.slots.Shape.TheVariants.{Records, Struct}
use Rattle.std.proofs.lemmas.Option.{get_or_from_slice_get}
use Rattle.pickle_meaning.specs.Means.{value_of}
use Rattle.pickle_meaning.specs.Values.{Mapped, top_of, outer_of, gathered}
use Rattle.value_store.specs.Closed.{struct_label}
use Rattle.value_store.specs.Levels.{extended}
use Rattle.value_store.specs.Gathering.{AreColumns, records_array, with_records, last_value, EndsWithTemplate, IsDraft, IsGathering, gathering_levels, AddsColumn, BeginsRecords, TakesRecord, Gathers, ClosesRecords}
use Rattle.value_store.specs.Names.{Names}
use Rattle.value_store.specs.Packed.{bytes_for, bytes_number}
use Rattle.value_store.specs.Slots.{Slots, Held, no_value, packs, part, family_at, family_links, last_of, tree_of, trees, value_at, stack, levels, levels_at, cut_to, innermost, number_bits, IsNumber, AreRecords, IsColumn, IsBranch, IsTemplatePart, NumberPart, BranchPart, AreTemplateParts, NoParts, PartThen, AbsentPartThen, IsTemplate, IsSound, IsLevel, AreLevels, Adds, Regrown, with_leaf, with_family, with_more}
use Rattle.value_store.proofs.Counted.{marks-cut}
use Rattle.value_store.proofs.FamilyRows.{Grows, part-append, slice_get-push}
use Rattle.value_store.proofs.Fits.{innermost-level, levels-replaced, levels_at-replaced}
use Rattle.value_store.proofs.Grown.{NewNode, nodes-new, pending-new, trees-new, stack-new, stack-cut, length-trees}
use Rattle.value_store.proofs.Held.{family-frames, family-levels}
use Rattle.value_store.proofs.Taken.{pushed-extended}
use Rattle.value_store.proofs.Placed.{leaf-new, family-end, family-row, family-new, family-value}
use Rattle.value_store.proofs.PlacedBytes.{bytes-here, bytes-row, bytes-tiles}
use Rattle.value_store.proofs.Templates.{number_no_branch, IsTemplate-grow, AreColumns-grow}
use Rattle.value_store.proofs.Writing.{last-set}

-- numbers side by side are parts of a template
column_parts : (s : Slots) (size stride at start : ℕ) (bytes : List ℕ) (ls : List (Option ℕ)) →
    AreColumns s size stride at start bytes ls → AreTemplateParts s size stride start bytes ls
column_parts s size stride at start bytes [] h = NoParts
column_parts s size stride at start bytes (None ∷ ls) h = absurd h
column_parts s size stride at start bytes (Some j ∷ ls) h =
    PartThen (NumberPart h.0)
    (column_parts s size stride (at + bytes_for (number_bits h.0.node.shape)) start bytes ls h.2)

-- an array of packed structs takes the place of its template

module _ (size stride : ℕ) (bytes : List ℕ) (start mark : ℕ) (s : Slots) (sound : IsSound s)
    (template : EndsWithTemplate s size stride start bytes) (are : AreRecords size stride bytes start) where
  records-new : NewNode s (with_records size stride bytes start mark s)
      (record { start = start; content = length s.texts; shape = Records stride size })
  records-new =
      let u = with_records size stride bytes start mark s in
      let n : Node = record { start = start; content = length s.texts; shape = Records stride size } in
      let here = bytes-here (Records stride size) bytes start s sound in
      let grows : Grows s u = record {
        more_nodes = n ∷ [];
        nodes = refl;
        more_families = [];
        more_links = [];
        more_texts = (length s.bytes + length bytes) ∷ [];
        more_bytes = bytes;
        families = sym (append-nil s.families);
        links = sym (append-nil s.links);
        texts = refl;
        bytes = refl;
      } in
      record {
        grows = grows;
        nodes = refl;
        is = record {
          content = (
            bytes-row (Records stride size) bytes start s sound,
            subst (λ bs. AreRecords size stride bs start) (sym here) are,
          );
          below = tt;
          template = subst (λ bs. IsTemplate u (length s.nodes) size stride start bs) (sym here)
              (IsTemplate-grow s u (length s.nodes) size stride start bytes grows template);
        };
      }

  last-tree : (names : Names) → last_of (trees names s) ≡ last_value names s
  unfolding value_at
  last-tree names = ap (λ n. slice_index_or (trees names s) (n - 1) no_value) (length-trees names s)

  records-tree : (names : Names) →
      tree_of names (with_records size stride bytes start mark s) (trees names s)
      (record { start = start; content = length s.texts; shape = Records stride size })
      ≡ records_array (last_value names s) size stride start bytes
  records-tree names =
      ap (λ bs. records_array (last_of (trees names s)) size stride start bs)
      (bytes-here (Records stride size) bytes start s sound)
      ∙ ap (λ v. records_array v size stride start bytes) (last-tree names)

pub records-adds : (room : Room) (size stride : ℕ) (bytes : List ℕ) (start : ℕ) (k : Marks) (s : Slots) → IsSound s →
    IsLevel room k s → IsSound (cut_to k s) →
    EndsWithTemplate s size stride start bytes → AreRecords size stride bytes start → packs room ≡ true →
    Adds room (cut_to k s) (with_records size stride bytes start k.pending s)
    (λ names. Some (records_array (last_value names s) size stride start bytes) ∷ [])
records-adds room size stride bytes start k s sound is below template are packed =
    let u = with_records size stride bytes start k.pending s in
    let n : Node = record { start = start; content = length s.texts; shape = Records stride size } in
    let new = records-new size stride bytes start k.pending s sound template are in
    let w = is.within in
    let m = marks-cut k s w in
    let nodes = take-append-le k.nodes s.nodes (n ∷ []) w.nodes in
    let pending = take_at (take k.pending s.pending) (Some (length s.nodes) ∷ []) k.pending
    (omega (arith, w.pending, length-take k.pending s.pending)) in
    let texts = take-append-le k.texts s.texts ((length s.bytes + length bytes) ∷ []) w.texts in
    let all = take-append-le k.bytes s.bytes bytes w.bytes in
    let left : cut_to k u ≡ cut_to k s = cc in
    record {
      sound = record {
        nodes = nodes-new s u n sound new;
        pending = pending-new s u n k.pending sound new refl;
        links = sound.links;
        bytes = bytes-tiles (Records stride size) bytes start s sound;
      };
      rest = ap (λ (j : Marks). cut_to j u) m ∙ left;
      stack = λ names.
          stack-new names s u n k.pending sound new refl
          ∙ ap (λ t. take k.pending (stack names s) ++ Some t ∷ [])
          (records-tree size stride bytes start k.pending s sound template are names)
          ∙ ap (λ os. os ++ Some (records_array (last_value names s) size stride start bytes) ∷ [])
          (sym (stack-cut names k s below));
      takes = λ none names vector. cc;
      bare = λ e. absurd (omega (arith, e, length_push s.nodes n, length-take k.nodes s.nodes));
    }

-- what the slots of an open array hold
module _ (h : Held) (before : Slots) (size stride start : ℕ) (bytes : List ℕ)
    (g : IsGathering h before size stride start bytes) where
  gathering-adds : Adds h.room (cut_to (innermost h.frames) before)
      (with_records size stride bytes start (innermost h.frames).pending before)
      (λ names. Some (records_array (last_value names before) size stride start bytes) ∷ [])
  gathering-adds =
      let i = innermost-level h.room h.frames before g.own in
      records-adds h.room size stride bytes start (innermost h.frames) before i.sound i.is i.cut
      g.template g.are g.packs

  pub gathering-frames : AreLevels h.room h.frames h.slots
  gathering-frames =
      subst (λ x. AreLevels h.room h.frames x) (sym g.is)
      (levels-replaced h.room h.frames before (with_records size stride bytes start (innermost h.frames).pending before)
      _ g.own gathering-adds)

  pub gathering-levels : (names : Names) → levels names h
      ≡ gathering_levels names before size stride start bytes (outer_of (levels_at names h.frames before))
  unfolding levels
  gathering-levels names =
      ap (levels_at names h.frames) g.is
      ∙ levels_at-replaced names h.room h.frames before
      (with_records size stride bytes start (innermost h.frames).pending before) _ g.own gathering-adds

-- more bytes
with_more-records : (more : List ℕ) (size stride start mark : ℕ) (bytes : List ℕ) (s : Slots) →
    with_more more (with_records size stride bytes start mark s) ≡ with_records size stride (bytes ++ more) start mark s
with_more-records more size stride start mark bytes s =
    let all = append_assoc s.bytes bytes more in
    let ends : take (length (s.texts ++ (length s.bytes + length bytes) ∷ []) - 1)
    (s.texts ++ (length s.bytes + length bytes) ∷ []) ≡ s.texts =
    take_at s.texts ((length s.bytes + length bytes) ∷ []) _
    (omega (arith, length_push s.texts (length s.bytes + length bytes))) in
    let count : length ((s.bytes ++ bytes) ++ more) ≡ length s.bytes + length (bytes ++ more) =
    ap length all ∙ length-append s.bytes (bytes ++ more) in
    cc

-- one more struct
module _ (size stride start : ℕ) (bytes more : List ℕ) (are : AreRecords size stride bytes start)
    (whole : length more ≡ stride) where
  count-more : length (bytes ++ more) / stride ≡ length bytes / stride + 1
  count-more =
      let count = length bytes / stride in
      let all : length (bytes ++ more) ≡ stride * (count + 1) =
      omega (arith, length-append bytes more, are.whole, whole, mul-suc stride count) in
      ap (λ n. n / stride) all ∙ mul-div_cancel_left (count + 1) (omega (arith, are.some))

  pub are-more : start + size * (length bytes / stride + 1) < 2 ^ 64 → AreRecords size stride (bytes ++ more) start
  are-more short = record {
    some = are.some;
    whole = ap (λ n. stride * n) count-more
        ∙ omega (arith, length-append bytes more, are.whole, whole, mul-suc stride (length bytes / stride));
    short = rw count-more short;
  }

  -- the bytes of a number of a struct that was there, and of the new one
  old-part : (i at k : ℕ) → i < length bytes / stride → at + k ≤ stride →
      part (stride * i + at) k (bytes ++ more) ≡ part (stride * i + at) k bytes
  old-part i at k p fits =
      part-append (stride * i + at) k bytes more
      (omega (
        arith,
        are.whole,
        fits,
        mul-suc stride i,
        mul-le-mul_left stride (let q : suc i ≤ length bytes / stride = omega (arith, p) in q),
      ))

  new-part : (at k : ℕ) → part (stride * (length bytes / stride) + at) k (bytes ++ more) ≡ part (stride * 0 + at) k more
  new-part at k =
      let first : stride * (length bytes / stride) + at ≡ length bytes + at = omega (arith, are.whole) in
      let none : at ≡ stride * 0 + at = omega arith in
      ap (λ m. take k (drop m (bytes ++ more))) first
      ∙ sym (ap (take k) (drop-drop at (length bytes) (bytes ++ more)))
      ∙ ap (λ bs. take k (drop at bs)) (drop_at bytes more (length bytes) refl)
      ∙ ap (λ m. take k (drop m more)) none

  below-more : (w k at i : ℕ) → at + k ≤ stride →
      ((i : ℕ) → i < length bytes / stride → bytes_number (part (stride * i + at) k bytes) < 2 ^ w) →
      bytes_number (part (stride * 0 + at) k more) < 2 ^ w → (i ≡ length bytes / stride) ⊎ (i < length bytes / stride) →
      bytes_number (part (stride * i + at) k (bytes ++ more)) < 2 ^ w
  below-more w k at i fits old last (inl e) =
      subst (λ j. bytes_number (part (stride * j + at) k (bytes ++ more)) < 2 ^ w) (sym e)
      (subst (λ bs. bytes_number bs < 2 ^ w) (sym (new-part at k)) last)
  below-more w k at i fits old last (inr p) =
      subst (λ bs. bytes_number bs < 2 ^ w) (sym (old-part i at k p fits)) (old i p)

  one-more : length more / stride ≡ 1
  one-more =
      let all : length more ≡ stride * 1 = omega (arith, whole) in
      ap (λ n. n / stride) all ∙ mul-div_cancel_left 1 (omega (arith, are.some))

  column-more : (s : Slots) (j : ℕ) (c : IsColumn s size stride start bytes j)
      (d : IsColumn s size stride start more j) → IsColumn s size stride start (bytes ++ more) j
  column-more s j c d =
      let at = c.node.content in
      let k = bytes_for (number_bits c.node.shape) in
      let w = number_bits c.node.shape in
      let same : d.node ≡ c.node = let e : Some d.node ≡ Some c.node = sym d.found ∙ c.found in cc in
      let last : bytes_number (part (stride * 0 + at) k more) < 2 ^ w =
      subst (λ (n : Node). bytes_number (part (stride * 0 + n.content) (bytes_for (number_bits n.shape)) more)
      < 2 ^ number_bits n.shape) same (d.below 0 (omega (arith, one-more))) in
      record {
        node = c.node;
        found = c.found;
        number = c.number;
        fits = c.fits;
        within = c.within;
        below = λ i p. below-more w k at i c.fits c.below last (eq-or-lt_of_le (omega (arith, p, count-more)));
      }

  module _ (s : Slots) where
    mutual
      part-more : {j : ℕ} → IsTemplatePart s size stride start bytes j → IsTemplatePart s size stride start more j →
          IsTemplatePart s size stride start (bytes ++ more) j
      part-more (NumberPart {j} column) (NumberPart other) = NumberPart (column-more s j column other)
      part-more (NumberPart column) (BranchPart branch others) = absurd (number_no_branch column branch)
      part-more (BranchPart branch parts) (NumberPart other) = absurd (number_no_branch other branch)
      part-more (BranchPart branch parts) (BranchPart other others) =
          let same : other.node ≡ branch.node =
          let e : Some other.node ≡ Some branch.node = sym other.found ∙ branch.found in cc in
          BranchPart branch (parts-more parts
          (subst (λ (n : Node). AreTemplateParts s size stride start more (family_links s.families s.links n.content))
          same others))

      parts-more : {ls : List (Option ℕ)} → AreTemplateParts s size stride start bytes ls →
          AreTemplateParts s size stride start more ls → AreTemplateParts s size stride start (bytes ++ more) ls
      parts-more NoParts NoParts = NoParts
      parts-more (PartThen part rest) (PartThen other others) = PartThen (part-more part other) (parts-more rest others)
      parts-more (AbsentPartThen rest) (AbsentPartThen others) = AbsentPartThen (parts-more rest others)

  template-more : (s : Slots) (i : ℕ) → IsTemplate s i size stride start bytes → IsTemplate s i size stride start more →
      IsTemplate s i size stride start (bytes ++ more)
  template-more s i t r =
      record {
        some = t.some;
        node = t.node;
        found = t.found;
        type = t.type;
        shape = t.shape;
        begins = t.begins;
        sized = t.sized;
        few = t.few;
        part = part-more s t.part r.part;
      }

-- the store after one more struct
module _ (h : Held) (more : List ℕ) where
  more-gathering : (capacity : Marks) (before : Slots) (size stride start : ℕ) (bytes : List ℕ) →
      IsGathering h before size stride start bytes → length more ≡ stride →
      start + size * (length bytes / stride + 1) < 2 ^ 64 → EndsWithTemplate before size stride start more →
      IsGathering (record h { slots = with_more more h.slots; capacity = capacity }) before size stride
      start (bytes ++ more)
  more-gathering capacity before size stride start bytes g whole short fits = record {
    is = ap (with_more more) g.is ∙ with_more-records more size stride start (innermost h.frames).pending bytes before;
    own = g.own;
    template = template-more size stride start bytes more g.are whole before (length before.nodes) g.template fits;
    are = are-more size stride start bytes more g.are whole short;
    packs = g.packs;
  }

  pub gathers : (capacity : Marks) → Gathers h (record h { slots = with_more more h.slots; capacity = capacity }) more
  gathers capacity = λ before size stride start bytes g whole short fits.
      let n = record h { slots = with_more more h.slots; capacity = capacity } in
      let longer = more-gathering capacity before size stride start bytes g whole short fits in
      record {
        gathering = longer;
        levels = λ names.
            gathering-levels n before size stride start (bytes ++ more) longer names
            ∙ ap (gathering_levels names before size stride start (bytes ++ more))
            (sym (ap outer_of (gathering-levels h before size stride start bytes g names)));
      }

  pub record-frames : TakesRecord h more → AreLevels h.room h.frames (with_more more h.slots)
  record-frames t =
      let u = record h { slots = with_more more h.slots } in
      gathering-frames u t.before t.size t.stride t.start (t.bytes ++ more)
      (more-gathering h.capacity t.before t.size t.stride t.start t.bytes t.gathering t.whole t.short t.fits)

  -- the end of the last bytes, written again
  pub record-placed : TakesRecord h more → (count end : ℕ) (all : List ℕ) → count ≡ length h.slots.texts →
      all ≡ h.slots.bytes ++ more → end ≡ length all →
      record h.slots { texts = slice_set h.slots.texts (count - 1) end; bytes = all } ≡ with_more more h.slots
  record-placed t count end all counted is last =
      let some : 0 < length h.slots.texts = omega (
        arith,
        ap (λ (x : Slots). length x.texts) t.gathering.is,
        length_push t.before.texts (length t.before.bytes + length t.bytes),
      ) in
      rw (last, is, counted) (ap (λ ends. record h.slots { texts = ends; bytes = h.slots.bytes ++ more })
      (last-set h.slots.texts (length (h.slots.bytes ++ more)) some))

-- the numbers of a template that is built
module _ (size start : ℕ) where
  -- no struct has bytes yet, so any number of bytes may be the stride where the number's fit
  column-unread : (s : Slots) (old stride j : ℕ) → old ≤ stride → IsColumn s size old start [] j →
      IsColumn s size stride start [] j
  column-unread s old stride j more c = record {
    node = c.node;
    found = c.found;
    number = c.number;
    fits = omega (arith, c.fits, more);
    within = c.within;
    below = λ i p. absurd (omega (arith, p, zero-div stride));
  }

  columns-push : (s : Slots) (end next at j : ℕ) (ls : List (Option ℕ)) → AreColumns s size end at start [] ls →
      (c : IsColumn s size next start [] j) → c.node.content ≡ end →
      end + bytes_for (number_bits c.node.shape) ≡ next → AreColumns s size next at start [] (ls ++ Some j ∷ [])
  unfolding column-unread
  columns-push s end next at j [] h c place e =
      (c, place ∙ sym h, ap (λ m. m + bytes_for (number_bits c.node.shape)) h ∙ e)
  columns-push s end next at j (None ∷ ls) h c place e = absurd h
  columns-push s end next at j (Some i ∷ ls) h c place e = (
    column-unread s end next i (omega (arith, e)) h.0,
    h.1,
    columns-push s end next (at + bytes_for (number_bits h.0.node.shape)) j ls h.2 c place e,
  )

  pub draft-none : (h : Held) → length h.slots.pending ≡ (innermost h.frames).pending → IsDraft h size start 0
  draft-none h e = subst (λ ls. AreColumns h.slots size 0 0 start [] ls)
      (sym (drop_all' (innermost h.frames).pending h.slots.pending (omega (arith, e)))) refl
    where
      drop_all' : (n : ℕ) (ls : List (Option ℕ)) → length ls ≤ n → drop n ls ≡ []
      drop_all' zero [] p = refl
      drop_all' zero (l ∷ ls) p = absurd (omega (arith, p))
      drop_all' (suc n) [] p = refl
      drop_all' (suc n) (l ∷ ls) p = drop_all' n ls (omega (arith, p))

  pub draft-push : (h : Held) (shape : Shape) (begin at : ℕ) (capacity : Marks) → AreLevels h.room h.frames h.slots →
      IsDraft h size start at → IsNumber shape → begin + number_bits shape ≤ start + size →
      IsDraft (record h { slots = with_leaf shape begin at h.slots; capacity = capacity }) size start
      (at + bytes_for (number_bits shape))
  draft-push h shape begin at capacity all draft number within =
      let s = h.slots in
      let u = with_leaf shape begin at s in
      let n : Node = record { start = begin; content = at; shape = shape } in
      let k = (innermost h.frames).pending in
      let low = (innermost-level h.room h.frames s all).is.within.pending in
      let new = leaf-new shape begin at s number in
      let grown = AreColumns-grow s u size at 0 start [] (drop k s.pending) new.grows draft in
      let next = at + bytes_for (number_bits shape) in
      let c : IsColumn u size next start [] (length s.nodes) = record {
        node = n;
        found = slice_get-push s.nodes n [];
        number = number;
        fits = omega arith;
        within = within;
        below = λ i p. absurd (omega (arith, p, zero-div next));
      } in
      subst (λ ls. AreColumns u size (at + bytes_for (number_bits shape)) 0 start [] ls)
      (sym (drop-append-le k s.pending (Some (length s.nodes) ∷ []) low))
      (columns-push u at next 0 (length s.nodes) (drop k s.pending) grown c refl refl)

-- the template is closed
pub draft-closed : (h : Held) (of size stride start : ℕ) → AreLevels h.room h.frames h.slots →
    IsDraft h size start stride → stride ≤ 2 ^ 16 →
    EndsWithTemplate (with_family (Struct of) start size (innermost h.frames).pending h.slots) size stride start []
draft-closed h of size stride start all draft few =
    let s = h.slots in
    let mark = (innermost h.frames).pending in
    let u = with_family (Struct of) start size mark s in
    let n : Node = record { start = start; content = length s.families; shape = Struct of } in
    let i = innermost-level h.room h.frames s all in
    let w = i.is.within.pending in
    let new = family-new (Struct of) start size mark s tt i.sound w in
    let count : length u.nodes ≡ length s.nodes + 1 = length_push s.nodes n in
    let last : length u.nodes - 1 ≡ length s.nodes = omega (arith, count) in
    let columns : AreColumns u size stride 0 start [] (drop mark s.pending) =
    AreColumns-grow s u size stride 0 start [] (drop mark s.pending) new.grows draft in
    let here : slice_get u.nodes (length u.nodes - 1) ≡ Some n =
    ap (λ m. slice_get u.nodes m) last ∙ slice_get-push s.nodes n [] in
    let sized : (family_at u.families n.content).size ≡ size =
    ap (λ (f : Family). f.size) (family-end (Struct of) start size mark s tt i.sound w) in
    let links = family-row (Struct of) start size mark s tt i.sound w in
    let branch : IsBranch u size start (length u.nodes - 1) =
    record { node = n; found = here; composite = tt; family = new.is.content; within = omega (arith, sized) } in
    record {
      some = omega (arith, count);
      node = n;
      found = here;
      type = of;
      shape = refl;
      begins = refl;
      sized = sized;
      few = few;
      part = BranchPart branch (subst (λ ls. AreTemplateParts u size stride start [] ls) (sym links)
          (column_parts u size stride 0 start [] (drop mark s.pending) columns));
    }

pub are-none : (size stride start : ℕ) → 1 ≤ stride → start < 2 ^ 64 → AreRecords size stride [] start
are-none size stride start some short = record {
  some = some;
  whole = ap (λ n. stride * n) (zero-div stride) ∙ mul-zero stride;
  short = omega (arith, ap (λ n. size * n) (zero-div stride), mul-zero size, short);
}

-- an array of no structs takes the place of its template
pub gathering-none : (h : Held) (size stride start : ℕ) (capacity : Marks) → AreLevels h.room h.frames h.slots →
    EndsWithTemplate h.slots size stride start [] → 1 ≤ stride → start < 2 ^ 64 → packs h.room ≡ true →
    IsGathering
    (record h { slots = with_records size stride [] start (innermost h.frames).pending h.slots; capacity = capacity })
    h.slots size stride start []
gathering-none h size stride start capacity all template some short packed =
    record { is = refl; own = all; template = template; are = are-none size stride start some short; packs = packed }

-- the value of the template
draft-value : (names : Names) (h : Held) (of size start : ℕ) → AreLevels h.room h.frames h.slots →
    last_value names (with_family (Struct of) start size (innermost h.frames).pending h.slots)
    ≡ value_of (struct_label names of) start (start + size) (levels names h)
unfolding value_at levels
draft-value names h of size start all =
    let s = h.slots in
    let mark = (innermost h.frames).pending in
    let u = with_family (Struct of) start size mark s in
    let n : Node = record { start = start; content = length s.families; shape = Struct of } in
    let i = innermost-level h.room h.frames s all in
    let w = i.is.within.pending in
    let ts = trees names s in
    let t = tree_of names u ts n in
    let last : length u.nodes - 1 ≡ length ts = omega (arith, length_push s.nodes n, length-trees names s) in
    let found : slice_get (trees names u) (length u.nodes - 1) ≡ Some t =
    ap (λ m. slice_get (trees names u) m) last
    ∙ ap (λ us. slice_get us (length ts))
    (trees-new names s u n i.sound (family-new (Struct of) start size mark s tt i.sound w))
    ∙ slice_get-push ts t [] in
    get_or_from_slice_get (trees names u) (length u.nodes - 1) t no_value found
    ∙ family-value (Struct of) start size mark s tt i.sound w names
    ∙ ap (λ os. Mapped (struct_label names of) start (start + size) (gathered os)) (sym (i.top names))

outer-closed : (names : Names) (h : Held) (of size start : ℕ) → AreLevels h.room h.frames h.slots →
    outer_of (levels_at names h.frames (with_family (Struct of) start size (innermost h.frames).pending h.slots))
    ≡ outer_of (levels names h)
unfolding levels
outer-closed names h of size start all = ap outer_of (family-levels h (Struct of) start size tt all names h.capacity)

-- the template is closed, and the array takes its place
pub begins : (h r m n : Held) (of size stride start : ℕ) → AreLevels h.room h.frames h.slots →
    IsDraft h size start stride → 1 ≤ stride → stride ≤ 2 ^ 16 → start < 2 ^ 64 → packs h.room ≡ true →
    Regrown h r →
    Regrown (record r { slots = with_family (Struct of) start size (innermost r.frames).pending r.slots }) m →
    Regrown (record m { slots = with_records size stride [] start (innermost m.frames).pending m.slots }) n →
    BeginsRecords h n of size stride start
begins h r m n of size stride start all draft some few short packed e f g =
    let close : Held → Held = λ x. record x {
      slots = with_family (Struct of) start size (innermost x.frames).pending x.slots;
      capacity = m.capacity;
    } in
    let place : Held → Held = λ x. record x {
      slots = with_records size stride [] start (innermost x.frames).pending x.slots;
      capacity = n.capacity;
    } in
    let u = with_family (Struct of) start size (innermost h.frames).pending h.slots in
    let closed : m ≡ record h { slots = u; capacity = m.capacity } = f ∙ ap close e in
    let placed : n
    ≡ record h { slots = with_records size stride [] start (innermost h.frames).pending u; capacity = n.capacity } =
    g ∙ ap place closed in
    let frames = family-frames h (Struct of) start size tt all in
    let here = gathering-none (record h { slots = u }) size stride start n.capacity frames
    (draft-closed h of size stride start all draft few) some short packed in
    let gathering : IsGathering n u size stride start [] =
    subst (λ x. IsGathering x u size stride start []) (sym placed) here in
    record {
      before = u;
      gathering = gathering;
      template = λ names. draft-value names h of size start all;
      levels = λ names.
          gathering-levels n u size stride start [] gathering names
          ∙ ap (λ ks. gathering_levels names u size stride start [] (outer_of (levels_at names ks u)))
          (ap (λ (x : Held). x.frames) placed)
          ∙ ap (gathering_levels names u size stride start []) (outer-closed names h of size start all);
    }

-- the template that the array takes the place of
pub closed-template : (h r m : Held) (of size stride start : ℕ) → AreLevels h.room h.frames h.slots →
    IsDraft h size start stride → stride ≤ 2 ^ 16 →
    Regrown h r →
    Regrown (record r { slots = with_family (Struct of) start size (innermost r.frames).pending r.slots }) m →
    EndsWithTemplate m.slots size stride start []
closed-template h r m of size stride start all draft few e f =
    let close : Held → Slots = λ x. with_family (Struct of) start size (innermost x.frames).pending x.slots in
    let is : m.slots ≡ with_family (Struct of) start size (innermost h.frames).pending h.slots =
    ap (λ (x : Held). x.slots) f ∙ ap close e in
    subst (λ x. EndsWithTemplate x size stride start []) (sym is) (draft-closed h of size stride start all draft few)

-- the clauses of the calls
pub adds-column : {T E : Type 0} (r : Result T E) (h n : Held) (shape : Shape) (begin at : ℕ) →
    AreLevels h.room h.frames h.slots → IsNumber shape →
    OnOk r (Regrown (record h { slots = with_leaf shape begin at h.slots }) n) → OnOk r (AddsColumn h n shape begin at)
adds-column (Ok x) h n shape begin at all number e = λ size start draft within.
    subst (λ u. IsDraft u size start (at + bytes_for (number_bits shape))) (sym e)
    (draft-push size start h shape begin at n.capacity all draft number within)
adds-column (Err x) h n shape begin at all number e = tt

pub closes-records : (h n : Held) →
    ((names : Names) → levels names n ≡ extended (outer_of (levels names h)) (top_of (levels names h))) →
    ClosesRecords h n
closes-records h n lifts = λ names before size stride start bytes g.
    let v = Some (records_array (last_value names before) size stride start bytes) in
    lifts names
    ∙ ap (extended (outer_of (levels names h))) (ap top_of (gathering-levels h before size stride start bytes g names))
    ∙ pushed-extended (outer_of (levels names h)) v
