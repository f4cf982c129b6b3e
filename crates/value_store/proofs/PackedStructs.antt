-- Arrays of packed structs, by the numbers of the structs.
use Rattle.std.proofs.Common.{Result, Ok, Err, OnOk, suc, ◌≡◌, ℕ, ◌+◌, ◌-◌, ◌*◌, ◌/◌, ◌<◌, ◌≤◌, ◌^◌, List, [], ◌∷◌, ◌++◌, true, false, Option, Some, length, take, drop, map, refl, sym, ◌∙◌, ap, subst, arith}
use Rattle.std.proofs.Math.Nat.{mul-zero, mul-suc, mul-div_cancel_left}
use Rattle.std.proofs.lemmas.List.{append_assoc, append-nil, length-append, length_push, take_at, drop_at}
use Rattle.std.specs.Prelude.{slice_get, unsigned_abs}
use Rattle.value_store.specs.declared.store.slots.Node.{Node}
use Rattle.value_store.specs.declared.store.slots.Shape.{Shape}
use Rattle.value_store.specs.declared.store.slots.Shape.TheVariants.{Integer, Offset, Text, Integers, Offsets, Records, Array, Struct, Union}
use Rattle.pickle_types.specs.declared.integer.IntegerType.{IntegerType}
use Rattle.pickle_meaning.specs.Arithmetic.{with_sign}
use Rattle.pickle_meaning.specs.Values.{Value, Mapped, NoMembers, MemberThen, AbsentThen, IntegerLabel, OffsetLabel, ArrayLabel, Levels, label_of, members_of, top_of, outer_of, pushed, gathered}
use Rattle.value_store.specs.Closed.{struct_label}
use Rattle.value_store.specs.Keeping.{IsPushed}
use Rattle.value_store.specs.Gathering.{IsDraft, AddsColumn, records_array, last_value, EndsWithTemplate, IsGathering, gathering_levels, BeginsRecords, TakesRecord, Gathers, ClosesRecords}
use Rattle.value_store.specs.PackedStructs.{DraftsMore, struct_bits, struct_bytes, drafted, fields, struct_row, struct_rows, AreDigits, AreRows, AreNumberShapes, struct_of, structs_of, structs_array, IsPackingStructs, BeginsStructs, CannotBegin, TakesStruct, PacksStruct, CannotPackStruct, ClosesStructs}
use Rattle.value_store.specs.Labels.{number_of, width_of}
use Rattle.value_store.specs.Lent.{numbered}
use Rattle.value_store.specs.Names.{Names}
use Rattle.value_store.specs.Packed.{bytes_for, number_bytes, bytes_number}
use Rattle.value_store.specs.Records.{instance, instances, records}
use Rattle.value_store.specs.Slots.{Slots, Held, packs, part, opened, trees, value_at, levels, levels_at, family_links, links_of, parts_in, label_in, IsNumber, IsComposite, number_value, number_bits, IsColumn, IsTemplatePart, NumberPart, BranchPart, AreTemplateParts, NoParts, PartThen, AbsentPartThen, LinksBelow, IsSound}
use Rattle.value_store.proofs.Instances.{link-value}
use Rattle.value_store.proofs.Counted.{levels-sound}
use Rattle.value_store.proofs.Found.{node_sound, read-node}
use Rattle.value_store.proofs.Fits.{packs_no_more}
use Rattle.value_store.proofs.Gathering.{gathering-levels}
use Rattle.value_store.proofs.Grown.{length-trees, opened-take}
use Rattle.value_store.proofs.Linked.{node_there}
use Rattle.value_store.proofs.RecordsRead.{small-place}
use Rattle.value_store.proofs.Taken.{slots-taken, level_pending}
use Rattle.pickle_meaning.specs.Room.{PendingSlot}
use Rattle.value_store.proofs.Packed.{length-number_bytes, bytes_number-bytes, bits-below, bytes_for-enough}

-- the value of a number of a template

number-label : (c : Shape) (begin at : ℕ) → IsNumber c → width_of (label_of (number_value c begin at)) ≡ number_bits c
number-label (Integer w g) begin at h = refl
number-label (Offset w g u) begin at h = refl
number-label Text begin at h = absurd h
number-label (Integers w g) begin at h = absurd h
number-label (Offsets w g u) begin at h = absurd h
number-label (Records stride size) begin at h = absurd h
number-label Array begin at h = absurd h
number-label (Struct t) begin at h = absurd h
number-label (Union t i) begin at h = absurd h

number-width : (names : Names) (s : Slots) (shape : Shape) (c : ℕ) → IsNumber shape →
    width_of (label_in names s shape c) ≡ number_bits shape
number-width names s (Integer w g) c h = refl
number-width names s (Offset w g u) c h = refl
number-width names s Text c h = absurd h
number-width names s (Integers w g) c h = absurd h
number-width names s (Offsets w g u) c h = absurd h
number-width names s (Records stride size) c h = absurd h
number-width names s Array c h = absurd h
number-width names s (Struct t) c h = absurd h
number-width names s (Union t i) c h = absurd h

-- a number of a struct of these bytes
number-instance : (c : Shape) (begin at shift : ℕ) (row : List ℕ) → IsNumber c → at ≤ 2 ^ 16 →
    instance (number_value c begin at) shift row
    ≡ numbered c (begin + shift) (bytes_number (take (bytes_for (number_bits c)) (drop at row)))
number-instance (Integer w g) begin at shift row h few =
    let type : IntegerType = record { width = w; signed = g } in
    let e : (begin + w) + shift ≡ (begin + shift) + w = omega arith in
    ap (λ m. Mapped (IntegerLabel (with_sign type (bytes_number (take (bytes_for w) (drop m row)))) type)
    (begin + shift) ((begin + w) + shift) NoMembers) (small-place g at few)
    ∙ ap (λ end. Mapped (IntegerLabel (with_sign type (bytes_number (take (bytes_for w) (drop at row)))) type)
    (begin + shift) end NoMembers) e
number-instance (Offset w g u) begin at shift row h few =
    let type : IntegerType = record { width = w; signed = g } in
    let e : (begin + w) + shift ≡ (begin + shift) + w = omega arith in
    ap (λ m. Mapped (OffsetLabel (with_sign type (bytes_number (take (bytes_for w) (drop m row)))) type u)
    (begin + shift) ((begin + w) + shift) NoMembers) (small-place g at few)
    ∙ ap (λ end. Mapped (OffsetLabel (with_sign type (bytes_number (take (bytes_for w) (drop at row)))) type u)
    (begin + shift) end NoMembers) e
number-instance Text begin at shift row h few = absurd h
number-instance (Integers w g) begin at shift row h few = absurd h
number-instance (Offsets w g u) begin at shift row h few = absurd h
number-instance (Records stride size) begin at shift row h few = absurd h
number-instance Array begin at shift row h few = absurd h
number-instance (Struct t) begin at shift row h few = absurd h
number-instance (Union t i) begin at shift row h few = absurd h

-- a number is read back from its bytes
digits-read : (w d : ℕ) → d < 2 ^ w → bytes_number (number_bytes (bytes_for w) d) ≡ d
digits-read w d h = bytes_number-bytes (bytes_for w) d (bits-below w (bytes_for w) d (bytes_for-enough w) h)

-- the numbers of a struct are read back from its bytes, those after some others
members-read : (cs : List Shape) (begin at shift : ℕ) (ds before : List ℕ) → AreNumberShapes cs → AreDigits cs ds →
    length before ≡ at → at + struct_bytes cs ≤ 2 ^ 16 →
    instances (gathered (drafted cs begin at)) shift (before ++ struct_row cs ds)
    ≡ gathered (fields cs (begin + shift) ds)
members-read [] begin at shift [] before shapes h placed few = refl
members-read [] begin at shift (d ∷ ds) before shapes h placed few = absurd h
members-read (c ∷ cs) begin at shift [] before shapes h placed few = absurd h
members-read (c ∷ cs) begin at shift (d ∷ ds) before shapes h placed few =
    let w = number_bits c in
    let k = bytes_for w in
    let own = number_bytes k d in
    let after = struct_row cs ds in
    let row = before ++ (own ++ after) in
    let rest = gathered (drafted cs (begin + w) (at + k)) in
    let next : (begin + w) + shift ≡ (begin + shift) + w = omega arith in
    let here : take k (drop at row) ≡ own =
    ap (take k) (drop_at before (own ++ after) at placed) ∙ take_at own after k (length-number_bytes k d) in
    let longer : length (before ++ own) ≡ at + k =
    omega (arith, length-append before own, length-number_bytes k d, placed) in
    let first : instance (number_value c begin at) shift row ≡ numbered c (begin + shift) d =
    number-instance c begin at shift row shapes.0 (omega (arith, few))
    ∙ ap (λ bs. numbered c (begin + shift) (bytes_number bs)) here
    ∙ ap (numbered c (begin + shift)) (digits-read w d h.0) in
    let others =
    members-read cs (begin + w) (at + k) shift ds (before ++ own) shapes.1 h.1 longer (omega (arith, few)) in
    ap (λ v. MemberThen v (instances rest shift row)) first
    ∙ ap (λ bs. MemberThen (numbered c (begin + shift) d) (instances rest shift bs))
    (sym (append_assoc before own after))
    ∙ ap (MemberThen (numbered c (begin + shift) d)) (others ∙ ap (λ b. gathered (fields cs b ds)) next)

pub length-row : (cs : List Shape) (ds : List ℕ) → AreDigits cs ds → length (struct_row cs ds) ≡ struct_bytes cs
length-row [] [] h = refl
length-row [] (d ∷ ds) h = absurd h
length-row (c ∷ cs) [] h = absurd h
length-row (c ∷ cs) (d ∷ ds) h =
    let k = bytes_for (number_bits c) in
    omega (arith, length-append (number_bytes k d) (struct_row cs ds), length-number_bytes k d, length-row cs ds h.1)

length-rows : (cs : List Shape) (rows : List (List ℕ)) → AreRows cs rows →
    length (struct_rows cs rows) ≡ struct_bytes cs * length rows
length-rows cs [] h = sym (mul-zero (struct_bytes cs))
length-rows cs (ds ∷ rows) h =
    omega (
      arith,
      length-append (struct_row cs ds) (struct_rows cs rows),
      length-row cs ds h.0,
      length-rows cs rows h.1,
      mul-suc (struct_bytes cs) (length rows),
    )

count-rows : (cs : List Shape) (rows : List (List ℕ)) → 1 ≤ struct_bytes cs → AreRows cs rows →
    length (struct_rows cs rows) / struct_bytes cs ≡ length rows
count-rows cs rows some h = ap (λ (n : ℕ). n / struct_bytes cs) (length-rows cs rows h)
    ∙ mul-div_cancel_left (length rows) (omega (arith, some))

-- the structs are read back from their bytes
module _ (names : Names) (of : ℕ) (cs : List Shape) (start : ℕ) (shapes : AreNumberShapes cs)
    (few : struct_bytes cs ≤ 2 ^ 16) where
  abbrev first : Value
  first = Mapped (struct_label names of) start (start + struct_bits cs) (gathered (drafted cs start 0))

  structs-read : (shift : ℕ) (rows : List (List ℕ)) → AreRows cs rows →
      records first (struct_bits cs) (struct_bytes cs) shift (length rows) (struct_rows cs rows)
      ≡ structs_of names of cs (start + shift) rows
  structs-read shift [] h = refl
  structs-read shift (ds ∷ rows) h =
      let size = struct_bits cs in
      let stride = struct_bytes cs in
      let own = struct_row cs ds in
      let after = struct_rows cs rows in
      let rest = structs_of names of cs (start + (shift + size)) rows in
      let end : (start + size) + shift ≡ (start + shift) + size = omega arith in
      let next : start + (shift + size) ≡ (start + shift) + size = omega arith in
      ap (λ bs. Some (instance first shift bs)
      ∷ records first size stride (shift + size) (length rows) (drop stride (own ++ after)))
      (take_at own after stride (length-row cs ds h.0))
      ∙ ap (λ bs. Some (instance first shift own) ∷ records first size stride (shift + size) (length rows) bs)
      (drop_at own after stride (length-row cs ds h.0))
      ∙ ap (λ os. Some (instance first shift own) ∷ os) (structs-read (shift + size) rows h.1)
      ∙ ap (λ ms. Some (Mapped (struct_label names of) (start + shift) ((start + size) + shift) ms) ∷ rest)
      (members-read cs start 0 shift ds [] shapes h.0 refl (omega (arith, few)))
      ∙ ap (λ e.
      Some (Mapped (struct_label names of) (start + shift) e (gathered (fields cs (start + shift) ds))) ∷ rest) end
      ∙ ap (λ b. Some (struct_of names of cs (start + shift) ds) ∷ structs_of names of cs b rows) next

  array-read : (rows : List (List ℕ)) → 1 ≤ struct_bytes cs → AreRows cs rows →
      records_array first (struct_bits cs) (struct_bytes cs) start (struct_rows cs rows)
      ≡ structs_array names of cs start rows
  array-read rows some h =
      let none : start + 0 ≡ start = omega arith in
      ap (λ n. Mapped ArrayLabel start (start + struct_bits cs * n)
      (gathered (records first (struct_bits cs) (struct_bytes cs) 0 n (struct_rows cs rows))))
      (count-rows cs rows some h)
      ∙ ap (λ os. Mapped ArrayLabel start (start + struct_bits cs * length rows) (gathered os))
      (structs-read 0 rows h ∙ ap (λ b. structs_of names of cs b rows) none)

-- where the bytes of a number are, from the value of its node

number-place : (names : Names) (s : Slots) (shape : Shape) (c : ℕ) → IsNumber shape → c ≤ 2 ^ 16 →
    unsigned_abs (number_of (label_in names s shape c)) ≡ c
number-place names s (Integer w g) c h few = small-place g c few
number-place names s (Offset w g u) c h few = small-place g c few
number-place names s Text c h few = absurd h
number-place names s (Integers w g) c h few = absurd h
number-place names s (Offsets w g u) c h few = absurd h
number-place names s (Records stride size) c h few = absurd h
number-place names s Array c h few = absurd h
number-place names s (Struct t) c h few = absurd h
number-place names s (Union t i) c h few = absurd h

draft-place : (c : Shape) (begin at : ℕ) → IsNumber c → at ≤ 2 ^ 16 →
    unsigned_abs (number_of (label_of (number_value c begin at))) ≡ at
draft-place (Integer w g) begin at h few = small-place g at few
draft-place (Offset w g u) begin at h few = small-place g at few
draft-place Text begin at h few = absurd h
draft-place (Integers w g) begin at h few = absurd h
draft-place (Offsets w g u) begin at h few = absurd h
draft-place (Records stride size) begin at h few = absurd h
draft-place Array begin at h few = absurd h
draft-place (Struct t) begin at h few = absurd h
draft-place (Union t i) begin at h few = absurd h

-- a number has a width, and an array, a struct or a union has none

number-some : (c : Shape) → IsNumber c → 1 ≤ number_bits c
number-some (Integer w g) h = h.0
number-some (Offset w g u) h = h.0
number-some Text h = absurd h
number-some (Integers w g) h = absurd h
number-some (Offsets w g u) h = absurd h
number-some (Records stride size) h = absurd h
number-some Array h = absurd h
number-some (Struct t) h = absurd h
number-some (Union t i) h = absurd h

branch-width : (names : Names) (s : Slots) (shape : Shape) (c : ℕ) → IsComposite shape →
    width_of (label_in names s shape c) ≡ 0
branch-width names s (Integer w g) c h = absurd h
branch-width names s (Offset w g u) c h = absurd h
branch-width names s Text c h = absurd h
branch-width names s (Integers w g) c h = absurd h
branch-width names s (Offsets w g u) c h = absurd h
branch-width names s (Records stride size) c h = absurd h
branch-width names s Array c h = refl
branch-width names s (Struct t) c h = refl
branch-width names s (Union t i) c h = refl

-- a template whose parts are numbers takes the bytes of any numbers of their shapes
module _ (names : Names) (s : Slots) (sound : IsSound s) (size stride start : ℕ) (bytes more : List ℕ)
    (some : 1 ≤ stride) (few : stride ≤ 2 ^ 16) (whole : length more ≡ stride) where
  just-one : length more / stride ≡ 1
  just-one =
      let all : length more ≡ stride * 1 = omega (arith, whole) in
      ap (λ n. n / stride) all ∙ mul-div_cancel_left 1 (omega (arith, some))

  column-refit : (j w d : ℕ) (before after : List ℕ) (c : IsColumn s size stride start bytes j) →
      number_bits c.node.shape ≡ w → length before ≡ c.node.content →
      more ≡ before ++ (number_bytes (bytes_for w) d ++ after) → d < 2 ^ w → IsColumn s size stride start more j
  column-refit j w d before after c wide placed is small =
      let at = c.node.content in
      let k = bytes_for w in
      let own = number_bytes k d in
      let here : take k (drop at more) ≡ own =
      ap (λ bs. take k (drop at bs)) is ∙ ap (take k) (drop_at before (own ++ after) at placed)
      ∙ take_at own after k (length-number_bytes k d) in
      let below : bytes_number (part at k more) < 2 ^ w =
      subst (λ n. n < 2 ^ w) (sym (ap bytes_number here ∙ digits-read w d small)) small in
      let sized : bytes_number (part at (bytes_for (number_bits c.node.shape)) more) < 2 ^ number_bits c.node.shape =
      subst (λ n. bytes_number (part at (bytes_for n) more) < 2 ^ n) (sym wide) below in
      record {
        node = c.node;
        found = c.found;
        number = c.number;
        fits = c.fits;
        within = c.within;
        below = λ i p.
            let none : i ≡ 0 = omega (arith, p, just-one) in
            let first : at ≡ stride * i + at = omega (arith, mul-zero stride, ap (λ n. stride * n) none) in
            subst (λ m. bytes_number (part m (bytes_for (number_bits c.node.shape)) more)
            < 2 ^ number_bits c.node.shape) first sized;
      }

  part-refit : {j : ℕ} (c : Shape) (begin at d : ℕ) (before after : List ℕ) →
      IsTemplatePart s size stride start bytes j → value_at names s j ≡ number_value c begin at → IsNumber c →
      d < 2 ^ number_bits c → length before ≡ at → at ≤ 2 ^ 16 →
      more ≡ before ++ (number_bytes (bytes_for (number_bits c)) d ++ after) → IsTemplatePart s size stride start more j
  part-refit c begin at d before after (NumberPart {j} column) is number small placed low all =
      let n = column.node in
      let label : label_in names s n.shape n.content ≡ label_of (number_value c begin at) =
      sym ((read-node s j n sound column.found).label names) ∙ ap label_of is in
      let wide : number_bits n.shape ≡ number_bits c =
      sym (number-width names s n.shape n.content column.number) ∙ ap width_of label ∙ number-label c begin at number in
      let place : n.content ≡ at =
      sym (number-place names s n.shape n.content column.number (omega (arith, column.fits, few)))
      ∙ ap (λ l. unsigned_abs (number_of l)) label ∙ draft-place c begin at number low in
      NumberPart (column-refit j (number_bits c) d before after column wide (placed ∙ sym place) all small)
  part-refit c begin at d before after (BranchPart {j} branch parts) is number small placed low all =
      let n = branch.node in
      let none : 0 ≡ number_bits c =
      sym (branch-width names s n.shape n.content branch.composite)
      ∙ sym (ap width_of ((read-node s j n sound branch.found).label names))
      ∙ ap (λ v. width_of (label_of v)) is
      ∙ number-label c begin at number in
      absurd (omega (arith, none, number-some c number))

  parts-refit : {ls : List (Option ℕ)} (at begin : ℕ) (cs : List Shape) (ds before : List ℕ) →
      AreTemplateParts s size stride start bytes ls →
      gathered (map (opened (trees names s)) ls) ≡ gathered (drafted cs begin at) → AreNumberShapes cs →
      AreDigits cs ds → length before ≡ at → at + struct_bytes cs ≤ 2 ^ 16 →
      more ≡ before ++ struct_row cs ds → AreTemplateParts s size stride start more ls
  parts-refit at begin cs ds before NoParts e shapes digits placed low is = NoParts
  parts-refit at begin [] ds before (AbsentPartThen {ls} rest) e shapes digits placed low is =
      absurd (let f : AbsentThen (gathered (map (opened (trees names s)) ls)) ≡ NoMembers → ⊥ = λ x. cc in f e)
  parts-refit at begin (c ∷ cs) ds before (AbsentPartThen {ls} rest) e shapes digits placed low is =
      let f : AbsentThen (gathered (map (opened (trees names s)) ls)) ≡ MemberThen (number_value c begin at)
      (gathered (drafted cs (begin + number_bits c) (at + bytes_for (number_bits c)))) → ⊥ = λ x. cc in
      absurd (f e)
  parts-refit at begin [] ds before (PartThen {j} {ls} part rest) e shapes digits placed low is =
      let others = map (opened (trees names s)) ls in
      let m : MemberThen (value_at names s j) (gathered others) ≡ NoMembers =
      sym (ap (λ o. gathered (o ∷ others)) (link-value s names j (node_there part))) ∙ e in
      absurd (let f : MemberThen (value_at names s j) (gathered others) ≡ NoMembers → ⊥ = λ x. cc in f m)
  parts-refit at begin (c ∷ cs) [] before (PartThen part rest) e shapes digits placed low is = absurd digits
  parts-refit at begin (c ∷ cs) (d ∷ ds) before (PartThen {j} {ls} part rest) e shapes digits placed low is =
      let k = bytes_for (number_bits c) in
      let own = number_bytes k d in
      let others = map (opened (trees names s)) ls in
      let m : MemberThen (value_at names s j) (gathered others)
      ≡ MemberThen (number_value c begin at) (gathered (drafted cs (begin + number_bits c) (at + k))) =
      sym (ap (λ o. gathered (o ∷ others)) (link-value s names j (node_there part))) ∙ e in
      let first : value_at names s j ≡ number_value c begin at = cc in
      let next : gathered others ≡ gathered (drafted cs (begin + number_bits c) (at + k)) = cc in
      let longer : length (before ++ own) ≡ at + k =
      omega (arith, length-append before own, length-number_bytes k d, placed) in
      let same : more ≡ (before ++ own) ++ struct_row cs ds = is ∙ sym (append_assoc before own (struct_row cs ds)) in
      PartThen
      (part-refit c begin at d before (struct_row cs ds) part first shapes.0 digits.0 placed (omega (arith, low)) is)
      (parts-refit (at + k) (begin + number_bits c) cs ds (before ++ own) rest next shapes.1 digits.1 longer
      (omega (arith, low)) same)

  -- the members of a template are the values of its links
  template-read : (t : EndsWithTemplate s size stride start bytes) → members_of (last_value names s)
      ≡ gathered (map (opened (trees names s)) (family_links s.families s.links t.node.content))
  template-read t =
      let i = length s.nodes - 1 in
      let c = t.node.content in
      let ls = family_links s.families s.links c in
      let below : LinksBelow i ls =
      subst (λ x. LinksBelow i (links_of s x c)) t.shape (node_sound s i t.node sound t.found).below in
      (read-node s i t.node sound t.found).members names
      ∙ ap (λ x. gathered (parts_in s (take i (trees names s)) x t.node.start c)) t.shape
      ∙ ap gathered (opened-take i (trees names s) ls (omega (arith, length-trees names s)) below)

  root-refit : {j : ℕ} (n : Node) (type : ℕ) → slice_get s.nodes j ≡ Some n → n.shape ≡ Struct type →
      (AreTemplateParts s size stride start bytes (family_links s.families s.links n.content) →
      AreTemplateParts s size stride start more (family_links s.families s.links n.content)) →
      IsTemplatePart s size stride start bytes j → IsTemplatePart s size stride start more j
  root-refit n type found is refit (NumberPart column) =
      let same : column.node ≡ n = let e : Some column.node ≡ Some n = sym column.found ∙ found in cc in
      absurd (subst IsNumber (ap (λ (m : Node). m.shape) same ∙ is) column.number)
  root-refit n type found is refit (BranchPart branch parts) =
      let same : branch.node ≡ n = let e : Some branch.node ≡ Some n = sym branch.found ∙ found in cc in
      let links : Node → List (Option ℕ) = λ m. family_links s.families s.links m.content in
      let own : AreTemplateParts s size stride start bytes (links n) =
      subst (λ m. AreTemplateParts s size stride start bytes (links m)) same parts in
      BranchPart branch (subst (λ m. AreTemplateParts s size stride start more (links m)) (sym same) (refit own))

  template-refit : (cs : List Shape) (ds : List ℕ) (t : EndsWithTemplate s size stride start bytes) →
      members_of (last_value names s) ≡ gathered (drafted cs start 0) →
      AreNumberShapes cs → AreDigits cs ds → struct_bytes cs ≤ 2 ^ 16 → more ≡ struct_row cs ds →
      EndsWithTemplate s size stride start more
  template-refit cs ds t members shapes digits low is =
      let none : 0 + struct_bytes cs ≤ 2 ^ 16 = omega (arith, low) in
      record {
        some = t.some;
        node = t.node;
        found = t.found;
        type = t.type;
        shape = t.shape;
        begins = t.begins;
        sized = t.sized;
        few = t.few;
        part = root-refit t.node t.type t.found t.shape (λ parts.
            parts-refit 0 start cs ds [] parts (sym (template-read t) ∙ members) shapes digits refl none is) t.part;
      }

struct_rows-push : (cs : List Shape) (rows : List (List ℕ)) (ds : List ℕ) →
    struct_rows cs (rows ++ ds ∷ []) ≡ struct_rows cs rows ++ struct_row cs ds
struct_rows-push cs [] ds = append-nil (struct_row cs ds)
struct_rows-push cs (r ∷ rows) ds = ap (λ bs. struct_row cs r ++ bs) (struct_rows-push cs rows ds)
    ∙ sym (append_assoc (struct_row cs r) (struct_rows cs rows) (struct_row cs ds))

rows-push : (cs : List Shape) (rows : List (List ℕ)) (ds : List ℕ) → AreRows cs rows → AreDigits cs ds →
    AreRows cs (rows ++ ds ∷ [])
rows-push cs [] ds h g = (g, tt)
rows-push cs (r ∷ rows) ds h g = (h.0, rows-push cs rows ds h.1 g)

-- the numbers of the template, one more each time

pub bits-push : (cs : List Shape) (c : Shape) → struct_bits (cs ++ c ∷ []) ≡ struct_bits cs + number_bits c
bits-push [] c = omega arith
bits-push (b ∷ cs) c = omega (arith, bits-push cs c)

pub bytes-push : (cs : List Shape) (c : Shape) →
    struct_bytes (cs ++ c ∷ []) ≡ struct_bytes cs + bytes_for (number_bits c)
bytes-push [] c = omega arith
bytes-push (b ∷ cs) c = omega (arith, bytes-push cs c)

shapes-push : (cs : List Shape) (c : Shape) → AreNumberShapes cs → IsNumber c → AreNumberShapes (cs ++ c ∷ [])
shapes-push [] c h g = (g, tt)
shapes-push (b ∷ cs) c h g = (h.0, shapes-push cs c h.1 g)

drafted-push : (cs : List Shape) (c : Shape) (begin at : ℕ) →
    drafted (cs ++ c ∷ []) begin at ≡ drafted cs begin
    at ++ Some (number_value c (begin + struct_bits cs) (at + struct_bytes cs)) ∷ []
drafted-push [] c begin at =
    let b : begin ≡ begin + 0 = omega arith in
    let a : at ≡ at + 0 = omega arith in
    ap (λ m. Some (number_value c m at) ∷ []) b ∙ ap (λ m. Some (number_value c (begin + 0) m) ∷ []) a
drafted-push (d ∷ cs) c begin at =
    let w = number_bits d in
    let k = bytes_for w in
    let b : (begin + w) + struct_bits cs ≡ begin + (w + struct_bits cs) = omega arith in
    let a : (at + k) + struct_bytes cs ≡ at + (k + struct_bytes cs) = omega arith in
    ap (λ os. Some (number_value d begin at) ∷ os)
    (drafted-push cs c (begin + w) (at + k)
    ∙ ap (λ m. drafted cs (begin + w) (at + k) ++ Some (number_value c m ((at + k) + struct_bytes cs)) ∷ []) b
    ∙ ap (λ m. drafted cs (begin + w) (at + k) ++ Some (number_value c (begin + (w + struct_bits cs)) m) ∷ []) a)

more-drafted : (h n : Held) (shape : Shape) (begin at : ℕ) → IsNumber shape → AddsColumn h n shape begin at →
    IsPushed h n (Some (number_value shape begin at)) → DraftsMore h n shape begin at
more-drafted h n shape begin at number adds pushes = λ names size cs start outer w first place within.
    let k = bytes_for (number_bits shape) in
    let at-own : IsDraft h size start at = subst (λ m. IsDraft h size start m) (sym place) w.draft in
    let bytes : at + k ≡ struct_bytes (cs ++ shape ∷ []) = omega (arith, place, bytes-push cs shape) in
    let none : 0 + struct_bytes cs ≡ struct_bytes cs = omega arith in
    let v : number_value shape begin at ≡ number_value shape (start + struct_bits cs) (0 + struct_bytes cs) =
    ap (λ m. number_value shape m at) first
    ∙ ap (λ m. number_value shape (start + struct_bits cs) m) (place ∙ sym none) in
    record {
      draft = subst (λ m. IsDraft n size start m) bytes (adds size start at-own (omega (arith, first, within)));
      is = pushes names ∙ ap (λ ls. pushed ls (Some (number_value shape begin at))) w.is
          ∙ ap (λ x. (drafted cs start 0 ++ Some x ∷ []) ∷ outer) v
          ∙ ap (λ os. os ∷ outer) (sym (drafted-push cs shape start 0));
      shapes = shapes-push cs shape w.shapes number;
    }

pub drafts-more : {T E : Type 0} (r : Result T E) (h n : Held) (shape : Shape) (begin at : ℕ) → IsNumber shape →
    OnOk r (AddsColumn h n shape begin at) →
    OnOk r (IsPushed h n (Some (number_value shape begin at))) → OnOk r (DraftsMore h n shape begin at)
drafts-more (Ok x) h n shape begin at number adds pushes = more-drafted h n shape begin at number adds pushes
drafts-more (Err x) h n shape begin at number adds pushes = tt

-- the calls that make such an array

-- the numbers of the template are there
pub begin-structs : (names : Names) (h n : Held) (of : ℕ) (cs : List Shape) (start : ℕ) →
    BeginsRecords h n of (struct_bits cs) (struct_bytes cs) start →
    top_of (levels names h) ≡ drafted cs start 0 → AreNumberShapes cs →
    IsPackingStructs names n of cs start [] (outer_of (levels names h))
begin-structs names h n of cs start b top shapes = record {
  before = b.before;
  gathering = b.gathering;
  template =
      b.template names ∙ ap (λ os. Mapped (struct_label names of) start (start + struct_bits cs) (gathered os)) top;
  inside = ap outer_of (b.levels names);
  shapes = shapes;
  digits = tt;
}

module _ (names : Names) (h : Held) (of : ℕ) (cs : List Shape) (start : ℕ) (rows : List (List ℕ)) (outer : Levels)
    (w : IsPackingStructs names h of cs start rows outer) where
  -- the frames
  pub structs-levels : levels names h ≡ (Some (structs_array names of cs start rows) ∷ []) ∷ outer
  structs-levels =
      let bytes = struct_rows cs rows in
      let own = gathering-levels h w.before (struct_bits cs) (struct_bytes cs) start bytes w.gathering names in
      let around : outer_of (levels_at names h.frames w.before) ≡ outer = sym (ap outer_of own) ∙ w.inside in
      own
      ∙ ap (gathering_levels names w.before (struct_bits cs) (struct_bytes cs) start bytes) around
      ∙ ap (λ v. (Some (records_array v (struct_bits cs) (struct_bytes cs) start bytes) ∷ []) ∷ outer) w.template
      ∙ ap (λ v. (Some v ∷ []) ∷ outer)
      (array-read names of cs start w.shapes w.gathering.template.few rows w.gathering.are.some w.digits)

  -- one more struct
  module _ (ds : List ℕ) (digits : AreDigits cs ds) (short : start + struct_bits cs * (length rows + 1) < 2 ^ 64) where
    row-fits : EndsWithTemplate w.before (struct_bits cs) (struct_bytes cs) start (struct_row cs ds)
    row-fits =
        let g = w.gathering in
        template-refit names w.before (levels-sound h.room h.frames w.before g.own) (struct_bits cs) (struct_bytes cs)
        start (struct_rows cs rows) (struct_row cs ds) g.are.some g.template.few (length-row cs ds digits)
        cs ds g.template (ap members_of w.template) w.shapes digits g.template.few refl

    row-short : start + struct_bits cs * (length (struct_rows cs rows) / struct_bytes cs + 1) < 2 ^ 64
    row-short =
        subst (λ n. start + struct_bits cs * (n + 1) < 2 ^ 64) (sym (count-rows cs rows w.gathering.are.some w.digits))
        short

    pub takes-struct : TakesRecord h (struct_row cs ds)
    takes-struct = record {
      before = w.before;
      size = struct_bits cs;
      stride = struct_bytes cs;
      start = start;
      bytes = struct_rows cs rows;
      gathering = w.gathering;
      whole = length-row cs ds digits;
      short = row-short;
      fits = row-fits;
    }

    pub more-structs : (n : Held) → Gathers h n (struct_row cs ds) →
        IsPackingStructs names n of cs start (rows ++ ds ∷ []) outer
    more-structs n gathers =
        let o = gathers w.before (struct_bits cs) (struct_bytes cs) start (struct_rows cs rows) w.gathering
        (length-row cs ds digits) row-short row-fits in
        record {
          before = w.before;
          gathering = subst (λ bs. IsGathering n w.before (struct_bits cs) (struct_bytes cs) start bs)
              (sym (struct_rows-push cs rows ds)) o.gathering;
          template = w.template;
          inside = ap outer_of (o.levels names) ∙ w.inside;
          shapes = w.shapes;
          digits = rows-push cs rows ds w.digits digits;
        }

  -- the array is closed
  pub closes-structs : (n : Held) → ClosesRecords h n →
      levels names n ≡ pushed outer (Some (structs_array names of cs start rows))
  closes-structs n closes =
      closes names w.before (struct_bits cs) (struct_bytes cs) start (struct_rows cs rows) w.gathering
      ∙ ap (λ ls. pushed ls
      (Some (records_array (last_value names w.before) (struct_bits cs) (struct_bytes cs) start (struct_rows cs rows))))
      w.inside
      ∙ ap (λ v. pushed outer (Some (records_array v (struct_bits cs) (struct_bytes cs) start (struct_rows cs rows))))
      w.template
      ∙ ap (λ v. pushed outer (Some v))
      (array-read names of cs start w.shapes w.gathering.template.few rows w.gathering.are.some w.digits)

-- the clauses of the calls

length-structs : (names : Names) (of : ℕ) (cs : List Shape) (start : ℕ) (rows : List (List ℕ)) →
    length (structs_of names of cs start rows) ≡ length rows
length-structs names of cs start [] = refl
length-structs names of cs start (ds ∷ rows) = ap suc (length-structs names of cs (start + struct_bits cs) rows)

pub begins-structs : (h n : Held) (of size stride start : ℕ) → BeginsRecords h n of size stride start →
    BeginsStructs h n of size stride start
begins-structs h n of size stride start b = λ names cs outer is shapes bits bytes.
    let own : BeginsRecords h n of (struct_bits cs) (struct_bytes cs) start =
    subst (λ z. BeginsRecords h n of z (struct_bytes cs) start) bits
    (subst (λ k. BeginsRecords h n of size k start) bytes b) in
    subst (λ ls. IsPackingStructs names n of cs start [] ls) (ap outer_of is)
    (begin-structs names h n of cs start own (ap top_of is) shapes)

-- where arrays are packed no slots are requested in advance
pub cannot-begin : (h : Held) (start : ℕ) → packs h.room ≡ true → CannotBegin h start
cannot-begin h start packed = λ names.
    let v = Some (structs_array names 0 [] start []) in
    let ls = (v ∷ []) ∷ outer_of (levels names h) in
    packs_no_more h.room ls (omega (arith, slots-taken PendingSlot ls, level_pending false (v ∷ []))) packed

pub takes-record : (h : Held) (more : List ℕ) → TakesStruct h more → TakesRecord h more
takes-record h more t = subst (TakesRecord h) (sym t.is)
    (takes-struct t.names h t.type t.shapes t.start t.rows t.outer t.packing t.digits t.are t.short)

pub packs-struct : (h n : Held) (more : List ℕ) → Gathers h n more → PacksStruct h n more
packs-struct h n more gathers = λ names of cs start rows outer ds w digits short is.
    more-structs names h of cs start rows outer w ds digits short n (subst (Gathers h n) is gathers)

pub cannot-pack_struct : (h : Held) → CannotPackStruct h
cannot-pack_struct h = λ names of cs start rows outer ds w.
    let os = structs_of names of cs start (rows ++ ds ∷ []) in
    let ls = os ∷ outer in
    packs_no_more h.room ls (omega (
      arith,
      slots-taken PendingSlot ls,
      level_pending false os,
      length-structs names of cs start (rows ++ ds ∷ []),
      length_push rows ds,
    )) w.gathering.packs

pub closed-structs : (h n : Held) → ClosesRecords h n → ClosesStructs h n
closed-structs h n closes = λ names of cs start rows outer w. closes-structs names h of cs start rows outer w n closes
