-- How the calls of a store change the lengths of its vectors.
use Rattle.std.proofs.Common.{◌≡◌, ℕ, ◌+◌, ◌-◌, ◌<◌, ◌≤◌, Bool, true, false, List, [], ◌++◌, Some, None, Result, Ok, Err, OnOk, OnErr, length, take, drop, refl, sym, ◌∙◌, ap, eq-eqb, ne_eqb, arith}
use Rattle.std.specs.Prelude.{nat_eq, if◌then◌else◌}
use Rattle.std.proofs.lemmas.List.{length-append, length-drop, length-take, length_push}
use Rattle.value_store.specs.declared.store.slots.Family.{Family}
use Rattle.value_store.specs.declared.store.slots.Marks.{Marks}
use Rattle.value_store.specs.declared.store.slots.Node.{Node}
use Rattle.value_store.specs.declared.store.slots.Shape.{Shape}
use Rattle.pickle_meaning.specs.Values.{Levels, top_of}
use Rattle.value_store.specs.Keeping.{LacksRoom, LacksBytes}
use Rattle.value_store.specs.Moves.{Move, Places, Leaves, Clears, Closes, Packs, OpensRecords, PacksRecord, State, state_of, with_number, with_text, with_links, with_template, joined, settled, settled_row, moved, needed, CannotMove}
use Rattle.value_store.specs.declared.store.slots.Shape.TheVariants.{Records, Struct}
use Rattle.value_store.specs.Gathering.{with_records}
use Rattle.value_store.specs.Names.{Names}
use Rattle.value_store.specs.Packed.{bytes_for, number_bytes}
use Rattle.value_store.specs.Slots.{Slots, Held, packs, stack, marks_of, cut_to, innermost, AreLevels, level_of, with_leaf, with_family, with_bytes, with_absent, with_more, written, HasNoNode, IsFilling, IsPacked, element_width, TakesNumber, IsRowOf, KeepsRoom, Regrown}
use Rattle.value_store.specs.Takes.{Vector, NodesOf, FamiliesOf, LinksOf, PendingOf, TextsOf, BytesOf, of_vector}
use Rattle.value_store.proofs.Counted.{marks-cut}
use Rattle.value_store.proofs.Fits.{innermost-level}
use Rattle.value_store.proofs.Grown.{length-stack}
use Rattle.value_store.proofs.Packed.{length-number_bytes}
use Rattle.value_store.proofs.PackedRows.{row_bytes, row-packs}
use Rattle.value_store.proofs.Writing.{fresh-empty, stale-some, filling-slots, filling-some}

-- marks with the same entries
pub same-marks : (a b : Marks) → a.nodes ≡ b.nodes → a.families ≡ b.families → a.links ≡ b.links →
    a.pending ≡ b.pending →
    a.texts ≡ b.texts → a.bytes ≡ b.bytes → a ≡ b
same-marks a b nodes families links pending texts bytes =
    let eta-a : record {
      nodes = a.nodes;
      families = a.families;
      links = a.links;
      pending = a.pending;
      texts = a.texts;
      bytes = a.bytes;
    } ≡ a = refl in
    let eta-b : record {
      nodes = b.nodes;
      families = b.families;
      links = b.links;
      pending = b.pending;
      texts = b.texts;
      bytes = b.bytes;
    } ≡ b = refl in
    cc

-- the marks of slots that have more
marks-leaf : (shape : Shape) (start c : ℕ) (s : Slots) → marks_of (with_leaf shape start c s) ≡ with_number (marks_of s)
marks-leaf shape start c s =
    let n : Node = record { start = start; content = c; shape = shape } in
    same-marks _ _ (length_push s.nodes n) refl refl (length_push s.pending (Some (length s.nodes))) refl refl

marks-family : (shape : Shape) (start size : ℕ) (k : Marks) (s : Slots) → k.pending ≤ length s.pending →
    marks_of (with_family shape start size k.pending s) ≡ with_links k (marks_of s)
marks-family shape start size k s within =
    let n : Node = record { start = start; content = length s.families; shape = shape } in
    let f : Family = record { end = length s.links + (length s.pending - k.pending); size = size } in
    same-marks _ _ (length_push s.nodes n) (length_push s.families f)
    (omega (arith, length-append s.links (drop k.pending s.pending), length-drop k.pending s.pending))
    (omega
    (arith, length_push (take k.pending s.pending) (Some (length s.nodes)), length-take k.pending s.pending, within))
    refl refl

marks-bytes : (shape : Shape) (bytes : List ℕ) (start : ℕ) (s : Slots) →
    marks_of (with_bytes shape bytes start s) ≡ with_text (marks_of s) (length s.bytes + length bytes)
marks-bytes shape bytes start s =
    let n : Node = record { start = start; content = length s.texts; shape = shape } in
    same-marks _ _ (length_push s.nodes n) refl refl (length_push s.pending (Some (length s.nodes)))
    (length_push s.texts (length s.bytes + length bytes)) (length-append s.bytes bytes)

marks-more : (more : List ℕ) (s : Slots) → 0 < length s.texts →
    marks_of (with_more more s) ≡ record (marks_of s) { bytes = length s.bytes + length more }
marks-more more s some =
    let ends = take (length s.texts - 1) s.texts in
    same-marks _ _ refl refl refl refl
    (omega (arith, length_push ends (length (s.bytes ++ more)), length-take (length s.texts - 1) s.texts, some))
    (length-append s.bytes more)

abbrev pub framed : List Marks → Marks → State
framed frames now = record { now = now; frames = frames }

-- the state of a store with other slots
abbrev pub having : Held → Slots → State
having h s = framed h.frames (marks_of s)

-- the calls that make one change
module _ (h : Held) where
  pub number-moves : (shape : Shape) (start c : ℕ) →
      having h (with_leaf shape start c h.slots) ≡ moved (packs h.room) Places (state_of h)
  number-moves shape start c = ap (framed h.frames) (marks-leaf shape start c h.slots)

  pub absent-moves : having h (with_absent h.slots) ≡ moved (packs h.room) Leaves (state_of h)
  absent-moves = ap (framed h.frames) (same-marks _ _ refl refl refl (length_push h.slots.pending None) refl refl)

  pub clear-moves : AreLevels h.room h.frames h.slots →
      having h (cut_to (innermost h.frames) h.slots) ≡ moved (packs h.room) Clears (state_of h)
  clear-moves all = ap (framed h.frames)
      (marks-cut (innermost h.frames) h.slots (innermost-level h.room h.frames h.slots all).is.within)

  pub family-joins : (shape : Shape) (start size : ℕ) → AreLevels h.room h.frames h.slots →
      having h (with_family shape start size (innermost h.frames).pending h.slots) ≡ joined (state_of h)
  family-joins shape start size all =
      ap (framed h.frames) (marks-family shape start size (innermost h.frames) h.slots
      (innermost-level h.room h.frames h.slots all).is.within.pending)

  -- a move that a vector has no capacity for
  pub unmoved : {T E : Type 0} (r : Result T E) (move : Move) (vector : Vector) →
      of_vector vector h.capacity < of_vector vector (needed (packs h.room) move (state_of h)).now →
      OnErr r (CannotMove h move)
  unmoved (Ok x) move vector more = tt
  unmoved (Err x) move vector more = (vector, more)

  -- bytes that a vector has no capacity for
  pub bytes-lack : (shape : Shape) (bytes : List ℕ) (start : ℕ) (vector : Vector) →
      h.room.least ≤ of_vector vector h.capacity →
      of_vector vector h.capacity
      < of_vector vector (with_text (marks_of h.slots) (length h.slots.bytes + length bytes)) →
      LacksRoom h (with_bytes shape bytes start h.slots)
  bytes-lack shape bytes start vector least more =
      (vector, (least, omega (arith, more, ap (of_vector vector) (marks-bytes shape bytes start h.slots))))

-- a text, or an array of packed numbers, is all that its frame has
module _ (names : Names) (h : Held) (shape : Shape) (bytes : List ℕ) (start : ℕ) (outer : Levels)
    (w : IsFilling names h shape bytes start outer) where
  before-marks : marks_of w.before ≡ innermost h.frames
  before-marks =
      let k = innermost h.frames in
      let i = innermost-level h.room h.frames w.before w.own in
      let none : level_of names k w.before ≡ [] = sym (i.top names) ∙ ap top_of w.above in
      let rows = i.is.bare w.none in
      let pending : length w.before.pending ≡ k.pending = omega (
        arith,
        ap length none,
        length-drop k.pending (stack names w.before),
        length-stack names w.before,
        i.is.within.pending,
      ) in
      same-marks _ _ w.none rows.families rows.links pending rows.texts rows.bytes

  pub fresh-marks : HasNoNode h → marks_of h.slots ≡ innermost h.frames
  fresh-marks fresh =
      let none = fresh-empty names h shape bytes start outer w fresh in
      ap marks_of (w.is ∙ ap (λ bs. written shape bs start w.before) none) ∙ before-marks

  pub stale-marks : (HasNoNode h → ⊥) → marks_of h.slots ≡ with_text (innermost h.frames) (length h.slots.bytes)
  stale-marks stale =
      let some = stale-some names h shape bytes start outer w stale in
      let is = filling-slots names h shape bytes start outer w some in
      let all = marks-bytes shape bytes start w.before in
      let count : length w.before.bytes + length bytes ≡ length h.slots.bytes =
      omega (arith, ap (λ (x : Slots). length x.bytes) is, length-append w.before.bytes bytes) in
      ap marks_of is ∙ all ∙ ap (λ n. with_text (marks_of w.before) n) count
      ∙ ap (λ k. with_text k (length h.slots.bytes)) before-marks

  -- it is placed, or has more bytes
  abbrev longer : List ℕ → State
  longer more = framed h.frames (with_text (innermost h.frames) (length h.slots.bytes + length more))

  pub fresh-longer : HasNoNode h → (more : List ℕ) → having h (with_bytes shape more start h.slots) ≡ longer more
  fresh-longer fresh more =
      ap (framed h.frames) (marks-bytes shape more start h.slots
      ∙ ap (λ k. with_text k (length h.slots.bytes + length more)) (fresh-marks fresh))

  pub stale-longer : (HasNoNode h → ⊥) → (more : List ℕ) → having h (with_more more h.slots) ≡ longer more
  stale-longer stale more =
      let some = filling-some names h shape bytes start outer w (stale-some names h shape bytes start outer w stale) in
      let f : Marks → Marks = λ k. record k { bytes = length h.slots.bytes + length more } in
      ap (framed h.frames) (marks-more more h.slots some ∙ ap f (stale-marks stale))

  -- it is closed
  pub fresh-settled : HasNoNode h → having h (with_bytes shape [] start h.slots) ≡ settled (state_of h)
  fresh-settled fresh =
      let none : length h.slots.bytes + length {A = ℕ} [] ≡ length h.slots.bytes = omega arith in
      fresh-longer fresh [] ∙ ap (λ n. framed h.frames (with_text (innermost h.frames) n)) none

  pub stale-settled : (HasNoNode h → ⊥) → state_of h ≡ settled (state_of h)
  stale-settled stale = ap (framed h.frames) (stale-marks stale)

-- the clauses of the calls
pub regrown-state : {T E : Type 0} (r : Result T E) (h n : Held) (s : Slots) (state : State) → having h s ≡ state →
    OnOk r (Regrown (record h { slots = s }) n) → OnOk r (state_of n ≡ state)
regrown-state (Ok x) h n s state e regrown = ap state_of regrown ∙ e
regrown-state (Err x) h n s state e regrown = tt

pub lacks-room : {T E : Type 0} (r : Result T E) (h : Held) (s : Slots) (move : Move) →
    marks_of s ≡ (needed (packs h.room) move (state_of h)).now →
    OnErr r (LacksRoom h s) → OnErr r (CannotMove h move)
lacks-room (Ok x) h s move e lacks = tt
lacks-room (Err x) h s move e (vector, (least, more)) = (vector, omega (arith, more, ap (of_vector vector) e))

pub lacks-bytes : {T E : Type 0} (r : Result T E) (h : Held) (count : ℕ) (move : Move) →
    (needed (packs h.room) move (state_of h)).now.bytes ≡ length h.slots.bytes + count →
    OnErr r (LacksBytes h count) → OnErr r (CannotMove h move)
lacks-bytes (Ok x) h count move e lacks = tt
lacks-bytes (Err x) h count move e lacks = (BytesOf, omega (arith, lacks.1, e))

-- an array of packed numbers has one more
module _ (h : Held) (shape : Shape) (start width digits : ℕ) (own : List ℕ) (p : IsPacked shape)
    (same : width ≡ element_width shape)
    (is : own ≡ number_bytes (bytes_for (element_width shape)) digits) (t : TakesNumber h shape start) where
  pub packs-longer : framed h.frames (with_text (innermost h.frames) (length h.slots.bytes + length own))
      ≡ moved (packs h.room) (Packs width) (state_of h)
  packs-longer =
      let count : length own ≡ bytes_for width =
      ap length is ∙ length-number_bytes (bytes_for (element_width shape)) digits ∙ ap bytes_for (sym same) in
      ap (λ n. framed h.frames (with_text (innermost h.frames) (length h.slots.bytes + n))) count
      ∙ ap (λ b. moved b (Packs width) (state_of h)) (sym (row-packs h.room shape p t.packing.filling.may))

  pub fresh-packed : HasNoNode h →
      having h (with_bytes shape own start h.slots) ≡ moved (packs h.room) (Packs width) (state_of h)
  fresh-packed fresh =
      fresh-longer t.names h shape (row_bytes shape t.numbers) start t.outer t.packing.filling fresh own ∙ packs-longer

  pub stale-packed : (HasNoNode h → ⊥) →
      having h (with_more own h.slots) ≡ moved (packs h.room) (Packs width) (state_of h)
  stale-packed stale =
      stale-longer t.names h shape (row_bytes shape t.numbers) start t.outer t.packing.filling stale own ∙ packs-longer

  pub packed-bytes : (moved (packs h.room) (Packs width) (state_of h)).now.bytes ≡ length h.slots.bytes + length own
  packed-bytes = ap (λ (s : State). s.now.bytes) (sym packs-longer)

-- an array of packed numbers is closed: without numbers as a family
module _ (h : Held) (shape : Shape) (start : ℕ) (p : IsPacked shape) (row : IsRowOf h shape start) where
  row-settled : (node : Bool) → nat_eq (length h.slots.nodes) (innermost h.frames).nodes ≡ node →
      settled_row (packs h.room) (state_of h)
      ≡ framed h.frames (if node then with_links (innermost h.frames) (marks_of h.slots) else marks_of h.slots)
  row-settled node e =
      ap (λ b. settled_row b (state_of h)) (row-packs h.room shape p row.packing.filling.may)
      ∙ ap (λ b. framed h.frames (if b then with_links (innermost h.frames) (marks_of h.slots) else marks_of h.slots)) e

  pub row-fresh : HasNoNode h → joined (state_of h) ≡ settled_row (packs h.room) (state_of h)
  row-fresh fresh = sym (row-settled true (eq-eqb _ _ fresh))

  pub row-stale : (HasNoNode h → ⊥) → state_of h ≡ settled_row (packs h.room) (state_of h)
  row-stale stale = sym (row-settled false (ne_eqb _ _ stale))

-- a clause in terms of another state
pub on-state : {T E : Type 0} (r : Result T E) (n : Held) (s t : State) → s ≡ t → OnOk r (state_of n ≡ s) →
    OnOk r (state_of n ≡ t)
on-state (Ok x) n s t e is = is ∙ e
on-state (Err x) n s t e is = tt

pub lacks-same : {T E : Type 0} (r : Result T E) (h : Held) (one other : Move) →
    (needed (packs h.room) one (state_of h)).now ≡ (needed (packs h.room) other (state_of h)).now →
    OnErr r (CannotMove h one) → OnErr r (CannotMove h other)
lacks-same (Ok x) h one other e lacks = tt
lacks-same (Err x) h one other e (vector, more) = (vector, omega (arith, more, ap (of_vector vector) e))

-- arrays of packed structs

marks-records : (size stride : ℕ) (bytes : List ℕ) (start : ℕ) (k : Marks) (s : Slots) → k.pending ≤ length s.pending →
    marks_of (with_records size stride bytes start k.pending s) ≡
    record (marks_of s) {
      nodes = length s.nodes + 1;
      pending = k.pending + 1;
      texts = length s.texts + 1;
      bytes = length s.bytes + length bytes;
    }
marks-records size stride bytes start k s within =
    let n : Node = record { start = start; content = length s.texts; shape = Records stride size } in
    same-marks _ _ (length_push s.nodes n) refl refl
    (omega
    (arith, length_push (take k.pending s.pending) (Some (length s.nodes)), length-take k.pending s.pending, within))
    (length_push s.texts (length s.bytes + length bytes)) (length-append s.bytes bytes)

-- the template and its array
marks-template : (of size stride start : ℕ) (k : Marks) (s : Slots) → k.pending ≤ length s.pending →
    marks_of (with_records size stride [] start k.pending (with_family (Struct of) start size k.pending s))
    ≡ with_template k (marks_of s)
marks-template of size stride start k s within =
    let u = with_family (Struct of) start size k.pending s in
    let m = marks-family (Struct of) start size k s within in
    let more : k.pending ≤ length u.pending = omega (arith, ap (λ (j : Marks). j.pending) m) in
    let r = marks-records size stride [] start k u more in
    same-marks _ _ (omega (arith, ap (λ (j : Marks). j.nodes) r, ap (λ (j : Marks). j.nodes) m))
    (omega (arith, ap (λ (j : Marks). j.families) r, ap (λ (j : Marks). j.families) m))
    (omega (arith, ap (λ (j : Marks). j.links) r, ap (λ (j : Marks). j.links) m))
    (omega (arith, ap (λ (j : Marks). j.pending) r))
    (omega (arith, ap (λ (j : Marks). j.texts) r, ap (λ (j : Marks). j.texts) m))
    (omega (arith, ap (λ (j : Marks). j.bytes) r, ap (λ (j : Marks). j.bytes) m))

-- the state after the template and its array, in a store that may have grown in between
pub records-moves : (h r m n : Held) (of size stride start : ℕ) → AreLevels h.room h.frames h.slots → Regrown h r →
    Regrown (record r { slots = with_family (Struct of) start size (innermost r.frames).pending r.slots }) m →
    Regrown (record m { slots = with_records size stride [] start (innermost m.frames).pending m.slots }) n →
    state_of n ≡ moved (packs h.room) OpensRecords (state_of h)
records-moves h r m n of size stride start all e f g =
    let close : Held → Held =
    λ x. record x { slots = with_family (Struct of) start size (innermost x.frames).pending x.slots } in
    let place : Held → Held =
    λ x. record x { slots = with_records size stride [] start (innermost x.frames).pending x.slots } in
    ap state_of g ∙ ap (λ x. state_of (place x)) f ∙ ap (λ x. state_of (place (close x))) e
    ∙ ap (framed h.frames) (marks-template of size stride start (innermost h.frames) h.slots
    (innermost-level h.room h.frames h.slots all).is.within.pending)

-- a template takes no more than it does with its array
template-most : (vector : Vector) (k n : Marks) →
    of_vector vector (with_links k n) ≤ of_vector vector (with_template k n)
template-most NodesOf k n = omega arith
template-most FamiliesOf k n = omega arith
template-most LinksOf k n = omega arith
template-most PendingOf k n = omega arith
template-most TextsOf k n = omega arith
template-most BytesOf k n = omega arith

pub room-kept : (vector : Vector) (h r : Held) → KeepsRoom h r →
    of_vector vector h.capacity ≤ of_vector vector r.capacity
room-kept NodesOf h r keeps = keeps.nodes
room-kept FamiliesOf h r keeps = keeps.families
room-kept LinksOf h r keeps = keeps.links
room-kept PendingOf h r keeps = keeps.pending
room-kept TextsOf h r keeps = keeps.texts
room-kept BytesOf h r keeps = keeps.bytes

pub template-lacks : {T E : Type 0} (q : Result T E) (h r : Held) → Regrown h r → KeepsRoom h r → CannotMove r Closes →
    OnErr q (CannotMove h OpensRecords)
template-lacks (Ok x) h r e keeps lacks = tt
template-lacks (Err x) h r e keeps (vector, more) =
    let state : state_of r ≡ state_of h = ap state_of e in
    let own : of_vector vector (with_links (innermost r.frames) (marks_of r.slots))
    ≡ of_vector vector (with_links (innermost h.frames) (marks_of h.slots)) =
    ap (λ (s : State). of_vector vector (with_links (innermost s.frames) s.now)) state in (
      vector,
      omega
          (arith, more, own, room-kept vector h r keeps, template-most vector (innermost h.frames) (marks_of h.slots)),
    )

-- one more struct
pub record-moves : (h : Held) (more : List ℕ) → 0 < length h.slots.texts →
    having h (with_more more h.slots) ≡ moved (packs h.room) (PacksRecord (length more)) (state_of h)
record-moves h more some = ap (framed h.frames) (marks-more more h.slots some)
