-- Open values that are made of bytes: texts and arrays of packed numbers.
use Rattle.std.proofs.Common.{◌≡◌, ℕ, ◌+◌, ◌-◌, ◌*◌, ◌<◌, false, List, [], ◌∷◌, ◌++◌, Some, Result, Ok, Err, OnOk, OnErr, length, take, refl, sym, ◌∙◌, ap, subst, arith, lit<}
use Rattle.std.specs.Prelude.{slice_set}
use Rattle.std.proofs.Math.Seq.{take-length}
use Rattle.std.proofs.lemmas.List.{append_assoc, length-append, length_push, length-set, take_at, take_more_set}
use Rattle.value_store.specs.declared.store.slots.Marks.{Marks}
use Rattle.value_store.specs.declared.store.slots.Node.{Node}
use Rattle.value_store.specs.declared.store.slots.Shape.{Shape}
use Rattle.value_store.specs.declared.store.slots.Shape.TheVariants.{Integer, Offset, Text, Integers, Offsets, Records, Array, Struct, Union}
use Rattle.pickle_meaning.specs.Room.{Slot, slots}
use Rattle.pickle_meaning.specs.Values.{Levels, opened, top_of, outer_of, pushed, text_value, text_level}
use Rattle.value_store.specs.Filling.{closed_text, Writes, ShowsByte, CannotWrite, Settles, CannotCloseText}
use Rattle.value_store.specs.Exceeding.{Exceeds}
use Rattle.value_store.specs.Keeping.{LacksRoom, LacksBytes, IsPushed, CannotPush}
use Rattle.value_store.specs.Levels.{extended}
use Rattle.value_store.specs.Names.{Names}
use Rattle.value_store.specs.Takes.{BytesOf, levels_take}
use Rattle.value_store.specs.Slots.{Slots, Held, levels, AreLevels, levels_at, Adds, IsShort, with_bytes, with_more, AreBytes, bytes_value, AreSome, MayKeep, written, HasNoNode, IsFilling, IsWriting, GoesOn, Regrown}
use Rattle.value_store.proofs.Counted.{levels-more, levels_at-more, levels-sound}
use Rattle.value_store.proofs.PlacedBytes.{bytes-adds}
use Rattle.value_store.proofs.Taken.{pushed-extended, slots-pushed, pushed-some}
use Rattle.value_store.proofs.Fits.{overfills, overfilled, totals}
use Rattle.value_store.proofs.Held.{refused}

-- a value of bytes that is placed
module _ (h : Held) (shape : Shape) (bytes : List ℕ) (start : ℕ) (all : AreLevels h.room h.frames h.slots)
    (are : AreBytes shape bytes start) (may : MayKeep h.room shape) (some : AreSome shape bytes) where
  adds-here : Adds h.room h.slots (with_bytes shape bytes start h.slots)
      (λ names. Some (bytes_value shape bytes start) ∷ [])
  adds-here = bytes-adds h.room shape bytes start h.slots (levels-sound h.room h.frames h.slots all) are may some

  pub bytes-frames : AreLevels h.room h.frames (with_bytes shape bytes start h.slots)
  bytes-frames = levels-more h.room h.frames h.slots (with_bytes shape bytes start h.slots)
      (λ names. Some (bytes_value shape bytes start) ∷ []) all adds-here

  pub bytes-levels : (names : Names) (capacity : Marks) →
      levels names
      (record { slots = with_bytes shape bytes start h.slots; frames = h.frames; room = h.room; capacity = capacity })
      ≡ pushed (levels names h) (Some (bytes_value shape bytes start))
  unfolding levels
  bytes-levels names capacity =
      levels_at-more names h.room h.frames h.slots (with_bytes shape bytes start h.slots)
      (λ names. Some (bytes_value shape bytes start) ∷ []) all adds-here
      ∙ pushed-extended (levels_at names h.frames h.slots) (Some (bytes_value shape bytes start))

  pub bytes-full : {T E : Type 0} (r : Result T E) → LacksRoom h (with_bytes shape bytes start h.slots) →
      OnErr r (CannotPush h (Some (bytes_value shape bytes start)))
  bytes-full r lacks = refused r (λ names.
      overfilled names h (with_bytes shape bytes start h.slots) _ bytes-frames (bytes-levels names h.capacity)
      (pushed-some (levels names h) (Some (bytes_value shape bytes start))) lacks)

-- the end of the last bytes, written again
pub last-set : (ends : List ℕ) (end : ℕ) → 0 < length ends →
    slice_set ends (length ends - 1) end ≡ take (length ends - 1) ends ++ end ∷ []
last-set ends end some =
    let last : (length ends - 1) + 1 ≡ length ends = omega arith in
    let all : length (slice_set ends (length ends - 1) end) ≡ (length ends - 1) + 1 =
    length-set ends (length ends - 1) end ∙ sym last in
    sym (take-length (slice_set ends (length ends - 1) end))
    ∙ ap (λ n. take n (slice_set ends (length ends - 1) end)) all
    ∙ take_more_set ends (length ends - 1) end (omega arith)

-- more bytes
with_more-bytes : (more : List ℕ) (shape : Shape) (start : ℕ) (bytes : List ℕ) (s : Slots) →
    with_more more (with_bytes shape bytes start s) ≡ with_bytes shape (bytes ++ more) start s
with_more-bytes more shape start bytes s =
    let all = append_assoc s.bytes bytes more in
    let ends : take (length (s.texts ++ (length s.bytes + length bytes) ∷ []) - 1)
    (s.texts ++ (length s.bytes + length bytes) ∷ []) ≡ s.texts =
    take_at s.texts ((length s.bytes + length bytes) ∷ []) _
    (omega (arith, length_push s.texts (length s.bytes + length bytes))) in
    let count : length ((s.bytes ++ bytes) ++ more) ≡ length s.bytes + length (bytes ++ more) =
    ap length all ∙ length-append s.bytes (bytes ++ more) in
    cc

written-some : (shape : Shape) (bytes : List ℕ) (start : ℕ) (s : Slots) → 0 < length bytes →
    written shape bytes start s ≡ with_bytes shape bytes start s
written-some shape [] start s some = absurd (omega arith)
written-some shape (b ∷ bytes) start s some = refl

pub some-bytes : (shape : Shape) (bytes : List ℕ) → 0 < length bytes → AreSome shape bytes
some-bytes (Integer w g) bytes some = tt
some-bytes (Offset w g u) bytes some = tt
some-bytes Text bytes some = tt
some-bytes (Integers w g) bytes some = some
some-bytes (Offsets w g u) bytes some = some
some-bytes (Records stride size) bytes some = tt
some-bytes Array bytes some = tt
some-bytes (Struct t) bytes some = tt
some-bytes (Union t i) bytes some = tt

-- what the slots of an open value hold
module _ (names : Names) (h : Held) (shape : Shape) (bytes : List ℕ) (start : ℕ) (outer : Levels)
    (w : IsFilling names h shape bytes start outer) (some : 0 < length bytes) where
  pub filling-slots : h.slots ≡ with_bytes shape bytes start w.before
  filling-slots = w.is ∙ written-some shape bytes start w.before some

  filling-adds : Adds h.room w.before (with_bytes shape bytes start w.before)
      (λ names. Some (bytes_value shape bytes start) ∷ [])
  filling-adds = bytes-adds h.room shape bytes start w.before (levels-sound h.room h.frames w.before w.own) w.are w.may
      (some-bytes shape bytes some)

  filling-frames : AreLevels h.room h.frames h.slots
  filling-frames =
      subst (λ x. AreLevels h.room h.frames x) (sym filling-slots)
      (levels-more h.room h.frames w.before (with_bytes shape bytes start w.before)
      (λ names. Some (bytes_value shape bytes start) ∷ []) w.own filling-adds)

  pub filling-levels : levels names h ≡ (Some (bytes_value shape bytes start) ∷ []) ∷ outer
  unfolding levels
  filling-levels =
      ap (levels_at names h.frames) filling-slots
      ∙ levels_at-more names h.room h.frames w.before (with_bytes shape bytes start w.before)
      (λ names. Some (bytes_value shape bytes start) ∷ []) w.own filling-adds
      ∙ ap (λ ls. extended ls (Some (bytes_value shape bytes start) ∷ [])) w.above

  pub filling-some : 0 < length h.slots.texts
  filling-some = omega (
    arith,
    ap (λ (x : Slots). length x.texts) filling-slots,
    length_push w.before.texts (length w.before.bytes + length bytes),
  )

  more-slots : (more : List ℕ) → with_more more h.slots ≡ with_bytes shape (bytes ++ more) start w.before
  more-slots more = ap (with_more more) filling-slots ∙ with_more-bytes more shape start bytes w.before

  pub more-frames : (more : List ℕ) → AreBytes shape (bytes ++ more) start →
      AreLevels h.room h.frames (with_more more h.slots)
  more-frames more are =
      let longer = bytes ++ more in
      subst (λ x. AreLevels h.room h.frames x) (sym (more-slots more))
      (levels-more h.room h.frames w.before (with_bytes shape longer start w.before)
      (λ names. Some (bytes_value shape longer start) ∷ []) w.own
      (bytes-adds h.room shape longer start w.before (levels-sound h.room h.frames w.before w.own) are w.may
      (some-bytes shape longer (omega (arith, some, length-append bytes more)))))

-- more bytes of a value that has some, whose end is written again
pub more-placed : (h : Held) (shape : Shape) (more : List ℕ) (count end : ℕ) (bytes : List ℕ) → GoesOn h shape more →
    count ≡ length h.slots.texts → bytes ≡ h.slots.bytes ++ more → end ≡ length bytes →
    record h.slots { texts = slice_set h.slots.texts (count - 1) end; bytes = bytes } ≡ with_more more h.slots
more-placed h shape more count end bytes g all is last =
    rw (last, is, all) (ap (λ ends. record h.slots { texts = ends; bytes = h.slots.bytes ++ more })
    (last-set h.slots.texts
    (length (h.slots.bytes ++ more)) (filling-some g.names h shape g.bytes g.start g.outer g.filling g.some)))

-- what is known of an open value
pub filling-all : (names : Names) (h : Held) (shape : Shape) (bytes : List ℕ) (start : ℕ) (outer : Levels) →
    IsFilling names h shape bytes start outer → AreLevels h.room h.frames h.slots
filling-all names h shape [] start outer w = subst (λ x. AreLevels h.room h.frames x) (sym w.is) w.own
filling-all names h shape (b ∷ bytes) start outer w =
    filling-frames names h shape (b ∷ bytes) start outer w (omega arith)

pub filling-empty : (names : Names) (h : Held) (shape : Shape) (start : ℕ) (outer : Levels) →
    IsFilling names h shape [] start outer → levels names h ≡ [] ∷ outer
unfolding levels
filling-empty names h shape start outer w = ap (levels_at names h.frames) w.is ∙ w.above

-- it is inside the outer frames
pub filling-outer : (names : Names) (h : Held) (shape : Shape) (bytes : List ℕ) (start : ℕ) (outer : Levels) →
    IsFilling names h shape bytes start outer → outer_of (levels names h) ≡ outer
filling-outer names h shape [] start outer w = ap outer_of (filling-empty names h shape start outer w)
filling-outer names h shape (b ∷ bytes) start outer w =
    ap outer_of (filling-levels names h shape (b ∷ bytes) start outer w (omega arith))

-- without bytes it has no node
pub fresh-empty : (names : Names) (h : Held) (shape : Shape) (bytes : List ℕ) (start : ℕ) (outer : Levels) →
    IsFilling names h shape bytes start outer → HasNoNode h → bytes ≡ []
fresh-empty names h shape [] start outer w e = refl
fresh-empty names h shape (b ∷ bytes) start outer w e =
    let n : Node = record { start = start; content = length w.before.texts; shape = shape } in
    absurd (omega (arith, e, w.none, ap (λ (x : Slots). length x.nodes) w.is, length_push w.before.nodes n))

pub empty-fresh : (names : Names) (h : Held) (shape : Shape) (start : ℕ) (outer : Levels) →
    IsFilling names h shape [] start outer → HasNoNode h
empty-fresh names h shape start outer w = ap (λ (x : Slots). length x.nodes) w.is ∙ w.none

pub stale-some : (names : Names) (h : Held) (shape : Shape) (bytes : List ℕ) (start : ℕ) (outer : Levels) →
    IsFilling names h shape bytes start outer → (HasNoNode h → ⊥) → 0 < length bytes
stale-some names h shape [] start outer w n = absurd (n (empty-fresh names h shape start outer w))
stale-some names h shape (b ∷ bytes) start outer w n = omega arith

-- more bytes of a new value, or of one with bytes
module _ (names : Names) (h : Held) (shape : Shape) (more bytes : List ℕ) (start : ℕ) (outer : Levels)
    (w : IsFilling names h shape bytes start outer) where
  pub fresh-filling : (capacity : Marks) → HasNoNode h → 0 < length more → AreBytes shape more start →
      IsFilling names
      (record { slots = with_bytes shape more start h.slots; frames = h.frames; room = h.room; capacity = capacity })
      shape (bytes ++ more) start outer
  fresh-filling capacity e some are =
      let none = fresh-empty names h shape bytes start outer w e in
      let w' : IsFilling names h shape [] start outer = subst (λ bs. IsFilling names h shape bs start outer) none w in
      let u : IsFilling names
      (record { slots = with_bytes shape more start h.slots; frames = h.frames; room = h.room; capacity = capacity })
      shape ([] ++ more) start outer = record {
        before = w'.before;
        is = ap (with_bytes shape more start) w'.is ∙ sym (written-some shape more start w'.before some);
        own = w'.own;
        above = w'.above;
        none = w'.none;
        are = are;
        may = w'.may;
      } in
      subst (λ bs. IsFilling names
      (record { slots = with_bytes shape more start h.slots; frames = h.frames; room = h.room; capacity = capacity })
      shape (bs ++ more) start outer) (sym none) u

  pub stale-filling : (capacity : Marks) → (HasNoNode h → ⊥) → AreBytes shape (bytes ++ more) start →
      IsFilling names (record { slots = with_more more h.slots; frames = h.frames; room = h.room; capacity = capacity })
      shape (bytes ++ more) start outer
  stale-filling capacity n are =
      let some = stale-some names h shape bytes start outer w n in
      let longer : 0 < length (bytes ++ more) = omega (arith, length-append bytes more) in
      record {
        before = w.before;
        is = more-slots names h shape bytes start outer w some more
            ∙ sym (written-some shape (bytes ++ more) start w.before longer);
        own = w.own;
        above = w.above;
        none = w.none;
        are = are;
        may = w.may;
      }

  -- the capacity that the call for more bytes requests
  pub stale-goes_on : (HasNoNode h → ⊥) → AreBytes shape (bytes ++ more) start → GoesOn h shape more
  stale-goes_on n are = record {
    names = names;
    bytes = bytes;
    start = start;
    outer = outer;
    filling = w;
    some = stale-some names h shape bytes start outer w n;
    are = are;
  }

-- a value that is opened
pub opened-filling : (names : Names) (n : Held) (shape : Shape) (start : ℕ) (outer : Levels) → AreBytes shape [] start →
    MayKeep n.room shape → HasNoNode n →
    AreLevels n.room n.frames n.slots → levels names n ≡ [] ∷ outer → IsFilling names n shape [] start outer
unfolding levels
opened-filling names n shape start outer are may fresh all e =
    record { before = n.slots; is = refl; own = all; above = e; none = fresh; are = are; may = may }

-- texts

pub writing-levels : (names : Names) (h : Held) (bytes : List ℕ) (start : ℕ) (outer : Levels) →
    IsWriting names h bytes start outer → 0 < length bytes → levels names h ≡ text_level bytes start outer
writing-levels names h bytes start outer w some = filling-levels names h Text bytes start outer w some

pub writing-outer : (names : Names) (h : Held) (bytes : List ℕ) (start : ℕ) (outer : Levels) →
    IsWriting names h bytes start outer → outer_of (levels names h) ≡ outer
writing-outer names h bytes start outer w = filling-outer names h Text bytes start outer w

pub opened-writing : (names : Names) (h n : Held) (start : ℕ) → HasNoNode n → AreLevels n.room n.frames n.slots →
    levels names n ≡ opened (levels names h) → IsWriting names n [] start (levels names h)
opened-writing names h n start fresh all e = opened-filling names n Text start (levels names h) (lit< tt) tt fresh all e

short-push : (bytes : List ℕ) (byte : ℕ) → IsShort (length bytes + 1) → IsShort (length (bytes ++ byte ∷ []))
short-push bytes byte short = subst (λ n. IsShort n) (sym (length_push bytes byte)) short

-- one more byte of a text
module _ (names : Names) (h : Held) (byte : ℕ) (bytes : List ℕ) (start : ℕ) (outer : Levels)
    (w : IsWriting names h bytes start outer) where
  pub fresh-levels : HasNoNode h →
      pushed (levels names h) (Some (text_value (byte ∷ []) start (start + 8 * (length (byte ∷ []) + 1))))
      ≡ text_level (bytes ++ byte ∷ []) start outer
  fresh-levels e =
      let none = fresh-empty names h Text bytes start outer w e in
      let w' : IsWriting names h [] start outer = subst (λ bs. IsFilling names h Text bs start outer) none w in
      ap (λ ls. pushed ls (Some (text_value (byte ∷ []) start (start + 8 * (length (byte ∷ []) + 1)))))
      (filling-empty names h Text start outer w') ∙ ap (λ bs. text_level (bs ++ byte ∷ []) start outer) (sym none)

  -- it takes only the bytes more
  pub stale-overfills : (HasNoNode h → ⊥) → LacksBytes h 1 →
      Exceeds h.room (text_level (bytes ++ byte ∷ []) start outer)
  stale-overfills n lacks =
      let is = writing-levels names h bytes start outer w (stale-some names h Text bytes start outer w n) in
      overfills h (text_level (bytes ++ byte ∷ []) start outer) (omega arith) BytesOf lacks.0 (λ none.
      let held =
      totals names h BytesOf none (filling-all names h Text bytes start outer w) ∙ ap (levels_take false BytesOf) is in
      omega (arith, lacks.1, held, length_push bytes byte))

-- the closed text
pub close-stale : (names : Names) (h : Held) (bytes : List ℕ) (start : ℕ) (outer : Levels) →
    IsWriting names h bytes start outer → (HasNoNode h → ⊥) → levels names h ≡ text_level bytes start outer
close-stale names h bytes start outer w n =
    writing-levels names h bytes start outer w (stale-some names h Text bytes start outer w n)

pub close-fresh : (names : Names) (h : Held) (bytes : List ℕ) (start : ℕ) (outer : Levels) →
    IsWriting names h bytes start outer → HasNoNode h →
    pushed (levels names h) (Some (text_value [] start (start + 8 * (0 + 1)))) ≡ text_level bytes start outer
close-fresh names h bytes start outer w e =
    let none = fresh-empty names h Text bytes start outer w e in
    let w' : IsWriting names h [] start outer = subst (λ bs. IsFilling names h Text bs start outer) none w in
    ap (λ ls. pushed ls (Some (text_value [] start (start + 8 * (0 + 1))))) (filling-empty names h Text start outer w')
    ∙ ap (λ bs. text_level bs start outer) (sym none)

-- a text takes the same in its own frame and in the one around it
closed-slots : (kind : Slot) (bytes : List ℕ) (start : ℕ) (outer : Levels) →
    slots kind (closed_text bytes start outer) ≡ slots kind (text_level bytes start outer)
closed-slots kind bytes start outer =
    let v = Some (text_value bytes start (start + 8 * (length bytes + 1))) in omega (arith, slots-pushed kind outer v)

pub overfills-closed : (h : Held) (bytes : List ℕ) (start : ℕ) (outer : Levels) →
    Exceeds h.room (text_level bytes start outer) → Exceeds h.room (closed_text bytes start outer)
overfills-closed h bytes start outer exceeds = λ free.
    let o = exceeds free in (o.0, omega (arith, o.1, closed-slots o.0 bytes start outer))

-- the clauses of the calls
on_ok : {T E A B : Type 0} (r : Result T E) → (A → B) → OnOk r A → OnOk r B
on_ok (Ok x) f a = f a
on_ok (Err x) f a = tt

on_err : {T E A B : Type 0} (r : Result T E) → (A → B) → OnErr r A → OnErr r B
on_err (Ok x) f a = tt
on_err (Err x) f a = f a

-- a text placed by its bytes
abbrev Placed : (h n : Held) → (bytes : List ℕ) (start : ℕ) → Type 0
Placed h n bytes start = IsPushed h n (Some (bytes_value Text bytes start))

abbrev Refused : Held → (bytes : List ℕ) (start : ℕ) → Type 0
Refused h bytes start = CannotPush h (Some (bytes_value Text bytes start))

module _ {T E : Type 0} (r : Result T E) (h n : Held) (byte start : ℕ) where
  pub fresh-clause : HasNoNode h → OnOk r (Placed h n (byte ∷ []) start) → OnOk r (ShowsByte h n byte start)
  fresh-clause fresh =
      on_ok r (λ e names bytes outer w short. e names ∙ fresh-levels names h byte bytes start outer w fresh)

  pub fresh-full : HasNoNode h → OnErr r (Refused h (byte ∷ []) start) → OnErr r (CannotWrite h byte start)
  fresh-full fresh = on_err r
      (λ e names bytes outer w. subst (Exceeds h.room) (fresh-levels names h byte bytes start outer w fresh) (e names))

  pub fresh-writes : HasNoNode h → OnOk r (Regrown (record h { slots = with_bytes Text (byte ∷ []) start h.slots }) n) →
      OnOk r (Writes h n byte start)
  fresh-writes fresh = on_ok r (λ e names bytes outer w short.
      subst (λ u. IsFilling names u Text (bytes ++ byte ∷ []) start outer) (sym e)
      (fresh-filling names h Text (byte ∷ []) bytes start outer w _ fresh (omega arith) (lit< tt)))

  pub stale-writes : (HasNoNode h → ⊥) → OnOk r (Regrown (record h { slots = with_more (byte ∷ []) h.slots }) n) →
      OnOk r (Writes h n byte start)
  stale-writes stale = on_ok r (λ e names bytes outer w short.
      subst (λ u. IsFilling names u Text (bytes ++ byte ∷ []) start outer) (sym e)
      (stale-filling names h Text (byte ∷ []) bytes start outer w _ stale (short-push bytes byte short)))

  pub stale-clause : (HasNoNode h → ⊥) → OnOk r (Regrown (record h { slots = with_more (byte ∷ []) h.slots }) n) →
      OnOk r (ShowsByte h n byte start)
  stale-clause stale = on_ok r (λ e names bytes outer w short.
      ap (levels names) e
      ∙ writing-levels names _ _ _ _
      (stale-filling names h Text (byte ∷ []) bytes start outer w _ stale (short-push bytes byte short))
      (omega (arith, length_push bytes byte)))

  pub stale-full : (HasNoNode h → ⊥) → OnErr r (LacksBytes h 1) → OnErr r (CannotWrite h byte start)
  stale-full stale =
      on_err r (λ lacks names bytes outer w. stale-overfills names h byte bytes start outer w stale lacks)

  pub settled-clause : HasNoNode h → OnOk r (Placed h n [] start) → OnOk r (Settles h n start)
  settled-clause fresh = on_ok r (λ e names bytes outer w. e names ∙ close-fresh names h bytes start outer w fresh)

  pub settled-full : HasNoNode h → OnErr r (Refused h [] start) → OnErr r (CannotCloseText h start)
  settled-full fresh = on_err r (λ e names bytes outer w.
      overfills-closed h bytes start outer
      (subst (Exceeds h.room) (close-fresh names h bytes start outer w fresh) (e names)))

-- the frames of a text that is lifted
pub lifted-text : (bytes : List ℕ) (start : ℕ) (outer ls : Levels) → ls ≡ text_level bytes start outer →
    extended (outer_of ls) (top_of ls) ≡ closed_text bytes start outer
lifted-text bytes start outer ls e =
    ap (λ l. extended (outer_of l) (top_of l)) e
    ∙ pushed-extended outer (Some (text_value bytes start (start + 8 * (length bytes + 1))))
