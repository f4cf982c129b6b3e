-- The bytes of values, as they are appended to a row.
use Rattle.std.proofs.Common.{◌≡◌, ℕ, ℤ, Bool, suc, ◌+◌, ◌<◌, ◌≤◌, List, [], ◌++◌, Some, None, Result, Ok, Err, OnOk, IsOk, ◌↔◌, length, take, refl, sym, ◌∙◌, ap, arith}
use Rattle.std.proofs.lemmas.Bool.{false≢true}
use Rattle.pickle_types.specs.Table.{IsWidth}
use Rattle.pickle_meaning.specs.Arithmetic.{modulo}
use Rattle.value_store.specs.Labels.{width_of, number_of}
use Rattle.std.proofs.lemmas.List.{append-nil, append_assoc, length-append}
use Rattle.std.specs.Int.{to_le_bytes, w64}
use Rattle.value_store.specs.Packed.{bytes_for, number_bytes}
use Rattle.pickle_types.specs.declared.integer.IntegerType.{IntegerType}
use Rattle.pickle_meaning.specs.Values.{Label, IntegerLabel, OffsetLabel, TextLabel, ArrayLabel, StructLabel, UnionLabel, Value, Mapped, Members, label_of, members_of, member_at, member_count, end_of}
use Rattle.value_store.specs.declared.stored.StoredValue.{StoredValue}
use Rattle.value_store.specs.LayoutArrays.{HasRow}
use Rattle.value_store.specs.Layouts.{digits_row, label_row, label_length, row_of, rows_of, row_length, rows_length, rows_upto, IsFixed, IsFixedLabel, AreFixed}
use Rattle.value_store.specs.Names.{Names}
use Rattle.value_store.specs.Refs.{value_of}
use Rattle.value_store.proofs.Layouts.{length-label, rows-next, rows-absent, rows-all, length-rows_upto, length-within, fixed-at}
use Rattle.value_store.proofs.Packed.{le_bytes-take}

-- the bytes of a number behind others
pub appended : {E : Type 0} (r : Result (Unit {0}) E) (old new bytes : List ℕ) (count w n : ℕ) →
    bytes ≡ to_le_bytes w64 n → w ≤ 64 → count + length (number_bytes (bytes_for w) n) ≤ 512 →
    (IsOk r ↔ (count + length (take (bytes_for w) bytes) ≤ 512)) → OnOk r (new ≡ old ++ take (bytes_for w) bytes) →
    new ≡ old ++ number_bytes (bytes_for w) n
appended (Ok u) old new bytes count w n is most room fits h =
    h ∙ ap (λ bs. old ++ bs) (ap (take (bytes_for w)) is ∙ le_bytes-take (bytes_for w) n (omega (arith, most)))
appended (Err e) old new bytes count w n is most room fits h =
    let own : take (bytes_for w) bytes ≡ number_bytes (bytes_for w) n =
    ap (take (bytes_for w)) is ∙ le_bytes-take (bytes_for w) n (omega (arith, most)) in
    absurd (false≢true (fits.1 (omega (arith, room, ap length own))))

-- a value of fixed layout whose bytes fit a row that has so many
pub record HasRoom (value : Names → Value) (count : ℕ) : Type 0 where
  pub names : Names
  pub fixed : IsFixed (value names)
  pub few : count + row_length (value names) ≤ 512

pub row-room : (value : StoredValue) (count : ℕ) → HasRow value count → HasRoom (λ names. value_of names value) count
row-room value count h = record { names = h.names; fixed = h.fixed; few = h.few }

-- a row has the bytes of a value itself, and of its first members
abbrev pub HasRows : (Names → Value) → (before now : List ℕ) → (count : ℕ) → Type 0
HasRows value before now count = (names : Names) → now ≡
    before ++ (label_row (label_of (value names)) ++ rows_upto (members_of (value names)) count)

-- the bytes of a number
digits-label : (label : Label) (width : ℕ) (signed : Bool) (number : ℤ) → width ≡ width_of label → 0 < width →
    number ≡ number_of label → label_row label ≡ digits_row (record { width = width; signed = signed }) number
digits-label (IntegerLabel z type) width signed number e p n =
    ap (λ w. number_bytes (bytes_for w) (modulo w z)) (sym e)
    ∙ ap (λ x. number_bytes (bytes_for width) (modulo width x)) (sym n)
digits-label (OffsetLabel z type unit) width signed number e p n =
    ap (λ w. number_bytes (bytes_for w) (modulo w z)) (sym e)
    ∙ ap (λ x. number_bytes (bytes_for width) (modulo width x)) (sym n)
digits-label (TextLabel bytes) width signed number e p n = absurd (omega (arith, e, p))
digits-label ArrayLabel width signed number e p n = absurd (omega (arith, e, p))
digits-label (StructLabel name fields) width signed number e p n = absurd (omega (arith, e, p))
digits-label (UnionLabel name index alternative) width signed number e p n = absurd (omega (arith, e, p))

no-number : (label : Label) → 0 ≡ width_of label → label_row label ≡ []
no-number (IntegerLabel z type) e = ap (λ w. number_bytes (bytes_for w) (modulo w z)) (sym e)
no-number (OffsetLabel z type unit) e = ap (λ w. number_bytes (bytes_for w) (modulo w z)) (sym e)
no-number (TextLabel bytes) e = refl
no-number ArrayLabel e = refl
no-number (StructLabel name fields) e = refl
no-number (UnionLabel name index alternative) e = refl

width-fixed : (label : Label) (start end : ℕ) (ms : Members) → 0 < width_of label → IsFixedLabel label start end ms →
    width_of label ≤ 64
width-fixed (IntegerLabel z type) start end ms p h = h.width.most
width-fixed (OffsetLabel z type unit) start end ms p h = h.0.width.most
width-fixed (TextLabel bytes) start end ms p h = absurd h
width-fixed ArrayLabel start end ms p h = absurd (omega (arith, p))
width-fixed (StructLabel name fields) start end ms p h = absurd (omega (arith, p))
width-fixed (UnionLabel name index alternative) start end ms p h = absurd h

fixed-width : (v : Value) → 0 < width_of (label_of v) → IsFixed v → width_of (label_of v) ≤ 64
fixed-width (Mapped label start end ms) p h = width-fixed label start end ms p h.0

alone-fixed : (label : Label) (start end : ℕ) (ms : Members) → 0 < width_of label → IsFixedLabel label start end ms →
    member_count ms ≡ 0
alone-fixed (IntegerLabel z type) start end ms p h = ap member_count h.none
alone-fixed (OffsetLabel z type unit) start end ms p h = ap member_count h.0.none
alone-fixed (TextLabel bytes) start end ms p h = absurd h
alone-fixed ArrayLabel start end ms p h = absurd (omega (arith, p))
alone-fixed (StructLabel name fields) start end ms p h = absurd (omega (arith, p))
alone-fixed (UnionLabel name index alternative) start end ms p h = absurd h

-- a number has no members
fixed-alone : (v : Value) → 0 < width_of (label_of v) → IsFixed v → member_count (members_of v) ≡ 0
fixed-alone (Mapped label start end ms) p h = alone-fixed label start end ms p h.0

pub row-parts : (v : Value) → row_of v ≡ label_row (label_of v) ++ rows_of (members_of v)
row-parts (Mapped label start end ms) = refl

pub length-parts : (v : Value) → row_length v ≡ label_length (label_of v) + rows_length (members_of v)
length-parts (Mapped label start end ms) = refl

pub fixed-parts : (v : Value) → IsFixed v → AreFixed (end_of v) (members_of v)
fixed-parts (Mapped label start end ms) h = h.1

-- a number's bytes have room
module _ (value : Names → Value) (width : ℕ) (signed : Bool) (number : ℤ) (p : 0 < width)
    (e : (names : Names) → width ≡ width_of (label_of (value names)))
    (n : (names : Names) → number ≡ number_of (label_of (value names))) where
  abbrev type : IntegerType
  type = record { width = width; signed = signed }

  pub own-width : (count : ℕ) → HasRoom value count → IsWidth (record { width = width; signed = signed })
  own-width count h = record {
    some = omega (arith, p);
    most = omega (
      arith,
      e h.names,
      fixed-width (value h.names) (omega (arith, p, e h.names)) h.fixed,
    );
  }

  pub own-room : (count : ℕ) → HasRoom value count →
      count + length (digits_row (record { width = width; signed = signed }) number) ≤ 512
  own-room count h =
      let v = value h.names in
      omega (
        arith,
        h.few,
        length-parts v,
        ap length (digits-label (label_of v) width signed number (e h.names) p (n h.names)),
        length-label (label_of v),
      )

  -- there are no other bytes
  pub number-alone : (count parts : ℕ) → HasRoom value count →
      ((names : Names) → parts ≡ member_count (members_of (value names))) →
      (names : Names) → 0 ≡ member_count (members_of (value names))
  number-alone count parts h is = λ names.
      let none = fixed-alone (value h.names) (omega (arith, p, e h.names)) h.fixed in
      omega (arith, is names, is h.names, none)

  -- the members begin after the value's own bytes
  pub rows-number : (before now : List ℕ) →
      now ≡ before ++ digits_row (record { width = width; signed = signed }) number →
      HasRows value before now 0
  rows-number before now is = λ names.
      let l = label_of (value names) in
      is ∙ ap (λ bs. before ++ bs) (sym (digits-label l width signed number (e names) p (n names))
      ∙ sym (append-nil (label_row l)))

pub rows-none : (value : Names → Value) (before : List ℕ) (width : ℕ) → (0 < width → ⊥) →
    ((names : Names) → width ≡ width_of (label_of (value names))) → HasRows value before before 0
rows-none value before width none e = λ names.
    let l = label_of (value names) in
    let zero_width : 0 ≡ width_of l = omega (arith, e names, none) in
    sym (ap (λ bs. before ++ (bs ++ [])) (no-number l zero_width) ∙ append-nil before)

-- one more member
pub rows-more : (value part : Names → Value) (before now next : List ℕ) (i : ℕ) → HasRows value before now i →
    ((names : Names) → Some (part names) ≡ member_at (members_of (value names)) i) →
    ((names : Names) → next ≡ now ++ row_of (part names)) → HasRows value before next (i + 1)
rows-more value part before now next i h e more = λ names.
    let v = value names in
    let own = label_row (label_of v) in
    let one : suc i ≡ i + 1 = omega arith in
    more names
    ∙ ap (λ bs. bs ++ row_of (part names)) (h names)
    ∙ append_assoc before (own ++ rows_upto (members_of v) i) (row_of (part names))
    ∙ ap (λ bs. before ++ bs) (append_assoc own (rows_upto (members_of v) i) (row_of (part names))
    ∙ ap (λ bs. own ++ bs) (sym (rows-next (members_of v) i (part names) (sym (e names)))
    ∙ ap (rows_upto (members_of v)) one))

pub rows-skipped : (value : Names → Value) (before now : List ℕ) (i : ℕ) → HasRows value before now i →
    ((names : Names) → None ≡ member_at (members_of (value names)) i) → HasRows value before now (i + 1)
rows-skipped value before now i h e = λ names.
    let v = value names in
    let one : suc i ≡ i + 1 = omega arith in
    h names ∙ ap (λ bs. before ++ (label_row (label_of v) ++ bs))
    (sym (rows-absent (members_of v) i (sym (e names))) ∙ ap (rows_upto (members_of v)) one)

-- a member's bytes have room
pub member-room : (value part : Names → Value) (before now : List ℕ) (i : ℕ) → HasRoom value (length before) →
    HasRows value before now i →
    ((names : Names) → Some (part names) ≡ member_at (members_of (value names)) i) →
    HasRoom part (length now)
member-room value part before now i h rows e =
    let v = value h.names in
    let own = label_row (label_of v) in
    let w = part h.names in
    let there = sym (e h.names) in
    record {
      names = h.names;
      fixed = (fixed-at (end_of v) (members_of v) i w (fixed-parts v h.fixed) there).1;
      few = omega (
        arith,
        h.few,
        length-parts v,
        ap length (rows h.names),
        length-append before (own ++ rows_upto (members_of v) i),
        length-append own (rows_upto (members_of v) i),
        length-label (label_of v),
        length-rows_upto (members_of v) i,
        length-within (members_of v) i w there,
      );
    }

-- all members
pub rows-whole : (value : Names → Value) (before now : List ℕ) (count : ℕ) → HasRows value before now count →
    ((names : Names) → count ≡ member_count (members_of (value names))) →
    (names : Names) → now ≡ before ++ row_of (value names)
rows-whole value before now count h all = λ names.
    let v = value names in
    h names
    ∙ ap (λ bs. before ++ (label_row (label_of v) ++ bs))
    (ap (rows_upto (members_of v)) (all names) ∙ rows-all (members_of v))
    ∙ ap (λ bs. before ++ bs) (sym (row-parts v))
