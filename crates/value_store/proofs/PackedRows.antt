-- Open arrays of packed numbers.
use Rattle.std.proofs.Common.{◌≡◌, ℕ, ◌+◌, ◌*◌, ◌%◌, ◌^◌, ◌<◌, ◌≤◌, pow_mono, true, false, List, [], ◌∷◌, ◌++◌, Some, Result, Ok, Err, OnOk, OnErr, length, take, sym, ◌∙◌, ap, subst, arith}
use Rattle.std.specs.Prelude.{All}
use Rattle.std.specs.Int.{to_le_bytes, w64}
use Rattle.std.proofs.Math.Nat.{mul-zero, mul-le-mul_left}
use Rattle.std.proofs.lemmas.List.{append-nil, length-append, length_push}
use Rattle.std.proofs.lemmas.List.Elements.{All-push}
use Rattle.value_store.specs.declared.store.room.Room.{Room}
use Rattle.value_store.specs.declared.store.slots.Shape.{Shape}
use Rattle.value_store.specs.declared.store.slots.Shape.TheVariants.{Integer, Offset, Text, Integers, Offsets, Records, Array, Struct, Union}
use Rattle.value_store.specs.Packed.{bytes_for, number_bytes, packed}
use Rattle.pickle_meaning.specs.Room.{PendingSlot, slots}
use Rattle.pickle_meaning.specs.Values.{Mapped, ArrayLabel, NoMembers, Levels, top_of, outer_of, pushed}
use Rattle.value_store.specs.Closed.{closed, placed}
use Rattle.value_store.specs.Filling.{Packs, CannotPack, SettlesRow, CannotCloseRow}
use Rattle.value_store.specs.Exceeding.{Exceeds}
use Rattle.value_store.specs.Keeping.{IsPlaced, CannotClose}
use Rattle.value_store.specs.Levels.{extended}
use Rattle.value_store.specs.Names.{Names}
use Rattle.value_store.specs.Slots.{Held, packs, levels, AreLevels, IsPacked, element_width, elements, row_value, AreNumbers, AreNumberBytes, with_bytes, with_more, AreBytes, bytes_value, AreSome, MayKeep, HasNoNode, IsFilling, IsPacking, GoesOn, Regrown}
use Rattle.value_store.proofs.Taken.{pushed-extended, slots-taken, level_pending}
use Rattle.value_store.proofs.Lent.{length-elements}
use Rattle.value_store.proofs.Fits.{packs_no_more}
use Rattle.value_store.proofs.Packed.{length-packed, length-number_bytes, le_bytes-take, packed-push, numbers_in-packed, packed-none, bytes_for-some, bytes_for-most}
use Rattle.value_store.proofs.Writing.{some-bytes, filling-levels, filling-empty, filling-outer, fresh-empty, empty-fresh, stale-some, fresh-filling, stale-filling, stale-goes_on, opened-filling}

-- the bytes of an array of packed numbers
abbrev pub row_bytes : Shape → List ℕ → List ℕ
row_bytes shape numbers = packed (bytes_for (element_width shape)) numbers

are-numbers : (width : ℕ) (numbers : List ℕ) (start : ℕ) → 1 ≤ width → width ≤ 64 → All (λ n. n < 2 ^ width) numbers →
    start + width * length numbers < 2 ^ 64 →
    AreNumberBytes width (packed (bytes_for width) numbers) start
are-numbers width numbers start some most below short =
    let e = numbers_in-packed width numbers some below in (
      subst (λ ns. AreNumbers width ns start) (sym e)
          (record { some = some; most = most; short = short; below = below }),
      ap (λ (ns : List ℕ). bytes_for width * length ns) e ∙ sym (length-packed (bytes_for width) numbers),
    )

pub row-are : (shape : Shape) (numbers : List ℕ) (start : ℕ) → IsPacked shape →
    All (λ n. n < 2 ^ element_width shape) numbers →
    start + element_width shape * length numbers < 2 ^ 64 → AreBytes shape (row_bytes shape numbers) start
row-are (Integer w g) numbers start p below short = absurd p
row-are (Offset w g u) numbers start p below short = absurd p
row-are Text numbers start p below short = absurd p
row-are (Integers w g) numbers start p below short = are-numbers w numbers start p.0 p.1 below short
row-are (Offsets w g u) numbers start p below short = (are-numbers w numbers start p.0 p.1 below short, p.2)
row-are (Records stride size) numbers start p below short = absurd p
row-are Array numbers start p below short = absurd p
row-are (Struct t) numbers start p below short = absurd p
row-are (Union i t) numbers start p below short = absurd p

pub row-is : (shape : Shape) (numbers : List ℕ) (start : ℕ) → IsPacked shape →
    All (λ n. n < 2 ^ element_width shape) numbers →
    bytes_value shape (row_bytes shape numbers) start ≡ row_value shape numbers start
row-is (Integer w g) numbers start p below = absurd p
row-is (Offset w g u) numbers start p below = absurd p
row-is Text numbers start p below = absurd p
row-is (Integers w g) numbers start p below =
    ap (λ ns. row_value (Integers w g) ns start) (numbers_in-packed w numbers p.0 below)
row-is (Offsets w g u) numbers start p below =
    ap (λ ns. row_value (Offsets w g u) ns start) (numbers_in-packed w numbers p.0 below)
row-is (Records stride size) numbers start p below = absurd p
row-is Array numbers start p below = absurd p
row-is (Struct t) numbers start p below = absurd p
row-is (Union i t) numbers start p below = absurd p

pub row-may : (room : Room) (shape : Shape) → packs room ≡ true → MayKeep room shape
row-may room (Integer w g) e = tt
row-may room (Offset w g u) e = tt
row-may room Text e = tt
row-may room (Integers w g) e = e
row-may room (Offsets w g u) e = e
row-may room (Records stride size) e = e
row-may room Array e = tt
row-may room (Struct t) e = tt
row-may room (Union i t) e = tt

pub row-width : (shape : Shape) → IsPacked shape → (1 ≤ element_width shape) × (element_width shape ≤ 64)
row-width (Integer w g) p = absurd p
row-width (Offset w g u) p = absurd p
row-width Text p = absurd p
row-width (Integers w g) p = p
row-width (Offsets w g u) p = (p.0, p.1)
row-width (Records stride size) p = absurd p
row-width Array p = absurd p
row-width (Struct t) p = absurd p
row-width (Union i t) p = absurd p

-- an array that is opened
pub row-opened : (names : Names) (n : Held) (shape : Shape) (start : ℕ) (outer : Levels) → IsPacked shape →
    packs n.room ≡ true → start < 2 ^ 64 → HasNoNode n →
    AreLevels n.room n.frames n.slots → levels names n ≡ [] ∷ outer → IsPacking names n shape [] start outer
row-opened names n shape start outer p e short fresh all is =
    let below : All (λ n. n < 2 ^ element_width shape) [] = λ k d h. absurd (omega arith) in
    let are : AreBytes shape [] start =
    row-are shape [] start p below (omega (arith, mul-zero (element_width shape))) in
    record {
      filling = opened-filling names n shape start outer are (row-may n.room shape e) fresh all is;
      below = below;
    }

-- it is inside the outer frames
pub packing-outer : (names : Names) (h : Held) (shape : Shape) (numbers : List ℕ) (start : ℕ) (outer : Levels) →
    IsPacking names h shape numbers start outer → outer_of (levels names h) ≡ outer
packing-outer names h shape numbers start outer w =
    filling-outer names h shape (row_bytes shape numbers) start outer w.filling

pub packing-empty : (names : Names) (h : Held) (shape : Shape) (start : ℕ) (outer : Levels) →
    IsPacking names h shape [] start outer → levels names h ≡ [] ∷ outer
packing-empty names h shape start outer w = filling-empty names h shape start outer w.filling

-- it has a node exactly where it has numbers
pub packing-fresh : (names : Names) (h : Held) (shape : Shape) (numbers : List ℕ) (start : ℕ) (outer : Levels) →
    IsPacking names h shape numbers start outer → HasNoNode h → IsPacked shape → numbers ≡ []
packing-fresh names h shape numbers start outer w e p = packed-none (element_width shape) numbers (row-width shape p).0
    (fresh-empty names h shape (row_bytes shape numbers) start outer w.filling e)

pub packing-stale : (names : Names) (h : Held) (shape : Shape) (numbers : List ℕ) (start : ℕ) (outer : Levels) →
    IsPacking names h shape numbers start outer → numbers ≡ [] → HasNoNode h
packing-stale names h shape numbers start outer w e =
    empty-fresh names h shape start outer
    (subst (λ ns. IsFilling names h shape (row_bytes shape ns) start outer) e w.filling)

-- one more number
module _ (names : Names) (h : Held) (shape : Shape) (digits : ℕ) (numbers : List ℕ) (start : ℕ) (outer : Levels)
    (w : IsPacking names h shape numbers start outer) (p : IsPacked shape)
    (small : digits < 2 ^ element_width shape)
    (short : start + element_width shape * (length numbers + 1) < 2 ^ 64) where
  more-below : All (λ n. n < 2 ^ element_width shape) (numbers ++ digits ∷ [])
  more-below = All-push (λ n. n < 2 ^ element_width shape) numbers digits w.below small

  more-are : AreBytes shape (row_bytes shape numbers ++ number_bytes (bytes_for (element_width shape)) digits) start
  more-are =
      let count : start + element_width shape * length (numbers ++ digits ∷ []) < 2 ^ 64 =
      subst (λ n. start + element_width shape * n < 2 ^ 64) (sym (length_push numbers digits)) short in
      subst (λ bs. AreBytes shape bs start) (packed-push (bytes_for (element_width shape)) digits numbers)
      (row-are shape (numbers ++ digits ∷ []) start p more-below count)

  pub more-packing : (n : Held) →
      IsFilling names n shape (row_bytes shape numbers ++ number_bytes (bytes_for (element_width shape)) digits) start
      outer → IsPacking names n shape (numbers ++ digits ∷ []) start outer
  more-packing n f = record {
    filling = subst (λ bs. IsFilling names n shape bs start outer)
        (sym (packed-push (bytes_for (element_width shape)) digits numbers)) f;
    below = more-below;
  }

  pub stale-row : (HasNoNode h → ⊥) → GoesOn h shape (number_bytes (bytes_for (element_width shape)) digits)
  stale-row n = stale-goes_on names h shape (number_bytes (bytes_for (element_width shape)) digits)
      (row_bytes shape numbers) start outer w.filling n more-are

pub one-are : (shape : Shape) (digits numbers_count start : ℕ) → IsPacked shape → digits < 2 ^ element_width shape →
    start + element_width shape * (numbers_count + 1) < 2 ^ 64 →
    AreBytes shape (number_bytes (bytes_for (element_width shape)) digits) start
one-are shape digits count start p small short =
    let own = number_bytes (bytes_for (element_width shape)) digits in
    let below : All (λ n. n < 2 ^ element_width shape) (digits ∷ []) =
    All-push (λ n. n < 2 ^ element_width shape) [] digits (λ k d h. absurd (omega arith)) small in
    let one : start + element_width shape * 1 < 2 ^ 64 =
    omega (arith, mul-le-mul_left (element_width shape) (let o : 1 ≤ count + 1 = omega arith in o)) in
    subst (λ bs. AreBytes shape bs start) (append-nil own) (row-are shape (digits ∷ []) start p below one)

pub one-some : (shape : Shape) (digits : ℕ) → IsPacked shape →
    AreSome shape (number_bytes (bytes_for (element_width shape)) digits)
one-some shape digits p =
    let k = bytes_for (element_width shape) in
    some-bytes shape (number_bytes k digits)
    (omega (arith, length-number_bytes k digits, bytes_for-some (element_width shape) (row-width shape p).0))

-- the lowest bytes of the digits
pub own-bytes : (shape : Shape) (width digits count : ℕ) (bytes : List ℕ) → IsPacked shape →
    width ≡ element_width shape → count ≡ bytes_for width → bytes ≡ to_le_bytes w64 digits →
    take count bytes ≡ number_bytes (bytes_for (element_width shape)) digits
own-bytes shape width digits count bytes p same counts is =
    let counted : count ≡ bytes_for (element_width shape) = counts ∙ ap (λ w. bytes_for w) same in
    rw (counted, is) (le_bytes-take (bytes_for (element_width shape)) digits
    (bytes_for-most (element_width shape) (row-width shape p).1))

-- the only byte of a number of at most 8 bits
pub own-byte : (shape : Shape) (width digits : ℕ) → IsPacked shape → width ≡ element_width shape → width ≤ 8 →
    digits < 2 ^ width →
    digits ∷ [] ≡ number_bytes (bytes_for (element_width shape)) digits
own-byte shape width digits p same most small =
    let one : 1 ≡ bytes_for (element_width shape) = omega (arith, same, most, (row-width shape p).0) in
    let wide : 2 ^ width ≤ 2 ^ 8 = pow_mono {j = 8} most in
    let own : digits ≡ digits % 256 = omega (arith, small, wide) in
    ap (λ b. b ∷ []) own ∙ ap (λ k. number_bytes k digits) one

on_ok : {T E A B : Type 0} (r : Result T E) → (A → B) → OnOk r A → OnOk r B
on_ok (Ok x) f a = f a
on_ok (Err x) f a = tt

-- the clauses of the calls
module _ (h n : Held) (shape : Shape) (width digits start : ℕ) (own : List ℕ) (p : IsPacked shape)
    (same : width ≡ element_width shape)
    (small : digits < 2 ^ width) (is : own ≡ number_bytes (bytes_for (element_width shape)) digits) where
  fresh-takes : HasNoNode h → Regrown (record h { slots = with_bytes shape own start h.slots }) n →
      Packs h n shape digits start
  fresh-takes fresh e = λ names numbers outer w short.
      let small : digits < 2 ^ element_width shape = subst (λ m. digits < 2 ^ m) same small in
      let bytes = number_bytes (bytes_for (element_width shape)) digits in
      let some : 0 < length bytes = omega (
        arith,
        length-number_bytes (bytes_for (element_width shape)) digits,
        bytes_for-some (element_width shape) (row-width shape p).0,
      ) in
      let e : Regrown (record h { slots = with_bytes shape bytes start h.slots }) n =
      subst (λ bs. Regrown (record h { slots = with_bytes shape bs start h.slots }) n) is e in
      let are = one-are shape digits (length numbers) start p small short in
      more-packing names h shape digits numbers start outer w p small short n
      (subst (λ u. IsFilling names u shape (row_bytes shape numbers ++ bytes) start outer) (sym e)
      (fresh-filling names h shape bytes (row_bytes shape numbers) start outer w.filling _ fresh some are))

  stale-takes : (HasNoNode h → ⊥) → Regrown (record h { slots = with_more own h.slots }) n →
      Packs h n shape digits start
  stale-takes stale e = λ names numbers outer w short.
      let small : digits < 2 ^ element_width shape = subst (λ m. digits < 2 ^ m) same small in
      let bytes = number_bytes (bytes_for (element_width shape)) digits in
      let e : Regrown (record h { slots = with_more bytes h.slots }) n =
      subst (λ bs. Regrown (record h { slots = with_more bs h.slots }) n) is e in
      let are = more-are names h shape digits numbers start outer w p small short in
      more-packing names h shape digits numbers start outer w p small short n
      (subst (λ u. IsFilling names u shape (row_bytes shape numbers ++ bytes) start outer) (sym e)
      (stale-filling names h shape bytes (row_bytes shape numbers) start outer w.filling _ stale are))

  pub fresh-packs : {T E : Type 0} (r : Result T E) → HasNoNode h →
      OnOk r (Regrown (record h { slots = with_bytes shape own start h.slots }) n) →
      OnOk r (Packs h n shape digits start)
  fresh-packs r fresh e = on_ok r (fresh-takes fresh) e

  pub stale-packs : {T E : Type 0} (r : Result T E) → (HasNoNode h → ⊥) →
      OnOk r (Regrown (record h { slots = with_more own h.slots }) n) → OnOk r (Packs h n shape digits start)
  stale-packs r stale e = on_ok r (stale-takes stale) e

-- what is packed, and what doesn't fit
pub row-packs : (room : Room) (shape : Shape) → IsPacked shape → MayKeep room shape → packs room ≡ true
row-packs room (Integer w g) p may = absurd p
row-packs room (Offset w g u) p may = absurd p
row-packs room Text p may = absurd p
row-packs room (Integers w g) p may = may
row-packs room (Offsets w g u) p may = may
row-packs room (Records stride size) p may = absurd p
row-packs room Array p may = absurd p
row-packs room (Struct t) p may = absurd p
row-packs room (Union i t) p may = absurd p

row-levels : (names : Names) (h : Held) (shape : Shape) (numbers : List ℕ) (start : ℕ) (outer : Levels) →
    IsPacking names h shape numbers start outer → IsPacked shape → 0 < length (row_bytes shape numbers) →
    levels names h ≡ (Some (row_value shape numbers start) ∷ []) ∷ outer
row-levels names h shape numbers start outer w p some =
    filling-levels names h shape (row_bytes shape numbers) start outer w.filling some
    ∙ ap (λ v. (Some v ∷ []) ∷ outer) (row-is shape numbers start p w.below)

bytes-pushed : (shape : Shape) (numbers : List ℕ) (n : ℕ) → IsPacked shape →
    0 < length (row_bytes shape (numbers ++ n ∷ []))
bytes-pushed shape numbers n p =
    let k = bytes_for (element_width shape) in
    omega (
      arith,
      ap length (packed-push k n numbers),
      length-append (packed k numbers) (number_bytes k n),
      length-number_bytes k n,
      bytes_for-some (element_width shape) (row-width shape p).0,
    )

numbers-some : (shape : Shape) (numbers : List ℕ) → 0 < length (row_bytes shape numbers) → 0 < length numbers
numbers-some shape [] some = absurd (omega (arith, some))
numbers-some shape (n ∷ ns) some = omega arith

-- an array with one more number doesn't fit: no slots were requested in advance
pub packed-exceeds : (names : Names) (h : Held) (shape : Shape) (numbers : List ℕ) (digits start : ℕ) (outer : Levels) →
    IsPacked shape → IsPacking names h shape numbers start outer →
    Exceeds h.room (elements shape start (numbers ++ digits ∷ []) ∷ outer)
packed-exceeds names h shape numbers digits start outer p w =
    let ls = elements shape start (numbers ++ digits ∷ []) ∷ outer in
    let some : 1 ≤ slots PendingSlot ls =
    omega (
      arith,
      slots-taken PendingSlot ls,
      level_pending false (elements shape start (numbers ++ digits ∷ [])),
      length-elements shape start (numbers ++ digits ∷ []),
      length_push numbers digits,
    ) in
    packs_no_more h.room ls some (row-packs h.room shape p w.filling.may)

pub cannot-pack : {T E : Type 0} (A : Type 0) (r : Result T E) (h : Held) (shape : Shape) (digits start : ℕ) →
    IsPacked shape → OnErr r A → OnErr r (CannotPack h shape digits start)
cannot-pack A (Ok x) h shape digits start p e = tt
cannot-pack A (Err x) h shape digits start p e =
    λ names numbers outer w. packed-exceeds names h shape numbers digits start outer p w

-- the closed array

-- an array of no numbers is an array without members
no-numbers : (names : Names) (h : Held) (shape : Shape) (numbers : List ℕ) (start : ℕ) (outer : Levels) →
    IsPacking names h shape numbers start outer → IsPacked shape → HasNoNode h →
    (levels names h ≡ [] ∷ outer) × (Mapped ArrayLabel start (start + 0) NoMembers ≡ row_value shape numbers start)
no-numbers names h shape numbers start outer w p fresh =
    let none = packing-fresh names h shape numbers start outer w fresh p in
    let w' : IsPacking names h shape [] start outer = subst (λ ns. IsPacking names h shape ns start outer) none w in (
      packing-empty names h shape start outer w',
      ap (λ m. Mapped ArrayLabel start (start + m) NoMembers) (sym (mul-zero (element_width shape)))
          ∙ ap (λ ns. row_value shape ns start) (sym none),
    )

pub settled-row : {T E : Type 0} (r : Result T E) (h n : Held) (shape : Shape) (start : ℕ) →
    IsPacked shape → HasNoNode h →
    OnOk r (IsPlaced h n (λ names. ArrayLabel) start (start + 0)) → OnOk r (SettlesRow h n shape start)
settled-row r h n shape start p fresh = on_ok r (λ e names numbers outer w.
    let is = no-numbers names h shape numbers start outer w p fresh in
    e names ∙ ap (placed ArrayLabel start (start + 0)) is.0 ∙ ap (λ v. (Some v ∷ []) ∷ outer) is.1)

pub settled-cannot : {T E : Type 0} (r : Result T E) (h : Held) (shape : Shape) (start : ℕ) →
    IsPacked shape → HasNoNode h →
    OnErr r (CannotClose h (λ names. ArrayLabel) start (start + 0)) → OnErr r (CannotCloseRow h shape start)
settled-cannot (Ok x) h shape start p fresh e = tt
settled-cannot (Err x) h shape start p fresh e = λ names numbers outer w.
    let is = no-numbers names h shape numbers start outer w p fresh in
    subst (Exceeds h.room)
    (ap (closed ArrayLabel start (start + 0)) is.0 ∙ ap (λ v. pushed outer (Some v)) is.1) (e names)

pub stale-row_levels : (names : Names) (h : Held) (shape : Shape) (numbers : List ℕ) (start : ℕ) (outer : Levels) →
    IsPacking names h shape numbers start outer → IsPacked shape → (HasNoNode h → ⊥) →
    levels names h ≡ (Some (row_value shape numbers start) ∷ []) ∷ outer
stale-row_levels names h shape numbers start outer w p stale =
    row-levels names h shape numbers start outer w p
    (stale-some names h shape (row_bytes shape numbers) start outer w.filling stale)

-- the frames of an array that is lifted
pub lifted-row : (shape : Shape) (numbers : List ℕ) (start : ℕ) (outer ls : Levels) →
    ls ≡ (Some (row_value shape numbers start) ∷ []) ∷ outer →
    extended (outer_of ls) (top_of ls) ≡ pushed outer (Some (row_value shape numbers start))
lifted-row shape numbers start outer ls e =
    ap (λ l. extended (outer_of l) (top_of l)) e ∙ pushed-extended outer (Some (row_value shape numbers start))
