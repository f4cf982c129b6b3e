-- Values of fixed layout are those of their templates and bytes.
use Rattle.std.proofs.Common.{◌≡◌, ℕ, zero, suc, ◌+◌, ◌^◌, ◌<◌, ◌≤◌, ℤ, pos, negsuc, List, [], ◌∷◌, ◌++◌, Some, None, length, take, drop, refl, sym, ◌∙◌, ap, subst, arith}
use Rattle.std.proofs.lemmas.Nat.{pow_pos, mod_below}
use Rattle.std.proofs.lemmas.List.{append-nil, append_assoc, length-append, take_at, drop_at}
use Rattle.pickle_types.specs.declared.integer.IntegerType.{IntegerType}
use Rattle.pickle_meaning.specs.Arithmetic.{modulo, with_sign, converted}
use Rattle.pickle_meaning.specs.Values.{Label, IntegerLabel, OffsetLabel, TextLabel, ArrayLabel, StructLabel, UnionLabel, Value, Mapped, Members, NoMembers, MemberThen, AbsentThen, end_of, member_at, member_count, gathered}
use Rattle.value_store.specs.Layouts.{rows_upto, length_upto, templates_upto, FitsBits, FitsLabel, FitsRow, FitsRows, digits_row, label_row, label_length, label_place, row_of, rows_of, row_length, rows_length, template_of, templates_of, IsFixedLabel, IsFixed, AreFixed}
use Rattle.value_store.specs.Packed.{bytes_for, number_bytes, bytes_number}
use Rattle.value_store.specs.Records.{number_read, label_read, instance, instances}
use Rattle.value_store.proofs.Packed.{length-number_bytes, bytes_number-bytes, bits-below, bytes_for-enough}

pub length-label : (label : Label) → length (label_row label) ≡ label_length label
length-label (IntegerLabel number type) = length-number_bytes (bytes_for type.width) (modulo type.width number)
length-label (OffsetLabel magnitude type unit) =
    length-number_bytes (bytes_for type.width) (modulo type.width magnitude)
length-label (TextLabel bytes) = refl
length-label ArrayLabel = refl
length-label (StructLabel name fields) = refl
length-label (UnionLabel name index alternative) = refl

mutual
  -- a value has as many bytes as its layout says
  pub length-row : (v : Value) → length (row_of v) ≡ row_length v
  length-row (Mapped label start end members) =
      length-append (label_row label) (rows_of members)
      ∙ ap (λ n. n + length (rows_of members)) (length-label label)
      ∙ ap (λ n. label_length label + n) (length-rows members)

  pub length-rows : (ms : Members) → length (rows_of ms) ≡ rows_length ms
  length-rows NoMembers = refl
  length-rows (MemberThen v rest) =
      length-append (row_of v) (rows_of rest)
      ∙ ap (λ n. n + length (rows_of rest)) (length-row v)
      ∙ ap (λ n. row_length v + n) (length-rows rest)
  length-rows (AbsentThen rest) = length-rows rest

-- binary digits are fewer than the width says
pub modulo-below : (width : ℕ) (z : ℤ) → modulo width z < 2 ^ width
unfolding modulo
modulo-below width (pos n) = mod_below n (2 ^ width) (pow_pos width)
modulo-below width (negsuc n) = let some = pow_pos width in omega (arith, some)

-- the bytes at a place of others
pub bytes-at : (pre own post : List ℕ) → take (length own) (drop (length pre) (pre ++ (own ++ post))) ≡ own
bytes-at pre own post =
    ap (take (length own)) (drop_at pre (own ++ post) (length pre) refl)
    ∙ take_at own post (length own) refl

-- a number is read from its bytes
read-back : (type : IntegerType) (z : ℤ) (pre post : List ℕ) → converted type z ≡ z →
    number_read type (pos (length pre)) (pre ++ (digits_row type z ++ post)) ≡ z
unfolding converted
read-back type z pre post range =
    let k = bytes_for type.width in
    let d = modulo type.width z in
    let here : take k (drop (length pre) (pre ++ (number_bytes k d ++ post))) ≡ number_bytes k d =
    ap (λ n. take n (drop (length pre) (pre ++ (number_bytes k d ++ post)))) (sym (length-number_bytes k d))
    ∙ bytes-at pre (number_bytes k d) post in
    ap (λ bs. with_sign type (bytes_number bs)) here
    ∙ ap (with_sign type)
    (bytes_number-bytes k d (bits-below type.width k d (bytes_for-enough type.width) (modulo-below type.width z)))
    ∙ range

read-label : (label : Label) (start end : ℕ) (ms : Members) (pre post : List ℕ) → IsFixedLabel label start end ms →
    label_read (label_place label (length pre)) (pre ++ (label_row label ++ post)) ≡ label
read-label (IntegerLabel z type) start end ms pre post h =
    ap (λ n. IntegerLabel n type) (read-back type z pre post h.range)
read-label (OffsetLabel z type unit) start end ms pre post h =
    ap (λ n. OffsetLabel n type unit) (read-back type z pre post h.0.range)
read-label (TextLabel bytes) start end ms pre post h = absurd h
read-label ArrayLabel start end ms pre post h = refl
read-label (StructLabel name fields) start end ms pre post h = refl
read-label (UnionLabel name index alternative) start end ms pre post h = absurd h

mutual
  -- a value is the instance of its template, at its place among other bytes
  pub instance-at_place : (v : Value) (pre post : List ℕ) → IsFixed v →
      instance (template_of v (length pre)) 0 (pre ++ (row_of v ++ post)) ≡ v
  instance-at_place (Mapped label start end ms) pre post h =
      let row = pre ++ ((label_row label ++ rows_of ms) ++ post) in
      let own : row ≡ pre ++ (label_row label ++ (rows_of ms ++ post)) =
      ap (λ bs. pre ++ bs) (append_assoc (label_row label) (rows_of ms) post) in
      let first : label_read (label_place label (length pre)) row ≡ label =
      ap (label_read (label_place label (length pre))) own
      ∙ read-label label start end ms pre (rows_of ms ++ post) h.0 in
      let after : row ≡ (pre ++ label_row label) ++ (rows_of ms ++ post) =
      own ∙ sym (append_assoc pre (label_row label) (rows_of ms ++ post)) in
      let place : length pre + label_length label ≡ length (pre ++ label_row label) =
      omega (arith, length-append pre (label_row label), length-label label) in
      let rest : instances (templates_of ms (length pre + label_length label)) 0 row ≡ ms =
      ap (λ n. instances (templates_of ms n) 0 row) place
      ∙ ap (instances (templates_of ms (length (pre ++ label_row label))) 0) after
      ∙ instances-at_place end ms (pre ++ label_row label) post h.1 in
      let s : start + 0 ≡ start = omega arith in
      let e : end + 0 ≡ end = omega arith in
      cc

  pub instances-at_place : (end : ℕ) (ms : Members) (pre post : List ℕ) → AreFixed end ms →
      instances (templates_of ms (length pre)) 0 (pre ++ (rows_of ms ++ post)) ≡ ms
  instances-at_place end NoMembers pre post h = refl
  instances-at_place end (MemberThen v rest) pre post h =
      let row = pre ++ ((row_of v ++ rows_of rest) ++ post) in
      let own : row ≡ pre ++ (row_of v ++ (rows_of rest ++ post)) =
      ap (λ bs. pre ++ bs) (append_assoc (row_of v) (rows_of rest) post) in
      let first : instance (template_of v (length pre)) 0 row ≡ v =
      ap (instance (template_of v (length pre)) 0) own
      ∙ instance-at_place v pre (rows_of rest ++ post) h.1.0 in
      let after : row ≡ (pre ++ row_of v) ++ (rows_of rest ++ post) =
      own ∙ sym (append_assoc pre (row_of v) (rows_of rest ++ post)) in
      let place : length pre + row_length v ≡ length (pre ++ row_of v) =
      omega (arith, length-append pre (row_of v), length-row v) in
      let others : instances (templates_of rest (length pre + row_length v)) 0 row ≡ rest =
      ap (λ n. instances (templates_of rest n) 0 row) place
      ∙ ap (instances (templates_of rest (length (pre ++ row_of v))) 0) after
      ∙ instances-at_place end rest (pre ++ row_of v) post h.1.1 in
      cc
  instances-at_place end (AbsentThen rest) pre post h = absurd h

-- a value of fixed layout is that of its template and its bytes
pub instance-of_template : (v : Value) → IsFixed v → instance (template_of v 0) 0 (row_of v) ≡ v
instance-of_template v h =
    ap (instance (template_of v 0) 0) (sym (append-nil (row_of v))) ∙ instance-at_place v [] [] h

-- a row has the numbers of its own value
fits-bits : (width d : ℕ) (pre post : List ℕ) → d < 2 ^ width →
    FitsBits width (length pre) (pre ++ (number_bytes (bytes_for width) d ++ post))
fits-bits width d pre post below =
    let k = bytes_for width in
    let here : take k (drop (length pre) (pre ++ (number_bytes k d ++ post))) ≡ number_bytes k d =
    ap (λ n. take n (drop (length pre) (pre ++ (number_bytes k d ++ post)))) (sym (length-number_bytes k d))
    ∙ bytes-at pre (number_bytes k d) post in
    let is = ap bytes_number here ∙ bytes_number-bytes k d (bits-below width k d (bytes_for-enough width) below) in
    subst (λ n. n < 2 ^ width) (sym is) below

fits-label : (label : Label) (pre post : List ℕ) → FitsLabel label (length pre) (pre ++ (label_row label ++ post))
fits-label (IntegerLabel z type) pre post =
    fits-bits type.width (modulo type.width z) pre post (modulo-below type.width z)
fits-label (OffsetLabel z type unit) pre post =
    fits-bits type.width (modulo type.width z) pre post (modulo-below type.width z)
fits-label (TextLabel bytes) pre post = tt
fits-label ArrayLabel pre post = tt
fits-label (StructLabel name fields) pre post = tt
fits-label (UnionLabel name index alternative) pre post = tt

mutual
  fits-at_place : (v : Value) (pre post : List ℕ) → FitsRow v (length pre) (pre ++ (row_of v ++ post))
  fits-at_place (Mapped label start end ms) pre post =
      let row = pre ++ ((label_row label ++ rows_of ms) ++ post) in
      let own : row ≡ pre ++ (label_row label ++ (rows_of ms ++ post)) =
      ap (λ bs. pre ++ bs) (append_assoc (label_row label) (rows_of ms) post) in
      let after : row ≡ (pre ++ label_row label) ++ (rows_of ms ++ post) =
      own ∙ sym (append_assoc pre (label_row label) (rows_of ms ++ post)) in
      let place : length (pre ++ label_row label) ≡ length pre + label_length label =
      omega (arith, length-append pre (label_row label), length-label label) in (
        subst (FitsLabel label (length pre)) (sym own) (fits-label label pre (rows_of ms ++ post)),
        subst (λ n. FitsRows ms n row) place
            (subst (FitsRows ms (length (pre ++ label_row label))) (sym after)
            (fits-at_places ms (pre ++ label_row label) post)),
      )

  fits-at_places : (ms : Members) (pre post : List ℕ) → FitsRows ms (length pre) (pre ++ (rows_of ms ++ post))
  fits-at_places NoMembers pre post = tt
  fits-at_places (MemberThen v rest) pre post =
      let row = pre ++ ((row_of v ++ rows_of rest) ++ post) in
      let own : row ≡ pre ++ (row_of v ++ (rows_of rest ++ post)) =
      ap (λ bs. pre ++ bs) (append_assoc (row_of v) (rows_of rest) post) in
      let after : row ≡ (pre ++ row_of v) ++ (rows_of rest ++ post) =
      own ∙ sym (append_assoc pre (row_of v) (rows_of rest ++ post)) in
      let place : length (pre ++ row_of v) ≡ length pre + row_length v =
      omega (arith, length-append pre (row_of v), length-row v) in (
        subst (FitsRow v (length pre)) (sym own) (fits-at_place v pre (rows_of rest ++ post)),
        subst (λ n. FitsRows rest n row) place
            (subst (FitsRows rest (length (pre ++ row_of v))) (sym after)
            (fits-at_places rest (pre ++ row_of v) post)),
      )
  fits-at_places (AbsentThen rest) pre post = fits-at_places rest pre post

pub fits-own : (v : Value) → FitsRow v 0 (row_of v)
fits-own v = subst (FitsRow v 0) (append-nil (row_of v)) (fits-at_place v [] [])

-- an instance has the layout of the value that its template is of
same-length : (label : Label) (a : ℕ) (r : List ℕ) →
    label_length (label_read (label_place label a) r) ≡ label_length label
same-length (IntegerLabel z type) a r = refl
same-length (OffsetLabel z type unit) a r = refl
same-length (TextLabel bytes) a r = refl
same-length ArrayLabel a r = refl
same-length (StructLabel name fields) a r = refl
same-length (UnionLabel name index alternative) a r = refl

same-label : (label : Label) (a at : ℕ) (r row : List ℕ) → FitsLabel (label_read (label_place label a) r) at row →
    FitsLabel label at row
same-label (IntegerLabel z type) a at r row h = h
same-label (OffsetLabel z type unit) a at r row h = h
same-label (TextLabel bytes) a at r row h = h
same-label ArrayLabel a at r row h = h
same-label (StructLabel name fields) a at r row h = h
same-label (UnionLabel name index alternative) a at r row h = h

mutual
  pub instance-length : (v : Value) (a shift : ℕ) (r : List ℕ) →
      row_length (instance (template_of v a) shift r) ≡ row_length v
  instance-length (Mapped label start end ms) a shift r =
      ap (λ n. n + rows_length (instances (templates_of ms (a + label_length label)) shift r)) (same-length label a r)
      ∙ ap (λ n. label_length label + n) (instances-length ms (a + label_length label) shift r)

  instances-length : (ms : Members) (a shift : ℕ) (r : List ℕ) →
      rows_length (instances (templates_of ms a) shift r) ≡ rows_length ms
  instances-length NoMembers a shift r = refl
  instances-length (MemberThen v rest) a shift r =
      let first = instance-length v a shift r in
      let others = instances-length rest (a + row_length v) shift r in
      cc
  instances-length (AbsentThen rest) a shift r = instances-length rest a shift r

place-length : (label : Label) (a : ℕ) → label_length (label_place label a) ≡ label_length label
place-length (IntegerLabel z type) a = refl
place-length (OffsetLabel z type unit) a = refl
place-length (TextLabel bytes) a = refl
place-length ArrayLabel a = refl
place-length (StructLabel name fields) a = refl
place-length (UnionLabel name index alternative) a = refl

mutual
  pub template-length : (v : Value) (a : ℕ) → row_length (template_of v a) ≡ row_length v
  template-length (Mapped label start end ms) a =
      ap (λ n. n + rows_length (templates_of ms (a + label_length label))) (place-length label a)
      ∙ ap (λ n. label_length label + n) (templates-length ms (a + label_length label))

  templates-length : (ms : Members) (a : ℕ) → rows_length (templates_of ms a) ≡ rows_length ms
  templates-length NoMembers a = refl
  templates-length (MemberThen v rest) a =
      let first = template-length v a in
      let others = templates-length rest (a + row_length v) in
      cc
  templates-length (AbsentThen rest) a = templates-length rest a

mutual
  pub instance-fits : (v : Value) (a shift at : ℕ) (r row : List ℕ) →
      FitsRow (instance (template_of v a) shift r) at row → FitsRow v at row
  instance-fits (Mapped label start end ms) a shift at r row h = (
    same-label label a at r row h.0,
    instances-fit ms (a + label_length label) shift (at + label_length label) r row
        (subst (λ n. FitsRows (instances (templates_of ms (a + label_length label)) shift r) (at + n) row)
        (same-length label a r) h.1),
  )

  instances-fit : (ms : Members) (a shift at : ℕ) (r row : List ℕ) →
      FitsRows (instances (templates_of ms a) shift r) at row → FitsRows ms at row
  instances-fit NoMembers a shift at r row h = tt
  instances-fit (MemberThen v rest) a shift at r row h = (
    instance-fits v a shift at r row h.0,
    instances-fit rest (a + row_length v) shift (at + row_length v) r row
        (subst (λ n. FitsRows (instances (templates_of rest (a + row_length v)) shift r) (at + n) row)
        (instance-length v a shift r) h.1),
  )
  instances-fit (AbsentThen rest) a shift at r row h = instances-fit rest a shift at r row h

-- the members one after the other
pub rows-next : (ms : Members) (i : ℕ) (v : Value) → member_at ms i ≡ Some v →
    rows_upto ms (suc i) ≡ rows_upto ms i ++ row_of v
rows-next NoMembers i v e = cc
rows-next (MemberThen w rest) zero v e =
    let same : w ≡ v = cc in append-nil (row_of w) ∙ ap row_of same
rows-next (MemberThen w rest) (suc i) v e =
    ap (λ bs. row_of w ++ bs) (rows-next rest i v e) ∙ sym (append_assoc (row_of w) (rows_upto rest i) (row_of v))
rows-next (AbsentThen rest) zero v e = cc
rows-next (AbsentThen rest) (suc i) v e = rows-next rest i v e

pub rows-absent : (ms : Members) (i : ℕ) → member_at ms i ≡ None → rows_upto ms (suc i) ≡ rows_upto ms i
rows-absent NoMembers zero e = refl
rows-absent NoMembers (suc i) e = refl
rows-absent (MemberThen w rest) zero e = cc
rows-absent (MemberThen w rest) (suc i) e = ap (λ bs. row_of w ++ bs) (rows-absent rest i e)
rows-absent (AbsentThen rest) zero e = refl
rows-absent (AbsentThen rest) (suc i) e = rows-absent rest i e

pub rows-all : (ms : Members) → rows_upto ms (member_count ms) ≡ rows_of ms
rows-all NoMembers = refl
rows-all (MemberThen v rest) =
    let one : 1 + member_count rest ≡ suc (member_count rest) = omega arith in
    ap (rows_upto (MemberThen v rest)) one ∙ ap (λ bs. row_of v ++ bs) (rows-all rest)
rows-all (AbsentThen rest) =
    let one : 1 + member_count rest ≡ suc (member_count rest) = omega arith in
    ap (rows_upto (AbsentThen rest)) one ∙ rows-all rest

pub length-next : (ms : Members) (i : ℕ) (v : Value) → member_at ms i ≡ Some v →
    length_upto ms (suc i) ≡ length_upto ms i + row_length v
length-next NoMembers i v e = cc
length-next (MemberThen w rest) zero v e = let same : w ≡ v = cc in omega (arith, ap row_length same)
length-next (MemberThen w rest) (suc i) v e = omega (arith, length-next rest i v e)
length-next (AbsentThen rest) zero v e = cc
length-next (AbsentThen rest) (suc i) v e = length-next rest i v e

pub length-all : (ms : Members) → length_upto ms (member_count ms) ≡ rows_length ms
length-all NoMembers = refl
length-all (MemberThen v rest) =
    let one : 1 + member_count rest ≡ suc (member_count rest) = omega arith in
    ap (length_upto (MemberThen v rest)) one ∙ ap (λ n. row_length v + n) (length-all rest)
length-all (AbsentThen rest) =
    let one : 1 + member_count rest ≡ suc (member_count rest) = omega arith in
    ap (length_upto (AbsentThen rest)) one ∙ length-all rest

pub length-rows_upto : (ms : Members) (i : ℕ) → length (rows_upto ms i) ≡ length_upto ms i
length-rows_upto ms zero = refl
length-rows_upto NoMembers (suc i) = refl
length-rows_upto (MemberThen v rest) (suc i) =
    omega (arith, length-append (row_of v) (rows_upto rest i), length-row v, length-rows_upto rest i)
length-rows_upto (AbsentThen rest) (suc i) = length-rows_upto rest i

-- a member's bytes are among those of all
pub length-within : (ms : Members) (i : ℕ) (v : Value) → member_at ms i ≡ Some v →
    length_upto ms i + row_length v ≤ rows_length ms
length-within NoMembers i v e = cc
length-within (MemberThen w rest) zero v e = let same : w ≡ v = cc in omega (arith, ap row_length same)
length-within (MemberThen w rest) (suc i) v e = omega (arith, length-within rest i v e)
length-within (AbsentThen rest) zero v e = cc
length-within (AbsentThen rest) (suc i) v e = length-within rest i v e

pub templates-next : (ms : Members) (i at : ℕ) (v : Value) → member_at ms i ≡ Some v →
    templates_upto ms (suc i) at ≡ templates_upto ms i at ++ Some (template_of v (at + length_upto ms i)) ∷ []
templates-next NoMembers i at v e = cc
templates-next (MemberThen w rest) zero at v e =
    let same : w ≡ v = cc in
    let none : at ≡ at + 0 = omega arith in
    ap (λ x. Some (template_of x at) ∷ []) same ∙ ap (λ n. Some (template_of v n) ∷ []) none
templates-next (MemberThen w rest) (suc i) at v e =
    let sum : (at + row_length w) + length_upto rest i ≡ at + (row_length w + length_upto rest i) = omega arith in
    ap (λ os. Some (template_of w at) ∷ os) (templates-next rest i (at + row_length w) v e)
    ∙ ap (λ n. Some (template_of w at) ∷ (templates_upto rest i (at + row_length w) ++ Some (template_of v n) ∷ [])) sum
templates-next (AbsentThen rest) zero at v e = cc
templates-next (AbsentThen rest) (suc i) at v e = ap (λ os. None ∷ os) (templates-next rest i at v e)

pub templates-all : (ms : Members) (at : ℕ) → gathered (templates_upto ms (member_count ms) at) ≡ templates_of ms at
templates-all NoMembers at = refl
templates-all (MemberThen v rest) at =
    let one : 1 + member_count rest ≡ suc (member_count rest) = omega arith in
    ap (λ n. gathered (templates_upto (MemberThen v rest) n at)) one
    ∙ ap (MemberThen (template_of v at)) (templates-all rest (at + row_length v))
templates-all (AbsentThen rest) at =
    let one : 1 + member_count rest ≡ suc (member_count rest) = omega arith in
    ap (λ n. gathered (templates_upto (AbsentThen rest) n at)) one ∙ ap AbsentThen (templates-all rest at)

-- the members of a value of fixed layout
pub fixed-at : (end : ℕ) (ms : Members) (i : ℕ) (v : Value) → AreFixed end ms → member_at ms i ≡ Some v →
    (end_of v ≤ end) × IsFixed v
fixed-at end NoMembers i v h e = cc
fixed-at end (MemberThen w rest) zero v h e =
    let same : w ≡ v = cc in subst (λ x. (end_of x ≤ end) × IsFixed x) same (h.0, h.1.0)
fixed-at end (MemberThen w rest) (suc i) v h e = fixed-at end rest i v h.1.1 e
fixed-at end (AbsentThen rest) i v h e = absurd h

pub fixed-there : (end : ℕ) (ms : Members) (i : ℕ) → AreFixed end ms → i < member_count ms → member_at ms i ≡ None → ⊥
fixed-there end NoMembers i h p e = absurd (omega (arith, p))
fixed-there end (MemberThen w rest) zero h p e = cc
fixed-there end (MemberThen w rest) (suc i) h p e = fixed-there end rest i h.1.1 (omega (arith, p)) e
fixed-there end (AbsentThen rest) i h p e = absurd h
