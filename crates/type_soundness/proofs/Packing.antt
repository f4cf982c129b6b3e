-- While the elements of an array are mapped that a store packs, its vectors grow by at most the array's bound, whatever
-- is read.
use Rattle.std.proofs.Common.{◌≡◌, ℕ, zero, suc, ◌+◌, ◌-◌, ◌*◌, ◌≤◌, max, length, Bool, true, false, List, [], ◌∷◌, Option, Some, None, Result, Ok, Err, refl, sym, ap, subst, ◌∙◌, arith}
use Rattle.std.specs.Prelude.{if◌then◌else◌, nat_le, nat_eq}
use Rattle.std.proofs.Math.Nat.{mul-add, mul-le-mul_left}
use Rattle.std.proofs.lemmas.Bool.{eq-eqb, ne_eqb}
use Rattle.bit_space.specs.declared.order.Order.{Order}
use Rattle.pickle_types.specs.Types.{PokeType, IntegerOf, OffsetOf, StringOf, ArrayOf, StructOf, IntegralOf, UnionOf, Fields, NoFields, FieldThen}
use Rattle.pickle_meaning.specs.declared.extent.Extent.{Extent}
use Rattle.pickle_meaning.specs.Values.{Naming, Value, end_of, Levels, pushed, opened}
use Rattle.pickle_meaning.specs.Clauses.{FaultAt, condition, field_start, is_due, is_met, ends_before}
use Rattle.pickle_meaning.specs.Means.{Opened, ordered}
use Rattle.mapping_plans.specs.Plan.{Plan, packed, in_row}
use Rattle.mapping_plans.specs.Mapping.{number_plan, read_plan, then_packed, after_element, element_plan, elements_plan, plan, fields_plan}
use Rattle.mapping_plans.specs.Rows.{Row, Apart, Numbers, Records, Values, Layout, scalar_width, column_width, column_widths, stride_of, records_of, struct_row, or_values, row_of, element_layout}
use Rattle.mapping_plans.proofs.StructRows.{both_are, column_is, packed_struct_is}
use Rattle.value_store.specs.declared.store.slots.Marks.{Marks}
use Rattle.value_store.specs.Moves.{Move, Opens, Places, Closes, Packs, State, moved, needed, with_text, with_links, with_structs, with_struct, with_row}
use Rattle.value_store.specs.Packed.{bytes_for}
use Rattle.value_store.specs.Slots.{innermost, around}
use Rattle.value_store.specs.Takes.{Vector, NodesOf, LinksOf, BytesOf, of_vector}
use Rattle.type_soundness.specs.Capacity.{family_bound, row_bound, records_bound, array_bound, where_rows}
use Rattle.mapping_plans.proofs.Stored.{Stores, at_end, at_tick, at_made, at_read, Leaves, then_stores, known_stores, ok_stores, one_stores, inside_stores, checked_stores, framed_stores, row_stores}

-- ---- rows

kept_numbers : (p q : Bool) (widths : List ℕ) (width : ℕ) →
    (if p then (if q then Records widths else Apart) else Apart) ≡ Numbers width → ⊥
kept_numbers true true widths width e = cc
kept_numbers true false widths width e = cc
kept_numbers false q widths width e = cc

records_numbers : (o : Option (List ℕ)) (width : ℕ) → records_of o ≡ Numbers width → ⊥
records_numbers None width e = cc
records_numbers (Some widths) width e =
    kept_numbers (nat_le 1 (stride_of widths)) (nat_le (stride_of widths) 512) widths width e

struct_numbers : (pinned : Bool) (fields : Fields) (width : ℕ) → struct_row pinned fields ≡ Numbers width → ⊥
struct_numbers true _ width e = cc
struct_numbers false fields width e = records_numbers (column_widths fields) width e

apart_numbers : (own : Option Layout) (width : ℕ) → or_values Apart own ≡ Numbers width → ⊥
apart_numbers None width e = cc
apart_numbers (Some own) width e = cc

numbers_first : (row : Row) (own : Option Layout) (width : ℕ) → or_values row own ≡ Numbers width → row ≡ Numbers width
numbers_first Apart own width e = absurd (apart_numbers own width e)
numbers_first (Numbers given) own width e = e
numbers_first (Records widths) own width e = e
numbers_first (Values stride) own width e = e

-- only integers and offsets are packed as numbers
pub packed_number_is : (type : PokeType) (width : ℕ) → row_of type ≡ Numbers width → scalar_width type ≡ Some width
packed_number_is (IntegerOf type) width e = cc
packed_number_is (OffsetOf type unit) width e = cc
packed_number_is StringOf width e = absurd cc
packed_number_is (ArrayOf element bound) width e = absurd cc
packed_number_is (StructOf name pinned fields) width e =
    let own = element_layout (StructOf name pinned fields) in
    absurd (struct_numbers pinned fields width (numbers_first (struct_row pinned fields) own width e))
packed_number_is (IntegralOf name type fields) width e =
    absurd (apart_numbers (element_layout (IntegralOf name type fields)) width e)
packed_number_is (UnionOf name alternatives) width e = absurd cc

-- a row that is packed, and a store that packs
pub is_packed : (packing : Bool) (row given : Row) → where_rows packing row ≡ given → (given ≡ Apart → ⊥) →
    (packing ≡ true) × (row ≡ given)
is_packed true row given e other = (refl, e)
is_packed false row given e other = absurd (other (sym e))

-- elements are packed as numbers, or as structs of numbers
abbrev pub PacksNumbers : Row → Type 0
PacksNumbers Apart = ⊥
PacksNumbers (Numbers width) = Unit {0}
PacksNumbers (Records widths) = Unit {0}
PacksNumbers (Values stride) = ⊥

-- ---- lengths

-- so many numbers more, in a frame of their own
abbrev with_numbers : ℕ → Marks → Marks
with_numbers count n = record n { nodes = n.nodes + count; pending = n.pending + count }

-- an array that began at k has a template of so many numbers, and there are so many bytes in all
abbrev of_structs : (columns bytes : ℕ) → Marks → Marks
of_structs columns bytes k = record (with_structs columns 0 k) { bytes = bytes }

-- what an open array has that began at k: no element yet, or packed numbers or structs
pub data IsFilled : Row → (k : Marks) → Marks → Type 0 where
  no_element : {row : Row} {k : Marks} → IsFilled row k k
  some_numbers : {width bytes : ℕ} {k : Marks} → IsFilled (Numbers width) k (with_text k bytes)
  some_structs : {widths : List ℕ} {bytes : ℕ} {k : Marks} →
      IsFilled (Records widths) k (of_structs (length widths) bytes k)

-- how many bytes a packed element takes
abbrev bytes_each : Row → ℕ
bytes_each Apart = 0
bytes_each (Numbers width) = bytes_for width
bytes_each (Records widths) = stride_of widths
bytes_each (Values stride) = stride

-- packed numbers, of at most so many bytes
numbers_size : (vector : Vector) (k : Marks) (bytes width count : ℕ) → bytes ≤ k.bytes + bytes_for width * count →
    of_vector vector (with_text k bytes) ≤ of_vector vector k + row_bound vector width count
numbers_size BytesOf k bytes width count le = omega (arith, le)
numbers_size vector k bytes width count le = omega arith

-- packed structs
structs_size : (vector : Vector) (k : Marks) (widths : List ℕ) (bytes count : ℕ) →
    bytes ≤ k.bytes + stride_of widths * count →
    of_vector vector (of_structs (length widths) bytes k) ≤ of_vector vector k + records_bound vector widths count
structs_size BytesOf k widths bytes count le = omega (arith, le)
structs_size vector k widths bytes count le = omega arith

-- an array that has no element
empty_size : (vector : Vector) (k : Marks) →
    of_vector vector (with_links k k) ≤ of_vector vector k + family_bound vector
empty_size LinksOf k = omega arith
empty_size vector k = omega arith

family_few : (row : Row) (vector : Vector) (count apart each fit : ℕ) →
    family_bound vector ≤ array_bound row vector count apart each fit
family_few Apart vector count apart each fit = omega arith
family_few (Numbers width) NodesOf count apart each fit = omega arith
family_few (Numbers width) vector count apart each fit = omega arith
family_few (Records widths) NodesOf count apart each fit = omega arith
family_few (Records widths) vector count apart each fit = omega arith
family_few (Values stride) NodesOf count apart each fit = omega arith
family_few (Values stride) vector count apart each fit = omega arith

filled_size : (vector : Vector) (row : Row) (k n : Marks) (count apart each fit : ℕ) → IsFilled row k n →
    n.bytes ≤ k.bytes + bytes_each row * count →
    of_vector vector n ≤ of_vector vector k + array_bound row vector count apart each fit
filled_size vector row k _ count apart each fit no_element le = omega arith
filled_size vector _ k _ count apart each fit (some_numbers {width} {bytes}) le =
    numbers_size vector k bytes width count le
filled_size vector _ k _ count apart each fit (some_structs {widths} {bytes}) le =
    structs_size vector k widths bytes count le

-- the array, once it is closed
pub closed_row : (vector : Vector) (row : Row) (k n : Marks) (count apart each fit : ℕ) → IsFilled row k n →
    n.bytes ≤ k.bytes + bytes_each row * count →
    of_vector vector (with_row true k n) ≤ of_vector vector k + array_bound row vector count apart each fit
closed_row vector row k _ count apart each fit no_element le =
    let few = family_few row vector count apart each fit in
    let empty = empty_size vector k in
    rw (eq-eqb k.nodes k.nodes refl) (omega (arith, few, empty))
closed_row vector _ k _ count apart each fit (some_numbers {width} {bytes}) le =
    let other : k.nodes + 1 ≡ k.nodes → ⊥ = λ e. omega (arith, e) in
    rw (ne_eqb (k.nodes + 1) k.nodes other) (numbers_size vector k bytes width count le)
closed_row vector _ k _ count apart each fit (some_structs {widths} {bytes}) le =
    let other : k.nodes + (length widths + 2) ≡ k.nodes → ⊥ = λ e. omega (arith, e) in
    rw (ne_eqb (k.nodes + (length widths + 2)) k.nodes other) (structs_size vector k widths bytes count le)

pub row_pending : (row : Row) (k n : Marks) → IsFilled row k n → (with_row true k n).pending ≡ k.pending + 1
row_pending row k _ no_element = rw (eq-eqb k.nodes k.nodes refl) refl
row_pending _ k _ some_numbers =
    let other : k.nodes + 1 ≡ k.nodes → ⊥ = λ e. omega (arith, e) in
    rw (ne_eqb (k.nodes + 1) k.nodes other) refl
row_pending _ k _ (some_structs {widths}) =
    let other : k.nodes + (length widths + 2) ≡ k.nodes → ⊥ = λ e. omega (arith, e) in
    rw (ne_eqb (k.nodes + (length widths + 2)) k.nodes other) refl

-- what an open array of packed structs has while one of them is mapped, with so many of its numbers
struct_size : (vector : Vector) (widths : List ℕ) (k n : Marks) (count done : ℕ) → IsFilled (Records widths) k n →
    n.bytes ≤ k.bytes + stride_of widths * count → done ≤ length widths →
    of_vector vector (with_numbers done n) ≤ of_vector vector k + records_bound vector widths count
struct_size BytesOf widths k _ count done no_element le few = omega (arith, le)
struct_size vector widths k _ count done no_element le few = omega (arith, few)
struct_size BytesOf widths k _ count done some_structs le few = omega (arith, le)
struct_size vector widths k _ count done some_structs le few = omega (arith, few)

-- one more packed struct, whose numbers are all there
record HasStruct (widths : List ℕ) (count : ℕ) (k n : Marks) : Type 0 where
  filled : IsFilled (Records widths) k n
  few : n.bytes ≤ k.bytes + stride_of widths * (count + 1)

next_struct : (widths : List ℕ) (count : ℕ) (k n : Marks) → IsFilled (Records widths) k n →
    n.bytes ≤ k.bytes + stride_of widths * count →
    HasStruct widths count k (with_struct (stride_of widths) k n (with_numbers (length widths) n))
next_struct widths count k _ no_element le =
    let more = mul-add (stride_of widths) count 1 in
    let all : (k.pending + length widths) - k.pending ≡ length widths = omega arith in
    rw (eq-eqb k.nodes k.nodes refl, all) (record { filled = some_structs; few = omega (arith, more, le) })
next_struct widths count k _ (some_structs {bytes}) le =
    let more = mul-add (stride_of widths) count 1 in
    let other : k.nodes + (length widths + 2) ≡ k.nodes → ⊥ = λ e. omega (arith, e) in
    rw (ne_eqb (k.nodes + (length widths + 2)) k.nodes other)
    (record { filled = some_structs; few = omega (arith, more, le) })

-- ---- states

-- so many packed elements at most, in the frame of their array, which was opened in `state`
pub record IsPacked (row : Row) (count : ℕ) (state last : State) : Type 0 where
  pub frames : last.frames ≡ state.now ∷ state.frames
  pub filled : IsFilled row state.now last.now
  pub few : last.now.bytes ≤ state.now.bytes + bytes_each row * count

pub none_packed : (row : Row) (count : ℕ) (state : State) → IsPacked row count state (moved true Opens state)
none_packed row count state = record { frames = refl; filled = no_element; few = omega arith }

fewer_packed : (row : Row) (c count : ℕ) → c ≤ count → (state last : State) → IsPacked row c state last →
    IsPacked row count state last
fewer_packed row c count le state last p =
    let more = mul-le-mul_left (bytes_each row) le in
    let few = p.few in
    record { frames = p.frames; filled = p.filled; few = omega (arith, more, few) }

one_packed : (width count : ℕ) (state last : State) → IsPacked (Numbers width) count state last →
    IsPacked (Numbers width) (count + 1) state (moved true (Packs width) last)
one_packed width count state last p =
    let inner : innermost last.frames ≡ state.now = ap innermost p.frames in
    let more = mul-add (bytes_for width) count 1 in
    let few = p.few in
    rw inner (record { frames = p.frames; filled = some_numbers; few = omega (arith, more, few) })

-- so many numbers more than at first, in the same frames
record HasNumbers (count : ℕ) (start last : State) : Type 0 where
  frames : last.frames ≡ start.frames
  now : last.now ≡ with_numbers count start.now

no_numbers : (start : State) → HasNumbers 0 start start
no_numbers start =
    let nodes : start.now.nodes + 0 ≡ start.now.nodes = omega arith in
    let pending : start.now.pending + 0 ≡ start.now.pending = omega arith in
    record { frames = refl; now = rw (nodes, pending) refl }

one_number : (count : ℕ) (start last : State) → HasNumbers count start last →
    HasNumbers (count + 1) start (moved true Places last)
one_number count start last h =
    let nodes : start.now.nodes + count + 1 ≡ start.now.nodes + (count + 1) = omega arith in
    let pending : start.now.pending + count + 1 ≡ start.now.pending + (count + 1) = omega arith in
    let more : with_numbers 1 (with_numbers count start.now) ≡ with_numbers (count + 1) start.now =
    rw (nodes, pending) in
    record { frames = h.frames; now = ap (with_numbers 1) h.now ∙ more }

-- the change by a move of an element that is kept in such a way
abbrev element_moved : (packing : Bool) → Row → Move → State → State
element_moved packing row move state = moved packing (packed row move) state

-- the struct is packed, with all its numbers
struct_packed : (widths : List ℕ) (count : ℕ) (state last now : State) → IsPacked (Records widths) count state last →
    HasNumbers (length widths) (moved true Opens last) now →
    IsPacked (Records widths) (count + 1) state (element_moved true (Records widths) Closes now)
struct_packed widths count state last now p h =
    let stride = stride_of widths in
    let frames : now.frames ≡ last.now ∷ (state.now ∷ state.frames) =
    h.frames ∙ ap (λ outer. last.now ∷ outer) p.frames in
    let is : element_moved true (Records widths) Closes now ≡ record {
      now = with_struct stride state.now last.now (with_numbers (length widths) last.now);
      frames = state.now ∷ state.frames;
    }
    = ap (λ all.
    record { now = with_struct stride (innermost (around all)) (innermost all) now.now; frames = around all }) frames
    ∙ ap (λ n. record { now = with_struct stride state.now last.now n; frames = state.now ∷ state.frames }) h.now in
    let more = next_struct widths count state.now last.now p.filled p.few in
    subst (IsPacked (Records widths) (count + 1) state) (sym is)
    (record { frames = refl; filled = more.filled; few = more.few })

-- ---- elements

-- an integer or an offset, by the move that places it
scalar_stores : {packing : Bool} {row : Row} {M : State → Type 0} {Q : State → Type 0} (m : ℕ) (ty : PokeType)
    (width : ℕ) → scalar_width ty ≡ Some width → (order : Order) (levels : Levels) (at : ℕ) (state : State) →
    M (needed packing (packed row Places) state) → Q (moved packing (packed row Places) state) →
    Stores packing row M (Leaves (λ v. Q) (λ last. last ≡ state)) (plan m ty order levels at) state
unfolding plan read_plan number_plan
scalar_stores m (IntegerOf type) width e order levels at state here next = inside_stores m at refl
    (at_tick (one_stores (nat_le (at + type.width) m) (at_read (λ n. at_made here (at_end next))) (at_end refl)))
scalar_stores m (OffsetOf type unit) width e order levels at state here next = inside_stores m at refl
    (at_tick (one_stores (nat_le (at + type.width) m) (at_read (λ n. at_made here (at_end next))) (at_end refl)))
scalar_stores m StringOf width e order levels at state here next = absurd cc
scalar_stores m (ArrayOf element bound) width e order levels at state here next = absurd cc
scalar_stores m (StructOf name pinned _) width e order levels at state here next = absurd cc
scalar_stores m (IntegralOf name type _) width e order levels at state here next = absurd cc
scalar_stores m (UnionOf name alternatives) width e order levels at state here next = absurd cc

module _ (vector : Vector) (b m : ℕ) where
  -- what is stored takes at most b
  abbrev Within : State → Type 0
  Within state = of_vector vector state.now ≤ b

  abbrev Keeps : {A : Type 0} → Row → (Q : A → State → Type 0) → (E : State → Type 0) →
      Plan (Result A FaultAt) → State → Type 0
  Keeps row Q E p state = Stores true row Within (Leaves Q E) p state

  packed_within : (row : Row) (count apart each fit : ℕ) (state last : State) →
      of_vector vector state.now + array_bound row vector count apart each fit ≤ b →
      IsPacked row count state last → Within last
  packed_within row count apart each fit state last room p =
      let up = filled_size vector row state.now last.now count apart each fit p.filled p.few in omega (arith, up, room)

  struct_within : (widths : List ℕ) (count : ℕ) (state last : State) →
      of_vector vector state.now + records_bound vector widths count ≤ b → IsPacked (Records widths) count state last →
      (done : ℕ) → done ≤ length widths → of_vector vector (with_numbers done last.now) ≤ b
  struct_within widths count state last room p done le =
      let up = struct_size vector widths state.now last.now count done p.filled p.few le in omega (arith, up, room)

  -- the fields of a struct of numbers, the rest of so many in all
  columns_stores : (all : List ℕ) (total : ℕ) (start : State) →
      ((done : ℕ) (last : State) → done ≤ total → HasNumbers done start last → Within last) →
      (fields : Fields) (widths : List ℕ) → column_widths fields ≡ Some widths →
      (s : ℕ) (order : Order) (levels : Levels) (behind top done : ℕ) (last : State) → HasNumbers done start last →
      done + length widths ≡ total →
      Keeps (Records all) (λ r. HasNumbers total start)
      (λ now. now.frames ≡ start.frames) (fields_plan m false s fields order levels behind top) last
  unfolding plan condition field_start
  columns_stores all total start room NoFields widths e s order levels behind top done last h sum =
      let is : [] ≡ widths = cc in
      let none : 0 ≡ length widths = ap length is in
      at_end (subst (λ n. HasNumbers n start last) (omega (arith, sum, none)) h)
  columns_stores all total start room (FieldThen name set ty c (Some label) when rest) widths e s order levels behind
      top done last h sum = absurd cc
  columns_stores all total start room (FieldThen name set ty c None (Some when) rest) widths e s order levels behind top
      done last h sum = absurd cc
  columns_stores all total start room (FieldThen name set ty c None None rest) widths e s order levels behind
      top done last h sum =
      let both = both_are (column_width ty c None None) (column_widths rest) widths e in
      let column = column_is ty c None None both.width both.first in
      let count = ap length both.are in
      let next = one_number done start last h in
      let here = room (done + 1) (moved true Places last) (omega (arith, sum, count)) next in
      at_tick (known_stores {Q = λ r. HasNumbers total start} {E = λ now. now.frames ≡ start.frames} 0 true _
      (known_stores {Q = λ r. HasNumbers total start} {E = λ now. now.frames ≡ start.frames} 0 behind _
      (ok_stores {P = λ v. HasNumbers (done + 1) start} {Q = λ r. HasNumbers total start}
      {E = λ now. now.frames ≡ start.frames} _
      (λ v now more. columns_stores all total start room rest both.rest both.others s order (pushed levels (Some v))
      (end_of v) (max top (end_of v)) (done + 1) now more (omega (arith, sum, count)))
      (checked_stores {Q = λ v. HasNumbers (done + 1) start}
      {E = λ now. now.frames ≡ start.frames} (λ v now more. more.frames) c levels behind h.frames
      (scalar_stores {Q = HasNumbers (done + 1) start} m ty both.width column.width (ordered set order) levels
      behind last here next)))))

  -- a struct of numbers that is one more element
  struct_stores : (name : Naming) (fields : Fields) (widths : List ℕ) → column_widths fields ≡ Some widths →
      (c count : ℕ) → c + 1 ≤ count → (order : Order) (levels : Levels) (at : ℕ) (state last : State) →
      of_vector vector state.now + records_bound vector widths count ≤ b → IsPacked (Records widths) c state last →
      Keeps (Records widths) (λ v. IsPacked (Records widths) (c + 1) state)
      (λ now. now ≡ last) (plan m (StructOf name false fields) order levels at) last
  unfolding plan
  struct_stores name fields widths e c count less order levels at state last room p =
      let start : State = moved true Opens last in
      let all = fewer_packed (Records widths) c count (omega (arith, less)) state last p in
      let here = packed_within (Records widths) count 0 0 0 state last room all in
      let none : 0 + length widths ≡ length widths = omega arith in
      inside_stores m
      at refl (at_tick (framed_stores {Q = λ v. IsPacked (Records widths) (c + 1) state} levels here here
      (ok_stores {P = λ r. HasNumbers (length widths) start} {Q = λ v. IsPacked (Records widths) (c + 1) state}
      {E = λ now. now.frames ≡ last.now ∷ last.frames} _
      (λ r now h.
      let next = struct_packed widths c state last now p h in
      let closed =
      fewer_packed (Records widths) (c + 1) count less state (element_moved true (Records widths) Closes now) next in
      at_made (packed_within (Records widths) count 0 0 0 state (element_moved true (Records widths) Closes now) room
      closed) (at_end next))
      (columns_stores widths (length widths) start
      (λ done now le h. rw h.now (struct_within widths count state last room all done le))
      fields widths e at order (opened levels) at at 0 start (no_numbers start) none))))

  number_stores : (ty : PokeType) (width : ℕ) → scalar_width ty ≡ Some width → (c count : ℕ) → c + 1 ≤ count →
      (order : Order) (levels : Levels) (at : ℕ) (state last : State) →
      of_vector vector state.now + row_bound vector width count ≤ b → IsPacked (Numbers width) c state last →
      Keeps (Numbers width) (λ v. IsPacked (Numbers width) (c + 1) state)
      (λ now. now ≡ last) (plan m ty order levels at) last
  number_stores ty width e c count less order levels at state last room p =
      let next = one_packed width c state last p in
      let all = fewer_packed (Numbers width) (c + 1) count less state (moved true (Packs width) last) next in
      scalar_stores {Q = IsPacked (Numbers width) (c + 1) state} m ty width e order levels
      at last (packed_within (Numbers width) count 0 0 0 state (moved true (Packs width) last) room all) next

  -- one more element
  element_stores : (element : PokeType) (row : Row) → row_of element ≡ row → PacksNumbers row →
      (c count apart each fit : ℕ) →
      c + 1 ≤ count → (order : Order) (levels : Levels) (at : ℕ) (state last : State) →
      of_vector vector state.now + array_bound row vector count apart each fit ≤ b → IsPacked row c state last →
      Keeps row (λ v. IsPacked row (c + 1) state) (λ now. now ≡ last) (plan m element order levels at) last
  element_stores element Apart e other c count apart each fit less order levels at state last room p = absurd other
  element_stores element (Values stride) e other c count apart each fit less order levels at state last room p =
      absurd other
  element_stores element (Numbers width) e other c count apart each fit less order levels at state last room p =
      number_stores element width (packed_number_is element width e) c count less order levels at state last room p
  element_stores element (Records widths) e other c count apart each fit less order levels at state last room p =
      let r = packed_struct_is element widths e in
      subst (λ ty. Keeps (Records widths) (λ v. IsPacked (Records widths) (c + 1) state)
      (λ now. now ≡ last) (plan m ty order levels at) last) (sym r.is)
      (struct_stores r.name r.fields widths r.wide c count less order levels at state last room p)

  -- ---- arrays

  -- a fact about what a mapping in the frame of an array leaves
  abbrev Fills : {A : Type 0} → (Q : A → State → Type 0) → (state : State) → Plan (Result A FaultAt) → State → Type 0
  Fills Q state p last = Stores true Apart Within (Leaves Q (λ now. now.frames ≡ state.now ∷ state.frames)) p last

  -- the plan of an element
  element_packed : {Q : Value → State → Type 0} {E : State → Type 0} (row : Row) → PacksNumbers row → (levels : Levels)
      {p : Plan (Result Value FaultAt)} {last : State} → Keeps row Q E p last →
      Stores true Apart Within (Leaves Q E) (then_packed row levels (in_row row p)) last
  element_packed Apart other levels h = absurd other
  element_packed (Numbers width) other levels h = row_stores true (Numbers width) h
  element_packed (Records widths) other levels h = row_stores true (Records widths) h
  element_packed (Values stride) other levels h = absurd other

  packed_after : (row : Row) (count n c : ℕ) (extent : Extent) (next : Levels → ℕ → Plan (Result Opened FaultAt))
      (levels : Levels) (state last : State) → IsPacked row c state last → c + suc n ≤ count →
      ((l : Levels) (at : ℕ) (now : State) → IsPacked row (c + 1) state now →
      Fills (λ r. IsPacked row count state) state (next l at) now) →
      (at : ℕ) (r : Result Value FaultAt) (now : State) →
      Leaves (λ v. IsPacked row (c + 1) state) (λ now. now ≡ last) r now →
      Fills (λ r. IsPacked row count state) state (after_element extent next levels at r) now
  unfolding after_element
  packed_after row count n c extent next levels state last p le g at (Ok v) now more =
      one_stores (nat_eq (end_of v) at) (at_end more.frames) (g (pushed levels (Some v)) (end_of v) now more)
  packed_after row count n c extent next levels state last p le g at (Err f) now same =
      let here = subst (IsPacked row c state) (sym same) p in
      one_stores (ends_before extent f.0) (at_end (fewer_packed row c count (omega arith) state now here))
      (at_end here.frames)

  module _ (element : PokeType) (other : PacksNumbers (row_of element)) (order : Order) (count apart each fit s : ℕ)
      (extent : Extent) (state : State)
      (room : of_vector vector state.now + array_bound (row_of element) vector count apart each fit ≤ b) where
    pub packed_elements : (n i c : ℕ) (levels : Levels) (at : ℕ) (last : State) →
        IsPacked (row_of element) c state last → c + n ≤ count →
        Fills (λ r. IsPacked (row_of element) count state) state
        (elements_plan (element_plan element (plan m element order)) m s extent n i levels at) last
    unfolding elements_plan
    packed_elements zero i c levels at last p le = at_end p.frames
    packed_elements (suc n) i c levels at last p le =
        one_stores (is_due extent m s i at)
        (at_tick (then_stores {P = Leaves (λ v. IsPacked (row_of element) (c + 1) state) (λ now. now ≡ last)} _
        (packed_after (row_of element) count n c extent
        (elements_plan (element_plan element (plan m element order)) m s extent n (i + 1)) levels state last p le
        (λ l p now more. packed_elements n (i + 1) (c + 1) l p now more (omega arith)) at)
        (element_packed (row_of element) other levels
        (element_stores element (row_of element) refl other c count apart each fit
        (omega arith) order levels at state last room p))))
        (one_stores (is_met extent s at)
        (at_end (fewer_packed (row_of element) c count (omega arith) state last p)) (at_end p.frames))
