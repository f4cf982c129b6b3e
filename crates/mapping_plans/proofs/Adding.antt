-- What a mapping of a type of fixed layout adds to a store that packs arrays: what its value takes, whatever is read.
-- The value's numbers have the bytes of the layout.
use Rattle.std.proofs.Common.{◌≡◌, ℕ, ◌+◌, ◌-◌, ◌*◌, max, true, false, List, [], ◌∷◌, ◌++◌, Option, Some, None, Result, refl, sym, ap, subst, ◌∙◌, arith}
use Rattle.std.specs.Prelude.{nat_le}
use Rattle.bit_space.specs.declared.order.Order.{Order}
use Rattle.pickle_types.specs.declared.integer.IntegerType.{IntegerType}
use Rattle.pickle_types.specs.Types.{PokeType, IntegerOf, OffsetOf, StringOf, ArrayOf, StructOf, IntegralOf, UnionOf, Fields, NoFields, FieldThen, Parts, NoParts, PartThen}
use Rattle.pickle_types.specs.Bounds.{least_width, count_of}
use Rattle.pickle_meaning.specs.declared.extent.Extent.TheVariants.{Count}
use Rattle.pickle_meaning.specs.Values.{Naming, StructLabel, Value, Mapped, member_count, end_of, Levels, pushed, opened, top_of, gathered}
use Rattle.pickle_meaning.specs.Clauses.{FaultAt, condition, field_start, extent_of, bound_steps}
use Rattle.pickle_meaning.specs.Means.{Opened, number_type, width_in, first_digits, ordered, field_names, part_names, integer_value, offset_value, array_value, struct_value}
use Rattle.value_store.specs.declared.store.slots.Marks.{Marks}
use Rattle.value_store.specs.Layouts.{value_size, row_length, rows_length}
use Rattle.value_store.specs.Moves.{Opens, Places, Closes, ClosesRow, State, moved, with_number, with_value, with_links}
use Rattle.value_store.specs.Packed.{bytes_for}
use Rattle.value_store.specs.Takes.{Vector, NodesOf, FamiliesOf, LinksOf, TextsOf, BytesOf, value_takes, members_take}
use Rattle.value_store.proofs.Moved.{same-marks}
use Rattle.mapping_plans.specs.Plan.{Plan, after, then_ok, framed}
use Rattle.mapping_plans.specs.Mapping.{number_plan, digits_plan, read_plan, array_move, element_plan, elements_plan, array_closes, plan, fields_plan}
use Rattle.mapping_plans.specs.Rows.{Apart, Values, Layout, number_layout, numbers_layout, no_layout, scalar_width, sum_of, clause_avoids, layout_of, fields_layout, parts_layout, row_of}
use Rattle.mapping_plans.proofs.Layouts.{struct_laid, integral_laid, array_laid, no_clause, plain_field, part_laid, element_laid}
use Rattle.mapping_plans.proofs.NumberArrays.{AllNumbers, scalar_row, literal_extent, no_numbers, closed_numbers, closed_length, top_more, elements_packed}
use Rattle.mapping_plans.proofs.Stored.{Stores, at_end, at_tick, at_made, at_read, Leaves, ok_stores, known_stores, one_stores, inside_stores, checked_stores, framed_stores}

-- ---- lengths

-- a frame that began at k has these members
abbrev pub with_members : List (Option Value) → (k : Marks) → Marks
with_members level k = record {
  nodes = k.nodes + members_take true NodesOf (gathered level);
  families = k.families + members_take true FamiliesOf (gathered level);
  links = k.links + members_take true LinksOf (gathered level);
  pending = k.pending + member_count (gathered level);
  texts = k.texts + members_take true TextsOf (gathered level);
  bytes = k.bytes + members_take true BytesOf (gathered level);
}

members_more : (vector : Vector) (level : List (Option Value)) (v : Value) →
    members_take true vector (gathered (level ++ Some v ∷ []))
    ≡ members_take true vector (gathered level) + value_takes true vector v
members_more vector [] v = omega arith
members_more vector (None ∷ rest) v = members_more vector rest v
members_more vector (Some w ∷ rest) v = let h = members_more vector rest v in omega arith

count_more : (level : List (Option Value)) (v : Value) →
    member_count (gathered (level ++ Some v ∷ [])) ≡ member_count (gathered level) + 1
count_more [] v = omega arith
count_more (None ∷ rest) v = let h = count_more rest v in omega arith
count_more (Some w ∷ rest) v = let h = count_more rest v in omega arith

no_members : (k : Marks) → k ≡ with_members [] k
no_members k =
    same-marks k (with_members [] k) (omega arith) (omega arith) (omega arith) (omega arith) (omega arith)
    (omega arith)

one_member : (level : List (Option Value)) (v : Value) (k : Marks) →
    with_value (value_size v) (with_members level k) ≡ with_members (level ++ Some v ∷ []) k
one_member level v k =
    let nodes = members_more NodesOf level v in
    let families = members_more FamiliesOf level v in
    let links = members_more LinksOf level v in
    let pending = count_more level v in
    let texts = members_more TextsOf level v in
    let bytes = members_more BytesOf level v in
    same-marks (with_value (value_size v) (with_members level k)) (with_members (level ++ Some v ∷ []) k)
    (omega (arith, nodes)) (omega (arith, families)) (omega (arith, links)) (omega (arith, pending))
    (omega (arith, texts)) (omega (arith, bytes))

-- a struct of these members
closed_frame : (name : Naming) (names : List Naming) (start end : ℕ) (level : List (Option Value)) (k : Marks) →
    with_links k (with_members level k)
    ≡ with_value (value_size (Mapped (StructLabel name names) start end (gathered level))) k
closed_frame name names start end level k =
    same-marks (with_links k (with_members level k))
    (with_value (value_size (Mapped (StructLabel name names) start end (gathered level))) k)
    (omega arith) (omega arith) (omega arith) refl (omega arith) (omega arith)

bytes_more : (level : List (Option Value)) (v : Value) →
    rows_length (gathered (level ++ Some v ∷ [])) ≡ rows_length (gathered level) + row_length v
bytes_more [] v = omega arith
bytes_more (None ∷ rest) v = bytes_more rest v
bytes_more (Some w ∷ rest) v = let h = bytes_more rest v in omega arith

-- ---- states

-- one more value, of what it takes
abbrev pub with_one : Value → State → State
with_one v state = record { now = with_value (value_size v) state.now; frames = state.frames }

-- a frame that was opened in a state has these members
abbrev with_frame : List (Option Value) → State → State
with_frame level state = record { now = with_members level state.now; frames = state.now ∷ state.frames }

-- nothing is required of what is stored on the way
abbrev pub Any : State → Type 0
Any state = Unit {0}

-- a value is one more member, and its numbers have so many bytes
pub record IsAdded (bytes : ℕ) (state : State) (v : Value) (last : State) : Type 0 where
  pub is : last ≡ with_one v state
  pub few : row_length v ≡ bytes

-- the frame that was opened in a state has these members, whose numbers have so many bytes
record HasFrame (bytes : ℕ) (state : State) (level : List (Option Value)) (last : State) : Type 0 where
  is : last ≡ with_frame level state
  few : rows_length (gathered level) ≡ bytes

abbrev Frame : (bytes : ℕ) → State → Levels → State → Type 0
Frame bytes state levels last = HasFrame bytes state (top_of levels) last

abbrev OpenFrame : (bytes : ℕ) → State → Opened → State → Type 0
OpenFrame bytes state r last = HasFrame bytes state (top_of r.0) last

-- the frame of the struct stays open after a fault
abbrev StaysOpen : State → State → Type 0
StaysOpen state last = last.frames ≡ state.now ∷ state.frames

frame_open : {bytes : ℕ} {state : State} {level : List (Option Value)} {last : State} →
    HasFrame bytes state level last → StaysOpen state last
frame_open h = ap (λ (x : State). x.frames) h.is

number_adds : (state : State) (v : Value) → value_takes true NodesOf v ≡ 1 → value_takes true FamiliesOf v ≡ 0 →
    value_takes true LinksOf v ≡ 0 → value_takes true TextsOf v ≡ 0 → value_takes true BytesOf v ≡ 0 →
    moved true Places state ≡ with_one v state
number_adds state v nodes families links texts bytes =
    ap (λ now. record { now = now; frames = state.frames })
    (same-marks (with_number state.now) (with_value (value_size v) state.now) (omega (arith, nodes))
    (omega (arith, families)) (omega (arith, links)) refl (omega (arith, texts)) (omega (arith, bytes)))

-- no member yet
none_in : (state : State) → HasFrame 0 state [] (moved true Opens state)
none_in state = record {
  is = ap (λ now. record { now = now; frames = state.now ∷ state.frames }) (no_members state.now);
  few = refl;
}

-- one more member of an open frame
one_in : (bytes more : ℕ) (levels : Levels) (v : Value) (state last now : State) →
    HasFrame bytes state (top_of levels) last → IsAdded more last v now →
    HasFrame (bytes + more) state (top_of (pushed levels (Some v))) now
one_in bytes more levels v state last now h a =
    let size = bytes_more (top_of levels) v in
    let before = h.few in
    let own = a.few in
    record {
      is = a.is ∙ ap (with_one v) h.is
          ∙ ap (λ marks. record { now = marks; frames = state.now ∷ state.frames })
          (one_member (top_of levels) v state.now
          ∙ ap (λ level. with_members level state.now) (sym (top_more levels v)));
      few = ap (λ level. rows_length (gathered level)) (top_more levels v) ∙ omega (arith, size, before, own);
    }

-- the frame is closed
closed_in : (bytes : ℕ) (name : Naming) (names : List Naming) (start end : ℕ) (r : Levels)
    (state last : State) → HasFrame bytes state (top_of r) last →
    IsAdded bytes state (struct_value name names start end r) (moved true Closes last)
closed_in bytes name names start end r state last h =
    let own = h.few in
    record {
      is = ap (λ now. moved true Closes now) h.is
          ∙ ap (λ now. record { now = now; frames = state.frames })
          (closed_frame name names start end (top_of r) state.now);
      few = omega (arith, own);
    }

-- the bytes of a layout
bytes_of : (l given : Layout) → Some given ≡ Some l → given.bytes ≡ l.bytes
bytes_of l given e = let same : given ≡ l = cc in ap (λ (x : Layout). x.bytes) same

none_more : (bytes total : ℕ) (l : Layout) → Some no_layout ≡ Some l → bytes + l.bytes ≡ total → bytes ≡ total
none_more bytes total l h sum = let e = bytes_of l no_layout h in omega (arith, e, sum)

more_bytes : (bytes total : ℕ) (one more l : Layout) → l ≡ sum_of one more → bytes + l.bytes ≡ total →
    (bytes + one.bytes) + more.bytes ≡ total
more_bytes bytes total one more l h sum = let e = ap (λ (x : Layout). x.bytes) h in omega (arith, e, sum)

abbrev Keeps : {A : Type 0} → (Q : A → State → Type 0) → (E : State → Type 0) → Plan (Result A FaultAt) →
    State → Type 0
Keeps Q E p state = Stores true Apart Any (Leaves Q E) p state

-- a value that was made of a number
number_made : (l : Layout) (type : IntegerType) (v : Value) (state : State) → Some (number_layout type) ≡ Some l →
    row_length v ≡ (number_layout type).bytes → value_takes true NodesOf v ≡ 1 →
    value_takes true FamiliesOf v ≡ 0 → value_takes true LinksOf v ≡ 0 → value_takes true TextsOf v ≡ 0 →
    value_takes true BytesOf v ≡ 0 → IsAdded l.bytes state v (moved true Places state)
number_made l type v state h own nodes families links texts bytes = record {
  is = number_adds state v nodes families links texts bytes;
  few = own ∙ bytes_of l (number_layout type) h;
}

-- ---- numbers

mutual
  unfolding number_plan

  number_adding : (level : ℕ) (ty : PokeType) (l : Layout) → layout_of level ty ≡ Some l → (n : ℕ) (levels : Levels)
      (s : ℕ) (state : State) →
      Keeps (IsAdded l.bytes state) (λ last. last ≡ state) (number_plan ty n levels s) state
  number_adding level (IntegerOf type) l h n levels s state = at_made tt (at_end (number_made l type
      (integer_value type n s) state h (omega arith) refl refl refl refl refl))
  number_adding level (OffsetOf type unit) l h n levels s state = at_made tt (at_end (number_made l type
      (offset_value type unit n s) state h (omega arith) refl refl refl refl refl))
  number_adding level StringOf l h n levels s state = absurd cc
  number_adding level (ArrayOf element bound) l h n levels s state = at_end refl
  number_adding level (StructOf name pinned _) l h n levels s state = at_end refl
  number_adding level (IntegralOf name type fields) l h n levels s state =
      framed_stores {Q = IsAdded l.bytes state} levels tt tt
      (ok_stores {P = Frame l.bytes state} {Q = IsAdded l.bytes state} {E = StaysOpen state} _
      (λ r last e. at_made tt
      (at_end (closed_in l.bytes name (part_names fields) s (s + type.width) r state last e)))
      (digits_adding (level + 1) fields l (integral_laid level type.width fields l h).laid n type.width
      (opened levels) s 0 l.bytes state (moved true Opens state) (omega arith) (none_in state)))
  number_adding level (UnionOf name alternatives) l h n levels s state = absurd cc

  digits_adding : (level : ℕ) (parts : Parts) (l : Layout) → parts_layout level parts ≡ Some l → (n left : ℕ)
      (levels : Levels) (s bytes total : ℕ) (state last : State) → bytes + l.bytes ≡ total →
      HasFrame bytes state (top_of levels) last →
      Keeps (Frame total state) (StaysOpen state) (digits_plan parts n left levels s) last
  digits_adding level NoParts l h n left levels s bytes total state last sum e =
      at_end (subst (λ k. HasFrame k state (top_of levels) last) (none_more bytes total l h sum) e)
  digits_adding level (PartThen name set ty c rest) l h n left levels s bytes total state last sum e =
      let f = part_laid level ty c (parts_layout level rest) l h in
      at_tick (ok_stores {P = IsAdded f.one.bytes last} {Q = Frame total state} {E = StaysOpen state} _
      (λ v now more. digits_adding level rest f.more f.rest n (left - width_in (number_type ty))
      (pushed levels (Some v)) s (bytes + f.one.bytes) total state now
      (more_bytes bytes total f.one f.more l f.sum sum)
      (one_in bytes f.one.bytes levels v state last now e more))
      (checked_stores {Q = IsAdded f.one.bytes last} {E = StaysOpen state}
      (λ v now more. ap (λ (x : State). x.frames) more.is ∙ frame_open e) c levels s (frame_open e)
      (at_tick
      (number_adding level ty f.one f.laid (first_digits n left (width_in (number_type ty))) levels s last))))

read_adding : (m level : ℕ) (ty : PokeType) (l : Layout) → layout_of level ty ≡ Some l → (type : IntegerType)
    (order : Order) (levels : Levels) (s : ℕ) (state : State) →
    Keeps (IsAdded l.bytes state) (λ last. last ≡ state) (read_plan m ty type order levels s) state
unfolding read_plan
read_adding m level ty l h type order levels s state =
    at_tick (one_stores (nat_le (s + type.width) m)
    (at_read (λ n. number_adding level ty l h n levels s state)) (at_end refl))

-- ---- arrays of numbers

-- such an array is closed
array_adding : (element : PokeType) (width count : ℕ) (l : Layout) (s : ℕ) (r : Opened) (state last : State) →
    scalar_width element ≡ Some width → l ≡ numbers_layout width count → AllNumbers width count state r last →
    Keeps (IsAdded l.bytes state) (StaysOpen state) (array_closes element s r) last
array_adding element width count l s r state last scalar is e =
    let v = array_value s r.1 r.0 in
    let bytes = ap (λ (x : Layout). x.bytes) is in
    let many = ap (λ n. bytes_for width * n) e.all in
    let own = closed_length width s r.1 (top_of r.0) state last e.has in
    let move : ClosesRow ≡ array_move (row_of element) = sym (ap array_move (scalar_row element width scalar)) in
    let added : IsAdded l.bytes state v (moved true ClosesRow last) = record {
      is = closed_numbers width s r.1 (top_of r.0) state last e.has;
      few = omega (arith, own, many, bytes);
    } in
    at_made tt (at_end (subst (λ move. IsAdded l.bytes state v (moved true move last)) move added))

-- ---- structs

mutual
  unfolding plan condition field_start

  -- a value of fixed layout is one more value, and a fault leaves all as it was
  pub value_adding : (m level : ℕ) (ty : PokeType) (l : Layout) → layout_of level ty ≡ Some l → (order : Order)
      (levels : Levels) (s : ℕ) (state : State) →
      Keeps (IsAdded l.bytes state) (λ last. last ≡ state) (plan m ty order levels s) state
  value_adding m level (IntegerOf type) l h order levels s state =
      inside_stores {Q = IsAdded l.bytes state} {E = λ last. last ≡ state} m s refl
      (read_adding m level (IntegerOf type) l h type order levels s state)
  value_adding m level (OffsetOf type unit) l h order levels s state =
      inside_stores {Q = IsAdded l.bytes state} {E = λ last. last ≡ state} m s refl
      (read_adding m level (OffsetOf type unit) l h type order levels s state)
  value_adding m level StringOf l h order levels s state = absurd cc
  value_adding m level (ArrayOf element bound) l h order levels s state =
      let a = array_laid element bound l h in
      inside_stores {Q = IsAdded l.bytes state} {E = λ last. last ≡ state} m s refl
      (at_tick (subst (λ extent. Keeps (IsAdded l.bytes state) (λ last. last ≡ state)
      (then_ok (after (bound_steps bound levels) extent) (λ extent. framed levels (then_ok
      (elements_plan (element_plan element (plan m element order)) m s extent (count_of m (least_width element)) 0
      (opened levels) s) (array_closes element s)))) state) (sym (literal_extent bound a.count a.literal levels s))
      (known_stores {Q = IsAdded l.bytes state} {E = λ last. last ≡ state} (bound_steps bound levels) (Count a.count) _
      (framed_stores {Q = IsAdded l.bytes state} levels tt tt
      (ok_stores {P = AllNumbers a.width a.count state} {Q = IsAdded l.bytes state} {E = StaysOpen state} _
      (λ r last e. array_adding element a.width a.count l s r state last a.scalar a.is e)
      (elements_packed m a.width a.count state element a.scalar order s (count_of m (least_width element)) 0
      (opened levels) s (moved true Opens state) (omega arith) refl (no_numbers a.width state)))))))
  value_adding m level (StructOf name true _) l h order levels s state = absurd cc
  value_adding m level (StructOf name false fields) l h order levels s state =
      inside_stores {Q = IsAdded l.bytes state} {E = λ last. last ≡ state} m s refl
      (at_tick (framed_stores {Q = IsAdded l.bytes state} levels tt tt
      (ok_stores {P = OpenFrame l.bytes state} {Q = IsAdded l.bytes state} {E = StaysOpen state} _
      (λ r last e. at_made tt (at_end (closed_in l.bytes name (field_names fields) s r.1 r.0 state last e)))
      (fields_adding m (level + 1) fields l (struct_laid level name false fields l h).laid s order (opened levels) s s
      0 l.bytes state (moved true Opens state) (omega arith) (none_in state)))))
  value_adding m level (IntegralOf name type fields) l h order levels s state =
      inside_stores {Q = IsAdded l.bytes state} {E = λ last. last ≡ state} m s refl
      (read_adding m level (IntegralOf name type fields) l h type order levels s state)
  value_adding m level (UnionOf name alternatives) l h order levels s state = absurd cc

  fields_adding : (m level : ℕ) (fields : Fields) (l : Layout) → fields_layout level fields ≡ Some l → (s : ℕ)
      (order : Order) (levels : Levels) (behind top bytes total : ℕ) (state last : State) →
      bytes + l.bytes ≡ total → HasFrame bytes state (top_of levels) last →
      Keeps (OpenFrame total state) (StaysOpen state) (fields_plan m false s fields order levels behind top) last
  fields_adding m level NoFields l h s order levels behind top bytes total state last sum e =
      at_end (subst (λ k. HasFrame k state (top_of levels) last) (none_more bytes total l h sum) e)
  fields_adding m level (FieldThen name set ty c (Some label) when rest) l h s order levels behind top bytes total
      state last sum e =
      absurd (no_clause
      (plain_field (clause_avoids level c) (Some label) when (layout_of level ty) (fields_layout level rest) l h).0)
  fields_adding m level (FieldThen name set ty c None (Some when) rest) l h s order levels behind top bytes total
      state last sum e =
      absurd (no_clause
      (plain_field (clause_avoids level c) None (Some when) (layout_of level ty) (fields_layout level rest) l h).1)
  fields_adding m level (FieldThen name set ty c None None rest) l h s order levels behind top bytes total state last
      sum e =
      let f = part_laid level ty c (fields_layout level rest) l h in
      at_tick (known_stores {Q = OpenFrame total state} {E = StaysOpen state} 0 true _
      (known_stores {Q = OpenFrame total state} {E = StaysOpen state} 0 behind _
      (ok_stores {P = IsAdded f.one.bytes last} {Q = OpenFrame total state} {E = StaysOpen state} _
      (λ v now more. fields_adding m level rest f.more f.rest s order (pushed levels (Some v)) (end_of v)
      (max top (end_of v)) (bytes + f.one.bytes) total state now (more_bytes bytes total f.one f.more l f.sum sum)
      (one_in bytes f.one.bytes levels v state last now e more))
      (checked_stores {Q = IsAdded f.one.bytes last} {E = StaysOpen state}
      (λ v now more. ap (λ (x : State). x.frames) more.is ∙ frame_open e) c levels behind (frame_open e)
      (value_adding m level ty f.one f.laid (ordered set order) levels behind last)))))

-- the same of an element of an array whose elements are kept as values of fixed layout
pub element_adding : (m : ℕ) (ty : PokeType) (stride : ℕ) → row_of ty ≡ Values stride →
    (order : Order) (levels : Levels) (s : ℕ) (state : State) →
    Stores true Apart Any (Leaves (IsAdded stride state) (λ last. last ≡ state)) (plan m ty order levels s) state
element_adding m ty stride row order levels s state =
    let e = element_laid ty stride row in
    subst (λ k. Stores true Apart Any (Leaves (IsAdded k state) (λ last. last ≡ state)) (plan m ty order levels s)
    state) e.bytes (value_adding m 0 ty e.layout e.laid order levels s state)
