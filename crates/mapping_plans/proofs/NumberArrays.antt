-- An array of so many numbers of a width, where arrays of numbers are packed: how it is mapped, and what that stores,
-- whatever is read.
use Rattle.std.proofs.Common.{◌≡◌, ℕ, zero, suc, ◌+◌, ◌*◌, ◌≤◌, Bool, true, false, List, [], ◌∷◌, ◌++◌, length, Option, Some, None, Result, Ok, Err, refl, sym, ap, subst, ◌∙◌, arith, eq-eqb, ne_eqb}
use Rattle.std.specs.Prelude.{if◌then◌else◌, nat_eq, nat_le}
use Rattle.std.proofs.lemmas.Bool.{ltb-true, ltb-false}
use Rattle.bit_space.specs.declared.order.Order.{Order}
use Rattle.pickle_types.specs.declared.integer.IntegerType.{IntegerType}
use Rattle.pickle_types.specs.Types.{Number, Text, Name, Bracket, Before, Between, Choice, Index, Select, AttributeOf, ToInteger, ToOffset, InUnit, PokeType, IntegerOf, OffsetOf, StringOf, ArrayOf, StructOf, IntegralOf, UnionOf, Bound, Unbounded, ByCount, BySize}
use Rattle.pickle_meaning.specs.declared.extent.Extent.TheVariants.{Count}
use Rattle.pickle_meaning.specs.declared.faults.MapFaultKind.TheVariants as fault
use Rattle.pickle_meaning.specs.Values.{ArrayLabel, Value, Mapped, member_count, label_of, end_of, Levels, pushed, top_of, gathered}
use Rattle.pickle_meaning.specs.Evaluation.{evaluation}
use Rattle.pickle_meaning.specs.Clauses.{FaultAt, extent_of, bound_steps, is_due}
use Rattle.pickle_meaning.specs.Means.{Opened}
use Rattle.value_store.specs.declared.store.slots.Marks.{Marks}
use Rattle.value_store.specs.Layouts.{value_size, row_length, rows_length}
use Rattle.value_store.specs.Moves.{ClosesRow, State, moved, with_text, with_links, with_row, with_value, packed_now}
use Rattle.value_store.specs.Packed.{bytes_for}
use Rattle.value_store.specs.Slots.{innermost}
use Rattle.value_store.specs.Takes.{number_width}
use Rattle.value_store.proofs.Moved.{same-marks}
use Rattle.mapping_plans.specs.Plan.{Plan, Ended, Tick, and_then}
use Rattle.mapping_plans.specs.Mapping.{number_plan, read_plan, plan, element_plan, after_element, elements_plan}
use Rattle.mapping_plans.specs.Rows.{Apart, Numbers, literal_count, scalar_width, row_of}
use Rattle.mapping_plans.proofs.Stored.{Stores, at_end, at_tick, at_made, at_read, Leaves, one_stores, inside_stores, then_stores, row_stores}

-- ---- the type of such an array

-- its elements are kept as numbers
pub scalar_row : (element : PokeType) (width : ℕ) → scalar_width element ≡ Some width →
    row_of element ≡ Numbers width
scalar_row (IntegerOf type) width h = let same : type.width ≡ width = cc in ap Numbers same
scalar_row (OffsetOf type unit) width h = let same : type.width ≡ width = cc in ap Numbers same
scalar_row StringOf width h = absurd cc
scalar_row (ArrayOf element bound) width h = absurd cc
scalar_row (StructOf name pinned _) width h = absurd cc
scalar_row (IntegralOf name type _) width h = absurd cc
scalar_row (UnionOf name alternatives) width h = absurd cc

-- its bound is a literal, whatever the frames have
pub literal_extent : (bound : Bound) (count : ℕ) → literal_count bound ≡ Some count → (levels : Levels) (s : ℕ) →
    extent_of bound levels s ≡ Ok (Count count)
unfolding extent_of evaluation
literal_extent Unbounded count h levels s = absurd cc
literal_extent (BySize e) count h levels s = absurd cc
literal_extent (ByCount (Number type value)) count h levels s =
    let same : value ≡ count = cc in ap (λ n. Ok (Count n)) same
literal_extent (ByCount (Text bytes)) count h levels s = absurd cc
literal_extent (ByCount (Name level place)) count h levels s = absurd cc
literal_extent (ByCount (Bracket e)) count h levels s = absurd cc
literal_extent (ByCount (Before op e)) count h levels s = absurd cc
literal_extent (ByCount (Between op a b)) count h levels s = absurd cc
literal_extent (ByCount (Choice common c x y)) count h levels s = absurd cc
literal_extent (ByCount (Index e i)) count h levels s = absurd cc
literal_extent (ByCount (Select e place)) count h levels s = absurd cc
literal_extent (ByCount (AttributeOf attribute e)) count h levels s = absurd cc
literal_extent (ByCount (ToInteger type e)) count h levels s = absurd cc
literal_extent (ByCount (ToOffset type unit e)) count h levels s = absurd cc
literal_extent (ByCount (InUnit unit e)) count h levels s = absurd cc

-- it takes one step
pub literal_steps : (bound : Bound) (count : ℕ) → literal_count bound ≡ Some count → (levels : Levels) →
    bound_steps bound levels ≡ 1
unfolding evaluation
literal_steps Unbounded count h levels = absurd cc
literal_steps (BySize e) count h levels = absurd cc
literal_steps (ByCount (Number type value)) count h levels = refl
literal_steps (ByCount (Text bytes)) count h levels = absurd cc
literal_steps (ByCount (Name level place)) count h levels = absurd cc
literal_steps (ByCount (Bracket e)) count h levels = absurd cc
literal_steps (ByCount (Before op e)) count h levels = absurd cc
literal_steps (ByCount (Between op a b)) count h levels = absurd cc
literal_steps (ByCount (Choice common c x y)) count h levels = absurd cc
literal_steps (ByCount (Index e i)) count h levels = absurd cc
literal_steps (ByCount (Select e place)) count h levels = absurd cc
literal_steps (ByCount (AttributeOf attribute e)) count h levels = absurd cc
literal_steps (ByCount (ToInteger type e)) count h levels = absurd cc
literal_steps (ByCount (ToOffset type unit e)) count h levels = absurd cc
literal_steps (ByCount (InUnit unit e)) count h levels = absurd cc

-- ---- its members

-- a number of so many bits
pub record IsNumber (width : ℕ) (v : Value) : Type 0 where
  pub wide : number_width (label_of v) ≡ Some width
  pub few : row_length v ≡ bytes_for width

abbrev AreNumbers : (width : ℕ) → List (Option Value) → Type 0
AreNumbers width [] = Unit {0}
AreNumbers width (None ∷ rest) = ⊥
AreNumbers width (Some v ∷ rest) = IsNumber width v × AreNumbers width rest

one_more_number : (width : ℕ) (level : List (Option Value)) (v : Value) → AreNumbers width level → IsNumber width v →
    AreNumbers width (level ++ Some v ∷ [])
one_more_number width [] v h own = (own, tt)
one_more_number width (None ∷ rest) v h own = absurd h
one_more_number width (Some w ∷ rest) v h own = (h.0, one_more_number width rest v h.1 own)

length_more : (level : List (Option Value)) (v : Value) → length (level ++ Some v ∷ []) ≡ length level + 1
length_more [] v = omega arith
length_more (m ∷ rest) v = let h = length_more rest v in omega arith

-- their bytes
numbers_length : (width : ℕ) (level : List (Option Value)) → AreNumbers width level →
    rows_length (gathered level) ≡ bytes_for width * length level
numbers_length width [] h = omega arith
numbers_length width (None ∷ rest) h = absurd h
numbers_length width (Some v ∷ rest) h =
    let own = h.0.few in let others = numbers_length width rest h.1 in omega (arith, own, others)

gathered_length : (level : List (Option Value)) → member_count (gathered level) ≡ length level
gathered_length [] = refl
gathered_length (None ∷ rest) = let h = gathered_length rest in omega arith
gathered_length (Some v ∷ rest) = let h = gathered_length rest in omega arith

-- ---- what is stored

-- a frame that began at k has these numbers side by side, as one text
abbrev with_numbers : (width : ℕ) → List (Option Value) → (k : Marks) → Marks
with_numbers width [] k = k
with_numbers width (m ∷ rest) k = with_text k (k.bytes + bytes_for width * length (m ∷ rest))

-- the frame that was opened in a state has such numbers
pub record HasNumbers (width : ℕ) (state : State) (level : List (Option Value)) (last : State) : Type 0 where
  is : last ≡ record { now = with_numbers width level state.now; frames = state.now ∷ state.frames }
  are : AreNumbers width level

pub no_numbers : (width : ℕ) (state : State) →
    HasNumbers width state [] (record { now = state.now; frames = state.now ∷ state.frames })
no_numbers width state = record { is = refl; are = tt }

-- a number is packed in the innermost frame
pub record IsPacked (width : ℕ) (state : State) (v : Value) (last : State) : Type 0 where
  is : last ≡ record { now = packed_now true width (innermost state.frames) state.now; frames = state.frames }
  own : IsNumber width v

numbers_bytes : (width : ℕ) (level : List (Option Value)) (k : Marks) →
    (with_numbers width level k).bytes ≡ k.bytes + bytes_for width * length level
numbers_bytes width [] k = omega arith
numbers_bytes width (m ∷ rest) k = refl

some_numbers : (width : ℕ) (level : List (Option Value)) (v : Value) (k : Marks) →
    with_numbers width (level ++ Some v ∷ []) k
    ≡ with_text k (k.bytes + bytes_for width * length (level ++ Some v ∷ []))
some_numbers width [] v k = refl
some_numbers width (m ∷ rest) v k = refl

one_number : (width : ℕ) (level : List (Option Value)) (v : Value) (k : Marks) →
    packed_now true width k (with_numbers width level k) ≡ with_numbers width (level ++ Some v ∷ []) k
one_number width level v k =
    let before = numbers_bytes width level k in
    let count = ap (λ n. bytes_for width * n) (length_more level v) in
    ap (with_text k) (omega (arith, before, count)) ∙ sym (some_numbers width level v k)

-- one more number
more_numbers : (width : ℕ) (level more : List (Option Value)) (v : Value) (state last now : State) →
    more ≡ level ++ Some v ∷ [] → HasNumbers width state level last → IsPacked width last v now →
    HasNumbers width state more now
more_numbers width level more v state last now e h p = rw e (record {
  is = p.is
      ∙ ap (λ (x : State). record { now = packed_now true width (innermost x.frames) x.now; frames = x.frames }) h.is
      ∙ ap (λ marks. record { now = marks; frames = state.now ∷ state.frames })
      (one_number width level v state.now);
  are = one_more_number width level v h.are p.own;
})

-- the value of such a frame
numbers_row : (width start end : ℕ) (level : List (Option Value)) (k : Marks) → AreNumbers width level →
    with_row true k (with_numbers width level k)
    ≡ with_value (value_size (Mapped ArrayLabel start end (gathered level))) k
numbers_row width start end [] k h = rw (eq-eqb k.nodes k.nodes refl)
    (same-marks (with_links k k) (with_value (value_size (Mapped ArrayLabel start end (gathered []))) k) (omega arith)
    (omega arith) (omega arith) refl (omega arith) (omega arith))
numbers_row width start end (None ∷ rest) k h = absurd h
numbers_row width start end (Some v ∷ rest) k h =
    let level = Some v ∷ rest in
    let count = ap (λ n. bytes_for width * n) (gathered_length level) in
    let bytes = k.bytes + bytes_for width * length level in
    let own = with_text k bytes in
    rw (ne_eqb (k.nodes + 1) k.nodes (λ e. omega (arith, e)), h.0.wide)
    (same-marks own (with_value (record {
      nodes = 1;
      families = 0;
      links = 0;
      texts = 1;
      bytes = bytes_for width * member_count (gathered level);
    }) k) refl (omega arith) (omega arith) refl refl (omega (arith, count)))

-- the frame is closed
pub closed_numbers : (width start end : ℕ) (level : List (Option Value)) (state last : State) →
    HasNumbers width state level last →
    moved true ClosesRow last
    ≡ record {
      now = with_value (value_size (Mapped ArrayLabel start end (gathered level))) state.now;
      frames = state.frames;
    }
closed_numbers width start end level state last h =
    ap (λ now. moved true ClosesRow now) h.is
    ∙ ap (λ now. record { now = now; frames = state.frames }) (numbers_row width start end level state.now h.are)

-- its bytes
pub closed_length : (width start end : ℕ) (level : List (Option Value)) (state last : State) →
    HasNumbers width state level last →
    row_length (Mapped ArrayLabel start end (gathered level)) ≡ bytes_for width * length level
closed_length width start end level state last h = let own = numbers_length width level h.are in omega (arith, own)

pub numbers_open : {width : ℕ} {state : State} {level : List (Option Value)} {last : State} →
    HasNumbers width state level last → last.frames ≡ state.now ∷ state.frames
numbers_open h = ap (λ (x : State). x.frames) h.is

-- ---- the plan

abbrev Any : State → Type 0
Any state = Unit {0}

-- the plan of a number, as an element of such an array
number_packed : (m : ℕ) (ty : PokeType) (width : ℕ) → (type : IntegerType) (order : Order) (levels : Levels) (s : ℕ)
    (state : State) → ((n : ℕ) → Stores true (Numbers width) Any (Leaves (IsPacked width state) (λ last. last ≡ state))
    (number_plan ty n levels s) state) →
    Stores true (Numbers width) Any (Leaves (IsPacked width state) (λ last. last ≡ state))
    (read_plan m ty type order levels s) state
unfolding read_plan
number_packed m ty width type order levels s state h =
    at_tick (one_stores (nat_le (s + type.width) m) (at_read h) (at_end refl))

element_packed : (m : ℕ) (element : PokeType) (width : ℕ) → scalar_width element ≡ Some width → (order : Order)
    (levels : Levels) (s : ℕ) (state : State) →
    Stores true Apart Any (Leaves (IsPacked width state) (λ last. last ≡ state))
    (element_plan element (plan m element order) levels s) state
unfolding plan number_plan
element_packed m (IntegerOf type) width h order levels s state =
    let same : type.width ≡ width = cc in
    subst (λ w. Stores true Apart Any (Leaves (IsPacked w state) (λ last. last ≡ state))
    (element_plan (IntegerOf type) (plan m (IntegerOf type) order) levels s) state) same
    (row_stores true (Numbers type.width)
    (inside_stores {Q = IsPacked type.width state} {E = λ last. last ≡ state} m s refl
    (number_packed m (IntegerOf type) type.width type order levels s state
    (λ n. at_made tt (at_end (record { is = refl; own = record { wide = refl; few = omega arith } }))))))
element_packed m (OffsetOf type unit) width h order levels s state =
    let same : type.width ≡ width = cc in
    subst (λ w. Stores true Apart Any (Leaves (IsPacked w state) (λ last. last ≡ state))
    (element_plan (OffsetOf type unit) (plan m (OffsetOf type unit) order) levels s) state) same
    (row_stores true (Numbers type.width)
    (inside_stores {Q = IsPacked type.width state} {E = λ last. last ≡ state} m s refl
    (number_packed m (OffsetOf type unit) type.width type order levels s state
    (λ n. at_made tt (at_end (record { is = refl; own = record { wide = refl; few = omega arith } }))))))
element_packed m StringOf width h order levels s state = absurd cc
element_packed m (ArrayOf element bound) width h order levels s state = absurd cc
element_packed m (StructOf name pinned _) width h order levels s state = absurd cc
element_packed m (IntegralOf name type _) width h order levels s state = absurd cc
element_packed m (UnionOf name alternatives) width h order levels s state = absurd cc

pub top_more : (levels : Levels) (v : Value) → top_of (pushed levels (Some v)) ≡ top_of levels ++ Some v ∷ []
top_more [] v = refl
top_more (top ∷ outer) v = refl

-- an array of so many numbers
pub record AllNumbers (width count : ℕ) (state : State) (r : Opened) (last : State) : Type 0 where
  pub has : HasNumbers width state (top_of r.0) last
  pub all : length (top_of r.0) ≡ count

module _ (m width count : ℕ) (state : State) where
  abbrev Goes : Plan (Result Opened FaultAt) → State → Type 0
  Goes p last = Stores true Apart Any
      (Leaves (AllNumbers width count state) (λ last. last.frames ≡ state.now ∷ state.frames)) p last

  after_packed : (next : Levels → ℕ → Plan (Result Opened FaultAt)) (levels : Levels) (place : ℕ) (before : State) →
      HasNumbers width state (top_of levels) before →
      ((more : Levels) (at : ℕ) (now : State) → length (top_of more) ≡ length (top_of levels) + 1 →
      HasNumbers width state (top_of more) now → Goes (next more at) now) →
      (r : Result Value FaultAt) (last : State) →
      Leaves (IsPacked width before) (λ last. last ≡ before) r last →
      Goes (after_element (Count count) next levels place r) last
  unfolding after_element
  after_packed next levels place before h goes (Ok v) last p =
      let more = more_numbers width (top_of levels) (top_of (pushed levels (Some v))) v state before last
      (top_more levels v) h p in
      let long = ap length (top_more levels v) ∙ length_more (top_of levels) v in
      one_stores (nat_eq (end_of v) place) (at_end (numbers_open more))
      (goes (pushed levels (Some v)) (end_of v) last long more)
  after_packed next levels place before h goes (Err f) last same =
      at_end (ap (λ (x : State). x.frames) same ∙ numbers_open h)

  pub elements_packed : (element : PokeType) → scalar_width element ≡ Some width → (order : Order) (s n i : ℕ)
      (levels : Levels) (place : ℕ) (last : State) → i ≤ count → length (top_of levels) ≡ i →
      HasNumbers width state (top_of levels) last →
      Goes (elements_plan (element_plan element (plan m element order)) m s (Count count) n i levels place) last
  unfolding elements_plan
  elements_packed element scalar order s zero i levels place last few long h = at_end (numbers_open h)
  elements_packed element scalar order s (suc n) i levels place last few long h =
      chosen (λ more at now some all own. elements_packed element scalar order s n (i + 1) more at now some all own)
      (is_due (Count count) m s i place) refl
    where
      chosen : ((more : Levels) (at : ℕ) (now : State) → i + 1 ≤ count → length (top_of more) ≡ i + 1 →
          HasNumbers width state (top_of more) now →
          Goes (elements_plan (element_plan element (plan m element order)) m s (Count count) n (i + 1) more at) now) →
          (due : Bool) → is_due (Count count) m s i place ≡ due →
          Goes (if due then Tick (and_then (element_plan element (plan m element order) levels place)
          (after_element (Count count)
          (elements_plan (element_plan element (plan m element order)) m s (Count count) n (i + 1)) levels place))
          else Ended (Ok (levels, place))) last
      chosen next true e =
          let some : i + 1 ≤ count = omega (arith, ltb-true i count e) in
          at_tick (then_stores {P = Leaves (IsPacked width last) (λ now. now ≡ last)} _
          (after_packed (elements_plan (element_plan element (plan m element order)) m s (Count count) n (i + 1))
          levels place last h
          (λ more at now all own. next more at now some (omega (arith, all, long)) own))
          (element_packed m element width scalar order levels place last))
      chosen next false e = at_end (record { has = h; all = omega (arith, few, long, ltb-false i count e) })
