-- While a type is mapped, the vectors of the store grow by at most the type's bound, whatever is read.
use Rattle.std.proofs.Common.{◌≡◌, ℕ, zero, suc, ◌+◌, ◌-◌, ◌*◌, ◌/◌, ◌≤◌, max, length, Bool, true, false, List, [], ◌∷◌, ◌++◌, Option, Some, None, Result, Ok, Err, refl, sym, ap, subst, ◌∙◌, arith}
use Rattle.std.specs.Prelude.{if◌then◌else◌, nat_le, nat_eq}
use Rattle.std.proofs.lemmas.Bool.{leb-true}
use Rattle.bit_space.specs.declared.order.Order.{Order}
use Rattle.bit_space.specs.declared.order.Order.TheVariants.{Big}
use Rattle.pickle_types.specs.declared.integer.IntegerType.{IntegerType}
use Rattle.pickle_types.specs.Types.{Term, PokeType, IntegerOf, OffsetOf, StringOf, ArrayOf, StructOf, IntegralOf, UnionOf, Fields, NoFields, FieldThen, Parts, NoParts, PartThen}
use Rattle.pickle_types.specs.Bounds.{least_width, count_of}
use Rattle.pickle_meaning.specs.declared.extent.Extent.{Extent}
use Rattle.pickle_meaning.specs.declared.faults.MapFaultKind.TheVariants as fault
use Rattle.pickle_meaning.specs.Values.{Naming, Value, end_of, Levels, pushed, opened}
use Rattle.pickle_meaning.specs.Clauses.{FaultAt, condition, field_start, extent_of, is_due, is_met, ends_before, misses}
use Rattle.pickle_meaning.specs.Means.{Opened, Taken, number_type, width_in, first_digits, ordered, field_names, part_names, struct_value}
use Rattle.mapping_plans.specs.Plan.{Plan, Ended, Read, in_row, then_ok}
use Rattle.mapping_plans.specs.Mapping.{makes, closes, constrained, number_plan, digits_plan, read_plan, after_byte, text_plan, then_packed, after_element, array_move, element_plan, elements_plan, after_attempt, array_closes, plan, fields_plan, alternatives_plan}
use Rattle.mapping_plans.specs.Rows.{Row, Apart, Numbers, Records, Values, layout_of, row_of}
use Rattle.mapping_plans.proofs.Fitting.{longer}
use Rattle.value_store.specs.declared.store.slots.Marks.{Marks}
use Rattle.value_store.specs.Moves.{Opens, Clears, Places, Leaves as LeavesOut, Closes, Writes, Ends, ClosesRow, State, moved, needed, with_number, with_text, with_links}
use Rattle.value_store.specs.Slots.{innermost, around}
use Rattle.value_store.specs.Takes.{Vector, NodesOf, FamiliesOf, LinksOf, PendingOf, TextsOf, BytesOf, of_vector}
use Rattle.type_soundness.specs.Capacity.{number_bound, string_bound, family_bound, link_bound, array_bytes, fit_bytes, array_bound, values_bound, where_rows, capacity_bound, fields_bound, parts_bound, greatest_bound}
use Rattle.mapping_plans.proofs.Stored.{Stores, at_end, at_tick, at_made, at_read, Leaves, weaker_stores, then_stores, ok_stores, told_stores, one_stores, inside_stores, checked_stores, framed_stores, row_stores, apart_stores}
use Rattle.type_soundness.proofs.Places.{place_bound}
use Rattle.type_soundness.proofs.Packing.{PacksNumbers, is_packed, closed_row, row_pending, IsPacked, none_packed, packed_elements}
use Rattle.type_soundness.proofs.ValueArrays.{IsMember, value_array}

-- ---- lengths

-- the links that so many members of a frame will take
abbrev links_of : Vector → ℕ → ℕ
links_of NodesOf n = 0
links_of FamiliesOf n = 0
links_of LinksOf n = n
links_of PendingOf n = 0
links_of TextsOf n = 0
links_of BytesOf n = 0

-- one member more
links_more : (vector : Vector) (p q k : ℕ) → q ≡ p + 1 →
    links_of vector (q - k) ≤ links_of vector (p - k) + link_bound vector
links_more NodesOf p q k e = omega arith
links_more FamiliesOf p q k e = omega arith
links_more LinksOf p q k e = omega (arith, e)
links_more PendingOf p q k e = omega arith
links_more TextsOf p q k e = omega arith
links_more BytesOf p q k e = omega arith

none_of : (vector : Vector) (n : ℕ) → links_of vector (n - n) ≡ 0
none_of NodesOf n = refl
none_of FamiliesOf n = refl
none_of LinksOf n = omega arith
none_of PendingOf n = refl
none_of TextsOf n = refl
none_of BytesOf n = refl

number_size : (vector : Vector) (n : Marks) →
    of_vector vector (with_number n) ≤ of_vector vector n + number_bound vector
number_size NodesOf n = omega arith
number_size FamiliesOf n = omega arith
number_size LinksOf n = omega arith
number_size PendingOf n = omega arith
number_size TextsOf n = omega arith
number_size BytesOf n = omega arith

-- an absent member takes at most what one of the type does
absent_size : (packing : Bool) (vector : Vector) (ty : PokeType) (m : ℕ) (n : Marks) →
    of_vector vector (record n { pending = n.pending + 1 }) ≤ of_vector vector n + capacity_bound packing vector ty m
absent_size packing NodesOf ty m n = omega arith
absent_size packing FamiliesOf ty m n = omega arith
absent_size packing LinksOf ty m n = omega arith
absent_size packing PendingOf ty m n = let place = place_bound packing ty m in omega (arith, place)
absent_size packing TextsOf ty m n = omega arith
absent_size packing BytesOf ty m n = omega arith

-- a closed frame that began at k, whose members take at most c with their links
closed_size : (vector : Vector) (k n : Marks) (c : ℕ) →
    of_vector vector n + links_of vector (n.pending - k.pending) ≤ of_vector vector k + c →
    of_vector vector (with_links k n) ≤ of_vector vector k + (family_bound vector + c)
closed_size NodesOf k n c le = omega (arith, le)
closed_size FamiliesOf k n c le = omega (arith, le)
closed_size LinksOf k n c le = omega (arith, le)
closed_size PendingOf k n c le = omega arith
closed_size TextsOf k n c le = omega (arith, le)
closed_size BytesOf k n c le = omega (arith, le)

-- a text of at most all bytes of the file
text_size : (vector : Vector) (k : Marks) (bytes m : ℕ) → bytes ≤ k.bytes + m / 8 →
    of_vector vector (with_text k bytes) ≤ of_vector vector k + string_bound vector m
text_size NodesOf k bytes m le = omega arith
text_size FamiliesOf k bytes m le = omega arith
text_size LinksOf k bytes m le = omega arith
text_size PendingOf k bytes m le = omega arith
text_size TextsOf k bytes m le = omega arith
text_size BytesOf k bytes m le = omega (arith, le)

-- ---- elements

-- one that isn't packed
apart_row : (packing : Bool) (row : Row) → where_rows packing row ≡ Apart → (levels : Levels) {M : State → Type 0}
    {Q : Value → State → Type 0} {E : State → Type 0} → ((v : Value) (last : State) → Q v last → M last) →
    {p : Plan (Result Value FaultAt)} {state : State} → Stores packing Apart M (Leaves Q E) p state →
    Stores packing Apart M (Leaves Q E) (then_packed row levels (in_row row p)) state
apart_row false Apart e levels within h = h
apart_row false (Numbers width) e levels within h = row_stores false (Numbers width) (apart_stores (Numbers width) h)
apart_row false (Records widths) e levels within h =
    row_stores false (Records widths) (apart_stores (Records widths) h)
apart_row false (Values stride) e levels {Q} {E} within h =
    ok_stores {P = Q} {Q = Q} {E = E} _ (λ v last q. at_made (within v last q) (at_end q)) h
apart_row true Apart e levels within h = h
apart_row true (Numbers width) e levels within h = absurd cc
apart_row true (Records widths) e levels within h = absurd cc
apart_row true (Values stride) e levels within h = absurd cc

-- the array of them is closed as a frame is
apart_closes : (packing : Bool) (row : Row) → where_rows packing row ≡ Apart → (state : State) →
    moved packing (array_move row) state ≡ moved packing Closes state
apart_closes false Apart e state = refl
apart_closes false (Numbers width) e state = refl
apart_closes false (Records widths) e state = refl
apart_closes false (Values stride) e state = refl
apart_closes true Apart e state = refl
apart_closes true (Numbers width) e state = absurd cc
apart_closes true (Records widths) e state = absurd cc
apart_closes true (Values stride) e state = absurd cc

-- and one of packed elements in its own way
packed_closes : (row : Row) → PacksNumbers row → array_move row ≡ ClosesRow
packed_closes Apart other = absurd other
packed_closes (Numbers width) other = refl
packed_closes (Records widths) other = refl
packed_closes (Values stride) other = refl

-- what closes an array needs as much on its way as there is then
closes_needs : (packing : Bool) (row : Row) (state : State) →
    needed packing (array_move row) state ≡ moved packing (array_move row) state
closes_needs packing Apart state = refl
closes_needs packing (Numbers width) state = refl
closes_needs packing (Records widths) state = refl
closes_needs packing (Values stride) state = refl

-- an array whose elements are packed as values of fixed layout
abbrev values_full : (packing : Bool) → Vector → PokeType → (m : ℕ) → ℕ
values_full packing vector element m = values_bound vector (count_of m (least_width element))
    (capacity_bound false vector element m) (capacity_bound packing vector element m)
    (fit_bytes (layout_of 0 element) (array_bytes element) m)

values_stores : (packing : Bool) (vector : Vector) (b m : ℕ) (element : PokeType) (order : Order) (stride : ℕ) →
    packing ≡ true → row_of element ≡ Values stride →
    ((l : Levels) (at : ℕ) (now : State) → of_vector vector now.now + capacity_bound packing vector element m ≤ b →
    Stores packing Apart (λ now. of_vector vector now.now ≤ b) (Leaves
    (λ v last. of_vector vector last.now ≤ of_vector vector now.now + capacity_bound packing vector element m)
    (λ last. last ≡ now)) (plan m element order l at) now) → (state : State) →
    of_vector vector state.now + values_full packing vector element m ≤ b →
    (extent : Extent) (levels : Levels) (s : ℕ) →
    Stores packing Apart (λ now. of_vector vector now.now ≤ b)
    (Leaves (λ v. IsMember vector (values_full packing vector element m) state)
    (λ last. last.frames ≡ state.now ∷ state.frames)) (then_ok
    (elements_plan (element_plan element (plan m element order)) m s extent (count_of m (least_width element)) 0
    (opened levels) s) (array_closes element s)) (moved packing Opens state)
values_stores true vector b m element order stride e row maps state room extent levels s =
    value_array vector b m element order stride row maps state room extent levels s
values_stores false vector b m element order stride e row maps state room extent levels s = absurd cc

module _ (packing : Bool) (vector : Vector) where
  abbrev size : State → ℕ
  size state = of_vector vector state.now

  -- with the links that the innermost frame will take
  abbrev full : State → ℕ
  full state = size state + links_of vector (state.now.pending - (innermost state.frames).pending)

  abbrev link : ℕ
  link = link_bound vector

  abbrev family : ℕ
  family = family_bound vector

  -- one more member of the innermost frame, which takes at most n
  pub record Added (n : ℕ) (state last : State) : Type 0 where
    pub frames : last.frames ≡ state.frames
    pub few : size last ≤ size state + n
    pub one : last.now.pending ≡ state.now.pending + 1

  -- the innermost frame grew by at most n, with the links that it will take
  record Grown (n : ℕ) (state last : State) : Type 0 where
    frames : last.frames ≡ state.frames
    few : full last ≤ full state + n

  -- a fault in a frame leaves the frame
  abbrev Framed : State → State → Type 0
  Framed state last = last.frames ≡ state.frames

  added_grows : (n : ℕ) (state last : State) → Added n state last → Grown (link + n) state last
  added_grows n state last a =
      let more = links_more vector state.now.pending last.now.pending (innermost state.frames).pending a.one in
      let same : (innermost last.frames).pending ≡ (innermost state.frames).pending =
      ap (λ frames. (innermost frames).pending) a.frames in
      let less = a.few in
      record { frames = a.frames; few = rw same (omega (arith, more, less)) }

  grown_more : (c n : ℕ) (state mid last : State) → Grown c state mid → Grown n mid last → Grown (c + n) state last
  grown_more c n state mid last g h =
      let l = g.few in let r = h.few in record { frames = h.frames ∙ g.frames; few = omega (arith, l, r) }

  not_grown : (n : ℕ) (state : State) → Grown n state state
  not_grown n state = record { frames = refl; few = omega arith }

  less_grown : (c n : ℕ) → c ≤ n → (state last : State) → Grown c state last → Grown n state last
  less_grown c n le state last g = let l = g.few in record { frames = g.frames; few = omega (arith, l, le) }

  -- a frame that was opened here and grew by at most n is closed
  closed_adds : (n : ℕ) (state last : State) → Grown n (moved packing Opens state) last →
      Added (family + n) state (moved packing Closes last)
  closed_adds n state last g =
      let inner : innermost last.frames ≡ state.now = ap innermost g.frames in
      let none = none_of vector state.now.pending in
      let few = g.few in
      let few = rw (ap (λ (k : Marks). k.pending) inner, none) at few in
      let few : size last + links_of vector (last.now.pending - state.now.pending) ≤ size state + n =
      omega (arith, few) in
      record {
        frames = ap around g.frames;
        few = rw inner (closed_size vector state.now last.now n few);
        one = ap (λ (k : Marks). k.pending + 1) inner;
      }

  module _ (b m : ℕ) where
    -- what is stored takes at most b
    abbrev Within : State → Type 0
    Within state = size state ≤ b

    abbrev Keeps : {A : Type 0} → (Q : A → State → Type 0) → (E : State → Type 0) →
        Plan (Result A FaultAt) → State → Type 0
    Keeps Q E p state = Stores packing Apart Within (Leaves Q E) p state

    abbrev most : PokeType → ℕ
    most ty = capacity_bound packing vector ty m

    abbrev fields_most : Fields → ℕ
    fields_most fields = fields_bound packing vector fields m

    abbrev parts_most : Parts → ℕ
    parts_most parts = parts_bound packing vector parts m

    abbrev greatest : Parts → ℕ
    greatest parts = greatest_bound packing vector parts m

    abbrev tries : PokeType → ℕ
    tries element = count_of m (least_width element)

    -- what it takes where nothing is packed, and its bytes where it is packed
    abbrev apart : PokeType → ℕ
    apart ty = capacity_bound false vector ty m

    abbrev fit : PokeType → ℕ
    fit ty = fit_bytes (layout_of 0 ty) (array_bytes ty) m

    -- an array of elements that are kept in such a way
    abbrev array_full : Row → PokeType → ℕ
    array_full row element = array_bound row vector (tries element) (apart element) (most element) (fit element)

    -- a frame is closed as a value
    closes_stores : (n : ℕ) (make : Levels → Value) (inside : Levels) (state last : State) →
        Grown n (moved packing Opens state) last → size state + (family + n) ≤ b →
        {E : State → Type 0} → Keeps (λ v. Added (family + n) state) E (closes Closes make inside) last
    closes_stores n make inside state last g le =
        let a = closed_adds n state last g in let few = a.few in at_made (omega (arith, few, le)) (at_end a)

    -- a type's value with its constraint
    valued_stores : (n : ℕ) (c : Option Term) (levels : Levels) (at : ℕ) (state : State)
        {p : Plan (Result Value FaultAt)} → Keeps (λ v. Added n state) (λ last. last ≡ state) p state →
        Keeps (λ v. Added n state) (Framed state) (then_ok p (constrained c levels at)) state
    valued_stores n c levels at state h =
        checked_stores {Q = λ v. Added n state} {E = Framed state} (λ v last a. a.frames) c levels at refl h

    -- ---- strings

    -- so many bytes of a string, in the frame that was opened here
    record IsText (count : ℕ) (state last : State) : Type 0 where
      frames : last.frames ≡ state.now ∷ state.frames
      few : last.now.bytes ≤ state.now.bytes + count

    text_stores : (state : State) → size state + string_bound vector m ≤ b →
        (n : ℕ) (bytes : List ℕ) (levels : Levels) (s place : ℕ) (last : State) → 8 * length bytes ≤ place →
        IsText (length bytes) state last → (8 * length bytes ≤ m) →
        Keeps (λ v. Added (string_bound vector m) state)
        (λ last. last.frames ≡ state.now ∷ state.frames) (text_plan m n bytes levels s place) last
    unfolding text_plan after_byte
    text_stores state le zero bytes levels s place last few is fits = at_end is.frames
    text_stores state le (suc n) bytes levels s place last few is fits =
        at_tick (chosen (λ more now f is g. text_stores state le n more levels s (place + 8) now f is g)
        (nat_le (place + 8) m) refl)
      where
        Goes : (List ℕ → Plan (Result Value FaultAt)) → Type 0
        Goes next = (more : List ℕ) (now : State) → 8 * length more ≤ place + 8 → IsText (length more) state now →
            8 * length more ≤ m →
            Keeps (λ v. Added (string_bound vector m) state)
            (λ last. last.frames ≡ state.now ∷ state.frames) (next more) now

        inner : innermost last.frames ≡ state.now
        inner = ap innermost is.frames

        byte : Goes (λ more. text_plan m n more levels s (place + 8)) → place + 8 ≤ m → (x : ℕ) →
            Keeps (λ v. Added (string_bound vector m) state) (λ last. last.frames ≡ state.now ∷ state.frames)
            (after_byte (λ more. text_plan m n more levels s (place + 8)) bytes levels s (place + 8) x) last
        byte next inside zero =
            let low = is.few in
            let t = text_size vector state.now last.now.bytes m (omega (arith, low, fits)) in
            let a : Added (string_bound vector m) state (moved packing Ends last) =
            record { frames = ap around is.frames; few = rw inner t; one = ap (λ (k : Marks). k.pending + 1) inner } in
            let up = a.few in
            at_made (omega (arith, up, le)) (at_end a)
        byte next inside (suc x) =
            let l = longer bytes (suc x) in
            let low = is.few in
            let t = text_size vector state.now (last.now.bytes + 1) m (omega (arith, low, few, inside)) in
            let up : size (moved packing Writes last) ≤ size state + string_bound vector m = rw inner t in
            at_made (omega (arith, up, le))
            (next (bytes ++ suc x ∷ []) (moved packing Writes last) (omega (arith, l, few))
            (record { frames = is.frames; few = omega (arith, l, low) }) (omega (arith, l, few, inside)))

        chosen : Goes (λ more. text_plan m n more levels s (place + 8)) → (t : Bool) → nat_le (place + 8) m ≡ t →
            Keeps (λ v. Added (string_bound vector m) state) (λ last. last.frames ≡ state.now ∷ state.frames) (if t
            then Read place 8 Big
            (after_byte (λ more. text_plan m n more levels s (place + 8)) bytes levels s (place + 8))
            else Ended (Err (fault.End, s))) last
        chosen next true e = at_read (byte next (leb-true (place + 8) m e))
        chosen next false e = at_end is.frames

    -- ---- arrays

    -- what an open frame grows by from a state that had grown already
    grown_on : {A : Type 0} (c n : ℕ) (state mid : State) → Grown c state mid → (r : Result A FaultAt) (last : State) →
        Leaves (λ a. Grown n mid) (Framed mid) r last → Leaves (λ a. Grown (c + n) state) (Framed state) r last
    grown_on c n state mid g (Ok a) last h = grown_more c n state mid last g h
    grown_on c n state mid g (Err f) last h = h ∙ g.frames

    after_stores : (n c : ℕ) (extent : Extent) (next : Levels → ℕ → Plan (Result Opened FaultAt))
        (levels : Levels) (state : State) →
        ((l : Levels) (at : ℕ) (now : State) → full now + n ≤ b →
        Keeps (λ r. Grown n now) (Framed now) (next l at) now) →
        full state + ((link + c) + n) ≤ b → (at : ℕ) (r : Result Value FaultAt) (last : State) →
        Leaves (λ v. Added c state) (λ last. last ≡ state) r last →
        Keeps (λ r. Grown ((link + c) + n) state) (Framed state) (after_element extent next levels at r) last
    unfolding after_element
    after_stores n c extent next levels state g le at (Ok v) last a =
        let grown = added_grows c state last a in
        let up = grown.few in
        one_stores (nat_eq (end_of v) at) (at_end a.frames)
        (weaker_stores (grown_on (link + c) n state last grown)
        (g (pushed levels (Some v)) (end_of v) last (omega (arith, up, le))))
    after_stores n c extent next levels state g le at (Err f) last same =
        one_stores (ends_before extent f.0)
        (at_end (subst (Grown ((link + c) + n) state) (sym same) (not_grown ((link + c) + n) state)))
        (at_end (ap (λ (now : State). now.frames) same))

    elements_stores : (c s : ℕ) (extent : Extent) (element : Levels → ℕ → Plan (Result Value FaultAt)) →
        ((l : Levels) (at : ℕ) (now : State) → size now + c ≤ b →
        Keeps (λ v. Added c now) (λ last. last ≡ now) (element l at) now) →
        (n i : ℕ) (levels : Levels) (at : ℕ) (state : State) → full state + n * (link + c) ≤ b →
        Keeps (λ r. Grown (n * (link + c)) state) (Framed state) (elements_plan element m s extent n i levels at) state
    unfolding elements_plan
    elements_stores c s extent element g zero i levels at state le = at_end refl
    elements_stores c s extent element g (suc n) i levels at state le =
        one_stores (is_due extent m s i at)
        (at_tick (weaker_stores less (then_stores {P = Leaves (λ v. Added c state) (λ last. last ≡ state)} _
        (after_stores (n * (link + c)) c extent (elements_plan element m s extent n (i + 1)) levels state
        (elements_stores c s extent element g n (i + 1)) (omega arith) at) (g levels at state (omega arith)))))
        (one_stores (is_met extent s at) (at_end (not_grown (suc n * (link + c)) state)) (at_end refl))
      where
        less : (t : Result Opened FaultAt) (last : State) →
            Leaves (λ r. Grown ((link + c) + n * (link + c)) state) (Framed state) t last →
            Leaves (λ r. Grown (suc n * (link + c)) state) (Framed state) t last
        less (Ok u) last h = less_grown ((link + c) + n * (link + c)) (suc n * (link + c)) (omega arith) state last h
        less (Err f) last h = h

    -- what a value grew by
    within_added : (n : ℕ) (now : State) → size now + n ≤ b → (v : Value) (last : State) →
        Added n now last → Within last
    within_added n now up v last a = let few = a.few in omega (arith, few, up)

    few_added : (n : ℕ) (now : State) (r : Result Value FaultAt) (last : State) →
        Leaves (λ v. Added n now) (λ last. last ≡ now) r last →
        Leaves (λ v last. size last ≤ size now + n) (λ last. last ≡ now) r last
    few_added n now (Ok v) last a = a.few
    few_added n now (Err f) last same = same

    member_added : (n : ℕ) (now : State) (r : Result Value FaultAt) (last : State) →
        Leaves (λ v. IsMember vector n now) (Framed (moved packing Opens now)) r last →
        Leaves (λ v. Added n now) (Framed (moved packing Opens now)) r last
    member_added n now (Ok v) last h = record { frames = h.frames; few = h.few; one = h.one }
    member_added n now (Err f) last h = h

    -- all elements, and the end of the array
    abbrev array_plan : PokeType → Order → Extent → Levels → (s : ℕ) → Plan (Result Value FaultAt)
    array_plan element order extent levels s = then_ok
        (elements_plan (element_plan element (plan m element order)) m s extent (tries element) 0 (opened levels) s)
        (array_closes element s)

    -- in a store that packs them
    packed_stores : (element : PokeType) (order : Order) (extent : Extent) (levels : Levels) (s : ℕ) (state : State) →
        packing ≡ true → PacksNumbers (row_of element) →
        size state + array_full (row_of element) element ≤ b →
        Keeps (λ v. Added (array_full (row_of element) element) state)
        (Framed (moved packing Opens state)) (array_plan element order extent levels s) (moved packing Opens state)
    packed_stores element order extent levels s state e other le =
        let row = row_of element in
        let count = tries element in
        let start : State = moved true Opens state in
        subst (λ packs.
        Stores packs Apart Within (Leaves (λ v. Added (array_full row element) state) (Framed start))
        (array_plan element order extent levels s) start) (sym e)
        (ok_stores {P = λ r. IsPacked row count state} {Q = λ v. Added (array_full row element) state}
        {E = Framed start} _
        (λ r last p.
        let inner : innermost last.frames ≡ state.now = ap innermost p.frames in
        let closed =
        closed_row vector row state.now last.now count (apart element) (most element) (fit element) p.filled p.few in
        let one = row_pending row state.now last.now p.filled in
        let a : Added (array_full row element) state (moved true ClosesRow last) =
        rw inner (record { frames = ap around p.frames; few = closed; one = one }) in
        let a = subst (λ move. Added (array_full row element) state (moved true move last))
        (sym (packed_closes row other)) a in
        let few = a.few in
        let here : size (moved true (array_move row) last) ≤ b = omega (arith, few, le) in
        at_made (subst Within (sym (closes_needs true row last)) here) (at_end a))
        (packed_elements vector b m element other order count (apart element) (most element) (fit element) s extent
        state le count 0 0 (opened levels) s start
        (none_packed row 0 state) (omega arith)))

    packed_row : (element : PokeType) (order : Order) (extent : Extent) (levels : Levels) (s : ℕ) (state : State)
        (row : Row) → where_rows packing (row_of element) ≡ row → (row ≡ Apart → ⊥) → PacksNumbers row →
        size state + array_full row element ≤ b →
        Keeps (λ v. Added (array_full row element) state)
        (Framed (moved packing Opens state)) (array_plan element order extent levels s) (moved packing Opens state)
    packed_row element order extent levels s state row e other numbers le =
        let is = is_packed packing (row_of element) row e other in
        subst (λ kept. Keeps (λ v. Added (array_full kept element) state)
        (Framed (moved packing Opens state)) (array_plan element order extent levels s) (moved packing Opens state))
        is.1
        (packed_stores element order extent levels s state is.0 (subst PacksNumbers (sym is.1) numbers)
        (subst (λ kept. size state + array_full kept element ≤ b) (sym is.1) le))

    array_stores : (element : PokeType) (order : Order) →
        ((l : Levels) (at : ℕ) (now : State) → size now + most element ≤ b →
        Keeps (λ v. Added (most element) now) (λ last. last ≡ now) (plan m element order l at) now) →
        (extent : Extent) (levels : Levels) (s : ℕ) (state : State) (row : Row) →
        where_rows packing (row_of element) ≡ row →
        size state + array_full row element ≤ b →
        Keeps (λ v. Added (array_full row element) state)
        (Framed (moved packing Opens state)) (array_plan element order extent levels s) (moved packing Opens state)
    array_stores element order g extent levels s state Apart e le =
        let start : State = moved packing Opens state in
        let none = none_of vector state.now.pending in
        ok_stores {P = λ r. Grown (tries element * (link + most element)) start}
        {Q = λ v. Added (family + tries element * (link + most element)) state} {E = Framed start} _
        (λ r last grown.
        let a = closed_adds (tries element * (link + most element)) state last grown in
        let few = a.few in
        let here : size (moved packing Closes last) ≤ b = omega (arith, few, le) in
        let same = apart_closes packing (row_of element) e last in
        at_made (subst Within (sym (closes_needs packing (row_of element) last ∙ same)) here)
        (at_end (subst (Added (family + tries element * (link + most element)) state) (sym same) a)))
        (elements_stores (most element) s extent (element_plan element (plan m element order))
        (λ l p now up. apart_row packing (row_of element) e l (within_added (most element) now up) (g l p now up))
        (tries element) 0 (opened levels) s start (omega (arith, none, le)))
    array_stores element order g extent levels s state (Numbers width) e le =
        packed_row element order extent levels s state (Numbers width) e (λ same. cc) tt le
    array_stores element order g extent levels s state (Records widths) e le =
        packed_row element order extent levels s state (Records widths) e (λ same. cc) tt le
    array_stores element order g extent levels s state (Values stride) e le =
        let is = is_packed packing (row_of element) (Values stride) e (λ same. cc) in
        weaker_stores (member_added (values_full packing vector element m) state)
        (values_stores packing vector b m element order stride is.0 is.1
        (λ l at now up. weaker_stores (few_added (most element) now) (g l at now up)) state le extent levels s)

    -- ---- unions

    attempt_stores : (n c : ℕ) (levels : Levels) (next : Plan (Result Taken FaultAt)) (state : State) →
        innermost state.frames ≡ state.now → size state ≤ b → Keeps (λ t. Grown n state) (Framed state) next state →
        link + c ≤ n → (index : ℕ) (name : Naming) (r : Result Value FaultAt) (last : State) →
        Leaves (λ v. Added c state) (Framed state) r last →
        Keeps (λ t. Grown n state) (Framed state) (after_attempt levels next index name r) last
    unfolding after_attempt
    attempt_stores n c levels next state fresh room g le index name (Ok v) last a =
        at_end (less_grown (link + c) n le state last (added_grows c state last a))
    attempt_stores n c levels next state fresh room g le index name (Err f) last left =
        let back : moved packing Clears last ≡ state =
        ap (λ frames. record { now = innermost frames; frames = frames }) left
        ∙ ap (λ now. record { now = now; frames = state.frames }) fresh in
        one_stores (misses f.0) (at_made (subst Within (sym back) room)
        (subst (λ now. Keeps (λ t. Grown n state) (Framed state) next now) (sym back) g)) (at_end left)

    -- ---- types

    number_added : (levels : Levels) (state : State) → size state + number_bound vector ≤ b → {p : Value} →
        Keeps (λ v. Added (number_bound vector) state) (λ last. last ≡ state) (makes Places levels p) state
    number_added levels state le =
        let few = number_size vector state.now in
        at_made (omega (arith, few, le)) (at_end (record { frames = refl; few = few; one = refl }))

    mutual
      unfolding number_plan capacity_bound

      number_stores : (ty : PokeType) (n : ℕ) (levels : Levels) (s : ℕ) (state : State) → size state + most ty ≤ b →
          Keeps (λ v. Added (most ty) state) (λ last. last ≡ state) (number_plan ty n levels s) state
      number_stores (IntegerOf type) n levels s state le = number_added levels state le
      number_stores (OffsetOf type unit) n levels s state le = number_added levels state le
      number_stores StringOf n levels s state le = at_end refl
      number_stores (ArrayOf element bound) n levels s state le = at_end refl
      number_stores (StructOf name pinned _) n levels s state le = at_end refl
      number_stores (IntegralOf name type fields) n levels s state le =
          let none = none_of vector state.now.pending in
          let start : State = moved packing Opens state in
          framed_stores {Q = λ v. Added (family + parts_most fields) state} levels
          (omega (arith, le)) (omega (arith, le))
          (ok_stores {P = λ r. Grown (parts_most fields) start} {Q = λ v. Added (family + parts_most fields) state}
          {E = Framed start} _
          (λ r last grown. closes_stores (parts_most fields)
          (struct_value name (part_names fields) s (s + type.width)) r state last grown le)
          (digits_stores fields n type.width (opened levels) s start (omega (arith, none, le))))
      number_stores (UnionOf name alternatives) n levels s state le = at_end refl

      digits_stores : (parts : Parts) (n left : ℕ) (levels : Levels) (s : ℕ) (state : State) →
          full state + parts_most parts ≤ b →
          Keeps (λ r. Grown (parts_most parts) state) (Framed state) (digits_plan parts n left levels s) state
      digits_stores NoParts n left levels s state le = at_end (not_grown 0 state)
      digits_stores (PartThen name set ty c rest) n left levels s state le =
          at_tick (ok_stores {P = λ v. Added (most ty) state}
          {Q = λ r. Grown ((link + most ty) + parts_most rest) state} {E = Framed state} _
          (λ v last a.
          let g = added_grows (most ty) state last a in
          let up = g.few in
          weaker_stores (grown_on (link + most ty) (parts_most rest) state last g) (digits_stores rest n
          (left - width_in (number_type ty)) (pushed levels (Some v)) s last (omega (arith, up, le))))
          (valued_stores (most ty) c levels s state (at_tick
          (number_stores ty (first_digits n left (width_in (number_type ty))) levels s state (omega (arith, le))))))

    read_stores : (ty : PokeType) (type : IntegerType) (order : Order) (levels : Levels) (s : ℕ) (state : State) →
        size state + most ty ≤ b →
        Keeps (λ v. Added (most ty) state) (λ last. last ≡ state) (read_plan m ty type order levels s) state
    unfolding read_plan
    read_stores ty type order levels s state le = at_tick
        (one_stores (nat_le (s + type.width) m) (at_read (λ n. number_stores ty n levels s state le)) (at_end refl))

    mutual
      unfolding plan capacity_bound

      plan_stores : (ty : PokeType) (order : Order) (levels : Levels) (s : ℕ) (state : State) →
          size state + most ty ≤ b →
          Keeps (λ v. Added (most ty) state) (λ last. last ≡ state) (plan m ty order levels s) state
      plan_stores (IntegerOf type) order levels s state le =
          inside_stores m s refl (read_stores (IntegerOf type) type order levels s state le)
      plan_stores (OffsetOf type unit) order levels s state le =
          inside_stores m s refl (read_stores (OffsetOf type unit) type order levels s state le)
      plan_stores StringOf order levels s state le =
          inside_stores m s refl (at_tick (framed_stores {Q = λ v. Added (string_bound vector m) state}
          levels (omega (arith, le)) (omega (arith, le))
          (text_stores state le (m / 8 + 1) [] levels s s (moved packing Opens state) (omega arith)
          (record { frames = refl; few = omega arith }) (omega arith))))
      plan_stores (ArrayOf element bound) order levels s state le =
          inside_stores m s refl (at_tick (told_stores {Q = λ v. Added (most (ArrayOf element bound)) state}
          {E = λ last. last ≡ state} _ (extent_of bound levels s) _ refl
          (λ extent. framed_stores {Q = λ v. Added (most (ArrayOf element bound)) state} levels
          (omega (arith, le)) (omega (arith, le))
          (array_stores element order (λ l p now up. plan_stores element order l p now up) extent levels s state
          (where_rows packing (row_of element)) refl le))))
      plan_stores (StructOf name pinned fields) order levels s state le =
          let none = none_of vector state.now.pending in
          let start : State = moved packing Opens state in
          inside_stores m s refl (at_tick (framed_stores {Q = λ v. Added (family + fields_most fields) state}
          levels (omega (arith, le)) (omega (arith, le))
          (ok_stores {P = λ r. Grown (fields_most fields) start} {Q = λ v. Added (family + fields_most fields) state}
          {E = Framed start} _
          (λ r last grown.
          closes_stores (fields_most fields) (struct_value name (field_names fields) s r.1) r.0 state last grown le)
          (fields_stores pinned s fields order (opened levels) s s start (omega (arith, none, le))))))
      plan_stores (IntegralOf name type fields) order levels s state le =
          inside_stores m s refl (read_stores (IntegralOf name type fields) type order levels s state le)
      plan_stores (UnionOf name alternatives) order levels s state le =
          let none = none_of vector state.now.pending in
          let start : State = moved packing Opens state in
          inside_stores m s refl (at_tick (framed_stores {Q = λ v. Added (family + greatest alternatives) state}
          levels (omega (arith, le)) (omega (arith, le))
          (ok_stores {P = λ t. Grown (greatest alternatives) start}
          {Q = λ v. Added (family + greatest alternatives) state} {E = Framed start} _
          (λ t last grown.
          let a = closed_adds (greatest alternatives) state last grown in
          let few = a.few in at_made (omega (arith, few, le)) (at_end a))
          (alternatives_stores alternatives 0 order (opened levels) s start refl (omega (arith, none, le))))))

      fields_stores : (pinned : Bool) (s : ℕ) (fields : Fields) (order : Order) (levels : Levels) (behind top : ℕ)
          (state : State) → full state + fields_most fields ≤ b →
          Keeps (λ r. Grown (fields_most fields) state) (Framed state)
          (fields_plan m pinned s fields order levels behind top) state
      fields_stores pinned s NoFields order levels behind top state le = at_end (not_grown 0 state)
      fields_stores pinned s (FieldThen name set ty c label when rest) order levels behind top state le =
          at_tick (told_stores {Q = λ r. Grown ((link + most ty) + fields_most rest) state} {E = Framed state} _
          (condition when levels s) _ refl
          (λ there. one_stores there
          (told_stores {Q = λ r. Grown ((link + most ty) + fields_most rest) state} {E = Framed state} _
          (field_start pinned label levels s behind) _ refl
          (λ p. ok_stores {P = λ v. Added (most ty) state} {Q = λ r. Grown ((link + most ty) + fields_most rest) state}
          {E = Framed state} _
          (λ v last a.
          let g = added_grows (most ty) state last a in
          let up = g.few in
          weaker_stores (grown_on (link + most ty) (fields_most rest) state last g) (fields_stores pinned s rest order
          (pushed levels (Some v)) (end_of v) (max top (end_of v)) last (omega (arith, up, le))))
          (valued_stores (most ty) c levels p state
          (plan_stores ty (ordered set order) levels p state (omega (arith, le))))))
          (let a : Added (most ty) state (moved packing LeavesOut state) =
          record { frames = refl; few = absent_size packing vector ty m state.now; one = refl } in
          let g = added_grows (most ty) state (moved packing LeavesOut state) a in
          let few = a.few in
          let up = g.few in
          at_made (omega (arith, few, le)) (weaker_stores
          (grown_on (link + most ty) (fields_most rest) state (moved packing LeavesOut state) g) (fields_stores pinned s
          rest order (pushed levels None) behind top (moved packing LeavesOut state) (omega (arith, up, le)))))))

      alternatives_stores : (parts : Parts) (index : ℕ) (order : Order) (levels : Levels) (s : ℕ) (state : State) →
          innermost state.frames ≡ state.now → full state + greatest parts ≤ b →
          Keeps (λ t. Grown (greatest parts) state) (Framed state)
          (alternatives_plan m parts index order levels s) state
      alternatives_stores NoParts index order levels s state fresh le = at_end refl
      alternatives_stores (PartThen name set ty c rest) index order levels s state fresh le =
          at_tick (then_stores {P = Leaves (λ v. Added (most ty) state) (Framed state)} _
          (attempt_stores (max (link + most ty) (greatest rest)) (most ty) levels _ state fresh (omega (arith, le))
          (weaker_stores wider (alternatives_stores rest (index + 1) order levels s state fresh (omega (arith, le))))
          (omega arith) index name)
          (valued_stores (most ty) c levels s state
          (plan_stores ty (ordered set order) levels s state (omega (arith, le)))))
        where
          wider : (r : Result Taken FaultAt) (last : State) →
              Leaves (λ t. Grown (greatest rest) state) (Framed state) r last →
              Leaves (λ t. Grown (max (link + most ty) (greatest rest)) state) (Framed state) r last
          wider (Ok t) last h =
              less_grown (greatest rest) (max (link + most ty) (greatest rest)) (omega arith) state last h
          wider (Err f) last h = h

-- on the way a vector takes at most the type's bound more than it did before
pub moves_within : (packing : Bool) (vector : Vector) (m : ℕ) (ty : PokeType) (order : Order) (levels : Levels)
    (s : ℕ) (state : State) →
    Stores packing Apart
    (λ now. of_vector vector now.now ≤ of_vector vector state.now + capacity_bound packing vector ty m)
    (Leaves (λ v. Added packing vector (capacity_bound packing vector ty m) state) (λ last. last ≡ state))
    (plan m ty order levels s) state
moves_within packing vector m ty order levels s state = plan_stores packing vector
    (of_vector vector state.now + capacity_bound packing vector ty m) m ty order levels s state (omega arith)
