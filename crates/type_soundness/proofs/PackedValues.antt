-- While the elements of an array are mapped that a store packs as values of fixed layout, its vectors grow by at most
-- the array's bound, whatever is read.
use Rattle.std.proofs.Common.{◌≡◌, ℕ, zero, suc, ◌+◌, ◌-◌, ◌*◌, ◌<◌, ◌≤◌, min, true, ◌∷◌, Some, Result, Ok, Err, refl, sym, ap, subst, ◌∙◌, arith}
use Rattle.std.specs.Prelude.{nat_eq}
use Rattle.std.proofs.Math.Nat.{mul-add, mul-le-mul_left, mul-le-mul_right}
use Rattle.std.proofs.lemmas.Bool.{eq-eqb, ne_eqb}
use Rattle.pickle_meaning.specs.declared.extent.Extent.{Extent}
use Rattle.pickle_meaning.specs.Values.{Value, end_of, Levels, pushed}
use Rattle.pickle_meaning.specs.Clauses.{FaultAt, is_due, is_met, ends_before}
use Rattle.pickle_meaning.specs.Means.{Opened}
use Rattle.mapping_plans.specs.Plan.{Plan, then_ok}
use Rattle.mapping_plans.specs.Mapping.{packs_last, after_element, elements_plan}
use Rattle.mapping_plans.specs.Rows.{Apart}
use Rattle.mapping_plans.proofs.Adding.{with_one}
use Rattle.mapping_plans.proofs.Stored.{Stores, at_end, at_tick, at_made, Leaves, then_stores, ok_stores, one_stores}
use Rattle.value_store.specs.declared.store.slots.Marks.{Marks}
use Rattle.value_store.specs.Layouts.{row_length, value_size, template_size, packs_value}
use Rattle.value_store.specs.Moves.{ValueSize, TemplateSize, Opens, State, moved, needed, with_links, with_row, with_value, with_first_value, with_first_drafted, with_next_value}
use Rattle.value_store.proofs.Moved.{same-marks}
use Rattle.value_store.specs.Takes.{Vector, NodesOf, FamiliesOf, LinksOf, PendingOf, TextsOf, BytesOf, of_vector}
use Rattle.type_soundness.specs.Capacity.{values_bound}

-- ---- lengths

-- what the first value of an array takes, its template and the array, with so many bytes in all
abbrev some_take : Vector → (apart each bytes : ℕ) → ℕ
some_take NodesOf apart each bytes = 2 * apart + 1
some_take FamiliesOf apart each bytes = 2 * apart + 1
some_take LinksOf apart each bytes = 2 * apart
some_take PendingOf apart each bytes = 1
some_take TextsOf apart each bytes = each + 1
some_take BytesOf apart each bytes = bytes

-- an open array has packed values, `c` or fewer, and began at k
pub record SomeValues (vector : Vector) (apart each fit c : ℕ) (k n : Marks) : Type 0 where
  pub some : 1 ≤ c
  pub pending : n.pending ≡ k.pending + 1
  pub nodes : k.nodes < n.nodes
  pub few : of_vector vector n ≤ of_vector vector k + some_take vector apart each (fit * c)

-- a value takes at most as much as where nothing is packed, but for texts and bytes
abbrev pub IsFewer : Vector → (each apart : ℕ) → Type 0
IsFewer NodesOf each apart = each ≤ apart
IsFewer FamiliesOf each apart = each ≤ apart
IsFewer LinksOf each apart = each ≤ apart
IsFewer PendingOf each apart = each ≤ apart
IsFewer TextsOf each apart = Unit {0}
IsFewer BytesOf each apart = Unit {0}

-- a template has no texts and no bytes, and each of its nodes has a place while it is made
abbrev pub template_takes : Vector → TemplateSize → ℕ
template_takes NodesOf template = template.nodes
template_takes FamiliesOf template = template.families
template_takes LinksOf template = template.links
template_takes PendingOf template = template.nodes
template_takes TextsOf template = 0
template_takes BytesOf template = 0

-- the value after an array takes at most `each`, and its template `apart`; packed, it has so many bytes more
pub record IsSmall (vector : Vector) (size : ValueSize) (template : TemplateSize) (stride apart each fit : ℕ)
    (n : Marks) : Type 0 where
  pub few : of_vector vector (with_value size n) ≤ of_vector vector n + each
  pub drafted : template_takes vector template ≤ apart
  pub bytes : size.bytes + stride ≤ fit

-- what is there at most
twice : (count apart : ℕ) → 1 ≤ count → 2 * apart ≤ min 3 (count + 1) * apart
twice count apart some = let two : 2 ≤ min 3 (count + 1) = omega arith in mul-le-mul_right apart two

thrice : (count apart : ℕ) → 2 ≤ count → 3 * apart ≤ min 3 (count + 1) * apart
thrice count apart some = let three : 3 ≤ min 3 (count + 1) = omega arith in mul-le-mul_right apart three

one_text : (count each : ℕ) → 1 ≤ count → 1 * each ≤ min 2 count * each
one_text count each some = let one : 1 ≤ min 2 count = omega arith in mul-le-mul_right each one

two_texts : (count each : ℕ) → 2 ≤ count → 2 * each ≤ min 2 count * each
two_texts count each some = let two : 2 ≤ min 2 count = omega arith in mul-le-mul_right each two

-- the bytes of all but one
other_bytes : (c count fit : ℕ) → c + 1 ≤ count → fit * c ≤ fit * (count - 1)
other_bytes c count fit le = let others : c ≤ count - 1 = omega (arith, le) in mul-le-mul_left fit others

all_bytes : (count fit : ℕ) → 1 ≤ count → fit * count ≤ fit * (count - 1) + fit
all_bytes count fit some =
    let le : count ≤ (count - 1) + 1 = omega (arith, some) in
    let all = mul-le-mul_left fit le in
    let sum = mul-add fit (count - 1) 1 in
    omega (arith, all, sum)

module _ (apart each fit count : ℕ) where
  -- the first value, its template and the array
  first_drafted : (vector : Vector) (size : ValueSize) (template : TemplateSize) (stride : ℕ) (k : Marks) →
      1 ≤ count → IsFewer vector each apart → IsSmall vector size template stride apart each fit k →
      of_vector vector (with_first_drafted template stride (with_value size k))
      ≤ of_vector vector k + values_bound vector count apart each fit
  first_drafted NodesOf size template stride k some less s =
      let few = s.few in let more = s.drafted in let two = twice count apart some in omega (arith, few, less, more, two)
  first_drafted FamiliesOf size template stride k some less s =
      let few = s.few in let more = s.drafted in let two = twice count apart some in omega (arith, few, less, more, two)
  first_drafted LinksOf size template stride k some less s =
      let few = s.few in let more = s.drafted in let two = twice count apart some in omega (arith, few, less, more, two)
  first_drafted PendingOf size template stride k some less s = let more = s.drafted in omega (arith, more)
  first_drafted TextsOf size template stride k some less s =
      let few = s.few in let one = one_text count each some in omega (arith, few, one)
  first_drafted BytesOf size template stride k some less s = let bytes = s.bytes in omega (arith, bytes)

  first_size : (vector : Vector) (size : ValueSize) (template : TemplateSize) (stride c : ℕ) (k : Marks) →
      IsFewer vector each apart → IsSmall vector size template stride apart each fit k →
      of_vector vector (with_first_value template stride (with_value size k))
      ≤ of_vector vector k + some_take vector apart each (fit * (c + 1))
  first_size NodesOf size template stride c k less s =
      let few = s.few in let more = s.drafted in omega (arith, few, less, more)
  first_size FamiliesOf size template stride c k less s =
      let few = s.few in let more = s.drafted in omega (arith, few, less, more)
  first_size LinksOf size template stride c k less s =
      let few = s.few in let more = s.drafted in omega (arith, few, less, more)
  first_size PendingOf size template stride c k less s = omega arith
  first_size TextsOf size template stride c k less s = let few = s.few in omega (arith, few)
  first_size BytesOf size template stride c k less s =
      let bytes = s.bytes in let sum = mul-add fit c 1 in omega (arith, bytes, sum)

  first_values : (vector : Vector) (size : ValueSize) (template : TemplateSize) (stride c : ℕ) (k : Marks) →
      IsFewer vector each apart → IsSmall vector size template stride apart each fit k →
      SomeValues vector apart each fit (c + 1) k (with_first_value template stride (with_value size k))
  first_values vector size template stride c k less s = record {
    some = omega arith;
    pending = refl;
    nodes = omega arith;
    few = first_size vector size template stride c k less s;
  }

  -- another value after the array, whose own bytes are given up for those that the array gets
  after_size : (vector : Vector) (size : ValueSize) (template : TemplateSize) (stride c bytes : ℕ) (k n : Marks) →
      c + 1 ≤ count → IsFewer vector each apart → SomeValues vector apart each fit c k n →
      IsSmall vector size template stride apart each fit n → bytes ≡ n.bytes + stride →
      of_vector vector (record (with_value size n) { bytes = bytes })
      ≤ of_vector vector k + values_bound vector count apart each fit
  after_size NodesOf size template stride c bytes k n le less h s given =
      let own = s.few in
      let few = h.few in
      let some = h.some in
      let three = thrice count apart (omega (arith, le, some)) in
      omega (arith, own, few, less, three)
  after_size FamiliesOf size template stride c bytes k n le less h s given =
      let own = s.few in
      let few = h.few in
      let some = h.some in
      let three = thrice count apart (omega (arith, le, some)) in
      omega (arith, own, few, less, three)
  after_size LinksOf size template stride c bytes k n le less h s given =
      let own = s.few in
      let few = h.few in
      let some = h.some in
      let three = thrice count apart (omega (arith, le, some)) in
      omega (arith, own, few, less, three)
  after_size PendingOf size template stride c bytes k n le less h s given =
      let own = s.few in let one = h.pending in omega (arith, own, one, less)
  after_size TextsOf size template stride c bytes k n le less h s given =
      let own = s.few in
      let few = h.few in
      let some = h.some in
      let two = two_texts count each (omega (arith, le, some)) in
      omega (arith, own, few, two)
  after_size BytesOf size template stride c bytes k n le less h s given =
      let own = s.bytes in
      let few = h.few in
      let others = other_bytes c count fit le in
      omega (arith, own, few, others, given)

  -- while it is mapped
  mapped_size : (vector : Vector) (c : ℕ) (k n : Marks) → c + 1 ≤ count → IsFewer vector each apart →
      SomeValues vector apart each fit c k n →
      of_vector vector n + each ≤ of_vector vector k + values_bound vector count apart each fit
  mapped_size NodesOf c k n le less h =
      let few = h.few in
      let some = h.some in
      let three = thrice count apart (omega (arith, le, some)) in
      omega (arith, few, less, three)
  mapped_size FamiliesOf c k n le less h =
      let few = h.few in
      let some = h.some in
      let three = thrice count apart (omega (arith, le, some)) in
      omega (arith, few, less, three)
  mapped_size LinksOf c k n le less h =
      let few = h.few in
      let some = h.some in
      let three = thrice count apart (omega (arith, le, some)) in
      omega (arith, few, less, three)
  mapped_size PendingOf c k n le less h = let one = h.pending in omega (arith, one, less)
  mapped_size TextsOf c k n le less h =
      let few = h.few in
      let some = h.some in
      let two = two_texts count each (omega (arith, le, some)) in
      omega (arith, few, two)
  mapped_size BytesOf c k n le less h =
      let few = h.few in let others = other_bytes c count fit le in omega (arith, few, others)

  -- while the first is mapped
  alone_size : (vector : Vector) → 1 ≤ count → IsFewer vector each apart →
      each ≤ values_bound vector count apart each fit
  alone_size NodesOf some less = let two = twice count apart some in omega (arith, less, two)
  alone_size FamiliesOf some less = let two = twice count apart some in omega (arith, less, two)
  alone_size LinksOf some less = let two = twice count apart some in omega (arith, less, two)
  alone_size PendingOf some less = omega (arith, less)
  alone_size TextsOf some less = let one = one_text count each some in omega (arith, one)
  alone_size BytesOf some less = omega arith

  -- without elements it is a family
  empty_array : (vector : Vector) (k : Marks) →
      of_vector vector (with_links k k) ≤ of_vector vector k + values_bound vector count apart each fit
  empty_array NodesOf k = omega arith
  empty_array FamiliesOf k = omega arith
  empty_array LinksOf k = omega arith
  empty_array PendingOf k = omega arith
  empty_array TextsOf k = omega arith
  empty_array BytesOf k = omega arith

  less_taken : (vector : Vector) → 1 ≤ count →
      some_take vector apart each (fit * count) ≤ values_bound vector count apart each fit
  less_taken NodesOf some = let two = twice count apart some in omega (arith, two)
  less_taken FamiliesOf some = let two = twice count apart some in omega (arith, two)
  less_taken LinksOf some = let two = twice count apart some in omega (arith, two)
  less_taken PendingOf some = omega arith
  less_taken TextsOf some = let one = one_text count each some in omega (arith, one)
  less_taken BytesOf some = let all = all_bytes count fit some in omega (arith, all)

next_marks : (size : ValueSize) (stride : ℕ) (n : Marks) →
    with_next_value size stride (with_value size n) ≡ record n { bytes = n.bytes + stride }
next_marks size stride n =
    let nodes : (n.nodes + size.nodes) - size.nodes ≡ n.nodes = omega arith in
    let families : (n.families + size.families) - size.families ≡ n.families = omega arith in
    let links : (n.links + size.links) - size.links ≡ n.links = omega arith in
    let pending : (n.pending + 1) - 1 ≡ n.pending = omega arith in
    let texts : (n.texts + size.texts) - size.texts ≡ n.texts = omega arith in
    let bytes : ((n.bytes + size.bytes) - size.bytes) + stride ≡ n.bytes + stride = omega arith in
    same-marks _ _ nodes families links pending texts bytes

more_bytes : (vector : Vector) (apart each fit stride c : ℕ) (k n : Marks) → stride ≤ fit →
    of_vector vector n ≤ of_vector vector k + some_take vector apart each (fit * c) →
    of_vector vector (record n { bytes = n.bytes + stride })
    ≤ of_vector vector k + some_take vector apart each (fit * (c + 1))
more_bytes BytesOf apart each fit stride c k n le few =
    let more = mul-add fit c 1 in omega (arith, few, more, le)
more_bytes NodesOf apart each fit stride c k n le few = few
more_bytes FamiliesOf apart each fit stride c k n le few = few
more_bytes LinksOf apart each fit stride c k n le few = few
more_bytes PendingOf apart each fit stride c k n le few = few
more_bytes TextsOf apart each fit stride c k n le few = few

next_values : (vector : Vector) (apart each fit stride c : ℕ) (k n : Marks) → stride ≤ fit →
    SomeValues vector apart each fit c k n →
    SomeValues vector apart each fit (c + 1) k (record n { bytes = n.bytes + stride })
next_values vector apart each fit stride c k n le h = record {
  some = omega arith;
  pending = h.pending;
  nodes = h.nodes;
  few = more_bytes vector apart each fit stride c k n le h.few;
}

wider_values : (vector : Vector) (apart each fit c count : ℕ) (k n : Marks) → c ≤ count →
    SomeValues vector apart each fit c k n → SomeValues vector apart each fit count k n
wider_values vector apart each fit c count k n le h =
    let some = h.some in
    record { some = omega (arith, some, le); pending = h.pending; nodes = h.nodes; few = wider vector h.few }
  where
    wider : (vector : Vector) →
        of_vector vector n ≤ of_vector vector k + some_take vector apart each (fit * c) →
        of_vector vector n ≤ of_vector vector k + some_take vector apart each (fit * count)
    wider BytesOf few = let more = mul-le-mul_left fit le in omega (arith, few, more)
    wider NodesOf few = few
    wider FamiliesOf few = few
    wider LinksOf few = few
    wider PendingOf few = few
    wider TextsOf few = few

-- ---- states

-- what an open array has that began at k: no value yet, or packed ones
pub data AreValues (vector : Vector) (apart each fit c : ℕ) (k : Marks) : Marks → Type 0 where
  no_value : AreValues vector apart each fit c k k
  some_values : {n : Marks} → SomeValues vector apart each fit c k n → AreValues vector apart each fit c k n

-- so many packed values at most, in the frame of their array, which was opened in `state`
pub record HasValues (vector : Vector) (apart each fit c : ℕ) (state last : State) : Type 0 where
  pub frames : last.frames ≡ state.now ∷ state.frames
  pub values : AreValues vector apart each fit c state.now last.now

-- a value that was mapped after them
pub record IsAfter (vector : Vector) (apart each fit : ℕ) (now : State) (v : Value) (last : State) : Type 0 where
  pub is : last ≡ with_one v now
  pub small : IsSmall vector (value_size v) (template_size v) (row_length v) apart each fit now.now

module _ (vector : Vector) (apart each fit count : ℕ) (less : IsFewer vector each apart) where
  -- what the array takes
  abbrev all : ℕ
  all = values_bound vector count apart each fit

  abbrev Has : (c : ℕ) → State → State → Type 0
  Has c state last = HasValues vector apart each fit c state last

  fewer : (c : ℕ) → c ≤ count → (state last : State) → Has c state last → Has count state last
  fewer c le state last h = record { frames = h.frames; values = told h.values }
    where
      told : {n : Marks} → AreValues vector apart each fit c state.now n →
          AreValues vector apart each fit count state.now n
      told no_value = no_value
      told (some_values {n} s) = some_values (wider_values vector apart each fit c count state.now n le s)

  -- there is room for one more
  pub room_for : (c : ℕ) → c + 1 ≤ count → (state last : State) → Has c state last →
      of_vector vector last.now + each ≤ of_vector vector state.now + all
  room_for c le state last h = told h.values
    where
      told : {n : Marks} → AreValues vector apart each fit c state.now n →
          of_vector vector n + each ≤ of_vector vector state.now + all
      told no_value =
          let most = alone_size apart each fit count vector (omega (arith, le)) less in omega (arith, most)
      told (some_values {n} s) = mapped_size apart each fit count vector c state.now n le less s

  -- what the move of a value needs, and what is there after it
  record IsMoved (c : ℕ) (state last : State) (v : Value) : Type 0 where
    few : of_vector vector (needed true (packs_value v) last).now ≤ of_vector vector state.now + all
    next : Has (c + 1) state (moved true (packs_value v) last)

  first_moved : (c : ℕ) → c + 1 ≤ count → (state : State) (v : Value) →
      IsSmall vector (value_size v) (template_size v) (row_length v) apart each fit state.now →
      IsMoved c state (record { now = with_value (value_size v) state.now; frames = state.now ∷ state.frames }) v
  first_moved c le state v s =
      let size = value_size v in
      let template = template_size v in
      let stride = row_length v in
      let here = eq-eqb (state.now.pending + 1) (state.now.pending + 1) refl in
      let most = first_drafted apart each fit count vector size template stride state.now (omega (arith, le)) less s in
      let values = first_values apart each fit count vector size template stride c state.now less s in
      record { few = rw here most; next = rw here (record { frames = refl; values = some_values values }) }

  next_moved : (c : ℕ) → c + 1 ≤ count → (state : State) (n : Marks) (v : Value) →
      SomeValues vector apart each fit c state.now n →
      IsSmall vector (value_size v) (template_size v) (row_length v) apart each fit n →
      IsMoved c state (record { now = with_value (value_size v) n; frames = state.now ∷ state.frames }) v
  next_moved c le state n v h s =
      let size = value_size v in
      let template = template_size v in
      let stride = row_length v in
      let one = h.pending in
      let own = s.bytes in
      let other = ne_eqb (n.pending + 1) (state.now.pending + 1) (λ e. omega (arith, one, e)) in
      let bytes = ((n.bytes + size.bytes) - size.bytes) + stride in
      let most =
      after_size apart each fit count vector size template stride c bytes state.now n le less h s (omega arith) in
      let values = next_values vector apart each fit stride c state.now n (omega (arith, own)) h in
      record {
        few = rw other most;
        next = rw other (record {
          frames = refl;
          values = some_values (subst (SomeValues vector apart each fit (c + 1) state.now)
              (sym (next_marks size stride n)) values);
        });
      }

  -- a value that was mapped is packed
  value_moved : (c : ℕ) → c + 1 ≤ count → (state now last : State) (v : Value) → Has c state now →
      IsAfter vector apart each fit now v last → IsMoved c state last v
  value_moved c le state now last v h b =
      subst (λ after. IsMoved c state after v)
      (sym (b.is ∙ ap (λ frames. record { now = with_value (value_size v) now.now; frames = frames }) h.frames))
      (told h.values b.small)
    where
      told : {n : Marks} → AreValues vector apart each fit c state.now n →
          IsSmall vector (value_size v) (template_size v) (row_length v) apart each fit n →
          IsMoved c state (record { now = with_value (value_size v) n; frames = state.now ∷ state.frames }) v
      told no_value s = first_moved c le state v s
      told (some_values {n} values) s = next_moved c le state n v values s

  -- ---- elements

  module _ (most : ℕ) (state : State)
      (room : of_vector vector state.now + all ≤ most) where
    -- what is stored takes at most this
    abbrev Within : State → Type 0
    Within now = of_vector vector now.now ≤ most

    abbrev Fills : {A : Type 0} → (Q : A → State → Type 0) → Plan (Result A FaultAt) → State → Type 0
    Fills Q p last = Stores true Apart Within (Leaves Q (λ now. now.frames ≡ state.now ∷ state.frames)) p last

    -- one more element: it is mapped, and then packed
    pub packed_value : (c : ℕ) → c + 1 ≤ count → (levels : Levels) (now : State) →
        Has c state now → {p : Plan (Result Value FaultAt)} →
        Stores true Apart Within (Leaves (IsAfter vector apart each fit now) (λ last. last ≡ now)) p now →
        Stores true Apart Within
        (Leaves (λ v. Has (c + 1) state) (λ last. last ≡ now)) (then_ok p (packs_last levels))
        now
    packed_value c le levels now h g =
        ok_stores {P = IsAfter vector apart each fit now} {Q = λ v. Has (c + 1) state}
        {E = λ last. last ≡ now} _
        (λ v last b.
        let m = value_moved c le state now last v h b in
        let few = m.few in
        at_made (omega (arith, few, room)) (at_end m.next)) g

    values_after : (n c : ℕ) (extent : Extent) (next : Levels → ℕ → Plan (Result Opened FaultAt)) (levels : Levels)
        (last : State) → Has c state last → c + suc n ≤ count →
        ((l : Levels) (at : ℕ) (now : State) → Has (c + 1) state now →
        Fills (λ r. Has count state) (next l at) now) →
        (at : ℕ) (r : Result Value FaultAt) (now : State) →
        Leaves (λ v. Has (c + 1) state) (λ now. now ≡ last) r now →
        Fills (λ r. Has count state) (after_element extent next levels at r) now
    unfolding after_element
    values_after n c extent next levels last h le g at (Ok v) now more =
        one_stores (nat_eq (end_of v) at) (at_end more.frames) (g (pushed levels (Some v)) (end_of v) now more)
    values_after n c extent next levels last h le g at (Err f) now same =
        let here = subst (Has c state) (sym same) h in
        one_stores (ends_before extent f.0) (at_end (fewer c (omega (arith, le)) state now here)) (at_end here.frames)

    module _ (m s : ℕ) (extent : Extent) (element : Levels → ℕ → Plan (Result Value FaultAt))
        (maps : (c : ℕ) → c + 1 ≤ count → (l : Levels) (at : ℕ) (now : State) →
        Has c state now →
        Stores true Apart Within (Leaves (λ v. Has (c + 1) state) (λ last. last ≡ now))
        (element l at) now) where
      pub value_elements : (n i c : ℕ) (levels : Levels) (at : ℕ) (last : State) →
          Has c state last → c + n ≤ count →
          Fills (λ r. Has count state) (elements_plan element m s extent n i levels at) last
      unfolding elements_plan
      value_elements zero i c levels at last h le = at_end h.frames
      value_elements (suc n) i c levels at last h le =
          one_stores (is_due extent m s i at)
          (at_tick (then_stores {P = Leaves (λ v. Has (c + 1) state) (λ now. now ≡ last)} _
          (values_after n c extent (elements_plan element m s extent n (i + 1)) levels last h le
          (λ l p now more. value_elements n (i + 1) (c + 1) l p now more (omega (arith, le))) at)
          (maps c (omega (arith, le)) levels at last h)))
          (one_stores (is_met extent s at) (at_end (fewer c (omega (arith, le)) state last h)) (at_end h.frames))

-- ---- the array

pub none_yet : (vector : Vector) (apart each fit : ℕ) (state : State) →
    HasValues vector apart each fit 0 state (moved true Opens state)
none_yet vector apart each fit state = record { frames = refl; values = no_value }

-- the array, once it is closed
pub record IsClosed (vector : Vector) (most : ℕ) (k n : Marks) : Type 0 where
  pub few : of_vector vector (with_row true k n) ≤ of_vector vector k + most
  pub one : (with_row true k n).pending ≡ k.pending + 1

pub closed_values : (vector : Vector) (apart each fit count : ℕ) (k n : Marks) →
    AreValues vector apart each fit count k n → IsClosed vector (values_bound vector count apart each fit) k n
closed_values vector apart each fit count k _ no_value =
    let here = eq-eqb k.nodes k.nodes refl in
    let few = empty_array apart each fit count vector k in
    record { few = rw here few; one = rw here refl }
closed_values vector apart each fit count k _ (some_values {n} s) =
    let nodes = s.nodes in
    let few = s.few in
    let less = less_taken apart each fit count vector s.some in
    let other = ne_eqb n.nodes k.nodes (λ e. omega (arith, nodes, e)) in
    record { few = rw other (omega (arith, few, less)); one = rw other s.pending }
