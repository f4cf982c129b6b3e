-- What the templates of values take, and how much capacity they need on the way.
use Rattle.std.proofs.Common.{◌≡◌, ℕ, zero, suc, ◌+◌, ◌-◌, ◌<◌, ◌≤◌, Bool, true, false, [], ◌∷◌, Some, refl, sym, ◌∙◌, ap, eq-eqb, ne_eqb, arith}
use Rattle.std.specs.Prelude.{if◌then◌else◌}
use Rattle.value_store.specs.declared.store.slots.Marks.{Marks}
use Rattle.pickle_meaning.specs.Values.{Label, IntegerLabel, OffsetLabel, TextLabel, ArrayLabel, StructLabel, UnionLabel, Value, Mapped, Members, NoMembers, MemberThen, AbsentThen, label_of, members_of, member_at, member_count}
use Rattle.value_store.specs.LayoutArrays.{drafts, with_array, with_first}
use Rattle.value_store.specs.Layouts.{label_length, label_place, row_length, template_of, templates_of, templates_upto, template_size, IsFixed, AreFixed}
use Rattle.value_store.specs.Moves.{ValueSize, TemplateSize, PacksValue, State, IsWithin, with_number, with_links, with_value, with_first_value, with_first_drafted, with_next_value, packed_value, drafted_value, moved, needed}
use Rattle.value_store.specs.Slots.{innermost}
use Rattle.value_store.specs.Takes.{Vector, NodesOf, FamiliesOf, LinksOf, PendingOf, TextsOf, BytesOf, of_vector, packed_width, families_taken, own_takes, value_takes, members_take, place_takes, level_takes}
use Rattle.value_store.proofs.Layouts.{templates-all}
use Rattle.value_store.proofs.Moved.{same-marks, framed}
use Rattle.value_store.proofs.Taken.{not_packed, kept-members, level_pending, members_take-of, member_count-of, value_pending}

-- a value takes its own, and what its members take
pub own-inside : (vector : Vector) (label : Label) (start end : ℕ) (ms : Members) →
    value_takes false vector (Mapped label start end ms)
    ≡ own_takes vector label ms + members_take false vector ms
own-inside vector label start end ms =
    kept-members (packed_width false label ms) vector label ms (members_take false vector ms) (not_packed label ms)

-- a template takes as much as the value, but for its texts
same-own : (vector : Vector) (label : Label) (at : ℕ) (ms ts : Members) → member_count ts ≡ member_count ms →
    own_takes vector (label_place label at) ts ≡ own_takes vector label ms
same-own NodesOf label at ms ts e = refl
same-own FamiliesOf (IntegerLabel z type) at ms ts e = refl
same-own FamiliesOf (OffsetLabel z type unit) at ms ts e = refl
same-own FamiliesOf (TextLabel bytes) at ms ts e = refl
same-own FamiliesOf ArrayLabel at ms ts e = refl
same-own FamiliesOf (StructLabel name fields) at ms ts e = refl
same-own FamiliesOf (UnionLabel name index alternative) at ms ts e = refl
same-own LinksOf label at ms ts e = e
same-own PendingOf label at ms ts e = refl
same-own TextsOf (IntegerLabel z type) at ms ts e = refl
same-own TextsOf (OffsetLabel z type unit) at ms ts e = refl
same-own TextsOf (TextLabel bytes) at ms ts e = refl
same-own TextsOf ArrayLabel at ms ts e = refl
same-own TextsOf (StructLabel name fields) at ms ts e = refl
same-own TextsOf (UnionLabel name index alternative) at ms ts e = refl
same-own BytesOf (IntegerLabel z type) at ms ts e = refl
same-own BytesOf (OffsetLabel z type unit) at ms ts e = refl
same-own BytesOf (TextLabel bytes) at ms ts e = refl
same-own BytesOf ArrayLabel at ms ts e = refl
same-own BytesOf (StructLabel name fields) at ms ts e = refl
same-own BytesOf (UnionLabel name index alternative) at ms ts e = refl

templates-count : (ms : Members) (at : ℕ) → member_count (templates_of ms at) ≡ member_count ms
templates-count NoMembers at = refl
templates-count (MemberThen v rest) at = ap (λ n. 1 + n) (templates-count rest (at + row_length v))
templates-count (AbsentThen rest) at = ap (λ n. 1 + n) (templates-count rest at)

mutual
  pub template-takes : (vector : Vector) (v : Value) (at : ℕ) →
      value_takes false vector (template_of v at) ≡ value_takes false vector v
  template-takes vector (Mapped label start end ms) at =
      let next = at + label_length label in
      omega (
        arith,
        own-inside vector label start end ms,
        own-inside vector (label_place label at) start end (templates_of ms next),
        same-own vector label at ms (templates_of ms next) (templates-count ms next),
        templates-take vector ms next,
      )

  templates-take : (vector : Vector) (ms : Members) (at : ℕ) →
      members_take false vector (templates_of ms at) ≡ members_take false vector ms
  templates-take vector NoMembers at = refl
  templates-take vector (MemberThen v rest) at =
      omega (arith, template-takes vector v at, templates-take vector rest (at + row_length v))
  templates-take vector (AbsentThen rest) at = templates-take vector rest at

-- where nothing is packed, a value of fixed layout has no text
mutual
  pub fixed-texts : (v : Value) → IsFixed v → (value_takes false TextsOf v ≡ 0) × (value_takes false BytesOf v ≡ 0)
  fixed-texts (Mapped (IntegerLabel z type) s e ms) h =
      let r = fixed-none e ms h.1 in (omega (arith, r.0), omega (arith, r.1))
  fixed-texts (Mapped (OffsetLabel z type unit) s e ms) h =
      let r = fixed-none e ms h.1 in (omega (arith, r.0), omega (arith, r.1))
  fixed-texts (Mapped (TextLabel bytes) s e _) h = absurd h.0
  fixed-texts (Mapped ArrayLabel s e ms) h =
      let r = fixed-none e ms h.1 in
      let own = own-inside TextsOf ArrayLabel s e ms in
      let all = own-inside BytesOf ArrayLabel s e ms in
      (omega (arith, r.0, own), omega (arith, r.1, all))
  fixed-texts (Mapped (StructLabel name fields) s e ms) h =
      let r = fixed-none e ms h.1 in (omega (arith, r.0), omega (arith, r.1))
  fixed-texts (Mapped (UnionLabel name index alternative) s e _) h = absurd h.0

  fixed-none : (end : ℕ) (ms : Members) → AreFixed end ms →
      (members_take false TextsOf ms ≡ 0) × (members_take false BytesOf ms ≡ 0)
  fixed-none end NoMembers h = (refl, refl)
  fixed-none end (MemberThen v rest) h =
      let first = fixed-texts v h.1.0 in
      let others = fixed-none end rest h.1.1 in
      (omega (arith, first.0, others.0), omega (arith, first.1, others.1))
  fixed-none end (AbsentThen rest) h = absurd h

-- there is a node for a value
pub some-node : (v : Value) → 1 ≤ value_takes false NodesOf v
some-node (Mapped label start end ms) = omega (arith, own-inside NodesOf label start end ms)

-- the templates of the members before one, and that one
upto-within : (vector : Vector) (ms : Members) (i at : ℕ) (v : Value) → place_takes vector ≡ 0 →
    member_at ms i ≡ Some v →
    level_takes false vector (templates_upto ms i at) + value_takes false vector v ≤ members_take false vector ms
upto-within vector NoMembers i at v none e = cc
upto-within vector (MemberThen w rest) zero at v none e =
    let same : w ≡ v = cc in omega (arith, ap (value_takes false vector) same)
upto-within vector (MemberThen w rest) (suc i) at v none e =
    omega (arith, none, template-takes vector w at, upto-within vector rest i (at + row_length w) v none e)
upto-within vector (AbsentThen rest) zero at v none e = cc
upto-within vector (AbsentThen rest) (suc i) at v none e =
    omega (arith, none, upto-within vector rest i at v none e)

-- the pending children of those before wait, and for that one as many as it has nodes
upto-waiting : (ms : Members) (i at end : ℕ) (v : Value) → AreFixed end ms → member_at ms i ≡ Some v →
    level_takes false PendingOf (templates_upto ms i at) + value_takes false NodesOf v ≤ members_take false NodesOf ms
upto-waiting NoMembers i at end v h e = cc
upto-waiting (MemberThen w rest) zero at end v h e =
    let same : w ≡ v = cc in omega (arith, ap (value_takes false NodesOf) same)
upto-waiting (MemberThen w rest) (suc i) at end v h e = omega (
  arith,
  some-node w,
  value_pending false (template_of w at),
  upto-waiting rest i (at + row_length w) end v h.1.1 e,
)
upto-waiting (AbsentThen rest) i at end v h e = absurd h

texts-upto : (ms : Members) (i at end : ℕ) → AreFixed end ms →
    (level_takes false TextsOf (templates_upto ms i at) ≡ 0) × (level_takes false BytesOf (templates_upto ms i at) ≡ 0)
texts-upto ms zero at end h = (refl, refl)
texts-upto NoMembers (suc i) at end h = (refl, refl)
texts-upto (MemberThen v rest) (suc i) at end h =
    let own = fixed-texts v h.1.0 in
    let others = texts-upto rest i (at + row_length v) end h.1.1 in (
      omega (arith, own.0, template-takes TextsOf v at, others.0),
      omega (arith, own.1, template-takes BytesOf v at, others.1),
    )
texts-upto (AbsentThen rest) (suc i) at end h = absurd h

-- a member's template needs no more, after those before it, than the template of the value
pub drafts-upto : (vector : Vector) (v w : Value) (i at : ℕ) → IsFixed v → member_at (members_of v) i ≡ Some w →
    IsFixed w →
    level_takes false vector (templates_upto (members_of v) i at) + drafts vector w ≤ drafts vector v
drafts-upto NodesOf (Mapped label start end ms) w i at h e k =
    omega (arith, upto-within NodesOf ms i at w refl e, own-inside NodesOf label start end ms)
drafts-upto FamiliesOf (Mapped label start end ms) w i at h e k =
    omega (arith, upto-within FamiliesOf ms i at w refl e, own-inside FamiliesOf label start end ms)
drafts-upto LinksOf (Mapped label start end ms) w i at h e k =
    omega (arith, upto-within LinksOf ms i at w refl e, own-inside LinksOf label start end ms)
drafts-upto PendingOf (Mapped label start end ms) w i at h e k =
    omega (arith, upto-waiting ms i at end w h.1 e, own-inside NodesOf label start end ms)
drafts-upto TextsOf (Mapped label start end ms) w i at h e k = omega (arith, (texts-upto ms i at end h.1).0)
drafts-upto BytesOf (Mapped label start end ms) w i at h e k = omega (arith, (texts-upto ms i at end h.1).1)

-- all members together
all-takes : (vector : Vector) (ms : Members) (at : ℕ) → place_takes vector ≡ 0 →
    level_takes false vector (templates_upto ms (member_count ms) at) ≡ members_take false vector ms
all-takes vector ms at none =
    sym (members_take-of false vector (templates_upto ms (member_count ms) at) none)
    ∙ ap (members_take false vector) (templates-all ms at) ∙ templates-take vector ms at

all-waiting : (ms : Members) (at : ℕ) →
    level_takes false PendingOf (templates_upto ms (member_count ms) at) ≡ member_count ms
all-waiting ms at =
    level_pending false (templates_upto ms (member_count ms) at)
    ∙ sym (member_count-of (templates_upto ms (member_count ms) at))
    ∙ ap member_count (templates-all ms at) ∙ templates-count ms at

-- a number's template
pub number-drafts : (vector : Vector) (n : Marks) (v : Value) →
    of_vector vector (with_number n) ≤ of_vector vector n + drafts vector v
number-drafts NodesOf n v = omega (arith, some-node v)
number-drafts FamiliesOf n v = omega arith
number-drafts LinksOf n v = omega arith
number-drafts PendingOf n v = omega (arith, some-node v)
number-drafts TextsOf n v = omega arith
number-drafts BytesOf n v = omega arith

-- the templates of all members become the links of one
pub branch-drafts : (vector : Vector) (n m : Marks) (v : Value) (at : ℕ) → IsFixed v → families_taken (label_of v) ≡ 1 →
    ((vector : Vector) → of_vector vector m ≡ of_vector vector n
    + level_takes false vector (templates_upto (members_of v) (member_count (members_of v)) at)) →
    of_vector vector (with_links (record m { pending = n.pending }) m) ≤ of_vector vector n + drafts vector v
branch-drafts NodesOf n m (Mapped label start end ms) at h one takes =
    omega (arith, takes NodesOf, all-takes NodesOf ms at refl, own-inside NodesOf label start end ms)
branch-drafts FamiliesOf n m (Mapped label start end ms) at h one takes =
    omega (arith, takes FamiliesOf, all-takes FamiliesOf ms at refl, own-inside FamiliesOf label start end ms, one)
branch-drafts LinksOf n m (Mapped label start end ms) at h one takes =
    omega (
      arith,
      takes LinksOf,
      takes PendingOf,
      all-takes LinksOf ms at refl,
      all-waiting ms at,
      own-inside LinksOf label start end ms,
    )
branch-drafts PendingOf n m v at h one takes = omega (arith, some-node v)
branch-drafts TextsOf n m (Mapped label start end ms) at h one takes =
    omega (arith, takes TextsOf, (texts-upto ms (member_count ms) at end h.1).0)
branch-drafts BytesOf n m (Mapped label start end ms) at h one takes =
    omega (arith, takes BytesOf, (texts-upto ms (member_count ms) at end h.1).1)

-- an array after the template
pub drafts-array : (vector : Vector) (n : Marks) (v : Value) (count : ℕ) →
    of_vector vector n + drafts vector v ≤ of_vector vector (with_first_drafted (template_size v) count n)
drafts-array NodesOf n v count = omega arith
drafts-array FamiliesOf n v count = omega arith
drafts-array LinksOf n v count = omega arith
drafts-array PendingOf n v count = omega arith
drafts-array TextsOf n v count = omega arith
drafts-array BytesOf n v count = omega arith

pub array-drafts : (vector : Vector) (n m : Marks) (v : Value) (at waiting count : ℕ) → IsFixed v →
    ((vector : Vector) → of_vector vector m
    ≡ of_vector vector n + level_takes false vector (Some (template_of v at) ∷ [])) →
    n.nodes + 1 + waiting ≡ m.nodes →
    of_vector vector (with_array waiting count m) ≤ of_vector vector (with_first_drafted (template_size v) count n)
array-drafts NodesOf n m v at waiting count h takes more = omega (arith, takes NodesOf, template-takes NodesOf v at)
array-drafts FamiliesOf n m v at waiting count h takes more =
    omega (arith, takes FamiliesOf, template-takes FamiliesOf v at)
array-drafts LinksOf n m v at waiting count h takes more = omega (arith, takes LinksOf, template-takes LinksOf v at)
array-drafts PendingOf n m v at waiting count h takes more = omega (
  arith,
  takes PendingOf,
  takes NodesOf,
  template-takes NodesOf v at,
  value_pending false (template_of v at),
  more,
)
array-drafts TextsOf n m v at waiting count h takes more =
    omega (arith, takes TextsOf, template-takes TextsOf v at, (fixed-texts v h).0)
array-drafts BytesOf n m v at waiting count h takes more =
    omega (arith, takes BytesOf, template-takes BytesOf v at, (fixed-texts v h).1)

-- what there is after the template has capacity for it
pub drafted-within : (vector : Vector) (n m k : Marks) (v : Value) (at count : ℕ) → IsFixed v →
    ((vector : Vector) → of_vector vector m
    ≡ of_vector vector n + level_takes false vector (Some (template_of v at) ∷ [])) →
    IsWithin (record { now = with_array (m.nodes - (n.nodes + 1)) count m; frames = [] }) k →
    of_vector vector (with_first_drafted (template_size v) count n) ≤ of_vector vector k
drafted-within NodesOf n m k v at count h takes w =
    omega (arith, takes NodesOf, template-takes NodesOf v at, w NodesOf)
drafted-within FamiliesOf n m k v at count h takes w =
    omega (arith, takes FamiliesOf, template-takes FamiliesOf v at, w FamiliesOf)
drafted-within LinksOf n m k v at count h takes w =
    omega (arith, takes LinksOf, template-takes LinksOf v at, w LinksOf)
drafted-within PendingOf n m k v at count h takes w = omega (
  arith,
  takes PendingOf,
  takes NodesOf,
  template-takes NodesOf v at,
  value_pending false (template_of v at),
  some-node v,
  w PendingOf,
)
drafted-within TextsOf n m k v at count h takes w =
    omega (arith, takes TextsOf, template-takes TextsOf v at, (fixed-texts v h).0, w TextsOf)
drafted-within BytesOf n m k v at count h takes w =
    omega (arith, takes BytesOf, template-takes BytesOf v at, (fixed-texts v h).1, w BytesOf)

-- the move of a value

-- the first one
pub first-size : (v : Value) (stride : ℕ) (n : Marks) →
    with_first (template_of v 0) stride n ≡ with_first_value (template_size v) stride n
first-size v stride n =
    same-marks _ _ (ap (λ k. n.nodes + k + 1) (template-takes NodesOf v 0))
    (ap (λ k. n.families + k) (template-takes FamiliesOf v 0)) (ap (λ k. n.links + k) (template-takes LinksOf v 0))
    refl refl refl

module _ (packs : Bool) (s : State) (size : ValueSize) (template : TemplateSize) (stride : ℕ) (packed : packs ≡ true)
  where
    pub first-moved : s.now.pending ≡ (innermost s.frames).pending + 1 →
        moved packs (PacksValue size template stride) s
        ≡ record { now = with_first_value template stride s.now; frames = s.frames }
    first-moved only =
        ap (λ b. packed_value b size template stride s) packed
        ∙ ap (λ b. framed s.frames
        (if b then with_first_value template stride s.now else with_next_value size stride s.now)) (eq-eqb _ _ only)

    pub first-needed : s.now.pending ≡ (innermost s.frames).pending + 1 →
        needed packs (PacksValue size template stride) s
        ≡ record { now = with_first_drafted template stride s.now; frames = s.frames }
    first-needed only =
        ap (λ b. drafted_value b size template stride s) packed
        ∙ ap (λ b. framed s.frames (if b then with_first_drafted template stride s.now
        else record s.now { bytes = (s.now.bytes - size.bytes) + stride })) (eq-eqb _ _ only)

    -- the next one
    pub next-moved : (innermost s.frames).pending + 1 < s.now.pending →
        moved packs (PacksValue size template stride) s
        ≡ record { now = with_next_value size stride s.now; frames = s.frames }
    next-moved more =
        ap (λ b. packed_value b size template stride s) packed
        ∙ ap (λ b. framed s.frames
        (if b then with_first_value template stride s.now else with_next_value size stride s.now))
        (ne_eqb _ _ (λ e. omega (arith, more, e)))

    pub next-needed : (innermost s.frames).pending + 1 < s.now.pending →
        needed packs (PacksValue size template stride) s
        ≡ record { now = record s.now { bytes = (s.now.bytes - size.bytes) + stride }; frames = s.frames }
    next-needed more =
        ap (λ b. drafted_value b size template stride s) packed
        ∙ ap (λ b. framed s.frames (if b then with_first_drafted template stride s.now
        else record s.now { bytes = (s.now.bytes - size.bytes) + stride })) (ne_eqb _ _ (λ e. omega (arith, more, e)))

-- a value that was placed is given up
pub value-given_up : (size : ValueSize) (stride : ℕ) (n : Marks) →
    with_next_value size stride (with_value size n) ≡ record n { bytes = n.bytes + stride }
value-given_up size stride n =
    same-marks _ _ (omega arith) (omega arith) (omega arith) (omega arith) (omega arith) (omega arith)
