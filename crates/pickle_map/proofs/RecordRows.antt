-- An array of packed structs, as it is made and as it grows.
use Rattle.std.proofs.Common.{◌≡◌, ℕ, ◌+◌, ◌-◌, ◌*◌, ◌<◌, ◌≤◌, ◌^◌, Bool, true, false, List, [], ◌∷◌, ◌++◌, Result, Ok, Err, OnOk, OnErr, length, take, get_or, inl, inr, refl, sym, ap, subst, ◌∙◌, arith}
use Rattle.std.specs.Prelude.{nat_eq, if◌then◌else◌}
use Rattle.std.proofs.lemmas.Bool.{eq-eqb}
use Rattle.std.proofs.lemmas.List.{take_more, map_push, length_push}
use Rattle.std.proofs.Math.Nat.{mul-suc}
use Rattle.pickle_types.specs.declared.node.Field.{Field}
use Rattle.pickle_types.specs.declared.node.Node.{Node}
use Rattle.pickle_types.specs.Types.{PokeType}
use Rattle.pickle_meaning.specs.Values.{Levels, outer_of}
use Rattle.value_store.specs.declared.store.slots.Marks.{Marks}
use Rattle.value_store.specs.declared.store.slots.Node.{Node as SlotNode}
use Rattle.value_store.specs.declared.store.slots.Shape.{Shape}
use Rattle.value_store.specs.declared.store.slots.Shape.TheVariants.{Records}
use Rattle.value_store.specs.Moves.{Move, State, Moves, Refuses, IsWithin, Opens, OpensRecords, PacksRecord, state_of, moved, with_template, with_structs}
use Rattle.value_store.specs.PackedStructs.{struct_bits, struct_bytes, struct_row, AreDigits, BeginsStructs, DraftsMore, IsDrafting, IsPackingStructs, PacksStruct}
use Rattle.value_store.specs.Slots.{Held, HasNoNode, HoldsInRoom, KeepsRoom, innermost, levels, marks_of, number_bits, packs}
use Rattle.value_store.specs.Takes.{Vector, NodesOf, FamiliesOf, LinksOf, PendingOf, TextsOf, BytesOf, of_vector}
use Rattle.value_store.proofs.Fits.{innermost-level}
use Rattle.value_store.proofs.Gathering.{draft-none}
use Rattle.value_store.proofs.PackedStructs.{bits-push}
use Rattle.mapping_plans.specs.Rows.{scalar_shape}
use Rattle.bit_space.specs.declared.memory.Memory.{Memory}
use Rattle.value_store.specs.declared.store.room.Room.{Room}
use Rattle.value_store.specs.Weights.{weight, RejectsWeight}
use Rattle.pickle_map.proofs.Weighed.{rejects_more}
use Rattle.pickle_map.proofs.Worlds.{IsDirect, direct_needs}
use Rattle.pickle_map.specs.Columns.{with_columns, after_columns, shapes_of}
use Rattle.pickle_map.specs.Records.{IsOpened, HasStructs, no_structs, some_structs, IsAmong, ComesTo, OpensArray, AddsRow, Drafts, in_frame, array_state, packed_state, PassesRoom}

pub ok_maps : {A E P Q : Type 0} (r : Result A E) → (P → Q) → OnOk r P → OnOk r Q
ok_maps (Ok a) f p = f p
ok_maps (Err e) f p = p

pub err_maps : {A E P Q : Type 0} (r : Result A E) → (P → Q) → OnErr r P → OnErr r Q
err_maps (Ok a) f p = p
err_maps (Err e) f p = f p

-- what both results give
pub either_way : {A E P Q R : Type 0} (r : Result A E) → (P → R) → (Q → R) → OnOk r P → OnErr r Q → R
either_way (Ok a) f g p q = f p
either_way (Err e) f g p q = g q

-- ---- shapes

pub shapes_more : (types : ℕ → PokeType) (fs : List Field) (i : ℕ) (f : Field) → i < length fs → get_or fs i f ≡ f →
    shapes_of types (take (i + 1) fs) ≡ shapes_of types (take i fs) ++ scalar_shape (types f.node) ∷ []
shapes_more types fs i f lt at =
    ap (shapes_of types) (take_more fs i f lt ∙ ap (λ x. take i fs ++ x ∷ []) at)
    ∙ map_push (λ (x : Field). scalar_shape (types x.node)) (take i fs) f

-- the bits of numbers fit their bytes
pub bits_few : (cs : List Shape) → struct_bits cs ≤ 8 * struct_bytes cs
bits_few [] = omega arith
bits_few (c ∷ cs) = let e = bits_few cs in omega (arith, e)

-- ---- the template

-- nothing is stored yet in a frame that is opened
pub opened_is : (h n : Held) → Moves h n Opens → IsOpened n
opened_is h n e = ap (λ (s : State). innermost s.frames) e ∙ sym (ap (λ (s : State). s.now) e)

pub drafts_more : (nodes : List Node) (s0 s1 s2 : Held) (cs : List Shape) (c : Shape) (start begin at : ℕ) →
    Drafts nodes s0 s1 cs start → DraftsMore s1 s2 c begin at → begin ≡ start + struct_bits cs → at ≡ struct_bytes cs →
    Drafts nodes s0 s2 (cs ++ c ∷ []) start
drafts_more nodes s0 s1 s2 cs c start begin at d more first place = λ size outer w le.
    let bits = bits-push cs c in
    let fits : struct_bits cs + number_bits c ≤ size = omega (arith, bits, le) in
    more nodes size cs start outer (d size outer w (omega (arith, fits))) first place fits

-- ---- an array without structs, and one that has some

-- there is a node for the structs
pub packing_nodes : (nodes : List Node) (h : Held) (at : ℕ) (cs : List Shape) (start : ℕ) (rows : List (List ℕ))
    (outer : Levels) → IsPackingStructs nodes h at cs start rows outer → HasNoNode h → ⊥
packing_nodes nodes h at cs start rows outer w none =
    let g = w.gathering in
    let i = innermost-level h.room h.frames w.before g.own in
    let within = i.is.within.nodes in
    let count = ap (λ s. length s.nodes) g.is in
    let n : SlotNode =
    record { start = start; content = length w.before.texts; shape = Records (struct_bytes cs) (struct_bits cs) } in
    omega (arith, none, within, count, length_push w.before.nodes n)

-- the array has no structs where its frame has no node
pub record IsFresh (nodes : List Node) (h : Held) (start first : ℕ) (outer : Levels)
    (rows : List (List ℕ)) : Type 0 where
  pub none : rows ≡ []
  pub levels : levels nodes h ≡ [] ∷ outer
  pub opened : IsOpened h
  pub begins : start ≡ first

pub has_none : (nodes : List Node) (h : Held) (at : ℕ) (cs : List Shape) (start first : ℕ) (outer : Levels)
    (rows : List (List ℕ)) → HasStructs nodes h at cs first outer rows → start ≡ first + struct_bits cs * length rows →
    HasNoNode h → IsFresh nodes h start first outer rows
has_none nodes h at cs start first outer _ (no_structs is opened) e none =
    record { none = refl; levels = is; opened = opened; begins = omega (arith, e) }
has_none nodes h at cs start first outer _ (some_structs {rows} some w) e none =
    absurd (packing_nodes nodes h at cs first rows outer w none)

pub has_some : (nodes : List Node) (h : Held) (at : ℕ) (cs : List Shape) (first : ℕ) (outer : Levels)
    (rows : List (List ℕ)) →
    HasStructs nodes h at cs first outer rows → (HasNoNode h → ⊥) → IsPackingStructs nodes h at cs first rows outer
has_some nodes h at cs first outer _ (no_structs is opened) some =
    absurd (some (sym (ap (λ (k : Marks). k.nodes) opened)))
has_some nodes h at cs first outer _ (some_structs more w) some = w

has_outer : (nodes : List Node) (h : Held) (at : ℕ) (cs : List Shape) (first : ℕ) (outer : Levels)
    (rows : List (List ℕ)) → HasStructs nodes h at cs first outer rows → outer_of (levels nodes h) ≡ outer
has_outer nodes h at cs first outer _ (no_structs is opened) = ap outer_of is
has_outer nodes h at cs first outer _ (some_structs some w) = w.inside

-- a frame without members is drafted for a struct
pub draft_opened : (nodes : List Node) (h : Held) (size start : ℕ) (outer : Levels) → IsOpened h →
    levels nodes h ≡ [] ∷ outer → IsDrafting nodes h size [] start outer
draft_opened nodes h size start outer opened is =
    record { draft = draft-none size start h (sym (ap (λ (k : Marks). k.pending) opened)); is = is; shapes = tt }

-- the template of the first struct is made an array
pub array_opens : (nodes : List Node) (h drafted n : Held) (at : ℕ) (cs : List Shape) (start size stride : ℕ) →
    HasNoNode h → Drafts nodes h drafted cs start → size ≡ struct_bits cs → stride ≡ struct_bytes cs →
    BeginsStructs drafted n at size stride start → OpensArray nodes h n at cs start
array_opens nodes h drafted n at cs start size stride none d bits bytes begins = λ first rows outer has e.
    let f = has_none nodes h at cs start first outer rows has e none in
    let w = d size outer (draft_opened nodes h size start outer f.opened f.levels) (omega (arith, bits)) in
    let p = begins nodes cs outer w.is w.shapes bits bytes in
    subst (λ rs. IsPackingStructs nodes n at cs first rs outer) (sym f.none)
    (subst (λ s. IsPackingStructs nodes n at cs s [] outer) f.begins p)

-- an array that is open leaves the frames around it
pub opened_stays : (nodes : List Node) (h n : Held) (at : ℕ) (cs : List Shape) (start : ℕ) →
    IsAmong nodes h at cs start → OpensArray nodes h n at cs start →
    outer_of (levels nodes n) ≡ outer_of (levels nodes h)
opened_stays nodes h n at cs start a opens =
    (opens a.first a.rows a.outer a.has a.begins).inside ∙ sym (has_outer nodes h at cs a.first a.outer a.rows a.has)

-- a struct is packed in an open array
pub row_adds : (nodes : List Node) (h mid n : Held) (at : ℕ) (cs : List Shape) (start end : ℕ) (row : List ℕ) →
    OpensArray nodes h mid at cs start → end ≡ start + struct_bits cs → end < 2 ^ 64 → PacksStruct mid n row →
    AddsRow nodes h n at cs start row
row_adds nodes h mid n at cs start end row opens ends short packs = λ digits are is first rows outer has begins.
    packs nodes at cs first rows outer digits (opens first rows outer has begins) are
    (omega (arith, begins, ends, short, mul-suc (struct_bits cs) (length rows))) is

pub row_stays : (nodes : List Node) (h n : Held) (at : ℕ) (cs : List Shape) (start : ℕ) (row digits : List ℕ) →
    IsAmong nodes h at cs start → AreDigits cs digits → row ≡ struct_row cs digits → AddsRow nodes h n at cs start row →
    outer_of (levels nodes n) ≡ outer_of (levels nodes h)
row_stays nodes h n at cs start row digits a are is adds =
    (adds digits are is a.first a.rows a.outer a.has a.begins).inside
    ∙ sym (has_outer nodes h at cs a.first a.outer a.rows a.has)

-- ---- states

template_is : (k : Marks) (count : ℕ) → with_template k (with_columns count k) ≡ with_structs count 0 k
template_is k count =
    let nodes : (k.nodes + count) + 2 ≡ k.nodes + (count + 2) = omega arith in
    let links : k.links + ((k.pending + count) - k.pending) ≡ k.links + count = omega arith in
    let bytes : k.bytes ≡ k.bytes + 0 = omega arith in
    rw (nodes, links, ← bytes) refl

module _ (h : Held) (count : ℕ) where
  -- the first struct makes the array
  fresh_state : IsOpened h →
      array_state count (state_of h) ≡ record { now = with_structs count 0 (marks_of h.slots); frames = h.frames }
  fresh_state opened = rw (opened, eq-eqb (length h.slots.nodes) (length h.slots.nodes) refl) refl

  pub opened_state : (b : Bool) (drafted n : Held) → IsOpened h → state_of drafted ≡ after_columns count (state_of h) →
      state_of n ≡ moved b OpensRecords (state_of drafted) → state_of n ≡ array_state count (state_of h)
  opened_state b drafted n opened d e =
      e ∙ ap (moved b OpensRecords) d
      ∙ rw opened (ap (λ (m : Marks). record { now = m; frames = h.frames }) (template_is (marks_of h.slots) count))
      ∙ sym (fresh_state opened)

  -- the numbers of the template don't fit, although those of the struct did
  pub draft_passes : IsOpened h → IsWithin (in_frame count (state_of h)) h.capacity →
      PassesRoom h (after_columns count (state_of h)) → PassesRoom h (array_state count (state_of h))
  draft_passes opened within over = subst (PassesRoom h) (sym (fresh_state opened)) (passes over)
    where
      pass : (vector : Vector) →
          of_vector vector h.capacity < of_vector vector (with_columns count (marks_of h.slots)) →
          PassesRoom h (record { now = with_structs count 0 (marks_of h.slots); frames = h.frames })
      pass NodesOf over = inl (NodesOf, omega (arith, over))
      pass FamiliesOf over = inl (FamiliesOf, omega (arith, over))
      pass LinksOf over = inl (LinksOf, omega (arith, over))
      pass PendingOf over = let most = within PendingOf in absurd (omega (arith, over, most))
      pass TextsOf over = inl (TextsOf, omega (arith, over))
      pass BytesOf over = inl (BytesOf, omega (arith, over))

      passes : PassesRoom h (after_columns count (state_of h)) →
          PassesRoom h (record { now = with_structs count 0 (marks_of h.slots); frames = h.frames })
      passes (inl over) = pass over.0 over.1
      passes (inr heavy) = inr (rejects_more h.room.growth _ _ (omega arith) heavy)

pub less_passes : (h n : Held) (s : State) → KeepsRoom h n → PassesRoom n s → PassesRoom h s
less_passes h n s k passes = passed passes
  where
    pass : (vector : Vector) → of_vector vector n.capacity < of_vector vector s.now → PassesRoom h s
    pass NodesOf over = inl (NodesOf, omega (arith, over, k.nodes))
    pass FamiliesOf over = inl (FamiliesOf, omega (arith, over, k.families))
    pass LinksOf over = inl (LinksOf, omega (arith, over, k.links))
    pass PendingOf over = inl (PendingOf, omega (arith, over, k.pending))
    pass TextsOf over = inl (TextsOf, omega (arith, over, k.texts))
    pass BytesOf over = inl (BytesOf, omega (arith, over, k.bytes))

    passed : PassesRoom n s → PassesRoom h s
    passed (inl over) = pass over.0 over.1
    passed (inr heavy) = inr (subst (λ (room : Room). RejectsWeight room (weight s.now)) k.room heavy)

-- a move that is refused passes the room by what it leaves
refused_passes : (h : Held) (move : Move) → IsDirect move → Refuses h move →
    PassesRoom h (moved (packs h.room) move (state_of h))
refused_passes h move direct (inl cannot) = inl (
  cannot.0,
  subst
      (λ (s : State). of_vector cannot.0 h.capacity < of_vector cannot.0 s.now)
      (direct_needs (packs h.room) move (state_of h) direct) cannot.1,
)
refused_passes h move direct (inr heavy) = inr heavy

-- nor does the array
pub open_passes : (h drafted : Held) (count : ℕ) → IsOpened h → KeepsRoom h drafted →
    state_of drafted ≡ after_columns count (state_of h) → Refuses drafted OpensRecords →
    PassesRoom h (array_state count (state_of h))
open_passes h drafted count opened k d cannot =
    let moves : moved (packs drafted.room) OpensRecords (state_of drafted) ≡ array_state count (state_of h) =
    ap (moved (packs drafted.room) OpensRecords) d
    ∙ rw opened (ap (λ (m : Marks). record { now = m; frames = h.frames }) (template_is (marks_of h.slots) count))
    ∙ sym (fresh_state h count opened) in
    less_passes h drafted (array_state count (state_of h)) k
    (subst (PassesRoom drafted) moves (refused_passes drafted OpensRecords tt cannot))

-- one more struct
struct_is : (b : Bool) (count stride : ℕ) (k own : Marks) →
    (record (if b then with_structs count 0 k
    else own) { bytes = (if b then with_structs count 0 k else own).bytes + stride })
    ≡ (if b then with_structs ((own.pending + count) - own.pending) stride k
    else record own { bytes = own.bytes + stride })
struct_is true count stride k own =
    let links : (own.pending + count) - own.pending ≡ count = omega arith in
    let bytes : (k.bytes + 0) + stride ≡ k.bytes + stride = omega arith in
    rw (links, bytes) refl
struct_is false count stride k own = refl

pub packed_is : (b : Bool) (count stride : ℕ) (h n last : Held) → state_of n ≡ array_state count (state_of h) →
    state_of last ≡ moved b (PacksRecord stride) (state_of n) → state_of last ≡ packed_state count stride (state_of h)
packed_is b count stride h n last e moves =
    moves ∙ ap (moved b (PacksRecord stride)) e
    ∙ ap (λ (m : Marks). record { now = m; frames = h.frames })
    (struct_is (nat_eq (length h.slots.nodes) (innermost h.frames).nodes) count stride
    (innermost h.frames) (marks_of h.slots))

pub pack_passes : (count stride : ℕ) (h n : Held) → KeepsRoom h n → state_of n ≡ array_state count (state_of h) →
    Refuses n (PacksRecord stride) → PassesRoom h (packed_state count stride (state_of h))
pack_passes count stride h n k e cannot =
    let moves : moved (packs n.room) (PacksRecord stride) (state_of n) ≡ packed_state count stride (state_of h) =
    ap (moved (packs n.room) (PacksRecord stride)) e
    ∙ ap (λ (m : Marks). record { now = m; frames = h.frames })
    (struct_is (nat_eq (length h.slots.nodes) (innermost h.frames).nodes) count stride (innermost h.frames)
    (marks_of h.slots)) in
    less_passes h n (packed_state count stride (state_of h)) k
    (subst (PassesRoom n) moves (refused_passes n (PacksRecord stride) tt cannot))

-- what doesn't fit doesn't with more bytes either
bytes_pass : (h : Held) (n : Marks) (frames : List Marks) (stride : ℕ) (vector : Vector) →
    of_vector vector h.capacity < of_vector vector n →
    PassesRoom h (record { now = record n { bytes = n.bytes + stride }; frames = frames })
bytes_pass h n frames stride NodesOf over = inl (NodesOf, over)
bytes_pass h n frames stride FamiliesOf over = inl (FamiliesOf, over)
bytes_pass h n frames stride LinksOf over = inl (LinksOf, over)
bytes_pass h n frames stride PendingOf over = inl (PendingOf, over)
bytes_pass h n frames stride TextsOf over = inl (TextsOf, over)
bytes_pass h n frames stride BytesOf over = inl (BytesOf, omega (arith, over))

passes_more : (h : Held) (n : Marks) (frames : List Marks) (stride : ℕ) →
    PassesRoom h (record { now = n; frames = frames }) →
    PassesRoom h (record { now = record n { bytes = n.bytes + stride }; frames = frames })
passes_more h n frames stride (inl over) = bytes_pass h n frames stride over.0 over.1
passes_more h n frames stride (inr heavy) = inr (rejects_more h.room.growth _ _ (omega arith) heavy)

pub array_passes : (count stride : ℕ) (h : Held) → PassesRoom h (array_state count (state_of h)) →
    PassesRoom h (packed_state count stride (state_of h))
array_passes count stride h over =
    subst (PassesRoom h) (ap (λ (m : Marks). record { now = m; frames = h.frames }) (struct_is
    (nat_eq (length h.slots.nodes) (innermost h.frames).nodes) count stride (innermost h.frames) (marks_of h.slots)))
    (passes_more h (array_state count (state_of h)).now h.frames stride over)

pub comes_to : (h n : Held) (state : State) (r : Result (Unit {0}) Memory) → OnOk r (state_of n ≡ state) →
    OnOk r (HoldsInRoom n) → OnErr r (PassesRoom h state) → ComesTo h n state r
comes_to h n state (Ok u) is holds over = (is, holds)
comes_to h n state (Err e) is holds over = over
