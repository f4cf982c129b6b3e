-- What a placed text or array of packed numbers adds to a store.
use Rattle.std.proofs.Common.{◌≡◌, ℕ, ◌+◌, ◌-◌, ◌*◌, false, List, [], ◌∷◌, ◌++◌, Some, length, refl, sym, ◌∙◌, ap, subst, arith, add-one}
use Rattle.std.specs.Prelude.{slice_index}
use Rattle.std.proofs.lemmas.List.{append-nil, length-append, length_push, take_at, take_all}
use Rattle.std.proofs.Math.Seq.{get_or-append_seam}
use Rattle.value_store.specs.declared.store.room.Room.{Room}
use Rattle.value_store.specs.declared.store.slots.Node.{Node}
use Rattle.value_store.specs.declared.store.slots.Shape.{Shape}
use Rattle.value_store.specs.declared.store.slots.Shape.TheVariants.{Integer, Offset, Text, Integers, Offsets, Records, Array, Struct, Union}
use Rattle.value_store.specs.Packed.{numbers_in}
use Rattle.pickle_meaning.specs.Values.{Value, Mapped, NoMembers, TextLabel, ArrayLabel, gathered}
use Rattle.value_store.specs.Names.{Names}
use Rattle.value_store.specs.Takes.{Vector, NodesOf, FamiliesOf, LinksOf, PendingOf, TextsOf, BytesOf, of_vector, own_takes, value_takes, place_takes}
use Rattle.value_store.specs.Slots.{Slots, packs, first_byte, text_bytes, elements, links_of, tree_of, trees, stack, LinksBelow, IsShort, IsByteRow, AreNumbers, IsContent, HasTemplate, IsSound, cut_to, marks_of, Adds, with_bytes, AreBytes, bytes_value, AreSome, MayKeep}
use Rattle.value_store.proofs.FamilyRows.{part-all, first_byte-grow}
use Rattle.value_store.proofs.Grown.{NewNode, nodes-new, pending-new}
use Rattle.value_store.proofs.Placed.{pending-last, stack-last}

module _ (shape : Shape) (bytes : List ℕ) (start : ℕ) (s : Slots) (sound : IsSound s) where
  bytes-first : first_byte (with_bytes shape bytes start s).texts (length s.texts) ≡ length s.bytes
  bytes-first =
      first_byte-grow s.texts ((length s.bytes + length bytes) ∷ []) (length s.texts) (omega arith) ∙ sound.bytes

  bytes-end : slice_index (with_bytes shape bytes start s).texts (length s.texts) ≡ length s.bytes + length bytes
  bytes-end = get_or-append_seam s.texts (length s.bytes + length bytes) [] 0

  bytes-count : slice_index (with_bytes shape bytes start s).texts (length s.texts)
      - first_byte (with_bytes shape bytes start s).texts (length s.texts) ≡ length bytes
  bytes-count = omega (arith, bytes-first, bytes-end)

  -- the bytes are those that were placed
  pub bytes-here : text_bytes (with_bytes shape bytes start s).texts (with_bytes shape bytes start s).bytes
      (length s.texts) ≡ bytes
  bytes-here =
      let count : (length s.bytes + length bytes) - length s.bytes ≡ length bytes = omega arith in
      rw (bytes-first, bytes-end, count) (part-all (length bytes) s.bytes bytes refl)

  pub bytes-row : IsByteRow (with_bytes shape bytes start s) (length s.texts)
  bytes-row = (
    omega (arith, length_push s.texts (length s.bytes + length bytes)),
    record {
      ordered = omega (arith, bytes-first, bytes-end);
      within = omega (arith, bytes-end, length-append s.bytes bytes);
    },
  )

  pub bytes-tiles : first_byte (with_bytes shape bytes start s).texts (length (with_bytes shape bytes start s).texts)
      ≡ length (with_bytes shape bytes start s).bytes
  bytes-tiles =
      ap (first_byte (with_bytes shape bytes start s).texts)
      (length_push s.texts (length s.bytes + length bytes) ∙ add-one (length s.texts))
      ∙ bytes-end ∙ sym (length-append s.bytes bytes)

bytes-rest : (shape : Shape) (bytes : List ℕ) (start : ℕ) (s : Slots) →
    cut_to (marks_of s) (with_bytes shape bytes start s) ≡ s
bytes-rest shape bytes start s =
    let n : Node = record { start = start; content = length s.texts; shape = shape } in
    let nodes = take_at s.nodes (n ∷ []) (length s.nodes) refl in
    let families = take_all (length s.families) s.families (omega arith) in
    let links = take_all (length s.links) s.links (omega arith) in
    let pending = take_at s.pending (Some (length s.nodes) ∷ []) (length s.pending) refl in
    let texts = take_at s.texts ((length s.bytes + length bytes) ∷ []) (length s.texts) refl in
    let all = take_at s.bytes bytes (length s.bytes) refl in
    let eta : record {
      nodes = s.nodes;
      families = s.families;
      links = s.links;
      pending = s.pending;
      texts = s.texts;
      bytes = s.bytes;
    } ≡ s = refl in
    cc

-- values made of bytes

bytes-content : (shape : Shape) (bytes : List ℕ) (start : ℕ) (s : Slots) → IsSound s → AreBytes shape bytes start →
    IsContent (with_bytes shape bytes start s) shape start (length s.texts)
bytes-content (Integer w g) bytes start s sound h = absurd h
bytes-content (Offset w g u) bytes start s sound h = absurd h
bytes-content Text bytes start s sound h =
    (bytes-row Text bytes start s sound, subst (λ n. IsShort n) (sym (bytes-count Text bytes start s sound)) h)
bytes-content (Integers w g) bytes start s sound h = (
  bytes-row (Integers w g) bytes start s sound,
  subst (λ bs. AreNumbers w (numbers_in w bs) start) (sym (bytes-here (Integers w g) bytes start s sound)) h.0,
)
bytes-content (Offsets w g u) bytes start s sound h = (
  bytes-row (Offsets w g u) bytes start s sound,
  (
    subst (λ bs. AreNumbers w (numbers_in w bs) start) (sym (bytes-here (Offsets w g u) bytes start s sound)) h.0.0,
    h.1,
  ),
)
bytes-content (Records stride size) bytes start s sound h = absurd h
bytes-content Array bytes start s sound h = absurd h
bytes-content (Struct t) bytes start s sound h = absurd h
bytes-content (Union i t) bytes start s sound h = absurd h

bytes-links : (s : Slots) (shape : Shape) (bytes : List ℕ) (start c i : ℕ) → AreBytes shape bytes start →
    LinksBelow i (links_of s shape c)
bytes-links s (Integer w g) bytes start c i h = absurd h
bytes-links s (Offset w g u) bytes start c i h = absurd h
bytes-links s Text bytes start c i h = tt
bytes-links s (Integers w g) bytes start c i h = tt
bytes-links s (Offsets w g u) bytes start c i h = tt
bytes-links s (Records stride size) bytes start c i h = absurd h
bytes-links s Array bytes start c i h = absurd h
bytes-links s (Struct t) bytes start c i h = absurd h
bytes-links s (Union j t) bytes start c i h = absurd h

bytes-template : (s : Slots) (i : ℕ) (shape : Shape) (bytes : List ℕ) (start c : ℕ) → AreBytes shape bytes start →
    HasTemplate s i shape start c
bytes-template s i (Integer w g) bytes start c h = absurd h
bytes-template s i (Offset w g u) bytes start c h = absurd h
bytes-template s i Text bytes start c h = tt
bytes-template s i (Integers w g) bytes start c h = tt
bytes-template s i (Offsets w g u) bytes start c h = tt
bytes-template s i (Records stride size) bytes start c h = absurd h
bytes-template s i Array bytes start c h = absurd h
bytes-template s i (Struct t) bytes start c h = absurd h
bytes-template s i (Union j t) bytes start c h = absurd h

bytes-tree : (names : Names) (shape : Shape) (bytes : List ℕ) (start : ℕ) (s : Slots) (ts : List Value) → IsSound s →
    AreBytes shape bytes start →
    tree_of names (with_bytes shape bytes start s) ts
    (record { start = start; content = length s.texts; shape = shape }) ≡ bytes_value shape bytes start
bytes-tree names (Integer w g) bytes start s ts sound h = absurd h
bytes-tree names (Offset w g u) bytes start s ts sound h = absurd h
bytes-tree names Text bytes start s ts sound h =
    ap (λ bs. Mapped (TextLabel bs) start (start + 8 * (slice_index (with_bytes Text bytes start s).texts
    (length s.texts) - first_byte (with_bytes Text bytes start s).texts (length s.texts) + 1)) NoMembers)
    (bytes-here Text bytes start s sound)
    ∙ ap (λ n. Mapped (TextLabel bytes) start (start + 8 * (n + 1)) NoMembers) (bytes-count Text bytes start s sound)
bytes-tree names (Integers w g) bytes start s ts sound h =
    ap (λ bs. Mapped ArrayLabel start (start + w * length (numbers_in w bs))
    (gathered (elements (Integers w g) start (numbers_in w bs)))) (bytes-here (Integers w g) bytes start s sound)
bytes-tree names (Offsets w g u) bytes start s ts sound h =
    ap (λ bs. Mapped ArrayLabel start (start + w * length (numbers_in w bs))
    (gathered (elements (Offsets w g u) start (numbers_in w bs)))) (bytes-here (Offsets w g u) bytes start s sound)
bytes-tree names (Records stride size) bytes start s ts sound h = absurd h
bytes-tree names Array bytes start s ts sound h = absurd h
bytes-tree names (Struct t) bytes start s ts sound h = absurd h
bytes-tree names (Union i t) bytes start s ts sound h = absurd h

-- a text takes a node, a text and its bytes
abbrev pub text_takes : Vector → (count : ℕ) → ℕ
text_takes NodesOf count = 1
text_takes FamiliesOf count = 0
text_takes LinksOf count = 0
text_takes PendingOf count = 0
text_takes TextsOf count = 1
text_takes BytesOf count = count

text-own : (vector : Vector) (bytes : List ℕ) →
    own_takes vector (TextLabel bytes) NoMembers + 0 ≡ text_takes vector (length bytes)
text-own NodesOf bytes = refl
text-own FamiliesOf bytes = refl
text-own LinksOf bytes = refl
text-own PendingOf bytes = refl
text-own TextsOf bytes = refl
text-own BytesOf bytes = omega arith

bytes-take : (room : Room) (vector : Vector) (shape : Shape) (bytes : List ℕ) (start : ℕ) → AreBytes shape bytes start →
    MayKeep room shape → packs room ≡ false →
    value_takes false vector (bytes_value shape bytes start) ≡ text_takes vector (length bytes)
bytes-take room vector (Integer w g) bytes start h may some = absurd h
bytes-take room vector (Offset w g u) bytes start h may some = absurd h
bytes-take room vector Text bytes start h may some = text-own vector bytes
bytes-take room vector (Integers w g) bytes start h may none = cc
bytes-take room vector (Offsets w g u) bytes start h may none = cc
bytes-take room vector (Records stride size) bytes start h may none = absurd h
bytes-take room vector Array bytes start h may some = absurd h
bytes-take room vector (Struct t) bytes start h may some = absurd h
bytes-take room vector (Union i t) bytes start h may some = absurd h

bytes-marks : (vector : Vector) (shape : Shape) (bytes : List ℕ) (start : ℕ) (s : Slots) →
    of_vector vector (marks_of (with_bytes shape bytes start s))
    ≡ of_vector vector (marks_of s) + (place_takes vector + text_takes vector (length bytes))
bytes-marks NodesOf shape bytes start s =
    let n : Node = record { start = start; content = length s.texts; shape = shape } in length_push s.nodes n
bytes-marks FamiliesOf shape bytes start s = omega arith
bytes-marks LinksOf shape bytes start s = omega arith
bytes-marks PendingOf shape bytes start s = length_push s.pending (Some (length s.nodes))
bytes-marks TextsOf shape bytes start s = length_push s.texts (length s.bytes + length bytes)
bytes-marks BytesOf shape bytes start s = omega (arith, length-append s.bytes bytes)

bytes-new : (shape : Shape) (bytes : List ℕ) (start : ℕ) (s : Slots) → IsSound s → AreBytes shape bytes start →
    NewNode s (with_bytes shape bytes start s) (record { start = start; content = length s.texts; shape = shape })
bytes-new shape bytes start s sound h = record {
  grows = record {
    more_nodes = record { start = start; content = length s.texts; shape = shape } ∷ [];
    nodes = refl;
    more_families = [];
    more_links = [];
    more_texts = (length s.bytes + length bytes) ∷ [];
    more_bytes = bytes;
    families = sym (append-nil s.families);
    links = sym (append-nil s.links);
    texts = refl;
    bytes = refl;
  };
  nodes = refl;
  is = record {
    content = bytes-content shape bytes start s sound h;
    below = bytes-links (with_bytes shape bytes start s) shape bytes start (length s.texts) (length s.nodes) h;
    template = bytes-template (with_bytes shape bytes start s) (length s.nodes) shape bytes start (length s.texts) h;
  };
}

pub bytes-adds : (room : Room) (shape : Shape) (bytes : List ℕ) (start : ℕ) (s : Slots) → IsSound s →
    AreBytes shape bytes start → MayKeep room shape → AreSome shape bytes →
    Adds room s (with_bytes shape bytes start s) (λ names. Some (bytes_value shape bytes start) ∷ [])
bytes-adds room shape bytes start s sound are may some =
    let u = with_bytes shape bytes start s in
    let n : Node = record { start = start; content = length s.texts; shape = shape } in
    let new = bytes-new shape bytes start s sound are in
    record {
      sound = record {
        nodes = nodes-new s u n sound new;
        pending = pending-new s u n (length s.pending) sound new (pending-last s);
        links = sound.links;
        bytes = bytes-tiles shape bytes start s sound;
      };
      rest = bytes-rest shape bytes start s;
      stack = λ names. stack-last names s u n sound new refl
          ∙ ap (λ t. stack names s ++ Some t ∷ []) (bytes-tree names shape bytes start s (trees names s) sound are);
      takes = λ none names vector.
          omega (arith, bytes-marks vector shape bytes start s, bytes-take room vector shape bytes start are may none);
      bare = λ e. absurd (omega (arith, e, length_push s.nodes n));
    }
