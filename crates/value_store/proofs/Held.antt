-- What the calls of a store do to its open values.
use Rattle.std.proofs.Common.{◌≡◌, ℕ, ◌+◌, ◌-◌, ◌<◌, ◌≤◌, false, List, [], ◌∷◌, Some, None, Result, Ok, Err, OnOk, OnErr, length, max, refl, sym, ◌∙◌, ap, arith}
use Rattle.std.proofs.lemmas.List.{append-nil}
use Rattle.value_store.specs.declared.store.room.Growth.TheVariants.{Never}
use Rattle.value_store.specs.declared.store.room.Room.{Room}
use Rattle.value_store.specs.declared.store.slots.Marks.{Marks}
use Rattle.value_store.specs.declared.store.slots.Shape.{Shape}
use Rattle.pickle_meaning.specs.Values.{Mapped, Levels, no_values, opened, top_of, outer_of, gathered, pushed}
use Rattle.value_store.specs.Closed.{closed, placed}
use Rattle.value_store.specs.Keeping.{LacksRoom, CannotPush, CannotClose}
use Rattle.value_store.specs.Levels.{extended, FitsIn}
use Rattle.value_store.specs.Names.{Names}
use Rattle.value_store.specs.Slots.{Slots, Held, empty, packs_as, packs, HoldsInRoom, levels, level_count, stack, cut_to, marks_of, level_of, innermost, AreLevels, levels_at, Adds, AreAll, IsNumber, number_value, IsComposite, composite_label, with_leaf, with_family, with_absent, around, Regrown}
use Rattle.value_store.specs.Takes.{Vector, NodesOf, FamiliesOf, LinksOf, PendingOf, TextsOf, BytesOf, of_vector, levels_take}
use Rattle.value_store.proofs.Counted.{levels-more, levels_at-more, levels-above, levels_at-above, levels-sound, Adds-none, Adds-level}
use Rattle.value_store.proofs.Placed.{number-adds, family-adds, absent-adds}
use Rattle.value_store.proofs.Taken.{pushed-extended, levels_take-pushed, vector_of, slots-taken, pushed-some}
use Rattle.value_store.proofs.Fits.{levels-replaced, levels_at-replaced, innermost-level, overfills, overfilled, totals, held-levels}

-- the clause of a call that is refused
pub refused : {T E A : Type 0} (r : Result T E) → A → OnErr r A
refused (Ok x) a = tt
refused (Err x) a = a

-- the clause of a call that is not refused
pub accepted : {T E A : Type 0} (r : Result T E) → A → OnOk r A
accepted (Ok x) a = a
accepted (Err x) a = tt

-- numbers
module _ (h : Held) (shape : Shape) (start c : ℕ) (number : IsNumber shape)
    (all : AreLevels h.room h.frames h.slots) where
  pub number-frames : AreLevels h.room h.frames (with_leaf shape start c h.slots)
  number-frames = levels-more h.room h.frames h.slots (with_leaf shape start c h.slots)
      (λ names. Some (number_value shape start c) ∷ []) all
      (number-adds h.room shape start c h.slots number (levels-sound h.room h.frames h.slots all))

  pub number-levels : (names : Names) (capacity : Marks) →
      levels names
      (record { slots = with_leaf shape start c h.slots; frames = h.frames; room = h.room; capacity = capacity })
      ≡ pushed (levels names h) (Some (number_value shape start c))
  unfolding levels
  number-levels names capacity =
      levels_at-more names h.room h.frames h.slots (with_leaf shape start c h.slots)
      (λ names. Some (number_value shape start c) ∷ []) all
      (number-adds h.room shape start c h.slots number (levels-sound h.room h.frames h.slots all))
      ∙ pushed-extended (levels_at names h.frames h.slots) (Some (number_value shape start c))

  pub number-full : {T E : Type 0} (r : Result T E) → LacksRoom h (with_leaf shape start c h.slots) →
      OnErr r (CannotPush h (Some (number_value shape start c)))
  number-full r lacks = refused r (λ names.
      overfilled names h (with_leaf shape start c h.slots) _ number-frames (number-levels names h.capacity)
      (pushed-some (levels names h) (Some (number_value shape start c))) lacks)

-- arrays, structs and unions
module _ (h : Held) (shape : Shape) (start size : ℕ) (composite : IsComposite shape)
    (all : AreLevels h.room h.frames h.slots) where
  family-adds-here : Adds h.room (cut_to (innermost h.frames) h.slots)
      (with_family shape start size (innermost h.frames).pending h.slots) (λ names. Some (Mapped
      (composite_label names shape) start (start + size) (gathered (level_of names (innermost h.frames) h.slots))) ∷ [])
  family-adds-here =
      let i = innermost-level h.room h.frames h.slots all in
      family-adds h.room shape start size (innermost h.frames) h.slots composite i.sound i.is i.cut

  pub family-frames : AreLevels h.room h.frames (with_family shape start size (innermost h.frames).pending h.slots)
  family-frames = levels-replaced h.room h.frames h.slots
      (with_family shape start size (innermost h.frames).pending h.slots) _ all family-adds-here

  pub family-levels : (names : Names) (capacity : Marks) → levels names (record {
    slots = with_family shape start size (innermost h.frames).pending h.slots;
    frames = h.frames;
    room = h.room;
    capacity = capacity;
  }) ≡ placed (composite_label names shape) start (start + size) (levels names h)
  unfolding levels
  family-levels names capacity =
      let i = innermost-level h.room h.frames h.slots all in
      levels_at-replaced names h.room h.frames h.slots
      (with_family shape start size (innermost h.frames).pending h.slots) _ all family-adds-here
      ∙ ap (λ os. (Some (Mapped (composite_label names shape) start (start + size) (gathered os)) ∷ [])
      ∷ outer_of (levels_at names h.frames h.slots)) (sym (i.top names))

  closed-placed : (names : Names) (vector : Vector) →
      levels_take false vector (placed (composite_label names shape) start (start + size) (levels names h))
      ≡ levels_take false vector (closed (composite_label names shape) start (start + size) (levels names h))
  closed-placed names vector =
      omega (
        arith,
        levels_take-pushed false vector (outer_of (levels names h))
            (Some (Mapped (composite_label names shape) start (start + size) (gathered (top_of (levels names h))))),
      )

  pub family-full : {T E : Type 0} (r : Result T E) →
      LacksRoom h (with_family shape start size (innermost h.frames).pending h.slots) →
      OnErr r (CannotClose h (λ names. composite_label names shape) start (start + size))
  family-full r (vector, (least, more)) = refused r (λ names.
      let u = with_family shape start size (innermost h.frames).pending h.slots in
      let v = Some (Mapped (composite_label names shape) start (start + size) (gathered (top_of (levels names h)))) in
      overfills h _ (pushed-some (outer_of (levels names h)) v) vector least
      (λ none. omega (
        arith,
        more,
        totals names (record h { slots = u }) vector none family-frames,
        ap (levels_take false vector) (family-levels names h.capacity),
        closed-placed names vector,
      )))

-- the marks of the innermost open value are within the store
pub innermost-within : (h : Held) → AreLevels h.room h.frames h.slots →
    (innermost h.frames).pending ≤ length h.slots.pending
innermost-within h all = (innermost-level h.room h.frames h.slots all).is.within.pending

-- values are opened and closed
module _ (h : Held) (all : AreLevels h.room h.frames h.slots) where
  pub open-frames : AreLevels h.room (marks_of h.slots ∷ h.frames) h.slots
  open-frames = levels-above h.room h.frames h.slots h.slots (λ names. []) all
      (Adds-none h.room h.slots (levels-sound h.room h.frames h.slots all))

  pub open-levels : (names : Names) (capacity : Marks) →
      levels names
      (record { slots = h.slots; frames = marks_of h.slots ∷ h.frames; room = h.room; capacity = capacity })
      ≡ opened (levels names h)
  unfolding levels
  open-levels names capacity = levels_at-above names h.room h.frames h.slots h.slots (λ names. [])
      (Adds-none h.room h.slots (levels-sound h.room h.frames h.slots all))

  clear-adds : Adds h.room (cut_to (innermost h.frames) h.slots) (cut_to (innermost h.frames) h.slots) (λ names. [])
  clear-adds = Adds-none h.room (cut_to (innermost h.frames) h.slots) (innermost-level h.room h.frames h.slots all).cut

  pub clear-frames : AreLevels h.room h.frames (cut_to (innermost h.frames) h.slots)
  clear-frames =
      levels-replaced h.room h.frames h.slots (cut_to (innermost h.frames) h.slots) (λ names. []) all clear-adds

  pub clear-levels : (names : Names) (capacity : Marks) →
      levels names
      (record { slots = cut_to (innermost h.frames) h.slots; frames = h.frames; room = h.room; capacity = capacity })
      ≡ opened (outer_of (levels names h))
  unfolding levels
  clear-levels names capacity = levels_at-replaced names h.room h.frames h.slots (cut_to (innermost h.frames) h.slots)
      (λ names. []) all clear-adds

lift-frames_at : (room : Room) (ks : List Marks) (s : Slots) → AreLevels room ks s → AreLevels room (around ks) s
lift-frames_at room [] s all = all
lift-frames_at room (k ∷ ks) s all =
    levels-more room ks (cut_to k s) s (λ names. level_of names k s) all.1.1 (Adds-level room k ks s all)

lift-levels_at : (names : Names) (room : Room) (ks : List Marks) (s : Slots) → AreLevels room ks s →
    levels_at names (around ks) s ≡ extended (outer_of (levels_at names ks s)) (top_of (levels_at names ks s))
lift-levels_at names room [] s all = refl
lift-levels_at names room (k ∷ ks) s all =
    levels_at-more names room ks (cut_to k s) s (λ names. level_of names k s) all.1.1 (Adds-level room k ks s all)

pub lift-frames : (h : Held) → AreLevels h.room h.frames h.slots → AreLevels h.room (around h.frames) h.slots
lift-frames h all = lift-frames_at h.room h.frames h.slots all

pub lift-levels : (names : Names) (h : Held) (capacity : Marks) → AreLevels h.room h.frames h.slots →
    levels names (record { slots = h.slots; frames = around h.frames; room = h.room; capacity = capacity })
    ≡ extended (outer_of (levels names h)) (top_of (levels names h))
unfolding levels
lift-levels names h capacity all = lift-levels_at names h.room h.frames h.slots all

-- the innermost frame rolled back
pub dropped : (ls : Levels) → 1 < length ls → extended (outer_of ls) [] ≡ outer_of ls
dropped [] more = absurd (omega arith)
dropped (top ∷ []) more = absurd (omega arith)
dropped (top ∷ next ∷ outer) more = ap (λ t. t ∷ outer) (append-nil next)

-- absent fields
pub absent-frames : (h : Held) → AreLevels h.room h.frames h.slots → AreLevels h.room h.frames (with_absent h.slots)
absent-frames h all = levels-more h.room h.frames h.slots (with_absent h.slots) (λ names. None ∷ []) all
    (absent-adds h.room h.slots (levels-sound h.room h.frames h.slots all))

pub absent-levels : (names : Names) (h : Held) (capacity : Marks) → AreLevels h.room h.frames h.slots →
    levels names (record { slots = with_absent h.slots; frames = h.frames; room = h.room; capacity = capacity })
    ≡ pushed (levels names h) None
unfolding levels
absent-levels names h capacity all =
    levels_at-more names h.room h.frames h.slots (with_absent h.slots) (λ names. None ∷ []) all
    (absent-adds h.room h.slots (levels-sound h.room h.frames h.slots all))
    ∙ pushed-extended (levels_at names h.frames h.slots) None

pub absent-full : {T E : Type 0} (r : Result T E) (h : Held) → AreLevels h.room h.frames h.slots →
    LacksRoom h (with_absent h.slots) → OnErr r (CannotPush h None)
absent-full r h all lacks = refused r (λ names.
    overfilled names h (with_absent h.slots) _ (absent-frames h all) (absent-levels names h h.capacity all)
    (pushed-some (levels names h) None) lacks)

-- the entries of a store that never grows
all-capacity : (vector : Vector) (n : ℕ) (capacity : Marks) → AreAll n capacity → of_vector vector capacity ≡ n
all-capacity NodesOf n capacity h = h.nodes
all-capacity FamiliesOf n capacity h = h.families
all-capacity LinksOf n capacity h = h.links
all-capacity PendingOf n capacity h = h.pending
all-capacity TextsOf n capacity h = h.texts
all-capacity BytesOf n capacity h = h.bytes

pub held-fits : (names : Names) (h : Held) → h.room.growth ≡ Never → AreLevels h.room h.frames h.slots →
    AreAll h.room.least h.capacity → HoldsInRoom h → FitsIn h.room (levels names h)
held-fits names h never all fixed in_room kind =
    let counted : packs h.room ≡ false = ap (λ g. packs_as g h.room.least) never in
    let within = held-levels h counted all in_room names (vector_of kind) in
    let room = all-capacity (vector_of kind) h.room.least h.capacity fixed in
    omega (arith, within, room, slots-taken kind (levels names h))

-- the number of open values
length-around : (ks : List Marks) → 1 + length (around ks) ≡ max 1 ((1 + length ks) - 1)
length-around [] = refl
length-around (k ∷ ks) = omega arith

pub depth-lift : (ks ms : List Marks) → ms ≡ around ks → 1 + length ms ≡ max 1 ((1 + length ks) - 1)
depth-lift ks ms e = ap (λ (ks : List Marks). 1 + length ks) e ∙ length-around ks

-- each frame is one of the depth
length-levels_at : (names : Names) (ks : List Marks) (s : Slots) → length (levels_at names ks s) ≡ 1 + length ks
length-levels_at names [] s = refl
length-levels_at names (k ∷ ks) s = omega (arith, length-levels_at names ks (cut_to k s))

pub length-levels : (names : Names) (h : Held) → length (levels names h) ≡ level_count h
unfolding levels
length-levels names h = length-levels_at names h.frames h.slots

-- an empty store has no values
pub none-open : (names : Names) (room : Room) (capacity : Marks) → levels names (empty room capacity) ≡ no_values
unfolding levels stack
none-open names room capacity = refl

pub ruleset none_open = (none-open)

-- a store that has grown has the same values
pub regrown-levels : (names : Names) (before after : Held) → Regrown before after →
    levels names after ≡ levels names before
unfolding levels
regrown-levels names before after e = let f : Held → Levels = λ h. levels_at names h.frames h.slots in ap f e

pub regrown-depth : (before after : Held) → Regrown before after → level_count after ≡ level_count before
regrown-depth before after e = ap level_count e
