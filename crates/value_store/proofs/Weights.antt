-- What the moves of a store add to its weight.
use Rattle.std.proofs.Common.{◌≡◌, ℕ, ◌+◌, ◌≤◌, List, Result, Ok, Err, OnOk, OnErr, inl, inr, length, sym, ap, subst, ◌∙◌, arith}
use Rattle.pickle_meaning.specs.Values.{Levels}
use Rattle.value_store.specs.declared.store.room.Growth.{Growth}
use Rattle.value_store.specs.declared.store.room.Growth.TheVariants.{Free, Never, Within}
use Rattle.value_store.specs.declared.store.room.Room.{Room}
use Rattle.value_store.specs.declared.store.slots.Marks.{Marks}
use Rattle.value_store.specs.declared.store.slots.Shape.{Shape}
use Rattle.value_store.specs.Exceeding.{Exceeds}
use Rattle.value_store.specs.Moves.{Move, Packs, State, Moves, CannotMove, Refuses, state_of, moved, with_number, with_text, with_links, with_template, joined}
use Rattle.value_store.specs.Packed.{bytes_for, number_bytes}
use Rattle.value_store.specs.Slots.{Held, packs, innermost, marks_of, element_width, HasNoNode, IsPacked, TakesNumber, KeepsRoom}
use Rattle.value_store.proofs.Moved.{fresh-marks, stale-marks, packs-longer}
use Rattle.value_store.proofs.PackedRows.{row_bytes}
use Rattle.value_store.specs.Weights.{weight, GrowsFreely, IsUnbounded, Forbids, TakesWeight, RejectsWeight, IsLight}

-- ---- lengths

pub number-weighs : (n : Marks) → weight (with_number n) ≡ weight n + 32
number-weighs n = omega arith

pub absent-weighs : (n : Marks) → weight (record n { pending = n.pending + 1 }) ≡ weight n + 8
absent-weighs n = omega arith

-- the members of a frame that began at k are closed
pub links-weigh : (k n : Marks) → k.pending ≤ n.pending → weight (with_links k n) ≡ weight n + 48
links-weigh k n le = omega (arith, le)

pub template-weighs : (k n : Marks) → k.pending ≤ n.pending → weight (with_template k n) ≡ weight n + 80
template-weighs k n le = omega (arith, le)

-- a text or a row of packed numbers, which is all that a frame has, begins
pub fresh-weighs : (k n : Marks) (more : ℕ) → n ≡ k → weight (with_text k (n.bytes + more)) ≡ weight n + (40 + more)
fresh-weighs k n more e =
    subst (λ (j : Marks). weight (with_text j (n.bytes + more)) ≡ weight n + (40 + more)) e (omega arith)

-- it has more bytes
pub stale-weighs : (k n : Marks) (more : ℕ) → n ≡ with_text k n.bytes →
    weight (with_text k (n.bytes + more)) ≡ weight n + more
stale-weighs k n more e = omega (arith, ap weight e)

-- it ends as it is
pub fresh-ends : (k n : Marks) → n ≡ k → weight (with_text k n.bytes) ≡ weight n + 40
fresh-ends k n e = subst (λ (j : Marks). weight (with_text j n.bytes) ≡ weight n + 40) e (omega arith)

pub stale-ends : (k n : Marks) → n ≡ with_text k n.bytes → weight (with_text k n.bytes) ≡ weight n + 0
stale-ends k n e = omega (arith, ap weight e)

pub more-weighs : (n : Marks) (more : ℕ) → weight (record n { bytes = n.bytes + more }) ≡ weight n + more
more-weighs n more = omega arith

-- ---- the clauses of the calls

free-takes : (growth : Growth) (n : ℕ) → Forbids growth n → GrowsFreely growth → ⊥
free-takes Free n h free = h
free-takes Never n h free = h
free-takes (Within most) n h free = free

pub heavy-bound : (room : Room) (n : ℕ) → RejectsWeight room n → IsUnbounded room → ⊥
heavy-bound room n h free = free-takes room.growth n h free

-- nothing is said of the slots of a store whose weight is bounded
pub heavy-exceeds : (room : Room) (n : ℕ) → RejectsWeight room n → (ls : Levels) → Exceeds room ls
heavy-exceeds room n h ls = λ free. absurd (heavy-bound room n h free)

module _ {T E : Type 0} (r : Result T E) (h : Held) (move : Move) where
  -- a move was made that adds so much
  pub light-by : (n : Held) (more : ℕ) → KeepsRoom h n → OnOk r (Moves h n move) →
      weight (moved (packs h.room) move (state_of h)).now ≡ weight (marks_of h.slots) + more →
      TakesWeight h.room (weight (marks_of h.slots) + more) → OnOk r (IsLight n)
  light-by n more keeps moves e takes = on_ok r moves
    where
      on_ok : (r : Result T E) → OnOk r (Moves h n move) → OnOk r (IsLight n)
      on_ok (Ok x) moves =
          let w : weight (marks_of n.slots) ≡ weight (marks_of h.slots) + more =
          ap (λ (s : State). weight s.now) moves ∙ e in
          subst (λ (room : Room). TakesWeight room (weight (marks_of n.slots))) (sym keeps.room)
          (subst (TakesWeight h.room) (sym w) takes)
      on_ok (Err x) moves = tt

  -- a vector lacked capacity
  pub refuses-more : OnErr r (CannotMove h move) → OnErr r (Refuses h move)
  refuses-more lacks = on_err r lacks
    where
      on_err : (r : Result T E) → OnErr r (CannotMove h move) → OnErr r (Refuses h move)
      on_err (Ok x) lacks = tt
      on_err (Err x) lacks = inl lacks

-- a frame that has nothing
pub marks-within : (h : Held) → marks_of h.slots ≡ innermost h.frames →
    (innermost h.frames).pending ≤ length h.slots.pending
marks-within h e = omega (arith, ap (λ (n : Marks). n.pending) e)

-- a frame's members become one value
pub joined-weighs : (h : Held) (state : State) → (innermost h.frames).pending ≤ length h.slots.pending →
    joined (state_of h) ≡ state → weight state.now ≡ weight (marks_of h.slots) + 48
joined-weighs h state le e =
    ap (λ (s : State). weight s.now) (sym e) ∙ links-weigh (innermost h.frames) (marks_of h.slots) le

-- nothing is added
pub kept-weighs : (h : Held) (state : State) → state_of h ≡ state → weight state.now ≡ weight (marks_of h.slots) + 0
kept-weighs h state e = omega (arith, ap (λ (s : State). weight s.now) e)

-- an array of packed numbers has one more
module _ (h : Held) (shape : Shape) (start width digits : ℕ) (own : List ℕ) (p : IsPacked shape)
    (same : width ≡ element_width shape)
    (is : own ≡ number_bytes (bytes_for (element_width shape)) digits) (t : TakesNumber h shape start) where
  pub first-packed : HasNoNode h → weight (moved (packs h.room) (Packs width) (state_of h)).now
      ≡ weight (marks_of h.slots) + (40 + length own)
  first-packed fresh =
      ap (λ (s : State). weight s.now) (sym (packs-longer h shape start width digits own p same is t))
      ∙ fresh-weighs (innermost h.frames) (marks_of h.slots) (length own)
      (fresh-marks t.names h shape (row_bytes shape t.numbers) start t.outer t.packing.filling fresh)

  pub next-packed : (HasNoNode h → ⊥) → weight (moved (packs h.room) (Packs width) (state_of h)).now
      ≡ weight (marks_of h.slots) + length own
  next-packed stale =
      ap (λ (s : State). weight s.now) (sym (packs-longer h shape start width digits own p same is t))
      ∙ stale-weighs (innermost h.frames) (marks_of h.slots) (length own)
      (stale-marks t.names h shape (row_bytes shape t.numbers) start t.outer t.packing.filling stale)

-- a move would add more than the store takes
pub refuses-heavy : (h : Held) (move : Move) (more : ℕ) →
    weight (moved (packs h.room) move (state_of h)).now ≡ weight (marks_of h.slots) + more →
    RejectsWeight h.room (weight (marks_of h.slots) + more) → Refuses h move
refuses-heavy h move more e heavy = inr (subst (RejectsWeight h.room) (sym e) heavy)

pub heavy-refuses : {T E : Type 0} (r : Result T E) (h : Held) (move : Move) (more : ℕ) →
    weight (moved (packs h.room) move (state_of h)).now ≡ weight (marks_of h.slots) + more →
    OnErr r (RejectsWeight h.room (weight (marks_of h.slots) + more)) → OnErr r (Refuses h move)
heavy-refuses (Ok x) h move more e heavy = tt
heavy-refuses (Err x) h move more e heavy = refuses-heavy h move more e heavy
