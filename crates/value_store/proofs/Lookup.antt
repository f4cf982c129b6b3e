-- The parts of the open values, among the pending children.
use Rattle.std.proofs.Common.{◌≡◌, ℕ, zero, suc, ◌+◌, ◌-◌, ◌<◌, ◌≤◌, List, [], ◌∷◌, None, length, take, drop, map, refl, sym, ◌∙◌, ap, arith}
use Rattle.std.specs.Prelude.{slice_get, unwrap_or, IfSome, slice_range}
use Rattle.std.specs.Option.{option_map}
use Rattle.std.proofs.lemmas.List.{length-take, take-take, take_all, take-map, drop-map, drop-take, length-map}
use Rattle.value_store.specs.declared.store.room.Room.{Room}
use Rattle.value_store.specs.declared.store.slots.Marks.{Marks}
use Rattle.pickle_meaning.specs.Values.{level_at, value_at as part_in}
use Rattle.value_store.specs.Names.{Names}
use Rattle.value_store.specs.Slots.{Slots, Held, levels, opened, trees, stack, value_at, LinksBelow, cut_to, root_marks, AreLevels, levels_at, marks_at, level_end}
use Rattle.value_store.proofs.Grown.{length-stack, stack-cut, LinksBelow-take, LinksBelow-drop}
use Rattle.value_store.proofs.Counted.{levels-sound}
use Rattle.value_store.proofs.Found.{links-read, links-below}

marks-past : (level : ℕ) → marks_at [] level ≡ root_marks
marks-past zero = refl
marks-past (suc level) = refl

-- the marks fall from the innermost open value outwards
pub record Falls (ks : List Marks) (count level : ℕ) : Type 0 where
  pub ordered : (marks_at ks level).pending ≤ level_end ks count level
  pub within : level_end ks count level ≤ count

pub marks-fall : (room : Room) (ks : List Marks) (s : Slots) (level : ℕ) → AreLevels room ks s →
    Falls ks (length s.pending) level
marks-fall room [] s zero h = record { ordered = omega arith; within = omega arith }
marks-fall room [] s (suc zero) h = record { ordered = omega arith; within = omega arith }
marks-fall room [] s (suc (suc level)) h = record { ordered = omega arith; within = omega arith }
marks-fall room (k ∷ ks) s zero h = record { ordered = h.1.0.within.pending; within = omega arith }
marks-fall room (k ∷ ks) s (suc zero) h =
    let r = marks-fall room ks (cut_to k s) zero h.1.1 in
    record {
      ordered = omega (arith, r.ordered, length-take k.pending s.pending, h.1.0.within.pending);
      within = h.1.0.within.pending;
    }
marks-fall room (k ∷ ks) s (suc (suc level)) h =
    let r = marks-fall room ks (cut_to k s) (suc level) h.1.1 in
    record {
      ordered = r.ordered;
      within = omega (arith, r.within, length-take k.pending s.pending, h.1.0.within.pending);
    }

-- the parts of an open value are between two marks
level-row : (names : Names) (room : Room) (ks : List Marks) (s : Slots) (level : ℕ) → AreLevels room ks s →
    level_at (levels_at names ks s) level
    ≡ drop (marks_at ks level).pending (take (level_end ks (length s.pending) level) (stack names s))
level-row names room [] s zero h =
    ap (drop 0) (sym (take_all (length s.pending) (stack names s) (omega (arith, length-stack names s))))
level-row names room [] s (suc zero) h = refl
level-row names room [] s (suc (suc level)) h = refl
level-row names room (k ∷ ks) s zero h =
    ap (drop k.pending) (sym (take_all (length s.pending) (stack names s) (omega (arith, length-stack names s))))
level-row names room (k ∷ ks) s (suc zero) h =
    let c = cut_to k s in
    let e : stack names c ≡ take k.pending (stack names s) = stack-cut names k s (levels-sound room ks c h.1.1) in
    let n : length c.pending ≡ k.pending = omega (arith, length-take k.pending s.pending, h.1.0.within.pending) in
    level-row names room ks c zero h.1.1
    ∙ ap (λ m. drop (marks_at ks 0).pending (take m (stack names c))) n
    ∙ ap (λ vs. drop (marks_at ks 0).pending (take k.pending vs)) e
    ∙ ap (drop (marks_at ks 0).pending) (take-take k.pending k.pending (stack names s) (omega arith))
level-row names room (k ∷ ks) s (suc (suc level)) h =
    let c = cut_to k s in
    let e : stack names c ≡ take k.pending (stack names s) = stack-cut names k s (levels-sound room ks c h.1.1) in
    let w = (marks-fall room ks c (suc level) h.1.1).within in
    let end = level_end ks (length c.pending) (suc level) in
    level-row names room ks c (suc level) h.1.1
    ∙ ap (λ vs. drop (marks_at ks (suc level)).pending (take end vs)) e
    ∙ ap (drop (marks_at ks (suc level)).pending)
    (take-take end k.pending (stack names s) (omega (arith, w, length-take k.pending s.pending)))

range-rest : {A : Type 0} (first end : ℕ) (xs : List A) → first ≤ end →
    drop first (take end xs) ≡ slice_range xs first end
range-rest first end xs le =
    let e : end ≡ first + (end - first) = omega arith in
    ap (λ n. drop first (take n xs)) e ∙ drop-take first (end - first) xs

-- the part at a place of an open value
module _ (h : Held) (level : ℕ) (all : AreLevels h.room h.frames h.slots) where
  pub level-links : (names : Names) →
      level_at (levels names h) level ≡ map (opened (trees names h.slots)) (slice_range h.slots.pending
      (marks_at h.frames level).pending (level_end h.frames (length h.slots.pending) level))
  unfolding levels stack
  level-links names =
      let s = h.slots in
      let from = (marks_at h.frames level).pending in
      let end = level_end h.frames (length s.pending) level in
      level-row names h.room h.frames s level all
      ∙ range-rest from end (stack names s) (marks-fall h.room h.frames s level all).ordered
      ∙ ap (take (end - from)) (drop-map (opened (trees names s)) from s.pending)
      ∙ take-map (opened (trees names s)) (end - from) (drop from s.pending)

  links-sound : LinksBelow (length h.slots.nodes) (slice_range h.slots.pending (marks_at h.frames level).pending
      (level_end h.frames (length h.slots.pending) level))
  links-sound =
      let s = h.slots in
      let from = (marks_at h.frames level).pending in
      let end = level_end h.frames (length s.pending) level in
      LinksBelow-take (length s.nodes) (end - from) (drop from s.pending)
      (LinksBelow-drop (length s.nodes) from s.pending (levels-sound h.room h.frames s all).pending)

  pub part-read : (names : Names) (i : ℕ) →
      option_map (value_at names h.slots) (unwrap_or (slice_get (slice_range h.slots.pending
      (marks_at h.frames level).pending (level_end h.frames (length h.slots.pending) level)) i) None)
      ≡ part_in (levels names h) level i
  part-read names i =
      links-read names h.slots (slice_range h.slots.pending (marks_at h.frames level).pending
      (level_end h.frames (length h.slots.pending) level)) i links-sound
      ∙ ap (λ vs. unwrap_or (slice_get vs i) None) (sym (level-links names))

  pub part-below : (i : ℕ) →
      IfSome (unwrap_or (slice_get (slice_range h.slots.pending (marks_at h.frames level).pending
      (level_end h.frames (length h.slots.pending) level)) i) None) (λ j. j < length h.slots.nodes)
  part-below i = links-below h.slots (slice_range h.slots.pending (marks_at h.frames level).pending
      (level_end h.frames (length h.slots.pending) level)) i links-sound

  pub level-length : (names : Names) →
      length (level_at (levels names h) level) ≡ length (slice_range h.slots.pending (marks_at h.frames level).pending
      (level_end h.frames (length h.slots.pending) level))
  level-length names = ap length (level-links names) ∙ length-map _ (opened (trees names h.slots))
