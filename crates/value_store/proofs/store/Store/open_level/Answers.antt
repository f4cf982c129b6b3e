use Rattle.std.proofs.Common.{refl, rules, ◌≡◌, ◌+◌, ◌≤◌, ◌∷◌, sym, subst, ◌∙◌, ap, arith, length, reverse, lit<}
use Rattle.std.proofs.lemmas.List.{length-reverse}
use Rattle.value_store.specs.Slots.{Held, level_count, marks_of}
use Rattle.value_store.specs.contracts.store.Store.{the_view}
use Rattle.value_store.proofs.Held.{open-frames, open-levels}
use Rattle.value_store.proofs.Frames.{reverse-push}
use Rattle.value_store.proofs.store.Store.open_level.Goals as goal

pub push-requires : goal.push-requires
push-requires c =
    let r : level_count (the_view c.self.inside) ≤ 64 =
    subst (λ (h : Held). level_count h ≤ 64) (sym c.self.view_is) c.requires in
    (lit< tt, omega (arith, r, length-reverse c.self.inside.frames.items))

pub invariant_of-self : goal.invariant_of-self
invariant_of-self c =
    let m : c.marks-marks.result ≡ marks_of (the_view c.self.inside).slots = search rules in
    let e : reverse c.push.new.self.items ≡ marks_of (the_view c.self.inside).slots ∷ (the_view c.self.inside).frames =
    ap reverse c.push.ensures.items ∙ reverse-push c.self.inside.frames.items c.marks-marks.result
    ∙ ap (λ k. k ∷ (the_view c.self.inside).frames) m in
    record {
      levels = rw e (open-frames (the_view c.self.inside) c.self.invariant.levels);
      nodes = search rules;
      families = search rules;
      links = search rules;
      pending = search rules;
      texts = search rules;
      bytes = search rules;
      fixed = c.self.invariant.fixed;
    }

pub returns-clause-levels : goal.returns-clause-levels
returns-clause-levels c =
    let m : c.marks-marks.result ≡ marks_of (the_view c.self.inside).slots = search rules in
    let e : reverse c.push.new.self.items ≡ marks_of (the_view c.self.inside).slots ∷ (the_view c.self.inside).frames =
    ap reverse c.push.ensures.items ∙ reverse-push c.self.inside.frames.items c.marks-marks.result
    ∙ ap (λ k. k ∷ (the_view c.self.inside).frames) m in
    λ names. rw (← c.self.view_is) (rw e (open-levels (the_view c.self.inside) c.self.invariant.levels names _))

pub returns-clause-sound : goal.returns-clause-sound
returns-clause-sound c =
    let m : c.marks-marks.result ≡ marks_of (the_view c.self.inside).slots = search rules in
    let e : reverse c.push.new.self.items ≡ marks_of (the_view c.self.inside).slots ∷ (the_view c.self.inside).frames =
    ap reverse c.push.ensures.items ∙ reverse-push c.self.inside.frames.items c.marks-marks.result
    ∙ ap (λ k. k ∷ (the_view c.self.inside).frames) m in
    rw e (open-frames (the_view c.self.inside) c.self.invariant.levels)

pub returns-clause-depth : goal.returns-clause-depth
returns-clause-depth c =
    let e : reverse c.push.new.self.items ≡ c.marks-marks.result ∷ (the_view c.self.inside).frames =
    ap reverse c.push.ensures.items ∙ reverse-push c.self.inside.frames.items c.marks-marks.result in
    rw (← c.self.view_is) (rw e (let n : 1 + length (c.marks-marks.result ∷ (the_view c.self.inside).frames)
    ≡ (1 + length (the_view c.self.inside).frames) + 1 = omega arith in n))

pub returns-clause-fresh : goal.returns-clause-fresh
returns-clause-fresh c =
    let m : c.marks-marks.result ≡ marks_of (the_view c.self.inside).slots = search rules in
    let e : reverse c.push.new.self.items ≡ marks_of (the_view c.self.inside).slots ∷ (the_view c.self.inside).frames =
    ap reverse c.push.ensures.items ∙ reverse-push c.self.inside.frames.items c.marks-marks.result
    ∙ ap (λ k. k ∷ (the_view c.self.inside).frames) m in
    rw e refl

pub returns-clause-moves : goal.returns-clause-moves
returns-clause-moves c =
    let m : c.marks-marks.result ≡ marks_of (the_view c.self.inside).slots = search rules in
    let e : reverse c.push.new.self.items ≡ marks_of (the_view c.self.inside).slots ∷ (the_view c.self.inside).frames =
    ap reverse c.push.ensures.items ∙ reverse-push c.self.inside.frames.items c.marks-marks.result
    ∙ ap (λ k. k ∷ (the_view c.self.inside).frames) m in
    rw (← c.self.view_is) (rw e refl)
