use Rattle.std.proofs.Common.{arith, ◌≡◌, ◌≤◌, ◌-◌, suc, sym, subst, length}
use Rattle.value_store.specs.Slots.{marks_at}
use Rattle.value_store.specs.contracts.store.Store.{the_view}
use Rattle.value_store.proofs.Lookup.{Falls, marks-fall}
use Rattle.value_store.proofs.store.Store.end_of_level.Goals as goal

pub returns-else-level-eq0-clause-ordered : goal.returns-else-level-eq0-clause-ordered
returns-else-level-eq0-clause-ordered c =
    let h = the_view c.self.inside in
    let up : c.args.level ≡ suc (c.args.level - 1) = omega arith in
    let f : Falls h.frames (length h.slots.pending) (suc (c.args.level - 1)) =
    subst (λ n. Falls h.frames (length h.slots.pending) n) up
    (marks-fall h.room h.frames h.slots c.args.level c.self.invariant.levels) in
    let g : (marks_at h.frames c.args.level).pending ≤ (marks_at h.frames (c.args.level - 1)).pending =
    subst (λ n. (marks_at h.frames n).pending ≤ (marks_at h.frames (c.args.level - 1)).pending) (sym up) f.ordered in
    rw c.frame.ensures (rw (← c.self.view_is) g)

pub returns-else-level-eq0-clause-within : goal.returns-else-level-eq0-clause-within
returns-else-level-eq0-clause-within c =
    let h = the_view c.self.inside in
    let up : c.args.level ≡ suc (c.args.level - 1) = omega arith in
    let f : Falls h.frames (length h.slots.pending) (suc (c.args.level - 1)) =
    subst (λ n. Falls h.frames (length h.slots.pending) n) up
    (marks-fall h.room h.frames h.slots c.args.level c.self.invariant.levels) in
    rw c.frame.ensures (rw (← c.self.view_is) f.within)
