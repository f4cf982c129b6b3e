use Rattle.std.proofs.Common.{rules, ◌≡◌, length, sym}
use Rattle.std.specs.Prelude.{slice_range}
use Rattle.value_store.specs.Slots.{marks_at, level_end}
use Rattle.value_store.specs.contracts.store.Store.{the_view}
use Rattle.value_store.proofs.Lookup.{part-read, part-below, level-length}
use Rattle.value_store.proofs.store.Store.level_links.Goals as goal

pub returns-clause-parts : goal.returns-clause-parts
returns-clause-parts c =
    let h = the_view c.self.inside in
    let e : slice_range c.deref.result.now c.frame.result.pending c.end_of_level.result ≡ slice_range h.slots.pending
    (marks_at h.frames c.args.level).pending (level_end h.frames (length h.slots.pending) c.args.level) =
    search rules in
    λ names. rw (← c.self.view_is) (rw e (part-read h c.args.level c.self.invariant.levels names))

pub returns-clause-below : goal.returns-clause-below
returns-clause-below c =
    let h = the_view c.self.inside in
    let e : slice_range c.deref.result.now c.frame.result.pending c.end_of_level.result ≡ slice_range h.slots.pending
    (marks_at h.frames c.args.level).pending (level_end h.frames (length h.slots.pending) c.args.level) =
    search rules in
    rw (← c.self.view_is) (rw e (part-below h c.args.level c.self.invariant.levels))

pub returns-clause-count : goal.returns-clause-count
returns-clause-count c =
    let h = the_view c.self.inside in
    let e : slice_range c.deref.result.now c.frame.result.pending c.end_of_level.result ≡ slice_range h.slots.pending
    (marks_at h.frames c.args.level).pending (level_end h.frames (length h.slots.pending) c.args.level) =
    search rules in
    λ names. rw (← c.self.view_is) (rw e (sym (level-length h c.args.level c.self.invariant.levels names)))
