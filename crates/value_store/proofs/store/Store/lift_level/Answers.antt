use Rattle.std.proofs.Common.{rules, ◌≡◌, refl, ◌∙◌, ap, reverse}
use Rattle.value_store.specs.Slots.{around}
use Rattle.value_store.specs.contracts.store.Store.{the_view}
use Rattle.value_store.proofs.Held.{lift-frames, lift-levels, depth-lift}
use Rattle.value_store.proofs.Frames.{reverse-pop}
use Rattle.value_store.proofs.store.Store.lift_level.Goals as goal

pub invariant_of-self : goal.invariant_of-self
invariant_of-self c =
    let e : reverse c.pop.new.self.items ≡ around (the_view c.self.inside).frames =
    ap reverse c.pop.ensures.rest ∙ reverse-pop c.self.inside.frames.items in
    record {
      levels = rw e (lift-frames (the_view c.self.inside) c.self.invariant.levels);
      nodes = search rules;
      families = search rules;
      links = search rules;
      pending = search rules;
      texts = search rules;
      bytes = search rules;
      fixed = c.self.invariant.fixed;
    }

pub returns-clause-levels : goal.returns-clause-levels
returns-clause-levels c =
    let e : reverse c.pop.new.self.items ≡ around (the_view c.self.inside).frames =
    ap reverse c.pop.ensures.rest ∙ reverse-pop c.self.inside.frames.items in
    λ names. rw (← c.self.view_is) (rw e (lift-levels names (the_view c.self.inside) _ c.self.invariant.levels))

pub returns-clause-depth : goal.returns-clause-depth
returns-clause-depth c =
    let e : reverse c.pop.new.self.items ≡ around (the_view c.self.inside).frames =
    ap reverse c.pop.ensures.rest ∙ reverse-pop c.self.inside.frames.items in
    rw (← c.self.view_is) (depth-lift (the_view c.self.inside).frames _ e)

pub returns-clause-lifts : goal.returns-clause-lifts
returns-clause-lifts c =
    let e : reverse c.pop.new.self.items ≡ around (the_view c.self.inside).frames =
    ap reverse c.pop.ensures.rest ∙ reverse-pop c.self.inside.frames.items in
    rw (← c.self.view_is) (rw e refl)
