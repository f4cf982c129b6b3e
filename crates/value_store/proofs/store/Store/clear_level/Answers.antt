use Rattle.std.proofs.Common.{rules, ◌≡◌, ◌∙◌, ap, arith}
use Rattle.value_store.specs.Slots.{Slots, innermost, cut_to}
use Rattle.value_store.specs.contracts.store.Store.{the_view}
use Rattle.value_store.proofs.Held.{clear-frames, clear-levels}
use Rattle.value_store.proofs.Moved.{having, clear-moves}
use Rattle.value_store.proofs.store.Store.clear_level.Goals as goal

pub invariant_of-self : goal.invariant_of-self
invariant_of-self c =
    let s = (the_view c.self.inside).slots in
    let m : c.innermost-marks.result ≡ innermost (the_view c.self.inside).frames = search rules in
    let t : Slots = record {
      nodes = c.truncate.new.self.items;
      families = c.truncate-2.new.self.items;
      links = c.truncate-3.new.self.items;
      pending = c.truncate-4.new.self.items;
      texts = c.truncate-5.new.self.items;
      bytes = c.truncate-6.new.self.items;
    } in
    let e : t ≡ cut_to c.innermost-marks.result s = search rules in
    record {
      levels = rw (e, m) (clear-frames (the_view c.self.inside) c.self.invariant.levels);
      nodes = search rules;
      families = search rules;
      links = search rules;
      pending = search rules;
      texts = search rules;
      bytes = search rules;
      fixed = λ e. let f = c.self.invariant.fixed e in record {
        nodes = omega (arith, f.nodes, c.truncate.ensures.capacity);
        families = omega (arith, f.families, c.truncate-2.ensures.capacity);
        links = omega (arith, f.links, c.truncate-3.ensures.capacity);
        pending = omega (arith, f.pending, c.truncate-4.ensures.capacity);
        texts = omega (arith, f.texts, c.truncate-5.ensures.capacity);
        bytes = omega (arith, f.bytes, c.truncate-6.ensures.capacity);
      };
    }

pub returns-clause-levels : goal.returns-clause-levels
returns-clause-levels c =
    let s = (the_view c.self.inside).slots in
    let m : c.innermost-marks.result ≡ innermost (the_view c.self.inside).frames = search rules in
    let t : Slots = record {
      nodes = c.truncate.new.self.items;
      families = c.truncate-2.new.self.items;
      links = c.truncate-3.new.self.items;
      pending = c.truncate-4.new.self.items;
      texts = c.truncate-5.new.self.items;
      bytes = c.truncate-6.new.self.items;
    } in
    let e : t ≡ cut_to c.innermost-marks.result s = search rules in
    λ names. rw (← c.self.view_is) (rw (e, m) (clear-levels (the_view c.self.inside) c.self.invariant.levels names _))

pub returns-clause-moves : goal.returns-clause-moves
returns-clause-moves c =
    let s = (the_view c.self.inside).slots in
    let m : c.innermost-marks.result ≡ innermost (the_view c.self.inside).frames = search rules in
    let t : Slots = record {
      nodes = c.truncate.new.self.items;
      families = c.truncate-2.new.self.items;
      links = c.truncate-3.new.self.items;
      pending = c.truncate-4.new.self.items;
      texts = c.truncate-5.new.self.items;
      bytes = c.truncate-6.new.self.items;
    } in
    let e : t ≡ cut_to c.innermost-marks.result s = search rules in
    rw (← c.self.view_is) (ap (having (the_view c.self.inside)) (e ∙ ap (λ k. cut_to k s) m)
    ∙ clear-moves (the_view c.self.inside) c.self.invariant.levels)

pub returns-clause-slots : goal.returns-clause-slots
returns-clause-slots c =
    let s = (the_view c.self.inside).slots in
    let m : c.innermost-marks.result ≡ innermost (the_view c.self.inside).frames = search rules in
    let t : Slots = record {
      nodes = c.truncate.new.self.items;
      families = c.truncate-2.new.self.items;
      links = c.truncate-3.new.self.items;
      pending = c.truncate-4.new.self.items;
      texts = c.truncate-5.new.self.items;
      bytes = c.truncate-6.new.self.items;
    } in
    let e : t ≡ cut_to c.innermost-marks.result s = search rules in
    rw (← c.self.view_is) (e ∙ ap (λ k. cut_to k s) m)
