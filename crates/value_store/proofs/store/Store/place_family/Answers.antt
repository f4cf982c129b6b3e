use Rattle.std.proofs.Common.{rules, ◌≡◌, ◌+◌, ◌-◌, Some, length, take, drop, ◌∙◌, ap, arith}
use Rattle.std.proofs.lemmas.List.{length-append, length-drop, length-take, length_push}
use Rattle.value_store.specs.declared.store.slots.Family.{Family}
use Rattle.value_store.specs.declared.store.slots.Marks.{Marks}
use Rattle.value_store.specs.declared.store.slots.Node.{Node}
use Rattle.value_store.specs.Moves.{Closes}
use Rattle.value_store.specs.Slots.{Slots, innermost, with_family, cut_to}
use Rattle.value_store.specs.Takes.{NodesOf, FamiliesOf, LinksOf, PendingOf}
use Rattle.value_store.specs.contracts.store.Store.{the_view}
use Rattle.value_store.proofs.Held.{family-frames, family-levels, family-full, innermost-within}
use Rattle.value_store.proofs.Moved.{having, family-joins, unmoved}
use Rattle.value_store.proofs.Below.{family-below, frame-within}
use Rattle.value_store.proofs.store.Store.place_family.Goals as goal

pub returns-in_err-reserve-clause-full : goal.returns-in_err-reserve-clause-full
returns-in_err-reserve-clause-full c =
    let h = the_view c.self.inside in
    let n : Node = record { start = c.args.start; content = length h.slots.families; shape = c.args.shape } in
    rw (← c.self.view_is)
    (family-full h c.args.shape c.args.start c.args.size c.requires.composite c.self.invariant.levels _
    (NodesOf, (c.self.invariant.nodes, omega (arith, c.in_err-reserve.ensures.full, length_push h.slots.nodes n))))

pub returns-in_err-reserve-2-clause-full : goal.returns-in_err-reserve-2-clause-full
returns-in_err-reserve-2-clause-full c =
    let h = the_view c.self.inside in
    let f : Family = record {
      end = length h.slots.links + (length h.slots.pending - (innermost h.frames).pending);
      size = c.args.size;
    } in
    rw (← c.self.view_is)
    (family-full h c.args.shape c.args.start c.args.size c.requires.composite c.self.invariant.levels _ (
      FamiliesOf,
      (c.self.invariant.families, omega (arith, c.in_err-reserve-2.ensures.full, length_push h.slots.families f)),
    ))

pub returns-in_err-reserve_moved-clause-full : goal.returns-in_err-reserve_moved-clause-full
returns-in_err-reserve_moved-clause-full c =
    let h = the_view c.self.inside in
    let m : c.innermost-mark.result ≡ innermost h.frames = search rules in
    let k = (innermost h.frames).pending in
    rw (← c.self.view_is)
    (family-full h c.args.shape c.args.start c.args.size c.requires.composite c.self.invariant.levels _ (
      LinksOf,
      (
        c.self.invariant.links,
        omega (
          arith,
          c.in_err-reserve_moved.ensures.full,
          ap (λ (k : Marks). k.pending) m,
          length-append h.slots.links (drop k h.slots.pending),
          length-drop k h.slots.pending,
        ),
      ),
    ))

pub returns-in_err-reserve_above-clause-full : goal.returns-in_err-reserve_above-clause-full
returns-in_err-reserve_above-clause-full c =
    let h = the_view c.self.inside in
    let m : c.innermost-mark.result ≡ innermost h.frames = search rules in
    let k = (innermost h.frames).pending in
    rw (← c.self.view_is)
    (family-full h c.args.shape c.args.start c.args.size c.requires.composite c.self.invariant.levels _ (
      PendingOf,
      (
        c.self.invariant.pending,
        omega (
          arith,
          c.in_err-reserve_above.ensures.full,
          ap (λ (k : Marks). k.pending) m,
          length_push (take k h.slots.pending) (Some (length h.slots.nodes)),
          length-take k h.slots.pending,
          innermost-within h c.self.invariant.levels,
        ),
      ),
    ))

pub invariant_of-self-2 : goal.invariant_of-self-2
invariant_of-self-2 c =
    let h = the_view c.self.inside in
    let s = h.slots in
    let m : c.innermost-mark.result ≡ innermost (the_view c.self.inside).frames = search rules in
    let t : Slots = record {
      nodes = c.push_reserved-3.new.self.items;
      families = c.push_reserved-2.new.self.items;
      links = c.move_above.new.to.items;
      pending = c.push_reserved.new.self.items;
      texts = s.texts;
      bytes = s.bytes;
    } in
    let e : t ≡ with_family c.args.shape c.args.start c.args.size c.innermost-mark.result.pending s = search rules in
    record {
      levels = rw (e, m) (family-frames (the_view c.self.inside) c.args.shape c.args.start c.args.size
          c.requires.composite c.self.invariant.levels);
      nodes = search rules;
      families = search rules;
      links = search rules;
      pending = search rules;
      texts = search rules;
      bytes = search rules;
      fixed = λ e. let f = c.self.invariant.fixed e in record {
        nodes = omega (arith, f.nodes, c.reserve.ensures.fixed e, c.push_reserved-3.ensures.capacity);
        families = omega (arith, f.families, c.reserve-2.ensures.fixed e, c.push_reserved-2.ensures.capacity);
        links = omega (arith, f.links, c.reserve_moved.ensures.fixed e, c.move_above.ensures.fixed e);
        pending = omega (
          arith,
          f.pending,
          c.reserve_above.ensures.fixed e,
          c.move_above.ensures.from_capacity,
          c.push_reserved.ensures.capacity,
        );
        texts = f.texts;
        bytes = f.bytes;
      };
    }

pub returns-clause-ok : goal.returns-clause-ok
returns-clause-ok c =
    let h = the_view c.self.inside in
    let s = h.slots in
    let m : c.innermost-mark.result ≡ innermost (the_view c.self.inside).frames = search rules in
    let t : Slots = record {
      nodes = c.push_reserved-3.new.self.items;
      families = c.push_reserved-2.new.self.items;
      links = c.move_above.new.to.items;
      pending = c.push_reserved.new.self.items;
      texts = s.texts;
      bytes = s.bytes;
    } in
    let e : t ≡ with_family c.args.shape c.args.start c.args.size c.innermost-mark.result.pending s = search rules in
    λ names. rw (← c.self.view_is) (rw (e, m) (family-levels (the_view c.self.inside) c.args.shape c.args.start
    c.args.size c.requires.composite c.self.invariant.levels names _))

pub returns-in_err-reserve-clause-lacks : goal.returns-in_err-reserve-clause-lacks
returns-in_err-reserve-clause-lacks c = rw (← c.self.view_is)
    (unmoved (the_view c.self.inside) _ Closes NodesOf (omega (arith, c.in_err-reserve.ensures.full)))

pub returns-in_err-reserve-2-clause-lacks : goal.returns-in_err-reserve-2-clause-lacks
returns-in_err-reserve-2-clause-lacks c = rw (← c.self.view_is)
    (unmoved (the_view c.self.inside) _ Closes FamiliesOf (omega (arith, c.in_err-reserve-2.ensures.full)))

pub returns-in_err-reserve_moved-clause-lacks : goal.returns-in_err-reserve_moved-clause-lacks
returns-in_err-reserve_moved-clause-lacks c =
    let m : c.innermost-mark.result ≡ innermost (the_view c.self.inside).frames = search rules in
    rw (← c.self.view_is) (unmoved (the_view c.self.inside) _ Closes LinksOf
    (omega (arith, c.in_err-reserve_moved.ensures.full, ap (λ (k : Marks). k.pending) m)))

pub returns-in_err-reserve_above-clause-lacks : goal.returns-in_err-reserve_above-clause-lacks
returns-in_err-reserve_above-clause-lacks c =
    let m : c.innermost-mark.result ≡ innermost (the_view c.self.inside).frames = search rules in
    rw (← c.self.view_is) (unmoved (the_view c.self.inside) _ Closes PendingOf
    (omega (arith, c.in_err-reserve_above.ensures.full, ap (λ (k : Marks). k.pending) m)))

pub returns-clause-joins : goal.returns-clause-joins
returns-clause-joins c =
    let h = the_view c.self.inside in
    let s = h.slots in
    let m : c.innermost-mark.result ≡ innermost h.frames = search rules in
    let t : Slots = record {
      nodes = c.push_reserved-3.new.self.items;
      families = c.push_reserved-2.new.self.items;
      links = c.move_above.new.to.items;
      pending = c.push_reserved.new.self.items;
      texts = s.texts;
      bytes = s.bytes;
    } in
    let e : t ≡ with_family c.args.shape c.args.start c.args.size c.innermost-mark.result.pending s = search rules in
    let w : Marks → Slots = λ k. with_family c.args.shape c.args.start c.args.size k.pending s in
    rw (← c.self.view_is)
    (ap (having h) (e ∙ ap w m) ∙ family-joins h c.args.shape c.args.start c.args.size c.self.invariant.levels)

pub returns-clause-below : goal.returns-clause-below
returns-clause-below c =
    let h = the_view c.self.inside in
    let s = h.slots in
    let m : c.innermost-mark.result ≡ innermost h.frames = search rules in
    let t : Slots = record {
      nodes = c.push_reserved-3.new.self.items;
      families = c.push_reserved-2.new.self.items;
      links = c.move_above.new.to.items;
      pending = c.push_reserved.new.self.items;
      texts = s.texts;
      bytes = s.bytes;
    } in
    let e : t ≡ with_family c.args.shape c.args.start c.args.size c.innermost-mark.result.pending s = search rules in
    let w : Marks → Slots = λ k. with_family c.args.shape c.args.start c.args.size k.pending s in
    rw (← c.self.view_is) (ap (cut_to (innermost h.frames)) (e ∙ ap w m)
    ∙ family-below (innermost h.frames) s (frame-within h c.self.invariant.levels) c.args.shape c.args.start
    c.args.size)
