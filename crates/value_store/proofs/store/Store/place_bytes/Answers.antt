use Rattle.std.proofs.Common.{rules, ◌≡◌, subst, sym, arith, ◌∙◌, ap}
use Rattle.value_store.specs.Slots.{Slots, Held, MayKeep, with_bytes, cut_to, innermost}
use Rattle.value_store.specs.Takes.{NodesOf, PendingOf, TextsOf, BytesOf}
use Rattle.value_store.specs.contracts.store.Store.{the_view}
use Rattle.value_store.proofs.Held.{refused}
use Rattle.value_store.proofs.Moved.{bytes-lack}
use Rattle.value_store.proofs.Writing.{bytes-frames, bytes-levels, bytes-full}
use Rattle.value_store.proofs.Below.{bytes-below, frame-within}
use Rattle.value_store.proofs.store.Store.place_bytes.Goals as goal

pub returns-in_err-reserve-clause-full : goal.returns-in_err-reserve-clause-full
returns-in_err-reserve-clause-full c =
    let h = the_view c.self.inside in
    let may : MayKeep h.room c.args.shape =
    subst (λ (h : Held). MayKeep h.room c.args.shape) (sym c.self.view_is) c.requires.may in
    let lacks = bytes-lack h c.args.shape c.args.bytes.now c.args.start NodesOf c.self.invariant.nodes
    (omega (arith, c.in_err-reserve.ensures.full)) in
    rw (← c.self.view_is) (bytes-full h c.args.shape c.args.bytes.now c.args.start c.self.invariant.levels
    c.requires.are may c.requires.some _ lacks)

pub returns-in_err-reserve-clause-lacks : goal.returns-in_err-reserve-clause-lacks
returns-in_err-reserve-clause-lacks c =
    let h = the_view c.self.inside in
    let lacks = bytes-lack h c.args.shape c.args.bytes.now c.args.start NodesOf c.self.invariant.nodes
    (omega (arith, c.in_err-reserve.ensures.full)) in
    rw (← c.self.view_is) (refused _ lacks)

pub returns-in_err-reserve-2-clause-full : goal.returns-in_err-reserve-2-clause-full
returns-in_err-reserve-2-clause-full c =
    let h = the_view c.self.inside in
    let may : MayKeep h.room c.args.shape =
    subst (λ (h : Held). MayKeep h.room c.args.shape) (sym c.self.view_is) c.requires.may in
    let lacks = bytes-lack h c.args.shape c.args.bytes.now c.args.start PendingOf c.self.invariant.pending
    (omega (arith, c.in_err-reserve-2.ensures.full)) in
    rw (← c.self.view_is) (bytes-full h c.args.shape c.args.bytes.now c.args.start c.self.invariant.levels
    c.requires.are may c.requires.some _ lacks)

pub returns-in_err-reserve-2-clause-lacks : goal.returns-in_err-reserve-2-clause-lacks
returns-in_err-reserve-2-clause-lacks c =
    let h = the_view c.self.inside in
    let lacks = bytes-lack h c.args.shape c.args.bytes.now c.args.start PendingOf c.self.invariant.pending
    (omega (arith, c.in_err-reserve-2.ensures.full)) in
    rw (← c.self.view_is) (refused _ lacks)

pub returns-in_err-reserve-3-clause-full : goal.returns-in_err-reserve-3-clause-full
returns-in_err-reserve-3-clause-full c =
    let h = the_view c.self.inside in
    let may : MayKeep h.room c.args.shape =
    subst (λ (h : Held). MayKeep h.room c.args.shape) (sym c.self.view_is) c.requires.may in
    let lacks = bytes-lack h c.args.shape c.args.bytes.now c.args.start TextsOf c.self.invariant.texts
    (omega (arith, c.in_err-reserve-3.ensures.full)) in
    rw (← c.self.view_is) (bytes-full h c.args.shape c.args.bytes.now c.args.start c.self.invariant.levels
    c.requires.are may c.requires.some _ lacks)

pub returns-in_err-reserve-3-clause-lacks : goal.returns-in_err-reserve-3-clause-lacks
returns-in_err-reserve-3-clause-lacks c =
    let h = the_view c.self.inside in
    let lacks = bytes-lack h c.args.shape c.args.bytes.now c.args.start TextsOf c.self.invariant.texts
    (omega (arith, c.in_err-reserve-3.ensures.full)) in
    rw (← c.self.view_is) (refused _ lacks)

pub returns-in_err-reserve-4-clause-full : goal.returns-in_err-reserve-4-clause-full
returns-in_err-reserve-4-clause-full c =
    let h = the_view c.self.inside in
    let may : MayKeep h.room c.args.shape =
    subst (λ (h : Held). MayKeep h.room c.args.shape) (sym c.self.view_is) c.requires.may in
    let lacks = bytes-lack h c.args.shape c.args.bytes.now c.args.start BytesOf c.self.invariant.bytes
    (omega (arith, c.in_err-reserve-4.ensures.full)) in
    rw (← c.self.view_is) (bytes-full h c.args.shape c.args.bytes.now c.args.start c.self.invariant.levels
    c.requires.are may c.requires.some _ lacks)

pub returns-in_err-reserve-4-clause-lacks : goal.returns-in_err-reserve-4-clause-lacks
returns-in_err-reserve-4-clause-lacks c =
    let h = the_view c.self.inside in
    let lacks = bytes-lack h c.args.shape c.args.bytes.now c.args.start BytesOf c.self.invariant.bytes
    (omega (arith, c.in_err-reserve-4.ensures.full)) in
    rw (← c.self.view_is) (refused _ lacks)

pub invariant_of-self-2 : goal.invariant_of-self-2
invariant_of-self-2 c =
    let h = the_view c.self.inside in
    let may : MayKeep h.room c.args.shape =
    subst (λ (h : Held). MayKeep h.room c.args.shape) (sym c.self.view_is) c.requires.may in
    let s = h.slots in
    let t : Slots = record {
      nodes = c.push_reserved-3.new.self.items;
      families = s.families;
      links = s.links;
      pending = c.push_reserved-2.new.self.items;
      texts = c.push_reserved.new.self.items;
      bytes = c.append.new.to.items;
    } in
    let e : t ≡ with_bytes c.args.shape c.args.bytes.now c.args.start s = search rules in
    record {
      levels = rw e (bytes-frames (the_view c.self.inside) c.args.shape c.args.bytes.now c.args.start
          c.self.invariant.levels c.requires.are may c.requires.some);
      nodes = search rules;
      families = search rules;
      links = search rules;
      pending = search rules;
      texts = search rules;
      bytes = search rules;
      fixed = λ e. let f = c.self.invariant.fixed e in record {
        nodes = omega (arith, f.nodes, c.reserve.ensures.fixed e, c.push_reserved-3.ensures.capacity);
        families = f.families;
        links = f.links;
        pending = omega (arith, f.pending, c.reserve-2.ensures.fixed e, c.push_reserved-2.ensures.capacity);
        texts = omega (arith, f.texts, c.reserve-3.ensures.fixed e, c.push_reserved.ensures.capacity);
        bytes = omega (arith, f.bytes, c.reserve-4.ensures.fixed e, c.append.ensures.fixed e);
      };
    }

pub returns-clause-levels : goal.returns-clause-levels
returns-clause-levels c =
    let h = the_view c.self.inside in
    let may : MayKeep h.room c.args.shape =
    subst (λ (h : Held). MayKeep h.room c.args.shape) (sym c.self.view_is) c.requires.may in
    let s = h.slots in
    let t : Slots = record {
      nodes = c.push_reserved-3.new.self.items;
      families = s.families;
      links = s.links;
      pending = c.push_reserved-2.new.self.items;
      texts = c.push_reserved.new.self.items;
      bytes = c.append.new.to.items;
    } in
    let e : t ≡ with_bytes c.args.shape c.args.bytes.now c.args.start s = search rules in
    λ names. rw (← c.self.view_is) (rw e (bytes-levels (the_view c.self.inside) c.args.shape c.args.bytes.now
    c.args.start c.self.invariant.levels c.requires.are may c.requires.some names _))

pub returns-clause-below : goal.returns-clause-below
returns-clause-below c =
    let h = the_view c.self.inside in
    let s = h.slots in
    let t : Slots = record {
      nodes = c.push_reserved-3.new.self.items;
      families = s.families;
      links = s.links;
      pending = c.push_reserved-2.new.self.items;
      texts = c.push_reserved.new.self.items;
      bytes = c.append.new.to.items;
    } in
    let e : t ≡ with_bytes c.args.shape c.args.bytes.now c.args.start s = search rules in
    rw (← c.self.view_is) (ap (cut_to (innermost h.frames)) e
    ∙ bytes-below (innermost h.frames) s (frame-within h c.self.invariant.levels) c.args.shape c.args.bytes.now
    c.args.start)
