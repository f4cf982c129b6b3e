use Rattle.std.proofs.Common.{rules, length, ap, subst, sym, arith, ◌∙◌}
use Rattle.std.specs.Prelude.{vec_capacity}
use Rattle.value_store.specs.Keeping.{LacksBytes}
use Rattle.value_store.specs.Slots.{Slots, Held, GoesOn, cut_to, innermost}
use Rattle.value_store.specs.contracts.store.Store.{the_view}
use Rattle.value_store.proofs.Held.{refused}
use Rattle.value_store.proofs.Writing.{more-frames, more-placed}
use Rattle.value_store.proofs.Below.{more-below, frame-within, filling-text}
use Rattle.value_store.proofs.store.Store.append_bytes.Goals as goal

pub invariant_of-self-2 : goal.invariant_of-self-2
invariant_of-self-2 c =
    let h = the_view c.self.inside in
    let g : GoesOn h c.args.shape c.args.more.now =
    subst (λ (h : Held). GoesOn h c.args.shape c.args.more.now) (sym c.self.view_is) c.requires in
    let e = more-placed h c.args.shape c.args.more.now c.len-last.result c.len.result c.append.new.to.items g
    (search rules) (search rules) (search rules) in
    record {
      levels = rw e (more-frames g.names h c.args.shape g.bytes g.start g.outer g.filling g.some c.args.more.now g.are);
      nodes = search rules;
      families = search rules;
      links = search rules;
      pending = search rules;
      texts = search rules;
      bytes = search rules;
      fixed = λ e. let f = c.self.invariant.fixed e in record {
        nodes = f.nodes;
        families = f.families;
        links = f.links;
        pending = f.pending;
        texts = f.texts;
        bytes = omega (arith, f.bytes, c.reserve.ensures.fixed e, c.append.ensures.fixed e);
      };
    }

pub returns-clause-slots : goal.returns-clause-slots
returns-clause-slots c =
    let h = the_view c.self.inside in
    let g : GoesOn h c.args.shape c.args.more.now =
    subst (λ (h : Held). GoesOn h c.args.shape c.args.more.now) (sym c.self.view_is) c.requires in
    let e = more-placed h c.args.shape c.args.more.now c.len-last.result c.len.result c.append.new.to.items g
    (search rules) (search rules) (search rules) in
    rw (← c.self.view_is) (ap (λ (x : Slots). record {
      slots = x;
      frames = h.frames;
      room = h.room;
      capacity = record {
        nodes = h.capacity.nodes;
        families = h.capacity.families;
        links = h.capacity.links;
        pending = h.capacity.pending;
        texts = h.capacity.texts;
        bytes = vec_capacity c.append.new.to;
      };
    }) e)

pub returns-in_err-reserve-clause-full : goal.returns-in_err-reserve-clause-full
returns-in_err-reserve-clause-full c =
    let lacks : LacksBytes (the_view c.self.inside) (length c.args.more.now) =
    (c.self.invariant.bytes, omega (arith, c.in_err-reserve.ensures.full)) in
    rw (← c.self.view_is) (refused c.from_residual.result lacks)

pub returns-clause-below : goal.returns-clause-below
returns-clause-below c =
    let h = the_view c.self.inside in
    let g : GoesOn h c.args.shape c.args.more.now =
    subst (λ (h : Held). GoesOn h c.args.shape c.args.more.now) (sym c.self.view_is) c.requires in
    let e = more-placed h c.args.shape c.args.more.now c.len-last.result c.len.result c.append.new.to.items g
    (search rules) (search rules) (search rules) in
    rw (← c.self.view_is) (ap (cut_to (innermost h.frames)) e
    ∙ more-below (innermost h.frames) h.slots (frame-within h c.self.invariant.levels) c.args.more.now
    (filling-text g.names h c.args.shape g.bytes g.start g.outer g.filling g.some))
