use Rattle.std.proofs.Common.{rules, ◌≡◌, sym, subst, arith}
use Rattle.value_store.specs.LayoutArrays.{IsAbove}
use Rattle.value_store.specs.Slots.{Slots, Held, with_family}
use Rattle.value_store.specs.contracts.store.Store.{the_view}
use Rattle.value_store.proofs.LayoutJoined.{joined-frames}
use Rattle.value_store.proofs.store.Store.join_above.Goals as goal

pub invariant_of-self-2 : goal.invariant_of-self-2
invariant_of-self-2 c =
    let h = the_view c.self.inside in
    let s = h.slots in
    let above : IsAbove h c.args.mark =
    subst (λ (h : Held). IsAbove h c.args.mark) (sym c.self.view_is) c.requires.above in
    let t : Slots = record {
      nodes = c.push_reserved-3.new.self.items;
      families = c.push_reserved-2.new.self.items;
      links = c.move_above.new.to.items;
      pending = c.push_reserved.new.self.items;
      texts = s.texts;
      bytes = s.bytes;
    } in
    let e : t ≡ with_family c.args.shape c.args.start c.args.size c.args.mark s = search rules in
    record {
      levels = rw e (joined-frames h c.args.mark c.args.shape c.args.start c.args.size above c.requires.composite);
      nodes = search rules;
      families = search rules;
      links = search rules;
      pending = search rules;
      texts = search rules;
      bytes = search rules;
      fixed = λ e. let f = c.self.invariant.fixed e in record {
        nodes = omega (arith, f.nodes, c.reserve.ensures.fixed e, c.push_reserved-3.ensures.capacity);
        families = omega (arith, f.families, c.reserve-2.ensures.fixed e, c.push_reserved-2.ensures.capacity);
        links = omega (arith, f.links, c.reserve_moved.ensures.fixed e, c.move_above.ensures.fixed e);
        pending = omega (
          arith,
          f.pending,
          c.reserve_above.ensures.fixed e,
          c.move_above.ensures.from_capacity,
          c.push_reserved.ensures.capacity,
        );
        texts = f.texts;
        bytes = f.bytes;
      };
    }
