use Rattle.std.proofs.Common.{rules, ◌≡◌, ◌<◌, ◌^◌, [], true, subst, sym, arith}
use Rattle.value_store.specs.Gathering.{EndsWithTemplate, with_records}
use Rattle.value_store.specs.Slots.{Slots, Held, innermost, packs}
use Rattle.value_store.specs.contracts.store.Store.{the_view}
use Rattle.value_store.proofs.Gathering.{gathering-frames, gathering-none}
use Rattle.value_store.proofs.store.Store.place_records.Goals as goal

pub invariant_of-self : goal.invariant_of-self
invariant_of-self c =
    let h = the_view c.self.inside in
    let s = h.slots in
    let template : EndsWithTemplate s c.args.size c.args.stride c.args.start [] =
    subst (λ (h : Held). EndsWithTemplate h.slots c.args.size c.args.stride c.args.start []) (sym c.self.view_is)
    c.requires.template in
    let packed : packs h.room ≡ true =
    subst (λ (h : Held). packs h.room ≡ true) (sym c.self.view_is) c.requires.packs in
    let short : c.args.start < 2 ^ 64 = omega (arith, c.ranges.start) in
    let m : c.innermost-mark.result ≡ innermost h.frames = search rules in
    let t : Slots = record {
      nodes = c.push_reserved-3.new.self.items;
      families = s.families;
      links = s.links;
      pending = c.push_reserved-2.new.self.items;
      texts = c.push_reserved.new.self.items;
      bytes = s.bytes;
    } in
    let e : t ≡ with_records c.args.size c.args.stride [] c.args.start c.innermost-mark.result.pending s =
    search rules in
    let u =
    record h { slots = with_records c.args.size c.args.stride [] c.args.start (innermost h.frames).pending s } in
    let g = gathering-none h c.args.size c.args.stride c.args.start h.capacity c.self.invariant.levels template
    c.requires.stride short packed in
    record {
      levels = rw (e, m) (gathering-frames u s c.args.size c.args.stride c.args.start [] g);
      nodes = search rules;
      families = search rules;
      links = search rules;
      pending = search rules;
      texts = search rules;
      bytes = search rules;
      fixed = λ e. let f = c.self.invariant.fixed e in record {
        nodes = omega (arith, f.nodes, c.push_reserved-3.ensures.capacity);
        families = f.families;
        links = f.links;
        pending = omega (arith, f.pending, c.truncate.ensures.capacity, c.push_reserved-2.ensures.capacity);
        texts = omega (arith, f.texts, c.push_reserved.ensures.capacity);
        bytes = f.bytes;
      };
    }
