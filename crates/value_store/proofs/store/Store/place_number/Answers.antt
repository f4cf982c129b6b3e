use Rattle.std.proofs.Common.{rules, ◌≡◌, Some, length, ◌∙◌, ap, arith}
use Rattle.std.proofs.lemmas.List.{length_push}
use Rattle.value_store.specs.declared.store.slots.Node.{Node}
use Rattle.value_store.specs.Moves.{Places}
use Rattle.value_store.specs.Slots.{Slots, with_leaf, cut_to, marks_of}
use Rattle.value_store.specs.Takes.{NodesOf, PendingOf}
use Rattle.value_store.specs.contracts.store.Store.{the_view}
use Rattle.value_store.proofs.Held.{number-frames, number-levels, number-full}
use Rattle.value_store.proofs.Moved.{having, number-moves, unmoved}
use Rattle.value_store.proofs.Below.{leaf-kept}
use Rattle.value_store.proofs.store.Store.place_number.Goals as goal

pub returns-in_err-reserve-clause-full : goal.returns-in_err-reserve-clause-full
returns-in_err-reserve-clause-full c =
    let h = the_view c.self.inside in
    let n : Node = record { start = c.args.start; content = c.args.content; shape = c.args.shape } in
    rw (← c.self.view_is)
    (number-full h c.args.shape c.args.start c.args.content c.requires.number c.self.invariant.levels _
    (NodesOf, (c.self.invariant.nodes, omega (arith, c.in_err-reserve.ensures.full, length_push h.slots.nodes n))))

pub returns-in_err-reserve-2-clause-full : goal.returns-in_err-reserve-2-clause-full
returns-in_err-reserve-2-clause-full c =
    let h = the_view c.self.inside in
    rw (← c.self.view_is)
    (number-full h c.args.shape c.args.start c.args.content c.requires.number c.self.invariant.levels _ (
      PendingOf,
      (
        c.self.invariant.pending,
        omega (arith, c.in_err-reserve-2.ensures.full, length_push h.slots.pending (Some (length h.slots.nodes))),
      ),
    ))

pub invariant_of-self-2 : goal.invariant_of-self-2
invariant_of-self-2 c =
    let s = (the_view c.self.inside).slots in
    let t : Slots = record {
      nodes = c.push_reserved-2.new.self.items;
      families = s.families;
      links = s.links;
      pending = c.push_reserved.new.self.items;
      texts = s.texts;
      bytes = s.bytes;
    } in
    let e : t ≡ with_leaf c.args.shape c.args.start c.args.content s = search rules in
    record {
      levels = rw e (number-frames (the_view c.self.inside) c.args.shape c.args.start c.args.content c.requires.number
          c.self.invariant.levels);
      nodes = search rules;
      families = search rules;
      links = search rules;
      pending = search rules;
      texts = search rules;
      bytes = search rules;
      fixed = λ e. let f = c.self.invariant.fixed e in record {
        nodes = omega (arith, f.nodes, c.reserve.ensures.fixed e, c.push_reserved-2.ensures.capacity);
        families = f.families;
        links = f.links;
        pending = omega (arith, f.pending, c.reserve-2.ensures.fixed e, c.push_reserved.ensures.capacity);
        texts = f.texts;
        bytes = f.bytes;
      };
    }

pub returns-clause-ok : goal.returns-clause-ok
returns-clause-ok c =
    let s = (the_view c.self.inside).slots in
    let t : Slots = record {
      nodes = c.push_reserved-2.new.self.items;
      families = s.families;
      links = s.links;
      pending = c.push_reserved.new.self.items;
      texts = s.texts;
      bytes = s.bytes;
    } in
    let e : t ≡ with_leaf c.args.shape c.args.start c.args.content s = search rules in
    λ names. rw (← c.self.view_is) (rw e (number-levels (the_view c.self.inside) c.args.shape c.args.start
    c.args.content c.requires.number c.self.invariant.levels names _))

pub returns-in_err-reserve-clause-lacks : goal.returns-in_err-reserve-clause-lacks
returns-in_err-reserve-clause-lacks c = rw (← c.self.view_is)
    (unmoved (the_view c.self.inside) _ Places NodesOf (omega (arith, c.in_err-reserve.ensures.full)))

pub returns-in_err-reserve-2-clause-lacks : goal.returns-in_err-reserve-2-clause-lacks
returns-in_err-reserve-2-clause-lacks c = rw (← c.self.view_is)
    (unmoved (the_view c.self.inside) _ Places PendingOf (omega (arith, c.in_err-reserve-2.ensures.full)))

pub returns-clause-moves : goal.returns-clause-moves
returns-clause-moves c =
    let h = the_view c.self.inside in
    let s = h.slots in
    let t : Slots = record {
      nodes = c.push_reserved-2.new.self.items;
      families = s.families;
      links = s.links;
      pending = c.push_reserved.new.self.items;
      texts = s.texts;
      bytes = s.bytes;
    } in
    let e : t ≡ with_leaf c.args.shape c.args.start c.args.content s = search rules in
    rw (← c.self.view_is) (ap (having h) e ∙ number-moves h c.args.shape c.args.start c.args.content)

pub returns-clause-adds : goal.returns-clause-adds
returns-clause-adds c =
    let s = (the_view c.self.inside).slots in
    let t : Slots = record {
      nodes = c.push_reserved-2.new.self.items;
      families = s.families;
      links = s.links;
      pending = c.push_reserved.new.self.items;
      texts = s.texts;
      bytes = s.bytes;
    } in
    let e : t ≡ with_leaf c.args.shape c.args.start c.args.content s = search rules in
    rw (← c.self.view_is) e

pub returns-clause-extends : goal.returns-clause-extends
returns-clause-extends c =
    let s = (the_view c.self.inside).slots in
    let t : Slots = record {
      nodes = c.push_reserved-2.new.self.items;
      families = s.families;
      links = s.links;
      pending = c.push_reserved.new.self.items;
      texts = s.texts;
      bytes = s.bytes;
    } in
    let e : t ≡ with_leaf c.args.shape c.args.start c.args.content s = search rules in
    rw (← c.self.view_is) (ap (cut_to (marks_of s)) e ∙ leaf-kept c.args.shape c.args.start c.args.content s)
