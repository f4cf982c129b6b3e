use Rattle.std.proofs.Common.{rules, ◌≡◌, ◌+◌, length, inl, inr, ap, subst, ◌∙◌, arith}
use Rattle.value_store.specs.declared.store.room.Room.{Room}
use Rattle.value_store.specs.Slots.{Held, marks_of}
use Rattle.value_store.specs.Weights.{TakesWeight, weight}
use Rattle.value_store.proofs.LayoutWeights.{array-heavy}
use Rattle.value_store.proofs.Held.{refused}
use Rattle.value_store.proofs.LayoutPlaced.{regrown-placed, grown-same, draft-lacks, array-lacks, template-node}
use Rattle.value_store.proofs.store.Store.draft_template.Goals as goal

pub overflow_sub-nodes : goal.overflow_sub-nodes
overflow_sub-nodes c =
    let before : c.len-before.result ≡ length c.args.self.now.slots.nodes = search rules in
    let after : c.len-nodes.result ≡ length c.place_template.new.self.slots.nodes = search rules in
    let some =
    template-node c.args.self.now c.place_template.new.self c.args.place c.in_ok-_end._end c.in_ok-_end.ensures.ok
    c.requires.copied.names in
    omega (arith, before, after, some)

pub returns-clause-ok : goal.returns-clause-ok
returns-clause-ok c =
    let before : c.len-before.result ≡ length c.args.self.now.slots.nodes = search rules in
    let after : c.len-nodes.result ≡ length c.place_template.new.self.slots.nodes = search rules in
    let same = ap (λ (h : Held). length h.slots.nodes) c.reserve_array.ensures.same in
    record {
      end = c.in_ok-_end._end;
      placed = regrown-placed c.args.self.now c.place_template.new.self c.reserve_array.new.self c.args.place 0
          c.in_ok-_end._end c.in_ok-_end.ensures.ok c.reserve_array.ensures.same;
      nodes = c.in_ok-reserve_array.ensures.nodes;
      pending = omega (arith, before, after, same, c.in_ok-reserve_array.ensures.pending);
      texts = c.in_ok-reserve_array.ensures.texts;
      bytes = c.in_ok-reserve_array.ensures.bytes;
      within = c.reserve_array.ensures.within;
      light = subst (λ (room : Room). TakesWeight room
          (weight (marks_of c.reserve_array.new.self.slots) + (24 + c.args.count)))
          (c.reserve_array.ensures.room.room ∙ c.place_template.ensures.room.room) c.in_ok-admit.ensures.light;
    }

pub returns-in_err-reserve_array-clause-err : goal.returns-in_err-reserve_array-clause-err
returns-in_err-reserve_array-clause-err c =
    refused _ (grown-same c.args.self.now c.place_template.new.self c.reserve_array.new.self _
    c.in_ok-_end.ensures.ok.adds c.in_ok-_end.ensures.ok.same c.reserve_array.ensures.same)

pub returns-in_err-_end-clause-lacks : goal.returns-in_err-_end-clause-lacks
returns-in_err-_end-clause-lacks c =
    refused _ (inl (draft-lacks c.args.self.now c.args.place c.args.count c.in_err-_end.ensures.lacks))

pub returns-in_err-reserve_array-clause-lacks : goal.returns-in_err-reserve_array-clause-lacks
returns-in_err-reserve_array-clause-lacks c =
    let before : c.len-before.result ≡ length c.args.self.now.slots.nodes = search rules in
    let after : c.len-nodes.result ≡ length c.place_template.new.self.slots.nodes = search rules in
    let some =
    template-node c.args.self.now c.place_template.new.self c.args.place c.in_ok-_end._end c.in_ok-_end.ensures.ok
    c.requires.copied.names in
    refused _ (inl (array-lacks c.args.self.now c.place_template.new.self c.args.place c.in_ok-_end._end _ c.args.count
    c.in_ok-_end.ensures.ok c.place_template.ensures.room (omega (arith, before, after, some))
    c.in_err-reserve_array.ensures.lacks))

pub returns-in_err-admit-clause-err : goal.returns-in_err-admit-clause-err
returns-in_err-admit-clause-err c =
    refused _ (grown-same c.args.self.now c.place_template.new.self c.reserve_array.new.self _
    c.in_ok-_end.ensures.ok.adds c.in_ok-_end.ensures.ok.same c.reserve_array.ensures.same)

pub returns-in_err-admit-clause-lacks : goal.returns-in_err-admit-clause-lacks
returns-in_err-admit-clause-lacks c =
    refused _ (inr (array-heavy c.args.self.now c.reserve_array.new.self c.args.place c.in_ok-_end._end c.args.count
    (regrown-placed c.args.self.now c.place_template.new.self c.reserve_array.new.self c.args.place 0
    c.in_ok-_end._end c.in_ok-_end.ensures.ok c.reserve_array.ensures.same)
    (c.reserve_array.ensures.room.room ∙ c.place_template.ensures.room.room) c.in_err-admit.ensures.heavy))
