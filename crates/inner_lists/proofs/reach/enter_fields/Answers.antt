-- `enter_fields`: the fields before the one on the path are passed, and that one is entered.
use Rattle.std.proofs.Common.{rules, ◌≡◌, ◌∙◌, ℕ, suc, ◌+◌, ◌-◌, ◌≤◌, get_or, drop, Ok, Err, sym, subst, arith}
use Rattle.std.proofs.lemmas.Result.{err_from_is_err_and}
use Rattle.bit_space.proofs.Failures.{risen_later}
use Rattle.bit_space.specs.SpaceView.{HasRisen}
use Rattle.fault_location.specs.Ways.{field_then}
use Rattle.list_laws.specs.Meanings.{bytes_in}
use Rattle.list_laws.specs.Paths.{is_list, is_list_in}
use Rattle.pickle_map.specs.Mappable.{IsFieldOf}
use Rattle.pickle_types.specs.Table.{open_fields, type_of}
use Rattle.value_store.specs.Slots.{level_count}
use Rattle.inner_lists.proofs.Entering.{ends_there, enters_later, fields_from, leads_ends, leads_same, stage_goes_on, top_inside}
use Rattle.inner_lists.proofs.Leading.{frame_both, leads_both, same_bytes, stops_later}
use Rattle.list_laws.specs.Reaches.{Faulty}
use Rattle.list_laws.specs.Meanings.{SpaceBytes}
use Rattle.inner_lists.proofs.Fields.{field_leads, field_there, list_after}
use Rattle.inner_lists.specs.Calls.{Passes, frames_of, passed_end, passed_top, reaches_in}
use Rattle.inner_lists.proofs.reach.enter_fields.Goals as goal

pub unreachable-requires : goal.unreachable-requires
unreachable-requires g c =
    let list = c.requires.list in
    let there = field_there (type_of c.args.mapper.now.nodes.now) c.args.fields.now c.args.place list.path list.list in
    let before = c.loop-index.invariant.before in
    omega (arith, there, before)

pub returns-then-index-place-clause-goes_on : goal.returns-then-index-place-clause-goes_on
returns-then-index-place-clause-goes_on g c =
    let i = c.loop-index.invariant in
    let field = c.index-fields-index.result in
    let here = subst (λ (n : ℕ). field ≡ get_or c.args.fields.now n field) c.if-index-place.true
    c.index-fields-index.is in
    let may : IsFieldOf c.args.mapper.now.nodes.now (level_count c.args.mapper.now.store.now) field = search rules in
    stage_goes_on (g.S.Space.view c.args.space.now) c.start_field.new.mapper c.args.mapper.now.nodes.now
    c.args.fields.now field field c.args.place c.loop-index.greatest c.start_field.result
    (c.start_field.ensures.frame.lent.nodes ∙ i.frame.lent.nodes) here
    (rw (c.start_field.ensures.frame.same, i.depth) may) i.inside c.start_field.ensures.goes_on

pub returns-then-index-place-clause-is : goal.returns-then-index-place-clause-is
returns-then-index-place-clause-is g c =
    let i = c.loop-index.invariant in
    let space = g.S.Space.view c.args.space.now in
    let nodes = c.args.mapper.now.nodes.now in
    let mid = c.loop-index.mapper in
    let fs = c.args.fields.now in
    let field = c.index-fields-index.result in
    let rest = open_fields (type_of nodes) (drop (c.loop-index.index + 1) fs) in
    let here = subst (λ (n : ℕ). field ≡ get_or fs n field) c.if-index-place.true c.index-fields-index.is in
    let from = fields_from nodes mid.nodes.now fs c.loop-index.index field i.frame.lent.nodes c.index-fields-index.is
    c.loop-index-test.true in
    let at : c.args.place - c.loop-index.index ≡ 0 = omega (arith, c.if-index-place.true) in
    enters_later (bytes_in space) ⊥ (HasRisen space.failures (g.S.Space.view c.loop-index.space).failures)
    mid.meter.now.limit c.args.mapper.now.meter.now.limit c.args.mapper.now.meter.now.steps mid.meter.now.steps
    c.start_field.new.mapper (is_list (type_of mid.nodes.now field.node))
    (is_list_in (open_fields (type_of nodes) fs) c.args.place)
    (λ path.
    reaches_in (bytes_in space) mid c.args.whole (field_then mid.nodes.now field rest) 0 path c.loop-index.behind
    c.loop-index.greatest)
    (λ path.
    reaches_in (bytes_in space) c.args.mapper.now c.args.whole (open_fields (type_of nodes) fs) c.args.place path
    c.args.whole.start c.args.top)
    c.start_field.result (λ d. absurd d) (sym i.frame.left.limit)
    (λ path is. rw (i.frame.lent.nodes, here) (field_leads (type_of nodes) fs field c.args.place path is))
    (λ path. leads_same (bytes_in space)
    (reaches_in (bytes_in space) c.args.mapper.now c.args.whole (open_fields (type_of nodes) fs) c.args.place path
    c.args.whole.start c.args.top)
    c.args.whole.pinned c.args.whole.start path c.args.whole.order (frames_of mid) c.args.mapper.now.meter.now.steps
    mid.meter.now.steps (open_fields (type_of nodes) (drop c.loop-index.index fs))
    (field_then mid.nodes.now field rest) (c.args.place - c.loop-index.index) 0 c.loop-index.behind
    c.loop-index.greatest from at (i.so_far path))
    (c.start_field.ensures.is (bytes_in space) rest)

pub returns-in_err-passed-clause-is : goal.returns-in_err-passed-clause-is
returns-in_err-passed-clause-is g c =
    let i = c.loop-index.invariant in
    let p = err_from_is_err_and c.from_residual.result c.from_residual.ensures.1 in
    let space = g.S.Space.view c.args.space.now in
    let later = g.S.Space.view c.loop-index.space in
    let last = g.S.Space.view c.pass_field.new.space in
    let nodes = c.args.mapper.now.nodes.now in
    let mid = c.loop-index.mapper in
    let fs = c.args.fields.now in
    let field = c.index-fields-index.result in
    let index = c.loop-index.index in
    let rest = open_fields (type_of nodes) (drop (index + 1) fs) in
    let from = fields_from nodes mid.nodes.now fs index field i.frame.lent.nodes c.index-fields-index.is
    c.loop-index-test.true in
    let next : index + 1 ≤ c.args.place =
    let before = i.before in omega (arith, before, c.if-index-place.false) in
    let at : c.args.place - index ≡ suc (c.args.place - (index + 1)) = omega (arith, next) in
    let stops = subst (λ (bytes : SpaceBytes). Passes bytes mid c.pass_field.new.mapper
    (HasRisen later.failures last.failures) c.args.whole field c.loop-index.behind (Err c.in_err-passed.field-0.0))
    (same_bytes space later i.frame.left.len i.frame.left.bytes) c.in_err-passed.ensures.is in
    rw (p.1, p.2)
    (λ path is. stops_later (HasRisen later.failures last.failures) (HasRisen space.failures last.failures) Faulty
    mid.meter.now.limit c.args.mapper.now.meter.now.limit c.pass_field.new.mapper.meter.now.steps
    c.in_err-passed.field-0.0
    (risen_later space.failures later.failures last.failures i.frame.left.failures
    c.in_err-passed.ensures.frame.left.failures)
    (sym i.frame.left.limit)
    (leads_same (bytes_in space)
    (reaches_in (bytes_in space) c.args.mapper.now c.args.whole (open_fields (type_of nodes) fs) c.args.place path
    c.args.whole.start c.args.top)
    c.args.whole.pinned c.args.whole.start path c.args.whole.order (frames_of mid) c.args.mapper.now.meter.now.steps
    mid.meter.now.steps (open_fields (type_of nodes) (drop index fs))
    (field_then mid.nodes.now field rest) (c.args.place - index) (suc (c.args.place - (index + 1)))
    c.loop-index.behind c.loop-index.greatest from at (i.so_far path))
    (stops rest (c.args.place - (index + 1)) path c.loop-index.greatest
    (list_after (type_of nodes) fs (index + 1) c.args.place path next is)))

pub loop-index-preserved : goal.loop-index-preserved
loop-index-preserved g c =
    let i = c.loop-index.invariant in
    let space = g.S.Space.view c.args.space.now in
    let later = g.S.Space.view c.loop-index.space in
    let last = g.S.Space.view c.pass_field.new.space in
    let nodes = c.args.mapper.now.nodes.now in
    let mid = c.loop-index.mapper in
    let new = c.pass_field.new.mapper in
    let fs = c.args.fields.now in
    let field = c.index-fields-index.result in
    let index = c.loop-index.index in
    let passed = c.in_ok-passed.passed in
    let rest = open_fields (type_of nodes) (drop (index + 1) fs) in
    let from = fields_from nodes mid.nodes.now fs index field i.frame.lent.nodes c.index-fields-index.is
    c.loop-index-test.true in
    let next : index + 1 ≤ c.args.place =
    let before = i.before in omega (arith, before, c.if-index-place.false) in
    let at : c.args.place - index ≡ suc (c.args.place - (index + 1)) = omega (arith, next) in
    let goes = subst (λ (bytes : SpaceBytes). Passes bytes mid new (HasRisen later.failures last.failures) c.args.whole
    field c.loop-index.behind (Ok passed))
    (same_bytes space later i.frame.left.len i.frame.left.bytes) c.in_ok-passed.ensures.is in
    record {
      frame = frame_both i.frame c.in_ok-passed.ensures.frame;
      depth = c.in_ok-passed.ensures.depth ∙ i.depth;
      inside = rw c.top_after-greatest.ensures (top_inside space c.loop-index.greatest passed i.inside
          (ends_there later space passed i.frame.left.len c.in_ok-passed.ensures.ends));
      before = next;
      so_far = λ path.
          let outer =
          reaches_in (bytes_in space) c.args.mapper.now c.args.whole (open_fields (type_of nodes) fs) c.args.place path
          c.args.whole.start c.args.top in
          leads_ends (bytes_in space) outer c.args.whole.pinned c.args.whole.start path c.args.whole.order
          (frames_of new) c.args.mapper.now.meter.now.steps new.meter.now.steps rest (c.args.place - (index + 1))
          (passed_end c.loop-index.behind passed) c.end_after-behind.result
          (passed_top c.loop-index.greatest passed) c.top_after-greatest.result
          c.end_after-behind.ensures c.top_after-greatest.ensures
          (leads_both
          (leads_same (bytes_in space) outer c.args.whole.pinned c.args.whole.start path c.args.whole.order
          (frames_of mid) c.args.mapper.now.meter.now.steps
          mid.meter.now.steps (open_fields (type_of nodes) (drop index fs))
          (field_then mid.nodes.now field rest) (c.args.place - index) (suc (c.args.place - (index + 1)))
          c.loop-index.behind c.loop-index.greatest from at (i.so_far path))
          (goes rest (c.args.place - (index + 1)) path c.loop-index.greatest));
    }
