-- `list_elements`: so far the elements are listed, and the list ends as it must.
use Rattle.std.proofs.Common.{◌∙◌, ◌*◌, refl, sym, ap, arith}
use Rattle.bit_space.proofs.Failures.{keeps_all}
use Rattle.inner_records.specs.Elements.{EndsElements, IsElement}
use Rattle.inner_records.specs.Stored.{around_of, listed_of}
use Rattle.list_laws.specs.Meanings.{bytes_in}
use Rattle.pickle_types.specs.TypeTable.{nodes_of}
use Rattle.records.proofs.Lists.{ends_there, few_listed, none_listed, one_listed}
use Rattle.records.proofs.Nexts.{view_kept}
use Rattle.inner_records.proofs.Listing.{element_inside, ends_here_there, goes_on_there, list_is_over, on_parts, starts_past_end, stays_twice}
use Rattle.inner_records.proofs.list.list_elements.Goals as goal

pub returns-then-progress-bits-clause-writes : goal.returns-then-progress-bits-clause-writes
returns-then-progress-bits-clause-writes g c = λ first since.
    starts_past_end c.args.run.now c.args.listing first _ c.args.elements.now.last c.args.begin _ _
    (8 * c.len-bits.result) c.fault_at-outcome.result
    (ap (λ len. 8 * len) (c.len-bits.ensures ∙ since.len)) c.if-progress-bits.true c.fault_at-outcome.ensures

pub loop-stored-init : goal.loop-stored-init
loop-stored-init g c = record {
  keeps = view_kept _;
  stays = record { at_list = c.requires.at_list; around = refl };
  few = let none = c.requires.none in omega (arith, none);
  inside = omega (arith, c.if-progress-bits.false);
  listed = λ first since.
      none_listed (IsElement (listed_of c.args.run.now c.args.elements.now.place c.args.stored.now) (bytes_in first))
      c.args.run.now c.args.listing first c.args.begin c.args.begin _ refl;
}

pub next_element-requires-clause-due : goal.next_element-requires-clause-due
next_element-requires-clause-due g c =
    (on_parts (listed_of c.args.run.now c.args.elements.now.place c.loop-stored.stored) c.args.listing
    (8 * c.len-bits.result) _ c.loop-stored.progress _
    (ap (λ len. 8 * len) (c.len-bits.ensures ∙ sym c.loop-stored.invariant.keeps.len))
    (c.goes_on.ensures (nodes_of c.args.run.now.table.now) (around_of c.args.run.now c.loop-stored.stored))
    c.loop-stored-test.true).1

pub next_element-requires-clause-on : goal.next_element-requires-clause-on
next_element-requires-clause-on g c =
    (on_parts (listed_of c.args.run.now c.args.elements.now.place c.loop-stored.stored) c.args.listing
    (8 * c.len-bits.result) _ c.loop-stored.progress _
    (ap (λ len. 8 * len) (c.len-bits.ensures ∙ sym c.loop-stored.invariant.keeps.len))
    (c.goes_on.ensures (nodes_of c.args.run.now.table.now) (around_of c.args.run.now c.loop-stored.stored))
    c.loop-stored-test.true).0

pub loop-stored-smaller : goal.loop-stored-smaller
loop-stored-smaller g c =
    let first = g.S.Space.view c.args.space.now in
    let so_far = c.loop-stored.invariant in
    let list = listed_of c.args.run.now c.args.elements.now.place c.args.stored.now in
    let next = goes_on_there c.args.run.now c.args.elements.now.place c.args.listing first c.args.stored.now
    c.loop-stored.stored _ _ _ _ so_far.stays (c.in-Ok.ensures.ok first so_far.keeps) in
    let step = few_listed (IsElement list (bytes_in first)) c.args.run.now c.args.listing first c.args.begin
    (8 * first.len) (element_inside c.args.run.now c.args.listing first list c.args.elements.now.last c.args.begin)
    c.loop-stored.progress _ _ _ so_far.few next in
    let moves = step.1 in
    let ends = step.2 in
    omega (arith, moves, ends, c.len-bits.ensures)

pub loop-stored-preserved : goal.loop-stored-preserved
loop-stored-preserved g c =
    let first = g.S.Space.view c.args.space.now in
    let so_far = c.loop-stored.invariant in
    let list = listed_of c.args.run.now c.args.elements.now.place c.args.stored.now in
    let next = goes_on_there c.args.run.now c.args.elements.now.place c.args.listing first c.args.stored.now
    c.loop-stored.stored _ _ _ _ so_far.stays (c.in-Ok.ensures.ok first so_far.keeps) in
    let step = few_listed (IsElement list (bytes_in first)) c.args.run.now c.args.listing first c.args.begin
    (8 * first.len) (element_inside c.args.run.now c.args.listing first list c.args.elements.now.last c.args.begin)
    c.loop-stored.progress _ _ _ so_far.few next in
    let ends = step.2 in
    record {
      keeps = keeps_all so_far.keeps c.next_element.ensures.keeps;
      stays = stays_twice c.args.run.now c.args.elements.now.place c.args.stored.now c.loop-stored.stored _
          so_far.stays c.in-Ok.ensures.stays;
      few = step.0;
      inside = omega (arith, ends, c.len-bits.ensures);
      listed = λ since_first since.
          one_listed (IsElement list (bytes_in since_first)) c.args.run.now c.args.listing since_first c.args.begin
          c.loop-stored.progress _ _ _ _ (so_far.listed since_first since)
          (goes_on_there c.args.run.now c.args.elements.now.place c.args.listing since_first c.args.stored.now
          c.loop-stored.stored _ _ _ _ so_far.stays (c.in-Ok.ensures.ok since_first (keeps_all since so_far.keeps)));
    }

pub returns-in-Err-clause-writes : goal.returns-in-Err-clause-writes
returns-in-Err-clause-writes g c = λ first since.
    let so_far = c.loop-stored.invariant in
    let list = listed_of c.args.run.now c.args.elements.now.place c.args.stored.now in
    ends_there (IsElement list (bytes_in first)) c.args.run.now c.args.listing first c.args.begin
    (EndsElements c.args.run.now c.args.listing first _ list c.args.elements.now.last) c.loop-stored.progress _ _ _ _
    (so_far.listed first since)
    (ends_here_there c.args.run.now c.args.elements.now.place c.args.listing first _ c.args.elements.now
    c.args.stored.now c.loop-stored.stored c.loop-stored.progress _ _ _ so_far.stays
    (c.in-Err.ensures.err first (keeps_all since so_far.keeps)))

pub returns-clause-writes : goal.returns-clause-writes
returns-clause-writes g c = λ first since.
    let so_far = c.loop-stored.invariant in
    let list = listed_of c.args.run.now c.args.elements.now.place c.args.stored.now in
    list_is_over c.args.run.now c.args.listing first list c.args.elements.now.last c.args.begin _
    c.loop-stored.progress (8 * c.len-bits.result) _ (ap (λ len. 8 * len) (c.len-bits.ensures ∙ since.len))
    so_far.inside c.goes_on.result
    (c.goes_on.ensures (nodes_of c.args.run.now.table.now) (around_of c.args.run.now c.args.stored.now))
    c.loop-stored-test.false
    c.end_of-outcome.ensures.counted
    (c.end_of-outcome.ensures.over (nodes_of c.args.run.now.table.now)
    (around_of c.args.run.now c.args.stored.now))
    c.end_of-outcome.ensures.overshot _ _ (so_far.listed first since)
