-- `list_records`: so far the records are listed, and the list ends as it must.
use Rattle.std.proofs.Common.{◌∙◌, ◌≤◌, ◌*◌, sym, ap, subst, arith}
use Rattle.bit_space.proofs.Failures.{keeps_all}
use Rattle.records.specs.Records.{IsRecord, first_of}
use Rattle.records.specs.Written.{EndsList, WritesList, no_memory, past_end, writes_all}
use Rattle.records.specs.declared.listing.Progress.{Progress}
use Rattle.records.proofs.Lists.{ends_done, ends_there, few_listed, none_listed, one_listed, record_inside, still_on}
use Rattle.records.proofs.Nexts.{view_kept}
use Rattle.records.proofs.list.list_records.Goals as goal

pub returns-in_default-clause-writes : goal.returns-in_default-clause-writes
returns-in_default-clause-writes g c = λ pickle asked.
    let none = none_listed (IsRecord c.args.run.now (g.S.Space.view c.args.space.now)) c.args.run.now c.args.listing
    (g.S.Space.view c.args.space.now) (first_of c.args.run.now.ask.now) c.first-progress.result
    (g.O.Write.contents c.args.out.now) c.first-progress.ensures in
    writes_all none.lists no_memory none.appends

pub returns-then-progress-bits-clause-writes : goal.returns-then-progress-bits-clause-writes
returns-then-progress-bits-clause-writes g c = λ pickle asked.
    let first = g.S.Space.view c.args.space.now in
    let none = none_listed (IsRecord c.args.run.now first) c.args.run.now c.args.listing first
    (first_of c.args.run.now.ask.now) c.first-progress.result
    (g.O.Write.contents c.args.out.now) c.first-progress.ensures in
    subst
    (λ ended. WritesList pickle c.args.run.now c.args.listing first first (g.O.Write.contents c.args.out.now)
    (g.O.Write.contents c.args.out.now) c.first-progress.result ended)
    (sym c.fault_at-outcome.ensures)
    (writes_all none.lists (past_end (omega (arith, c.if-progress-bits.true, c.len-bits.ensures))) none.appends)

pub loop-listing-init : goal.loop-listing-init
loop-listing-init g c =
    let few : 0 ≤ c.args.run.now.ask.now.start = omega arith in
    record {
      keeps = view_kept _;
      ready = c.in-Ok.ensures;
      few = subst (λ (at : Progress). at.count ≤ at.place) (sym c.first-progress.ensures) few;
      inside = omega (arith, c.if-progress-bits.false);
      listed = none_listed (IsRecord c.args.run.now (g.S.Space.view c.args.space.now)) c.args.run.now c.args.listing
          (g.S.Space.view c.args.space.now) (first_of c.args.run.now.ask.now) c.first-progress.result
          (g.O.Write.contents c.args.out.now) c.first-progress.ensures;
    }

pub loop-listing-smaller : goal.loop-listing-smaller
loop-listing-smaller g c =
    let first = g.S.Space.view c.args.space.now in
    let so_far = c.loop-listing.invariant in
    let next = c.in-Ok-next_record.ensures.ok first so_far.keeps in
    let inside = (still_on c.args.listing c.loop-listing.progress (8 * c.len-bits.result)
    (sym c.goes_on.ensures ∙ c.loop-listing-test.true)).1 in
    let moves = (few_listed (IsRecord c.args.run.now first) c.args.run.now c.args.listing first
    (first_of c.args.run.now.ask.now) (8 * first.len) (record_inside c.args.run.now c.args.listing first)
    c.loop-listing.progress c.in-Ok-next_record.next _ _
    so_far.few next).1 in
    omega (arith, inside, moves)

pub loop-listing-preserved : goal.loop-listing-preserved
loop-listing-preserved g c =
    let first = g.S.Space.view c.args.space.now in
    let so_far = c.loop-listing.invariant in
    let next = c.in-Ok-next_record.ensures.ok first so_far.keeps in
    record {
      keeps = keeps_all so_far.keeps c.next_record.ensures.keeps;
      ready = c.next_record.ensures.ready;
      few = (few_listed (IsRecord c.args.run.now first) c.args.run.now c.args.listing first
          (first_of c.args.run.now.ask.now) (8 * first.len) (record_inside c.args.run.now c.args.listing first)
          c.loop-listing.progress c.in-Ok-next_record.next _ _
          so_far.few next).0;
      inside =
          let ends = (few_listed (IsRecord c.args.run.now first) c.args.run.now c.args.listing first
          (first_of c.args.run.now.ask.now) (8 * first.len) (record_inside c.args.run.now c.args.listing first)
          c.loop-listing.progress
          c.in-Ok-next_record.next _ _ so_far.few next).2 in
          omega (arith, ends, c.len-bits.ensures);
      listed = one_listed (IsRecord c.args.run.now first) c.args.run.now c.args.listing first
          (first_of c.args.run.now.ask.now) c.loop-listing.progress c.in-Ok-next_record.next _ _ _
          so_far.listed next;
    }

pub returns-in-Err-clause-writes : goal.returns-in-Err-clause-writes
returns-in-Err-clause-writes g c = λ pickle asked.
    let first = g.S.Space.view c.args.space.now in
    let so_far = c.loop-listing.invariant in
    ends_there (IsRecord c.args.run.now first) c.args.run.now c.args.listing first
    (first_of c.args.run.now.ask.now) (EndsList pickle c.args.run.now c.args.listing first _) c.loop-listing.progress
    _ _ _ _ so_far.listed
    (c.in-Err.ensures.err first pickle so_far.keeps asked)

pub returns-clause-writes : goal.returns-clause-writes
returns-clause-writes g c = λ pickle asked.
    let first = g.S.Space.view c.args.space.now in
    ends_done c.args.run.now c.args.listing first pickle _ c.loop-listing.progress (8 * c.len-bits.result) _ _
    (ap (λ len. 8 * len) c.len-bits.ensures) c.loop-listing.invariant.inside
    (sym c.goes_on.ensures ∙ c.loop-listing-test.false)
    c.loop-listing.invariant.listed
