-- `search_values`: so far the starts are tried, and the search ends as it must.
use Rattle.std.proofs.Common.{◌∙◌, ◌≤◌, ◌*◌, sym, ap, subst, arith}
use Rattle.bit_space.proofs.Failures.{keeps_all}
use Rattle.records.proofs.Nexts.{view_kept}
use Rattle.searches.specs.Starts.{IsFew}
use Rattle.searches.specs.Written.{WritesSearch, no_memory, past_end, writes_all}
use Rattle.searches.specs.declared.search.Reach.{Reach}
use Rattle.searches.proofs.Passed.{advance_moves, advance_searched}
use Rattle.searches.proofs.Reached.{ends_done, ends_there, none_searched, still_on}
use Rattle.searches.proofs.values.search_values.Goals as goal

pub returns-in_default-clause-writes : goal.returns-in_default-clause-writes
returns-in_default-clause-writes g c =
    let none = none_searched c.args.run.now c.args.search (g.S.Space.view c.args.space.now) c.first-reach.result
    (g.O.Write.contents c.args.out.now) c.first-reach.ensures in
    writes_all none.searches no_memory none.appends

pub returns-then-reach-bits-clause-writes : goal.returns-then-reach-bits-clause-writes
returns-then-reach-bits-clause-writes g c =
    let first = g.S.Space.view c.args.space.now in
    let none = none_searched c.args.run.now c.args.search first c.first-reach.result
    (g.O.Write.contents c.args.out.now) c.first-reach.ensures in
    subst
    (λ ended. WritesSearch c.args.run.now c.args.search first first (g.O.Write.contents c.args.out.now)
    (g.O.Write.contents c.args.out.now) c.first-reach.result ended)
    (sym c.fault_at-outcome.ensures)
    (writes_all none.searches (past_end (omega (arith, c.if-reach-bits.true, c.len-bits.ensures))) none.appends)

pub loop-sieve-init : goal.loop-sieve-init
loop-sieve-init g c =
    let few : 0 ≤ c.args.run.now.ask.now.start = omega arith in
    record {
      keeps = view_kept _;
      ready = c.in-Ok.ensures;
      sieve = c.in-Ok-of.ensures (g.S.Space.view c.args.space.now);
      few = subst (λ (at : Reach). IsFew at) (sym c.first-reach.ensures) (record { found = few; given_up = few });
      inside = omega (arith, c.if-reach-bits.false);
      searched = none_searched c.args.run.now c.args.search (g.S.Space.view c.args.space.now) c.first-reach.result
          (g.O.Write.contents c.args.out.now) c.first-reach.ensures;
    }

pub loop-sieve-smaller : goal.loop-sieve-smaller
loop-sieve-smaller g c =
    let first = g.S.Space.view c.args.space.now in
    let so_far = c.loop-sieve.invariant in
    let next = c.in-Ok-advance.ensures.ok first so_far.keeps in
    let inside = still_on c.args.search c.loop-sieve.reach (8 * c.len-bits.result)
    (sym c.goes_on.ensures ∙ c.loop-sieve-test.true) in
    let moves = (advance_moves c.args.run.now c.args.search first c.loop-sieve.reach c.in-Ok-advance.next _ _
    c.requires.step so_far.few (omega (arith, inside, c.len-bits.ensures)) next).moves in
    omega (arith, inside, moves)

pub loop-sieve-preserved : goal.loop-sieve-preserved
loop-sieve-preserved g c =
    let first = g.S.Space.view c.args.space.now in
    let so_far = c.loop-sieve.invariant in
    let next = c.in-Ok-advance.ensures.ok first so_far.keeps in
    let inside = so_far.inside in
    let moved = advance_moves c.args.run.now c.args.search first c.loop-sieve.reach c.in-Ok-advance.next _ _
    c.requires.step so_far.few (omega (arith, inside, c.len-bits.ensures)) next in
    record {
      keeps = keeps_all so_far.keeps c.advance.ensures.keeps;
      ready = c.advance.ensures.ready;
      sieve = c.advance.ensures.sieve;
      few = moved.few;
      inside = let ends = moved.inside in omega (arith, ends, c.len-bits.ensures);
      searched = advance_searched c.args.run.now c.args.search first c.loop-sieve.reach c.in-Ok-advance.next _ _ _
          so_far.searched next;
    }

pub returns-in-Err-clause-writes : goal.returns-in-Err-clause-writes
returns-in-Err-clause-writes g c =
    let first = g.S.Space.view c.args.space.now in
    let so_far = c.loop-sieve.invariant in
    ends_there c.args.run.now c.args.search first _ c.loop-sieve.reach _ _ _ _ so_far.searched
    (c.in-Err.ensures.err first so_far.keeps)

pub returns-clause-writes : goal.returns-clause-writes
returns-clause-writes g c =
    let first = g.S.Space.view c.args.space.now in
    ends_done c.args.run.now c.args.search first _ c.loop-sieve.reach (8 * c.len-bits.result) _ _ _
    (ap (λ len. 8 * len) c.len-bits.ensures) c.loop-sieve.invariant.inside
    (sym c.goes_on.ensures ∙ c.loop-sieve-test.false) c.natural_end-outcome.ensures
    c.loop-sieve.invariant.searched

pub returns-in_default-of-clause-writes : goal.returns-in_default-of-clause-writes
returns-in_default-of-clause-writes g c =
    let none = none_searched c.args.run.now c.args.search (g.S.Space.view c.args.space.now) c.first-reach.result
    (g.O.Write.contents c.args.out.now) c.first-reach.ensures in
    writes_all none.searches no_memory none.appends
