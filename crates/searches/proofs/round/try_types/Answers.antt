-- `try_types`: so many types were tried.
use Rattle.std.proofs.Common.{◌<◌, ◌+◌, ℕ, List, length, sym, subst, arith}
use Rattle.std.proofs.lemmas.Result.{err_from_is_err_and}
use Rattle.bit_space.proofs.Failures.{keeps_all}
use Rattle.records.proofs.Nexts.{view_kept}
use Rattle.searches.specs.Rounds.{TriesTypes, after_types, no_types, one_type}
use Rattle.searches.proofs.round.try_types.Goals as goal

pub loop-done-init : goal.loop-done-init
loop-done-init g c = record {
  within = omega arith;
  keeps = view_kept _;
  ready = record {
    store = c.requires.ready.store;
    sieves = c.requires.ready.sieves;
    places = c.requires.ready.places;
    findings = c.requires.ready.findings;
  };
  tried = λ first since.
      subst (λ (text : List ℕ). TriesTypes c.args.hunt.now first c.args.at c.args.stock.now.places.items 0 c.args.at
      c.args.stock.now.places.items text) (sym c.clear.ensures.items) no_types;
}

pub returns-in_err-reach-clause-err : goal.returns-in_err-reach-clause-err
returns-in_err-reach-clause-err g c = λ first since.
    let p = err_from_is_err_and c.from_residual.result c.from_residual.ensures.1 in
    let so_far = c.loop-done.invariant in
    rw (p.1, p.2)
    (after_types (so_far.tried first since) (c.in_err-reach.ensures.err first (keeps_all since so_far.keeps)))

pub loop-done-preserved : goal.loop-done-preserved
loop-done-preserved g c =
    let so_far = c.loop-done.invariant in
    let inside : c.loop-done.done < length c.args.hunt.now.list.now = omega (arith, c.loop-done-test.true) in
    record {
      within = omega (arith, inside);
      keeps = keeps_all so_far.keeps c.try_next.ensures.keeps;
      ready = c.try_next.ensures.ready;
      tried = λ first since.
          let next = c.in_ok-reach.ensures.ok first (keeps_all since so_far.keeps) in
          subst (λ (text : List ℕ). TriesTypes c.args.hunt.now first c.args.at c.args.stock.now.places.items
          (c.loop-done.done + 1) c.in_ok-reach.reach c.try_next.new.stock.places.items text) (sym next.adds)
          (one_type (so_far.tried first since) inside next.tries);
    }
