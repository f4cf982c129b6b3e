-- `common_stretch`: so many types are passed over at each start.
use Rattle.std.proofs.Common.{◌∙◌, ℕ, List, refl, subst, arith}
use Rattle.bit_space.proofs.Failures.{keeps_all}
use Rattle.records.proofs.Nexts.{view_kept}
use Rattle.searches.proofs.Together.{list_passes, more_pass}
use Rattle.searches.specs.Stretches.{PassesNth, none_pass}
use Rattle.searches.proofs.stretches.common_stretch.Goals as goal

pub loop-done-init : goal.loop-done-init
loop-done-init g c = record {
  within = omega arith;
  keeps = view_kept _;
  ready = c.requires.ready;
  places = refl;
  passes = none_pass;
}

pub loop-done-preserved : goal.loop-done-preserved
loop-done-preserved g c =
    let so_far = c.loop-done.invariant in
    record {
      within = omega (arith, c.loop-done-test.true);
      keeps = keeps_all so_far.keeps c.type_stretch.ensures.keeps;
      ready = c.type_stretch.ensures.ready;
      places = c.type_stretch.ensures.places ∙ so_far.places;
      passes = more_pass c.loop-done.common c.in_ok-own.own c.in_ok-common.common so_far.keeps
          c.in_ok-common.ensures.count c.in_ok-common.ensures.steps so_far.passes
          (subst (λ (places : List ℕ). PassesNth c.args.hunt.now (g.S.Space.view c.loop-done.space) c.args.at places
          c.loop-done.done c.in_ok-own.own) so_far.places c.in_ok-own.ensures.passes);
    }

pub returns-clause-passes : goal.returns-clause-passes
returns-clause-passes g c =
    list_passes _ _ _ _ c.loop-done.common c.loop-done.done
    (omega (arith, c.loop-done.invariant.within, c.loop-done-test.false)) c.loop-done.invariant.passes
