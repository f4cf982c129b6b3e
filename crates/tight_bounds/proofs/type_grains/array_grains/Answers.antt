use Rattle.std.proofs.Common.{◌≡◌, ℕ, ◌+◌, ◌*◌, Option, refl, subst}
use Rattle.pickle_types.specs.Bounds.{IsBound}
use Rattle.pickle_types.specs.Table.{bound_of}
use Rattle.tight_bounds.specs.Tight.{grain, constant_count, of_constant, of_others, reduced, width, own, fixed, rate}
use Rattle.tight_bounds.proofs.type_grains.array_grains.Goals as goal

pub returns : goal.returns
unfolding width own fixed
returns c type h =
    let m = c.args.bits in
    let bound = bound_of c.args.extent.now in
    let is : c.constant_count-count.result ≡ constant_count bound = c.constant_count-count.ensures in
    let of : (result : Option ℕ) (x : ℕ) → IsBound result (of_constant c.constant_count-count.result x) →
    IsBound result (of_constant (constant_count bound) x) =
    λ result x. subst (λ n. IsBound result (of_constant n x)) is in
    let weight = c.bound_weight-weight.ensures in
    let each = c.sum_of-each.ensures _ _ c.step.ensures h.fixed in
    let all = of _ _ (c.of_constant-all.ensures _ each) in
    let first = c.sum_of-first.ensures _ _ (c.grains_of.ensures _ (c.sum_of.ensures _ _ refl weight)) all in
    let rates = subst (λ n. IsBound c.array_rate-rate.result
    (rate type m + of_others n (width type) (reduced (grain + fixed type m) (rate type m * own type))))
    is (c.array_rate-rate.ensures _ _ _ _ h.width h.own h.rate each) in
    let run = c.over-run.ensures _ h.rate in
    let tried = c.sum_of-tried.ensures _ _ c.step-2.ensures h.attempt in
    let taken = c.sum_of-taken.ensures _ _
    (c.sum_of-5.ensures _ _ (c.grains_of-2.ensures _ (c.sum_of-4.ensures _ _ refl weight)) all)
    (c.over.ensures _ rates) in
    record {
      width = of _ _ (c.of_constant.ensures _ h.width);
      own = of _ _ (c.of_constant-2.ensures _ h.own);
      fixed = c.sum_of-fixed.ensures _ _ first (c.if_unbounded.ensures _ (c.sum_of-2.ensures _ _ tried run));
      rate = rates;
      attempt = c.sum_of-attempt.ensures _ _ first
          (c.sum_of-3.ensures _ _ tried (c.if_unbounded-2.ensures _ run));
      missed = c.before-2.ensures _ _ taken (c.if_bounded.ensures _ h.missed);
    }
