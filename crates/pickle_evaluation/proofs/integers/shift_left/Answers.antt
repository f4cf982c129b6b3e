use Rattle.std.proofs.Common.{rules, ◌≡◌, ◌<◌, ◌∙◌, pos, ◌*ℤ◌, sym, true, arith}
use Rattle.std.specs.Prelude.{nat_lt}
use Rattle.std.proofs.lemmas.Int.{to_z-of_z}
use Rattle.std.proofs.lemmas.Bool.{lt-ltb}
use mir.Syntax.{w128}
use mir.Val.{SFits}
use Rattle.pickle_meaning.specs.Arithmetic.{brought_integer, shifted_left}
use Rattle.pickle_evaluation.proofs.Signed.{shift_fits, passed_product}
use Rattle.pickle_evaluation.proofs.integers.shift_left.Goals as goal

pub overflow_mul-x : goal.overflow_mul-x
overflow_mul-x c =
    let below : c.in-Some.n < 64 = omega (arith, c.in-Some.ensures.1, c.requires.width.most) in
    let fits : SFits w128 c.power_of_two-times.result = search rules in
    rw
    (to_z-of_z w128 c.args.x c.ranges.x, to_z-of_z w128 c.power_of_two-times.result fits, c.power_of_two-times.ensures)
    (shift_fits c.args.number.signed c.args.x c.in-Some.n c.requires.small below)

pub returns-in-Some-clause-is : goal.returns-in-Some-clause-is
unfolding shifted_left
returns-in-Some-clause-is c =
    let below : c.in-Some.n < 64 = omega (arith, c.in-Some.ensures.1, c.requires.width.most) in
    let fits : SFits w128 c.power_of_two-times.result = search rules in
    let all : SFits w128 (c.args.x *ℤ c.power_of_two-times.result) =
    rw c.power_of_two-times.ensures (shift_fits c.args.number.signed c.args.x c.in-Some.n c.requires.small below) in
    let is = passed_product (brought_integer c.args.number) c.args.x c.power_of_two-times.result _ c.ranges.x fits all
    c.brought_integer.ensures.is in
    let count : c.args.count ≡ pos c.in-Some.n =
    sym (to_z-of_z w128 c.args.count c.ranges.count) ∙ c.in-Some.ensures.0 in
    let lt : nat_lt c.in-Some.n c.args.number.width ≡ true = lt-ltb _ _ c.in-Some.ensures.1 in
    rw (count, lt, ← c.power_of_two-times.ensures) is
