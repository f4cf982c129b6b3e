use Rattle.std.proofs.Common.{rules, ◌∙◌, sym, pos, ◌^◌, ◌-◌, ◌≤ℤ◌, ◌<ℤ◌, arith}
use Rattle.std.proofs.lemmas.Int.{ints, to_z-of_z}
use Rattle.std.proofs.lemmas.Nat.{one_shl}
use mir.Syntax.{w128}
use mir.Val.{SFits}
use Rattle.value_store.proofs.Moduli.{lower_half}
use Rattle.value_store.proofs.ranges.convert.Goals as goal

pub returns-then-z-from-clause-is : goal.returns-then-z-from-clause-is
returns-then-z-from-clause-is c =
    let z = to_z-of_z w128 c.args.z c.ranges.z in
    let fits : SFits w128 c.from-then-z-ge0.result = search rules in
    let above = rw z at c.if-z-ge0.true in
    let from : pos 0 ≤ℤ c.args.z = omega (arith, ints, above) in
    let shift = one_shl (c.from.result - 1) 64 (omega (arith, c.from.ensures, c.requires.width.most)) in
    let under = rw (z, to_z-of_z w128 c.from-then-z-ge0.result fits, c.from-then-z-ge0.ensures, shift, c.from.ensures)
    at c.if-z-from.true in
    let below : c.args.z <ℤ pos (2 ^ (c.args.number.width - 1)) = omega (arith, ints, under) in
    z ∙ sym (lower_half c.args.number c.args.z c.requires.width.some from below)
