use Rattle.std.proofs.Common.{◌-◌, ◌%◌, ◌^◌, ◌∙◌, pos, ◌<ℤ◌, nat_abs, ap, sym, arith}
use Rattle.std.proofs.lemmas.Int.{ints, to_z-of_z}
use Rattle.std.proofs.lemmas.Nat.{one_shl}
use mir.Syntax.{w128}
use Rattle.value_store.proofs.Moduli.{modulo_positive, modulo_negative}
use Rattle.value_store.proofs.ranges.modulo.Goals as goal

pub returns-then-z-lt0-clause-is : goal.returns-then-z-lt0-clause-is
returns-then-z-lt0-clause-is c =
    let z = to_z-of_z w128 c.args.z c.ranges.z in
    let negative : c.args.z <ℤ pos 0 = omega (arith, ints, c.if-z-lt0.true) in
    let low =
    c.low_digits-low.ensures.is ∙ ap (λ n. (n - 1) % 2 ^ c.args.width) (c.unsigned_abs.ensures.value ∙ ap nat_abs z) in
    rw (c.from.ensures, c.from-then-z-lt0.ensures, low, one_shl c.args.width 128 (omega (arith, c.requires.most)))
    (sym (modulo_negative c.args.width c.args.z negative))

pub returns-else-z-lt0-clause-is : goal.returns-else-z-lt0-clause-is
returns-else-z-lt0-clause-is c =
    let z = to_z-of_z w128 c.args.z c.ranges.z in
    c.low_digits.ensures.is ∙ ap (λ n. n % 2 ^ c.args.width) (c.unsigned_abs-else-z-lt0.ensures.value ∙ ap nat_abs z)
    ∙ sym (modulo_positive c.args.width c.args.z (λ lt. omega (arith, ints, lt, c.if-z-lt0.false)))
