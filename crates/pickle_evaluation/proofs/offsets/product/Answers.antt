use Rattle.std.proofs.Common.{rules, ◌≡◌, ◌∙◌, ◌⊎◌, inl, inr, ◌%◌, ◌^◌, true, false, ap, refl}
use Rattle.std.specs.Prelude.{Ok}
use Rattle.std.proofs.lemmas.Int.{to_z-of_z}
use mir.Syntax.{w128}
use mir.Val.{SFits}
use Rattle.pickle_meaning.specs.Values.{OffsetLabel}
use Rattle.pickle_meaning.specs.Arithmetic.{brought_offset}
use Rattle.pickle_evaluation.proofs.Signed.{passed_product, mixed_fits, unsigned_scaled}
use Rattle.pickle_evaluation.proofs.offsets.product.Goals as goal
use Rattle.pickle_evaluation.proofs.offsets.product.Goals.{then-left-via-then-left, then-left-via-else-left+then-right}

pub returns-then-left-clause-is : goal.returns-then-left-clause-is
returns-then-left-clause-is c =
    let one : (c.args.left ≡ true) ⊎ (c.args.right ≡ true) = elim c.then-left.branch [
      | then-left-via-then-left w ↦ inl w.if-left.true
      | then-left-via-else-left+then-right w ↦ inr w.if-right.true
    ] in
    let fits = mixed_fits c.args.left c.args.right c.args.x c.args.y c.requires.left c.requires.right one in
    passed_product (brought_offset c.args.number c.args.unit) c.args.x c.args.y _ c.ranges.x c.ranges.y fits
    c.brought_offset.ensures.is

pub returns-clause-is : goal.returns-clause-is
returns-clause-is c =
    let whole = c.low_digits.ensures.is
    ∙ ap (λ n. n % 2 ^ c.args.number.width)
    (rw (to_z-of_z w128 c.args.x c.ranges.x, to_z-of_z w128 c.args.y c.ranges.y) refl) in
    let fits : SFits w128 c.from.result = search rules in
    let plain : c.args.number.signed ≡ false = c.requires.signed ∙ rw c.if-left.false refl in
    let product = unsigned_scaled c.args.number c.args.unit c.args.x c.args.y c.low_digits.result plain
    (rw c.if-left.false at c.requires.left) (rw c.if-right.false at c.requires.right) whole in
    ap (λ z. Ok (OffsetLabel z c.args.number c.args.unit)) (to_z-of_z w128 c.from.result fits ∙ c.from.ensures)
    ∙ product
