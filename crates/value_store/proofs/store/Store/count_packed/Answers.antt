use Rattle.std.proofs.Common.{◌/◌, length, sym, ap, ◌∙◌}
use Rattle.value_store.specs.Packed.{numbers_in}
use Rattle.value_store.proofs.Lent.{length-numbers, byte_numbers}
use Rattle.value_store.proofs.store.Store.count_packed.Goals as goal

pub returns-then-width-le8 : goal.returns-then-width-le8
returns-then-width-le8 c =
    ap length (sym (byte_numbers c.args.width c.text-bytes.result.now c.requires.width c.if-width-le8.true))
    ∙ ap (λ bs. length (numbers_in c.args.width bs)) c.text-bytes.ensures

pub returns-else-width-le8 : goal.returns-else-width-le8
returns-else-width-le8 c =
    ap (λ k. length c.text-bytes.result.now / k) c.bytes_for.ensures
    ∙ sym (length-numbers c.args.width c.text-bytes.result.now)
    ∙ ap (λ bs. length (numbers_in c.args.width bs)) c.text-bytes.ensures
