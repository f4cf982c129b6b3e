use Rattle.std.proofs.Common.{ap, arith}
use Rattle.std.specs.List.{prefix_len}
use Rattle.std.proofs.lemmas.List.{take_rest}
use Rattle.std.proofs.lemmas.List.Sums.{prefix_len-le-length}
use Rattle.value_text.specs.ValueText.{is_plain}
use Rattle.value_text.proofs.print.string.plain_len.Goals as goal

pub overflow_add-result : goal.overflow_add-result
overflow_add-result c =
    let bytes = c.args.bytes.now in
    let rest = ap (prefix_len is_plain) (take_rest bytes c.plain_blocks-blocks.result) in
    omega (arith, c.plain_blocks-blocks.ensures.plain, c.plain_run-2.ensures, rest, prefix_len-le-length is_plain bytes)
