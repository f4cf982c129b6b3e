use Rattle.std.proofs.Common.{rules, ◌≡◌, ◌+◌, ◌≤◌, true, length, arith}
use Rattle.std.specs.List.{list_all, slice_range}
use Rattle.value_text.specs.ValueText.{is_plain}
use Rattle.value_text.proofs.StringTexts.{plain_block}
use Rattle.value_text.proofs.print.string.plain_blocks.Goals as goal

pub loop-done-preserved : goal.loop-done-preserved
loop-done-preserved c =
    let i = c.loop-done.invariant in
    let bytes = c.args.bytes.now in
    let done = c.loop-done.done in
    let within : done + 16 ≤ length bytes = omega (arith, c.loop-done-test.true, i.0) in
    let plain : list_all is_plain (slice_range bytes done (done + 16)) ≡ true = search rules in
    (within, plain_block bytes done 16 within i.1 plain)
