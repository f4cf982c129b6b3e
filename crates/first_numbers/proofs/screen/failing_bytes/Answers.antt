use Rattle.std.proofs.Common.{arith}
use Rattle.first_numbers.proofs.screen.failing_bytes.Goals as goal

pub returns : goal.returns
returns c byte small marked n less here =
    c.loop-byte.invariant.fail byte (omega (arith, small, c.loop-byte-test.false)) marked n less here
