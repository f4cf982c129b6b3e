use Rattle.std.proofs.Common.{arith}
use Rattle.command_line.proofs.numerals.byte_count.Goals as goal

pub returns-in_err-bytes-clause-none : goal.returns-in_err-bytes-clause-none
returns-in_err-bytes-clause-none c =
    rw c.from_residual.ensures (λ bytes word. let large = c.in_err-bytes.ensures.none bytes word.0 in omega arith)
