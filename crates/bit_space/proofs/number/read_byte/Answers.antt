use Rattle.std.proofs.Common.{◌/◌, arith}
use Rattle.bit_space.proofs.Windows.{byte_read}
use Rattle.bit_space.proofs.number.read_byte.Goals as goal

pub returns-clause-ok : goal.returns-clause-ok
returns-clause-ok g c order =
    let byte = c.read_at.auto.into in
    rw c.from.ensures (byte_read _ order _ (c.args.pos / 8) c.args.pos 0 byte (omega arith)
    (omega (arith, c.requires.whole)) c.in_ok-read_at.ensures.bytes)
