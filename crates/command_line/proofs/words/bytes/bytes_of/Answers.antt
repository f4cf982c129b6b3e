use Rattle.std.proofs.Common.{rules, ◌*◌, arith}
use Rattle.command_line.specs.OffsetWord.{IsNoByteOffset}
use Rattle.command_line.proofs.OffsetWords.{one_offset}
use Rattle.command_line.proofs.words.bytes.bytes_of.Goals as goal

pub returns-in_err-bits-clause-refused : goal.returns-in_err-bits-clause-refused
returns-in_err-bits-clause-refused c =
    let none : IsNoByteOffset c.args.word.now = λ bytes word. c.in_err-bits.ensures.refused (8 * bytes) word in
    search rules

pub returns-then-bits-ne0-clause-refused : goal.returns-then-bits-ne0-clause-refused
returns-then-bits-ne0-clause-refused c = λ bytes word.
    let same = one_offset c.args.word.now c.in_ok-bits.bits (8 * bytes) c.in_ok-bits.ensures.ok word in
    absurd (c.if-bits-ne0.true (omega (arith, same)))
