use Rattle.command_line.proofs.NumberLaws.{no_place_back, no_place}
use Rattle.command_line.proofs.start.byte_start.Goals as goal

pub returns-in_err-byte_count-in-Some-clause-none : goal.returns-in_err-byte_count-in-Some-clause-none
returns-in_err-byte_count-in-Some-clause-none c =
    rw c.from_residual.ensures
    (no_place_back c.args.word.now _ c.in-Some.ensures.some c.in_err-byte_count-in-Some.ensures.none)

pub returns-in_err-byte_count-in-None-clause-none : goal.returns-in_err-byte_count-in-None-clause-none
returns-in_err-byte_count-in-None-clause-none c =
    rw c.from_residual-in_err-byte_count-in-None.ensures
    (no_place c.args.word.now c.in-None.ensures.none c.in_err-byte_count-in-None.ensures.none)
