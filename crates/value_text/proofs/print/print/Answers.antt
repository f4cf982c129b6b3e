use Rattle.value_text.proofs.PlainTexts.{plain_typed}
use Rattle.value_text.proofs.print.print.Goals as goal

pub returns-clause-ok : goal.returns-clause-ok
returns-clause-ok g c =
    rw (plain_typed c.plain.result c.new.result c.args.value c.args.mode c.plain.ensures c.new.ensures.value)
    at c.print_styled.ensures.ok

pub returns-clause-err : goal.returns-clause-err
returns-clause-err g c =
    rw (plain_typed c.plain.result c.new.result c.args.value c.args.mode c.plain.ensures c.new.ensures.value)
    at c.print_styled.ensures.err
