use Rattle.std.proofs.Common.{arith}
use Rattle.value_text.proofs.ShortTexts.{ends_meet}
use Rattle.value_text.proofs.print.bytes.push_ends.Goals as goal

pub returns-clause-text : goal.returns-clause-text
returns-clause-text g c =
    let first = c.in-Some-Some.ensures.cases.same in
    let last = c.in-Some-Some.ensures'.cases.1.same in
    ends_meet c.args.at _ c.args.bytes.now _ _ c.args.text.now (omega (arith, c.fits-bytes, c.requires.room))
    c.requires.least c.requires.most
    (rw first at c.write.ensures) (rw last at c.write-in-Some-Some.ensures)
