use Rattle.std.proofs.Common.{◌∙◌, sym}
use Rattle.first_numbers.specs.Held.{number_shown}
use Rattle.first_numbers.specs.Runs.{number_value, own_frames}
use Rattle.first_numbers.proofs.Misses.{in_own}
use Rattle.first_numbers.proofs.Reading.{comes_to_zero}
use Rattle.first_numbers.proofs.reader.judged_steps.Goals as goal

pub returns-then-judged-lt18446744073709551615 : goal.returns-then-judged-lt18446744073709551615
returns-then-judged-lt18446744073709551615 c =
    let x = number_shown c.args.x.now in
    let v = number_value x.numeral c.args.n 0 in
    let judged = c.judge-judged.ensures.is x.own (own_frames x.own v) v c.requires.over (in_own x.own v)
    (c.scalar_of.ensures.label 0) in
    comes_to_zero x c.args.n c.judge-judged.result judged (sym c.is_failed.ensures ∙ c.if-is_failed.true)
    c.if-judged-lt18446744073709551615.true
