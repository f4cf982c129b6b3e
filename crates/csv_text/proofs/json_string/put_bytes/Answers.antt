use Rattle.std.proofs.Common.{◌<◌, ◌≤◌, length, drop, get_or, arith}
use Rattle.csv_text.specs.TextBytes.{text_bytes}
use Rattle.value_text.specs.JsonText.{json_escape}
use Rattle.value_text.specs.ValueText.{spelled_byte}
use Rattle.csv_text.specs.Quotes.{doubled}
use Rattle.value_text.proofs.Puts.{told_next, told_all, told_failed}
use Rattle.csv_text.proofs.Walks.{string_next, string_end}
use Rattle.csv_text.proofs.json_string.put_bytes.Goals as goal

pub returns-then-printer : goal.returns-then-printer
returns-then-printer g c = told_failed c.if-printer.true c.loop-place.invariant

pub loop-place-preserved : goal.loop-place-preserved
loop-place-preserved g c =
    let bytes = text_bytes c.args.text in
    let i = c.loop-place.place in
    let lt : i < length bytes = omega (arith, c.len-place-end.ensures, c.loop-place-test.true) in
    told_next {x = doubled (spelled_byte json_escape (get_or (drop i bytes) 0 0))} (string_next json_escape bytes i lt)
    c.loop-place.invariant (rw c.after.ensures at c.put_spelled.ensures)

pub returns : goal.returns
returns g c =
    let bytes = text_bytes c.args.text in
    let le : length bytes ≤ c.loop-place.place = omega (arith, c.len-place-end.ensures, c.loop-place-test.false) in
    told_all (string_end json_escape bytes c.loop-place.place le) c.loop-place.invariant
