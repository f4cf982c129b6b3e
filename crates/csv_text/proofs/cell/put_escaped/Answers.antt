use Rattle.std.proofs.Common.{◌<◌, ◌≤◌, length, drop, get_or, arith}
use Rattle.csv_text.specs.TextBytes.{text_bytes}
use Rattle.csv_text.specs.Escapes.{whole_count, spelled_byte}
use Rattle.csv_text.specs.Quotes.{doubled}
use Rattle.value_text.proofs.Puts.{told_next, told_all, told_failed}
use Rattle.csv_text.proofs.Walks.{escaped_next, escaped_end}
use Rattle.csv_text.proofs.cell.put_escaped.Goals as goal

pub returns-then-printer : goal.returns-then-printer
returns-then-printer g c = told_failed c.if-printer.true c.loop-place.invariant

pub loop-place-preserved : goal.loop-place-preserved
loop-place-preserved g c =
    let bytes = text_bytes c.args.text in
    let i = c.loop-place.place in
    let lt : i < length bytes = omega (arith, c.len-place-end.ensures, c.loop-place-test.true) in
    let n = whole_count c.loop-place.left (drop i bytes) in
    rw c.put_byte-left.ensures.left
    (told_next {x = doubled (spelled_byte n (get_or (drop i bytes) 0 0))} (escaped_next c.loop-place.left bytes i lt)
    c.loop-place.invariant c.put_byte-left.ensures.puts)

pub returns : goal.returns
returns g c =
    let bytes = text_bytes c.args.text in
    let le : length bytes ≤ c.loop-place.place = omega (arith, c.len-place-end.ensures, c.loop-place-test.false) in
    told_all (escaped_end c.loop-place.left bytes c.loop-place.place le) c.loop-place.invariant
