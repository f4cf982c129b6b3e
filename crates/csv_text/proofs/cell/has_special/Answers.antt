use Rattle.std.proofs.Common.{◌<◌, ◌∙◌, length, sym, ap, arith}
use Rattle.csv_text.specs.Quotes.{is_special}
use Rattle.csv_text.specs.TextBytes.{text_bytes}
use Rattle.csv_text.proofs.Walks.{special_here, special_next, special_end}
use Rattle.csv_text.proofs.cell.has_special.Goals as goal

pub returns-then-is_special : goal.returns-then-is_special
returns-then-is_special c =
    let bytes = text_bytes c.args.text in
    let i = c.loop-place.place in
    let lt : i < length bytes = omega (arith, c.len-place-end.ensures, c.loop-place-test.true) in
    let hit = ap is_special (sym c.after.ensures) ∙ sym c.is_special.ensures ∙ c.if-is_special.true in
    sym (c.loop-place.invariant ∙ special_here bytes i lt hit)

pub loop-place-preserved : goal.loop-place-preserved
loop-place-preserved c =
    let bytes = text_bytes c.args.text in
    let i = c.loop-place.place in
    let lt : i < length bytes = omega (arith, c.len-place-end.ensures, c.loop-place-test.true) in
    let miss = ap is_special (sym c.after.ensures) ∙ sym c.is_special.ensures ∙ c.if-is_special.false in
    c.loop-place.invariant ∙ special_next bytes i lt miss

pub returns : goal.returns
returns c =
    let bytes = text_bytes c.args.text in
    sym (c.loop-place.invariant
    ∙ special_end bytes c.loop-place.place (omega (arith, c.len-place-end.ensures, c.loop-place-test.false)))
