use Rattle.std.proofs.Common.{rules, ◌≡◌, get_or, arith, ap, subst, sym, ◌∙◌, true}
use Rattle.pickle_meaning.specs.Arithmetic.{with_sign}
use Rattle.value_text.specs.Puts.{Puts}
use Rattle.value_text.specs.PartText.{byte_text, integer_element}
use Rattle.value_text.proofs.Puts.{told_next, told_failed}
use Rattle.value_text.proofs.RowTexts.{row_first, row_same}
use Rattle.value_text.proofs.print.printer.Printer.put_byte_row.Goals as goal

pub loop-byte-preserved : goal.loop-byte-preserved
loop-byte-preserved g c =
    let i = c.loop-byte.byte-index in
    let is : c.with_sign.result ≡ with_sign c.args.number (get_or c.args.bytes.now i 0) =
    c.with_sign.ensures.is ∙ ap (λ n. with_sign c.args.number n) c.from.ensures in
    let item : Puts g.W.Write.contents c.loop-byte.self c.put_item.new.self
    (integer_element g.F.Form.notation c.args.numbers c.loop-byte.first c.args.number c.with_sign.result) =
    search rules in
    told_next (row_first (byte_text g.F.Form.notation c.args.numbers c.args.number) c.args.bytes.now c.loop-byte.first i
    (omega (arith, c.loop-byte-test.true))) c.loop-byte.invariant (rw is at item)

pub returns-then-has_plain_bytes : goal.returns-then-has_plain_bytes
returns-then-has_plain_bytes g c =
    subst (Puts g.W.Write.contents c.args.self.now c.put_plain_bytes.new.self)
    (sym (row_same (byte_text g.F.Form.notation c.args.numbers c.args.number) g.F.Form.plain_byte true c.args.bytes.now
    (c.has_plain_bytes.ensures c.if-has_plain_bytes.true)))
    c.put_plain_bytes.ensures

pub returns-then-self : goal.returns-then-self
returns-then-self g c = told_failed c.if-self.true c.loop-byte.invariant
