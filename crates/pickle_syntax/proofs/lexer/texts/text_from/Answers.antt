use Rattle.std.proofs.Common.{length, sym, ap, arith, length-drop}
use Rattle.pickle_syntax.proofs.Texts.{text_byte}
use Rattle.pickle_syntax.proofs.lexer.texts.text_from.Goals as goal

pub loop-rest-preserved : goal.loop-rest-preserved
loop-rest-preserved c =
    let step = text_byte c.loop-rest.value.items c.args.quote c.loop-rest.at c.loop-rest.rest.now c.in-Byte.byte
    c.in-Byte.len (omega (arith, c.in-Byte.ensures.within.0, c.in-Byte.ensures.within.1)) (sym c.in-Byte.ensures.value)
    (omega (arith, c.in-Byte.ensures.within.0)) in
    let items = c.in_ok-push-in-Byte.ensures.items in
    let same = c.loop-rest.invariant.same in
    let rest = c.skip-rest.ensures in
    record {
      same = cc;
      after = omega (arith, c.loop-rest.invariant.after);
      place = omega (
        arith,
        c.in-Byte.ensures.within.1,
        c.loop-rest.invariant.place,
        ap length rest,
        length-drop c.in-Byte.len c.loop-rest.rest.now,
      );
    }
