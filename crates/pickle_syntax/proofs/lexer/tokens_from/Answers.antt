use Rattle.std.proofs.Common.{length, ap, ◌∙◌, arith, length-drop}
use Rattle.std.specs.Prelude.{option_map}
use Rattle.pickle_syntax.specs.Tokens.{token_of, tokens_of}
use Rattle.pickle_syntax.proofs.Lexed.{on_piece}
use Rattle.pickle_syntax.proofs.lexer.tokens_from.Goals as goal

pub loop-rest-preserved : goal.loop-rest-preserved
loop-rest-preserved c =
    let within = c.in_ok-piece.ensures.within in
    let on = on_piece (tokens_of c.loop-rest.kinds.items) c.loop-rest.spans.items c.loop-rest.at c.in_ok-piece.piece.len
    (option_map token_of c.in_ok-piece.piece.kind) c.loop-rest.rest.now within.0 within.1 c.in_ok-piece.ensures.value in
    record {
      same = rw (c.in_ok-keep.ensures.kinds, c.in_ok-keep.ensures.spans, c.skip-rest.ensures)
          (on ∙ c.loop-rest.invariant.same);
      place = omega (
        arith,
        within.1,
        c.loop-rest.invariant.place,
        ap length c.skip-rest.ensures,
        length-drop c.in_ok-piece.piece.len c.loop-rest.rest.now,
      );
      paired = c.in_ok-keep.ensures.paired c.loop-rest.invariant.paired;
      few = omega (arith, within.0, c.in_ok-keep.ensures.one, c.loop-rest.invariant.few);
    }
