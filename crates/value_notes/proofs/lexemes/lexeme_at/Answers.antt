use Rattle.std.proofs.Common.{◌∙◌, sym, arith}
use Rattle.value_notes.proofs.Lexing.{lexeme_other}
use Rattle.value_notes.proofs.lexemes.lexeme_at.Goals as goal

pub returns-else-byte-eq45-clause-value : goal.returns-else-byte-eq45-clause-value
returns-else-byte-eq45-clause-value c =
    c.other_in.ensures.value
    ∙ sym (lexeme_other c.args.text.now (omega arith) c.if-byte-eq34.false c.if-byte-eq44.false c.if-byte-eq46.false
    c.if-byte-eq45.false)
