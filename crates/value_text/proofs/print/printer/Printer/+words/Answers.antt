use Rattle.std.proofs.Common.{arith, ◌≡◌, ◌<◌, ◌∙◌, None, false, subst, sym}
use Rattle.std.specs.Prelude.{slice_get}
use Rattle.value_text.specs.Puts.{Puts}
use Rattle.value_text.specs.ShowParts.{known_of}
use Rattle.value_text.specs.TypedValue.{nodes_in, char_node_in}
use Rattle.value_text.specs.TypeWords.{is_letter}
use Rattle.value_text.proofs.Puts.{puts_none}
use Rattle.value_text.proofs.ShowTypes.{word_inside, none_at}
use Rattle.value_text.proofs.print.printer.Printer.+words.Goals as goal

pub put_found_word-returns-in-None : goal.put_found_word-returns-in-None
put_found_word-returns-in-None g t c =
    let none : slice_get (nodes_in c.args.types.now) c.args.of ≡ None =
    subst (λ nodes. slice_get nodes c.args.of ≡ None) c.nodes.ensures
    (none_at c.nodes.result.now c.args.of c.in-None.ensures.lookup.0) in
    rw none puts_none

pub put_node_word-returns-else-is_letter : goal.put_node_word-returns-else-is_letter
put_node_word-returns-else-is_letter g t c =
    let types = known_of c.args.types.now in
    let some : 0 < c.args.levels = omega (arith, c.if-levels-eq0.false) in
    let other : is_letter (char_node_in c.args.types.now) c.args.of ≡ false =
    sym c.is_letter.ensures ∙ c.if-is_letter.false in
    subst (Puts g.W.Write.contents c.args.self.now c.put_found_word.new.self)
    (sym (word_inside c.args.levels types c.args.of some other)) c.put_found_word.ensures
