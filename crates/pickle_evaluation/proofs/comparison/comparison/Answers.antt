use Rattle.std.proofs.Common.{◌≡◌, ◌∙◌, sym, true}
use Rattle.pickle_types.specs.Table.{term_of}
use Rattle.pickle_evaluation.specs.Comes.{is_comparison}
use Rattle.pickle_evaluation.proofs.Comparisons.{compares}
use Rattle.value_store.specs.Slots.{levels}
use Rattle.pickle_evaluation.proofs.comparison.comparison.Goals as goal

pub returns-in-Some-Some : goal.returns-in-Some-Some
returns-in-Some-Some c nodes =
    let passed = c.if-not-is_comparison.false in
    let compare : is_comparison c.in-Infix.op ≡ true = sym c.is_comparison.ensures ∙ cc in
    rw (c.in-Infix.is, ← c.deref.ensures, ← c.deref-2.ensures)
    (compares c.in-Infix.op (term_of c.deref.result.now) (term_of c.deref-2.result.now) (levels nodes c.args.store.now)
    c.in-Some-Some.x.number c.in-Some-Some.x.of c.in-Some-Some.y.number c.in-Some-Some.y.of c.compare.result compare
    (c.in-Some-Some.ensures.is nodes) (c.in-Some-Some.ensures'.is nodes) c.compare.ensures)
