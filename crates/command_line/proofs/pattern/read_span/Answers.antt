use Rattle.std.proofs.Common.{◌≢◌, ◌∙◌, codes, sym}
use Rattle.std.proofs.lemmas.Bool.Decides.{not_from_Decides}
use Rattle.std.proofs.lemmas.Slice.Eq.{bytes_eq-Decides}
use Rattle.command_line.proofs.PatternTexts.{no_colon_no_span}
use Rattle.command_line.proofs.pattern.read_span.Goals as goal

pub returns-in-None-clause-none : goal.returns-in-None-clause-none
returns-in-None-clause-none c =
    let other : c.args.text.now ≢ codes "*" = λ e.
    not_from_Decides _ (bytes_eq-Decides c.args.text.now c.as_slice.result.now)
    (sym c.eq.ensures ∙ c.if-eq.false) (e ∙ sym c.as_slice.ensures) in
    no_colon_no_span c.args.text.now c.in-None.ensures.none other
