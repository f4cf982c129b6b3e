use Rattle.std.proofs.Common.{◌∙◌, ◌++◌, ap, codes}
use Rattle.std.proofs.lemmas.Result.{IfOk-weaker}
use Rattle.fault_report.specs.Impossible.{tells_impossible}
use Rattle.fault_report.proofs.impossible.Reach.say.Goals as goal

pub returns : goal.returns
returns c =
    IfOk-weaker c.say-4.result _ _
    (λ text said. tells_impossible c.as_slice.result.now c.as_slice-2.result.now
    (said ∙ ap (λ front. front ++ codes "\n")
    (c.in_ok-say-3.ensures.added ∙ ap (λ front. front ++ c.as_slice-2.result.now)
    (c.in_ok-say-2.ensures.added ∙ ap (λ front. front ++ c.as_slice.result.now)
    (c.in_ok-say.ensures.added ∙ ap (λ front. front ++ codes "  no value of the type has ") c.new.ensures)))))
    c.say-4.ensures.added
