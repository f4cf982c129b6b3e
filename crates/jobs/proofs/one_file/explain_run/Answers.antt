use Rattle.std.proofs.Common.{◌∙◌, ap, sym}
use Rattle.std.proofs.KnownBytes.{Keeps-refl}
use Rattle.fault_report.specs.Why.{TellsWhy, run_of}
use Rattle.jobs.specs.Endings.{is_mapped}
use Rattle.jobs.specs.Given.{adds_none}
use Rattle.jobs.proofs.FileReasons.{found_says, lost_says, mapped_possible, met_possible}
use Rattle.poke_batch.specs.TypeRuns.{run_type}
use Rattle.jobs.proofs.one_file.explain_run.Goals as goal

pub returns-then-not-is_mapped-clause-met : goal.returns-then-not-is_mapped-clause-met
returns-then-not-is_mapped-clause-met g c = adds_none (Keeps-refl _)

pub returns-in-Err-clause-met : goal.returns-in-Err-clause-met
returns-in-Err-clause-met g c = adds_none (Keeps-refl _)

pub returns-in-Ok-clause-says : goal.returns-in-Ok-clause-says
returns-in-Ok-clause-says g c = λ mapped.
    let run = c.args.run.now in
    let before = g.S.Space.view c.args.space.now in
    let after = g.S.Space.view c.reasons_of.new.space in
    found_says (λ ended. TellsWhy (run_of before after run.ask.now run.terms.now ended) (run_type run)) run.terms.now
    c.args.outcome c.show_found.result c.in-Ok.found.text.items _ c.in-Ok.ensures.why (c.show_found.ensures.says mapped)

pub returns-in-Err-clause-says : goal.returns-in-Err-clause-says
returns-in-Err-clause-says g c = λ mapped. lost_says _ _ _ c.lose.ensures

pub returns-in-Ok-clause-impossible : goal.returns-in-Ok-clause-impossible
returns-in-Ok-clause-impossible g c = λ asked is.
    absurd (met_possible c.args.run.now.terms.now c.args.outcome _ _ c.show_found.result
    (ap is_mapped (sym c.status.ensures) ∙ sym c.is_mapped.ensures ∙ c.if-not-is_mapped.false) c.show_found.ensures.met
    is)

pub returns-in-Err-clause-impossible : goal.returns-in-Err-clause-impossible
returns-in-Err-clause-impossible g c = λ asked is.
    absurd (mapped_possible c.args.outcome
    (ap is_mapped (sym c.status.ensures) ∙ sym c.is_mapped.ensures ∙ c.if-not-is_mapped.false) is)
