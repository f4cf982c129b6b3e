use Rattle.poke_batch.specs.TypeRuns.{lent_bytes, run_text}
use Rattle.run_parts.proofs.Sayings.{text_ends}
use Rattle.poke_batch.proofs.UnderTerms.{free_saying}
use Rattle.poke_batch.proofs.type_run.TypeRun.tell_text.Goals as goal

pub returns-in-None : goal.returns-in-None
returns-in-None g c =
    let run = c.args.self.now in
    let text = run_text run (lent_bytes c.args.file) c.args.value in
    text_ends _ text c.answer.result _ _ c.print_under.result
    (free_saying run.terms.now.most_output run.ask.now.start text c.in-None.is)
    c.print_under.ensures.ok c.print_under.ensures.err c.answer.ensures.done c.answer.ensures.failed
