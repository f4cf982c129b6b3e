use Rattle.std.proofs.Common.{◌≤◌, ◌∙◌, length, subst, sym}
use Rattle.run_parts.specs.declared.outcome.Failure.TheVariants.{Memory}
use Rattle.run_parts.specs.declared.outcome.Outcome.TheVariants.{Output, Failed}
use Rattle.poke_batch.specs.RunsUnder.{no_memory_for_it}
use Rattle.poke_batch.specs.TypeRuns.{lent_bytes, run_text}
use Rattle.run_parts.proofs.Sayings.{line_ends, text_ends}
use Rattle.poke_batch.proofs.UnderTerms.{short_saying, long_saying}
use Rattle.poke_batch.proofs.type_run.TypeRun.tell_short.Goals as goal

pub returns-in-Ok : goal.returns-in-Ok
returns-in-Ok g c =
    let run = c.args.self.now in
    let few = subst (λ l. length l ≤ c.args.most) (sym c.deref.ensures.value) c.in-Ok.ensures.fits in
    text_ends _ c.deref.result.now c.answer.result _ _ c.put.result
    (short_saying c.args.most run.ask.now.start c.deref.result.now (run_text run (lent_bytes c.args.file) c.args.value)
    (c.deref.ensures.value ∙ c.in-Ok.ensures.text) few)
    c.put.ensures.ok c.put.ensures.err c.answer.ensures.done c.answer.ensures.failed

pub returns-in-Err-TooLong : goal.returns-in-Err-TooLong
returns-in-Err-TooLong g c =
    let run = c.args.self.now in
    line_ends _ (Output run.ask.now.start) _
    (long_saying c.args.most run.ask.now.start (run_text run (lent_bytes c.args.file) c.args.value)
    (c.in-Err-TooLong.ensures.err c.in-Err-TooLong.field-0-is))

pub returns-in-Err-Memory : goal.returns-in-Err-Memory
returns-in-Err-Memory g c = line_ends _ (Failed Memory) _ no_memory_for_it
