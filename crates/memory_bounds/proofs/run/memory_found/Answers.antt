use Rattle.run_parts.specs.Accepted.{no_memory}
use Rattle.run_parts.specs.declared.outcome.Failure.TheVariants.{Memory}
use Rattle.run_parts.specs.declared.outcome.Outcome.TheVariants.{Failed}
use Rattle.run_parts.proofs.Sayings.{line_ends, text_ends}
use Rattle.memory_bounds.specs.MemoryRuns.{memory_text, memory_bounds, refused_memory_bounds}
use Rattle.memory_bounds.proofs.run.memory_found.Goals as goal

pub returns-in-Err : goal.returns-in-Err
returns-in-Err g c = λ pickle name declarations types accepted found.
    line_ends _ (Failed Memory) _ (refused_memory_bounds no_memory)

pub returns-in-Err-memory_bound : goal.returns-in-Err-memory_bound
returns-in-Err-memory_bound g c = λ pickle name declarations types accepted found.
    line_ends _ (Failed Memory) _ (refused_memory_bounds no_memory)

pub returns-in-Ok-memory_bound : goal.returns-in-Ok-memory_bound
returns-in-Ok-memory_bound g c = λ pickle name declarations types accepted found.
    text_ends _ (memory_text c.in-Ok.bounds.steps c.in-Ok.bounds.slots c.in-Ok-memory_bound.memory) c.answer.result _ _
    c.put_memory.result (memory_bounds accepted found (record {
      most_steps = c.in-Ok.ensures.steps;
      most_slots = c.in-Ok.ensures.slots;
      most_bytes = c.in-Ok-memory_bound.ensures;
    })) c.put_memory.ensures.ok c.put_memory.ensures.err c.answer.ensures.done c.answer.ensures.failed
