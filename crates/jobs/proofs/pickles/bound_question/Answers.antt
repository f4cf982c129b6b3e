use Rattle.jobs.specs.Given.{of_bound, of_memory, of_text, of_tight}
use Rattle.jobs.proofs.pickles.bound_question.Goals as goal

pub returns-in-Bound-clause-some : goal.returns-in-Bound-clause-some
returns-in-Bound-clause-some c form =
    rw c.in-Bound.is (of_bound _ c.deref.ensures c.as_bytes-name.ensures.value)

pub returns-in-TightBound-clause-some : goal.returns-in-TightBound-clause-some
returns-in-TightBound-clause-some c form =
    rw c.in-TightBound.is (of_tight _ c.deref-in-TightBound.ensures c.as_bytes-name-in-TightBound.ensures.value)

pub returns-in-MemoryBound-clause-some : goal.returns-in-MemoryBound-clause-some
returns-in-MemoryBound-clause-some c form =
    rw c.in-MemoryBound.is (of_memory _ c.deref-in-MemoryBound.ensures c.as_bytes-name-in-MemoryBound.ensures.value)

pub returns-in-BoundText-clause-some : goal.returns-in-BoundText-clause-some
returns-in-BoundText-clause-some c form =
    rw c.in-BoundText.is (of_text _ c.deref-in-BoundText.ensures c.as_bytes-name-in-BoundText.ensures.value)
