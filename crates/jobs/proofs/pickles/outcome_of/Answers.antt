use Rattle.jobs.proofs.pickles.outcome_of.Goals as goal

pub returns-in-Plain : goal.returns-in-Plain
returns-in-Plain g c = rw c.in-Plain.is c.bound_outcome.ensures

pub returns-in-Tight : goal.returns-in-Tight
returns-in-Tight g c = rw c.in-Tight.is c.tight_outcome.ensures

pub returns-in-Memory : goal.returns-in-Memory
returns-in-Memory g c = rw c.in-Memory.is c.memory_outcome.ensures

pub returns-in-Text : goal.returns-in-Text
returns-in-Text g c = rw c.in-Text.is c.bound_text_outcome.ensures
