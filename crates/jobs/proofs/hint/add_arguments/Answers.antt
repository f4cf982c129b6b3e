use Rattle.jobs.proofs.hint.add_arguments.Goals as goal

pub returns : goal.returns
returns c = record {
  mid = c.add_hint.new.reasons;
  swapped = rw c.is_swapped.ensures at c.add_hint.ensures;
  turned = rw c.is_turned.ensures at c.add_hint-2.ensures;
}
