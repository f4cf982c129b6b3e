use Rattle.command_line.proofs.words.raw_of.Goals as goal

pub returns-in_ok-from_str-in-Some-clause-misread : goal.returns-in_ok-from_str-in-Some-clause-misread
returns-in_ok-from_str-in-Some-clause-misread c = λ selects. record {
  raw = rw c.is_raw-raw.ensures at c.if-raw.true;
  selection = c.in-Some.field-0;
  selects = rw c.in-Some.is at selects;
}
