use Rattle.std.proofs.Common.{arith}
use Rattle.pickle_meaning.specs.Values.{members_of}
use Rattle.value_store.specs.Owners.{owner_of}
use Rattle.value_store.specs.Refs.{value_shown}
use Rattle.value_text.proofs.CharTexts.{chars_count}
use Rattle.csv_text.proofs.text.Text.of_chars.Goals as goal

pub invariant_of-result : goal.invariant_of-result
invariant_of-result c = record {
  within = omega (arith, c.trimmed_len.ensures.most, chars_count (members_of (value_shown (owner_of c.args.elements))));
}
