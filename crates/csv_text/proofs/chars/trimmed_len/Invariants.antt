use Rattle.std.proofs.Common.{◌≡◌, ◌≤◌, take}
use Rattle.pickle_meaning.specs.Values.{members_of, member_count}
use Rattle.value_store.specs.Owners.{owner_of}
use Rattle.value_store.specs.Refs.{value_shown}
use Rattle.value_text.specs.CharTexts.{chars_in, trimmed}
use Rattle.csv_text.proofs.chars.trimmed_len.Given as goal

abbrev pub invariant-loop-place : goal.invariant-loop-place
invariant-loop-place l = record {
  within : l.end ≤ l.place;
  most : l.place ≤ member_count (members_of (value_shown (owner_of l.fn.elements)));
  text : take l.end (chars_in (members_of (value_shown (owner_of l.fn.elements))))
      ≡ trimmed (take l.place (chars_in (members_of (value_shown (owner_of l.fn.elements)))));
}
