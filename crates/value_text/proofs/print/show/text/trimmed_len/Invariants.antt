use Rattle.std.proofs.Common.{◌≡◌, ◌≤◌, take}
use Rattle.pickle_meaning.specs.Values.{members_of}
use Rattle.value_store.specs.Refs.{value_shown}
use Rattle.value_text.specs.CharTexts.{chars_in, trimmed}
use Rattle.value_text.proofs.print.show.text.trimmed_len.Given as goal

abbrev pub invariant-loop-place : goal.invariant-loop-place
invariant-loop-place l = record {
  kept : take l.end (chars_in (members_of (value_shown l.fn.value)))
      ≡ trimmed (take l.place (chars_in (members_of (value_shown l.fn.value))));
  most : l.end ≤ l.place;
}
