use Rattle.std.proofs.Common.{ℕ, List, ◌++◌, map, length}
use Rattle.value_notes.specs.Entries.{Entry, entry, AreEntries, EntriesStop}
use Rattle.value_notes.proofs.entries.read_entries.Given as goal

abbrev pub invariant-entries : goal.invariant-entries
invariant-entries l = record {
  goes : (es : List Entry) → AreEntries l.subject es l.rest →
      AreEntries l.subject (map entry l.named.items ++ es) l.text;
  stops : (stop : List ℕ) → EntriesStop l.subject l.rest stop → EntriesStop l.subject l.text stop;
}

abbrev pub decreases-entries : goal.decreases-entries
decreases-entries l = length l.rest
