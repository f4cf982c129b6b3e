-- The text is what it was, with the escaped bytes so far after it, and stays plain.
use Rattle.std.proofs.Common.{◌≡◌, take, fold}
use Rattle.pickle_source.specs.Places.{shown_behind, IsPlain}
use Rattle.pickle_source.proofs.text.Text.show.Given as goal

abbrev pub invariant-loop-byte : goal.invariant-loop-byte
invariant-loop-byte l =
    (l.text.bytes.items ≡ fold shown_behind l.initial.text.bytes.items (take l.byte-index l.bytes))
    × (IsPlain l.initial.text.bytes.items → IsPlain l.text.bytes.items)
