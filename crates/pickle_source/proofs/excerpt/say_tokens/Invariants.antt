-- The text stays plain.
use Rattle.pickle_source.specs.Places.{IsPlain}
use Rattle.pickle_source.proofs.excerpt.say_tokens.Given as goal

abbrev pub invariant-loop-token : goal.invariant-loop-token
invariant-loop-token l = IsPlain l.initial.text.bytes.items → IsPlain l.text.bytes.items
