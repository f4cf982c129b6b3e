use Rattle.std.proofs.Common.{◌≡◌}
use Rattle.pickle_meaning.specs.Values.{members_of}
use Rattle.value_text.specs.TypedValue.{typed_shown}
use Rattle.value_text.specs.LinesText.{any_present}
use Rattle.value_text.proofs.MemberTexts.{members_from}
use Rattle.value_text.proofs.print.lines.any_present.Given as goal

abbrev pub invariant-loop-place : goal.invariant-loop-place
invariant-loop-place l = any_present (members_from l.place (members_of (typed_shown l.fn.value)))
    ≡ any_present (members_of (typed_shown l.fn.value))
