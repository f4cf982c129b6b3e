use Rattle.value_text.proofs.Puts.{told_none, told_next, told_same, told_failed}
use Rattle.poke_batch.specs.Selected.{line_of}
use Rattle.poke_batch.specs.TypedLines.{lent_sight}
use Rattle.poke_batch.proofs.SelectedTexts.{member_more, member_none}
use Rattle.poke_batch.proofs.selected.+walk.Goals.{put_members-in-Some, put_members-in_default}
use Rattle.poke_batch.proofs.selected.+walk.Goals as goal

pub put_members-loop-place-init : goal.put_members-loop-place-init
put_members-loop-place-init g t c = told_none

pub put_members-returns-then-printer : goal.put_members-returns-then-printer
put_members-returns-then-printer g t c = told_failed c.if-printer.true c.loop-place.invariant

pub put_members-loop-place-preserved : goal.put_members-loop-place-preserved
put_members-loop-place-preserved g t c =
    let format = c.args.format in
    let line = line_of format.line in
    let steps = c.args.steps.now in
    let end = c.args.places.end in
    let place = c.loop-place.place in
    elim c.match-child.branch [
      | put_members-in-Some w ↦
          (let found = w.in-Some.ensures in
          rw w.printer-is
          (told_next (member_more (lent_sight format.sight) format.style format.mode line steps c.args.part end place
          w.in-Some.member c.loop-place-test.true found.value found.types found.node)
          c.loop-place.invariant w.put_each.ensures))
      | put_members-in_default w ↦
          rw w.printer-is
          (told_same (member_none (lent_sight format.sight) format.style format.mode line steps c.args.part end place
          c.loop-place-test.true w.in_default.ensures.value) c.loop-place.invariant)
    ]
