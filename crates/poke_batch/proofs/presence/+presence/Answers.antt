use Rattle.std.proofs.Common.{◌∙◌, ◌+◌, ◌-◌, Bool, ap, sym}
use Rattle.std.specs.Prelude.{◌&&◌}
use Rattle.poke_batch.specs.Selected.{line_of}
use Rattle.poke_batch.specs.TypedLines.{has_typed_members}
use Rattle.poke_batch.proofs.SelectedTexts.{has_member_more, has_member_none}
use Rattle.poke_batch.proofs.presence.+presence.Goals.{has_members-in-Some+else-not-has_each, has_members-in_default}
use Rattle.poke_batch.proofs.presence.+presence.Goals as goal

pub has_members-returns-then-not-has_each : goal.has_members-returns-then-not-has_each
has_members-returns-then-not-has_each t c =
    let line = line_of c.args.line in
    let steps = c.args.steps.now in
    let place = c.loop-place.place in
    let end = c.args.places.end in
    let found = c.in-Some.ensures in
    sym (c.loop-place.invariant ∙ has_member_more line steps c.args.part end place c.in-Some.member
    c.loop-place-test.true found.value found.types found.node
    ∙ ap (λ (has : Bool). has && has_typed_members line c.args.part steps (end - (place + 1)) (place + 1))
    (sym c.has_each.ensures ∙ c.if-not-has_each.true))

pub has_members-loop-place-preserved : goal.has_members-loop-place-preserved
has_members-loop-place-preserved t c =
    let line = line_of c.args.line in
    let steps = c.args.steps.now in
    let place = c.loop-place.place in
    let end = c.args.places.end in
    elim c.match-child.branch [
      | has_members-in-Some+else-not-has_each w ↦
          (let found = w.in-Some.ensures in
          c.loop-place.invariant
          ∙ has_member_more line steps c.args.part end place w.in-Some.member c.loop-place-test.true found.value
          found.types found.node
          ∙ ap (λ (has : Bool). has && has_typed_members line c.args.part steps (end - (place + 1)) (place + 1))
          (sym w.has_each.ensures ∙ w.if-not-has_each.false))
      | has_members-in_default w ↦ c.loop-place.invariant
          ∙ has_member_none line steps c.args.part end place c.loop-place-test.true w.in_default.ensures.value
    ]
