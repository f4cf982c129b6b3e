use Rattle.std.proofs.Common.{sym}
use Rattle.bit_space.specs.SpaceView.{HasRisen}
use Rattle.pickle_types.specs.TypeTable.{type_named}
use Rattle.jobs.specs.Every.{every_of, mapped_of}
use Rattle.jobs.proofs.FilesWritten.{line_cut, line_unflushed, line_written, object_cut, object_written}
use Rattle.jobs.proofs.Mapped.{asked_over, risen_more}
use Rattle.run_parts.proofs.Sayings.{on_err}
use Rattle.std.proofs.KnownBytes.{Keeps-refl}
use Rattle.jobs.specs.Asides.{none_told}
use Rattle.jobs.specs.Endings.{is_mapped}
use Rattle.jobs.specs.Explained.{ExplainsFrom}
use Rattle.jobs.proofs.Told.{form_tells, mapped_explains, nothing_due}
use Rattle.run_parts.specs.Outcomes.{outcome_status}
use Rattle.jobs.proofs.file_run.map_space.Goals as goal

pub returns-in_err-status-in-Line-clause-err : goal.returns-in_err-status-in-Line-clause-err
returns-in_err-status-in-Line-clause-err g c =
    let file = g.S.Space.view c.args.space.now in
    let after = g.S.Space.view c.run_file.new.space in
    let cut = c.in_err-status-in-Line.ensures.err _ (rw c.ask_at.ensures.name c.requires.typed.asked) in
    on_err c.from_residual.result
    (line_cut (every_of c.args.task) (mapped_of c.args.typed) c.args.start file after
    (HasRisen file.failures after.failures) c.ask_at.result
    c.in-Line.faults c.args.name.now cut.0 _ _ (asked_over _ _ _ _ _ c.len.ensures c.ask_at.ensures) c.in-Line.is
    (λ risen. risen) cut.1)

pub returns-in_err-tell_reasons-in-Line-clause-err : goal.returns-in_err-tell_reasons-in-Line-clause-err
returns-in_err-tell_reasons-in-Line-clause-err g c =
    let file = g.S.Space.view c.args.space.now in
    let after = g.S.Space.view c.run_file.new.space in
    let last = g.S.Space.view c.reason_lines-lines.new.space in
    on_err c.from_residual-in_err-tell_reasons-in-Line.result
    (line_unflushed (every_of c.args.task) (mapped_of c.args.typed) c.args.start file after
    (HasRisen file.failures last.failures) c.ask_at.result
    c.in-Line.faults c.args.name.now c.in_ok-status-in-Line.status _ _ _
    (asked_over _ _ _ _ _ c.len.ensures c.ask_at.ensures) c.in-Line.is
    (λ risen. risen_more file.failures after.failures last.failures risen
    c.reason_lines-lines.ensures.keeps.failures)
    (c.in_ok-status-in-Line.ensures.ok _ (rw c.ask_at.ensures.name c.requires.typed.asked))
    c.in_err-tell_reasons-in-Line.ensures.out)

pub returns-in_ok-tell_reasons-in-Line-clause-ok : goal.returns-in_ok-tell_reasons-in-Line-clause-ok
returns-in_ok-tell_reasons-in-Line-clause-ok g c =
    let file = g.S.Space.view c.args.space.now in
    let after = g.S.Space.view c.run_file.new.space in
    let last = g.S.Space.view c.reason_lines-lines.new.space in
    line_written (every_of c.args.task) (mapped_of c.args.typed) c.args.start file after
    (HasRisen file.failures last.failures) c.ask_at.result
    c.in-Line.faults c.args.name.now c.in_ok-status-in-Line.status _ _ _
    (asked_over _ _ _ _ _ c.len.ensures c.ask_at.ensures) c.in-Line.is
    (λ risen. risen_more file.failures after.failures last.failures risen
    c.reason_lines-lines.ensures.keeps.failures)
    (c.in_ok-status-in-Line.ensures.ok _ (rw c.ask_at.ensures.name c.requires.typed.asked))
    c.in_ok-tell_reasons-in-Line.ensures.out

pub returns-in-Object-clause-ok : goal.returns-in-Object-clause-ok
returns-in-Object-clause-ok g c =
    let file = g.S.Space.view c.args.space.now in
    let after = g.S.Space.view c.map_file.new.space in
    let last = g.S.Space.view c.reason_lines-lines-in-Object.new.space in
    object_written (every_of c.args.task) (mapped_of c.args.typed) c.args.start file after
    (HasRisen file.failures last.failures) c.ask_at.result
    c.args.name.now c.lines-in-Object.result.now c.map_file.new.kept c.put_object.result _ _
    (asked_over _ _ _ _ _ c.len.ensures c.ask_at.ensures) c.in-Object.is
    (λ e. rw c.lines-in-Object.ensures (c.reason_lines-lines-in-Object.ensures.quiet e))
    (λ risen. risen_more file.failures after.failures last.failures risen
    c.reason_lines-lines-in-Object.ensures.keeps.failures)
    (c.map_file.ensures.holds _ (rw c.ask_at.ensures.name c.requires.typed.asked))
    c.put_object.ensures.status c.put_object.ensures.ok

pub returns-in-Object-clause-err : goal.returns-in-Object-clause-err
returns-in-Object-clause-err g c =
    let file = g.S.Space.view c.args.space.now in
    let after = g.S.Space.view c.map_file.new.space in
    let last = g.S.Space.view c.reason_lines-lines-in-Object.new.space in
    object_cut (every_of c.args.task) (mapped_of c.args.typed) c.args.start file after
    (HasRisen file.failures last.failures) c.ask_at.result
    c.args.name.now c.lines-in-Object.result.now c.map_file.new.kept c.put_object.result _ _
    (asked_over _ _ _ _ _ c.len.ensures c.ask_at.ensures) c.in-Object.is
    (λ e. rw c.lines-in-Object.ensures (c.reason_lines-lines-in-Object.ensures.quiet e))
    (λ risen. risen_more file.failures after.failures last.failures risen
    c.reason_lines-lines-in-Object.ensures.keeps.failures)
    (c.map_file.ensures.holds _ (rw c.ask_at.ensures.name c.requires.typed.asked))
    c.put_object.ensures.err

pub returns-in_err-status-in-Line-clause-told : goal.returns-in_err-status-in-Line-clause-told
returns-in_err-status-in-Line-clause-told g c = none_told (Keeps-refl _)

pub returns-in_err-tell_reasons-in-Line-clause-told : goal.returns-in_err-tell_reasons-in-Line-clause-told
returns-in_err-tell_reasons-in-Line-clause-told g c =
    form_tells c.args.task.form c.args.name.now c.lines.result.now
    (ExplainsFrom (mapped_of c.args.typed) c.args.task.explains c.args.start (g.S.Space.view c.args.space.now)) _ _
    c.tell_reasons.result
    (rw c.lines.ensures (mapped_explains (mapped_of c.args.typed) c.args.task.explains
    (is_mapped (outcome_status c.outcome.result)) c.args.start (g.S.Space.view c.args.space.now)
    (g.S.Space.view c.reason_lines-lines.new.space) c.outcome.result
    c.reason_lines-lines.result c.reason_lines-lines.ensures.quiet c.reason_lines-lines.ensures.unmapped
    (λ why is. record {
      ask = c.ask_at.result;
      type = type_named c.args.typed.table.now c.args.typed.id;
      read = g.S.Space.view c.run_file.new.space;
      at = asked_over _ _ _ _ _ c.len.ensures c.ask_at.ensures;
      asked = rw c.ask_at.ensures.name c.requires.typed.asked;
      keeps = c.run_file.ensures.keeps;
      found = c.reason_lines-lines.ensures.keeps;
      says = c.reason_lines-lines.ensures.says why is;
    })))
    c.tell_reasons.ensures.told

pub returns-in_ok-tell_reasons-in-Line-clause-told : goal.returns-in_ok-tell_reasons-in-Line-clause-told
returns-in_ok-tell_reasons-in-Line-clause-told g c =
    form_tells c.args.task.form c.args.name.now c.lines.result.now
    (ExplainsFrom (mapped_of c.args.typed) c.args.task.explains c.args.start (g.S.Space.view c.args.space.now)) _ _
    c.tell_reasons.result
    (rw c.lines.ensures (mapped_explains (mapped_of c.args.typed) c.args.task.explains
    (is_mapped (outcome_status c.outcome.result)) c.args.start (g.S.Space.view c.args.space.now)
    (g.S.Space.view c.reason_lines-lines.new.space) c.outcome.result
    c.reason_lines-lines.result c.reason_lines-lines.ensures.quiet c.reason_lines-lines.ensures.unmapped
    (λ why is. record {
      ask = c.ask_at.result;
      type = type_named c.args.typed.table.now c.args.typed.id;
      read = g.S.Space.view c.run_file.new.space;
      at = asked_over _ _ _ _ _ c.len.ensures c.ask_at.ensures;
      asked = rw c.ask_at.ensures.name c.requires.typed.asked;
      keeps = c.run_file.ensures.keeps;
      found = c.reason_lines-lines.ensures.keeps;
      says = c.reason_lines-lines.ensures.says why is;
    })))
    c.tell_reasons.ensures.told

pub returns-in-Object-clause-told : goal.returns-in-Object-clause-told
returns-in-Object-clause-told g c = none_told (Keeps-refl _)

pub returns-in_ok-tell_reasons-in-Line-clause-outcome : goal.returns-in_ok-tell_reasons-in-Line-clause-outcome
returns-in_ok-tell_reasons-in-Line-clause-outcome g c why =
    rw (c.in-Line.is, sym c.outcome.ensures) (λ is. record {
      reasons = c.reason_lines-lines.result;
      says = record {
        ask = c.ask_at.result;
        type = type_named c.args.typed.table.now c.args.typed.id;
        read = g.S.Space.view c.run_file.new.space;
        at = asked_over _ _ _ _ _ c.len.ensures c.ask_at.ensures;
        asked = rw c.ask_at.ensures.name c.requires.typed.asked;
        keeps = c.run_file.ensures.keeps;
        found = c.reason_lines-lines.ensures.keeps;
        says = c.reason_lines-lines.ensures.says why is;
      };
      tells = rw (c.in-Line.is, c.lines.ensures) at c.in_ok-tell_reasons-in-Line.ensures.told;
    })

pub returns-in-Object-clause-outcome : goal.returns-in-Object-clause-outcome
returns-in-Object-clause-outcome g c why = rw c.in-Object.is (nothing_due c.put_object.result)
