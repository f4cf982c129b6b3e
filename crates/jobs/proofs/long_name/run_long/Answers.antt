use Rattle.std.proofs.KnownBytes.{Keeps-trans}
use Rattle.jobs.specs.Every.{every_of}
use Rattle.jobs.proofs.LongNames.{end_cut, long_unflushed, long_written, rest_cut, start_cut}
use Rattle.run_parts.proofs.Sayings.{on_err}
use Rattle.jobs.specs.Asides.{not_ended}
use Rattle.jobs.proofs.FilesTold.{ended_kept, long_ends}
use Rattle.jobs.proofs.long_name.run_long.Goals as goal

pub returns-in_err-put_start-clause-err : goal.returns-in_err-put_start-clause-err
returns-in_err-put_start-clause-err g c =
    on_err c.from_residual.result
    (start_cut (every_of c.args.task) c.args.start.now (g.L.Read.remaining c.args.list.now) _ _
    c.in_err-put_start.ensures.err)

pub returns-in_err-rest-clause-err : goal.returns-in_err-rest-clause-err
returns-in_err-rest-clause-err g c =
    let h = c.in_err-rest.ensures.err in
    on_err c.from_residual-in_err-rest.result
    (rest_cut (every_of c.args.task) c.args.start.now (g.L.Read.remaining c.args.list.now) h.more _ _ _ h.begins
    c.in_ok-put_start.ensures.ok h.appends)

pub returns-in_err-put_end-clause-err : goal.returns-in_err-put_end-clause-err
returns-in_err-put_end-clause-err g c =
    let h = c.in_ok-rest.ensures.ok in
    on_err c.from_residual-in_err-put_end.result (record {
      rest = c.in_ok-rest.rest;
      list' = g.L.Read.remaining c.put_rest.new.list;
      more = h.more;
      read = h.read;
      written = end_cut (every_of c.args.task) c.args.start.now h.more c.lines.result.now _ _ _ _ _
          (λ e. rw c.lines.ensures (c.long_lines-lines.ensures.quiet e)) c.in_ok-put_start.ensures.ok h.appends
          (rw c.failure.ensures at c.in_err-put_end.ensures.err);
    })

pub returns-in_err-tell_reasons-clause-err : goal.returns-in_err-tell_reasons-clause-err
returns-in_err-tell_reasons-clause-err g c =
    let h = c.in_ok-rest.ensures.ok in
    on_err c.from_residual-in_err-tell_reasons.result (record {
      rest = c.in_ok-rest.rest;
      list' = g.L.Read.remaining c.put_rest.new.list;
      more = h.more;
      read = h.read;
      written = long_unflushed (every_of c.args.task) c.args.start.now h.more c.lines.result.now _ _ _ _ _ _
          (λ e. rw c.lines.ensures (c.long_lines-lines.ensures.quiet e)) c.in_ok-put_start.ensures.ok h.appends
          (rw c.failure.ensures at c.in_ok-put_end.ensures.ok) c.in_err-tell_reasons.ensures.out;
    })

pub returns-in_err-finish_file-clause-err : goal.returns-in_err-finish_file-clause-err
returns-in_err-finish_file-clause-err g c =
    let h = c.in_ok-rest.ensures.ok in
    on_err c.from_residual-in_err-finish_file.result (record {
      rest = c.in_ok-rest.rest;
      list' = g.L.Read.remaining c.put_rest.new.list;
      more = h.more;
      read = h.read;
      written = long_unflushed (every_of c.args.task) c.args.start.now h.more c.lines.result.now _ _ _ _ _ _
          (λ e. rw c.lines.ensures (c.long_lines-lines.ensures.quiet e)) c.in_ok-put_start.ensures.ok h.appends
          (rw c.failure.ensures at c.in_ok-put_end.ensures.ok)
          (Keeps-trans _ _ _ c.in_ok-tell_reasons.ensures.out c.in_err-finish_file.ensures.out);
    })

pub returns-clause-ok : goal.returns-clause-ok
returns-clause-ok g c =
    let h = c.in_ok-rest.ensures.ok in
    record {
      more = h.more;
      read = h.read;
      written = long_written (every_of c.args.task) c.args.start.now h.more c.lines.result.now _ _ _ _ _ _
          (λ e. rw c.lines.ensures (c.long_lines-lines.ensures.quiet e)) c.in_ok-put_start.ensures.ok h.appends
          (rw c.failure.ensures at c.in_ok-put_end.ensures.ok)
          (Keeps-trans _ _ _ c.in_ok-tell_reasons.ensures.out c.in_ok-finish_file.ensures.out);
    }

pub returns-in_err-put_start-clause-told : goal.returns-in_err-put_start-clause-told
returns-in_err-put_start-clause-told g c = not_ended c.show.ensures

pub returns-in_err-rest-clause-told : goal.returns-in_err-rest-clause-told
returns-in_err-rest-clause-told g c = not_ended c.show.ensures

pub returns-in_err-put_end-clause-told : goal.returns-in_err-put_end-clause-told
returns-in_err-put_end-clause-told g c = not_ended c.show.ensures

pub returns-in_err-tell_reasons-clause-told : goal.returns-in_err-tell_reasons-clause-told
returns-in_err-tell_reasons-clause-told g c =
    long_ends (every_of c.args.task) c.args.start.now c.in_ok-rest.ensures.ok.more
    c.lines-2.result.now c.in_ok-rest.rest
    c.args.task.form (g.L.Read.remaining c.args.list.now) (g.L.Read.remaining c.put_rest.new.list) _ _ _
    c.tell_reasons.result c.in_ok-rest.ensures.ok.read c.show.ensures
    (λ e. rw c.lines-2.ensures (c.long_lines-lines.ensures.quiet e))
    (λ e. rw c.lines-2.ensures (c.long_lines-lines.ensures.unread e))
    (rw c.lines-2.ensures c.long_lines-lines.ensures.lines) c.tell_reasons.ensures.told

pub returns-in_err-finish_file-clause-told : goal.returns-in_err-finish_file-clause-told
returns-in_err-finish_file-clause-told g c =
    ended_kept (every_of c.args.task) c.args.start.now (g.L.Read.remaining c.args.list.now)
    (g.L.Read.remaining c.put_rest.new.list) _ _ _
    (long_ends (every_of c.args.task) c.args.start.now c.in_ok-rest.ensures.ok.more
    c.lines-2.result.now c.in_ok-rest.rest
    c.args.task.form (g.L.Read.remaining c.args.list.now) (g.L.Read.remaining c.put_rest.new.list) _ _ _
    c.tell_reasons.result c.in_ok-rest.ensures.ok.read c.show.ensures
    (λ e. rw c.lines-2.ensures (c.long_lines-lines.ensures.quiet e))
    (λ e. rw c.lines-2.ensures (c.long_lines-lines.ensures.unread e))
    (rw c.lines-2.ensures c.long_lines-lines.ensures.lines) c.tell_reasons.ensures.told)
    c.finish_file.ensures.told

pub returns-clause-told : goal.returns-clause-told
returns-clause-told g c =
    ended_kept (every_of c.args.task) c.args.start.now (g.L.Read.remaining c.args.list.now)
    (g.L.Read.remaining c.put_rest.new.list) _ _ _
    (long_ends (every_of c.args.task) c.args.start.now c.in_ok-rest.ensures.ok.more
    c.lines-2.result.now c.in_ok-rest.rest
    c.args.task.form (g.L.Read.remaining c.args.list.now) (g.L.Read.remaining c.put_rest.new.list) _ _ _
    c.tell_reasons.result c.in_ok-rest.ensures.ok.read c.show.ensures
    (λ e. rw c.lines-2.ensures (c.long_lines-lines.ensures.quiet e))
    (λ e. rw c.lines-2.ensures (c.long_lines-lines.ensures.unread e))
    (rw c.lines-2.ensures c.long_lines-lines.ensures.lines) c.tell_reasons.ensures.told)
    c.finish_file.ensures.told
