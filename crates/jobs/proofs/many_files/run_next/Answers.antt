use Rattle.std.proofs.KnownBytes.{Keeps-refl}
use Rattle.std.proofs.lemmas.Result.{err_from_is_err_and}
use Rattle.jobs.specs.Asides.{TellsName, no_last, tells_last, tells_short}
use Rattle.jobs.specs.Every.{every_of}
use Rattle.jobs.specs.Lines.{unread_name}
use Rattle.jobs.proofs.ListRuns.{long_cut, long_next, long_unread, short_cut, short_written}
use Rattle.jobs.specs.Names.{IsShortName}
use Rattle.jobs.proofs.FilesTold.{long_last_told, long_next_told}
use Rattle.jobs.proofs.Told.{tells_more}
use Rattle.jobs.proofs.many_files.run_next.Goals as goal

pub returns-in_err-next-clause-err : goal.returns-in_err-next-clause-err
returns-in_err-next-clause-err g c =
    let p = err_from_is_err_and c.from_residual.result c.from_residual.ensures.1 in
    rw (p.1, p.2, c.in_err-next.ensures.memory c.requires.capacity) (unread_name (Keeps-refl _))

pub returns-in-End-clause-none : goal.returns-in-End-clause-none
returns-in-End-clause-none g c = (c.in_ok-next.ensures.end c.in-End.is, Keeps-refl _)

pub returns-in_err-status-in-Whole-clause-err : goal.returns-in_err-status-in-Whole-clause-err
returns-in_err-status-in-Whole-clause-err g c =
    let p = err_from_is_err_and c.from_residual-in_err-status-in-Whole.result
    c.from_residual-in_err-status-in-Whole.ensures.1 in
    rw (p.1, p.2) (short_cut (g.P.Opener.gives c.args.opener.now) (every_of c.args.task)
    (g.L.Read.remaining c.args.list.now) (g.L.Read.remaining c.read_name.new.list) _ _ c.as_slice-bytes.result.now
    (rw c.as_slice-bytes.ensures.value (c.in_ok-next.ensures.whole c.in-Whole.is)) c.in_err-status-in-Whole.ensures.err)

pub returns-in_ok-status-in-Whole-clause-some : goal.returns-in_ok-status-in-Whole-clause-some
returns-in_ok-status-in-Whole-clause-some g c =
    short_written (g.P.Opener.gives c.args.opener.now) (every_of c.args.task)
    (g.L.Read.remaining c.args.list.now) (g.L.Read.remaining c.read_name.new.list) _ _ c.as_slice-bytes.result.now
    c.in_ok-status-in-Whole.status
    (rw c.as_slice-bytes.ensures.value (c.in_ok-next.ensures.whole c.in-Whole.is)) c.in_ok-status-in-Whole.ensures.ok

pub returns-in_err-run_long-in-Long-clause-err : goal.returns-in_err-run_long-in-Long-clause-err
returns-in_err-run_long-in-Long-clause-err g c =
    let p = err_from_is_err_and c.from_residual-in_err-run_long-in-Long.result
    c.from_residual-in_err-run_long-in-Long.ensures.1 in
    rw (p.1, p.2) (long_cut (g.P.Opener.gives c.args.opener.now) (every_of c.args.task)
    (g.L.Read.remaining c.args.list.now) (g.L.Read.remaining c.read_name.new.list) _ _ c.as_slice-bytes.result.now
    (rw c.as_slice-bytes.ensures.value (c.in_ok-next.ensures.long c.in-Long.is)) c.in_err-run_long-in-Long.ensures.err)

pub returns-in-Ended-clause-some : goal.returns-in-Ended-clause-some
returns-in-Ended-clause-some g c =
    long_next (g.P.Opener.gives c.args.opener.now) (every_of c.args.task)
    (g.L.Read.remaining c.args.list.now) (g.L.Read.remaining c.read_name.new.list) _ _
    (g.L.Read.remaining c.run_long.new.list) c.as_slice-bytes.result.now
    (rw c.as_slice-bytes.ensures.value (c.in_ok-next.ensures.long c.in-Long.is))
    (rw c.in-Ended.is at c.in_ok-run_long-in-Long.ensures.ok)

pub returns-in-Unread-clause-err : goal.returns-in-Unread-clause-err
returns-in-Unread-clause-err g c =
    long_unread (g.P.Opener.gives c.args.opener.now) (every_of c.args.task)
    (g.L.Read.remaining c.args.list.now) (g.L.Read.remaining c.read_name.new.list) _ _
    (g.L.Read.remaining c.run_long.new.list) c.as_slice-bytes.result.now
    (rw c.as_slice-bytes.ensures.value (c.in_ok-next.ensures.long c.in-Long.is))
    (rw c.in-Unread.is at c.in_ok-run_long-in-Long.ensures.ok)

pub returns-in_err-status-in-Whole-clause-told : goal.returns-in_err-status-in-Whole-clause-told
returns-in_err-status-in-Whole-clause-told g c =
    let short : IsShortName (g.L.Read.remaining c.args.list.now) c.as_slice-bytes.result.now
    (g.L.Read.remaining c.read_name.new.list) =
    rw c.as_slice-bytes.ensures.value (c.in_ok-next.ensures.whole c.in-Whole.is) in
    let p = err_from_is_err_and c.from_residual-in_err-status-in-Whole.result
    c.from_residual-in_err-status-in-Whole.ensures.1 in
    rw p.1 (tells_last {list' = g.L.Read.remaining c.read_name.new.list} (record {
      name = c.as_slice-bytes.result.now;
      is = short.next;
      tells = tells_more (TellsName (g.P.Opener.gives c.args.opener.now) (every_of c.args.task)
          c.as_slice-bytes.result.now) _ _ _ (λ text tells. tells_short short.within tells) c.run_name.ensures.told;
    }))

pub returns-in_ok-status-in-Whole-clause-told : goal.returns-in_ok-status-in-Whole-clause-told
returns-in_ok-status-in-Whole-clause-told g c =
    let short : IsShortName (g.L.Read.remaining c.args.list.now) c.as_slice-bytes.result.now
    (g.L.Read.remaining c.read_name.new.list) =
    rw c.as_slice-bytes.ensures.value (c.in_ok-next.ensures.whole c.in-Whole.is) in
    record {
      name = c.as_slice-bytes.result.now;
      is = short.next;
      tells = tells_more (TellsName (g.P.Opener.gives c.args.opener.now) (every_of c.args.task)
          c.as_slice-bytes.result.now) _ _ _ (λ text tells. tells_short short.within tells) c.run_name.ensures.told;
    }

pub returns-in_err-run_long-in-Long-clause-told : goal.returns-in_err-run_long-in-Long-clause-told
returns-in_err-run_long-in-Long-clause-told g c =
    let p = err_from_is_err_and c.from_residual-in_err-run_long-in-Long.result
    c.from_residual-in_err-run_long-in-Long.ensures.1 in
    rw p.1 (long_last_told (g.P.Opener.gives c.args.opener.now) (every_of c.args.task)
    (g.L.Read.remaining c.args.list.now) (g.L.Read.remaining c.read_name.new.list)
    (g.L.Read.remaining c.run_long.new.list) _ _ c.as_slice-bytes.result.now
    (rw c.as_slice-bytes.ensures.value (c.in_ok-next.ensures.long c.in-Long.is)) c.run_long.ensures.told)

pub returns-in-Ended-clause-told : goal.returns-in-Ended-clause-told
returns-in-Ended-clause-told g c =
    let written = rw c.in-Ended.is at c.in_ok-run_long-in-Long.ensures.ok in
    long_next_told (g.P.Opener.gives c.args.opener.now) (every_of c.args.task)
    (g.L.Read.remaining c.args.list.now) (g.L.Read.remaining c.read_name.new.list)
    (g.L.Read.remaining c.run_long.new.list) _ _ c.as_slice-bytes.result.now written.more
    (rw c.as_slice-bytes.ensures.value (c.in_ok-next.ensures.long c.in-Long.is)) written.read c.run_long.ensures.told

pub returns-in-Unread-clause-told : goal.returns-in-Unread-clause-told
returns-in-Unread-clause-told g c =
    long_last_told (g.P.Opener.gives c.args.opener.now) (every_of c.args.task)
    (g.L.Read.remaining c.args.list.now) (g.L.Read.remaining c.read_name.new.list)
    (g.L.Read.remaining c.run_long.new.list) _ _ c.as_slice-bytes.result.now
    (rw c.as_slice-bytes.ensures.value (c.in_ok-next.ensures.long c.in-Long.is)) c.run_long.ensures.told

pub returns-in_err-next-clause-told : goal.returns-in_err-next-clause-told
returns-in_err-next-clause-told g c =
    let p = err_from_is_err_and c.from_residual.result c.from_residual.ensures.1 in
    rw p.1 (no_last (Keeps-refl _))

pub returns-in-End-clause-told : goal.returns-in-End-clause-told
returns-in-End-clause-told g c = Keeps-refl _
