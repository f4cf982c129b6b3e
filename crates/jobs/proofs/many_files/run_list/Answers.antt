use Rattle.std.proofs.Common.{◌≡◌, [], None, refl, arith}
use Rattle.std.proofs.KnownBytes.{Appends-nil, Keeps-refl, Keeps-trans}
use Rattle.std.proofs.lemmas.Result.{err_from_is_err_and}
use Rattle.std.specs.Io.KnownBytes.{Keeps}
use Rattle.std.specs.Io.Buffered.{reader_remaining}
use Rattle.jobs.specs.Asides.{no_file_told, no_list, tells_list}
use Rattle.jobs.specs.Due.{whole}
use Rattle.jobs.specs.Every.{every_of}
use Rattle.jobs.specs.Files.{WritesName}
use Rattle.jobs.specs.Jobs.{files_end}
use Rattle.jobs.specs.Lines.{StopsList, WritesList, first_names, no_memory}
use Rattle.jobs.specs.Names.{first_listed, none_read, one_read}
use Rattle.jobs.proofs.EachWritten.{all_hold, first_hold, fresh_reader, kept_written, none_written, one_written, unflushed_hold}
use Rattle.jobs.proofs.ListRuns.{next_stops}
use Rattle.jobs.proofs.FilesTold.{list_last, names_kept, names_next}
use Rattle.run_parts.specs.declared.outcome.Failure.TheVariants.{Read}
use Rattle.jobs.proofs.many_files.run_list.Goals.{then-not-contains+in_ok-flush, else-not-contains}
use Rattle.jobs.proofs.many_files.run_list.Goals as goal

pub loop-init : goal.loop-init
loop-init g c = record {
  ready = c.store_for-kept.ensures;
  capacity = omega (arith, c.in-Ok-with_capacity.ensures.capacity);
  written = none_written (WritesName (g.P.Opener.gives c.args.opener.now) (every_of c.args.task)) _ _ none_read;
  told = record { names = []; read = none_read; tells = no_file_told (Keeps-refl _) };
}

pub returns-in_default-clause-holds : goal.returns-in_default-clause-holds
returns-in_default-clause-holds g c = whole (files_end no_memory) (Appends-nil _)

pub returns-in_default-with_capacity-clause-holds : goal.returns-in_default-with_capacity-clause-holds
returns-in_default-with_capacity-clause-holds g c = whole (files_end no_memory) (Appends-nil _)

pub returns-in_err-flush-clause-holds : goal.returns-in_err-flush-clause-holds
returns-in_err-flush-clause-holds g c =
    let gives = g.P.Opener.gives c.args.opener.now in
    let every = every_of c.args.task in
    let is = fresh_reader g.L.Read.remaining c.in-Ok.list c.args.list 8192 c.in-Ok.ensures.inner c.in-Ok.ensures.empty
    c.in-Ok.ensures.capacity refl in
    let p = err_from_is_err_and c.from_residual.result c.from_residual.ensures.1 in
    rw (p.1, p.2)
    (unflushed_hold (WritesName gives every) _
    (WritesList gives every (λ bytes. bytes ≡ g.L.Read.remaining c.args.list))
    (StopsList gives every (λ bytes. bytes ≡ g.L.Read.remaining c.args.list)) _
    c.loop.greatest _ None (λ names lines read written. first_names {stop = None} tt (first_listed is read) written)
    (kept_written (WritesName gives every) _ _ _ _ c.loop.greatest c.loop.invariant.written c.in_err-flush.ensures))

pub returns-in_err-status-clause-holds : goal.returns-in_err-status-clause-holds
returns-in_err-status-clause-holds g c =
    let gives = g.P.Opener.gives c.args.opener.now in
    let every = every_of c.args.task in
    let is = fresh_reader g.L.Read.remaining c.in-Ok.list c.args.list 8192 c.in-Ok.ensures.inner c.in-Ok.ensures.empty
    c.in-Ok.ensures.capacity refl in
    let keeps : Keeps (g.O.Write.contents c.loop.out) (g.O.Write.contents c.if-not-contains.out) =
    elim c.if-not-contains.branch [
      | then-not-contains+in_ok-flush w ↦ rw w.out-is w.flush.ensures
      | else-not-contains w ↦ rw w.out-is (Keeps-refl _)
    ] in
    let p = err_from_is_err_and c.from_residual-in_err-status.result c.from_residual-in_err-status.ensures.1 in
    rw (p.1, p.2)
    (next_stops gives every (λ bytes. bytes ≡ g.L.Read.remaining c.args.list) _ _ _ _ _ c.loop.greatest _ is
    (kept_written (WritesName gives every) _ _ _ _ c.loop.greatest c.loop.invariant.written keeps)
    c.in_err-status.ensures.err)

pub returns-in-None-clause-holds : goal.returns-in-None-clause-holds
returns-in-None-clause-holds g c =
    let gives = g.P.Opener.gives c.args.opener.now in
    let every = every_of c.args.task in
    let is = fresh_reader g.L.Read.remaining c.in-Ok.list c.args.list 8192 c.in-Ok.ensures.inner c.in-Ok.ensures.empty
    c.in-Ok.ensures.capacity refl in
    let keeps : Keeps (g.O.Write.contents c.loop.out) (g.O.Write.contents c.if-not-contains.out) =
    elim c.if-not-contains.branch [
      | then-not-contains+in_ok-flush w ↦ rw w.out-is w.flush.ensures
      | else-not-contains w ↦ rw w.out-is (Keeps-refl _)
    ] in
    let none = rw c.in-None.is at c.in_ok-status.ensures.none in
    all_hold (WritesName gives every) _ (WritesList gives every (λ bytes. bytes ≡ g.L.Read.remaining c.args.list))
    (StopsList gives every (λ bytes. bytes ≡ g.L.Read.remaining c.args.list)) _ c.loop.greatest _
    (λ names lines read written. record {
      names = names;
      are = record {
        list = reader_remaining g.L.Read.remaining c.in-Ok.list;
        rest = reader_remaining g.L.Read.remaining c.loop.list;
        is = is;
        read = read;
        end = none.0;
      };
      written = written;
    })
    (kept_written (WritesName gives every) _ _ _ _ c.loop.greatest c.loop.invariant.written
    (Keeps-trans _ _ _ keeps none.1))

pub loop-preserved : goal.loop-preserved
loop-preserved g c =
    let keeps : Keeps (g.O.Write.contents c.loop.out) (g.O.Write.contents c.if-not-contains.out) =
    elim c.if-not-contains.branch [
      | then-not-contains+in_ok-flush w ↦ rw w.out-is w.flush.ensures
      | else-not-contains w ↦ rw w.out-is (Keeps-refl _)
    ] in
    let shown : Keeps (g.A.Aside.told c.loop.aside) (g.A.Aside.told c.if-not-contains.aside) =
    elim c.if-not-contains.branch [
      | then-not-contains+in_ok-flush w ↦ rw w.aside-is w.show.ensures
      | else-not-contains w ↦ rw w.aside-is (Keeps-refl _)
    ] in
    let gives = g.P.Opener.gives c.args.opener.now in
    let every = every_of c.args.task in
    let next = rw c.in-Some.is at c.in_ok-status.ensures.some in
    record {
      ready = c.run_next.ensures.ready;
      capacity = c.run_next.ensures.capacity;
      written = rw c.greater-greatest.ensures (one_written (WritesName gives every)
          _ _ next.name _ _ _ c.loop.greatest c.in-Some.status (λ names read. one_read read next.is)
          (kept_written (WritesName gives every) _ _ _ _ c.loop.greatest c.loop.invariant.written keeps)
          next.written);
      told = names_next gives every _ _ _ _ _ _ _ c.loop.invariant.told shown
          (rw c.in-Some.is at c.in_ok-status.ensures.told);
    }

pub returns-clause-holds : goal.returns-clause-holds
returns-clause-holds g c =
    let gives = g.P.Opener.gives c.args.opener.now in
    let every = every_of c.args.task in
    let is = fresh_reader g.L.Read.remaining c.in-Ok.list c.args.list 8192 c.in-Ok.ensures.inner c.in-Ok.ensures.empty
    c.in-Ok.ensures.capacity refl in
    first_hold (WritesName gives every) _ (WritesList gives every (λ bytes. bytes ≡ g.L.Read.remaining c.args.list))
    (StopsList gives every (λ bytes. bytes ≡ g.L.Read.remaining c.args.list)) _
    c.loop.greatest _ Read
    (λ names lines read written. first_names refl (first_listed is read) written) c.loop.invariant.written

pub returns-in_err-flush-clause-told : goal.returns-in_err-flush-clause-told
returns-in_err-flush-clause-told g c =
    let is = fresh_reader g.L.Read.remaining c.in-Ok.list c.args.list 8192 c.in-Ok.ensures.inner c.in-Ok.ensures.empty
    c.in-Ok.ensures.capacity refl in
    tells_list is c.loop.invariant.told

pub returns-in_err-status-clause-told : goal.returns-in_err-status-clause-told
returns-in_err-status-clause-told g c =
    let is = fresh_reader g.L.Read.remaining c.in-Ok.list c.args.list 8192 c.in-Ok.ensures.inner c.in-Ok.ensures.empty
    c.in-Ok.ensures.capacity refl in
    let shown : Keeps (g.A.Aside.told c.loop.aside) (g.A.Aside.told c.if-not-contains.aside) =
    elim c.if-not-contains.branch [
      | then-not-contains+in_ok-flush w ↦ rw w.aside-is w.show.ensures
      | else-not-contains w ↦ rw w.aside-is (Keeps-refl _)
    ] in
    list_last (g.P.Opener.gives c.args.opener.now) (every_of c.args.task)
    (λ bytes. bytes ≡ g.L.Read.remaining c.args.list) _ _ _ _ _ _ is c.loop.invariant.told shown
    c.in_err-status.ensures.told

pub returns-in-None-clause-told : goal.returns-in-None-clause-told
returns-in-None-clause-told g c =
    let is = fresh_reader g.L.Read.remaining c.in-Ok.list c.args.list 8192 c.in-Ok.ensures.inner c.in-Ok.ensures.empty
    c.in-Ok.ensures.capacity refl in
    let shown : Keeps (g.A.Aside.told c.loop.aside) (g.A.Aside.told c.if-not-contains.aside) =
    elim c.if-not-contains.branch [
      | then-not-contains+in_ok-flush w ↦ rw w.aside-is w.show.ensures
      | else-not-contains w ↦ rw w.aside-is (Keeps-refl _)
    ] in
    tells_list is (names_kept (g.P.Opener.gives c.args.opener.now) (every_of c.args.task) _ _ _ _ _
    c.loop.invariant.told (Keeps-trans _ _ _ shown (rw c.in-None.is at c.in_ok-status.ensures.told)))

pub returns-clause-told : goal.returns-clause-told
returns-clause-told g c =
    let is = fresh_reader g.L.Read.remaining c.in-Ok.list c.args.list 8192 c.in-Ok.ensures.inner c.in-Ok.ensures.empty
    c.in-Ok.ensures.capacity refl in
    tells_list is c.loop.invariant.told

pub returns-in_default-clause-told : goal.returns-in_default-clause-told
returns-in_default-clause-told g c = no_list (Keeps-refl _)

pub returns-in_default-with_capacity-clause-told : goal.returns-in_default-with_capacity-clause-told
returns-in_default-with_capacity-clause-told g c = no_list (Keeps-refl _)
