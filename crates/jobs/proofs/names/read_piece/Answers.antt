use Rattle.std.proofs.Common.{subst, arith}
use Rattle.std.proofs.BufReadLemmas.{Consumes_shown}
use Rattle.std.specs.Io.BufRead.{FillKeeps}
use Rattle.jobs.proofs.NamesRead.{more_shown, nothing_shown}
use Rattle.jobs.proofs.names.read_piece.Goals as goal

pub returns-then-is_empty-clause-ok : goal.returns-then-is_empty-clause-ok
returns-then-is_empty-clause-ok g c =
    let rested = c.fill_buf.follows.lender-at-none in
    nothing_shown (g.L.Read.remaining c.args.list.now) (g.L.Read.remaining rested) c.in-Ok.shown.now
    c.args.name.now.items c.args.most c.in-Ok.ensures.end (grind (arith, c.is_empty.ensures, c.if-is_empty.true))
    c.fill_buf.follows.holds-at-none.0

pub returns-clause-ok : goal.returns-clause-ok
returns-clause-ok g c =
    let rested = c.fill_buf.follows.lender-at-none in
    let shown = c.in-Ok.shown.now in
    let count = c.count_to_zero-count.result in
    let filled = subst (FillKeeps _ (g.L.Read.remaining rested) (g.L.BufRead.consumable_len rested)) c.in-Ok.is
    c.fill_buf.follows.holds-at-none in
    let moved =
    Consumes_shown _ _ _ _ shown count (omega (arith, c.count_to_zero-count.ensures.most, c.min-room.ensures))
    c.in-Ok.ensures.front c.in-Ok.ensures.end filled.0 filled.1 c.consume-2.ensures.bytes in
    rw c.in_ok-push_bytes.ensures.ok (more_shown (g.L.Read.remaining c.args.list.now)
    (g.L.Read.remaining c.consume-2.new.self) shown c.args.name.now.items count c.args.most
    c.count_to_zero-count.ensures.before (omega (arith, c.count_to_zero-count.ensures.most, c.min-room.ensures))
    (omega (arith, c.count_to_zero-count.ensures.most, c.min-room.ensures)) moved.0)
