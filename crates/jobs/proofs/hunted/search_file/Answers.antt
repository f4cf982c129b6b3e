use Rattle.std.proofs.Common.{◌≡◌, Ok, sym, subst}
use Rattle.std.proofs.KnownBytes.{Keeps-refl}
use Rattle.std.proofs.lemmas.Result.{err_from_is_err_and}
use Rattle.bit_space.specs.SpaceView.{HasRisen}
use Rattle.jobs.specs.Due.{Holds}
use Rattle.jobs.specs.Hunted.{DueHunt, no_pages, seen_due, starts_nowhere, unopened}
use Rattle.jobs.specs.declared.ending.Ending.TheVariants.{Run}
use Rattle.jobs.proofs.Holding.{holds_more, no_text}
use Rattle.jobs.proofs.Mapped.{risen_more}
use Rattle.jobs.proofs.Sighted.{fails_seen}
use Rattle.spool.specs.Window.{cut_at, seen}
use Rattle.jobs.proofs.hunted.search_file.Goals as goal

pub returns-in_err-bytes : goal.returns-in_err-bytes
returns-in_err-bytes g c =
    let p = err_from_is_err_and c.from_residual.result c.from_residual.ensures.1 in
    rw (p.1, p.2) (no_text _ _ _ _ (unopened c.in_err-bytes.ensures.err) (Keeps-refl _))

pub returns-in_err-space : goal.returns-in_err-space
returns-in_err-space g c =
    let p = err_from_is_err_and c.from_residual-in_err-space.result c.from_residual-in_err-space.ensures.1 in
    rw (p.1, p.2) (no_text _ _ _ _ no_pages (Keeps-refl _))

pub returns-in_default : goal.returns-in_default
returns-in_default g c =
    no_text _ _ _ _
    (starts_nowhere {file = g.P.Bytes.Space.view c.in_ok-bytes.bytes} c.in_ok-bytes.ensures.ok
    (sym (rw c.in_default.is at c.bit_in.ensures)))
    (Keeps-refl _)

pub returns : goal.returns
returns g c =
    let gives = g.P.Opener.gives c.args.opener.now in
    let request = c.args.request.now in
    let path = c.args.path.now in
    let file = g.P.Bytes.Space.view c.in_ok-bytes.bytes in
    let start = c.in-Some.start in
    let window = c.in_ok-space.space in
    let sight = cut_at window.end (g.P.Bytes.Space.view window.whole) in
    let last = c.hunt_space-outcome.new.space in
    let after = g.P.Bytes.Space.view last.whole in
    let same : sight ≡ seen request.window start file =
    rw c.in_ok-space.ensures c.from_start-window.ensures in
    let hunted = c.hunt_space-outcome.ensures.hunts in
    let failing = λ (risen : HasRisen file.failures hunted.after.failures).
    fails_seen request.window start file sight after last.end (gives.is_failing path)
    (g.met.P.Bytes.Space.whole c.in_ok-bytes.bytes) same
    (λ end end' keeps more. g.met.P.Opener.failing c.args.opener.now path request.spool
    c.in_ok-bytes.bytes last.whole end end' c.in_ok-bytes.ensures.ok keeps more)
    c.hunt_space-outcome.ensures.keeps
    (risen_more file.failures hunted.after.failures after.failures risen hunted.failures) in
    holds_more
    (DueHunt request c.args.search c.args.formats.now start (seen request.window start file) hunted.after)
    _ (Ok (Run c.hunt_space-outcome.result)) _ _
    (λ lines end due.
    seen_due {file = file} {after = hunted.after} c.in_ok-bytes.ensures.ok
    (sym (rw c.in-Some.is at c.bit_in.ensures)) failing due)
    (subst
    (λ view. Holds (DueHunt request c.args.search c.args.formats.now start view hunted.after)
    (g.O.Write.contents c.args.out.now) (g.O.Write.contents c.hunt_space-outcome.new.out)
    (Ok (Run c.hunt_space-outcome.result))) same hunted.holds)
