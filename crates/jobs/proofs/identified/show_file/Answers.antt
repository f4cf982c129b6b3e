use Rattle.std.proofs.Common.{◌≡◌, Ok, map, sym, subst}
use Rattle.std.proofs.KnownBytes.{Keeps-refl}
use Rattle.std.proofs.lemmas.Result.{err_from_is_err_and}
use Rattle.bit_space.specs.SpaceView.{HasRisen}
use Rattle.jobs.specs.Due.{Holds}
use Rattle.jobs.specs.Identified.{DueSeen, no_pages, seen_due, starts_nowhere, unopened}
use Rattle.jobs.specs.Installed.{installed_pickle}
use Rattle.jobs.specs.declared.ending.Ending.TheVariants.{Run}
use Rattle.jobs.proofs.Holding.{holds_more, no_text}
use Rattle.jobs.proofs.Mapped.{risen_more}
use Rattle.jobs.proofs.Shown.{many_hold}
use Rattle.jobs.proofs.Sighted.{fails_seen}
use Rattle.spool.specs.Window.{cut_at, seen}
use Rattle.jobs.proofs.identified.show_file.Goals as goal

pub returns-in_default : goal.returns-in_default
returns-in_default g c =
    many_hold (g.P.Opener.gives c.args.opener.now) c.args.why.now.asked c.args.request.now _ _ c.refuse.result _ _
    c.in_default.not-File c.refuse.ensures (Keeps-refl _)

pub returns-in_err-bytes : goal.returns-in_err-bytes
returns-in_err-bytes g c =
    let p = err_from_is_err_and c.from_residual.result c.from_residual.ensures.1 in
    rw (p.1, p.2)
    (no_text _ _ _ _ (unopened c.in-File.is (rw c.as_str.ensures.value at c.in_err-bytes.ensures.err)) (Keeps-refl _))

pub returns-in_err-space : goal.returns-in_err-space
returns-in_err-space g c =
    let p = err_from_is_err_and c.from_residual-in_err-space.result c.from_residual-in_err-space.ensures.1 in
    rw (p.1, p.2) (no_text _ _ _ _ no_pages (Keeps-refl _))

pub returns-in_default-bit_in : goal.returns-in_default-bit_in
returns-in_default-bit_in g c =
    no_text _ _ _ _
    (starts_nowhere {file = g.P.Bytes.Space.view c.in_ok-bytes.bytes} c.in-File.is
    (rw c.as_str.ensures.value at c.in_ok-bytes.ensures.ok) (sym (rw c.in_default-bit_in.is at c.bit_in.ensures)))
    (Keeps-refl _)

pub returns : goal.returns
returns g c =
    let gives = g.P.Opener.gives c.args.opener.now in
    let request = c.args.request.now in
    let file = g.P.Bytes.Space.view c.in_ok-bytes.bytes in
    let start = c.in-Some.start in
    let window = c.in_ok-space.space in
    let sight = cut_at window.end (g.P.Bytes.Space.view window.whole) in
    let last = c.show_space-outcome.new.space in
    let after = g.P.Bytes.Space.view last.whole in
    let same : sight ≡ seen request.window start file =
    rw c.in_ok-space.ensures c.from_start-window.ensures in
    let shown = c.show_space-outcome.ensures.shows in
    let pickles = map installed_pickle c.args.installed.now in
    let failing = λ (risen : HasRisen file.failures shown.after.failures).
    fails_seen request.window start file sight after last.end (gives.is_failing c.as_str.result.now)
    (g.met.P.Bytes.Space.whole c.in_ok-bytes.bytes) same
    (λ end end' keeps more. g.met.P.Opener.failing c.args.opener.now c.as_str.result.now request.spool
    c.in_ok-bytes.bytes last.whole end end' c.in_ok-bytes.ensures.ok keeps more)
    c.show_space-outcome.ensures.keeps
    (risen_more file.failures shown.after.failures after.failures risen shown.failures) in
    holds_more
    (DueSeen c.args.why.now.asked request pickles c.args.formats.now start (seen request.window start file) shown.after)
    _ (Ok (Run c.show_space-outcome.result)) _ _
    (λ lines end due.
    seen_due {file = file} {after = shown.after} c.in-File.is (rw c.as_str.ensures.value at c.in_ok-bytes.ensures.ok)
    (sym (rw c.in-Some.is at c.bit_in.ensures)) (rw c.as_str.ensures.value at failing) due)
    (subst
    (λ view. Holds (DueSeen c.args.why.now.asked request pickles c.args.formats.now start view shown.after)
    (g.O.Write.contents c.args.out.now) (g.O.Write.contents c.show_space-outcome.new.out)
    (Ok (Run c.show_space-outcome.result))) same shown.holds)
