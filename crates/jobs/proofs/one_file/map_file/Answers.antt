use Rattle.std.proofs.KnownBytes.{Keeps-refl}
use Rattle.std.proofs.lemmas.Result.{err_from_is_err_and}
use Rattle.std.proofs.Common.{◌≡◌, ◌∙◌, Ok, ap, sym, subst, true}
use Rattle.bit_space.specs.SpaceView.{HasRisen}
use Rattle.jobs.specs.Aims.{IsAskAt, aim_of, of_mapping}
use Rattle.jobs.specs.Due.{Holds}
use Rattle.jobs.specs.Spaces.{DueSpace}
use Rattle.jobs.specs.FileReasons.{ExplainsSpace}
use Rattle.jobs.specs.Jobs.{maps, no_pages, starts_nowhere, unopened}
use Rattle.jobs.specs.declared.ending.Ending.TheVariants.{Run}
use Rattle.jobs.proofs.FileReasons.{fault_file, impossible_kept, opened_file, start_file}
use Rattle.jobs.proofs.Holding.{holds_more, no_text}
use Rattle.jobs.proofs.Mapped.{asked_over, risen_more}
use Rattle.jobs.proofs.Sighted.{fails_seen}
use Rattle.spool.specs.Window.{cut_at, seen}
use Rattle.jobs.proofs.one_file.map_file.Goals as goal

pub returns-in_err-bytes-clause-holds : goal.returns-in_err-bytes-clause-holds
returns-in_err-bytes-clause-holds g c =
    let p = err_from_is_err_and c.from_residual.result c.from_residual.ensures.1 in
    rw (p.1, p.2) (no_text _ _ _ _ (unopened c.in_err-bytes.ensures.err) (Keeps-refl _))

pub returns-in_err-space-clause-holds : goal.returns-in_err-space-clause-holds
returns-in_err-space-clause-holds g c =
    let p = err_from_is_err_and c.from_residual-in_err-space.result c.from_residual-in_err-space.ensures.1 in
    rw (p.1, p.2) (no_text _ _ _ _ no_pages (Keeps-refl _))

pub returns-in_default-clause-holds : goal.returns-in_default-clause-holds
returns-in_default-clause-holds g c =
    no_text _ _ _ _
    (starts_nowhere {file = g.P.Bytes.Space.view c.in_ok-bytes.bytes} c.in_ok-bytes.ensures.ok
    (sym (rw c.in_default.is at c.bit_in.ensures)))
    (Keeps-refl _)

pub returns-clause-holds : goal.returns-clause-holds
returns-clause-holds g c =
    let gives = g.P.Opener.gives c.args.opener.now in
    let file = g.P.Bytes.Space.view c.in_ok-bytes.bytes in
    let window = c.in_ok-space.space in
    let sight = cut_at window.end (g.P.Bytes.Space.view window.whole) in
    let last = c.map_space-outcome.new.space in
    let after = g.P.Bytes.Space.view last.whole in
    let same : sight ≡ seen c.args.mapping.window c.in-Some.start file =
    rw c.in_ok-space.ensures c.from_start-window.ensures in
    let asked : IsAskAt (aim_of c.args.mapping) c.in-Some.start (seen c.args.mapping.window c.in-Some.start file).len
    c.ask_at.result =
    asked_over _ _ _ _ _ (c.len-2.ensures ∙ ap (λ view. view.len) same) c.ask_at.ensures in
    let mapped = c.map_space-outcome.ensures.maps in
    let failing = λ (risen : HasRisen file.failures mapped.after.failures).
    fails_seen c.args.mapping.window c.in-Some.start file sight after last.end (gives.is_failing c.args.path.now)
    (g.met.P.Bytes.Space.whole c.in_ok-bytes.bytes) same
    (λ end end' keeps more. g.met.P.Opener.failing c.args.opener.now c.args.path.now c.args.mapping.spool
    c.in_ok-bytes.bytes last.whole end end' c.in_ok-bytes.ensures.ok keeps more)
    c.map_space-outcome.ensures.keeps
    (risen_more file.failures mapped.after.failures after.failures risen mapped.failures) in
    holds_more
    (DueSpace c.args.pickle.now.bytes.items c.ask_at.result c.args.mapping.terms.now
    (seen c.args.mapping.window c.in-Some.start file) mapped.after c.args.why.now.asked)
    _ (Ok (Run c.map_space-outcome.result)) _ _
    (λ lines end due.
    maps {file = file} {after = mapped.after} c.in-Some.start c.ask_at.result c.in_ok-bytes.ensures.ok
    (sym (rw c.in-Some.is at c.bit_in.ensures)) asked failing due)
    (subst
    (λ view. Holds (DueSpace c.args.pickle.now.bytes.items c.ask_at.result c.args.mapping.terms.now view mapped.after
    c.args.why.now.asked) (g.O.Write.contents c.args.out.now) (g.O.Write.contents c.map_space-outcome.new.out)
    (Ok (Run c.map_space-outcome.result))) same mapped.holds)

pub returns-in_err-bytes-clause-opened : goal.returns-in_err-bytes-clause-opened
returns-in_err-bytes-clause-opened g c =
    let p = err_from_is_err_and c.from_residual.result c.from_residual.ensures.1 in
    rw (p.1, p.2) (fault_file _ _ _ _ _ _ _)

pub returns-in_err-space-clause-opened : goal.returns-in_err-space-clause-opened
returns-in_err-space-clause-opened g c =
    let p = err_from_is_err_and c.from_residual-in_err-space.result c.from_residual-in_err-space.ensures.1 in
    rw (p.1, p.2) (fault_file _ _ _ _ _ _ _)

pub returns-in_default-clause-opened : goal.returns-in_default-clause-opened
returns-in_default-clause-opened g c = start_file _ _ _ _ _ _

pub returns-clause-opened : goal.returns-clause-opened
returns-clause-opened g c =
    let gives = g.P.Opener.gives c.args.opener.now in
    let file = g.P.Bytes.Space.view c.in_ok-bytes.bytes in
    let window = c.in_ok-space.space in
    let sight = cut_at window.end (g.P.Bytes.Space.view window.whole) in
    let last = c.map_space-outcome.new.space in
    let after = cut_at last.end (g.P.Bytes.Space.view last.whole) in
    let same : sight ≡ seen c.args.mapping.window c.in-Some.start file =
    rw c.in_ok-space.ensures c.from_start-window.ensures in
    let asked : IsAskAt (aim_of c.args.mapping) c.in-Some.start (seen c.args.mapping.window c.in-Some.start file).len
    c.ask_at.result =
    asked_over _ _ _ _ _ (c.len-2.ensures ∙ ap (λ view. view.len) same) c.ask_at.ensures in
    let failing = λ (risen : HasRisen file.failures after.failures).
    fails_seen c.args.mapping.window c.in-Some.start file sight (g.P.Bytes.Space.view last.whole) last.end
    (gives.is_failing c.args.path.now)
    (g.met.P.Bytes.Space.whole c.in_ok-bytes.bytes) same
    (λ end end' keeps more. g.met.P.Opener.failing c.args.opener.now c.args.path.now c.args.mapping.spool
    c.in_ok-bytes.bytes last.whole end end' c.in_ok-bytes.ensures.ok keeps more)
    c.map_space-outcome.ensures.keeps risen in
    let explains : ExplainsSpace c.args.pickle.now.bytes.items c.ask_at.result c.args.mapping.terms.now
    (seen c.args.mapping.window c.in-Some.start file) after c.args.why.now.asked c.map_space-outcome.result
    c.map_space-outcome.new.why.reasons.now =
    subst (λ view. ExplainsSpace c.args.pickle.now.bytes.items c.ask_at.result c.args.mapping.terms.now view after
    c.args.why.now.asked c.map_space-outcome.result c.map_space-outcome.new.why.reasons.now) same
    c.map_space-outcome.ensures.explains in
    let adds =
    λ (why : c.args.why.now.asked ≡ true). c.tell_arguments.ensures (c.map_space-outcome.ensures.asked ∙ why) in
    opened_file gives (of_mapping c.args.mapping) c.args.path.now c.args.pickle.now.bytes.items c.args.why.now.asked
    c.tell_arguments.new.why.reasons.now c.map_space-outcome.result
    (λ why mapped. record {
      file = file;
      after = after;
      start = c.in-Some.start;
      ask = c.ask_at.result;
      own = c.map_space-outcome.new.why.reasons.now;
      is = c.in_ok-bytes.ensures.ok;
      from = sym (rw c.in-Some.is at c.bit_in.ensures);
      at = asked;
      failing = failing;
      says = explains.mapped why mapped;
      adds = adds why;
    })
    (λ why is. impossible_kept _ _ _ _ _ _ _ (adds why) is (explains.impossible why is))
