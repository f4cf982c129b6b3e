use Rattle.std.proofs.Common.{◌≡◌, ◌∙◌, true, false, sym}
use Rattle.run_parts.specs.declared.outcome.Outcome.TheVariants.{Failed}
use Rattle.poke_batch.specs.RunsUnder.{shows_bytes}
use Rattle.poke_batch.specs.TypeRuns.{tells_plain, tells_beside, tells_unread, taken_bytes}
use Rattle.run_parts.proofs.Sayings.{ends_more, line_ends}
use Rattle.poke_batch.proofs.type_run.TypeRun.tell_value.Goals as goal

pub returns-then-not-shows_bytes-clause-tells : goal.returns-then-not-shows_bytes-clause-tells
returns-then-not-shows_bytes-clause-tells g c =
    let unshown : shows_bytes c.args.self.now.terms.now.look ≡ false =
    sym c.shows_bytes.ensures ∙ c.if-not-shows_bytes.true in
    let told = rw (c.from-bits.ensures, c.len.ensures) at c.tell_beside.ensures in
    ends_more (λ saying said. tells_plain unshown said) told

pub returns-in-Ok-clause-tells : goal.returns-in-Ok-clause-tells
returns-in-Ok-clause-tells g c =
    let shown : shows_bytes c.args.self.now.terms.now.look ≡ true =
    sym c.shows_bytes.ensures ∙ c.if-not-shows_bytes.false in
    let told = rw (c.from-bits.ensures, c.len.ensures, c.lend.ensures) at c.tell_beside-in-Ok.ensures in
    ends_more (λ saying said. tells_beside (taken_bytes c.in-Ok.taken) shown c.in-Ok.ensures.ok said) told

pub returns-in-Err-clause-tells : goal.returns-in-Err-clause-tells
returns-in-Err-clause-tells g c =
    line_ends _ (Failed c.in-Err.failure) _ (tells_unread c.in-Err.failure c.in-Err.ensures.err)
