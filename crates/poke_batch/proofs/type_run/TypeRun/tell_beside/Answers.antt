use Rattle.std.proofs.Common.{◌≡◌, ◌+◌, ◌∙◌, arith, sym}
use Rattle.value_store.specs.Refs.{value_shown}
use Rattle.pickle_meaning.specs.Values.{end_of}
use Rattle.run_parts.specs.declared.outcome.Outcome.TheVariants.{Left}
use Rattle.run_parts.proofs.Sayings.{line_ends}
use Rattle.poke_batch.specs.TypeRuns.{lent_bytes}
use Rattle.poke_batch.proofs.UnderTerms.{left_saying}
use Rattle.poke_batch.proofs.type_run.TypeRun.tell_beside.Goals as goal

pub returns-then-is_left : goal.returns-then-is_left
returns-then-is_left g c =
    let run = c.args.self.now in
    let start = c.start.ensures in
    let size = c.size.ensures in
    let from = c.from.ensures in
    let over = c.from-2.ensures in
    let forward = c.requires in
    let end = c.from.result + c.from-2.result in
    let same : end ≡ end_of (value_shown c.args.value) = omega (arith, start, size, from, over, forward) in
    line_ends _ (Left end) _
    (left_saying run.table.now run.id run.ask.now run.terms.now (lent_bytes c.args.file) c.args.bits
    (value_shown c.args.value) end same
    (sym c.is_left.ensures ∙ c.if-is_left.true))
