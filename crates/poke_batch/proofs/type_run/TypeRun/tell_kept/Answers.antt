use Rattle.std.proofs.Common.{◌≡◌, ◌∙◌, Some, false, sym, ap}
use Rattle.value_store.specs.Refs.{value_shown}
use Rattle.value_text.specs.TypedValue.{nodes_in, mapped_in}
use Rattle.run_parts.specs.declared.outcome.Outcome.TheVariants.{NoSuchPart}
use Rattle.poke_batch.specs.PathParts.{part_at}
use Rattle.poke_batch.specs.RunsUnder.{text_beside, part_has}
use Rattle.run_parts.proofs.Sayings.{line_ends}
use Rattle.poke_batch.specs.TypeRuns.{lent_bytes}
use Rattle.poke_batch.proofs.PartsFound.{part_has_selected}
use Rattle.poke_batch.proofs.UnderTerms.{no_part_saying, none_selected_saying}
use Rattle.poke_batch.proofs.type_run.TypeRun.tell_kept.Goals as goal

pub returns-in_default : goal.returns-in_default
returns-in_default g c =
    let run = c.args.self.now in
    let table = run.table.now in
    let terms = run.terms.now in
    let value = value_shown c.args.value in
    line_ends _ NoSuchPart _
    (no_part_saying run.ask.now terms.most_output (part_has table run.id terms value)
    (text_beside table run.id run.ask.now terms (lent_bytes c.args.file) value) (part_at terms.part value)
    (sym (c.in_default.ensures.value ∙ ap (λ v. part_at terms.part (value_shown v)) c.new-whole.ensures.value)))

pub returns-else-has_selected : goal.returns-else-has_selected
returns-else-has_selected g c =
    let run = c.args.self.now in
    let table = run.table.now in
    let terms = run.terms.now in
    let value = value_shown c.args.value in
    let part = c.in-Some.part in
    let found : part_at terms.part value ≡ Some (mapped_in part) =
    sym (c.in-Some.ensures.value ∙ ap (λ v. part_at terms.part (value_shown v)) c.new-whole.ensures.value) in
    let nodes = ap nodes_in c.new-whole.ensures.types ∙ c.new-types.ensures.nodes in
    let has = part_has_selected table run.id terms c.new-whole.result part nodes
    (c.new-whole.ensures.node ∙ ap Some c.node.ensures)
    c.in-Some.ensures.types c.in-Some.ensures.node in
    let lacks : part_has table run.id terms value (mapped_in part) ≡ false =
    ap (λ v. part_has table run.id terms (value_shown v) (mapped_in part)) (sym c.new-whole.ensures.value) ∙ sym has
    ∙ sym c.has_selected.ensures ∙ c.if-has_selected.false in
    line_ends _ NoSuchPart _
    (none_selected_saying run.ask.now terms.most_output (part_has table run.id terms value)
    (text_beside table run.id run.ask.now terms (lent_bytes c.args.file) value) (part_at terms.part value)
    (mapped_in part) found lacks)
