use Rattle.std.proofs.Common.{◌∙◌, ap, subst, sym}
use Rattle.pickle_types.specs.TypeTable.{types_of}
use Rattle.run_parts.specs.Accepted.{no_memory}
use Rattle.run_parts.specs.declared.outcome.Failure.TheVariants.{Memory}
use Rattle.run_parts.specs.declared.outcome.Outcome.TheVariants.{Refused, Failed}
use Rattle.run_parts.specs.Told.{Text}
use Rattle.run_parts.specs.TypesText.{TypesAs, told_types, refused_types, told_lines}
use Rattle.run_parts.proofs.Sayings.{line_ends, text_ends}
use Rattle.run_parts.proofs.TypeLines.{lines_same}
use Rattle.run_parts.proofs.types.types_outcome.Goals as goal

pub returns-in-Err : goal.returns-in-Err
returns-in-Err g c = line_ends _ (Refused c.in-Err.refusal) _ (refused_types c.in-Err.ensures.err)

pub returns-in-Ok-declared_types : goal.returns-in-Ok-declared_types
returns-in-Ok-declared_types g c =
    let same = ap told_lines c.as_slice.ensures.value
    ∙ lines_same c.in-Ok-declared_types.types.items (types_of c.in-Ok.table) c.in-Ok-declared_types.ensures in
    text_ends _ (told_lines c.as_slice.result.now) c.answer.result _ _ c.put_types.result
    (subst (λ text. TypesAs c.args.pickle.now (Text text)) (sym same) (told_types c.in-Ok.ensures.ok.1))
    c.put_types.ensures.ok c.put_types.ensures.err c.answer.ensures.done c.answer.ensures.failed

pub returns : goal.returns
returns g c = line_ends _ (Failed Memory) _ (refused_types no_memory)
