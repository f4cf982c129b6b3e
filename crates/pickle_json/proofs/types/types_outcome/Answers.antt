use Rattle.std.proofs.Common.{◌∙◌, ap, map}
use Rattle.pickle_types.specs.DeclaredTypes.{told_of}
use Rattle.run_parts.specs.Accepted.{no_memory}
use Rattle.run_parts.specs.declared.outcome.Failure.TheVariants.{Memory}
use Rattle.run_parts.specs.declared.outcome.Outcome.TheVariants.{Refused, Failed}
use Rattle.run_parts.proofs.Sayings.{line_ends}
use Rattle.pickle_json.specs.TypeObjects.{refused_types}
use Rattle.pickle_json.proofs.Lists.{objects_end, written_unrefused}
use Rattle.pickle_json.proofs.types.types_outcome.Goals as goal

pub returns-in-Err-clause-ends : goal.returns-in-Err-clause-ends
returns-in-Err-clause-ends g c = line_ends _ (Refused c.in-Err.refusal) _ (refused_types c.in-Err.ensures.err)

pub returns-in-Ok-declared_types-clause-ends : goal.returns-in-Ok-declared_types-clause-ends
returns-in-Ok-declared_types-clause-ends g c =
    objects_end c.args.pickle.now c.in-Ok.ensures.ok.0 _ c.in-Ok.ensures.ok.1 _
    (ap (map told_of) c.as_slice.ensures.value ∙ c.in-Ok-declared_types.ensures) _ _ c.answer.result c.put_types.result
    c.put_types.ensures.ok c.put_types.ensures.err c.answer.ensures.done c.answer.ensures.failed

pub returns-in-Ok-declared_types-clause-refused : goal.returns-in-Ok-declared_types-clause-refused
returns-in-Ok-declared_types-clause-refused g c =
    written_unrefused c.args.pickle.now c.answer.result c.put_types.result c.answer.ensures.done c.answer.ensures.failed

pub returns-in_default-clause-ends : goal.returns-in_default-clause-ends
returns-in_default-clause-ends g c = line_ends _ (Failed Memory) _ (refused_types no_memory)

pub returns-clause-ends : goal.returns-clause-ends
returns-clause-ends g c = line_ends _ (Failed Memory) _ (refused_types no_memory)
