use Rattle.pickle_types.proofs.check.expressions.+expressions.Goals as goal

pub resolve_expression-returns-in-Character-clause-sound : goal.resolve_expression-returns-in-Character-clause-sound
resolve_expression-returns-in-Character-clause-sound t c = c.character.ensures.sound c.args.context.now.nodes.now
