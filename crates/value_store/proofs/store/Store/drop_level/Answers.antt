use Rattle.std.proofs.Common.{◌∙◌, ap, arith}
use Rattle.pickle_meaning.specs.Values.{outer_of, top_of}
use Rattle.value_store.specs.Levels.{extended}
use Rattle.value_store.specs.Slots.{levels}
use Rattle.value_store.proofs.Held.{dropped, length-levels}
use Rattle.value_store.specs.Moves.{lifted}
use Rattle.value_store.proofs.store.Store.drop_level.Goals as goal

pub returns-clause-levels : goal.returns-clause-levels
returns-clause-levels c = λ names.
    c.lift_level.ensures.levels names
    ∙ ap (λ ls. extended (outer_of ls) (top_of ls)) (c.clear_level.ensures.levels names)
    ∙ dropped (levels names c.args.self.now) (omega (arith, c.requires, length-levels names c.args.self.now))

pub returns-clause-moves : goal.returns-clause-moves
returns-clause-moves c = c.lift_level.ensures.lifts ∙ ap lifted c.clear_level.ensures.moves
