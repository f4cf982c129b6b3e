-- `map_element`: an element beside the frames around its list and an empty one.
use Rattle.std.proofs.Common.{ℕ, subst}
use Rattle.pickle_meaning.specs.Values.{Levels, opened, outer_of}
use Rattle.inner_lists.specs.Calls.{MapsBeside, frames_of}
use Rattle.inner_lists.proofs.element.map_element.Goals as goal

pub returns-clause-is : goal.returns-clause-is
returns-clause-is g c =
    subst (λ (start : ℕ). MapsBeside (g.S.Space.view c.args.space.now) (g.S.Space.view c.map_type.new.space)
    c.args.mapper.now c.map_type.new.mapper (opened (outer_of (frames_of c.args.mapper.now))) c.args.list.element
    c.args.list.order start c.map_type.result) c.from.ensures
    (subst (λ (levels : Levels). MapsBeside (g.S.Space.view c.args.space.now) (g.S.Space.view c.map_type.new.space)
    c.args.mapper.now c.map_type.new.mapper levels c.args.list.element
    c.args.list.order c.from.result c.map_type.result)
    (c.clear_level.ensures.levels c.args.mapper.now.nodes.now) c.map_type.ensures.is)
