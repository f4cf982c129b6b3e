use Rattle.pickle_types.proofs.Scattered.{place_bare}
use Rattle.pickle_types.proofs.places_by_name.PlacesByName.with_capacity.Goals as goal

pub returns-clause-ok : goal.returns-clause-ok
returns-clause-ok c word = place_bare c.add_trees.new.trees.items c.in_ok-add_trees.ensures.bare word
