use Rattle.poke_batch.proofs.UnderTerms.{says_more}
use Rattle.poke_batch.proofs.Unresolved.{requested_plain}
use Rattle.poke_batch.proofs.run.run_map.Goals as goal

pub returns-clause-says : goal.returns-clause-says
returns-clause-says g c =
    says_more (requested_plain c.args.pickle.now c.args.ask.now _ _) (rw c.none.ensures at c.run_map_under.ensures.says)
