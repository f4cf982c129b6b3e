use Rattle.identity_text.specs.Identities.{other_stops}
use Rattle.identity_text.proofs.identity.others_of.Goals as goal

pub returns-in-Err-clause-err : goal.returns-in-Err-clause-err
returns-in-Err-clause-err g c = other_stops c.in-Err.ensures.err
