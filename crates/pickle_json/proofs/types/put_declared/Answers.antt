use Rattle.pickle_json.proofs.Lists.{no_fields_member}
use Rattle.pickle_json.proofs.types.put_declared.Goals as goal

pub returns-in-None-clause-ok : goal.returns-in-None-clause-ok
returns-in-None-clause-ok g c = no_fields_member _
