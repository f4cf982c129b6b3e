use Rattle.pickle_types.proofs.Meanings.{rules_sound, declared_whole}
use Rattle.pickle_types.proofs.laws.exactly_the_rules.Goals as goal

pub returns-clause-sound : goal.returns-clause-sound
returns-clause-sound c = rules_sound

pub returns-clause-whole : goal.returns-clause-whole
returns-clause-whole c = declared_whole
