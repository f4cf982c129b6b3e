use Rattle.std.proofs.Common.{refl}
use Rattle.std.proofs.lemmas.List.{length-map}
use Rattle.run_parts.specs.Accepted.{no_syntax, too_deep, too_many, no_memory}
use Rattle.run_parts.proofs.Refusing.{no_pickle, names_syntax, names_deep, names_many, place_within, told_syntax, told_deep, told_many}
use Rattle.run_parts.proofs.accept.read_syntax.Goals as goal

pub returns-in-Err-clause-err : goal.returns-in-Err-clause-err
returns-in-Err-clause-err c = c.no_tokens.ensures c.args.pickle.now c.in-Err.ensures.exact

pub returns-in-Err-Syntax-clause-err : goal.returns-in-Err-Syntax-clause-err
returns-in-Err-Syntax-clause-err c = no_syntax (no_pickle _ _ _ _ _ c.in-Ok.ensures.exact refl
    (c.in-Err-Syntax.ensures.refused (names_syntax _ _ c.in-Err-Syntax.field-0-is))
    (told_syntax _ _ _ c.in-Err-Syntax.field-0-is c.in-Err-Syntax.ensures.told))
    (place_within _ _ _ _ c.in-Err-Syntax.field-0-is c.in-Err-Syntax.ensures.place (length-map _ _)) c.place.ensures

pub returns-in-Err-TooDeep-clause-err : goal.returns-in-Err-TooDeep-clause-err
returns-in-Err-TooDeep-clause-err c = too_deep (no_pickle _ _ _ _ _ c.in-Ok.ensures.exact refl
    (c.in-Err-TooDeep.ensures.refused (names_deep _ c.in-Err-TooDeep.field-0-is))
    (told_deep _ _ c.in-Err-TooDeep.field-0-is c.in-Err-TooDeep.ensures.told))

pub returns-in-Err-TooMany-clause-err : goal.returns-in-Err-TooMany-clause-err
returns-in-Err-TooMany-clause-err c = too_many (no_pickle _ _ _ _ _ c.in-Ok.ensures.exact refl
    (c.in-Err-TooMany.ensures.refused (names_many _ c.in-Err-TooMany.field-0-is))
    (told_many _ _ c.in-Err-TooMany.field-0-is c.in-Err-TooMany.ensures.told))

pub returns-clause-err : goal.returns-clause-err
returns-clause-err c = no_memory
