-- A refusal tells why the reading stopped, and where; no pickle goes on there.
use Rattle.std.proofs.Common.{◌≡◌, ℕ, ◌+◌, ◌-◌, ◌∙◌, List, ◌∷◌, ◌++◌, length, sym, ap, arith, Result, Err, length-append}
use Rattle.std.proofs.lemmas.List.{length-map}
use Rattle.pickle_tree.specs.Tree.{DeclarationTree}
use Rattle.pickle_syntax.specs.declared.token.Kind.{Kind}
use Rattle.pickle_syntax.specs.declared.parser.fault.Stop.{Stop}
use Rattle.pickle_syntax.specs.declared.parser.fault.Stop.TheVariants.{Syntax, TooDeep, TooMany, Memory}
use Rattle.pickle_syntax.specs.declared.parser.fault.ParseFault.TheVariants as fault
use Rattle.pickle_tree.specs.Limits.{standard}
use Rattle.pickle_syntax.specs.Tokens.{Token, token_of, tokens_of}
use Rattle.pickle_syntax.specs.Reading.{Fault, Wrong, Fails}
use Rattle.pickle_syntax.specs.ReadForms.{pickle_at}
use Rattle.pickle_syntax.specs.Pickles.{IsPickle, fault_of}
use Rattle.pickle_syntax.specs.Told.{Tells}
use Rattle.pickle_syntax.proofs.Fronts.{stops_there}
use Rattle.pickle_syntax.proofs.Parsed.{left_within, never_pickle}

abbrev wrong : ℕ → Result (List DeclarationTree) Fault
wrong left = Err (Wrong left)

pub tells : (stop : Stop) (kinds : List Kind) → Fails stop (pickle_at standard (tokens_of kinds)) →
    Tells (tokens_of kinds) (fault_of stop (length kinds))
tells (Syntax left) kinds fails =
    let back : left ≡ length (tokens_of kinds) - (length kinds - left) =
    omega (arith, left_within (tokens_of kinds) left fails, length-map kinds token_of) in
    fails ∙ ap wrong back
tells TooDeep kinds fails = fails
tells TooMany kinds fails = fails
tells Memory kinds fails = fails

-- so many tokens are left behind the front
left_behind : (front rest : List Token) (token : Token) →
    length (front ++ token ∷ rest) - length front ≡ length rest + 1
left_behind front rest token = omega (arith, length-append front (token ∷ rest))

pub same_place : (front rest more : List Token) (token : Token) →
    Tells (front ++ token ∷ rest) (fault.Syntax (length front)) →
    Tells (front ++ token ∷ more) (fault.Syntax (length front))
same_place front rest more token told =
    stops_there standard front rest more token (told ∙ ap wrong (left_behind front rest token))
    ∙ ap wrong (sym (left_behind front more token))

pub none_goes_on : (front rest more : List Token) (token : Token) →
    Tells (front ++ token ∷ rest) (fault.Syntax (length front)) → IsPickle (front ++ token ∷ more) → ⊥
none_goes_on front rest more token told = never_pickle (front ++ token ∷ more) _ (same_place front rest more token told)
