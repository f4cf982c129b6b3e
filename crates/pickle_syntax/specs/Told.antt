-- What the refusal of tokens says.
use Rattle.std.specs.Prelude.{◌-◌, ◌≡◌, ⊤, List, ◌∷◌, ◌++◌, length, Err}
use Rattle.pickle_syntax.specs.declared.parser.fault.ParseFault.{ParseFault}
use Rattle.pickle_syntax.specs.declared.parser.fault.ParseFault.TheVariants as fault
use Rattle.pickle_syntax.specs.Tokens.{Token}
use Rattle.pickle_tree.specs.Limits.{standard}
use Rattle.pickle_syntax.specs.Pickles.{IsPickle}
use Rattle.pickle_syntax.specs.Reading.{Wrong, Deep, Many}
use Rattle.pickle_syntax.specs.ReadForms.{pickle_at}

-- the reading of the tokens stops with this fault, at its token; nothing is said of an allocation failure
abbrev pub Tells : List Token → ParseFault → Type 0
Tells tokens fault.Memory = ⊤
Tells tokens (fault.Syntax token) = pickle_at standard tokens ≡ Err (Wrong (length tokens - token))
Tells tokens fault.TooDeep = pickle_at standard tokens ≡ Err Deep
Tells tokens fault.TooMany = pickle_at standard tokens ≡ Err Many

-- the fault names the token after these as the one at which the reading stops
abbrev pub TellsToken : (front : List Token) → (token : Token) → (rest : List Token) → Type 0
TellsToken front token rest = Tells (front ++ token ∷ rest) (fault.Syntax (length front))

-- the fault names the end of these tokens
abbrev pub TellsEnd : List Token → Type 0
TellsEnd tokens = Tells tokens (fault.Syntax (length tokens))

-- some pickle begins with these tokens
abbrev pub BeginsPickle : List Token → Type 0
BeginsPickle front = (more : List Token) × IsPickle (front ++ more)

-- each token that comes next is too deep, whatever comes after it
abbrev pub IsFull : List Token → Type 0
IsFull tokens = (token : Token) (more : List Token) → Tells (tokens ++ token ∷ more) fault.TooDeep
