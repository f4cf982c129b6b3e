-- The tokens that are a pickle.
use Rattle.std.specs.Prelude.{ℕ, ◌+◌, ◌-◌, ◌≤◌, ◌≡◌, ⊤, List, [], ◌∷◌}
use Rattle.pickle_syntax.specs.declared.token.Sign.TheVariants as sign
use Rattle.pickle_syntax.specs.declared.parser.fault.Stop.{Stop}
use Rattle.pickle_syntax.specs.declared.parser.fault.Stop.TheVariants as stop
use Rattle.pickle_syntax.specs.declared.parser.fault.ParseFault.{ParseFault}
use Rattle.pickle_syntax.specs.declared.parser.fault.ParseFault.TheVariants as fault
use Rattle.pickle_syntax.specs.Tokens.{Token, Mark}
use Rattle.pickle_tree.specs.Tree.{DeclarationTree}
use Rattle.pickle_syntax.specs.Show.{show_pickle}
use Rattle.pickle_syntax.specs.Levels.{IsPickleWellBracketed}
use Rattle.pickle_tree.specs.Limits.{standard, IsPickleWithin}

-- the declarations of these tokens
pub record IsPickleOf (tokens : List Token) (ds : List DeclarationTree) : Type 0 where
  pub shown : tokens ≡ show_pickle ds
  pub bracketed : IsPickleWellBracketed ds
  pub within : IsPickleWithin standard ds

abbrev pub IsPickle : List Token → Type 0
IsPickle tokens = (ds : List DeclarationTree) × IsPickleOf tokens ds

-- the number of `;` among the tokens
abbrev pub semicolons : List Token → ℕ
semicolons [] = 0
semicolons (Mark sign.Semicolon ∷ rest) = 1 + semicolons rest
semicolons (_ ∷ rest) = semicolons rest

-- the fault of a reading that stopped, over `count` tokens
abbrev pub fault_of : Stop → ℕ → ParseFault
fault_of (stop.Syntax left) count = fault.Syntax (count - left)
fault_of stop.TooDeep count = fault.TooDeep
fault_of stop.TooMany count = fault.TooMany
fault_of stop.Memory count = fault.Memory

-- a place is that of one of so many tokens, or their end
abbrev pub IsPlaceWithin : ℕ → ParseFault → Type 0
IsPlaceWithin count (fault.Syntax token) = token ≤ count
IsPlaceWithin count fault.TooDeep = ⊤
IsPlaceWithin count fault.TooMany = ⊤
IsPlaceWithin count fault.Memory = ⊤
