-- Flags among the arguments of a command.
use Rattle.std.specs.Prelude.{◌≡◌, ℕ, Bool, true, false, List, Option, Some, None, codes}

-- whether a flag was given
abbrev pub FlagIn : Option (List ℕ) → Bool → Type 0
FlagIn None flag = flag ≡ false
FlagIn (Some text) flag = ((text ≡ codes "true") → flag ≡ true) × ((text ≡ codes "false") → flag ≡ false)
