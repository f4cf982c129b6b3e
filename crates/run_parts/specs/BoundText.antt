-- The printed bounds of a mapping.
use Rattle.std.specs.Prelude.{ℕ, List, ◌++◌, Option, None, Some, codes, decimal}

-- a bound in decimal digits, or what is printed for one of 2^128 or more
abbrev pub bound_number : Option ℕ → List ℕ
bound_number None = codes "more than 2^128-1"
bound_number (Some n) = decimal n

-- a bound after its name, on a separate line
unfoldable pub bound_line : List ℕ → Option ℕ → List ℕ
bound_line name bound = name ++ (bound_number bound ++ codes "\n")

-- the most steps, then the most slots
abbrev pub bound_text : (steps slots : Option ℕ) → List ℕ
bound_text steps slots = bound_line (codes "steps ") steps ++ bound_line (codes "slots ") slots

-- the most steps, the most slots, then the most bytes of the printed value
abbrev pub bound_text_and : (steps slots text : Option ℕ) → List ℕ
bound_text_and steps slots text = bound_text steps slots ++ bound_line (codes "text ") text
