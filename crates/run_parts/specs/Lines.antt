-- The lines of refusals and faults. A kind is the fault's name. A line feed ends each line.
use Rattle.std.specs.Prelude.{ℕ, List, [], ◌∷◌, ◌++◌, codes, decimal}

-- what is refused as a whole
abbrev pub refused_line : List ℕ → List ℕ
refused_line kind = codes "refused " ++ (kind ++ 10 ∷ [])

-- what is refused at a byte of the pickle, counted from 0
abbrev pub refused_at_line : List ℕ → ℕ → List ℕ
refused_at_line kind byte = codes "refused " ++ (kind ++ (codes " at byte " ++ (decimal byte ++ 10 ∷ [])))

-- what is refused in a declaration, counted from 1
abbrev pub refused_in_line : List ℕ → ℕ → List ℕ
refused_in_line kind declaration = codes "refused " ++ (kind ++ (codes " in type " ++ (decimal declaration ++ 10 ∷ [])))

-- a fault of a device, of memory, of a reader or of a writer
abbrev pub fault_line : List ℕ → List ℕ
fault_line kind = codes "fault " ++ (kind ++ 10 ∷ [])

-- a fault of a mapping, at a bit of the file
abbrev pub fault_at_line : List ℕ → ℕ → List ℕ
fault_at_line kind bit = codes "fault " ++ (kind ++ (codes " at " ++ (decimal bit ++ codes "#b\n")))

-- a fault of so many mappings, of which the first began at this bit
abbrev pub fault_starts_line : List ℕ → (first count : ℕ) → List ℕ
fault_starts_line kind first count = codes "fault "
    ++ (kind ++ (codes " at " ++ ((decimal first ++ codes "#b count ") ++ (decimal count ++ 10 ∷ []))))
