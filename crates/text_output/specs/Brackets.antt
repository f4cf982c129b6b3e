-- Numbers in brackets.
use Rattle.std.specs.Prelude.{ℕ, List, ◌++◌, codes, decimal}

abbrev pub in_brackets : ℕ → List ℕ
in_brackets number = codes "[" ++ (decimal number ++ codes "]")
