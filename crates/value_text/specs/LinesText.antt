-- The words of the lines of parts that have no parts themselves.
use Rattle.std.specs.Prelude.{ℕ, ◌-◌, Bool, true, false, ◌&&◌, List, ◌++◌, codes, decimal}
use Rattle.pickle_meaning.specs.Values.{Label, Value, Members, NoMembers, MemberThen, AbsentThen, start_of, end_of}
use Rattle.value_store.specs.Labels.{kind_of}
use Rattle.value_text.specs.TreeText.{has_parts}

-- so many bits after a tab, as an offset
abbrev pub bits_cell : ℕ → List ℕ
bits_cell bits = codes "\t" ++ (decimal bits ++ codes "#b")

-- where a value is: its start and its size
abbrev pub place_cells : Value → List ℕ
place_cells value = bits_cell (start_of value) ++ bits_cell (end_of value - start_of value)

abbrev pub any_present : Members → Bool
any_present NoMembers = false
any_present (MemberThen value rest) = true
any_present (AbsentThen rest) = any_present rest

-- whether the lines of a value are those of its parts
abbrev pub is_parted : Label → Members → Bool
is_parted label members = has_parts (kind_of label) && any_present members
