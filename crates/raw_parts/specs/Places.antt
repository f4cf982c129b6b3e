-- Where the bytes of the requested part of a value are, and why it has none.
use Rattle.std.specs.Prelude.{◌≡◌, ◌≤◌, ◌-◌, ◌*◌, ◌/◌, ◌%◌, ℕ, Bool, true, false, ◌&&◌, not, nat_eq, nat_lt, List, Option, Some, None}
use Rattle.command_line.specs.declared.path.Path.{Path}
use Rattle.pickle_meaning.specs.Values.{Value, end_of, start_of}
use Rattle.pickle_types.specs.TypeTable.{nodes_of}
use Rattle.pickle_types.specs.declared.node.Node.{Node}
use Rattle.poke_batch.specs.PathParts.{part_at}
use Rattle.poke_batch.specs.RunsUnder.{is_left}
use Rattle.poke_batch.specs.declared.type_run.TypeRun.{TypeRun}
use Rattle.raw_parts.specs.Integral.{is_inside_integral}
use Rattle.raw_parts.specs.declared.place.ByteRange.{ByteRange}
use Rattle.run_parts.specs.declared.outcome.Outcome.{Outcome}
use Rattle.run_parts.specs.declared.outcome.Outcome.TheVariants as outcome

-- whether a part begins and ends at a byte
abbrev pub are_whole_bytes : (part : Value) → Bool
are_whole_bytes part = nat_eq (start_of part % 8) 0 && nat_eq (end_of part % 8) 0

-- whether the requested part of a value does, and isn't inside an integral struct
abbrev pub are_own_bytes : List Node → (of : Option ℕ) → Option Path → (value part : Value) → Bool
are_own_bytes nodes of path value part = not (is_inside_integral nodes path of value) && are_whole_bytes part

-- whether so many bytes are more than the most
abbrev pub is_too_long : (most : Option ℕ) → (count : ℕ) → Bool
is_too_long None count = false
is_too_long (Some most) count = nat_lt most count

-- the bytes of a part, from one up to another
abbrev pub bytes_from : (part : Value) → ℕ
bytes_from part = start_of part / 8

abbrev pub bytes_end : (part : Value) → ℕ
bytes_end part = end_of part / 8

-- a range is in a file of so many bytes
pub record IsInFile (len : ℕ) (range : ByteRange) : Type 0 where
  pub forward : range.from ≤ range.end
  pub inside : range.end ≤ len

-- a range has the bytes of a part, and these are as they have to be
pub record HasBytes (are : Value → Bool) (part : Value) (range : ByteRange) : Type 0 where
  pub well : are part ≡ true
  pub from : range.from ≡ bytes_from part
  pub end : range.end ≡ bytes_end part

module _ (run : TypeRun) (value : Value) where
  -- the value ends where it must, and has the requested part
  pub record HasRequested (len : ℕ) (part : Value) : Type 0 where
    pub ends : is_left run.terms.now.whole (end_of value) (8 * len) ≡ false
    pub there : part_at run.terms.now.part value ≡ Some part

  abbrev pub has_bytes : (part : Value) → Bool
  has_bytes part = are_own_bytes (nodes_of run.table.now) (Some run.id.node) run.terms.now.part value part

  abbrev pub has_too_many : (part : Value) → Bool
  has_too_many part = is_too_long run.terms.now.most_output (bytes_end part - bytes_from part)

-- a part of a value, mapped from a file of so many bytes, is to be written
pub record IsDue (run : TypeRun) (len : ℕ) (value part : Value) : Type 0 where
  pub requested : HasRequested run value len part
  pub bytes : has_bytes run value part ≡ true
  pub few : has_too_many run value part ≡ false

-- a range has the bytes of such a part
pub record HasPlace (run : TypeRun) (len : ℕ) (value : Value) (range : ByteRange) : Type 0 where
  pub part : Value
  pub due : IsDue run len value part
  pub from : range.from ≡ bytes_from part
  pub end : range.end ≡ bytes_end part

-- why no part is written
pub data LacksBytes (run : TypeRun) (len : ℕ) (value : Value) : Outcome → Type 0 where
  ends_early : is_left run.terms.now.whole (end_of value) (8 * len) ≡ true
      → LacksBytes run len value (outcome.Left (end_of value))
  lacks_part : is_left run.terms.now.whole (end_of value) (8 * len) ≡ false → part_at run.terms.now.part value ≡ None
      → LacksBytes run len value outcome.NoSuchPart
  unaligned : {part : Value} → HasRequested run value len part → has_bytes run value part ≡ false
      → LacksBytes run len value (outcome.Unaligned (start_of part))
  too_long : {part : Value} → HasRequested run value len part → has_bytes run value part ≡ true
      → has_too_many run value part ≡ true → LacksBytes run len value (outcome.Output run.ask.now.start)
