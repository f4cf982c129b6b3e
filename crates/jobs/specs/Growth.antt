-- Limits of steps that grow with the file.
use Rattle.std.specs.Prelude.{◌*◌, ◌/◌, ◌%◌, ◌+◌, ◌==◌, ◌^◌, ◌-◌, ℕ, Bool, true, false, if◌then◌else◌, max, min}
use Rattle.command_line.specs.declared.ask.Ask.{Ask}
use Rattle.command_line.specs.declared.limit.Limit.{Limit}
use Rattle.command_line.specs.declared.limit.Limit.TheVariants.{Steps, Auto}

-- the limit of so many bytes: 256 steps for each if that is more, up to the greatest number of 64 bits
abbrev pub grown : (grows : Bool) → (bytes limit : ℕ) → ℕ
grown false bytes limit = limit
grown true bytes limit = max limit (min (2 ^ 64 - 1) (256 * bytes))

-- the most steps over a file of so many bytes
abbrev pub limit_over : Limit → (bytes : ℕ) → ℕ
limit_over (Steps most) bytes = most
limit_over Auto bytes = grown true bytes 1000000000

abbrev pub grow_limit : (grows : Bool) → (bytes : ℕ) → Ask → Ask
grow_limit grows bytes ask = record ask { limit = grown grows bytes ask.limit }

-- the bytes of a file of so many from the byte on that a bit is in
abbrev pub bytes_from : (bytes start : ℕ) → ℕ
bytes_from bytes start = bytes - start / 8

-- how many places there are from one on in so many bits, with so many between two
abbrev pub places_in : (bits step : ℕ) → ℕ
places_in bits step = bits / step + (if bits % step == 0 then 0 else 1)
