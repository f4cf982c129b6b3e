-- The numbers of a file's bits.
use Rattle.std.specs.Prelude.{ℕ, ◌+◌, List, slice_range}
use Rattle.bit_space.specs.declared.order.Order.{Order}
use Rattle.bit_space.specs.Bits.{number}

-- the unsigned number of the bits from a place on
abbrev pub number_at : List ℕ → Order → (place width : ℕ) → ℕ
number_at bits order place width = number order (slice_range bits place (place + width))
