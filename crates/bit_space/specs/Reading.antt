-- The result of reading a number.
use Rattle.std.specs.Prelude.{◌≡◌, ℕ, ◌+◌, ◌*◌, ◌^◌, ◌<◌, ◌≤◌, List, Option, Some, slice_range}
use Rattle.bit_space.specs.declared.meter.Meter.{Meter}
use Rattle.bit_space.specs.declared.order.Order.{Order}
use Rattle.bit_space.specs.declared.number.BitFault.{BitFault}
use Rattle.bit_space.specs.declared.number.BitFault.TheVariants.{End, Device, Limit}
use Rattle.bit_space.specs.Bits.{number}
use Rattle.bit_space.specs.SpaceView.{SpaceView, HasRisen}

-- the number that a read of `width` bits from the bit `position` on may give: one of that width, and the number of
-- those bits where the bits of the space are known
pub record MayRead (known : Option (List ℕ)) (order : Order) (position width n : ℕ) : Type 0 where
  pub fits : n < 2 ^ width
  pub exact : (bits : List ℕ) → known ≡ Some bits → n ≡ number order (slice_range bits position (position + width))

-- why a read of the bits up to `end` was refused, with the steps before and after it, under a limit
abbrev pub IsRefused : BitFault → (end : ℕ) (before after : SpaceView) (limit steps steps' : ℕ) → Type 0
IsRefused Limit end before after limit steps steps' = (steps ≡ limit) × (steps' ≡ steps)
IsRefused End end before after limit steps steps' = (steps' ≡ steps + 1) × (steps < limit) × (8 * before.len < end)
IsRefused Device end before after limit steps steps' =
    (steps' ≡ steps + 1) × (steps < limit) × (end ≤ 8 * before.len) × HasRisen before.failures after.failures

-- the same, between two states of the meter
abbrev pub RefusesReading : (end : ℕ) → (before after : SpaceView) → (meter meter' : Meter) → BitFault → Type 0
RefusesReading end before after meter meter' fault =
    IsRefused fault end before after meter.limit meter.steps meter'.steps

-- a fact about each refusal that isn't a device's
abbrev pub UnlessDevice : BitFault → Type 0 → Type 0
UnlessDevice Limit P = P
UnlessDevice End P = P
UnlessDevice Device P = Unit {0}
