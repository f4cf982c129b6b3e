-- What a call leaves of a meter that it is passed.
use Rattle.std.specs.Prelude.{◌≡◌, ◌≤◌}
use Rattle.bit_space.specs.declared.meter.Meter.{Meter}

-- a call took steps, and made no value
pub record SpendsSteps (before after : Meter) : Type 0 where
  pub limit : after.limit ≡ before.limit
  pub made : after.made ≡ before.made
  pub steps : before.steps ≤ after.steps
