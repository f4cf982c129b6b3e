use Rattle.text_bounds.proofs.ModeRooms.{any_mode_bounded}
use Rattle.text_bounds.proofs.laws.any_mode_is_bounded.Goals as goal

-- src/laws.rt
pub returns : goal.returns
returns c = record { law = any_mode_bounded }
