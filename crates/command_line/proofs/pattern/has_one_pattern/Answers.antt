use Rattle.command_line.proofs.PatternTexts.{one_pattern}
use Rattle.command_line.proofs.pattern.has_one_pattern.Goals as goal

pub returns : goal.returns
returns c = record { law = one_pattern }
