use Rattle.command_line.proofs.PatternTexts.{one_path}
use Rattle.command_line.proofs.path.has_one_path.Goals as goal

pub returns : goal.returns
returns c = record { law = one_path }
