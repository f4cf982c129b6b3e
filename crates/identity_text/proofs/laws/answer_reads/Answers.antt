use Rattle.identity_text.proofs.AnswerLaws.{answer_is}
use Rattle.identity_text.proofs.laws.answer_reads.Goals as goal

pub returns : goal.returns
returns c = record { law = answer_is }
