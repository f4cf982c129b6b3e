use Rattle.std.proofs.Common.{◌∙◌, ◌++◌, ap}
use Rattle.jobs.specs.Explained.{is_reason, is_untold, opening_text}
use Rattle.jobs.proofs.Told.{lacking_lines, text_lines}
use Rattle.jobs.proofs.file_run.opening_line.Goals as goal

pub returns-in-Ok : goal.returns-in-Ok
returns-in-Ok c =
    is_reason c.args.reason.now (text_lines c.made.result (opening_text c.args.reason.now)
    (ap (λ text. text.items) c.made.ensures.0 ∙ c.in-Ok.ensures
    ∙ ap (λ old. old ++ opening_text c.args.reason.now) c.new-line.ensures.items) c.made.ensures.1)

pub returns-in-Err : goal.returns-in-Err
returns-in-Err c = is_untold (lacking_lines c.made-in-Err.result c.made-in-Err.ensures.lack)
