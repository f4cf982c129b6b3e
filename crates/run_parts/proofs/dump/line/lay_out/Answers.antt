use Rattle.run_parts.proofs.DumpLines.{line_is}
use Rattle.run_parts.proofs.dump.line.lay_out.Goals as goal

pub returns-clause-text : goal.returns-clause-text
returns-clause-text c =
    line_is _ _ _ _ _ _ _ c.args.place c.args.bytes.now
    c.push_place-at.ensures.text c.push-at.ensures.text c.push_columns-at.ensures.text c.push-at-2.ensures.text
    c.push-at-3.ensures.text c.push_shown-at.ensures.text c.push.ensures.text
