use Rattle.fault_report.proofs.Laid.{four_parts}
use Rattle.fault_report.proofs.lines.concatenate.Goals as goal

pub returns : goal.returns
returns c =
    four_parts c.args.head.now c.args.path.now c.args.link.now c.args.rest.now c.new.result.bytes.items
    c.in_ok-say.field-0.bytes.items c.in_ok-text.text.bytes.items
    c.in_ok-say-2.field-0.bytes.items c.in_ok-text-2.text.bytes.items c.new.ensures c.in_ok-say.ensures.added
    c.in_ok-text.ensures.added c.in_ok-say-2.ensures.added c.in_ok-text-2.ensures.added
