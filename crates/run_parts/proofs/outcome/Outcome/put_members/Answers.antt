use Rattle.std.proofs.Common.{◌≡◌, ◌∙◌}
use Rattle.run_parts.specs.Outcomes.{outcome_members}
use Rattle.run_parts.specs.Reports.{report_members}
use Rattle.run_parts.proofs.Sayings.{members_made}
use Rattle.run_parts.proofs.outcome.Outcome.put_members.Goals as goal

pub returns-in_default : goal.returns-in_default
returns-in_default g c =
    let status = c.status.ensures in
    let name = c.as_bytes.ensures.value ∙ c.name.ensures in
    let place = c.place.ensures in
    let made : outcome_members c.args.self ≡ report_members c.status.result c.as_bytes.result.now c.place.result =
    rw (status, name, place) (members_made c.args.self c.in_default.not-Done) in
    rw made (record { ok = c.put_report_members.ensures.ok; err = c.put_report_members.ensures.err })
