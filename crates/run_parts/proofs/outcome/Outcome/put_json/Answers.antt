use Rattle.std.proofs.Common.{◌≡◌, ◌∙◌}
use Rattle.run_parts.specs.Outcomes.{outcome_json}
use Rattle.run_parts.specs.Reports.{report_json}
use Rattle.run_parts.proofs.Sayings.{object_made}
use Rattle.run_parts.proofs.outcome.Outcome.put_json.Goals as goal

pub returns-in_default : goal.returns-in_default
returns-in_default g c =
    let status = c.status.ensures in
    let name = c.as_bytes.ensures.value ∙ c.name.ensures in
    let place = c.place.ensures in
    let made : outcome_json c.args.self ≡ report_json c.status.result c.as_bytes.result.now c.place.result =
    rw (status, name, place) (object_made c.args.self c.in_default.not-Done) in
    rw made (record { ok = c.put_report_json.ensures.ok; err = c.put_report_json.ensures.err })
