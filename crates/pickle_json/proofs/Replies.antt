-- Laws of the answers of a check.
use Rattle.std.proofs.Common.{◌≡◌, ℕ, Bool, true, false, Option, List, [], codes}
use Rattle.std.specs.Io.KnownBytes.{Appends}
use Rattle.text_output.specs.Written.{AppendsPart}
use Rattle.pickle_source.specs.declared.note.Note.{Note}
use Rattle.pickle_types.specs.declared.table.Table.{Table}
use Rattle.run_parts.specs.Accepted.{IsTableOf, Refuses}
use Rattle.run_parts.specs.Outcomes.{outcome_status}
use Rattle.run_parts.specs.declared.accept.Refusal.{Refusal}
use Rattle.run_parts.specs.declared.outcome.Outcome.TheVariants as outcome
use Rattle.run_parts.specs.declared.status.Status.TheVariants.{Done}
use Rattle.pickle_json.specs.Checks.{Answers, AnswersPart, ChecksInJson, IsAsked, accepted, refused, unnoted, unexplained, accepted_json, refused_json, untold_json}

module _ (pickle : List ℕ) (explains : Bool) (notes : List Note) (table : Table) (old new : Option (List ℕ))
    (tabled : IsTableOf pickle table) (asked : explains ≡ false → notes ≡ []) where
  accepted_right : ChecksInJson pickle explains Done (accepted_json pickle notes)
  accepted_right = accepted notes tabled.1 asked

  pub accepted_whole : Appends old new (accepted_json pickle notes) → Answers pickle explains Done old new
  accepted_whole h = record { text = accepted_json pickle notes; right = accepted_right; written = h }

  pub accepted_part : AppendsPart old new (accepted_json pickle notes) → AnswersPart pickle explains old new
  accepted_part h = record { status = Done; text = accepted_json pickle notes; right = accepted_right; written = h }

module _ (pickle : List ℕ) (explains : Bool) (note : Option Note) (refusal : Refusal) (old new : Option (List ℕ))
    (refuses : Refuses pickle refusal) (asked : IsAsked explains refusal note) where
  refused_right : ChecksInJson pickle explains (outcome_status (outcome.Refused refusal))
      (refused_json pickle refusal note)
  refused_right = refused note refuses asked

  pub refused_whole : Appends old new (refused_json pickle refusal note) →
      Answers pickle explains (outcome_status (outcome.Refused refusal)) old new
  refused_whole h = record { text = refused_json pickle refusal note; right = refused_right; written = h }

  pub refused_part : AppendsPart old new (refused_json pickle refusal note) → AnswersPart pickle explains old new
  refused_part h = record {
    status = outcome_status (outcome.Refused refusal);
    text = refused_json pickle refusal note;
    right = refused_right;
    written = h;
  }

-- where notes were requested that couldn't be made
module _ (pickle : List ℕ) (explains : Bool) (table : Table) (old new : Option (List ℕ))
    (tabled : IsTableOf pickle table) (asked : explains ≡ true) where
  abbrev unnoted_json : List ℕ
  unnoted_json = codes "{\"accepted\":true,\"warnings\":null}\n"

  pub unnoted_whole : Appends old new (codes "{\"accepted\":true,\"warnings\":null}\n") →
      Answers pickle explains Done old new
  unnoted_whole h = record { text = unnoted_json; right = unnoted tabled.1 asked; written = h }

  pub unnoted_part : AppendsPart old new (codes "{\"accepted\":true,\"warnings\":null}\n") →
      AnswersPart pickle explains old new
  unnoted_part h = record { status = Done; text = unnoted_json; right = unnoted tabled.1 asked; written = h }

module _ (pickle : List ℕ) (explains : Bool) (refusal : Refusal) (old new : Option (List ℕ))
    (refuses : Refuses pickle refusal) (asked : explains ≡ true) where
  pub unexplained_whole : Appends old new (untold_json refusal) →
      Answers pickle explains (outcome_status (outcome.Refused refusal)) old new
  unexplained_whole h = record { text = untold_json refusal; right = unexplained refuses asked; written = h }

  pub unexplained_part : AppendsPart old new (untold_json refusal) → AnswersPart pickle explains old new
  unexplained_part h = record {
    status = outcome_status (outcome.Refused refusal);
    text = untold_json refusal;
    right = unexplained refuses asked;
    written = h;
  }
