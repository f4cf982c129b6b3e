-- Bounds for a pickle that has no type of the requested name.
use Rattle.std.proofs.Common.{ℕ, List, Option}
use Rattle.poke_batch.specs.Runs.{HasNoType, no_type, refused_pickle}
use Rattle.run_parts.proofs.Sayings.{line_ends}
use Rattle.run_parts.specs.Outcomes.{EndsAs}
use Rattle.run_parts.specs.declared.outcome.Outcome.{Outcome}
use Rattle.run_parts.specs.declared.outcome.Outcome.TheVariants.{Refused, NoSuchType}
use Rattle.text_bounds.specs.TextRuns.{TextBoundsAs, no_type_to_bound, refused_text_bounds}
use Rattle.text_bounds.specs.declared.texts.Texts.{Texts}

pub texts_unresolved : (pickle name : List ℕ) (texts : Texts) (out : Option (List ℕ)) (ended : Outcome) →
    HasNoType pickle name ended → EndsAs (TextBoundsAs pickle name texts.bits texts.style texts.mode) ended out out
texts_unresolved pickle name texts out _ (refused_pickle {refusal = why} refuses) =
    line_ends (TextBoundsAs pickle name texts.bits texts.style texts.mode) (Refused why) out
    (refused_text_bounds refuses)
texts_unresolved pickle name texts out _ (no_type accepted none) =
    line_ends (TextBoundsAs pickle name texts.bits texts.style texts.mode) NoSuchType out
    (no_type_to_bound accepted none)
