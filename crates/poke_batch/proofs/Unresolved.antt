-- Runs over a pickle that has no type of the requested name.
use Rattle.std.proofs.Common.{◌≡◌, ℕ, true, false, List, Option}
use Rattle.bit_space.specs.SpaceView.{SpaceView}
use Rattle.command_line.specs.declared.ask.Ask.{Ask}
use Rattle.command_line.specs.declared.terms.Terms.{Terms}
use Rattle.poke_batch.proofs.UnderTerms.{without_terms}
use Rattle.poke_batch.specs.Runs.{BoundsAs, HasNoType, MapsAs, no_memory, no_such_type, no_type, refused_bounds, refused_map, refused_pickle, unknown}
use Rattle.poke_batch.specs.RunsUnder.{HasNoRun, MapsRequested, is_run, lacks_part, lacks_type, no_part, not_run, undecided}
use Rattle.run_parts.proofs.Sayings.{line_ends}
use Rattle.command_line.specs.Found.{no_terms}
use Rattle.run_parts.specs.Outcomes.{EndsAs, outcome_saying}
use Rattle.run_parts.specs.Told.{Saying}
use Rattle.run_parts.specs.declared.outcome.Outcome.{Outcome}
use Rattle.run_parts.specs.declared.outcome.Outcome.TheVariants.{Refused, NoSuchType}

-- a run that ends so writes its line alone
pub ends_unresolved : (pickle : List ℕ) (ask : Ask) (terms : Terms) (before after : SpaceView) (out : Option (List ℕ))
    (ended : Outcome) → HasNoRun pickle ask.name.now terms ended
    → EndsAs (MapsRequested pickle ask terms before after) ended out out
ends_unresolved pickle ask terms before after out ended none =
    line_ends (MapsRequested pickle ask terms before after) ended out (not_run none)

-- without terms no part is requested, so a run that is right for such terms is a right mapping
not_mapped : {pickle : List ℕ} {ask : Ask} {before after : SpaceView} (ended : Outcome)
    → HasNoRun pickle ask.name.now no_terms ended → MapsAs pickle ask before after (outcome_saying ended)
not_mapped _ (lacks_type (refused_pickle refuses)) = refused_map refuses
not_mapped _ (lacks_type (no_type accepted none)) = unknown accepted none
not_mapped _ (lacks_part asked (no_part e)) = absurd (no_false e)
  where
    no_false : true ≡ false → ⊥
    no_false e = cc
not_mapped _ (lacks_part asked undecided) = no_memory

pub requested_plain : (pickle : List ℕ) (ask : Ask) (before after : SpaceView) (saying : Saying)
    → MapsRequested pickle ask no_terms before after saying → MapsAs pickle ask before after saying
requested_plain pickle ask before after _ (not_run {ended = ended} none) = not_mapped ended none
requested_plain pickle ask before after saying (is_run asked can under) =
    without_terms pickle ask before after saying under

pub bounds_unresolved : (pickle name : List ℕ) (bits : ℕ) (out : Option (List ℕ)) (ended : Outcome)
    → HasNoType pickle name ended → EndsAs (BoundsAs pickle name bits) ended out out
bounds_unresolved pickle name bits out _ (refused_pickle {refusal = why} refuses) =
    line_ends (BoundsAs pickle name bits) (Refused why) out (refused_bounds refuses)
bounds_unresolved pickle name bits out _ (no_type accepted none) =
    line_ends (BoundsAs pickle name bits) NoSuchType out (no_such_type accepted none)
