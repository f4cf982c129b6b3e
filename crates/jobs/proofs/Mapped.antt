-- What standard output holds of a mapping over a space.
use Rattle.std.proofs.Common.{◌≡◌, ◌≤◌, ℕ, Bool, true, List, Option, Ok, subst, arith}
use Rattle.std.proofs.KnownBytes.{Keeps-trans}
use Rattle.std.specs.Io.KnownBytes.{Keeps}
use Rattle.bit_space.specs.SpaceView.{HasRisen, SpaceView}
use Rattle.command_line.specs.declared.ask.Ask.{Ask}
use Rattle.command_line.specs.declared.terms.Terms.{Terms}
use Rattle.jobs.specs.Aims.{Aim, IsAskAt}
use Rattle.jobs.specs.Due.{DueRun, Holds}
use Rattle.jobs.specs.Given.{AddsMet, adds_met, adds_none, cuts_met}
use Rattle.jobs.specs.Spaces.{DueSpace, met_due, run_due}
use Rattle.jobs.specs.declared.ending.Ending.TheVariants.{Run}
use Rattle.jobs.proofs.Holding.{holds_more, keeps_before, keeps_before_part, part_keeps, part_text, run_holds, whole_text}
use Rattle.poke_batch.specs.RunsUnder.{MapsRequested}
use Rattle.run_parts.specs.Outcomes.{EndsAs, cuts, outcome_saying, outcome_status, reports, writes}
use Rattle.run_parts.specs.Told.{Saying}
use Rattle.run_parts.specs.declared.outcome.Outcome.{Outcome}
use Rattle.run_parts.specs.declared.status.Status.{Status}
use Rattle.run_parts.specs.declared.status.Status.TheVariants.{Done, Fault, Refused, Outside}
use Rattle.text_output.proofs.Parts.{Appends-keeps}

-- what a run is given over a file, by the length that a call returned
pub asked_over : (aim : Aim) (start len len' : ℕ) (ask : Ask) → len ≡ len' → IsAskAt aim start len ask →
    IsAskAt aim start len' ask
asked_over aim start len len' ask same asked = subst (λ length. IsAskAt aim start length ask) same asked

-- a run, after which nothing more is written
pub ends_keep : (IsRight : Saying → Type 0) (ended : Outcome) (out mid out' : Option (List ℕ))
    → EndsAs IsRight ended out mid → Keeps mid out' → EndsAs IsRight ended out out'
ends_keep IsRight _ out mid out' (writes text right h) keeps =
    writes text right (Appends-keeps out mid out' text h keeps)
ends_keep IsRight _ out mid out' (cuts text right h) keeps = cuts text right (part_keeps out mid out' text h keeps)
ends_keep IsRight ended out mid out' (reports right keeps) more = reports right (Keeps-trans out mid out' keeps more)

-- it doesn't end with a fault if it wrote its text
abbrev pub unless_fault : Status → Type 0
unless_fault Fault = ⊥
unless_fault Done = Unit {0}
unless_fault Refused = Unit {0}
unless_fault Outside = Unit {0}

-- a run that ended with a fault wrote nothing
pub fault_reported : (IsRight : Saying → Type 0) (ended : Outcome) (out mid : Option (List ℕ)) (A : Type 0)
    → EndsAs IsRight ended out mid → outcome_status ended ≡ Fault
    → (IsRight (outcome_saying ended) → Keeps out mid → A) → A
fault_reported IsRight _ out mid A (writes text right h) fault more = absurd (subst unless_fault fault tt)
fault_reported IsRight _ out mid A (cuts text right h) fault more = absurd (subst unless_fault fault tt)
fault_reported IsRight ended out mid A (reports right keeps) fault more = more right keeps

-- a run alone
pub space_holds : (pickle : List ℕ) (ask : Ask) (terms : Terms) (file after : SpaceView) (why : Bool) (ended : Outcome)
    (out out' : Option (List ℕ)) → EndsAs (MapsRequested pickle ask terms file after) ended out out'
    → Holds (DueSpace pickle ask terms file after why) out out' (Ok (Run ended))
space_holds pickle ask terms file after why ended out out' ends =
    holds_more (DueRun (MapsRequested pickle ask terms file after)) (DueSpace pickle ask terms file after why)
    (Ok (Run ended)) out out' (λ lines end due. run_due due)
    (run_holds (MapsRequested pickle ask terms file after) ended out out' ends)

-- a run, and what a value that is shown to the eye had before its fault
pub met_holds : (pickle : List ℕ) (ask : Ask) (terms : Terms) (file after : SpaceView) (why : Bool)
    (ended ended' : Outcome) (out mid out' : Option (List ℕ)) → why ≡ true
    → EndsAs (MapsRequested pickle ask terms file after) ended out mid → AddsMet terms ended mid out' ended'
    → Holds (DueSpace pickle ask terms file after why) out out' (Ok (Run ended'))
met_holds pickle ask terms file after why ended _ out mid out' asked ends (adds_none keeps) =
    space_holds pickle ask terms file after why ended out out'
    (ends_keep (MapsRequested pickle ask terms file after) ended out mid out' ends keeps)
met_holds pickle ask terms file after why ended _ out mid out' asked ends (adds_met met may h) =
    fault_reported (MapsRequested pickle ask terms file after) ended out mid _ ends may.faulty
    (λ right keeps. whole_text (DueSpace pickle ask terms file after why) met (Ok (Run ended)) out out'
    (met_due met right asked may) (keeps_before out mid out' met keeps h))
met_holds pickle ask terms file after why ended _ out mid out' asked ends (cuts_met met may h) =
    fault_reported (MapsRequested pickle ask terms file after) ended out mid _ ends may.faulty
    (λ right keeps. part_text (DueSpace pickle ask terms file after why) met (Ok (Run ended)) out out'
    (met_due met right asked may) (keeps_before_part out mid out' met keeps h))

-- a count of failures that rose once is above what it was
pub risen_more : (a b c : ℕ) → HasRisen a b → b ≤ c → HasRisen a c
risen_more a b c risen le few = omega (arith, risen few, le)
