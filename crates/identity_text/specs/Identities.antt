-- Which formats a file has, and what is written of them.
use Rattle.std.specs.Prelude.{◌≡◌, ℕ, Bool, true, false, List, [], ◌∷◌, ◌++◌, Some, map}
use Rattle.bit_space.specs.Bits.{bits_of}
use Rattle.bit_space.specs.SpaceView.{SpaceView}
use Rattle.command_line.specs.declared.answer_form.AnswerForm.{AnswerForm}
use Rattle.pickle_meaning.specs.declared.faults.MapFault.{MapFault}
use Rattle.identification.specs.Fits.{IsIdentified, StopsTrying}
use Rattle.identification.specs.Others.{AreOthers, BreaksOff}
use Rattle.identification.specs.declared.fit.Fit.{Fit}
use Rattle.identification.specs.declared.fit.Ranked.{Ranked}
use Rattle.identification.specs.declared.format.Format.{Format}
use Rattle.identification.specs.declared.format.Formats.{Formats}
use Rattle.identification.specs.declared.without_signature.OtherFits.{OtherFits}
use Rattle.run_parts.specs.declared.outcome.Failure.TheVariants.{Memory}
use Rattle.run_parts.specs.declared.outcome.Outcome.{Outcome}
use Rattle.run_parts.specs.declared.outcome.Outcome.TheVariants.{Done, Fault, Unidentified, Failed}
use Rattle.identity_text.specs.Columns.{shown}
use Rattle.identity_text.specs.Texts.{answer}

abbrev pub fit_of : Ranked → Fit
fit_of ranked = ranked.fit

-- if all are requested, those without a signature that map the file, and those whose attempts took too long
abbrev pub AddsOthers : (all : Bool) → Formats → (start : ℕ) → SpaceView → OtherFits → Type 0
AddsOthers false formats start space others = (others.fits.items ≡ []) × (others.unfinished.items ≡ [])
AddsOthers true formats start space others =
    (bytes : List ℕ) → space.bytes ≡ Some bytes → AreOthers formats.list.items start (bits_of bytes) others

-- the formats of a file: where its bytes are known, exactly those that fit, in their order, and then those
pub record AreFound (formats : Formats) (all : Bool) (start : ℕ) (space : SpaceView) (fits : List Fit)
    (unfinished : List ℕ) : Type 0 where
  pub ranked : List Ranked
  pub are : (bytes : List ℕ) → space.bytes ≡ Some bytes → IsIdentified formats start (bits_of bytes) ranked
  pub others : OtherFits
  pub adds : AddsOthers all formats start space others
  pub fits_are : fits ≡ map fit_of ranked ++ others.fits.items
  pub unfinished_are : unfinished ≡ others.unfinished.items

-- how a run ends that doesn't find them: an attempt was stopped, or memory lacks
pub data IsStopped (formats : Formats) (before after : SpaceView) : Outcome → Type 0 where
  attempt_stops : {stop : MapFault} → StopsTrying formats.list.items before after stop →
      IsStopped formats before after (Fault stop)
  other_stops : {stop : MapFault} → BreaksOff before after stop → IsStopped formats before after (Fault stop)
  lacks_memory : IsStopped formats before after (Failed Memory)

-- what is written of the formats that fit: their line, or nothing if there is none or memory lacks
pub data IsAnswer (formats : List Format) (all : Bool) (form : AnswerForm) :
    List Fit → Outcome → (text : List ℕ) → Type 0 where
  is_line : {fit : Fit} {fits : List Fit} →
      IsAnswer formats all form (fit ∷ fits) Done (answer all form (map (shown formats) (fit ∷ fits)))
  has_none : IsAnswer formats all form [] Unidentified []
  is_cut : {fits : List Fit} → IsAnswer formats all form fits (Failed Memory) []

-- A run over a file ends with the line of its formats, with `Unidentified` if it has none, or with what stopped it. The
-- places of those whose attempts took too long are told too.
pub data IdentifiesFile (formats : Formats) (all : Bool) (form : AnswerForm) (start : ℕ) (before after : SpaceView) :
    Outcome → (text : List ℕ) → (unfinished : List ℕ) → Type 0 where
  answers : {ended : Outcome} {text unfinished : List ℕ} (fits : List Fit) →
      AreFound formats all start before fits unfinished → IsAnswer formats.list.items all form fits ended text →
      IdentifiesFile formats all form start before after ended text unfinished
  stops : {ended : Outcome} → IsStopped formats before after ended →
      IdentifiesFile formats all form start before after ended [] []
