-- What is known of the formats that are found one after another.
use Rattle.std.proofs.Common.{◌≡◌, ℕ, ◌++◌, Bool, true, false, List, Some, map, ◌∙◌}
use Rattle.bit_space.specs.Bits.{bits_of}
use Rattle.bit_space.specs.SpaceView.{SpaceView, Keeps}
use Rattle.identification.specs.Fits.{IsIdentified}
use Rattle.identification.specs.declared.fit.Fit.{Fit}
use Rattle.identification.specs.declared.fit.Ranked.{Ranked}
use Rattle.identification.specs.declared.format.Formats.{Formats}
use Rattle.identification.specs.declared.without_signature.OtherFits.{OtherFits}
use Rattle.identification.proofs.Bare.{breaks_later}
use Rattle.identification.proofs.Tries.{stops_later}
use Rattle.run_parts.specs.declared.outcome.Outcome.{Outcome}
use Rattle.identity_text.specs.Identities.{AddsOthers, AreFound, IsStopped, attempt_stops, other_stops, lacks_memory, fit_of}

-- a stop after other attempts
pub stopped_later : (formats : Formats) (first before after : SpaceView) → Keeps first before → Keeps before after →
    (ended : Outcome) → IsStopped formats before after ended → IsStopped formats first after ended
stopped_later formats first before after keeps later ended (attempt_stops {stop} h) =
    attempt_stops (stops_later formats.list.items first before after stop keeps later h)
stopped_later formats first before after keeps later ended (other_stops {stop} h) =
    other_stops (breaks_later first before after stop keeps later h)
stopped_later formats first before after keeps later ended lacks_memory = lacks_memory

-- what is added later is added to the same file
pub added_later : (formats : Formats) (first before : SpaceView) → Keeps first before → (all : Bool) (start : ℕ)
    (others : OtherFits) → AddsOthers all formats start before others → AddsOthers all formats start first others
added_later formats first before keeps false start others h = h
added_later formats first before keeps true start others h = λ bytes known. h bytes (keeps.bytes ∙ known)

pub all_found : (formats : Formats) (all : Bool) (start : ℕ) (space : SpaceView) (ranked : List Ranked)
    (others : OtherFits) (fits : List Fit) (unfinished : List ℕ) →
    ((bytes : List ℕ) → space.bytes ≡ Some bytes → IsIdentified formats start (bits_of bytes) ranked) →
    AddsOthers all formats start space others → fits ≡ map fit_of ranked ++ others.fits.items →
    unfinished ≡ others.unfinished.items → AreFound formats all start space fits unfinished
all_found formats all start space ranked others fits unfinished are adds same places = record {
  ranked = ranked;
  are = are;
  others = others;
  adds = adds;
  fits_are = same;
  unfinished_are = places;
}
