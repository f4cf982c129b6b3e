-- The bounds on printed values.
use Rattle.std.proofs.Common.{ℕ, ◌*◌, ◌≤◌, List, Option, None, length, Ok, refl, ap, subst, inl, inr, arith, length-append}
use Rattle.bit_space.specs.SpaceView.{SpaceView}
use Rattle.mapping_plans.proofs.OnBits.{outcomes_fit}
use Rattle.run_parts.specs.declared.outcome.Outcome.TheVariants.{Refused}
use Rattle.command_line.specs.declared.ask.Ask.{Ask}
use Rattle.run_parts.specs.declared.status.Status.{Status}
use Rattle.text_output.specs.Styles.{plain}
use Rattle.text_bounds.specs.OutputRoom.{GrowsWithin, OutputIsBounded}
use Rattle.value_text.specs.Printed.{printed}
use Rattle.poke_batch.specs.Runs.{MapsAs, value, stops, device, unknown, refused_map, no_memory}
use Rattle.text_bounds.specs.TextLaws.{TextsAreBounded, MeantTextsAreBounded, OutputsAreBounded}
use Rattle.run_parts.specs.Told.{Saying, IsSaid, IsWritten}
use Rattle.run_parts.proofs.Sayings.{outcome_lines}
use Rattle.text_bounds.proofs.BoundedParts.{part_text_bounded}

pub text_bounded : TextsAreBounded
text_bounded mode m ty levels s v h = part_text_bounded mode m ty levels s v None v h refl

pub meant_text_bounded : MeantTextsAreBounded
meant_text_bounded mode bytes ty order levels s v k j means =
    text_bounded mode (length (Rattle.bit_space.specs.Bits.bits_of bytes)) ty levels s v
    (outcomes_fit bytes ty order levels s (Ok v) k j means)

pub written_within : (text : List ℕ) (status : Status) (out out' err err' : Option (List ℕ)) (most : ℕ) →
    length text ≤ most → IsWritten text status out out' err err' → GrowsWithin out out' most
written_within text status out out' err err' most le (inl h) = record { taken = text; appends = h.1; few = le }
written_within text status out out' err err' most le (inr h) =
    let part = h.1 in
    record {
      taken = part.taken;
      appends = part.appends;
      few = omega (arith, le, ap length part.whole, length-append part.taken part.rest);
    }

saying_bounded : (pickle : List ℕ) (ask : Ask) (before after : SpaceView) (saying : Saying) (status : Status)
    (out out' err err' : Option (List ℕ))
    → MapsAs pickle ask before after saying → IsSaid saying status out out' err err'
    → OutputIsBounded pickle ask plain before.len out out'
saying_bounded pickle ask before after saying status out out' err err'
    (value {type = type} {mapped = mapped} asked means fits) h =
    inr (
      type,
      asked,
      written_within (printed ask.mode mapped) status out out' err err' _
          (text_bounded ask.mode (8 * before.len) type _ ask.start mapped fits) h,
    )
saying_bounded pickle ask before after saying status out out' err err' (stops asked a b c d e) h = inl h.0
saying_bounded pickle ask before after saying status out out' err err' (device asked a) h = inl h.0
saying_bounded pickle ask before after saying status out out' err err' (unknown a b) h = inl h.0
saying_bounded pickle ask before after saying status out out' err err' (refused_map {refusal = why} a) h =
    inl (subst (λ s. IsSaid s status out out' err err') (outcome_lines (Refused why)) h).0
saying_bounded pickle ask before after saying status out out' err err' no_memory h = inl h.0

pub output_bounded : OutputsAreBounded
output_bounded pickle ask before after status out out' err err' h =
    saying_bounded pickle ask before after h.saying status out out' err err' h.right h.said
