-- The text of a time, by its case.
use Rattle.std.proofs.Common.{◌≡◌, ℕ, List}
use Rattle.std.specs.Prelude.{ℤ, pos, ◌≤ℤ◌, ◌<ℤ◌}
use Rattle.std.specs.Fmt.{signed_decimal}
use Rattle.jiff_core.specs.declared.civil.datetime.DateTime.{DateTime}
use Rattle.jiff_core.specs.DateTime.{civil_nanos}
use Rattle.named_text.specs.declared.time.Scale.{Scale}
use Rattle.named_text.specs.Times.{nanoseconds, clock_text, IsTimeText, InYears, BeforeYears}

pub in_years : (scale : Scale) (n : ℤ) (text : List ℕ) (t : DateTime) → text ≡ clock_text scale t →
    civil_nanos t ≡ nanoseconds scale n → pos 0 ≤ℤ t.date.year → IsTimeText scale n text
in_years scale n text t shown is year = InYears t is year shown

pub before_years : (scale : Scale) (n : ℤ) (text : List ℕ) (t : DateTime) → text ≡ signed_decimal n →
    civil_nanos t ≡ nanoseconds scale n → t.date.year <ℤ pos 0 → IsTimeText scale n text
before_years scale n text t shown is year = BeforeYears t is year shown
