-- The texts of times.
use Rattle.std.specs.Prelude.{◌≡◌, ℕ, ◌/◌, ℤ, pos, ◌*ℤ◌, ◌-ℤ◌, ◌≤ℤ◌, ◌<ℤ◌, List, [], ◌++◌, codes, unsigned_abs}
use Rattle.std.specs.Fmt.{signed_decimal}
use Rattle.jiff_core.specs.declared.civil.datetime.DateTime.{DateTime}
use Rattle.jiff_core.specs.DateTime.{civil_nanos, IsCivilNanos}
use Rattle.named_text.specs.declared.time.Scale.{Scale}
use Rattle.named_text.specs.declared.time.Scale.TheVariants.{Seconds, Milliseconds, Microseconds, FileTime}
use Rattle.named_text.specs.Digits.{padded}

-- nanoseconds since 1970 began; 1601 began 11,644,473,600 seconds before that
abbrev pub nanoseconds : Scale → ℤ → ℤ
nanoseconds Seconds n = n *ℤ pos 1_000_000_000
nanoseconds Milliseconds n = n *ℤ pos 1_000_000
nanoseconds Microseconds n = n *ℤ pos 1_000
nanoseconds FileTime n = n *ℤ pos 100 -ℤ pos 11_644_473_600_000_000_000

-- the fraction of a second, in the digits that the scale has
abbrev pub fraction : Scale → ℕ → List ℕ
fraction Seconds nanosecond = []
fraction Milliseconds nanosecond = codes "." ++ padded 3 (nanosecond / 1_000_000)
fraction Microseconds nanosecond = codes "." ++ padded 6 (nanosecond / 1_000)
fraction FileTime nanosecond = codes "." ++ padded 7 (nanosecond / 100)

-- a date and a time of day, in UTC
abbrev pub clock_text : Scale → DateTime → List ℕ
clock_text scale t =
    padded 4 (unsigned_abs t.date.year) ++ codes "-" ++ padded 2 t.date.month ++ codes "-" ++ padded 2 t.date.day
    ++ codes "T" ++ padded 2 t.time.hour ++ codes ":" ++ padded 2 t.time.minute ++ codes ":"
    ++ padded 2 t.time.second ++ fraction scale t.time.subsec_nanosecond ++ codes "Z"

-- The text of a number as a time: a date and a time of day, or the number itself where the calendar's year is negative
-- or beyond 9999. The calendar is proleptic Gregorian, and `civil_nanos` counts its days and their nanoseconds.
pub data IsTimeText (scale : Scale) (n : ℤ) (text : List ℕ) : Type 0 where
  InYears : (t : DateTime) → civil_nanos t ≡ nanoseconds scale n → pos 0 ≤ℤ t.date.year →
      text ≡ clock_text scale t → IsTimeText scale n text
  BeforeYears : (t : DateTime) → civil_nanos t ≡ nanoseconds scale n → t.date.year <ℤ pos 0 →
      text ≡ signed_decimal n → IsTimeText scale n text
  Beyond : ¬ (IsCivilNanos (nanoseconds scale n)) → text ≡ signed_decimal n → IsTimeText scale n text
