-- Starts that one byte rules out: whatever number has this byte, the constraint over it fails.
use Rattle.std.specs.Prelude.{◌≡◌, ◌+◌, ◌-◌, ◌*◌, ◌/◌, ◌%◌, ◌^◌, ◌<◌, ◌≤◌, ℕ, List, Option, Some, None, IfSome, Ok, true, false, pos, slice_index_or}
use Rattle.bit_space.specs.SpaceView.{IsWhole, SpaceView}
use Rattle.bit_space.specs.declared.order.Order.{Order}
use Rattle.bit_space.specs.declared.order.Order.TheVariants.{Big, Little}
use Rattle.pickle_meaning.specs.Arithmetic.{signed_type}
use Rattle.pickle_meaning.specs.Evaluation.{evaluation}
use Rattle.pickle_types.specs.Types.{PokeType, Term}
use Rattle.value_store.specs.declared.scalar.Scalar.TheVariants as scalar
use Rattle.first_numbers.specs.declared.judge.Judged.{Judged}
use Rattle.first_numbers.specs.declared.layouts.Layout.{Layout as HeldLayout}
use Rattle.first_numbers.specs.declared.layouts.Layout.TheVariants as held
use Rattle.first_numbers.specs.declared.number.First.{First as HeldFirst}
use Rattle.first_numbers.specs.declared.number.Numeral.{Numeral}
use Rattle.first_numbers.specs.declared.screen.Screen.{Screen}
use Rattle.first_numbers.specs.declared.sieve.Clear.{Clear}
use Rattle.first_numbers.specs.declared.sieve.Miss.{Miss}
use Rattle.first_numbers.specs.declared.sieve.Sieve.{Sieve}
use Rattle.first_numbers.specs.declared.sieve.Stretch.{Stretch}
use Rattle.first_numbers.specs.Held.{HoldsLayout, HoldsTests, IsSoundLayout}
use Rattle.first_numbers.specs.Judged.{IsJudged}
use Rattle.first_numbers.specs.Layouts.{FirstNumber, layout}
use Rattle.first_numbers.specs.Reads.{FailsSo, IsMissed}
use Rattle.first_numbers.specs.Runs.{number_value, own_frames}

-- a byte of a number, of which byte 0 is the least significant
abbrev pub byte_at : (n index : ℕ) → ℕ
byte_at n index = n / 2 ^ (8 * index) % 256

-- where a byte of a number is, in bytes from the number's start
abbrev pub place_of : Order → (count index : ℕ) → ℕ
place_of Big count index = count - 1 - index
place_of Little count index = index

-- an unsigned integer of a width
abbrev pub plain : (width : ℕ) → Numeral
plain width = record { number = record { width = width; signed = false }; unit = None }

-- 0 was computed, in so many steps
abbrev pub zero_in : (steps : ℕ) → Judged
zero_in steps = record { value = Ok (scalar.Integer (pos 0) (signed_type 32)); steps = steps }

-- an expression over an unsigned number of a width is 0, in so many steps, at this number
abbrev pub IsZeroAt : Term → (width own n steps : ℕ) → Type 0
IsZeroAt e width own n steps =
    IsJudged (zero_in steps) (evaluation e (own_frames own (number_value (plain width) n 0)))

-- the same where a byte of the number is this one
abbrev pub IsZeroWith : Term → (width own index byte steps : ℕ) → Type 0
IsZeroWith e width own index byte steps =
    (n : ℕ) → n < 2 ^ width → byte_at n index ≡ byte → IsZeroAt e width own n steps

-- a first number fails in so many steps where a byte of it is this one
abbrev pub FailsWith : FirstNumber → (index byte steps : ℕ) → Type 0
FailsWith x index byte steps =
    (n : ℕ) → n < 2 ^ x.numeral.number.width → byte_at n index ≡ byte → FailsSo x n steps

-- where its bytes are known, a space has this byte at this place
abbrev pub HasByte : SpaceView → (place byte : ℕ) → Type 0
HasByte space place byte = (bytes : List ℕ) → space.bytes ≡ Some bytes → slice_index_or bytes place byte ≡ byte

-- each start at which the byte that is looked at is one of those that rule it out is missed
pub record IsScreen (held : HeldFirst) (order : Order) (screen : Screen) : Type 0 where
  pub inside : screen.place < screen.need
  pub misses : (byte : ℕ) → byte < 256 → slice_index_or screen.fails byte false ≡ true → (space : SpaceView) (at : ℕ) →
      IsWhole space → at + screen.need ≤ space.len → HasByte space (at + screen.place) byte →
      IsMissed held space order (8 * at) screen.steps screen.steps

-- each byte from one on and before another is a start that is missed
abbrev pub AreMissed : HeldFirst → SpaceView → Order → (from to steps : ℕ) → Type 0
AreMissed held space order from to steps =
    (at : ℕ) → from ≤ at → at < to → IsMissed held space order (8 * at) steps steps

-- a screen is one of the first numbers of a layout
abbrev pub ScreensIn : HeldLayout → Option Screen → Order → Type 0
ScreensIn (held.Tests first) screen order = IfSome screen (IsScreen first order)
ScreensIn l screen order = Unit {0}

-- no start is known
abbrev pub unread : Clear
unread = record { from = 0; to = 0; steps = 0; is_open = false }

-- the same of the first numbers of a layout, beside a screen of them
abbrev pub PassesOver : HeldLayout → Option Screen → SpaceView → Order → Clear → Type 0
PassesOver (held.Tests first) screen space order clear =
    IfSome screen (IsScreen first order) × AreMissed first space order clear.from clear.to clear.steps
PassesOver l screen space order clear = Unit {0}

-- a start is at one of the bytes that are surely missed
pub record IsClear (clear : Clear) (start : ℕ) : Type 0 where
  pub at : ℕ
  pub is_at : start ≡ 8 * at
  pub from : clear.from ≤ at
  pub to : at < clear.to

-- the first numbers of a layout fail at a start, in so many steps
abbrev pub IsCovered : HeldLayout → SpaceView → Order → (start steps : ℕ) → Type 0
IsCovered (held.Tests first) space order start steps = IsMissed first space order start steps steps
IsCovered l space order start steps = Unit {0}

-- the first numbers of a layout fail at a start, with this fault
abbrev pub MissesIn : HeldLayout → SpaceView → Order → (start allowed : ℕ) → Miss → Type 0
MissesIn (held.Tests first) space order start allowed miss =
    (miss.distance ≡ first.fault) × IsMissed first space order start allowed miss.steps
MissesIn l space order start allowed miss = ⊥

-- what is known of the starts of a type in a space
pub record IsSieve (type : PokeType) (space : SpaceView) (order : Order) (sieve : Sieve) : Type 0 where
  pub sound : IsSoundLayout sieve.layout
  pub holds : HoldsLayout sieve.layout (layout type)
  pub is_order : sieve.order ≡ order
  pub second : ScreensIn sieve.layout sieve.second order
  pub passes : PassesOver sieve.layout sieve.screen space order sieve.clear

-- the type has a Constraint fault at a start, so many bits from it, after so many steps
pub record IsMiss (type : PokeType) (space : SpaceView) (order : Order) (start allowed : ℕ) (miss : Miss) : Type 0 where
  pub held : HeldFirst
  pub holds : HoldsTests held (layout type)
  pub distance : miss.distance ≡ held.fault
  pub missed : IsMissed held space order start allowed miss.steps

-- the type has the same fault at each start of a stretch, of which the first is here, and each a step after the one
-- before
abbrev pub AreMisses : PokeType → SpaceView → Order → (start step allowed : ℕ) → Stretch → Type 0
AreMisses type space order start step allowed stretch =
    (k : ℕ) → k < stretch.count → IsMiss type space order (start + k * step) allowed stretch.miss
