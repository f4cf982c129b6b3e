-- Starts that a screen rules out.
use Rattle.std.proofs.Common.{◌≡◌, ℕ, ◌+◌, ◌-◌, ◌*◌, ◌/◌, ◌%◌, ◌<◌, ◌≤◌, min, List, [], ◌∷◌, Option, Some, None, IfSome, true, false, length, get_or, drop, inl, inr, sym, ap, ◌∙◌, subst, arith}
use Rattle.std.proofs.Math.Nat.{add-mul, mul_left_comm}
use Rattle.std.proofs.lemmas.Bool.{cases_lt}
use Rattle.std.proofs.lemmas.Grind.{div_ceil_times}
use Rattle.std.proofs.lemmas.Nat.{mul-le}
use Rattle.std.proofs.lemmas.List.{get_or-drop, get_or-take, get_or_default}
use Rattle.std.specs.Option.{option_map}
use Rattle.bit_space.specs.Bits.{bits_of}
use Rattle.bit_space.specs.Reading.{MayRead}
use Rattle.bit_space.specs.SpaceView.{GivesRange, IsWhole, Keeps, SpaceView, known_bits}
use Rattle.bit_space.specs.declared.order.Order.{Order}
use Rattle.pickle_meaning.specs.Means.{ordered}
use Rattle.first_numbers.specs.declared.number.First.{First as HeldFirst}
use Rattle.first_numbers.specs.declared.number.FirstNumber.{FirstNumber as HeldNumber}
use Rattle.first_numbers.specs.declared.layouts.Layout.{Layout as HeldLayout}
use Rattle.first_numbers.specs.declared.layouts.Layout.TheVariants as held
use Rattle.first_numbers.specs.declared.screen.Screen.{Screen}
use Rattle.first_numbers.specs.declared.sieve.Clear.{Clear}
use Rattle.first_numbers.specs.declared.sieve.Miss.{Miss}
use Rattle.first_numbers.specs.declared.sieve.Sieve.{Sieve}
use Rattle.first_numbers.specs.declared.sieve.Stretch.{Stretch}
use Rattle.pickle_types.specs.Types.{PokeType}
use Rattle.first_numbers.specs.Held.{AreNear, HoldsLayout, IsSoundFirst, number_shown, numbers_shown}
use Rattle.first_numbers.specs.Layouts.{layout}
use Rattle.first_numbers.specs.Reads.{IsMissed}
use Rattle.first_numbers.specs.Runs.{AllFail, judged, none_fail, one_fails}
use Rattle.first_numbers.specs.Screens.{AreMissed, AreMisses, FailsWith, IsClear, IsCovered, IsMiss, IsScreen, IsSieve, MissesIn, PassesOver, ScreensIn, place_of, unread}
use Rattle.first_numbers.proofs.Bytes.{number_with, place_inside}

-- the screen of one number
pub is_screen : (held : HeldFirst) (x : HeldNumber) (order : Order) (index tests : ℕ) (screen : Screen) →
    IsSoundFirst held → held.numbers.items ≡ x ∷ [] → x.numeral.number.width % 8 ≡ 0 → x.place % 8 ≡ 0 →
    index < x.numeral.number.width / 8 → held.need ≤ 8 * screen.need → screen.steps ≡ held.base + tests →
    screen.place ≡ x.place / 8 + place_of (ordered x.order order) (x.numeral.number.width / 8) index →
    ((byte : ℕ) → byte < 256 → get_or screen.fails byte false ≡ true → FailsWith (number_shown x) index byte tests) →
    IsScreen held order screen
is_screen held x order index tests screen sound alone whole_width whole_place inside need steps place fails =
    let near = (subst (λ (xs : List HeldNumber). AreNear held.need (numbers_shown xs)) alone sound).0 in
    let ends = near.ends in
    let width = x.numeral.number.width in
    let within = place_inside (ordered x.order order) (width / 8) index inside in
    record {
      inside = omega (arith, place, within, ends, need, whole_width, whole_place);
      misses = λ byte small rules space at whole fits has.
          let there = number_with space.bytes (ordered x.order order) (at + x.place / 8) (width / 8) index byte inside
          small
          (λ bytes known.
          let size = whole bytes known in
          let same : at + screen.place ≡ at + x.place / 8 + place_of (ordered x.order order) (width / 8) index =
          omega (arith, place) in (
            omega (arith, size, fits, ends, need, whole_width, whole_place),
            subst (λ k. get_or bytes k byte ≡ byte) same (has bytes known),
          )) in
          let n = there.value in
          let at_bit : 8 * (at + x.place / 8) ≡ 8 * at + x.place = omega (arith, whole_place) in
          let of_width : 8 * (width / 8) ≡ width = omega (arith, whole_width) in
          let may : MayRead (known_bits space) (ordered x.order order) (8 * at + x.place) width n =
          subst (λ w. MayRead (known_bits space) (ordered x.order order) (8 * at + x.place) w n) of_width
          (subst (λ p. MayRead (known_bits space) (ordered x.order order) p (8 * (width / 8)) n) at_bit there.may) in
          let fail = fails byte small rules n may.fits there.has in
          let counts = fail.counts in
          record {
            few = omega arith;
            within = omega (arith, fits, need);
            tests = (judged (number_shown x) n).steps + 0;
            fail = subst (λ (xs : List HeldNumber).
                AllFail (known_bits space) order (8 * at) (numbers_shown xs) ((judged (number_shown x) n).steps + 0))
                (sym alone) (one_fails n may fail.fails none_fail);
            counts = omega (arith, steps, counts);
          };
    }

-- the starts whose bytes were read
pub run_missed : (held : HeldFirst) (order : Order) (screen : Screen) (space : SpaceView) (at count run : ℕ)
    (part : List ℕ) → IsScreen held order screen → IsWhole space → at + count + screen.need ≤ space.len + 1 →
    GivesRange space (at + screen.place) count part → length part ≡ count → run ≤ count →
    ((k : ℕ) → k < run → (get_or part k 0 < 256) × (get_or screen.fails (get_or part k 0) false ≡ true)) →
    AreMissed held space order at (at + run) screen.steps
run_missed held order screen space at count run part is whole fits gives size few fail i from to =
    let k = i - at in
    let byte = get_or part k 0 in
    let here = fail k (omega (arith, from, to)) in
    let inside = is.inside in
    is.misses byte here.0 here.1 space i whole (omega (arith, from, to, fits, few))
    (λ bytes known.
    let long = whole bytes known in
    let cut : at + screen.place + count - (at + screen.place) ≡ count = omega arith in
    let place : at + screen.place + k ≡ i + screen.place = omega (arith, from) in
    let read : byte ≡ get_or bytes (i + screen.place) 0 =
    ap (λ (xs : List ℕ). get_or xs k 0) (gives bytes known)
    ∙ get_or-take (at + screen.place + count - (at + screen.place)) (drop (at + screen.place) bytes) k 0
    (omega (arith, from, to, few))
    ∙ get_or-drop (at + screen.place) bytes k 0 ∙ ap (λ p. get_or bytes p 0) place in
    get_or_default bytes (i + screen.place) byte 0 (omega (arith, long, from, to, fits, few, inside)) ∙ sym read)

-- no start
pub none_missed : (held : HeldFirst) (space : SpaceView) (order : Order) (at end steps : ℕ) → end ≤ at →
    AreMissed held space order at end steps
none_missed held space order at end steps le i from to = absurd (omega (arith, le, from, to))

missed_still : {held : HeldFirst} {first now : SpaceView} {order : Order} {start allowed steps : ℕ} → Keeps first now →
    IsMissed held first order start allowed steps → IsMissed held now order start allowed steps
missed_still {held} {first} {now} {order} {start} {allowed} {steps} keeps h = record {
  few = h.few;
  within = let same = keeps.len in let there = h.within in omega (arith, same, there);
  tests = h.tests;
  fail = subst (λ o. AllFail (option_map bits_of o) order start (numbers_shown held.numbers.items) h.tests)
      (sym keeps.bytes) h.fail;
  counts = h.counts;
}

-- what was missed still is
pub missed_since : {held : HeldFirst} {first now : SpaceView} {order : Order} {from to steps : ℕ} → Keeps first now →
    AreMissed held first order from to steps → AreMissed held now order from to steps
missed_since keeps h i from to = missed_still keeps (h i from to)

passes_since : {first now : SpaceView} (l : HeldLayout) (screen : Option Screen) (order : Order) (clear : Clear) →
    Keeps first now → PassesOver l screen first order clear → PassesOver l screen now order clear
passes_since (held.Number x) screen order clear keeps h = tt
passes_since (held.Fixed width steps) screen order clear keeps h = tt
passes_since (held.Tests f) screen order clear keeps h = (h.0, missed_since keeps h.1)
passes_since held.Loose screen order clear keeps h = tt

-- what is known of the starts of a type is still known after other reads
pub sieve_since : {first now : SpaceView} (type : PokeType) (order : Order) (sieve : Sieve) → Keeps first now →
    IsSieve type first order sieve → IsSieve type now order sieve
sieve_since type order sieve keeps h = record {
  sound = h.sound;
  holds = h.holds;
  is_order = h.is_order;
  second = h.second;
  passes = passes_since sieve.layout sieve.screen order sieve.clear keeps h.passes;
}

-- and what is missed now was missed before
pub missed_before : {held : HeldFirst} {first now : SpaceView} {order : Order} {start allowed steps : ℕ} →
    Keeps first now → IsMissed held now order start allowed steps → IsMissed held first order start allowed steps
missed_before {held} {first} {now} {order} {start} {allowed} {steps} keeps h = record {
  few = h.few;
  within = let same = keeps.len in let there = h.within in omega (arith, same, there);
  tests = h.tests;
  fail = subst (λ o. AllFail (option_map bits_of o) order start (numbers_shown held.numbers.items) h.tests)
      keeps.bytes h.fail;
  counts = h.counts;
}

-- ---- a sieve

-- more starts were read
abbrev pub Moves : Screen → SpaceView → (before after : Clear) → Type 0
Moves screen space before after =
    (held : HeldFirst) (order : Order) → IsScreen held order screen →
    AreMissed held space order before.from before.to before.steps →
    AreMissed held space order after.from after.to after.steps

passes_moved : (l : HeldLayout) (screen : Screen) (order : Order) (before now : SpaceView) (from to : Clear) →
    Keeps before now → Moves screen before from to → PassesOver l (Some screen) before order from →
    PassesOver l (Some screen) now order to
passes_moved (held.Number x) screen order before now from to keeps moves h = tt
passes_moved (held.Fixed width steps) screen order before now from to keeps moves h = tt
passes_moved (held.Tests first) screen order before now from to keeps moves h =
    (h.0, missed_since keeps (moves first order h.0 h.1))
passes_moved held.Loose screen order before now from to keeps moves h = tt

pub sieve_moved : (type : PokeType) (order : Order) (before now : SpaceView) (sieve : Sieve) (screen : Screen)
    (clear : Clear) → Keeps before now → sieve.screen ≡ Some screen → Moves screen before sieve.clear clear →
    IsSieve type before order sieve →
    IsSieve type now order
    (record {
      layout = sieve.layout;
      order = sieve.order;
      screen = sieve.screen;
      second = sieve.second;
      clear = clear;
    })
sieve_moved type order before now sieve screen clear keeps is moves h = record {
  sound = h.sound;
  holds = h.holds;
  is_order = h.is_order;
  second = h.second;
  passes = subst (λ s. PassesOver sieve.layout s now order clear) (sym is)
      (passes_moved sieve.layout screen order before now sieve.clear clear keeps moves
      (subst (λ s. PassesOver sieve.layout s before order sieve.clear) is h.passes));
}

-- a start was read
abbrev pub Covers : Screen → SpaceView → Clear → (start steps : ℕ) → Type 0
Covers screen space clear start steps =
    (held : HeldFirst) (order : Order) → IsScreen held order screen →
    AreMissed held space order clear.from clear.to clear.steps →
    IsMissed held space order start steps steps

layout_covered : (l : HeldLayout) (screen : Screen) (order : Order) (space : SpaceView) (clear : Clear)
    (start steps : ℕ) → Covers screen space clear start steps → PassesOver l (Some screen) space order clear →
    IsCovered l space order start steps
layout_covered (held.Number x) screen order space clear start steps covers h = tt
layout_covered (held.Fixed width taken) screen order space clear start steps covers h = tt
layout_covered (held.Tests first) screen order space clear start steps covers h = covers first order h.0 h.1
layout_covered held.Loose screen order space clear start steps covers h = tt

pub sieve_covers : (type : PokeType) (order : Order) (space : SpaceView) (sieve : Sieve) (screen : Screen)
    (start steps : ℕ) → sieve.screen ≡ Some screen → Covers screen space sieve.clear start steps →
    IsSieve type space order sieve → IsCovered sieve.layout space order start steps
sieve_covers type order space sieve screen start steps is covers h =
    layout_covered sieve.layout screen order space sieve.clear start steps covers
    (subst (λ s. PassesOver sieve.layout s space order sieve.clear) is h.passes)

-- ---- starts whose first numbers were read

-- one run after another
pub missed_on : {held : HeldFirst} {space : SpaceView} {order : Order} {from mid to steps : ℕ} →
    AreMissed held space order from mid steps → AreMissed held space order mid to steps →
    AreMissed held space order from to steps
missed_on {held} {space} {order} {from} {mid} {to} {steps} before after i le lt =
    elim (cases_lt i mid) [ inl less ↦ before i le less | inr more ↦ after i more lt ]

-- one start
pub one_missed : (held : HeldFirst) (space : SpaceView) (order : Order) (at steps : ℕ) →
    IsMissed held space order (8 * at) steps steps → AreMissed held space order at (at + 1) steps
one_missed held space order at steps h i le lt =
    subst (λ (k : ℕ). IsMissed held space order (8 * k) steps steps) (omega (arith, le, lt)) h

-- what was missed in a space that was read since
pub missed_then : {held : HeldFirst} {first now : SpaceView} {order : Order} {from to steps : ℕ} → Keeps first now →
    AreMissed held now order from to steps → AreMissed held first order from to steps
missed_then keeps h i le lt = missed_before keeps (h i le lt)

run_passes : (l : HeldLayout) (first : HeldFirst) (screen second : Option Screen) (order : Order)
    (before now : SpaceView) (from to : Clear) → l ≡ held.Tests first → Keeps before now →
    (IfSome screen (IsScreen first order) → IfSome second (IsScreen first order) →
    AreMissed first before order to.from to.to to.steps) →
    ScreensIn l second order → PassesOver l screen before order from → PassesOver l screen now order to
run_passes l first screen second order before now from to is keeps missed also h =
    subst (λ (l : HeldLayout). PassesOver l screen now order to) (sym is)
    (let known = (subst (λ (l : HeldLayout). PassesOver l screen before order from) is h).0 in
    (known, missed_since keeps (missed known (subst (λ (l : HeldLayout). ScreensIn l second order) is also))))

-- a run of starts was read
pub sieve_read : (type : PokeType) (order : Order) (before now : SpaceView) (sieve : Sieve) (first : HeldFirst)
    (clear : Clear) → sieve.layout ≡ held.Tests first → Keeps before now →
    (IfSome sieve.screen (IsScreen first sieve.order) → IfSome sieve.second (IsScreen first sieve.order) →
    AreMissed first before sieve.order clear.from clear.to clear.steps) → IsSieve type before order sieve →
    IsSieve type now order
    (record {
      layout = sieve.layout;
      order = sieve.order;
      screen = sieve.screen;
      second = sieve.second;
      clear = clear;
    })
sieve_read type order before now sieve first clear is keeps missed h = record {
  sound = h.sound;
  holds = h.holds;
  is_order = h.is_order;
  second = h.second;
  passes = run_passes sieve.layout first sieve.screen sieve.second order before now sieve.clear clear is keeps
      (subst (λ (order : Order). IfSome sieve.screen (IsScreen first order) →
      IfSome sieve.second (IsScreen first order) → AreMissed first before order clear.from clear.to clear.steps)
      h.is_order missed) h.second h.passes;
}

-- the fault of a layout is that of the type
layout_misses : (l : HeldLayout) (type : PokeType) (order : Order) (space : SpaceView) (start allowed : ℕ)
    (miss : Miss) → HoldsLayout l (layout type) → MissesIn l space order start allowed miss →
    IsMiss type space order start allowed miss
layout_misses (held.Number x) type order space start allowed miss holds h = absurd h
layout_misses (held.Fixed width steps) type order space start allowed miss holds h = absurd h
layout_misses (held.Tests first) type order space start allowed miss holds h =
    record { held = first; holds = holds; distance = h.0; missed = h.1 }
layout_misses held.Loose type order space start allowed miss holds h = absurd h

pub sieve_misses : (type : PokeType) (order : Order) (space : SpaceView) (sieve : Sieve) (l : HeldLayout)
    (start allowed : ℕ) (found : Option Miss) → l ≡ sieve.layout → IsSieve type space order sieve →
    IfSome found (MissesIn l space order start allowed) → IfSome found (IsMiss type space order start allowed)
sieve_misses type order space sieve l start allowed (Some miss) same h found =
    layout_misses l type order space start allowed miss
    (subst (λ l. HoldsLayout l (layout type)) (sym same) h.holds) found
sieve_misses type order space sieve l start allowed None same h found = tt

-- what was missed in a space that was read since
since_missed : (l : HeldLayout) (order : Order) (before now : SpaceView) (start allowed : ℕ) (miss : Miss) →
    Keeps before now → MissesIn l now order start allowed miss → MissesIn l before order start allowed miss
since_missed (held.Number x) order before now start allowed miss keeps h = h
since_missed (held.Fixed width steps) order before now start allowed miss keeps h = h
since_missed (held.Tests first) order before now start allowed miss keeps h = (h.0, missed_before keeps h.1)
since_missed held.Loose order before now start allowed miss keeps h = h

pub found_before : (l : HeldLayout) (order : Order) (before now : SpaceView) (start allowed : ℕ)
    (found : Option Miss) → Keeps before now → IfSome found (MissesIn l now order start allowed) →
    IfSome found (MissesIn l before order start allowed)
found_before l order before now start allowed (Some miss) keeps h =
    since_missed l order before now start allowed miss keeps h
found_before l order before now start allowed None keeps h = tt

-- no start is known before the file is read
pub screen_passes : (first : HeldFirst) (order : Order) (screen : Option Screen) (space : SpaceView) →
    IfSome screen (IsScreen first order) → PassesOver (held.Tests first) screen space order unread
screen_passes first order screen space h = (h, none_missed first space order 0 0 0 (omega arith))

-- ---- starts that are known

-- a start among those that were read is ruled out
pub clear_covered : (l : HeldLayout) (screen : Option Screen) (order : Order) (space : SpaceView) (clear : Clear)
    (start : ℕ) → IsClear clear start → PassesOver l screen space order clear →
    IsCovered l space order start clear.steps
clear_covered (held.Number x) screen order space clear start is h = tt
clear_covered (held.Fixed width steps) screen order space clear start is h = tt
clear_covered (held.Tests first) screen order space clear start is h =
    subst (λ bit. IsMissed first space order bit clear.steps clear.steps) (sym is.is_at) (h.1 is.at is.from is.to)
clear_covered held.Loose screen order space clear start is h = tt

-- a fault that was found after other reads
pub miss_before : {first now : SpaceView} {type : PokeType} {order : Order} {start allowed : ℕ} {miss : Miss} →
    Keeps first now → IsMiss type now order start allowed miss → IsMiss type first order start allowed miss
miss_before keeps h =
    record { held = h.held; holds = h.holds; distance = h.distance; missed = missed_before keeps h.missed }

-- where more steps are allowed, or fewer that suffice
pub allowed_too : {type : PokeType} {space : SpaceView} {order : Order} {start allowed other : ℕ} {miss : Miss} →
    miss.steps ≤ other → IsMiss type space order start allowed miss → IsMiss type space order start other miss
allowed_too few h = record {
  held = h.held;
  holds = h.holds;
  distance = h.distance;
  missed = record {
    few = few;
    within = h.missed.within;
    tests = h.missed.tests;
    fail = h.missed.fail;
    counts = h.missed.counts;
  };
}

-- each of the starts that are known has the fault of the first
pub stretch_misses : (type : PokeType) (order : Order) (before now : SpaceView) (sieve : Sieve)
    (start step allowed : ℕ) (stretch : Stretch) → Keeps before now → IsSieve type now order sieve →
    ((k : ℕ) → k < stretch.count → IsClear sieve.clear (start + k * step)) →
    ((space : SpaceView) (order : Order) (start : ℕ) → IsCovered sieve.layout space order start sieve.clear.steps →
    MissesIn sieve.layout space order start allowed stretch.miss) →
    AreMisses type before order start step allowed stretch
stretch_misses type order before now sieve start step allowed stretch keeps h clear misses k few =
    let here = start + k * step in
    miss_before keeps
    (layout_misses sieve.layout type order now here allowed stretch.miss h.holds
    (misses now order here
    (clear_covered sieve.layout sieve.screen order now sieve.clear here (clear k few) h.passes)))

-- so many whole steps are less than a distance
pub below_ceil : (distance step k : ℕ) → 0 < step → k < distance / step + min 1 (distance % step) →
    k * step < distance
below_ceil distance step k some few =
    let ceil = distance / step + min 1 (distance % step) in
    let top = (div_ceil_times distance step some).1 in
    let more = mul-le (k + 1) step ceil step (omega (arith, few)) (omega arith) in
    let next = add-mul k 1 step in
    omega (arith, top, more, next)

-- steps of whole bytes lead from one of the starts to others
pub steps_clear : (clear : Clear) (start step k : ℕ) → IsClear clear start → 0 < step → step % 8 ≡ 0 →
    k < (clear.to - start / 8) / (step / 8) + min 1 ((clear.to - start / 8) % (step / 8)) →
    IsClear clear (start + k * step)
steps_clear clear start step k is some whole few =
    let here = is.is_at in
    let from = is.from in
    let bytes : step ≡ 8 * (step / 8) = omega (arith, whole) in
    let more = below_ceil (clear.to - start / 8) (step / 8) k (omega (arith, some, whole)) few in
    let times : k * step ≡ 8 * (k * (step / 8)) = ap (λ (s : ℕ). k * s) bytes ∙ mul_left_comm k 8 (step / 8) in
    record {
      at = start / 8 + k * (step / 8);
      is_at = omega (arith, here, times);
      from = omega (arith, here, from);
      to = omega (arith, more);
    }
