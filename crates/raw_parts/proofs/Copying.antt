-- Bytes of a space that are written, one chunk after another.
use Rattle.std.proofs.Common.{◌≡◌, ◌∙◌, ◌<◌, ◌≤◌, ◌+◌, ◌-◌, ℕ, List, [], ◌++◌, Option, length, take, drop, refl, sym, ap, subst, arith, length-append, take-add}
use Rattle.std.proofs.KnownBytes.{Appends-nil, Appends-trans}
use Rattle.std.proofs.Math.Seq.{take-append_seam}
use Rattle.std.proofs.lemmas.List.{drop-drop, take-take}
use Rattle.std.specs.Io.KnownBytes.{Appends}
use Rattle.std.specs.Prelude.{slice_range}
use Rattle.bit_space.proofs.Failures.{risen_later}
use Rattle.bit_space.specs.SpaceView.{SpaceView, GivesRange, Keeps}
use Rattle.raw_parts.specs.Copied.{Breaks, Copies, CopiesSome}
use Rattle.run_parts.specs.declared.outcome.Failure.{Failure}
use Rattle.run_parts.specs.declared.outcome.Failure.TheVariants as failure
use Rattle.text_output.specs.Written.{AppendsPart}

-- ---- ranges

no_range : (bytes : List ℕ) (at : ℕ) → [] ≡ slice_range bytes at at
no_range bytes at = let none : at - at ≡ 0 = omega arith in rw none refl

two_ranges : (bytes : List ℕ) (from mid end : ℕ) → from ≤ mid → mid ≤ end →
    slice_range bytes from mid ++ slice_range bytes mid end ≡ slice_range bytes from end
two_ranges bytes from mid end up more =
    let whole : end - from ≡ (mid - from) + (end - mid) = omega (arith, up, more) in
    let there : mid ≡ from + (mid - from) = omega (arith, up) in
    let later : drop mid bytes ≡ drop (mid - from) (drop from bytes) =
    ap (λ (n : ℕ). drop n bytes) there ∙ sym (drop-drop (mid - from) from bytes) in
    rw (whole, later, take-add (mid - from) (end - mid) (drop from bytes)) refl

first_range : (bytes chunk taken rest : List ℕ) (at : ℕ) → chunk ≡ slice_range bytes at (at + length chunk) →
    taken ++ rest ≡ chunk → taken ≡ slice_range bytes at (at + length taken)
first_range bytes chunk taken rest at is whole =
    let few : length taken ≤ length chunk = omega (arith, ap length whole, length-append taken rest) in
    let one : at + length taken - at ≡ length taken = omega arith in
    let all : at + length chunk - at ≡ length chunk = omega arith in
    let front : taken ≡ take (length taken) chunk =
    sym (take-append_seam taken rest) ∙ ap (take (length taken)) whole in
    let range : chunk ≡ take (length chunk) (drop at bytes) =
    is ∙ ap (λ (n : ℕ). take n (drop at bytes)) all in
    front ∙ ap (take (length taken)) range ∙ take-take (length taken) (length chunk) (drop at bytes) few
    ∙ ap (λ (n : ℕ). take n (drop at bytes)) (sym one)

-- ---- bytes that are written

pub none_copied : (space : SpaceView) (at : ℕ) (out : Option (List ℕ)) → Copies space at at out out
none_copied space at out = record {
  text = [];
  bytes = record { many = omega arith; known = λ bytes is. no_range bytes at };
  takes = Appends-nil out;
}

-- a chunk that was read and written
pub chunk_copied : (space : SpaceView) (at : ℕ) (chunk : List ℕ) (out out' : Option (List ℕ)) (size : ℕ)
    → length chunk ≡ size → GivesRange space at size chunk → Appends out out' chunk
    → Copies space at (at + size) out out'
chunk_copied space at chunk out out' size many given takes =
    record { text = chunk; bytes = record { many = omega (arith, many); known = given }; takes = takes }

-- a chunk of which the writer accepted a part
pub part_copied : (space after : SpaceView) (at : ℕ) (chunk : List ℕ) (out out' : Option (List ℕ)) (size : ℕ)
    → length chunk ≡ size → GivesRange space at size chunk → AppendsPart out out' chunk
    → CopiesSome space after at (at + size) out out' failure.Write
part_copied space after at chunk out out' size many given part =
    record {
      breaks = tt;
      place = at + length part.taken;
      starts = omega arith;
      less = omega (arith, many, ap length part.whole, length-append part.taken part.rest, part.more);
      copies = record {
        text = part.taken;
        bytes = record {
          many = omega arith;
          known = λ bytes is.
              first_range bytes chunk part.taken part.rest at
              (subst (λ (n : ℕ). chunk ≡ slice_range bytes at (at + n)) (sym many) (given bytes is)) part.whole;
        };
        takes = part.appends;
      };
    }

-- a chunk that wasn't read
pub unread : (space after : SpaceView) (at size : ℕ) (out : Option (List ℕ)) → 0 < size
    → Breaks space after failure.Device → CopiesSome space after at (at + size) out out failure.Device
unread space after at size out some risen = record {
  breaks = risen;
  place = at;
  starts = omega arith;
  less = omega (arith, some);
  copies = none_copied space at out;
}

-- what broke off later is what broke off since the start
pub breaks_later : (space now after : SpaceView) (failed : Failure) → Keeps space now → Keeps now after
    → Breaks now after failed → Breaks space after failed
breaks_later space now after failure.Memory since later breaks = breaks
breaks_later space now after failure.Device since later breaks =
    risen_later space.failures now.failures after.failures since.failures later.failures breaks
breaks_later space now after failure.Write since later breaks = breaks
breaks_later space now after failure.Read since later breaks = breaks
breaks_later space now after failure.Open since later breaks = breaks
breaks_later space now after failure.TooLong since later breaks = breaks

-- bytes of a space are those of one with the same bytes
pub copies_before : (space now : SpaceView) (from end : ℕ) (out out' : Option (List ℕ)) → Keeps space now
    → Copies now from end out out' → Copies space from end out out'
copies_before space now from end out out' since copies = record {
  text = copies.text;
  bytes = record {
    many = copies.bytes.many;
    known = λ bytes is. copies.bytes.known bytes (since.bytes ∙ is);
  };
  takes = copies.takes;
}

module _ (space now : SpaceView) (from mid : ℕ) (a b : Option (List ℕ)) (since : Keeps space now)
    (starts : from ≤ mid) (copies : Copies space from mid a b) where
  -- further bytes
  pub more_copied : (end : ℕ) (c : Option (List ℕ)) → mid ≤ end → Copies now mid end b c → Copies space from end a c
  more_copied end c up more = record {
    text = copies.text ++ more.text;
    bytes = record {
      many = omega (arith, length-append copies.text more.text, copies.bytes.many, more.bytes.many, starts, up);
      known = λ bytes is.
          ap (λ (l : List ℕ). l ++ more.text) (copies.bytes.known bytes is)
          ∙ ap (λ (l : List ℕ). slice_range bytes from mid ++ l) (more.bytes.known bytes (since.bytes ∙ is))
          ∙ two_ranges bytes from mid end starts up;
    };
    takes = Appends-trans a b c copies.text more.text copies.takes more.takes;
  }

  -- only some further bytes
  pub some_copied : (after : SpaceView) (end last : ℕ) (c : Option (List ℕ)) (failed : Failure) → Keeps now after
      → last ≤ end → CopiesSome now after mid last b c failed → CopiesSome space after from end a c failed
  some_copied after end last c failed later most some = record {
    breaks = breaks_later space now after failed since later some.breaks;
    place = some.place;
    starts = omega (arith, starts, some.starts);
    less = omega (arith, some.less, most);
    copies = more_copied some.place c some.starts some.copies;
  }
