use Rattle.std.proofs.Common.{Ok, arith, sym, subst}
use Rattle.std.proofs.KnownBytes.{Keeps-refl}
use Rattle.bit_space.specs.Bits.{bits_of}
use Rattle.identification.specs.Fits.{IsIdentified}
use Rattle.jobs.specs.Identified.{stopped, taken, unidentified, untaken}
use Rattle.jobs.specs.declared.ending.Ending.TheVariants.{Run}
use Rattle.jobs.proofs.Holding.{holds_more, no_text}
use Rattle.jobs.proofs.Shown.{first_then, none_first}
use Rattle.jobs.proofs.identified.show_space.Goals as goal

pub returns-in-Err-clause-shows : goal.returns-in-Err-clause-shows
returns-in-Err-clause-shows g c = record {
  after = g.S.Space.view c.identify.new.space;
  failures = omega arith;
  holds = no_text _ _ _ _ (stopped c.in-Err.ensures.err) (Keeps-refl _);
}

pub returns-in_default-clause-shows : goal.returns-in_default-clause-shows
returns-in_default-clause-shows g c =
    let none =
    none_first c.in-Ok.ranked.items (sym (rw (c.in_default.is, c.deref.ensures.value) at c.first.ensures.value))
    in
    record {
      after = g.S.Space.view c.identify.new.space;
      failures = omega arith;
      holds = rw c.none_fits.ensures
          (no_text _ _ _ _ (unidentified (λ bytes known.
          subst (IsIdentified c.args.formats.now c.args.start (bits_of bytes)) none (c.in-Ok.ensures.ok bytes known)))
          (Keeps-refl _));
    }

pub returns-clause-shows : goal.returns-clause-shows
returns-clause-shows g c =
    let first = c.in-Some.first.now in
    let found = first_then c.in-Ok.ranked.items first
    (sym (rw (c.in-Some.is, c.deref.ensures.value) at c.first.ensures.value)) in
    record {
      after = g.S.Space.view c.identify.new.space;
      failures = omega arith;
      holds = rw c.none_fits-in-None.ensures
          (no_text _ _ _ _ (untaken (λ bytes known.
          subst (IsIdentified c.args.formats.now c.args.start (bits_of bytes)) found (c.in-Ok.ensures.ok bytes known))
          c.in-None.ensures.none) (Keeps-refl _));
    }

pub returns-in-Some-taken-clause-shows : goal.returns-in-Some-taken-clause-shows
returns-in-Some-taken-clause-shows g c =
    let shown = c.show_as.ensures.shows in
    let first = c.in-Some.first.now in
    let found = first_then c.in-Ok.ranked.items first
    (sym (rw (c.in-Some.is, c.deref.ensures.value) at c.first.ensures.value)) in
    record {
      after = shown.after;
      failures = shown.failures;
      holds = holds_more _ _ (Ok (Run c.show_as.result)) _ _
          (λ lines end due. taken (λ bytes known.
          subst (IsIdentified c.args.formats.now c.args.start (bits_of bytes)) found (c.in-Ok.ensures.ok bytes known))
          c.identify.ensures.keeps c.in-Some-taken.ensures.some due) shown.holds;
    }
