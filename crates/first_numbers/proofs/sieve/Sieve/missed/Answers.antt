-- `missed`: the screen rules the start out, or its first numbers were read.
use Rattle.std.proofs.Common.{◌∙◌, IfSome, subst, sym}
use Rattle.first_numbers.specs.Held.{IsSoundLayout}
use Rattle.first_numbers.specs.Screens.{MissesIn}
use Rattle.first_numbers.proofs.Screened.{found_before, sieve_misses, sieve_since}
use Rattle.first_numbers.proofs.sieve.Sieve.missed.Goals as goal

pub returns-then-is_covered-clause-missed : goal.returns-then-is_covered-clause-missed
returns-then-is_covered-clause-missed g c = λ type order h.
    let space = g.S.Space.view c.args.space.now in
    sieve_misses type order space c.args.self.now _ c.args.start c.args.allowed c.covered_miss.result
    c.is_covered.ensures.same.0 h
    (c.covered_miss.ensures.missed space order c.args.start
    (c.is_covered.ensures.covered type order h c.if-is_covered.true))

pub read_miss-requires : goal.read_miss-requires
read_miss-requires g c = record { sound = subst IsSoundLayout (sym c.is_covered.ensures.same.0) c.requires.sound }

pub returns-clause-after : goal.returns-clause-after
returns-clause-after g c = λ type order h.
    sieve_since type order _ c.read_miss.ensures.keeps (c.is_covered.ensures.after type order h)

pub returns-clause-missed : goal.returns-clause-missed
returns-clause-missed g c = λ type order h.
    let space = g.S.Space.view c.args.space.now in
    let now = g.S.Space.view c.is_covered.new.space in
    let same = c.is_covered.ensures.same in
    sieve_misses type order space c.args.self.now c.is_covered.new.self.layout c.args.start c.args.allowed
    c.read_miss.result same.0 h
    (found_before c.is_covered.new.self.layout order space now c.args.start c.args.allowed c.read_miss.result
    c.is_covered.ensures.keeps
    (subst
    (λ order. IfSome c.read_miss.result (MissesIn c.is_covered.new.self.layout now order c.args.start c.args.allowed))
    (same.1 ∙ h.is_order) c.read_miss.ensures.missed))
