use Rattle.std.proofs.Common.{◌≡◌, ◌∙◌, ◌∷◌, ◌++◌, length, ap, subst, arith}
use Rattle.command_line.specs.Patterns.{IsSpanText}
use Rattle.command_line.proofs.PatternTexts.{no_places, span_places, nothing_left}
use Rattle.command_line.proofs.pattern.read_places.Goals as goal

pub returns-then-is_empty-2-clause-none : goal.returns-then-is_empty-2-clause-none
returns-then-is_empty-2-clause-none c = λ first last h.
    let none : length c.args.from.now ≡ 0 = grind arith in
    let nor : length c.args.end.now ≡ 0 = grind arith in
    let from = nothing_left c.args.from.now none in
    let end = nothing_left c.args.end.now nor in
    no_places first last (subst (λ text. IsSpanText text first last)
    (ap (λ text. text ++ 58 ∷ c.args.end.now) from ∙ ap (λ text. 58 ∷ text) end) h)

pub returns-in-None-read_place-clause-none : goal.returns-in-None-read_place-clause-none
returns-in-None-read_place-clause-none c =
    λ first last h. c.in-None-read_place.ensures.none last (span_places c.args.from.now c.args.end.now first last h).1

pub returns-in-None-clause-none : goal.returns-in-None-clause-none
returns-in-None-clause-none c =
    λ first last h. c.in-None.ensures.none first (span_places c.args.from.now c.args.end.now first last h).0
