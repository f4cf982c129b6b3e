use Rattle.std.proofs.Common.{rules, ℕ, ◌≤◌}
use Rattle.std.proofs.lemmas.List.Elements.{All-take}
use Rattle.pickle_source.specs.Places.{IsPlain}
use Rattle.pickle_source.proofs.excerpt.shorten.Goals as goal

pub returns-in_ok-say-in-Some-2-clause-plain : goal.returns-in_ok-say-in-Some-2-clause-plain
returns-in_ok-say-in-Some-2-clause-plain c plain =
    let P : ℕ → Type 0 = λ byte. (32 ≤ byte) × (byte ≤ 126) in
    let front : IsPlain c.in-Some.front.now = rw c.in-Some.ensures.lookup.0.2 (All-take P 100 c.args.text.now plain) in
    let begun : IsPlain c.in_ok-say-in-Some.field-0.bytes.items =
    c.in_ok-say-in-Some.ensures.plain (search rules) front in
    rw c.into_bytes.ensures (c.in_ok-say-in-Some-2.ensures.plain begun (search rules))
