-- `write_root`: the value that is stored is the one whose part is written.
use Rattle.std.proofs.Common.{◌∙◌, ◌*◌, ◌≡◌, subst, sym}
use Rattle.std.proofs.lemmas.Option.{same_Some}
use Rattle.raw_parts.specs.Within.{IsWithin}
use Rattle.raw_parts.specs.Written.{WritesPart}
use Rattle.value_store.specs.Refs.{value_shown}
use Rattle.raw_parts.proofs.raw_part.write_root.Goals as goal

pub returns-clause-writes : goal.returns-clause-writes
returns-clause-writes g c = λ value there within.
    let same : value_shown c.in-Some.value ≡ value =
    same_Some (value_shown c.in-Some.value) value (c.in-Some.ensures ∙ there) in
    subst (λ v. WritesPart c.args.run.now (g.S.Space.view c.args.space.now) (g.S.Space.view c.write_part.new.space) v
    (g.O.Write.contents c.args.out.now) (g.O.Write.contents c.write_part.new.out) c.write_part.result) same
    (c.write_part.ensures.writes
    (subst (λ v. IsWithin (8 * (g.S.Space.view c.args.space.now).len) v) (sym same) within))
