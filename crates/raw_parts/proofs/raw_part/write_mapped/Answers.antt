-- `write_mapped`: the bytes of the requested part of the value, or nothing.
use Rattle.std.proofs.Common.{◌*◌, sym, subst}
use Rattle.std.proofs.KnownBytes.{Keeps-refl}
use Rattle.poke_batch.specs.TypeRuns.{run_type}
use Rattle.pickle_meaning.specs.Values.{no_values}
use Rattle.raw_parts.proofs.NarrowTypes.{declared_is_narrow}
use Rattle.raw_parts.proofs.WithinFiles.{value_within}
use Rattle.raw_parts.proofs.Writings.{part_before}
use Rattle.raw_parts.specs.Mapped.{HasNoValue}
use Rattle.raw_parts.specs.Within.{IsWithin}
use Rattle.raw_parts.specs.Written.{has_no_value, has_value}
use Rattle.raw_parts.proofs.raw_part.write_mapped.Goals as goal

pub returns-in-Ok-clause-writes : goal.returns-in-Ok-clause-writes
returns-in-Ok-clause-writes g c = λ pickle asked.
    let run = c.args.run.now in
    let held = c.in-Ok.ensures.ok in
    let since = c.map_into.ensures.keeps in
    let narrow = declared_is_narrow asked.declarations asked.types run.ask.now.name.now (run_type run)
    asked.accepted.declares asked.found in
    let within = value_within (8 * (g.S.Space.view c.args.space.now).len) (run_type run) no_values run.ask.now.start
    held.value narrow held.mapped.fits in
    let same = subst (λ len. IsWithin (8 * len) held.value) (sym since.len) within in
    has_value held.mapped
    (part_before run _ _ _ since c.write_root.ensures.keeps held.value _ _ _
    (c.write_root.ensures.writes held.value held.there same))

pub returns-in-Err-clause-writes : goal.returns-in-Err-clause-writes
returns-in-Err-clause-writes g c = λ pickle asked.
    has_no_value
    (subst (HasNoValue pickle c.args.run.now _ _) (sym c.end_under.ensures)
    (c.in-Err.ensures.err.says pickle asked))
    (Keeps-refl _)
