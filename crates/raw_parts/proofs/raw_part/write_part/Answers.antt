-- `write_part`: nothing of a value without such a part, else its bytes.
use Rattle.std.proofs.Common.{◌*◌, subst, sym}
use Rattle.std.proofs.KnownBytes.{Keeps-refl}
use Rattle.raw_parts.proofs.Writings.{all_written, some_written}
use Rattle.raw_parts.specs.Places.{LacksBytes}
use Rattle.raw_parts.specs.Within.{IsWithin}
use Rattle.raw_parts.specs.Written.{lacks_memory, writes_none}
use Rattle.value_store.specs.Refs.{value_shown}
use Rattle.raw_parts.proofs.raw_part.write_part.Goals as goal

pub returns-in-Err-clause-writes : goal.returns-in-Err-clause-writes
returns-in-Err-clause-writes g c = λ within.
    let v = value_shown c.args.value in
    writes_none
    (subst (λ n. LacksBytes c.args.run.now n v c.in-Err.outcome) c.len.ensures
    (c.in-Err.ensures.err (subst (λ n. IsWithin (8 * n) v) (sym c.len.ensures) within)))
    (Keeps-refl _)

pub returns-in-Err-new_chunk-clause-writes : goal.returns-in-Err-new_chunk-clause-writes
returns-in-Err-new_chunk-clause-writes g c = λ within. lacks_memory (Keeps-refl _)

pub returns-in-Ok-write_bytes-clause-writes : goal.returns-in-Ok-write_bytes-clause-writes
returns-in-Ok-write_bytes-clause-writes g c = λ within.
    let v = value_shown c.args.value in
    all_written c.args.run.now _ _ v _ _ c.len.result c.in-Ok.range c.len.ensures
    (c.in-Ok.ensures.ok (subst (λ n. IsWithin (8 * n) v) (sym c.len.ensures) within))
    c.in-Ok-write_bytes.ensures.ok

pub returns-clause-writes : goal.returns-clause-writes
returns-clause-writes g c = λ within.
    let v = value_shown c.args.value in
    some_written c.args.run.now _ _ v _ _ c.len.result c.in-Ok.range c.len.ensures
    (c.in-Ok.ensures.ok (subst (λ n. IsWithin (8 * n) v) (sym c.len.ensures) within))
    c.in-Err-write_bytes.failure c.in-Err-write_bytes.ensures.err
