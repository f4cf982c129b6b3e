-- `write_chunk`: the chunk is read, and then written.
use Rattle.std.proofs.Common.{length}
use Rattle.raw_parts.proofs.Copying.{part_copied, unread}
use Rattle.raw_parts.proofs.bytes.write_chunk.Goals as goal

pub returns-in-Err-clause-err : goal.returns-in-Err-clause-err
returns-in-Err-clause-err g c =
    unread _ _ c.args.place (length c.args.chunk.now) _ c.requires.chunk c.in-Err.ensures.failed

pub returns-in-Err-put-clause-err : goal.returns-in-Err-put-clause-err
returns-in-Err-put-clause-err g c =
    part_copied _ _ c.args.place _ _ _ (length c.args.chunk.now) c.read_at.auto.into c.in-Ok.ensures.bytes
    c.in-Err-put.ensures.err
