use Rattle.std.proofs.Common.{Some, None, arith}
use Rattle.pickle_map.proofs.KeptKinds.{any_default}
use Rattle.pickle_map.proofs.mapper.packings.Packings.known.Goals as goal

pub returns-then-first-at : goal.returns-then-first-at
returns-then-first-at c = rw (c.in-Some.is, c.if-first-at.true) at (c.requires.kept None)

pub returns-then-at-len : goal.returns-then-at-len
returns-then-at-len c =
    let kinds = c.in-Some-others.kinds.items in
    let h = rw c.in-Some-others.is at (c.requires.kept (Some c.args.at)) in
    let same = any_default kinds c.args.at c.index.result.now None (omega (arith, c.if-at-len.true, c.len.ensures)) in
    rw (c.index.ensures, same) h
