use Rattle.std.proofs.Common.{◌+◌, ◌≤◌, ◌<◌, length, option_map, ap, arith}
use Rattle.std.proofs.lemmas.Result.{err_from_is_err_and}
use Rattle.bit_space.specs.Bits.{bits_of}
use Rattle.bit_space.proofs.Digits.{length-bits_of}
use Rattle.fault_location.proofs.Searching.{read_ends}
use Rattle.fault_location.proofs.locate.read_site.Goals as goal

pub returns-in-Ok-clause-is : goal.returns-in-Ok-clause-is
returns-in-Ok-clause-is g c =
    λ bytes e.
    let whole = g.met.S.Space.whole c.args.space.now bytes e in
    let ends : c.args.inner.start + c.args.number.width ≤ length (bits_of bytes) =
    rw length-bits_of (omega (arith, whole, c.in-Ok.ensures.inside)) in
    (ends, c.in-Ok.ensures.ok.exact (bits_of bytes) (ap (option_map bits_of) e))

pub returns-in_ok-_fault-in-Err-clause-is : goal.returns-in_ok-_fault-in-Err-clause-is
returns-in_ok-_fault-in-Err-clause-is g c =
    λ bytes e.
    let whole = g.met.S.Space.whole c.args.space.now bytes e in
    let stopped = rw c.in_ok-_fault-in-Err.ensures at c.in-Err.ensures.err in
    let past : length (bits_of bytes) < c.args.inner.start + c.args.number.width =
    rw length-bits_of (omega (arith, whole, stopped.3)) in
    past

pub returns-in-Ok-clause-spends : goal.returns-in-Ok-clause-spends
returns-in-Ok-clause-spends g c = λ bytes e. omega (arith, c.in-Ok.ensures.steps)

pub returns-in_ok-_fault-in-Err-clause-spends : goal.returns-in_ok-_fault-in-Err-clause-spends
returns-in_ok-_fault-in-Err-clause-spends g c =
    λ bytes e.
    let stopped = rw c.in_ok-_fault-in-Err.ensures at c.in-Err.ensures.err in
    omega (arith, stopped.2)

pub returns-in_err-_fault-in-Err-clause-spends : goal.returns-in_err-_fault-in-Err-clause-spends
returns-in_err-_fault-in-Err-clause-spends g c =
    let p = err_from_is_err_and c.from_residual.result c.from_residual.ensures.1 in
    λ bytes e. rw (p.1, p.2) (read_ends _ _ (g.S.Space.view c.args.space.now) (g.S.Space.view c.read_digits.new.space)
    c.args.meter.now c.read_digits.new.meter c.in-Err.stop _ c.in_err-_fault-in-Err.ensures c.in-Err.ensures.err)
