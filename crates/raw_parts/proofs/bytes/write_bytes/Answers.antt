-- `write_bytes`: each chunk follows those before it.
use Rattle.std.proofs.Common.{◌≡◌, ◌+◌, ◌≤◌, length, take, subst, arith}
use Rattle.std.proofs.lemmas.List.{length-take-le}
use Rattle.std.proofs.lemmas.Result.{err_from_is_err_and}
use Rattle.bit_space.proofs.Failures.{keeps_all}
use Rattle.raw_parts.specs.Copied.{Copies}
use Rattle.raw_parts.proofs.Copying.{more_copied, some_copied}
use Rattle.raw_parts.proofs.bytes.write_bytes.Goals as goal

pub returns-in_err-write_chunk-clause-err : goal.returns-in_err-write_chunk-clause-err
returns-in_err-write_chunk-clause-err g c =
    let p = err_from_is_err_and c.from_residual.result c.from_residual.ensures.1 in
    let l = c.loop-place in
    let few : c.min-count.result ≤ length l.chunk = omega (arith, c.min-count.ensures) in
    let size = length-take-le c.min-count.result l.chunk few in
    rw (p.1, p.2)
    (some_copied _ _ c.args.range.from l.place _ _ l.invariant.keeps l.invariant.starts l.invariant.copies _
    c.args.range.end (l.place + length (take c.min-count.result l.chunk)) _ _ c.write_chunk.ensures.keeps
    (omega (arith, size, c.min-count.ensures, l.invariant.within)) c.in_err-write_chunk.ensures.err)

pub loop-place-preserved : goal.loop-place-preserved
loop-place-preserved g c =
    let l = c.loop-place in
    let count = c.min-count.result in
    let few : count ≤ length l.chunk = omega (arith, c.min-count.ensures) in
    let size : length (take count l.chunk) ≡ count = length-take-le count l.chunk few in
    record {
      starts = omega (arith, l.invariant.starts);
      within = omega (arith, c.min-count.ensures, l.invariant.within);
      keeps = keeps_all l.invariant.keeps c.write_chunk.ensures.keeps;
      copies = more_copied _ _ c.args.range.from l.place _ _ l.invariant.keeps l.invariant.starts l.invariant.copies
          (l.place + count) _ (omega arith)
          (subst (λ n. Copies (g.S.Space.view l.space) l.place (l.place + n) (g.O.Write.contents l.out)
          (g.O.Write.contents c.write_chunk.new.out)) size c.in_ok-write_chunk.ensures.ok);
    }
