use Rattle.std.proofs.Common.{rules, arith, ◌≡◌, ◌∙◌, ◌+◌, min, length}
use Rattle.std.proofs.lemmas.Result.{err_from_is_err_and}
use Rattle.run_parts.proofs.DumpLines.{no_line, Appends-nil, line_more, line_failed, lines_done}
use Rattle.run_parts.proofs.dump.put_lines.Goals as goal

pub loop-i-init : goal.loop-i-init
loop-i-init g c = (search rules, λ bytes e. rw no_line (Appends-nil _))

pub returns-in_err-put_line-clause-err : goal.returns-in_err-put_line-clause-err
returns-in_err-put_line-clause-err g c =
    let p = err_from_is_err_and c.from_residual.result c.from_residual.ensures.1 in
    rw p.1 (λ bytes e.
    let whole = g.met.S.Space.whole c.args.space.now bytes e in
    let short = g.met.S.Space.short c.args.space.now in
    let end : c.min-end.result ≡ min (c.args.from + c.args.size) (length bytes) = omega arith in
    let kept = c.loop-i.invariant.0.bytes in
    line_failed _ _ _ bytes c.args.from c.args.size c.loop-i.i c.min-end.result c.min-count.result
    c.div_ceil-lines.result end (omega arith) (omega arith) (omega arith) (c.loop-i.invariant.1 bytes e)
    (c.in_err-put_line.ensures.err bytes (kept ∙ e)))

pub loop-i-preserved : goal.loop-i-preserved
loop-i-preserved g c = (
  search rules,
  λ bytes e.
      let whole = g.met.S.Space.whole c.args.space.now bytes e in
      let short = g.met.S.Space.short c.args.space.now in
      let end : c.min-end.result ≡ min (c.args.from + c.args.size) (length bytes) = omega arith in
      let kept = c.loop-i.invariant.0.bytes in
      line_more _ _ _ bytes c.args.from c.args.size c.loop-i.i c.min-end.result c.min-count.result end (omega arith)
      (c.loop-i.invariant.1 bytes e) (c.in_ok-put_line.ensures.ok bytes (kept ∙ e)),
)

pub returns-clause-ok : goal.returns-clause-ok
returns-clause-ok g c = λ bytes e.
    let whole = g.met.S.Space.whole c.args.space.now bytes e in
    let short = g.met.S.Space.short c.args.space.now in
    let end : c.min-end.result ≡ min (c.args.from + c.args.size) (length bytes) = omega arith in
    lines_done _ _ bytes c.args.from c.args.size c.min-end.result c.div_ceil-lines.result c.loop-i.i end (omega arith)
    (omega arith) (c.loop-i.invariant.1 bytes e)
