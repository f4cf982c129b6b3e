use Rattle.std.proofs.Common.{◌+◌, length, sym, ap, ◌∙◌, subst, arith}
use Rattle.std.proofs.lemmas.List.{length_push}
use Rattle.identification.specs.Prepared.{AreLines}
use Rattle.identification.proofs.Lines.{lines_more}
use Rattle.identification.proofs.prepare.lines_of.Goals as goal

pub loop-place-preserved : goal.loop-place-preserved
loop-place-preserved c =
    let added = c.in_ok-push_line.ensures.ok in
    record {
      count = ap length added ∙ length_push c.loop-place.lines.items c.in_ok-line.line
          ∙ ap (λ n. n + 1) c.loop-place.invariant.count;
      so_far = subst (AreLines c.args.list.now 0) (sym added)
          (lines_more c.args.list.now 0 c.loop-place.lines.items c.in_ok-line.line c.loop-place.place
          c.loop-place.invariant.so_far (omega (arith, c.loop-place.invariant.count)) c.in_ok-line.ensures.ok);
    }
