use Rattle.std.proofs.Common.{ℕ, arith}
use Rattle.std.proofs.lemmas.List.{length-take, length-drop}
use Rattle.bit_space.proofs.Failures.{keeps_all}
use Rattle.bit_space.proofs.Pages.{filled_more}
use Rattle.bit_space.proofs.paged.Paged.read_across.Goals as goal

pub loop-done-preserved : goal.loop-done-preserved
loop-done-preserved g c =
    let l = c.read_part.auto.into in (
      keeps_all c.loop-done.invariant.0 c.in_ok-read_part.ensures.keeps,
      omega (arith, l, c.min-count.ensures, length-take {A = ℕ}, length-drop {A = ℕ}),
      filled_more c.args.at c.loop-done.done _ _ c.loop-done.into _ c.loop-done.invariant.0 c.loop-done.invariant.2
          (omega (arith, c.loop-done.auto.into)) l c.in_ok-read_part.ensures.bytes _
          (omega (arith, c.min-count.ensures, length-take {A = ℕ}, length-drop {A = ℕ})),
    )
