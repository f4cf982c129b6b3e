use Rattle.std.proofs.Common.{◌≡◌, ℕ, ◌+◌, ◌*◌, ◌∙◌, subst, arith}
use Rattle.std.proofs.lemmas.Result.{on_ok_weaker}
use Rattle.bit_space.specs.Bits.{bits_of}
use Rattle.identification.specs.Fits.{FitsBefore}
use Rattle.identification.proofs.fits.try_format.Goals as goal

pub returns-clause-ok : goal.returns-clause-ok
returns-clause-ok g c formats bytes known there so_far =
    let next : 2 * c.args.place + 1 + 1 ≡ 2 * (c.args.place + 1) = omega arith in
    on_ok_weaker c.try_order-2.result
    (λ are. subst (λ (n : ℕ). FitsBefore formats c.args.start (bits_of bytes) n c.try_order-2.new.fits.items) next are)
    (c.try_order-2.ensures.ok formats bytes (c.try_order.ensures.keeps.bytes ∙ known) there
    (c.in_ok-try_order.ensures.ok formats bytes known there so_far))
