use Rattle.std.proofs.Common.{ℕ, ◌+◌, ◌-◌, ◌*◌, ◌/◌, ◌%◌, ◌^◌, ◌<◌, ◌≤◌, sym, ◌∙◌, arith}
use Rattle.bit_space.proofs.Turned.{turn_value, turn_more, turn_all, little_number, within_64}
use Rattle.bit_space.proofs.Windows.{low_bits}
use Rattle.bit_space.proofs.number.turn.Goals as goal

next_fits : (v rest width counter : ℕ) → width ≤ 64 → counter < (width - 1) / 8 →
    v < 2 ^ (width - (width - 1) / 8 * 8 + 8 * counter) → v * 256 + rest % 256 < 2 ^ 64
next_fits v rest width counter h l i =
    within_64 (v * 256 + rest % 256) (width - (width - 1) / 8 * 8 + 8 * (counter + 1)) (omega arith)
    (turn_value v rest (width - (width - 1) / 8 * 8) counter i)

pub overflow_mul-turned : goal.overflow_mul-turned
overflow_mul-turned c =
    let h = next_fits c.loop.turned c.loop.rest c.args.width c.loop.counter c.requires.most c.loop-test.true
    c.loop.invariant.0 in
    omega (arith, h)

pub overflow_add-turned : goal.overflow_add-turned
overflow_add-turned c =
    let h = next_fits c.loop.turned c.loop.rest c.args.width c.loop.counter c.requires.most c.loop-test.true
    c.loop.invariant.0 in
    omega (arith, h)

pub loop-preserved : goal.loop-preserved
loop-preserved c = (
  turn_value c.loop.turned c.loop.rest _ c.loop.counter c.loop.invariant.0,
  turn_more _ c.loop.counter c.loop.rest c.loop.turned _ c.loop-test.true c.loop.invariant.1,
)

pub returns : goal.returns
returns c =
    let w : ℕ = c.args.width in
    let e = turn_all _ c.loop.counter c.loop.rest c.loop.turned _ c.loop-test.false c.loop.invariant.1 in
    let m = low_bits c.args.cut (w - (w - 1) / 8 * 8) 64 (omega (arith, c.requires.some, c.requires.most)) in
    e ∙ rw m (sym (little_number ((w - 1) / 8) (w - (w - 1) / 8 * 8) w c.args.cut (omega (arith, c.requires.some))
    (omega (arith, c.requires.some)) (omega (arith, c.requires.some)) c.requires.fits))
