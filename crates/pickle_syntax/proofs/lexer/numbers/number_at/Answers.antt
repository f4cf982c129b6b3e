use Rattle.std.proofs.Common.{◌≡◌, ◌+◌, length, arith, take, subst, Result, ◌≤◌}
use Rattle.std.proofs.lemmas.Result.{IfOk-weaker}
use Rattle.pickle_syntax.specs.Bytes.{Gives, Fault}
use Rattle.pickle_syntax.specs.Numbers.{Read, number_of, value_after}
use Rattle.pickle_syntax.proofs.Numbers.{held, number_joins, number_long, number_room}
use Rattle.pickle_syntax.proofs.lexer.numbers.number_at.Goals as goal

pub returns-clause-value : goal.returns-clause-value
returns-clause-value c =
    let v = held (value_after c.base_of-base.result 0 (take c.run_len-len.result c.skip-digits.result.now))
    c.in-Some.value c.in-Some.ensures in
    let same = number_joins c.args.at c.args.bytes.now c.base_of-base.result c.start_of-start.result
    c.skip-digits.result.now c.skip-after.result.now c.run_len-len.result c.in-Some.value c.suffix_at-suffix.result
    c.byte_at.result c.base_of-base.ensures.value c.start_of-start.ensures.value c.skip-digits.ensures
    c.run_len-len.ensures.len c.skip-after.ensures c.suffix_at-suffix.ensures.value v c.byte_at.ensures.value in
    subst (λ (r : Result Read Fault). Gives number_of c.check_number.result r) same c.check_number.ensures.value

pub returns-clause-within : goal.returns-clause-within
returns-clause-within c =
    let long = number_long c.args.bytes.now c.skip-digits.result.now c.base_of-base.result c.start_of-start.result
    c.run_len-len.result c.skip-digits.ensures c.requires.digit c.start_of-start.ensures.none
    c.start_of-start.ensures.some c.run_len-len.ensures.moves in
    let room = number_room c.args.bytes.now c.skip-digits.result.now c.skip-after.result.now c.base_of-base.result
    c.start_of-start.result c.run_len-len.result c.suffix_at-suffix.result.len c.skip-digits.ensures
    c.run_len-len.ensures.within c.skip-after.ensures c.base_of-base.ensures.there c.start_of-start.ensures.none
    c.start_of-start.ensures.low c.suffix_at-suffix.ensures.within in
    IfOk-weaker c.check_number.result
    (λ f. f.len ≡ c.start_of-start.result + c.run_len-len.result + c.suffix_at-suffix.result.len) (λ f. (1 ≤ f.len)
    × (f.len ≤ length c.args.bytes.now)) (λ f e. (omega (arith, e, long), omega (arith, e, room)))
    c.check_number.ensures.len
