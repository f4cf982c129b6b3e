use Rattle.std.proofs.Common.{rules, ◌≡◌, Some}
use Rattle.std.specs.Prelude.{position, ◌==◌}
use Rattle.std.proofs.lemmas.List.{take_rest}
use Rattle.command_line.proofs.OffsetWords.{large_by_hash, large_by_magnitude, large_by_unit, large_where_none, word_where_some}
use Rattle.command_line.proofs.offset_word.offset_word.Goals as goal

pub returns-in_err-hash-clause-none : goal.returns-in_err-hash-clause-none
returns-in_err-hash-clause-none c = rw c.from_residual.ensures (large_by_hash c.args.word.now _ (search rules))

pub returns-in_err-magnitude-clause-none : goal.returns-in_err-magnitude-clause-none
returns-in_err-magnitude-clause-none c =
    rw c.from_residual-in_err-magnitude.ensures
    (large_by_magnitude c.args.word.now c.in_ok-hash.hash _ (search rules) c.in_err-magnitude.ensures)

pub returns-in_err-unit-clause-none : goal.returns-in_err-unit-clause-none
returns-in_err-unit-clause-none c =
    rw c.from_residual-in_err-unit.ensures
    (large_by_unit c.args.word.now c.in_ok-hash.hash _ (search rules) (rw take_rest at c.in_err-unit.ensures.none))

pub returns-clause-some : goal.returns-clause-some
returns-clause-some c =
    let at : position (λ byte. byte == 35) c.args.word.now ≡ Some c.in_ok-hash.hash = search rules in
    let unit = rw take_rest at c.in_ok-unit.ensures.some in
    word_where_some _ _ _ _ _ _ at c.in_ok-magnitude.ensures.0.0 c.in_ok-magnitude.ensures.1 unit c.checked_mul.ensures

pub returns-clause-none : goal.returns-clause-none
returns-clause-none c =
    let at : position (λ byte. byte == 35) c.args.word.now ≡ Some c.in_ok-hash.hash = search rules in
    let unit = rw take_rest at c.in_ok-unit.ensures.some in
    large_where_none _ _ _ _ _ _ at c.in_ok-magnitude.ensures.1 unit c.checked_mul.ensures
