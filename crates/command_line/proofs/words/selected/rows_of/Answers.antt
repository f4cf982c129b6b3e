use Rattle.std.proofs.Common.{ℕ, List, map, subst, sym}
use Rattle.command_line.specs.Misread.MisreadRows.{keys_wrong, mode_wrong}
use Rattle.command_line.specs.Selects.{HasKeys, HasRows}
use Rattle.command_line.proofs.Misreads.{passed}
use Rattle.command_line.proofs.words.selected.rows_of.Goals as goal

pub returns-in_err-check_mode-clause-misread : goal.returns-in_err-check_mode-clause-misread
returns-in_err-check_mode-clause-misread c =
    let Has : List ℕ → Type 0 = λ mode. HasRows mode c.flag_of-header.result in
    passed _ _ _ _ _ _ c.from_residual.ensures.1
    (λ wrong.
    mode_wrong c.flag_of-header.result c.flag_of-header.ensures (λ has. wrong (subst Has (sym c.word.ensures) has)))
    (λ never. never) c.in_err-check_mode.ensures.misread

pub returns-in_err-check_names-clause-misread : goal.returns-in_err-check_names-clause-misread
returns-in_err-check_names-clause-misread c =
    let Has : List ℕ → Type 0 = λ mode. HasKeys mode (map (λ word. word.now) c.args.words.now) in
    passed _ _ _ _ _ _ c.from_residual-in_err-check_names.ensures.1
    (λ wrong. keys_wrong (λ has. wrong (subst Has (sym c.word-2.ensures) has)))
    (λ never. never) c.in_err-check_names.ensures.misread
