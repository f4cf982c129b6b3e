use Rattle.std.proofs.Common.{◌≡◌, ◌∙◌, Result, Err, sym, ap, subst}
use Rattle.std.proofs.lemmas.Result.{err_from_is_err_and}
use Rattle.command_line.specs.Paths.{steps_of}
use Rattle.command_line.specs.Patterns.{parts_of, IsPathOf}
use Rattle.command_line.proofs.PatternTexts.{path_from_pattern, pattern_from_path, no_path}
use Rattle.command_line.proofs.path.read_path.Goals as goal

still_err : {A B E : Type 0} (a b : E) → ◌≡◌ {A = Result A E} (Err a) (Err b) → ◌≡◌ {A = Result B E} (Err a) (Err b)
still_err a b e = let same : a ≡ b = cc in ap Err same

pub returns-in_err-read_pattern-clause-form : goal.returns-in_err-read_pattern-clause-form
returns-in_err-read_pattern-clause-form c = λ e steps h.
    let p = err_from_is_err_and c.from_residual.result c.from_residual.ensures.1 in
    c.in_err-read_pattern.ensures.form (still_err _ _ (ap Err (sym p.2) ∙ sym p.1 ∙ e)) _
    (pattern_from_path c.args.word.now steps h)

pub returns-in-Some-clause-ok : goal.returns-in-Some-clause-ok
returns-in-Some-clause-ok c =
    let parts = parts_of c.in_ok-read_pattern.field-0.steps.items in
    path_from_pattern c.args.word.now (steps_of c.in-Some.path.steps.items) parts
    (subst (IsPathOf parts) c.in-Some.is c.in_ok-path.ensures) c.in_ok-read_pattern.ensures.ok

pub returns-in-None-clause-form : goal.returns-in-None-clause-form
returns-in-None-clause-form c = λ e.
    let parts = parts_of c.in_ok-read_pattern.field-0.steps.items in
    no_path c.args.word.now parts c.in_ok-read_pattern.ensures.ok
    (subst (IsPathOf parts) c.in-None.is c.in_ok-path.ensures)
