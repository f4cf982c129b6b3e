use Rattle.std.proofs.Common.{sym, ◌∙◌}
use Rattle.identity_text.proofs.Answers.{none_in, some_in, none_written, line_written, cut_off}
use Rattle.identity_text.proofs.identity.write_answer.Goals as goal

pub returns-then-is_empty : goal.returns-then-is_empty
returns-then-is_empty c =
    none_written _ _ _ c.args.fits.now c.args.text.now.items
    (none_in c.args.fits.now (sym c.is_empty.ensures ∙ c.if-is_empty.true)) c.requires

pub returns-in-Ok : goal.returns-in-Ok
returns-in-Ok c =
    let made = rw (c.deref.ensures.value, c.requires) at c.in-Ok.ensures.ok in
    line_written _ _ _ c.args.fits.now c.put_answer.new.w.items
    (some_in c.args.fits.now (sym c.is_empty.ensures ∙ c.if-is_empty.false)) made

pub returns-in-Err : goal.returns-in-Err
returns-in-Err c = cut_off _ _ _ c.args.fits.now c.clear.new.self.items c.clear.ensures.items
