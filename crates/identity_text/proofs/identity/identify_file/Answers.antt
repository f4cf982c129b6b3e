use Rattle.std.proofs.Common.{[], sym, subst}
use Rattle.identity_text.specs.Identities.{IdentifiesFile, answers, stops}
use Rattle.identity_text.proofs.identity.identify_file.Goals as goal

pub returns-in-Ok-clause-is : goal.returns-in-Ok-clause-is
returns-in-Ok-clause-is g c =
    answers c.in-Ok.field-0.fits.items c.in-Ok.ensures.ok (rw c.deref.ensures.value at c.write_answer.ensures)

pub returns-in-Err-clause-is : goal.returns-in-Err-clause-is
returns-in-Err-clause-is g c =
    subst (IdentifiesFile c.args.identity.formats.now c.args.identity.all c.args.identity.form c.args.start
    (g.S.Space.view c.args.space.now) (g.S.Space.view c.find.new.space) c.in-Err.ended c.clear.new.self.items)
    (sym c.clear-2.ensures.items)
    (subst (λ text. IdentifiesFile c.args.identity.formats.now c.args.identity.all c.args.identity.form c.args.start
    (g.S.Space.view c.args.space.now) (g.S.Space.view c.find.new.space) c.in-Err.ended text [])
    (sym c.clear.ensures.items) (stops c.in-Err.ensures.err))
