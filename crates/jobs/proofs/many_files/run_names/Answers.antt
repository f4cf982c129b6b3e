use Rattle.std.proofs.Common.{Ok, refl, sym, subst}
use Rattle.std.proofs.KnownBytes.{Appends-nil, Keeps-refl}
use Rattle.jobs.specs.Asides.{TellsWords, no_list}
use Rattle.jobs.specs.Due.{whole}
use Rattle.jobs.specs.Every.{every_of}
use Rattle.jobs.specs.Files.{no_files}
use Rattle.jobs.specs.Given.{HoldsWords, files_ending}
use Rattle.jobs.specs.Jobs.{files_end}
use Rattle.jobs.specs.Lines.{first_names}
use Rattle.jobs.specs.Names.{none_listed}
use Rattle.jobs.proofs.EachWritten.{listed_otherwise}
use Rattle.jobs.proofs.FilesTold.{list_otherwise}
use Rattle.jobs.proofs.Holding.{holds_more}
use Rattle.jobs.proofs.many_files.run_names.Goals as goal

pub returns-in-Words-clause-holds : goal.returns-in-Words-clause-holds
returns-in-Words-clause-holds g c =
    rw (c.in-Words.is, c.ending_of.ensures)
    (subst (λ words. HoldsWords (g.P.Opener.gives c.args.opener.now) (every_of c.args.task) words
    (g.O.Write.contents c.args.out.now) (g.O.Write.contents c.run_words.new.out) c.run_words.result)
    c.as_slice.ensures.value c.run_words.ensures.holds)

pub returns-in-Some-clause-holds : goal.returns-in-Some-clause-holds
returns-in-Some-clause-holds g c =
    rw (c.in-EndedByZero.is, c.files_ending.ensures)
    (holds_more _ _ (Ok (files_ending c.run_list.result)) _ _
    (listed_otherwise (g.P.Opener.gives c.args.opener.now) (every_of c.args.task) _ _
    (λ bytes is. rw is (rw (sym c.deref.ensures) c.in-Some.ensures)))
    c.run_list.ensures.holds)

pub returns-in-None-clause-holds : goal.returns-in-None-clause-holds
returns-in-None-clause-holds g c =
    rw (c.in-EndedByZero.is, c.files_ending-in-None.ensures)
    (whole (files_end (first_names refl none_listed no_files)) (Appends-nil _))

pub returns-in-None-clause-told : goal.returns-in-None-clause-told
returns-in-None-clause-told g c = rw c.in-EndedByZero.is (no_list (Keeps-refl _))

pub returns-in-Words-clause-told : goal.returns-in-Words-clause-told
returns-in-Words-clause-told g c =
    rw c.in-Words.is
    (subst (λ words. TellsWords (g.P.Opener.gives c.args.opener.now) (every_of c.args.task) words
    (g.A.Aside.told c.args.aside.now) (g.A.Aside.told c.run_words.new.aside))
    c.as_slice.ensures.value c.run_words.ensures.told)

pub returns-in-Some-clause-told : goal.returns-in-Some-clause-told
returns-in-Some-clause-told g c =
    rw c.in-EndedByZero.is
    (list_otherwise (g.P.Opener.gives c.args.opener.now) (every_of c.args.task) _ _ _ _
    (λ bytes is. rw is (rw (sym c.deref.ensures) c.in-Some.ensures)) c.run_list.ensures.told)
