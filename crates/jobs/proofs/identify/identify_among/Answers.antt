use Rattle.std.proofs.Common.{Ok, subst}
use Rattle.jobs.specs.Due.{Holds}
use Rattle.jobs.specs.Files.{IdentifiesFrom}
use Rattle.jobs.specs.Jobs.{DueNamed}
use Rattle.jobs.specs.declared.file_run.FileForm.{FileForm}
use Rattle.jobs.specs.Asides.{TellsFiles}
use Rattle.jobs.specs.Explained.{AreUnfinished}
use Rattle.jobs.proofs.identify.identify_among.Goals as goal

pub returns-clause-holds : goal.returns-clause-holds
returns-clause-holds g c =
    let asked = c.args.asked.now in
    let Written : FileForm → Type 0 = λ form. Holds (DueNamed (g.P.Opener.gives c.args.opener.now) (record {
      start = asked.start;
      window = asked.window;
      spool = asked.spool;
      form = form;
      why = c.args.explains;
      runs = IdentifiesFrom c.args.formats.now asked.all c.args.form;
      explains = λ start file. AreUnfinished c.args.formats.now;
    }) asked.names) (g.O.Write.contents c.args.out.now) (g.O.Write.contents c.run_files.new.out) (Ok c.run_files.result)
    in
    subst Written c.of_answer.ensures c.run_files.ensures.holds

pub returns-clause-told : goal.returns-clause-told
returns-clause-told g c =
    let asked = c.args.asked.now in
    let Told : FileForm → Type 0 = λ form. TellsFiles (g.P.Opener.gives c.args.opener.now) (record {
      start = asked.start;
      window = asked.window;
      spool = asked.spool;
      form = form;
      why = c.args.explains;
      runs = IdentifiesFrom c.args.formats.now asked.all c.args.form;
      explains = λ start file. AreUnfinished c.args.formats.now;
    }) asked.names (g.A.Aside.told c.args.aside.now) (g.A.Aside.told c.run_files.new.aside) in
    subst Told c.of_answer.ensures c.run_files.ensures.told
