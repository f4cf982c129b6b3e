use Rattle.std.proofs.Common.{Ok, subst, sym}
use Rattle.std.proofs.KnownBytes.{Keeps-refl}
use Rattle.jobs.specs.Aims.{aim_of, of_mapping}
use Rattle.jobs.specs.Due.{Holds}
use Rattle.jobs.specs.Files.{MapsFrom}
use Rattle.jobs.specs.Jobs.{DueNamed, every_for, files_due, no_run_due}
use Rattle.jobs.specs.declared.ending.Ending.TheVariants.{Run}
use Rattle.jobs.specs.declared.file_run.FileForm.{FileForm}
use Rattle.jobs.proofs.Holding.{holds_more, if_not_some, no_text}
use Rattle.poke_batch.specs.RunsUnder.{lacks_part, lacks_type}
use Rattle.jobs.specs.Asides.{TellsFiles}
use Rattle.jobs.specs.Explained.{ExplainsFrom}
use Rattle.jobs.specs.Mapped.{Mapped}
use Rattle.jobs.proofs.FilesTold.{no_files_told}
use Rattle.jobs.proofs.each.map_each.Goals as goal

pub returns-in-Err-clause-holds : goal.returns-in-Err-clause-holds
returns-in-Err-clause-holds g c =
    no_text _ (Ok (Run c.in-Err.outcome)) _ _
    (no_run_due (lacks_type (rw (sym c.deref.ensures.value) c.in-Err.ensures.none)))
    (Keeps-refl _)

pub returns-in-Some-clause-holds : goal.returns-in-Some-clause-holds
returns-in-Some-clause-holds g c =
    no_text _ (Ok (Run c.in-Some.outcome)) _ _
    (no_run_due (lacks_part (rw (sym c.deref.ensures.value) c.in-Ok.ensures.asked) c.in-Some.ensures.some))
    (Keeps-refl _)

pub returns-clause-holds : goal.returns-clause-holds
returns-clause-holds g c =
    let gives = g.P.Opener.gives c.args.opener.now in
    let mapping = c.args.mapping in
    let pickle = c.args.pickle.now.bytes.items in
    let Written : FileForm → Type 0 = λ form. Holds (DueNamed gives (record {
      start = mapping.start;
      window = mapping.window;
      spool = mapping.spool;
      form = form;
      why = c.args.why.now.asked;
      runs = MapsFrom (record { pickle = pickle; aim = aim_of mapping; terms = mapping.terms.now });
      explains = ExplainsFrom (record { pickle = pickle; aim = aim_of mapping; terms = mapping.terms.now })
          c.args.why.now.asked;
    }) c.args.names.now) (g.O.Write.contents c.args.out.now) (g.O.Write.contents c.run_files.new.out)
    (Ok c.run_files.result) in
    holds_more (DueNamed gives (every_for c.args.why.now.asked (of_mapping mapping) pickle) c.args.names.now) _
    (Ok c.run_files.result) _ _
    (λ lines end due. files_due (rw (sym c.deref.ensures.value) c.in-Ok.ensures.asked)
    (if_not_some c.refuse_parts.result c.in_default.not-Some c.refuse_parts.ensures.none) due)
    (subst Written c.of.ensures c.run_files.ensures.holds)

pub returns-in-Err-clause-told : goal.returns-in-Err-clause-told
returns-in-Err-clause-told g c =
    no_files_told (g.P.Opener.gives c.args.opener.now)
    (every_for c.args.why.now.asked (of_mapping c.args.mapping) c.args.pickle.now.bytes.items) c.args.names.now _ _
    (Keeps-refl _)

pub returns-in-Some-clause-told : goal.returns-in-Some-clause-told
returns-in-Some-clause-told g c =
    no_files_told (g.P.Opener.gives c.args.opener.now)
    (every_for c.args.why.now.asked (of_mapping c.args.mapping) c.args.pickle.now.bytes.items) c.args.names.now _ _
    (Keeps-refl _)

pub returns-clause-told : goal.returns-clause-told
returns-clause-told g c =
    let gives = g.P.Opener.gives c.args.opener.now in
    let mapping = c.args.mapping in
    let mapped : Mapped =
    record { pickle = c.args.pickle.now.bytes.items; aim = aim_of mapping; terms = mapping.terms.now } in
    let Told : FileForm → Type 0 = λ form. TellsFiles gives (record {
      start = mapping.start;
      window = mapping.window;
      spool = mapping.spool;
      form = form;
      why = c.args.why.now.asked;
      runs = MapsFrom mapped;
      explains = ExplainsFrom mapped c.args.why.now.asked;
    }) c.args.names.now (g.A.Aside.told c.args.aside.now) (g.A.Aside.told c.run_files.new.aside) in
    subst Told c.of.ensures c.run_files.ensures.told
