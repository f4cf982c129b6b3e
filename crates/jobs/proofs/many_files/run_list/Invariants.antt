use Rattle.std.proofs.Common.{◌<◌, vec_capacity}
use Rattle.std.specs.Prelude.{IfSome}
use Rattle.std.specs.Io.Buffered.{reader_remaining}
use Rattle.jobs.specs.Asides.{TellsNames}
use Rattle.jobs.specs.Every.{IsReadyFor, every_of}
use Rattle.jobs.specs.Files.{AppendsFiles, WritesName}
use Rattle.jobs.specs.Names.{ReadsNames}
use Rattle.jobs.proofs.many_files.run_list.Given as goal

abbrev pub invariant-loop : goal.invariant-loop
invariant-loop g l = record {
  ready : IfSome l.kept (IsReadyFor l.task.work);
  capacity : 4096 < vec_capacity l.name;
  written : AppendsFiles (WritesName (g.P.Opener.gives l.opener) (every_of l.task))
      (ReadsNames (reader_remaining g.L.Read.remaining l.initial.list) (reader_remaining g.L.Read.remaining l.list))
      (g.O.Write.contents l.initial.out) (g.O.Write.contents l.out) l.greatest;
  told : TellsNames (g.P.Opener.gives l.opener) (every_of l.task)
      (reader_remaining g.L.Read.remaining l.initial.list) (reader_remaining g.L.Read.remaining l.list)
      (g.A.Aside.told l.initial.aside) (g.A.Aside.told l.aside);
}
