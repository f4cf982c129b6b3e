use Rattle.std.proofs.Common.{◌≡◌, string_bytes, take}
use Rattle.std.specs.Prelude.{IfSome}
use Rattle.jobs.specs.Asides.{TellsEach, TellsWord}
use Rattle.jobs.specs.Every.{IsReadyFor, every_of}
use Rattle.jobs.specs.Files.{AppendsFiles}
use Rattle.jobs.specs.Lines.{word_line}
use Rattle.jobs.proofs.many_files.run_words.Given as goal

abbrev pub invariant-loop-word : goal.invariant-loop-word
invariant-loop-word g l = record {
  ready : IfSome l.kept (IsReadyFor l.task.work);
  written : AppendsFiles (word_line (g.P.Opener.gives l.opener) (every_of l.task))
      (λ first. first ≡ take l.word-index l.words) (g.O.Write.contents l.initial.out) (g.O.Write.contents l.out)
      l.greatest;
  told : TellsEach (λ word. TellsWord (g.P.Opener.gives l.opener) (every_of l.task) (string_bytes word))
      (g.A.Aside.told l.initial.aside) (take l.word-index l.words) (g.A.Aside.told l.aside);
}
