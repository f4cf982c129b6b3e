-- What standard output holds of a task.
use Rattle.std.proofs.Common.{ℕ, List, Option, Ok}
use Rattle.bit_space.specs.SpaceView.{SpaceView}
use Rattle.command_line.specs.declared.ask.Ask.{Ask}
use Rattle.command_line.specs.declared.terms.Terms.{Terms}
use Rattle.jobs.specs.Due.{Holds}
use Rattle.jobs.specs.Tasks.{DueIn, DueOf, IsTaskRun, run_due}
use Rattle.jobs.specs.declared.ending.Ending.TheVariants.{Run}
use Rattle.jobs.specs.declared.task.Task.{Task}
use Rattle.jobs.proofs.Holding.{holds_more}
use Rattle.poke_batch.specs.declared.type_run.TypeRun.{TypeRun}
use Rattle.run_parts.specs.declared.outcome.Outcome.{Outcome}

-- what is due of a run is due by its pickle
pub task_holds : (pickle : List ℕ) (ask : Ask) (terms : Terms) (task : Task) (file after : SpaceView) (run : TypeRun)
    (ended : Outcome) (out out' : Option (List ℕ))
    → Holds (DueOf pickle run task file after) out out' (Ok (Run ended)) → IsTaskRun pickle ask terms task run
    → Holds (DueIn pickle ask terms task file after) out out' (Ok (Run ended))
task_holds pickle ask terms task file after run ended out out' holds is =
    holds_more (DueOf pickle run task file after) (DueIn pickle ask terms task file after) (Ok (Run ended)) out out'
    (λ lines end due. run_due {run = run} is due) holds
